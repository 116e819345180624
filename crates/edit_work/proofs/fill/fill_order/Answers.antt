-- Each table is filled from those before it.
-- Assumes nothing.
use Rattle.edit_work.proofs.Reaching.{up-and_down, sampled, first_found}
use Rattle.edit_work.proofs.fill.fill_order.Goals as goal

pub fill_further-requires : goal.fill_further-requires
fill_further-requires c = let ix = c.requires.indexed_for in
    let samples = c.find_samples-count.ensures in
    (ix.0, _, up-and_down _ _ _ c.fill_down.ensures.0 c.fill_columns.ensures.0 ix.0 ix.1 ix.2 ix.3.lower_roles, sampled _ _ _ samples.upper_bound c.fill_columns-2.ensures.0 ix.0 ix.1 (samples.samples_of ix.0 ix.1 ix.3))

pub returns : goal.returns
returns c = λ ρ ec em numbered ix held.
    let samples = c.find_samples-count.ensures in
    rw c.fill_further.ensures.kept
    (record {
      reach = up-and_down _ _ _ c.fill_down.ensures.0 c.fill_columns.ensures.0 ρ ec numbered ix.lower_roles;
      count = _;
      found = _;
      samples = sampled _ _ _ samples.upper_bound c.fill_columns-2.ensures.0 ρ ec (samples.samples_of ρ ec ix);
      beyond = c.fill_further.ensures.filled;
      first = first_found ρ _ _ _ numbered.few em (λ p l. held p (rw em l)) c.first_holders-work.ensures;
    })
