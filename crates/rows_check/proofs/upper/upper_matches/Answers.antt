-- Both entries are those of the building.
-- Assumes nothing.
use mathlib.Core.Path.{sym, ◌∙◌}
use Rattle.sets.proofs.Truth.{eqb_iff}
use Rattle.rows.proofs.Rewriting.{upper_computed}
use Rattle.sets.proofs.Telling.{no_of, unequal, equal}
use Rattle.rows_check.proofs.Rows.{juniors_computed}
use Rattle.sets.proofs.Held.{equal_sets}
use Rattle.sets.proofs.Written.{words}
use Rattle.rows_check.proofs.upper.upper_matches.Goals as goal

pub returns-then-ne : goal.returns-then-ne
returns-then-ne c = λ st to h.
    let e = juniors_computed st _ _ to _ _ c.juniors_of-juniors.ensures in
    no_of (λ u. unequal _ _ _ (equal_sets c.load.result c.juniors_of-juniors.result (search words) (search words)) (sym c.ne.ensures ∙ c.if-ne.true) (c.load.ensures ∙ u.juniors ∙ sym e))

pub returns : goal.returns
returns c = λ st to h.
    let e = upper_computed st _ _ _ to _ _ _ c.juniors_of-juniors.ensures (rw c.candidate_sets.ensures at c.permissions_of-permissions.ensures) h in
    let told = c.eq.ensures ∙ equal_sets c.load-2.result c.permissions_of-permissions.result (search words) (search words) in
    let same = equal _ _ _ (equal_sets c.load.result c.juniors_of-juniors.result (search words) (search words)) (sym c.ne.ensures ∙ c.if-ne.false) in (
      λ t. record {
        juniors = sym c.load.ensures ∙ same ∙ e.0;
        permissions = sym c.load-2.ensures ∙ (eqb_iff _ _).0 (sym told ∙ t) ∙ e.1;
      },
      λ u. told ∙ (eqb_iff _ _).1 (c.load-2.ensures ∙ u.permissions ∙ sym e.1),
    )
