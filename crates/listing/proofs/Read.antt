-- What a text's refusal and its mined record mean for the listing. Only 2, 3, 4 and 10 are printed as refusals.
-- Assumes nothing.
use mathlib.Core.Path.{◌≡◌, refl, sym, ◌∙◌, ap}
use mathlib.Core.Bool.{So}
use mathlib.Core.Logic.{◌⊎◌, ⊎_elim}
use mathlib.Core.List.{List}
use Prim.Native.Nat.{ℕ}
use lib.Dec.{eqb, leb}
use lib.ListN.{length, replicate}
use Rattle.sets.specs.Truth.{isnt, when◌then◌else◌}
use Rattle.sets.proofs.Truth.{by_test, not-So, So-not, eqb_iff, when-true, when-false}
use Rattle.model.specs.Lists.{rows_at}
use Rattle.model.specs.Candidates.{candidates}
use Rattle.model.specs.State.{State, fresh}
use Rattle.model.specs.Record.{built, state_of, sound}
use Rattle.model.proofs.Record.{state_back}
use Rattle.model.proofs.Steps.{Fit, after_fit}
use Rattle.model.proofs.Claim.{sound_fit, fit_sound}
use Rattle.text_lines.proofs.Forms.{header_cases}
use Rattle.text_crew.specs.Reader.{ReadReply, Read, read_refused, after_rows, after_header, rows_to, read_crew, laid, buffer_length, longest_text}
use Rattle.text_lines.specs.Lines.{header_at}
use Rattle.text_crew.specs.Reader.Read.{rows_read, bad_form, bad_bit}
use Rattle.refusals.specs.declared.Refusal.{Refusal}
use Rattle.refusals.specs.Numbers.{number_of}
use Rattle.refusals.proofs.Numbers.{some_number}
use Rattle.text_mine.specs.Mined.{text_refusal, text_state}
use Rattle.text_mine.proofs.Mined.{by_refusal}
use Rattle.listing.specs.Listing.{Printable, settled, roles_text, listed, listing}
use Rattle.text_roles.specs.Lines.{refused_text}

-- ---- the text

module _ (text : List ℕ) where
  listing_is : listing text ≡ (when eqb (text_refusal text) 0 then roles_text (settled (text_state text)) else refused_text (text_refusal text))
  unfolding listing listed text_state
  listing_is = by_refusal text (roles_text (settled (text_state text))) refused_text

  -- refused
  pub text_refused : (r : Refusal) → number_of r ≡ text_refusal text → refused_text (number_of r) ≡ listing text
  text_refused r p =
      ap refused_text p
      ∙ sym (listing_is ∙ when-false (eqb (text_refusal text) 0) _ (refused_text (text_refusal text)) (not-So (eqb (text_refusal text) 0) (λ h. some_number r (p ∙ (eqb_iff (text_refusal text) 0).0 h))))

  -- mined, eliminated and reviewed: the record holds the settled state
  module _ (ws ws2 : List ℕ) (h : So (sound ws)) (e : ws2 ≡ built (settled (state_of ws))) where
    settled_fit : Fit (settled (state_of ws))
    unfolding settled
    settled_fit = after_fit (state_of ws) _ (sound_fit ws h)

    pub settled_sound : So (sound ws2)
    settled_sound = rw e (fit_sound (settled (state_of ws)) settled_fit)

    pub text_listed : 0 ≡ text_refusal text → state_of ws ≡ text_state text → roles_text (state_of ws2) ≡ listing text
    text_listed z p =
        ap (λ (x : List ℕ). roles_text (state_of x)) e ∙ ap roles_text (state_back (settled (state_of ws)) settled_fit.limits)
        ∙ ap (λ (x : State). roles_text (settled x)) p
        ∙ sym (listing_is ∙ when-true (eqb (text_refusal text) 0) (roles_text (settled (text_state text))) _ ((eqb_iff (text_refusal text) 0).1 (sym z)))

-- ---- what can be printed

rows_code : (text buffer : List ℕ) (n m : ℕ) (o : Read) → ((after_rows text buffer n m o).code ≡ 0) ⊎ Printable (after_rows text buffer n m o).code
unfolding after_rows read_refused
rows_code text buffer n m (rows_read rs at) =
    let t = eqb at (length text) in
    let yes : ReadReply = record { code = 0; n = n; m = m; words = laid rs } in
    by_test t (λ y. ◌⊎◌.inl (ap (λ (x : ReadReply). x.code) (when-true t yes (read_refused 10 buffer) y)))
    (λ y. ◌⊎◌.inr (◌⊎◌.inr (◌⊎◌.inr (◌⊎◌.inr (ap (λ (x : ReadReply). x.code) (when-false t yes (read_refused 10 buffer) y))))))
rows_code text buffer n m bad_form = ◌⊎◌.inr (◌⊎◌.inr (◌⊎◌.inr (◌⊎◌.inr (refl))))
rows_code text buffer n m bad_bit = ◌⊎◌.inr (◌⊎◌.inr (◌⊎◌.inl refl))

header_code : (text buffer : List ℕ)
    → ((after_header text buffer (header_at text)).code ≡ 0) ⊎ Printable (after_header text buffer (header_at text)).code
unfolding after_header read_refused
header_code text buffer =
    header_cases text (λ h e. rw e (rows_code text buffer h.n h.m (rows_to text h.m h.next h.n)))
    (λ e. rw e (◌⊎◌.inr (◌⊎◌.inr (◌⊎◌.inr (◌⊎◌.inr (refl))))))
    (λ e. rw e (◌⊎◌.inr (◌⊎◌.inl refl)))

reader_code : (text buffer : List ℕ) → ((read_crew text buffer).code ≡ 0) ⊎ Printable (read_crew text buffer).code
unfolding read_crew read_refused
reader_code text buffer =
    let t1 = isnt (eqb (length buffer) buffer_length) in
    let t2 = isnt (leb (length text) longest_text) in
    let rest = after_header text buffer (header_at text) in
    let inner = when t2 then read_refused 10 buffer else rest in
    by_test t1 (λ y. ◌⊎◌.inr (◌⊎◌.inr (◌⊎◌.inl (ap (λ (x : ReadReply). x.code) (when-true t1 (read_refused 3 buffer) inner y)))))
    (λ y.
    by_test t2 (λ z. ◌⊎◌.inr (◌⊎◌.inr (◌⊎◌.inr (◌⊎◌.inr (ap (λ (x : ReadReply). x.code) (when-false t1 (read_refused 3 buffer) inner y ∙ when-true t2 (read_refused 10 buffer) rest z))))))
    (λ z. rw (when-false t1 (read_refused 3 buffer) inner y ∙ when-false t2 (read_refused 10 buffer) rest z) (header_code text buffer)))

listed_forms : (n m : ℕ) (rs : List ℕ) → ((k : ℕ) × Printable k × (listed n m rs ≡ refused_text k)) ⊎ ((st : State) × (listed n m rs ≡ roles_text (settled st)))
unfolding listed
listed_forms n m rs =
    let t = leb (length (candidates rs)) 128 in
    by_test t (λ y. ◌⊎◌.inr (fresh n m rs, when-true t (roles_text (settled (fresh n m rs))) (refused_text 4) y))
    (λ y. ◌⊎◌.inl (4, ◌⊎◌.inr (◌⊎◌.inr (◌⊎◌.inl refl)), when-false t (roles_text (settled (fresh n m rs))) (refused_text 4) y))

-- a listing is the roles of a settled state, or a refusal with 2, 3, 4 or 10
pub listing_forms : (text : List ℕ)
    → ((k : ℕ) × Printable k × (listing text ≡ refused_text k)) ⊎ ((st : State) × (listing text ≡ roles_text (settled st)))
unfolding listing
listing_forms text =
    let a = read_crew text (replicate 512 0) in
    let t = eqb a.code 0 in
    let yes = listed a.n a.m (rows_at a.n a.words 0) in
    by_test t (λ y. rw (when-true t yes (refused_text a.code) y) (listed_forms a.n a.m (rows_at a.n a.words 0)))
    (λ y.
    ⊎_elim (λ (z : a.code ≡ 0). absurd (So-not y ((eqb_iff a.code 0).1 z)))
    (λ z. ◌⊎◌.inl (a.code, z, when-false t yes (refused_text a.code) y)) (reader_code text (replicate 512 0)))
