-- A strike that is not written: the counts without k, from what the record holds with it.
-- Assumes nothing.
use mathlib.Core.Path.{◌≡◌, ◌∙◌, ap, ap₂}
use mathlib.Core.Bool.{Bool, So}
use mathlib.Core.Logic.{◌↔◌}
use mathlib.Core.List.{List}
use Prim.Native.Nat.{ℕ, ◌+◌, ◌*◌, ◌^◌, ◌≤◌, ◌<◌}
use native.Mathlib.Nat.{lt_of_lt_of_le}
use lib.Count.{ones}
use lib.ListN.{take, drop}
use Rattle.sets.specs.Truth.{◌and◌}
use Rattle.sets.specs.Sets.{has, ◌∩◌, ◌∖◌, single}
use Rattle.sets.proofs.Truth.{same_test, none_same}
use Rattle.sets.proofs.Members.{same_set, item_below}
use Rattle.sets.proofs.Order.{collect_iff, collect_same, ∖-iff, ∖-lt, collect_lt}
use Rattle.model.specs.Lists.{set_at}
use Rattle.model.specs.Hierarchy.{Roles, candidate_count, permission_set, authorised_users, immediately_senior, immediate_juniors, direct_permissions, direct_members}
use Rattle.model.specs.Indexes.{lower}
use Rattle.model.specs.Quality as model
use Rattle.model.specs.Record.{sets_start, permissions_start, members_start, juniors_start}
use Rattle.model.specs.State.{State, roles_of}
use Rattle.model.proofs.Reading.{Ordered, junior_iff, permission_iff, member_iff}
use Rattle.model.proofs.Building.{stands_below}
use Rattle.model.proofs.Record.{immediate_juniors_lt}
use Rattle.model.proofs.Steps.{limits_ordered}
use Rattle.tables.specs.Tables.{HoldsSets}
use Rattle.hierarchy.specs.Tables.{less_all, immediate_seniors}
use Rattle.hierarchy.proofs.Sieving.{less_all_iff}
use Rattle.indexes.specs.declared.index.Index.{Index}
use Rattle.indexes.proofs.Sources.{narrow}
use Rattle.rows.specs.Linked.{Ready}
use Rattle.rows.proofs.Linking.{seniors_told}
use Rattle.edit_rows.specs.Neighbours.{Neighbours}
use Rattle.edit_rows.proofs.Changing.{sets_read, juniors_read, members_read, permissions_read}
use Rattle.quality.specs.declared.counts.Counts.{Counts}
use Rattle.quality.specs.Numbers.{counts_in, Few}
use Rattle.edit_trials.specs.Trying.{role_counts, counted_in, other_seniors, other_juniors, taken_over, taken_at, Within, Corrected}
use Rattle.edit_trials.proofs.Sums.{over_read}
use Rattle.edit_trials.proofs.Striking.{permission_taken, link_taken, member_taken}
use Rattle.edit_trials.proofs.Coming.{taken_from, went, went_within}
use Rattle.edit_trials.proofs.Counting.{role_counted, exact_few}

-- what a table leaves of a set, told item by item
left_over : (w c : ℕ) (table : List ℕ) (f : ℕ → ℕ) (own js g : ℕ) → c ≤ 128 → HoldsSets w c f table → js < 2 ^ c → ((p : ℕ) → So (has own p) → p < 64 * w)
    → ((p : ℕ) → So (has g p) ↔ (So (has own p) × ((x : ℕ) → So (has js x) → So (has (f x) p) → ⊥))) → less_all w table own js ≡ g
left_over w c table f own js g few held below small told =
    same_set (less_all w table own js) g
    (λ p t.
    let a = (less_all_iff w table own js p).0 t in
    (told p).1 (a.1, λ x y q. let l = item_below c js x below y in a.2 x (lt_of_lt_of_le l few) y (rw (held x l) q)))
    (λ p t.
    let a = (told p).0 t in
    (less_all_iff w table own js p).1 (small p a.0, a.0, λ x l y q. a.1 x y (rw (held x (item_below c js x below y)) at q)))

-- only roles below 128 are asked for
less_same : (w : ℕ) (table : List ℕ) (own js js' : ℕ) → ((x : ℕ) → x < 128 → has js x ≡ has js' x) → less_all w table own js ≡ less_all w table own js'
unfolding less_all
less_same w table own js js' same =
    collect_same (64 * w) _ _
    (λ p l.
    ap (λ (t : Bool). has own p and t)
    (none_same 128 (λ j. has js j and has (set_at w table (w * j)) p) (λ j. has js' j and has (set_at w table (w * j)) p)
    (λ j lj. ap (λ (t : Bool). t and has (set_at w table (w * j)) p) (same j lj))))

module _ (st : State) (ws : List ℕ) (index : Index) (seniors : List ℕ) (ready : Ready st ws index seniors) (k : ℕ) (stands : So (has st.standing k)) where
  abbrev ρ : Roles
  ρ = roles_of st

  abbrev Q : ℕ
  Q = st.standing

  abbrev c : ℕ
  c = candidate_count (roles_of st)

  ordered : Ordered (roles_of st) st.standing
  ordered = limits_ordered st ready.limits

  few : candidate_count (roles_of st) ≤ 128
  few = ready.limits.candidates_most

  known : k < candidate_count (roles_of st)
  known = stands_below ρ Q ordered k stands

  small : (i : ℕ) → i < candidate_count (roles_of st) → i < 128
  small i l = lt_of_lt_of_le l few

  juniors : (i : ℕ) → i < 128 → set_at 2 ws (juniors_start + 2 * i) ≡ immediate_juniors (roles_of st) st.standing i
  juniors = juniors_read st ready.limits ws ready.afresh

  pub own_members : set_at 2 ws (members_start + 2 * k) ≡ direct_members (roles_of st) st.standing k
  own_members = members_read st ready.limits ws ready.afresh k (small k known)

  pub own_permissions : set_at 4 ws (permissions_start + 4 * k) ≡ direct_permissions (roles_of st) st.standing k
  own_permissions = permissions_read st ready.limits ws ready.afresh k (small k known)

  -- ---- the neighbours' other neighbours

  juniors_but : (i : ℕ) → i < candidate_count (roles_of st) → other_juniors ws k i ≡ immediate_juniors (roles_of st) st.standing i ∖ single k
  unfolding other_juniors
  juniors_but i l = ap (λ (x : ℕ). x ∖ single k) (juniors i (small i l))

  seniors_but : (table : List ℕ) (own j : ℕ) → j < candidate_count (roles_of st)
      → less_all 2 table own (other_seniors seniors k j) ≡ less_all 2 table own (immediate_seniors (roles_of st) st.standing j ∖ single k)
  unfolding other_seniors
  seniors_but table own j l =
      let told = seniors_told ρ Q few ready.limits.standing_below ws juniors seniors ready.linked j in
      let near = set_at 2 seniors (2 * j) in
      let above = immediate_seniors ρ Q j in
      less_same 2 table own (near ∖ single k) (above ∖ single k)
      (λ x lx.
      let e = told x (small j l) lx in
      same_test (has (near ∖ single k) x) (has (above ∖ single k) x) (λ t. let a = (∖-iff near (single k) x).0 t in (∖-iff above (single k) x).1 (rw e at a.0, a.1))
      (λ t. let a = (∖-iff above (single k) x).0 t in (∖-iff near (single k) x).1 (rw e a.0, a.1)))

  -- ---- what each neighbour takes over

  module _ (i : ℕ) (l : i < candidate_count (roles_of st)) (h : So (immediately_senior (roles_of st) st.standing i k)) where
    others_below : immediate_juniors (roles_of st) st.standing i ∖ single k < 2 ^ candidate_count (roles_of st)
    others_below = ∖-lt c (immediate_juniors ρ Q i) (single k) (immediate_juniors_lt ρ Q i)

    permissions_row : less_all 4 (take 512 (drop sets_start ws)) (set_at 4 ws (permissions_start + 4 * k)) (other_juniors ws k i)
        ≡ direct_permissions (roles_of st) (st.standing ∖ single k) i ∩ permission_set (roles_of st) k
    permissions_row =
        ap₂ (less_all 4 (take 512 (drop sets_start ws))) own_permissions (juniors_but i l)
        ∙ left_over 4 c (take 512 (drop sets_start ws)) (permission_set ρ) (direct_permissions ρ Q k) (immediate_juniors ρ Q i ∖ single k) (direct_permissions ρ (Q ∖ single k) i ∩ permission_set ρ k)
        few (sets_read st ready.limits ws ready.afresh) others_below
        (λ p t. lt_of_lt_of_le ((permission_iff ρ Q k p).0 t).0 (narrow st ready.limits).few_permissions) (permission_taken ρ Q ordered k stands i h)

    links_row : less_all 2 index.lower (immediate_juniors (roles_of st) st.standing k) (other_juniors ws k i)
        ≡ immediate_juniors (roles_of st) (st.standing ∖ single k) i ∩ immediate_juniors (roles_of st) st.standing k
    links_row =
        ap (less_all 2 index.lower (immediate_juniors ρ Q k)) (juniors_but i l)
        ∙ left_over 2 c index.lower (lower ρ) (immediate_juniors ρ Q k) (immediate_juniors ρ Q i ∖ single k) (immediate_juniors ρ (Q ∖ single k) i ∩ immediate_juniors ρ Q k)
        few ready.indexed.lower_roles others_below (λ j t. small j ((junior_iff ρ Q k j).0 t).0) (link_taken ρ Q ordered k stands i h)

  members_row : (j : ℕ) → j < candidate_count (roles_of st) → So (immediately_senior (roles_of st) st.standing k j)
      → less_all 2 index.users (set_at 2 ws (members_start + 2 * k)) (other_seniors seniors k j)
      ≡ direct_members (roles_of st) (st.standing ∖ single k) j ∩ authorised_users (roles_of st) k
  members_row j l h =
      ap (λ (x : ℕ). less_all 2 index.users x (other_seniors seniors k j)) own_members ∙ seniors_but index.users (direct_members ρ Q k) j l
      ∙ left_over 2 c index.users (authorised_users ρ) (direct_members ρ Q k) (immediate_seniors ρ Q j ∖ single k) (direct_members ρ (Q ∖ single k) j ∩ authorised_users ρ k)
      few ready.indexed.role_users (∖-lt c (immediate_seniors ρ Q j) (single k) (collect_lt c (λ i. has (immediate_juniors ρ Q i) j)))
      (λ u t. lt_of_lt_of_le ((member_iff ρ Q k u).0 t).0 (narrow st ready.limits).few_users) (member_taken ρ Q ordered k stands j h)

  -- ---- and all of them together

  module _ (s t : ℕ) (near : Neighbours (roles_of st) st.standing k s t) where
    taken_read : taken_at ws index seniors k s t ≡ taken_from (roles_of st) st.standing k
    unfolding taken_at taken_over taken_from
    taken_read =
        let seniors-in : (i : ℕ) → So (has (immediate_seniors ρ Q k) i) → So (immediately_senior ρ Q i k) =
        λ i x. ((junior_iff ρ Q i k).0 ((collect_iff c (λ i. has (immediate_juniors ρ Q i) k) i).0 x).1).1 in
        let seniors-below = collect_lt c (λ i. has (immediate_juniors ρ Q i) k) in
        let members = over_read c t (immediate_juniors ρ Q k) _ (λ j. ones (direct_members ρ (Q ∖ single k) j ∩ authorised_users ρ k)) few near.juniors (immediate_juniors_lt ρ Q k)
        (λ j l x. ap ones (members_row j l ((junior_iff ρ Q k j).0 x).1)) in
        let permissions = over_read c s (immediate_seniors ρ Q k) _ (λ i. ones (direct_permissions ρ (Q ∖ single k) i ∩ permission_set ρ k)) few near.seniors seniors-below
        (λ i l x. ap ones (permissions_row i l (seniors-in i x))) in
        let links = over_read c s (immediate_seniors ρ Q k) _ (λ i. ones (immediate_juniors ρ (Q ∖ single k) i ∩ immediate_juniors ρ Q k)) few near.seniors seniors-below
        (λ i l x. ap (λ (y : ℕ). ones (less_all 2 index.lower y (other_juniors ws k i))) near.juniors ∙ ap ones (links_row i l (seniors-in i x))) in
        λ i. record { roles = 0; members = members i; permissions = permissions i; links = links i }

    module _ (q b a : Counts) (us ps : ℕ) (eq : counts_in q ≡ model.counts (roles_of st) st.standing) (eu : us ≡ set_at 2 ws (members_start + 2 * k))
        (ep : ps ≡ set_at 4 ws (permissions_start + 4 * k)) (eb : counts_in b ≡ role_counts us ps s t) (ea : counts_in a ≡ taken_at ws index seniors k s t) where
      had : counts_in b ≡ counted_in (roles_of st) st.standing k
      had = eb ∙ role_counted ρ Q k us ps s t (eu ∙ own_members) (ep ∙ own_permissions) near

      pub struck_within : Few q × Within b q
      struck_within = (exact_few st ready.limits q eq, went_within ρ Q k ordered stands q b a eq had (ea ∙ taken_read))

      pub struck_exact : (r : Counts) → Corrected q b a r → counts_in r ≡ model.counts (roles_of st) (st.standing ∖ single k)
      struck_exact r h = went ρ Q k ordered stands q b a eq had (ea ∙ taken_read) r h
