-- The counts of a building with k, from those of the building without it.
-- Assumes nothing.
use mathlib.Core.Path.{◌≡◌, refl, sym, ◌∙◌, ap}
use mathlib.Core.Bool.{Bool, false, So}
use Prim.Native.Nat.{ℕ, ◌+◌, ◌≤◌, ◌<◌}
use native.Mathlib.Nat.{lt_irrefl}
use native.Mathlib.Omega.{arith}
use lib.Count.{ones}
use Rattle.sets.specs.Truth.{total}
use Rattle.sets.specs.Sets.{has, ◌∩◌, ◌∖◌, single, collect}
use Rattle.sets.proofs.Truth.{not-So}
use Rattle.sets.proofs.Order.{collect_iff, collect_lt, ∩-subset_left}
use Rattle.sets.proofs.Counts.{ones_without, ones-zero, ones-subset}
use Rattle.model.specs.Hierarchy.{Roles, candidate_count, permission_set, authorised_users, immediately_senior, immediate_juniors, direct_permissions, direct_members, building}
use Rattle.model.specs.Quality as model
use Rattle.model.proofs.Reading.{Ordered, immediate_iff, junior_iff}
use Rattle.model.proofs.Building.{stands_below, senior_lower, absent_juniors, absent_permissions, absent_members}
use Rattle.model.proofs.Changes.{struck_absent, juniors_same, permissions_same, members_same}
use Rattle.model.proofs.Restoring.{links_counted, permissions_counted, members_counted}
use Rattle.hierarchy.specs.Tables.{immediate_seniors}
use Rattle.quality.specs.declared.counts.Counts.{Counts}
use Rattle.quality.specs.Numbers.{counts_in}
use Rattle.edit_trials.specs.Trying.{over, role_counts, counted_in, Within, Corrected}
use Rattle.edit_trials.proofs.Sums.{came_losing, came_linked, over_within}

-- what a count is, from what it was, what goes and what comes
solve : (r b q a R' b' S' a' : ℕ) → r + b ≡ q + a → b ≡ b' → q ≡ S' → a ≡ a' → R' + b' ≡ S' + a' → r ≡ R'
solve r b q a R' b' S' a' h eb eq ea m = omega arith

module _ (ρ : Roles) (S : ℕ) (o : Ordered ρ S) (k : ℕ) (here : So (has S k)) where
  abbrev c : ℕ
  c = candidate_count ρ

  abbrev upper : ℕ → Bool
  upper i = has (immediate_juniors ρ S i) k

  abbrev seniors : ℕ
  seniors = collect c upper

  below : k < c
  below = stands_below ρ S o k here

  gone : So (has (S ∖ single k) k) → ⊥
  gone = struck_absent ρ S o k

  not_own : So (immediately_senior ρ S k k) → ⊥
  not_own h = lt_irrefl k (senior_lower ρ S o k k ((immediate_iff ρ S k k).0 h).0)

  is_senior : (i : ℕ) → So (has seniors i) → So (immediately_senior ρ S i k)
  is_senior i h = ((junior_iff ρ S i k).0 ((collect_iff c upper i).0 h).1).1

  no_senior : (i : ℕ) → i < c → (So (has seniors i) → ⊥) → So (immediately_senior ρ S i k) → ⊥
  no_senior i l d h = d ((collect_iff c upper i).1 (l, (junior_iff ρ S i k).1 (below, h)))

  no_junior : (j : ℕ) → j < c → (So (has (immediate_juniors ρ S k) j) → ⊥) → So (immediately_senior ρ S k j) → ⊥
  no_junior j l d h = d ((junior_iff ρ S k j).1 (l, h))

  out_above : has seniors k ≡ false
  out_above = not-So (has seniors k) (λ h. not_own (is_senior k h))

  out_below : has (immediate_juniors ρ S k) k ≡ false
  out_below = not-So (has (immediate_juniors ρ S k) k) (λ h. not_own ((junior_iff ρ S k k).0 h).1)

  pub links_sum : total (candidate_count ρ) (λ i. ones (immediate_juniors ρ S i))
      + over (candidate_count ρ) (immediate_seniors ρ S k) (λ i. ones (immediate_juniors ρ (S ∖ single k) i ∩ immediate_juniors ρ S k))
      ≡ total (candidate_count ρ) (λ i. ones (immediate_juniors ρ (S ∖ single k) i))
      + (ones (immediate_juniors ρ S k) + ones (immediate_seniors ρ S k))
  links_sum =
      came_linked c seniors k (ones (immediate_juniors ρ S k)) (λ i. ones (immediate_juniors ρ (S ∖ single k) i)) (λ i. ones (immediate_juniors ρ S i))
      (λ i. ones (immediate_juniors ρ (S ∖ single k) i ∩ immediate_juniors ρ S k)) below out_above (ap ones (absent_juniors ρ (S ∖ single k) k gone) ∙ ones-zero) refl
      (λ i l d h. ap ones (sym (juniors_same ρ S o k i d (no_senior i l h)))) (collect_lt c upper) (λ i l h. links_counted ρ S o k here i (is_senior i h))

  pub permissions_sum : total (candidate_count ρ) (λ i. ones (direct_permissions ρ S i))
      + over (candidate_count ρ) (immediate_seniors ρ S k) (λ i. ones (direct_permissions ρ (S ∖ single k) i ∩ permission_set ρ k))
      ≡ total (candidate_count ρ) (λ i. ones (direct_permissions ρ (S ∖ single k) i)) + ones (direct_permissions ρ S k)
  permissions_sum =
      came_losing c seniors k (ones (direct_permissions ρ S k)) (λ i. ones (direct_permissions ρ (S ∖ single k) i)) (λ i. ones (direct_permissions ρ S i))
      (λ i. ones (direct_permissions ρ (S ∖ single k) i ∩ permission_set ρ k)) below out_above (ap ones (absent_permissions ρ (S ∖ single k) k gone) ∙ ones-zero) refl
      (λ i l d h. ap ones (sym (permissions_same ρ S o k i d (no_senior i l h))))
      (λ i l h. permissions_counted ρ S o k here i ((immediate_iff ρ S i k).0 (is_senior i h)).0)

  pub members_sum : total (candidate_count ρ) (λ j. ones (direct_members ρ S j))
      + over (candidate_count ρ) (immediate_juniors ρ S k) (λ j. ones (direct_members ρ (S ∖ single k) j ∩ authorised_users ρ k))
      ≡ total (candidate_count ρ) (λ j. ones (direct_members ρ (S ∖ single k) j)) + ones (direct_members ρ S k)
  members_sum =
      came_losing c (immediate_juniors ρ S k) k (ones (direct_members ρ S k)) (λ j. ones (direct_members ρ (S ∖ single k) j)) (λ j. ones (direct_members ρ S j))
      (λ j. ones (direct_members ρ (S ∖ single k) j ∩ authorised_users ρ k)) below out_below (ap ones (absent_members ρ (S ∖ single k) k gone) ∙ ones-zero) refl
      (λ j l d h. ap ones (sym (members_same ρ S o k j d (no_junior j l h))))
      (λ j l h. members_counted ρ S o k here j ((immediate_iff ρ S k j).0 ((junior_iff ρ S k j).0 h).1).0)

  pub roles_sum : ones S ≡ ones (S ∖ single k) + 1
  roles_sum = let e = ones_without S k here in omega arith

-- what the rows without k lose to it
unfoldable pub taken_from : Roles → ℕ → ℕ → model.Counts
taken_from ρ S k =
    record {
      roles = 0;
      members = over (candidate_count ρ) (immediate_juniors ρ S k) (λ j. ones (direct_members ρ (S ∖ single k) j ∩ authorised_users ρ k));
      permissions =
          over (candidate_count ρ) (immediate_seniors ρ S k)
          (λ i. ones (direct_permissions ρ (S ∖ single k) i ∩ permission_set ρ k));
      links =
          over (candidate_count ρ) (immediate_seniors ρ S k)
          (λ i. ones (immediate_juniors ρ (S ∖ single k) i ∩ immediate_juniors ρ S k));
    }

module _ (ρ : Roles) (S k : ℕ) (q a : Counts) (eq : counts_in q ≡ model.counts ρ (S ∖ single k)) (ea : counts_in a ≡ taken_from ρ S k) where
  -- the counts with k
  pub came : Ordered ρ S → So (has S k) → (b r : Counts) → counts_in b ≡ counted_in ρ S k
      → Corrected q a b r
      → counts_in r ≡ model.counts ρ S
  unfolding counts_in model.counts model.counted building taken_from counted_in role_counts
  came o here b r eb h =
      let roles = solve r.roles a.roles q.roles b.roles (ones S) 0 (ones (S ∖ single k)) 1 h.roles (ap (λ (x : model.Counts). x.roles) ea) (ap (λ (x : model.Counts). x.roles) eq) (ap (λ (x : model.Counts). x.roles) eb) (let e = roles_sum ρ S o k here in omega arith) in
      let members = solve r.members a.members q.members b.members _ _ _ _ h.members (ap (λ (x : model.Counts). x.members) ea) (ap (λ (x : model.Counts). x.members) eq) (ap (λ (x : model.Counts). x.members) eb) (members_sum ρ S o k here) in
      let permissions = solve r.permissions a.permissions q.permissions b.permissions _ _ _ _ h.permissions (ap (λ (x : model.Counts). x.permissions) ea) (ap (λ (x : model.Counts). x.permissions) eq) (ap (λ (x : model.Counts). x.permissions) eb) (permissions_sum ρ S o k here) in
      let links = solve r.links a.links q.links b.links _ _ _ _ h.links (ap (λ (x : model.Counts). x.links) ea) (ap (λ (x : model.Counts). x.links) eq) (ap (λ (x : model.Counts). x.links) eb) (links_sum ρ S o k here) in
      λ i. record { roles = roles i; members = members i; permissions = permissions i; links = links i }

  -- a row loses no more than it has
  pub came_within : Within a q
  unfolding counts_in model.counts model.counted building taken_from
  came_within =
      let c = candidate_count ρ in
      let R = S ∖ single k in
      let field : (x y x' y' : ℕ) → x ≡ x' → y ≡ y' → x' ≤ y' → x ≤ y = λ x y x' y' ex ey l. omega arith in
      record {
        roles = field a.roles q.roles 0 (ones R) (ap (λ (x : model.Counts). x.roles) ea) (ap (λ (x : model.Counts). x.roles) eq) (omega arith);
        members = field a.members q.members _ _ (ap (λ (x : model.Counts). x.members) ea) (ap (λ (x : model.Counts). x.members) eq)
            (over_within c _ (λ j. ones (direct_members ρ R j)) (λ j. ones (direct_members ρ R j ∩ authorised_users ρ k)) (λ j l. fewer (direct_members ρ R j) (authorised_users ρ k)));
        permissions = field a.permissions q.permissions _ _ (ap (λ (x : model.Counts). x.permissions) ea) (ap (λ (x : model.Counts). x.permissions) eq)
            (over_within c _ (λ i. ones (direct_permissions ρ R i)) (λ i. ones (direct_permissions ρ R i ∩ permission_set ρ k)) (λ i l. fewer (direct_permissions ρ R i) (permission_set ρ k)));
        links = field a.links q.links _ _ (ap (λ (x : model.Counts). x.links) ea) (ap (λ (x : model.Counts). x.links) eq)
            (over_within c _ (λ i. ones (immediate_juniors ρ R i)) (λ i. ones (immediate_juniors ρ R i ∩ immediate_juniors ρ S k)) (λ i l. fewer (immediate_juniors ρ R i) (immediate_juniors ρ S k)));
      }
    where
      fewer : (x y : ℕ) → ones (x ∩ y) ≤ ones x
      fewer x y = ones-subset (x ∩ y) x (∩-subset_left x y)

-- the counts without k
module _ (ρ : Roles) (S k : ℕ) (o : Ordered ρ S) (here : So (has S k)) (q b a : Counts) (eq : counts_in q ≡ model.counts ρ S) (eb : counts_in b ≡ counted_in ρ S k)
    (ea : counts_in a ≡ taken_from ρ S k) where
  pub went : (r : Counts)
      → Corrected q b a r
      → counts_in r ≡ model.counts ρ (S ∖ single k)
  unfolding counts_in model.counts model.counted building taken_from counted_in role_counts
  went r h =
      let roles = solve r.roles b.roles q.roles a.roles (ones (S ∖ single k)) 1 (ones S) 0 h.roles (ap (λ (x : model.Counts). x.roles) eb) (ap (λ (x : model.Counts). x.roles) eq) (ap (λ (x : model.Counts). x.roles) ea) (let e = roles_sum ρ S o k here in omega arith) in
      let members = solve r.members b.members q.members a.members _ _ _ _ h.members (ap (λ (x : model.Counts). x.members) eb) (ap (λ (x : model.Counts). x.members) eq) (ap (λ (x : model.Counts). x.members) ea) (sym (members_sum ρ S o k here)) in
      let permissions = solve r.permissions b.permissions q.permissions a.permissions _ _ _ _ h.permissions (ap (λ (x : model.Counts). x.permissions) eb) (ap (λ (x : model.Counts). x.permissions) eq) (ap (λ (x : model.Counts). x.permissions) ea) (sym (permissions_sum ρ S o k here)) in
      let links = solve r.links b.links q.links a.links _ _ _ _ h.links (ap (λ (x : model.Counts). x.links) eb) (ap (λ (x : model.Counts). x.links) eq) (ap (λ (x : model.Counts). x.links) ea) (sym (links_sum ρ S o k here)) in
      λ i. record { roles = roles i; members = members i; permissions = permissions i; links = links i }

  -- what k has is no more than what there is, since the rows without k lose to it no more than they have
  pub went_within : Within b q
  unfolding counts_in model.counts model.counted building taken_from counted_in role_counts
  went_within =
      let c = candidate_count ρ in
      let R = S ∖ single k in
      let left : Counts = record { roles = ones R; members = total c (λ j. ones (direct_members ρ R j)); permissions = total c (λ i. ones (direct_permissions ρ R i)); links = total c (λ i. ones (immediate_juniors ρ R i)) } in
      let w = came_within ρ S k left a refl ea in
      record {
        roles = part b.roles q.roles a.roles 1 (ones S) 0 (ones R) (ap (λ (x : model.Counts). x.roles) eb) (ap (λ (x : model.Counts). x.roles) eq) (ap (λ (x : model.Counts). x.roles) ea) (let e = roles_sum ρ S o k here in omega arith) w.roles;
        members = part b.members q.members a.members _ _ _ _ (ap (λ (x : model.Counts). x.members) eb) (ap (λ (x : model.Counts). x.members) eq) (ap (λ (x : model.Counts). x.members) ea) (members_sum ρ S o k here) w.members;
        permissions = part b.permissions q.permissions a.permissions _ _ _ _ (ap (λ (x : model.Counts). x.permissions) eb) (ap (λ (x : model.Counts). x.permissions) eq) (ap (λ (x : model.Counts). x.permissions) ea) (permissions_sum ρ S o k here) w.permissions;
        links = part b.links q.links a.links _ _ _ _ (ap (λ (x : model.Counts). x.links) eb) (ap (λ (x : model.Counts). x.links) eq) (ap (λ (x : model.Counts). x.links) ea) (links_sum ρ S o k here) w.links;
      }
    where
      part : (b q a b' S' a' R' : ℕ) → b ≡ b' → q ≡ S' → a ≡ a' → S' + a' ≡ R' + b' → a ≤ R' → b ≤ q
      part b q a b' S' a' R' eb eq ea m l = omega arith
