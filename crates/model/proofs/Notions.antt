-- What the words of a sound record say of its roles, in the paper's own words: the building, what can be struck, and the standard.
-- Assumes nothing.
use mathlib.Core.Path.{◌≡◌, ◌∙◌, ap}
use mathlib.Core.Bool.{false, So}
use mathlib.Core.Logic.Iff
use mathlib.Core.Logic.{◌↔◌}
use mathlib.Core.List.{List}
use Prim.Native.Nat.{ℕ, ◌<◌, ◌^◌}
use native.Mathlib.Nat.{lt_of_lt_of_le}
use lib.ListN.{get_or}
use lib.Pow.{pow_mono}
use Rattle.sets.specs.Sets.{has}
use Rattle.sets.proofs.Members.{item_below}
use Rattle.sets.proofs.Order.{subset_iff, proper_iff}
use Rattle.model.specs.Lists.{rows_at}
use Rattle.model.specs.Candidates.{candidates}
use Rattle.model.specs.Hierarchy.{Roles, candidate_count, permission_set, authorised_users, senior, building}
use Rattle.model.specs.Chains.{link, HasMember, HasPermission}
use Rattle.model.specs.Coverage.{grant, covers, strikable}
use Rattle.model.specs.State.{State, roles_of}
use Rattle.model.specs.Record.{crew_start, built, state_of, role_rows_of, sound, Limits}
use Rattle.model.specs.Notions.{crew_row, role_set, Stands, Serves, Covers, Spared, Bare, Senior, ImmediatelySenior, BuiltRows, Standard}
use Rattle.model.proofs.Growing.{listed_at}
use Rattle.model.proofs.Candidates.{candidate_bound}
use Rattle.model.proofs.Lists.{get_d_rows_at}
use Rattle.model.proofs.Reading.{Ordered, user_iff, covers_iff, strikable_iff, bare_of, senior_iff, immediate_iff, permission_iff, member_iff}
use Rattle.model.proofs.Building.{stands_below, absent_juniors, absent_permissions, absent_members, link_iff, members_iff, holds_iff}
use Rattle.model.proofs.Record.{sound_iff, sound-built, rows_back, read_set}
use Rattle.model.proofs.Steps.{limits_ordered}

-- S(k), as a record holds it
module _ (st : State) (lim : Limits st) (k : ℕ) (l : k < candidate_count (roles_of st)) where
  set_below : permission_set (roles_of st) k < 2 ^ st.permissions
  unfolding roles_of candidate_count permission_set
  set_below =
      candidate_bound st.rows (2 ^ st.permissions) (λ u b. lim.rows_below u (rw lim.rows_count at b)) (get_or (candidates st.rows) k 0)
      (listed_at (candidates st.rows) k l)

  pub set_read : role_set (built st) k ≡ permission_set (roles_of st) k
  set_read = read_set st lim k (lt_of_lt_of_le l lim.candidates_most) (lt_of_lt_of_le set_below (pow_mono lim.permissions_most))

module _ (ws : List ℕ) (h : So (sound ws)) where
  abbrev ρ : Roles
  ρ = roles_of (state_of ws)

  abbrev R : ℕ
  R = (state_of ws).standing

  lim : Limits (state_of ws)
  lim = ((sound_iff ws).0 h).1

  o : Ordered (roles_of (state_of ws)) (state_of ws).standing
  o = limits_ordered (state_of ws) lim

  -- ---- the words, and the state that they hold

  pub rows_read_lem : role_rows_of ws ≡ building (roles_of (state_of ws)) (state_of ws).standing
  rows_read_lem = ap role_rows_of (sound-built ws h) ∙ rows_back (state_of ws) lim

  pub sound_set : (k : ℕ) → k < candidate_count (roles_of (state_of ws)) → role_set ws k ≡ permission_set (roles_of (state_of ws)) k
  sound_set k l = ap (λ (x : List ℕ). role_set x k) (sound-built ws h) ∙ set_read (state_of ws) lim k l

  -- a standing role is a candidate
  pub sound_stands : (k : ℕ) → Stands ws k → k < candidate_count (roles_of (state_of ws))
  unfolding state_of
  sound_stands k s = stands_below ρ R o k s

  set_item : (k p : ℕ) → k < candidate_count ρ → So (has (permission_set ρ k) p) → p < get_or ws 1 0
  unfolding state_of
  set_item k p l t = item_below (get_or ws 1 0) (permission_set ρ k) p (set_below (state_of ws) lim k l) t

  serves_read : (k u : ℕ) → k < candidate_count ρ → Serves ws k u ↔ So (has (authorised_users ρ k) u)
  unfolding roles_of state_of
  serves_read k u l =
      let e = sound_set k l in
      let n = get_or ws 0 0 in
      let a = user_iff ρ k u in
      let row : u < n → get_or (rows_at n ws crew_start) u 0 ≡ crew_row ws u = get_d_rows_at n ws crew_start u in
      let i = subset_iff (permission_set ρ k) (get_or (rows_at n ws crew_start) u 0) in (
        λ x. a.1 (x.user, i.1 (rw (← e, row x.user) x.contains)),
        λ y. let d = a.0 y in record { user = d.0; contains = rw (e, ← row d.0) (i.0 d.1) },
      )

  covers_read : (k u p : ℕ) → k < candidate_count ρ → Covers ws k u p ↔ So (covers ρ k u p)
  covers_read k u p l =
      let e = sound_set k l in
      let s = serves_read k u l in
      let c = covers_iff ρ k u p in (
        λ x. c.1 (s.0 x.serves, rw e at x.permission),
        λ y. let b = c.0 y in record { serves = s.1 b.0; permission = rw e b.1 },
      )

  senior_read : (k j : ℕ) → Senior ws k j ↔ So (senior ρ R k j)
  unfolding state_of
  senior_read k j =
      let i = senior_iff ρ R k j in
      let p = proper_iff (permission_set ρ j) (permission_set ρ k) in
      let s = subset_iff (permission_set ρ j) (permission_set ρ k) in (
        λ x.
            let ek = sound_set k (sound_stands k x.stands) in
            let ej = sound_set j (sound_stands j x.junior_stands) in
            i.1 (x.stands, x.junior_stands, p.1 (s.1 (rw (ej, ek) at x.contains), rw (ej, ek) at x.properly)),
        λ y.
            let b = i.0 y in
            let ek = sound_set k (sound_stands k b.0) in
            let ej = sound_set j (sound_stands j b.1) in
            let d = p.0 b.2 in
            record { stands = b.0; junior_stands = b.1; contains = rw (ej, ek) (s.0 d.0); properly = rw (ej, ek) d.1 },
      )

  -- ---- what can be struck

  pub strikable_read : (k : ℕ) → Stands ws k → So (strikable (roles_of (state_of ws)) (state_of ws).standing k) ↔ Spared ws k
  unfolding roles_of state_of grant
  strikable_read k s =
      let l = sound_stands k s in
      let n = get_or ws 0 0 in
      let i = strikable_iff ρ R k l in (
        λ t u p x.
            let user = x.serves.user in
            let g : So (has (get_or (rows_at n ws crew_start) u 0) p) = rw (get_d_rows_at n ws crew_start u user) (x.serves.contains p x.permission) in
            let w = (i.0 t).1 u p user (set_item k p l (rw (sound_set k l) at x.permission)) g ((covers_read k u p l).0 x) in
            record { role = w.0; other = w.3; stands = w.2; covers = (covers_read w.0 u p w.1).1 w.4 },
        λ f.
            i.1 (
              s,
              λ u p _ _ _ cv.
                  let x = f u p ((covers_read k u p l).1 cv) in
                  let lx = sound_stands x.role x.stands in
                  (x.role, lx, x.stands, x.other, (covers_read x.role u p lx).0 x.covers),
            ),
      )

  -- and what can't
  pub bare_read : (k : ℕ) → Stands ws k → strikable (roles_of (state_of ws)) (state_of ws).standing k ≡ false → Bare ws k
  unfolding state_of
  bare_read k s f =
      let l = sound_stands k s in
      let b = bare_of ρ R k l s f in
      record {
        user = b.0;
        permission = b.1;
        covered = (covers_read k b.0 b.1 l).1 b.2;
        alone = λ x.
            let lx = sound_stands x.role x.stands in b.3 x.role lx x.stands x.other ((covers_read x.role b.0 b.1 lx).0 x.covers);
      }

  -- ---- the building, and the standard

  links_read : (k j : ℕ) → So (link (role_rows_of ws) k j) ↔ ImmediatelySenior ws k j
  links_read k j =
      let l = link_iff ρ R o k j in
      let m = immediate_iff ρ R k j in
      rw rows_read_lem (
        λ t.
            let b = m.0 (l.0 t) in
            record {
              senior = (senior_read k j).1 b.0;
              none_between = λ i p q. b.1 i (sound_stands i p.junior_stands) ((senior_read k i).0 p) ((senior_read i j).0 q);
            },
        λ x. l.1 (m.1 ((senior_read k j).0 x.senior, λ i _ p q. x.none_between i ((senior_read k i).1 p) ((senior_read i j).1 q))),
      )

  permissions_read : (k p : ℕ) → Stands ws k
      → So (has ((role_rows_of ws).permissions k) p) ↔ (So (has (role_set ws k) p) × ((j : ℕ) → Senior ws k j → ¬ So (has (role_set ws j) p)))
  unfolding building roles_of state_of
  permissions_read k p s =
      let l = sound_stands k s in
      let e = sound_set k l in
      let i = permission_iff ρ R k p in
      rw rows_read_lem (
        λ t.
            let b = i.0 t in
            (rw e b.2, λ j x y. let lj = sound_stands j x.junior_stands in b.3 j lj ((senior_read k j).0 x) (rw (sound_set j lj) at y)),
        λ x.
            let t : So (has (permission_set ρ k) p) = rw e at x.0 in
            i.1 (set_item k p l t, s, t, λ j lj y z. x.1 j ((senior_read k j).1 y) (rw (sound_set j lj) z)),
      )

  members_read : (k u : ℕ) → Stands ws k
      → So (has ((role_rows_of ws).members k) u) ↔ (Serves ws k u × ((i : ℕ) → Senior ws i k → ¬ Serves ws i u))
  unfolding building roles_of state_of
  members_read k u s =
      let r = serves_read k u (sound_stands k s) in
      let m = member_iff ρ R k u in
      rw rows_read_lem (
        λ t. let b = m.0 t in (r.1 b.2, λ i x y. let li = sound_stands i x.stands in b.3 i li ((senior_read i k).0 x) ((serves_read i u li).0 y)),
        λ x. m.1 (x.0.user, s, r.0 x.0, λ i li y z. x.1 i ((senior_read i k).1 y) ((serves_read i u li).1 z)),
      )

  pub built_rows : BuiltRows ws
  unfolding building state_of
  built_rows =
      record {
        links = links_read;
        permissions = permissions_read;
        members = members_read;
        absent = λ k d. rw rows_read_lem (absent_juniors ρ R k d, absent_permissions ρ R k d, absent_members ρ R k d);
      }

  pub standard_held : Standard ws
  unfolding roles_of state_of
  standard_held =
      let ms : (k u : ℕ) → Stands ws k → HasMember (role_rows_of ws) k u ↔ Serves ws k u =
      λ k u s. let r = serves_read k u (sound_stands k s) in rw rows_read_lem (Iff.trans (members_iff ρ R o k u s) (r.1, r.0)) in
      let ps : (k p : ℕ) → Stands ws k → HasPermission (role_rows_of ws) k p ↔ So (has (role_set ws k) p) =
      λ k p s.
      let l = sound_stands k s in
      let i = holds_iff ρ R o k p s in
      rw (rows_read_lem, sound_set k l) (λ d. (i.0 d).1, λ t. i.1 (set_item k p l t, t)) in
      record { members = ms; permissions = ps; held = λ k u p s m d. ((ms k u s).0 m).contains p ((ps k p s).0 d) }
