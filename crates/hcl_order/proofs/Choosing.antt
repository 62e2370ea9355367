-- A way back that follows the marks step by step is the first of the shortest ways back.
use Rattle.std.proofs.Common.{◌≡◌, ◌-◌, ◌<◌, ◌≤◌, inl, inr, ℕ, zero, suc, List, [], ◌∷◌, ◌++◌, length, slice_index, refl, sym, ap, subst, ◌∙◌, arith}
use Rattle.std.proofs.lemmas.List.{append_assoc, append-nil}
use Rattle.hcl_types.specs.Lists.{IsIn}
use Rattle.hcl_order.specs.Dependence.{IsDependencePath, Depends, IsNoLater, FirstCycle}
use Rattle.hcl_order.specs.Layers.{Steps, IsMarked, IsCycleLength}
use Rattle.hcl_order.specs.Ways.{FollowsMarks, IsCyclePath}
use Rattle.hcl_order.proofs.Members.{is_suc, last_or, le_or}
use Rattle.hcl_order.proofs.Walking.{steps_of}

follows_walks : (needs : ℕ → List ℕ) (marks : List ℕ) (target k a : ℕ) (way : List ℕ) → FollowsMarks needs marks target k a way → IsDependencePath needs a way target
follows_walks needs marks target zero a way f = subst (λ x. IsDependencePath needs a x target) (sym f.0) f.1
follows_walks needs marks target (suc k) a way f = subst (λ x. IsDependencePath needs a x target) (sym f.2) (f.3, follows_walks needs marks target k f.0 f.1 f.6)

follows_length : (needs : ℕ → List ℕ) (marks : List ℕ) (target k a : ℕ) (way : List ℕ) → FollowsMarks needs marks target k a way → length way ≡ k
follows_length needs marks target zero a way f = ap length f.0
follows_length needs marks target (suc k) a way f = ap length f.2 ∙ ap suc (follows_length needs marks target k f.0 f.1 f.6)

-- no shorter walk leads from the row to the target, and a walk of this length begins at one of its needs
exact : (needs : ℕ → List ℕ) (marks : List ℕ) (target level k a y : ℕ) → IsMarked needs target level marks → suc (suc k) ≤ level
    → ((i : ℕ) → Steps needs (suc i) a target → suc k ≤ i) → IsIn y (needs a) → Steps needs (suc k) y target → slice_index marks y ≡ suc (suc k)
exact needs marks target level k a y m h none i s =
    let w = m.complete y (suc k) h s in let q = is_suc (slice_index marks y) w.0 in
    omega (arith, w.1, q.1, none q.0 (y, i, (m.sound y q.0 q.1).1))

nearer : (needs : ℕ → List ℕ) (marks : List ℕ) (target level k c : ℕ) → IsMarked needs target level marks → suc (suc k) ≤ level → slice_index marks c ≡ suc (suc k)
    → (i : ℕ) → Steps needs (suc i) c target → k ≤ i
nearer needs marks target level k c m h e i s = elim (le_or (suc (suc i)) level) [
  | inl l ↦ omega (arith, e, (m.complete c (suc i) l s).1)
  | inr l ↦ omega arith
]

follows_least : (needs : ℕ → List ℕ) (marks : List ℕ) (target level k a : ℕ) (way : List ℕ) → IsMarked needs target level marks → suc k ≤ level
    → ((i : ℕ) → Steps needs (suc i) a target → k ≤ i) → FollowsMarks needs marks target k a way
    → (other : List ℕ) → IsDependencePath needs a other target → length other ≡ length way → IsNoLater way other
follows_least needs marks target level zero a way m h none f other w e = subst (λ x. IsNoLater x other) (sym f.0) tt
follows_least needs marks target level (suc k) a way m h none f [] w e = absurd (let l = ap length f.2 in omega arith)
follows_least needs marks target level (suc k) a way m h none f (y ∷ other) w e =
    let size = follows_length needs marks target k f.0 f.1 f.6 in
    let long : length other ≡ k = omega (arith, e, ap length f.2, size) in
    let steps = subst (λ x. Steps needs (suc x) y target) long (steps_of needs y other target w.1) in
    let mark = exact needs marks target level k a y m h none w.0 steps in
    let first : f.0 ≤ y = f.5 y w.0 mark in
    subst (λ x. IsNoLater x (y ∷ other)) (sym f.2) (elim (last_or f.0 y (omega arith)) [
      | inl l ↦ inl l
      | inr s ↦ inr (
        s,
        follows_least needs marks target level k f.0 f.1 m (omega arith) (nearer needs marks target level k f.0 m h f.4) f.6 other
            (subst (λ x. IsDependencePath needs x other target) (sym s) w.1) (long ∙ sym size),
      )
    ])

pub first_way : (needs : ℕ → List ℕ) (marks : List ℕ) (row size : ℕ) (ids : List ℕ) → IsCycleLength needs row size marks → IsCyclePath needs row marks size ids
    → ((n : ℕ) → n < row → Depends needs n n → ⊥) → FirstCycle needs ids
first_way needs marks row size ids c w first = subst (FirstCycle needs) (sym w.3) (record {
  walks = follows_walks needs marks row w.0 row w.1 w.4;
  first = first;
  shortest = λ other o. omega (arith, none (length other) (steps_of needs row other row o), follows_length needs marks row w.0 row w.1 w.4);
  least = follows_least needs marks row size w.0 row w.1 c.marked (omega (arith, w.2)) none w.4;
})
  where
    none : (i : ℕ) → Steps needs (suc i) row row → w.0 ≤ i
    none i s = elim (le_or w.0 i) [ inl l ↦ l | inr l ↦ absurd (c.shortest i (omega (arith, w.2)) s) ]

-- the way chosen so far: what continues from the current row continues from the first
pub record IsOnWay (needs : ℕ → List ℕ) (marks : List ℕ) (row size at left : ℕ) (ids : List ℕ) : Type 0 where
  pub positive : 0 < left
  pub within : left ≤ size
  pub need : (c : ℕ) × IsIn c (needs at) × (slice_index marks c ≡ left)
  pub so_far : (k : ℕ) → left ≡ suc k → (rest : List ℕ) → FollowsMarks needs marks row k at rest → IsCyclePath needs row marks size (ids ++ rest)

pub on_way_begin : (needs : ℕ → List ℕ) (marks : List ℕ) (row size : ℕ) (ids : List ℕ) → 0 < size → IsCycleLength needs row size marks → ids ≡ row ∷ [] → IsOnWay needs marks row size row size ids
on_way_begin needs marks row size ids p c e = rw e (record {
  positive = p;
  within = omega arith;
  need = c.back;
  so_far = λ k s rest f. (k, rest, s, refl, f);
})

next_need : (needs : ℕ → List ℕ) (marks : List ℕ) (row size k c : ℕ) → IsMarked needs row size marks → suc (suc k) ≤ size → slice_index marks c ≡ suc (suc k)
    → (d : ℕ) × IsIn d (needs c) × (slice_index marks d ≡ suc k)
next_need needs marks row size k c m h e =
    let s = (m.sound c (suc k) e).1 in let w = m.complete s.0 k (omega arith) s.2 in let q = is_suc (slice_index marks s.0) w.0 in
    let low : suc q.0 ≤ suc k = omega (arith, w.1, q.1) in
    let high = m.complete c (suc q.0) (omega (arith, low)) (s.0, s.1, (m.sound s.0 q.0 q.1).1) in
    (s.0, s.1, omega (arith, q.1, low, high.1, e))

pub on_way_step : (needs : ℕ → List ℕ) (marks : List ℕ) (row size at left c next : ℕ) (ids on : List ℕ) → IsCycleLength needs row size marks → IsOnWay needs marks row size at left ids
    → 1 < left → IsIn c (needs at) → slice_index marks c ≡ left → ((n : ℕ) → IsIn n (needs at) → slice_index marks n ≡ left → c ≤ n) → on ≡ ids ++ c ∷ [] → next ≡ left - 1
    → IsOnWay needs marks row size c next on
on_way_step needs marks row size at left c next ids on cycle w h i e least o n = record {
  positive = omega arith;
  within = omega (arith, w.within);
  need = need;
  so_far = so_far;
}
  where
    need : (d : ℕ) × IsIn d (needs c) × (slice_index marks d ≡ next)
    need = let q = is_suc next (omega arith) in
        let d = next_need needs marks row size q.0 c cycle.marked (omega (arith, w.within, q.1)) (omega (arith, e, q.1)) in (d.0, d.1, d.2 ∙ sym q.1)

    so_far : (k : ℕ) → next ≡ suc k → (rest : List ℕ) → FollowsMarks needs marks row k c rest → IsCyclePath needs row marks size (on ++ rest)
    so_far k s rest f =
        let left_is : left ≡ suc (suc k) = omega arith in
        let longer : ids ++ (c ∷ rest) ≡ on ++ rest = rw o (sym (append_assoc ids (c ∷ []) rest)) in
        subst (IsCyclePath needs row marks size) longer (w.so_far (suc k) left_is (c ∷ rest) (c, rest, refl, i, e ∙ left_is, (λ n j g. least n j (g ∙ sym left_is)), f))

pub on_way_end : (needs : ℕ → List ℕ) (marks : List ℕ) (row size at left : ℕ) (ids : List ℕ) → IsCycleLength needs row size marks → IsOnWay needs marks row size at left ids
    → left ≤ 1 → IsCyclePath needs row marks size ids
on_way_end needs marks row size at left ids cycle w h =
    let one : left ≡ 1 = omega (arith, w.positive) in
    let here = (cycle.marked.sound w.need.0 0 (w.need.2 ∙ one)).1 in
    subst (IsCyclePath needs row marks size) (append-nil ids) (w.so_far 0 one [] (refl, subst (λ x. IsIn x (needs at)) here w.need.1))
