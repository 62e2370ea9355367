-- There is at most one first cycle.
use Rattle.std.proofs.Common.{◌≡◌, ◌⊎◌, ℕ, ◌<◌, ◌≤◌, List, [], ◌∷◌, length, refl, sym, subst, inl, inr, arith}
use Rattle.hcl_order.specs.Dependence.{Depends, FirstCycle, IsFirstCycle, IsNoLater, IsDependencePath}
use Rattle.hcl_order.proofs.Members.{le_or}

-- two lists of the same length, each of which comes no later than the other, are equal
no_later_both : (xs ys : List ℕ) → length xs ≡ length ys → IsNoLater xs ys → IsNoLater ys xs → xs ≡ ys
no_later_both [] [] e h k = refl
no_later_both [] (y ∷ ys) e h k = absurd k
no_later_both (x ∷ xs) [] e h k = absurd h
no_later_both (x ∷ xs) (y ∷ ys) e (inl lt) (inl gt) = absurd (omega (arith, lt, gt))
no_later_both (x ∷ xs) (y ∷ ys) e (inl lt) (inr k) = absurd (omega (arith, lt, k.0))
no_later_both (x ∷ xs) (y ∷ ys) e (inr h) (inl gt) = absurd (omega (arith, gt, h.0))
no_later_both (x ∷ xs) (y ∷ ys) e (inr h) (inr k) = let rest = no_later_both xs ys (omega (arith, e)) h.1 k.1 in cc (h.0, rest)

module _ (needs : ℕ → List ℕ) where
  same_row : (a b : ℕ) (xs ys : List ℕ) → IsFirstCycle needs a xs → IsFirstCycle needs b ys → a ≡ b
  same_row a b xs ys h k = by (le_or a b) (le_or b a)
    where
      by : (a ≤ b) ⊎ (b < a) → (b ≤ a) ⊎ (a < b) → a ≡ b
      by (inr lt) o = absurd (h.first b lt (ys, k.walks))
      by (inl le) (inr lt) = absurd (k.first a lt (xs, h.walks))
      by (inl le) (inl ge) = omega (arith, le, ge)

  same_between : (a : ℕ) (xs ys : List ℕ) → IsFirstCycle needs a xs → IsFirstCycle needs a ys → xs ≡ ys
  same_between a xs ys h k =
      let size : length xs ≡ length ys = omega (arith, h.shortest ys k.walks, k.shortest xs h.walks) in
      no_later_both xs ys size (h.least ys k.walks (sym size)) (k.least xs h.walks size)

  pub one_first_cycle : (a b : List ℕ) → FirstCycle needs a → FirstCycle needs b → a ≡ b
  one_first_cycle [] b h k = absurd h
  one_first_cycle (x ∷ xs) [] h k = absurd k
  one_first_cycle (x ∷ xs) (y ∷ ys) h k =
      let row = same_row x y xs ys h k in
      let moved : IsFirstCycle needs x ys = subst (λ r. IsFirstCycle needs r ys) (sym row) k in
      let rest = same_between x xs ys h moved in
      cc (row, rest)

  pub cycle_is_one : (a : List ℕ) → FirstCycle needs a → ((n : ℕ) → Depends needs n n → ⊥) → ⊥
  cycle_is_one [] h acyclic = h
  cycle_is_one (x ∷ xs) h acyclic = acyclic x (xs, h.walks)
