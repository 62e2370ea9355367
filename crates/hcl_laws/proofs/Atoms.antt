-- A design that has an order has at most one list of atoms, or one reason why it has none.
use Rattle.std.proofs.Common.{◌≡◌, ◌⊎◌, ⊎_elim, ℕ, zero, suc, ◌<◌, ◌≤◌, Bool, true, false, List, length, refl, sym, ap, ◌∙◌, subst, inl, inr, arith}
use Rattle.std.proofs.lemmas.Bool.{cases_lt}
use Rattle.hcl_types.specs.Equations.{IsSolution}
use Rattle.hcl_types.specs.Tables.{IsOrderOf}
use Rattle.hcl_types.specs.declared.table.Row.{Row}
use Rattle.hcl_types.specs.declared.term.Term.{Term}
use Rattle.hcl_order.proofs.Members.{le_or}
use Rattle.ctl_atoms.specs.Atoms.{AreAtoms, IsFirstMixed, IsOver64, atoms_of}
use Rattle.ctl_atoms.specs.Mixing.{mixes}
use Rattle.ctl_atoms.specs.Rows.{leaf_rule}
use Rattle.ctl_atoms.specs.declared.leaf.Leaf.{Leaf}
use Rattle.ctl_atoms.specs.declared.leaf.Atom.{Atom}
use Rattle.ctl_atoms.proofs.Solved.{leaves_exist, leaves_one, none_mixed}

module _ (rows : List Row) (terms : List Term) where
  pub one_list : (ids : List ℕ) → IsOrderOf rows terms ids → (a b : List Atom) → AreAtoms rows terms a → AreAtoms rows terms b → a ≡ b
  one_list ids o a b h k =
      let leaves = leaves_exist rows terms ids o in
      h.are leaves.0 leaves.1 ∙ sym (k.are leaves.0 leaves.1)

  pub one_mixed : (m n : ℕ) → IsFirstMixed rows terms m → IsFirstMixed rows terms n → m ≡ n
  one_mixed m n h k = by (le_or m n) (le_or n m)
    where
      by : (m ≤ n) ⊎ (n < m) → (n ≤ m) ⊎ (m < n) → m ≡ n
      by (inr lt) o = absurd (cc (h.first n lt, k.mixed))
      by (inl le) (inr lt) = absurd (cc (k.first m lt, h.mixed))
      by (inl le) (inl ge) = omega (arith, le, ge)

  pub mixed_has_no_atoms : (n : ℕ) (a : List Atom) → IsFirstMixed rows terms n → AreAtoms rows terms a → ⊥
  mixed_has_no_atoms n a h k = absurd (cc (h.mixed, k.pure n))

  pub mixed_is_not_over : (n : ℕ) → IsFirstMixed rows terms n → IsOver64 rows terms → ⊥
  mixed_is_not_over n h k = absurd (cc (h.mixed, k.pure n))

  pub over_has_no_atoms : (ids : List ℕ) → IsOrderOf rows terms ids → (a : List Atom) → IsOver64 rows terms → AreAtoms rows terms a → ⊥
  over_has_no_atoms ids o a h k =
      let leaves = leaves_exist rows terms ids o in
      absurd (omega (arith, h.many leaves.0 leaves.1, k.few, ap length (k.are leaves.0 leaves.1)))

  -- a first definition mixes, or none of the first k does
  MixedBelow : ℕ → Type 0
  MixedBelow k = ((n : ℕ) × IsFirstMixed rows terms n) ⊎ ((m : ℕ) → m < k → mixes rows terms m ≡ false)

  mixed_none : MixedBelow 0
  unfolding MixedBelow
  mixed_none = inr (λ m h. absurd (omega (arith, h)))

  mixed_more : (k : ℕ) (b : Bool) → mixes rows terms k ≡ b → MixedBelow k → MixedBelow (suc k)
  unfolding MixedBelow
  mixed_more k b e (inl found) = inl found
  mixed_more k true e (inr none) = inl (k, record { mixed = e; first = none })
  mixed_more k false e (inr none) =
      inr (λ m h. ⊎_elim (none m) (λ past. let same : k ≡ m = omega (arith, h, past) in subst (λ j. mixes rows terms j ≡ false) same e) (cases_lt m k))

  mixed_below : (k : ℕ) → MixedBelow k
  mixed_below zero = mixed_none
  mixed_below (suc k) = mixed_more k (mixes rows terms k) refl (mixed_below k)

  module _ (ids : List ℕ) (o : IsOrderOf rows terms ids) where
    by_count : ((n : ℕ) → mixes rows terms n ≡ false) → (leaves : ℕ → List Leaf) → IsSolution (leaf_rule rows terms) leaves →
        (length (atoms_of leaves terms) ≤ 64) ⊎ (64 < length (atoms_of leaves terms)) → ((a : List Atom) × AreAtoms rows terms a) ⊎ (((n : ℕ) × IsFirstMixed rows terms n) ⊎ IsOver64 rows terms)
    by_count pure leaves fixes (inl few) =
        inl (atoms_of leaves terms, record { pure = pure; few = few; are = λ f p. ap (λ (g : ℕ → List Leaf). atoms_of g terms) (leaves_one rows terms ids o leaves f fixes p) })
    by_count pure leaves fixes (inr many) =
        inr (inr (record { pure = pure; many = λ f p. subst (λ (g : ℕ → List Leaf). 64 < length (atoms_of g terms)) (leaves_one rows terms ids o leaves f fixes p) many }))

    pub atoms_or_reason : ((a : List Atom) × AreAtoms rows terms a) ⊎ (((n : ℕ) × IsFirstMixed rows terms n) ⊎ IsOver64 rows terms)
    unfolding MixedBelow
    atoms_or_reason = ⊎_elim
        (λ (found : (n : ℕ) × IsFirstMixed rows terms n). inr (inl found))
        (λ (none : (m : ℕ) → m < length rows → mixes rows terms m ≡ false).
        (let some = leaves_exist rows terms ids o in
        by_count (none_mixed rows terms (length rows) (omega arith) none) some.0 some.1 (le_or (length (atoms_of some.0 terms)) 64)))
        (mixed_below (length rows))
