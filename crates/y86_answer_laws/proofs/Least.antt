-- Among the valuations with a property, the least one is unique.
use Rattle.std.proofs.Common.{◌≡◌, ◌⊎◌, ℕ, zero, suc, ◌<◌, ◌≤◌, Bool, true, false, List, length, get_or, refl, sym, ◌∙◌, subst, inl, inr, arith}
use Rattle.std.proofs.lemmas.List.{get_or_default, same_lists}
use Rattle.hcl_order.proofs.Members.{last_or, le_or}
use Rattle.bdd_decide.specs.Decisions.{IsLeastOf}
use Rattle.ctl_verdicts.specs.ObligationSet.{IsLeastFalseOf, ObligationSet}
use Rattle.hcl_types.specs.declared.term.Term.{Term}
use Rattle.ctl_atoms.specs.declared.leaf.Atom.{Atom}

same_truth : (a b : Bool) → (a ≡ false → b ≡ false) → (b ≡ false → a ≡ false) → a ≡ b
same_truth true true h k = refl
same_truth false false h k = refl
same_truth true false h k = k refl
same_truth false true h k = sym (h refl)

pub same_bools : (a b : Bool) → (a ≡ true → b ≡ true) → (b ≡ true → a ≡ true) → a ≡ b
same_bools true true h k = refl
same_bools false false h k = refl
same_bools true false h k = sym (h refl)
same_bools false true h k = k refl

module _ (vars : ℕ) (F : List Bool → Type 0) (w u : List Bool) (h : IsLeastOf vars F w) (k : IsLeastOf vars F u) where
  -- the same for the next place, if all places before it agree
  one_more : (n : ℕ) → suc n ≤ vars → ((y : ℕ) → y < n → get_or w y false ≡ get_or u y false) → (x : ℕ) → x < suc n → get_or w x false ≡ get_or u x false
  one_more n le before x lt = by (last_or x n lt)
    where
      here : get_or w n false ≡ get_or u n false
      here = same_truth (get_or w n false) (get_or u n false)
          (k.least w h.size h.holds n (omega (arith, le)) (λ y l. sym (before y l)))
          (h.least u k.size k.holds n (omega (arith, le)) before)

      by : (x < n) ⊎ (x ≡ n) → get_or w x false ≡ get_or u x false
      by (inl l) = before x l
      by (inr e) = subst (λ y. get_or w y false ≡ get_or u y false) (sym e) here

  same_to : (n : ℕ) → n ≤ vars → (x : ℕ) → x < n → get_or w x false ≡ get_or u x false
  same_to zero le x lt = absurd (omega (arith, lt))
  same_to (suc n) le x lt = one_more n le (λ y l. same_to n (omega (arith, le)) y l) x lt

  any_default : (xs : List Bool) (x : ℕ) (d : Bool) → x < length xs → get_or xs x d ≡ get_or xs x false
  any_default xs x d lt = get_or_default xs x d false lt

  pub least_one : w ≡ u
  least_one = same_lists w u (h.size ∙ sym k.size) (λ x d lt.
      any_default w x d lt ∙ same_to vars (omega arith) x (omega (arith, lt, h.size)) ∙ sym (any_default u x d (omega (arith, lt, h.size, k.size))))

-- the first obligation that is false, and its least valuation
pub least_false_one : (q : ObligationSet) (terms : List Term) (atoms : List Atom) (r s : ℕ) (w u : List Bool) →
    IsLeastFalseOf q terms atoms r w → IsLeastFalseOf q terms atoms s u → (r ≡ s) × (w ≡ u)
least_false_one q terms atoms r s w u h k = by (le_or r s) (le_or s r)
  where
    by : (r ≤ s) ⊎ (s < r) → (s ≤ r) ⊎ (r < s) → (r ≡ s) × (w ≡ u)
    by (inr lt) o = absurd (h.earlier s u k.from_one lt k.least.size k.least.holds)
    by (inl le) (inr lt) = absurd (k.earlier r w h.from_one lt h.least.size h.least.holds)
    by (inl le) (inl ge) =
        let same : r ≡ s = omega (arith, le, ge) in
        let moved = subst (λ n. IsLeastFalseOf q terms atoms n u) (sym same) k in
        (same, least_one _ _ w u h.least moved.least)
