-- Refutations, from one obligation to the next that is false somewhere.
use Rattle.std.proofs.Common.{◌≡◌, ℕ, ◌<◌, ◌≤◌, ◌==◌, ◌++◌, ◌||◌, inl, inr, ◌⊎◌, Bool, true, false, List, [], ◌∷◌, refl, sym, ◌∙◌, arith}
use Rattle.std.proofs.lemmas.Bool.{false≢true, cases_lt, eq-eqb, or_parts}
use Rattle.hcl_types.specs.Lists.{some}
use Rattle.hcl_types.proofs.Each.{each_both}
use Rattle.findings.specs.Refuted.{AreAllRefuted, RiseWithin, is_refuted}

-- the last number is at most a higher bound, too
rise_on : {A : Type 0} (number : A → ℕ) (low high higher : ℕ) (xs : List A) → high ≤ higher → RiseWithin number low high xs → RiseWithin number low higher xs
rise_on number low high higher [] le rise = omega arith
rise_on number low high higher (x ∷ xs) le (above, rest) = (above, rise_on number (number x) high higher xs le rest)

-- another number at the end, above the bound
rise_by : {A : Type 0} (number : A → ℕ) (low high until : ℕ) (xs : List A) (x : A) → number x ≡ until → high < until → RiseWithin number low high xs → RiseWithin number low until (xs ++ x ∷ [])
rise_by number low high until [] x is lt rise = (omega arith, omega arith)
rise_by number low high until (y ∷ ys) x is lt (above, rest) = (above, rise_by number (number y) high until ys x is lt rest)

neither : (a b : Bool) → a ≡ false → b ≡ false → (a || b) ≡ false
neither true b e f = cc
neither false b e f = f

-- no element passes a test, nor does another at the end
none_of : {A : Type 0} (f : A → Bool) (xs : List A) (x : A) → some f (xs ++ x ∷ []) ≡ false → (some f xs ≡ false) × (f x ≡ false)
none_of f [] x e = (refl, (or_parts (f x) false e).0)
none_of f (y ∷ ys) x e =
    let here = or_parts (f y) (some f (ys ++ x ∷ [])) e in
    let rest = none_of f ys x here.1 in
    (neither (f y) (some f ys) here.0 rest.0, rest.1)

module _ {A : Type 0} (rule : A → ℕ) (IsRefutation : A → Type 0) (Holds : ℕ → Type 0) where
  abbrev Refuted : ℕ → List A → Type 0
  Refuted until all = AreAllRefuted rule IsRefutation Holds until all

  pub none_refuted : Refuted 0 []
  none_refuted = record { each = tt; rising = omega arith; others = λ i l h e. absurd (omega (arith, l, h)) }

  -- one more is false somewhere, and those between it and the last are not
  pub one_more : (from until : ℕ) (all : List A) (x : A) → from < until → rule x ≡ until → IsRefutation x → ((i : ℕ) → from < i → i < until → Holds i) → Refuted from all →
      Refuted until (all ++ x ∷ [])
  one_more from until all x lt is own between told = record {
    each = each_both IsRefutation all (x ∷ []) told.each (own, tt);
    rising = rise_by rule 0 from until all x is lt told.rising;
    others = λ i l le none. by i l le (none_of (λ (y : A). rule y == i) all x none) (cases_lt from i);
  }
    where
      by : (i : ℕ) → 1 ≤ i → i ≤ until → (is_refuted rule i all ≡ false) × ((rule x == i) ≡ false) → (from < i) ⊎ (i ≤ from) → Holds i
      by i l le none (inr before) = told.others i l before none.0
      by i l le none (inl behind) = elim (cases_lt i until) [
        | inl before ↦ between i behind before
        | inr ge ↦ absurd (false≢true (sym none.1 ∙ eq-eqb (rule x) i (omega (arith, is, le, ge))))
      ]

  -- none that follows up to a higher number is false anywhere
  pub others_hold : (from until : ℕ) (all : List A) → from ≤ until → ((i : ℕ) → from < i → i ≤ until → Holds i) → Refuted from all → Refuted until all
  others_hold from until all up follow told = record { each = told.each; rising = rise_on rule 0 from until all up told.rising; others = λ i l le none. by i l le none (cases_lt from i) }
    where
      by : (i : ℕ) → 1 ≤ i → i ≤ until → is_refuted rule i all ≡ false → (from < i) ⊎ (i ≤ from) → Holds i
      by i l le none (inr before) = told.others i l before none
      by i l le none (inl behind) = follow i behind le
