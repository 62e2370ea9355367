-- The first index at which a rule is false: with one more rule, with equal truths, and with one more block of indices.
use Rattle.std.proofs.Common.{◌≡◌, ◌⊎◌, inl, inr, ℕ, ◌+◌, ◌-◌, ◌<◌, ◌≤◌, Bool, true, false, List, length, slice_get, Option, Some, None, refl, sym, ap, ◌∙◌, subst, arith}
use Rattle.std.proofs.lemmas.Bool.{cases_eq, cases_lt}
use Rattle.std.proofs.lemmas.Option.{slice_get_within}
use Rattle.ctl_rules.specs.declared.rules.Rule.{Rule}
use Rattle.lane_eval.specs.Search.{AllHold, HoldBefore, IsFirstAt, IsFirstFalse}
use Rattle.lane_eval.specs.declared.search.Found.{Found}

-- what is known after the first rules: before the best place they are all true, and there, unless it is the count,
-- the first rule that is false has this number
pub record IsBest (holds : ℕ → Rule → Bool) (list : List Rule) (count k best number : ℕ) : Type 0 where
  pub within : best ≤ count
  pub earlier : (i : ℕ) → i < best → HoldBefore holds list i k
  pub first : best < count → IsFirstAt holds list best number

-- one more rule is true at an index
pub hold_more : (holds : ℕ → Rule → Bool) (list : List Rule) (i k : ℕ) (rule : Rule) → HoldBefore holds list i k → slice_get list k ≡ Some rule → holds i rule ≡ true → HoldBefore holds list i (k + 1)
hold_more holds list i k rule earlier there here j x lt at = elim (cases_eq j k) [
  | inl e ↦ subst (λ (r : Rule). holds i r ≡ true) (same (sym there ∙ (ap (slice_get list) (sym e) ∙ at))) here
  | inr ne ↦ earlier j x (below ne) at
]
  where
    below : (j ≡ k → ⊥) → j < k
    below ne = grind (arith, ne, lt)

    same : Some rule ≡ Some x → rule ≡ x
    same e = cc

pub best_none : (holds : ℕ → Rule → Bool) (list : List Rule) (count number : ℕ) → IsBest holds list count 0 count number
best_none holds list count number = record {
  within = omega arith;
  earlier = λ i h j x lt. absurd (omega (arith, lt));
  first = λ h. absurd (omega (arith, h));
}

-- the rule is false at a smaller place first
pub best_less : (holds : ℕ → Rule → Bool) (list : List Rule) (count k best number place : ℕ) (rule : Rule) → IsBest holds list count k best number
    → slice_get list k ≡ Some rule → place < best → ((i : ℕ) → i < place → holds i rule ≡ true) → (place < count → holds place rule ≡ false)
    → IsBest holds list count (k + 1) place rule.number
best_less holds list count k best number place rule known there less before fails = record {
  within = omega (arith, less, known.within);
  earlier = λ i h. hold_more holds list i k rule (known.earlier i (omega (arith, h, less))) there (before i h);
  first = λ h. record { place = k; rule = rule; there = there; fails = fails h; before = known.earlier place less; numbered = refl };
}

-- the rule isn't false before the best place
pub best_stays : (holds : ℕ → Rule → Bool) (list : List Rule) (count k best number place : ℕ) (rule : Rule) → IsBest holds list count k best number
    → slice_get list k ≡ Some rule → best ≤ place → ((i : ℕ) → i < place → holds i rule ≡ true)
    → IsBest holds list count (k + 1) best number
best_stays holds list count k best number place rule known there le before = record {
  within = known.within;
  earlier = λ i h. hold_more holds list i k rule (known.earlier i h) there (before i (omega (arith, h, le)));
  first = known.first;
}

-- after the last rule
all_hold : (holds : ℕ → Rule → Bool) (list : List Rule) (i k : ℕ) → length list ≤ k → HoldBefore holds list i k → AllHold holds list i
all_hold holds list i k le h j x at = h j x (omega (arith, le, slice_get_within list j x at)) at

pub best_found : (holds : ℕ → Rule → Bool) (list : List Rule) (count k best number : ℕ) → length list ≤ k → IsBest holds list count k best number → best < count
    → IsFirstFalse holds list count (Some (record { index = best; rule = number }))
best_found holds list count k best number le known lt = (lt, λ i h. all_hold holds list i k le (known.earlier i h), known.first lt)

pub best_all : (holds : ℕ → Rule → Bool) (list : List Rule) (count k best number : ℕ) → length list ≤ k → IsBest holds list count k best number → count ≤ best
    → IsFirstFalse holds list count None
best_all holds list count k best number le known past = λ i h. all_hold holds list i k le (known.earlier i (omega (arith, h, past)))

-- ---- truths that are the same below the count

module _ (holds other : ℕ → Rule → Bool) (list : List Rule) (count : ℕ) (same : (i j : ℕ) (x : Rule) → i < count → slice_get list j ≡ Some x → holds i x ≡ other i x) where
  all_same : (i : ℕ) → i < count → AllHold holds list i → AllHold other list i
  all_same i h all j x at = sym (same i j x h at) ∙ all j x at

  pub found_same : (o : Option Found) → IsFirstFalse holds list count o → IsFirstFalse other list count o
  found_same None all = λ i h. all_same i h (all i h)
  found_same (Some found) f = (
    f.0,
    λ i h. all_same i (omega (arith, h, f.0)) (f.1 i h),
    record {
      place = f.2.place;
      rule = f.2.rule;
      there = f.2.there;
      fails = sym (same found.index f.2.place f.2.rule f.0 f.2.there) ∙ f.2.fails;
      before = λ j x lt at. sym (same found.index j x f.0 at) ∙ f.2.before j x lt at;
      numbered = f.2.numbered;
    },
  )

-- ---- a block of indices after those at which all hold

module _ (holds block : ℕ → Rule → Bool) (list : List Rule) (at : ℕ) (same : (i : ℕ) (x : Rule) → block i x ≡ holds (at + i) x)
    (earlier : (i : ℕ) → i < at → AllHold holds list i) where
  all_block : (i : ℕ) → AllHold block list i → AllHold holds list (at + i)
  all_block i all j x there = sym (same i x) ∙ all j x there

  -- all hold below a later index
  pub at_index : (i upto : ℕ) → ((q : ℕ) → q < upto → AllHold block list q) → i < at + upto → AllHold holds list i
  at_index i upto all h = by (cases_lt i at)
    where
      by : (i < at) ⊎ (at ≤ i) → AllHold holds list i
      by (inl lt) = earlier i lt
      by (inr le) =
          let back : at + (i - at) ≡ i = omega (arith, le) in
          subst (AllHold holds list) back (all_block (i - at) (all (i - at) (omega (arith, le, h))))

  -- what is found in it, within the count
  pub block_some : (size count : ℕ) (found : Found) → IsFirstFalse block list size (Some found) → at + found.index < count
      → IsFirstFalse holds list count (Some (record { index = at + found.index; rule = found.rule }))
  block_some size count found f h = (
    h,
    λ i lt. at_index i found.index f.1 lt,
    record {
      place = f.2.place;
      rule = f.2.rule;
      there = f.2.there;
      fails = sym (same found.index f.2.rule) ∙ f.2.fails;
      before = λ j x lt there. sym (same found.index x) ∙ f.2.before j x lt there;
      numbered = f.2.numbered;
    },
  )

  -- what is found in it lies past the count
  pub block_past : (size count : ℕ) (found : Found) → IsFirstFalse block list size (Some found) → count ≤ at + found.index → IsFirstFalse holds list count None
  block_past size count found f past = λ i h. at_index i found.index f.1 (omega (arith, h, past))
