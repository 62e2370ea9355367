-- The truths of rules, tail by tail.
use Rattle.std.proofs.Common.{◌≡◌, ℕ, zero, suc, ◌+◌, ◌-◌, ◌<◌, ◌≤◌, ◌++◌, Bool, true, false, List, [], ◌∷◌, length, drop, get_or, slice_get, nat_lt, Option, None, Some, refl, sym, ap, ◌∙◌, subst, arith}
use Rattle.std.proofs.lemmas.Bool.Decides.{nat_tests}
use Rattle.std.proofs.lemmas.List.{get_or_append_left, get_or-append_right, length-append}
use Rattle.std.proofs.lemmas.Option.{slice_get_within}
use Rattle.y86_base.proofs.Booleans.{clash}
use Rattle.nets.specs.Nets.{Gates, truth}
use Rattle.ctl_rules.specs.declared.rules.Rule.{Rule}
use Rattle.bdd_decide.specs.Decisions.{IsAlwaysTrue, IsDecided}
use Rattle.ctl_verdicts.specs.Decisions.{HaveGatesOfNet, IsRuleDecision}
use Rattle.ctl_verdicts.specs.declared.decision.FailedRule.{FailedRule}
use Rattle.control_check.specs.Tails.{AreNumbered, AreTold, IsFilled}

pub from_drop : (xs : List Rule) (n k : ℕ) → slice_get (drop n xs) k ≡ slice_get xs (n + k)
from_drop xs zero k = ap (slice_get xs) (let e : k ≡ 0 + k = omega arith in e)
from_drop [] (suc n) k = refl
from_drop (x ∷ xs) (suc n) k = from_drop xs n k ∙ ap (slice_get (x ∷ xs)) (let e : suc (n + k) ≡ suc n + k = omega arith in e)

pub gates_from : (net : Gates) (list : List Rule) (n : ℕ) → HaveGatesOfNet net list → HaveGatesOfNet net (drop n list)
gates_from net list n h k r at = h (n + k) r (sym (from_drop list n k) ∙ at)

at_or_behind : (P : ℕ → Type 0) (n k : ℕ) → (k < n → P k) → ((j : ℕ) → k ≡ n + j → P k) → P k
at_or_behind P n k before behind = by (nat_lt k n) refl
  where
    by : (b : Bool) → nat_lt k n ≡ b → P k
    by true e = before (grind (arith, nat_tests, e))
    by false e = let le : n ≤ k = grind (arith, nat_tests, e) in behind (k - n) (omega (arith, le))

holds : (net : Gates) (g : ℕ) (b : Bool) → b ≡ true → IsAlwaysTrue net g → IsDecided net g b
holds net g b e all = record { yes = λ t. all; no = λ f. clash b e f }

-- if all rules that are left are true
pub all_left : (net : Gates) (list : List Rule) (old new : List Bool) → AreTold net list old → IsRuleDecision net (drop (length old) list) None → IsFilled old (length list) new → AreTold net list new
all_left net list old new told h filled = record {
  within = let s = filled.size in omega (arith, s);
  each = λ k x lt there. at_or_behind (λ j. (y : Rule) → slice_get list j ≡ Some y → IsDecided net y.gate (get_or new j false)) (length old) k
      (λ before y at. subst (IsDecided net y.gate) (sym (filled.stay k before)) (told.each k y before at))
      (λ j e y at. holds net y.gate (get_or new k false) (filled.more k (omega (arith, e)) (let s = filled.size in omega (arith, lt, s)))
      (h j y (from_drop list (length old) j ∙ (ap (slice_get list) (sym e) ∙ at))))
      x there;
}

-- if a next rule that is false is found
pub place_is : (net : Gates) (list : List Rule) (from : ℕ) (failure : FailedRule) → AreNumbered list → (h : IsRuleDecision net (drop from list) (Some failure)) → failure.rule ≡ from + h.0 + 1
place_is net list from failure numbers h = h.3 ∙ numbers (from + h.0) h.1 (sym (from_drop list from h.0) ∙ (h.2).there)

pub next_left : (net : Gates) (list : List Rule) (old mid new : List Bool) (failure : FailedRule) → AreNumbered list → AreTold net list old → IsRuleDecision net (drop (length old) list) (Some failure) →
    IsFilled old (failure.rule - 1) mid → new ≡ mid ++ false ∷ [] → AreTold net list new
next_left net list old mid new failure numbers told h filled is =
    let from = length old in
    let p = h.0 in
    let place : failure.rule ≡ from + p + 1 = place_is net list from failure numbers h in
    let size : length mid ≡ from + p = filled.size ∙ (let e : failure.rule - 1 ≡ from + p = omega (arith, place) in e) in
    let there = sym (from_drop list from p) ∙ (h.2).there in
    let inside = slice_get_within list (from + p) h.1 there in
    let whole : length new ≡ from + p + 1 = ap length is ∙ (length-append mid (false ∷ []) ∙ let e : length mid + 1 ≡ from + p + 1 = omega (arith, size) in e) in
    record {
      within = omega (arith, whole, inside);
      each = λ k x lt at. at_or_behind (λ j. (y : Rule) → slice_get list j ≡ Some y → IsDecided net y.gate (get_or new j false)) (from + p) k
          (λ before y here. subst (IsDecided net y.gate) (sym (ap (λ (xs : List Bool). get_or xs k false) is ∙ get_or_append_left mid (false ∷ []) false k (omega (arith, before, size))))
          (at_or_behind (λ j. IsDecided net y.gate (get_or mid j false)) from k
          (λ earlier. subst (IsDecided net y.gate) (sym (filled.stay k earlier)) (told.each k y earlier here))
          (λ j e. holds net y.gate (get_or mid k false) (filled.more k (omega (arith, e)) (let s = filled.size in omega (arith, before, size, s)))
          ((h.2).earlier j y (omega (arith, e, before)) (from_drop list from j ∙ (ap (slice_get list) (sym e) ∙ here))))))
          (λ j e y here.
          let last : k ≡ from + p = omega (arith, e, lt, whole) in
          let same : Some y ≡ Some h.1 = sym here ∙ (ap (slice_get list) last ∙ there) in
          let b : get_or new k false ≡ false = ap (λ (xs : List Bool). get_or xs k false) is ∙ (get_or-append_right mid (false ∷ []) (length mid) k false refl (omega (arith, last, size))
          ∙ ap (λ i. get_or (false ∷ []) i false) (let z : k - length mid ≡ 0 = omega (arith, last, size) in z)) in
          fails y.gate (get_or new k false) b h.1.gate (ap gate_of same) ((failure.valuation).bits) ((h.2).least.size) ((h.2).least.holds))
          x at;
    }
  where
    gate_of : Option Rule → ℕ
    gate_of None = 0
    gate_of (Some r) = r.gate

    fails : (g : ℕ) (b : Bool) → b ≡ false → (g' : ℕ) → g ≡ g' → (w : List Bool) → length w ≡ net.vars → truth net g' w ≡ false → IsDecided net g b
    fails g b e g' same w size no-truth = record { yes = λ t. clash b t e; no = λ f. (w, size, subst (λ (x : ℕ). truth net x w ≡ false) (sym same) no-truth) }

pub filled_none : (old : List Bool) (from : ℕ) → from ≡ length old → IsFilled old from old
filled_none old from e = record { size = sym e; stay = λ k lt. refl; more = λ k le lt. absurd (omega (arith, e, le, lt)) }

pub filled_more : (old mid new : List Bool) (n : ℕ) → length old ≤ n → IsFilled old n mid → new ≡ mid ++ true ∷ [] → IsFilled old (n + 1) new
filled_more old mid new n le h is = record {
  size = ap length is ∙ (length-append mid (true ∷ []) ∙ let s = h.size in let e : length mid + 1 ≡ n + 1 = omega (arith, s) in e);
  stay = λ k lt. ap (λ (xs : List Bool). get_or xs k false) is
      ∙ (get_or_append_left mid (true ∷ []) false k (let s = h.size in omega (arith, le, lt, s)) ∙ h.stay k lt);
  more = λ k from lt. at_or_behind (λ j. get_or new j false ≡ true) n k
      (λ before. ap (λ (xs : List Bool). get_or xs k false) is ∙ (get_or_append_left mid (true ∷ []) false k (let s = h.size in omega (arith, before, s)) ∙ h.more k from before))
      (λ j e. ap (λ (xs : List Bool). get_or xs k false) is
      ∙ (get_or-append_right mid (true ∷ []) n k false h.size (omega (arith, e)) ∙ ap (λ i. get_or (true ∷ []) i false) (let z : k - n ≡ 0 = omega (arith, e, lt) in z)));
}

pub none_told : (net : Gates) (list : List Rule) → AreTold net list []
none_told net list = record { within = omega arith; each = λ k x lt at. absurd (omega (arith, lt)) }

pub next_more : (net : Gates) (list : List Rule) (old mid new : List Bool) (failure : FailedRule) → AreNumbered list → IsRuleDecision net (drop (length old) list) (Some failure) →
    IsFilled old (failure.rule - 1) mid → new ≡ mid ++ false ∷ [] → length old < length new
next_more net list old mid new failure numbers h filled is =
    let place = place_is net list (length old) failure numbers h in
    let s = filled.size in
    let whole : length new ≡ length mid + 1 = ap length is ∙ length-append mid (false ∷ []) in
    omega (arith, place, s, whole)
