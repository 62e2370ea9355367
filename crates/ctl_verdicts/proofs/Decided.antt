-- The decision on the gates of rules is the decision on the rules.
use Rattle.std.proofs.Common.{◌≡◌, ℕ, ◌<◌, Bool, false, List, length, get_or, slice_get, Option, Some, sym, subst, arith}
use Rattle.std.proofs.lemmas.Option.{slice_get_within, slice_get-get_or}
use Rattle.nets.specs.Nets.{Gates, truth}
use Rattle.ctl_rules.specs.declared.rules.Rule.{Rule}
use Rattle.bdd_decide.specs.Decisions.{AreGatesOfNet as AreGates, IsAlwaysTrue, IsFirstFalseGate as IsFirstOf, IsLeastOf, IsGateDecision as IsDecisionOf}
use Rattle.bdd_decide.specs.declared.decision.Counterexample.{Counterexample}
use Rattle.ctl_verdicts.specs.Decisions.{HaveGatesOfNet, AreTheirGates, IsFirstFalseRule}

pub no_rule : Rule
no_rule = record { number = 0; gate = 0 }

pub their_gates : (n : Gates) (list : List Rule) (gates : List ℕ) → AreTheirGates list gates → HaveGatesOfNet n list → AreGates n gates
their_gates n list gates h of k lt =
    let at = slice_get-get_or list k no_rule (let s = h.size in omega (arith, lt, s)) in
    subst (λ (g : ℕ). g < length n.gates) (sym (h.each k (get_or list k no_rule) at)) (of k (get_or list k no_rule) at)

pub place_within : (n : Gates) (list : List Rule) (gates : List ℕ) (o : Option Counterexample) (c : Counterexample) → AreTheirGates list gates → IsDecisionOf n gates o → o ≡ Some c → c.place < length list
place_within n list gates o c h decided e =
    let first : IsFirstOf n gates c.place c.valuation.bits = subst (IsDecisionOf n gates) e decided in
    let w = first.within in let s = h.size in omega (arith, w, s)

pub none_failed : (n : Gates) (list : List Rule) (gates : List ℕ) → AreTheirGates list gates → ((k : ℕ) → k < length gates → IsAlwaysTrue n (get_or gates k 0)) →
    (k : ℕ) (r : Rule) → slice_get list k ≡ Some r → IsAlwaysTrue n r.gate
none_failed n list gates h always k r at =
    subst (IsAlwaysTrue n) (h.each k r at) (always k (let s = h.size in let i = slice_get_within list k r at in omega (arith, s, i)))

pub first_failed : (n : Gates) (list : List Rule) (gates : List ℕ) (place : ℕ) (rule : Rule) (w : List Bool) → AreTheirGates list gates → IsFirstOf n gates place w → slice_get list place ≡ Some rule →
    IsFirstFalseRule n list place rule w
first_failed n list gates place rule w h first at = record {
  there = at;
  earlier = λ j r lt there. subst (IsAlwaysTrue n) (h.each j r there) (first.earlier j lt);
  least = subst (λ (g : ℕ). IsLeastOf n.vars (λ u. truth n g u ≡ false) w) (h.each place rule at) first.least;
}
