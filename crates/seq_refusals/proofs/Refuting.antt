-- From the decisions on the rules of a sequential datapath to refutations.
use Rattle.std.proofs.Common.{◌≡◌, ℕ, zero, suc, ◌+◌, ◌-◌, ◌<◌, ◌≤◌, ◌++◌, Bool, false, List, [], ◌∷◌, length, get_or, slice_get, None, Some, refl, sym, ap, ◌∙◌, subst, arith}
use Rattle.std.proofs.lemmas.Option.{slice_get-get_or, slice_get_within, same_Some}
use Rattle.y86_base.specs.declared.parts.Variant.{Variant}
use Rattle.nets.specs.Nets.{Gates, truth}
use Rattle.hcl_types.specs.Tables.{IsOrderOf}
use Rattle.hcl_types.specs.declared.term.Term.{Term}
use Rattle.ctl_atoms.specs.declared.leaf.Atom.{Atom}
use Rattle.ctl_atoms.specs.Atoms.{AreAtoms}
use Rattle.ctl_atoms.proofs.Solved.{atoms_one}
use Rattle.net_fields.specs.FieldSpecs.{total}
use Rattle.findings.proofs.Refuted as refuted
use Rattle.bdd_decide.specs.Decisions.{IsAlwaysTrue, IsLeastOf}
use Rattle.ctl_rules.specs.declared.rules.Rule.{Rule}
use Rattle.seq_obligations.specs.Obligations.{rule_count}
use Rattle.ctl_verdicts.specs.Decisions.{HaveGatesOfNet, IsRuleDecision}
use Rattle.ctl_verdicts.specs.ObligationSet.{AreRulesOfSet, IsFalseAtBits, MeetsObligationSet, IsRuleOfSet, ObligationSet}
use Rattle.ctl_verdicts.specs.declared.decision.FailedRule.{FailedRule}
use Rattle.ctl_verdicts.proofs.Answered.{verdict_by}
use Rattle.ctl_verdicts.proofs.Decided.{no_rule}
use Rattle.seq_plus.specs.Datapaths.{rows_of}
use Rattle.seq_check.proofs.Decided.{own_rules}
use Rattle.seq_check.specs.Datapaths.{questions_of, spots_of}
use Rattle.seq_check.specs.Rules.{AreRulesOf}
use Rattle.hcl_types.specs.declared.table.SequentialDatapath.{SequentialDatapath}
use Rattle.seq_diagnosis.specs.Diagnosis as diagnosis
use Rattle.seq_diagnosis.specs.declared.refusal.Refutation.{Refutation}
use Rattle.seq_refusals.specs.Answered.{AreRefuted, Everywhere, IsRefutation}
use Rattle.seq_refusals.specs.Failures.{IsFailure}

-- obligation i alone
abbrev only : ObligationSet → ℕ → ObligationSet
only q i = record { rows = q.rows; spots = q.spots; count = 1; asks = λ n xs α cv. q.asks i xs α cv }

abbrev first_of : Rule → Rule
first_of r = record { number = 1; gate = r.gate }

-- a first failure, and that of one rule, are failures
pub failure_first : (net : Gates) (list : List Rule) (failure : FailedRule) → IsRuleDecision net list (Some failure) → IsFailure net list failure
failure_first net list failure d = record { place = d.0; rule = d.1; there = (d.2).there; number = d.3; least = (d.2).least }

pub one_gate : (net : Gates) (x : Rule) → x.gate < length net.gates → HaveGatesOfNet net (x ∷ [])
one_gate net x lt zero r e = subst (λ (y : Rule). y.gate < length net.gates) (same_Some x r e) lt
one_gate net x lt (suc k) r e = cc

pub one_true : (net : Gates) (r : Rule) → IsRuleDecision net (r ∷ []) None → IsAlwaysTrue net r.gate
one_true net r d = d 0 r refl

pub one_false : (net : Gates) (list : List Rule) (k : ℕ) (r : Rule) (failure : FailedRule) → slice_get list k ≡ Some r → IsRuleDecision net (r ∷ []) (Some failure) → IsFailure net list failure
one_false net list k r failure at d = record {
  place = k;
  rule = r;
  there = at;
  number = d.3 ∙ ap (λ (x : Rule). x.number) (sym same);
  least = subst (λ (x : Rule). IsLeastOf net.vars (λ u. truth net x.gate u ≡ false) failure.valuation.bits) (sym same) (d.2).least;
}
  where
    only_one : (j : ℕ) (x : Rule) → slice_get (r ∷ []) j ≡ Some x → r ≡ x
    only_one zero x e = same_Some r x e
    only_one (suc j) x e = cc

    same : r ≡ d.1
    same = only_one d.0 d.1 (d.2).there

module _ (which : SequentialDatapath) (v : Variant) (terms : List Term) (net : Gates) (list : List Rule) (ids : List ℕ) (ordered : IsOrderOf (rows_of which) terms ids) (rules : AreRulesOf which v terms net list) where
  abbrev own : AreRulesOfSet (questions_of which v) terms net list
  own = own_rules which v terms net list rules

  pub count_is : length list ≡ rule_count
  count_is = own.count

  -- obligation k + 1 alone, as one rule
  alone : (k : ℕ) (r : Rule) → slice_get list k ≡ Some r → AreRulesOfSet (only (questions_of which v) (k + 1)) terms net (first_of r ∷ [])
  alone k r at = record { atoms = own.atoms; are = own.are; vars = own.vars; count = refl; each = λ j x e. by j x e }
    where
      by : (j : ℕ) (x : Rule) → slice_get (first_of r ∷ []) j ≡ Some x → IsRuleOfSet (only (questions_of which v) (k + 1)) terms own.atoms net (j + 1) x
      by zero x e = subst (λ (y : Rule). IsRuleOfSet (only (questions_of which v) (k + 1)) terms own.atoms net 1 y) (same_Some (first_of r) x e)
          (record { number = refl; within = (own.each k r at).within; is = (own.each k r at).is })
      by (suc j) x e = cc

  -- a rule that is always true
  always_at : (k : ℕ) (r : Rule) → slice_get list k ≡ Some r → IsAlwaysTrue net r.gate → Everywhere which v terms (k + 1)
  always_at k r at always =
      let accepted : MeetsObligationSet (only (questions_of which v) (k + 1)) terms = verdict_by (only (questions_of which v) (k + 1)) terms net (first_of r ∷ []) ids ordered (alone k r at) None (λ j x e. by j x e) in
      λ xs α cv range controls. accepted.holds 1 xs α cv (omega arith) (omega arith) range controls
    where
      by : (j : ℕ) (x : Rule) → slice_get (first_of r ∷ []) j ≡ Some x → IsAlwaysTrue net x.gate
      by zero x e = subst (λ (y : Rule). IsAlwaysTrue net y.gate) (same_Some (first_of r) x e) always
      by (suc j) x e = cc

  holds_at : (i : ℕ) → 1 ≤ i → i ≤ length list → ((r : Rule) → slice_get list (i - 1) ≡ Some r → IsAlwaysTrue net r.gate) → Everywhere which v terms i
  holds_at i l h always =
      let k = i - 1 in
      let x = get_or list k no_rule in
      let at = slice_get-get_or list k no_rule (omega (arith, l, h)) in
      let number : k + 1 ≡ i = omega (arith, l) in
      subst (λ (n : ℕ). Everywhere which v terms n) number (always_at k x at (always x at))

  -- the failure's rule
  place : (failure : FailedRule) (f : IsFailure net list failure) → failure.rule ≡ f.place + 1
  place failure f = f.number ∙ (own.each f.place f.rule f.there).number

  -- a failure of the rule at a place
  pub place_one : (k : ℕ) (r : Rule) (failure : FailedRule) → slice_get list k ≡ Some r → IsRuleDecision net (r ∷ []) (Some failure) → failure.rule ≡ k + 1
  unfolding one_false
  place_one k r failure at d = place failure (one_false net list k r failure at d)

  pub first_rule : (failure : FailedRule) → IsFailure net list failure → 1 ≤ failure.rule
  first_rule failure f = let at = place failure f in omega (arith, at)

  pub within_list : (failure : FailedRule) → IsFailure net list failure → failure.rule ≤ length list
  within_list failure f = let at = place failure f in let inside = slice_get_within list f.place f.rule f.there in omega (arith, at, inside)

  pub last_rule : (failure : FailedRule) → IsFailure net list failure → failure.rule ≤ rule_count
  last_rule failure f = let inside = within_list failure f in let count = own.count in omega (arith, inside, count)

  module _ (atoms : List Atom) (are : AreAtoms (rows_of which) terms atoms) where
    same_atoms : own.atoms ≡ atoms
    same_atoms = atoms_one (rows_of which) terms ids own.atoms atoms ordered own.are are

    pub fails_at : (failure : FailedRule) → IsFailure net list failure → diagnosis.Fails which v terms atoms failure.rule failure.valuation.bits
    fails_at failure f =
        let w = failure.valuation.bits in
        let there : diagnosis.Fails which v terms own.atoms (f.place + 1) w = λ α cv given controls. sym ((own.each f.place f.rule f.there).is w α cv given controls) ∙ f.least.holds in
        subst (λ (xs : List Atom). diagnosis.Fails which v terms xs failure.rule w) same_atoms
        (subst (λ (n : ℕ). diagnosis.Fails which v terms own.atoms n w) (sym (place failure f)) there)

    pub least_at : (failure : FailedRule) → IsFailure net list failure → IsLeastOf (total (spots_of which) + length atoms) (IsFalseAtBits (questions_of which v) terms atoms failure.rule) failure.valuation.bits
    least_at failure f =
        subst (λ (xs : List Atom). IsLeastOf (total (spots_of which) + length xs) (IsFalseAtBits (questions_of which v) terms xs failure.rule) w) same_atoms
        (subst (λ (n : ℕ). IsLeastOf (total (spots_of which) + length own.atoms) (IsFalseAtBits (questions_of which v) terms own.atoms n) w) (sym (place failure f)) there)
      where
        w : List Bool
        w = failure.valuation.bits

        q : ObligationSet
        q = questions_of which v

        to : (u : List Bool) → IsFalseAtBits (only q (f.place + 1)) terms own.atoms 1 u → IsFalseAtBits q terms own.atoms (f.place + 1) u
        to u h = record { truths = h.truths; values = h.values; atoms_are = h.atoms_are; controls = h.controls; fails = h.fails }

        from : (u : List Bool) → IsFalseAtBits q terms own.atoms (f.place + 1) u → IsFalseAtBits (only q (f.place + 1)) terms own.atoms 1 u
        from u h = record { truths = h.truths; values = h.values; atoms_are = h.atoms_are; controls = h.controls; fails = h.fails }

        decided : IsRuleDecision net (first_of f.rule ∷ []) (Some (record { rule = 1; valuation = failure.valuation }))
        decided = (0, first_of f.rule, record { there = refl; earlier = λ j r lt at. absurd (omega (arith, lt)); least = f.least }, refl)

        there : IsLeastOf (total (spots_of which) + length own.atoms) (IsFalseAtBits q terms own.atoms (f.place + 1)) w
        there =
            let no = verdict_by (only q (f.place + 1)) terms net (first_of f.rule ∷ []) ids ordered (alone f.place f.rule f.there) (Some (record { rule = 1; valuation = failure.valuation })) decided in
            let least = subst (λ (xs : List Atom). IsLeastOf (total (spots_of which) + length xs) (IsFalseAtBits (only q (f.place + 1)) terms xs 1) w)
            (atoms_one (rows_of which) terms ids no.1 own.atoms ordered no.2 own.are) no.3.least in
            record { size = least.size; holds = to w least.holds; least = λ u s h y lt same off. least.least u s (from u h) y lt same off }

    -- ---- one rule after the other

    abbrev Refuted : ℕ → List Refutation → Type 0
    Refuted until all = AreRefuted which v terms atoms until all

    -- the next rule is true everywhere
    pub next_holds : (k : ℕ) (all : List Refutation) (r : Rule) → slice_get list k ≡ Some r → IsAlwaysTrue net r.gate → Refuted k all → Refuted (k + 1) all
    next_holds k all r at always told = refuted.others_hold (λ (y : Refutation). y.rule) (IsRefutation which v terms atoms) (Everywhere which v terms) k (k + 1) all (omega arith)
        (λ i behind le. let e : k + 1 ≡ i = omega (arith, le, behind) in subst (λ (n : ℕ). Everywhere which v terms n) e (always_at k r at always)) told

    -- the next rule is refuted
    pub next_refuted : (k : ℕ) (all : List Refutation) (x : Refutation) → x.rule ≡ k + 1 → IsRefutation which v terms atoms x → Refuted k all → Refuted (k + 1) (all ++ x ∷ [])
    next_refuted k all x is it told = refuted.one_more (λ (y : Refutation). y.rule) (IsRefutation which v terms atoms) (Everywhere which v terms) k (k + 1) all x (omega arith) is it
        (λ i behind before. absurd (omega (arith, behind, before))) told

    -- the first false rule is refuted
    pub first_refuted : (failure : FailedRule) (x : Refutation) → IsRuleDecision net list (Some failure) → x.rule ≡ failure.rule → IsRefutation which v terms atoms x → Refuted x.rule (x ∷ [])
    first_refuted failure x d is it = refuted.one_more (λ (y : Refutation). y.rule) (IsRefutation which v terms atoms) (Everywhere which v terms) 0 x.rule [] x (omega (arith, number)) refl it between
        (refuted.none_refuted (λ (y : Refutation). y.rule) (IsRefutation which v terms atoms) (Everywhere which v terms))
      where
        number : x.rule ≡ d.0 + 1
        number = is ∙ (d.3 ∙ (own.each d.0 d.1 (d.2).there).number)

        between : (i : ℕ) → 0 < i → i < x.rule → Everywhere which v terms i
        between i l before = holds_at i (omega (arith, l)) (let inside = slice_get_within list d.0 d.1 (d.2).there in omega (arith, before, number, inside))
            (λ r at. (d.2).earlier (i - 1) r (omega (arith, before, l, number)) at)
