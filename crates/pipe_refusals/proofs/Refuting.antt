-- From the decisions on a file's rules to refutations.
use Rattle.std.proofs.Common.{◌≡◌, ℕ, ◌+◌, ◌-◌, ◌<◌, ◌≤◌, ◌++◌, inl, inr, Bool, false, List, [], ◌∷◌, length, drop, get_or, slice_get, None, Some, sym, ap, ◌∙◌, subst, arith}
use Rattle.std.proofs.lemmas.Bool.{cases_lt}
use Rattle.std.proofs.lemmas.List.{get_or_past}
use Rattle.std.proofs.lemmas.Option.{slice_get-get_or, slice_get_within}
use Rattle.y86_base.specs.declared.parts.Variant.{Variant}
use Rattle.nets.specs.Nets.{Gates}
use Rattle.findings.proofs.Refuted as refuted
use Rattle.hcl_types.specs.Tables.{IsOrderOf}
use Rattle.hcl_types.specs.declared.term.Term.{Term}
use Rattle.dp_signals.specs.PipeTable.{pipe_rows}
use Rattle.ctl_atoms.specs.declared.leaf.Atom.{Atom}
use Rattle.ctl_atoms.specs.Atoms.{AreAtoms}
use Rattle.ctl_atoms.proofs.Solved.{leaves_exist, atoms_one}
use Rattle.ctl_equations.proofs.Solved.{controls_exist}
use Rattle.hazard_rules.specs.Parts.{AreRules}
use Rattle.pipe_fields.specs.Layout.{bit_count}
use Rattle.pipe_motion.specs.declared.settings.Settings.{Settings}
use Rattle.pipe_obligations.specs.Rules.{obligation, rule_count}
use Rattle.pipe_obligations.specs.FileSettings.{Everywhere, PipeControls}
use Rattle.ctl_rules.specs.declared.rules.Rule.{Rule}
use Rattle.bdd_decide.specs.Decisions.{IsAlwaysTrue}
use Rattle.ctl_verdicts.specs.Decisions.{HaveGatesOfNet, IsRuleDecision}
use Rattle.ctl_verdicts.specs.declared.decision.FailedRule.{FailedRule}
use Rattle.ctl_verdicts.proofs.AtomBits.{AreApart, apart_added}
use Rattle.ctl_verdicts.proofs.Decided.{no_rule}
use Rattle.control_check.proofs.PipeVerdict.{everywhere}
use Rattle.control_check.proofs.Tails.{from_drop}
use Rattle.pipe_diagnosis.specs.Diagnosis.{Fails}
use Rattle.pipe_refusals.specs.Answered.{AreRefuted, IsLeast, IsRefutation}
use Rattle.pipe_diagnosis.specs.declared.refusal.Refutation.{Refutation}

module _ (v : Variant) (terms : List Term) (s : Settings) (net : Gates) (list : List Rule) (rules : AreRules v terms s net list) where
  pub gates_of : HaveGatesOfNet net list
  gates_of = λ k r at. (rules.gates k r at).within

  -- the failure's rule in the whole list
  there : (from : ℕ) (failure : FailedRule) (h : IsRuleDecision net (drop from list) (Some failure)) → slice_get list (from + h.0) ≡ Some h.1
  there from failure h = sym (from_drop list from h.0) ∙ (h.2).there

  place : (from : ℕ) (failure : FailedRule) (h : IsRuleDecision net (drop from list) (Some failure)) → failure.rule ≡ from + h.0 + 1
  place from failure h = h.3 ∙ rules.numbers (from + h.0) h.1 (there from failure h)

  pub first_rule : (from : ℕ) (failure : FailedRule) → IsRuleDecision net (drop from list) (Some failure) → 1 ≤ failure.rule
  first_rule from failure h = let at = place from failure h in omega (arith, at)

  pub next_rule : (from : ℕ) (failure : FailedRule) → IsRuleDecision net (drop from list) (Some failure) → from < failure.rule
  next_rule from failure h = let at = place from failure h in omega (arith, at)

  pub within_list : (from : ℕ) (failure : FailedRule) → IsRuleDecision net (drop from list) (Some failure) → failure.rule ≤ length list
  within_list from failure h = let at = place from failure h in let inside = slice_get_within list (from + h.0) h.1 (there from failure h) in omega (arith, at, inside)

  pub last_rule : (from : ℕ) (failure : FailedRule) → IsRuleDecision net (drop from list) (Some failure) → failure.rule ≤ rule_count
  last_rule from failure h = let inside = within_list from failure h in let count = rules.count in omega (arith, inside, count)

  module _ (ids : List ℕ) (order : IsOrderOf pipe_rows terms ids) (atoms : List Atom) (are : AreAtoms pipe_rows terms atoms) where
    same_atoms : rules.atoms ≡ atoms
    same_atoms = atoms_one pipe_rows terms ids rules.atoms atoms order rules.are are

    apart : AreApart rules.atoms
    apart = let found = leaves_exist pipe_rows terms ids order in subst AreApart (sym (rules.are.are found.0 found.1)) (apart_added [] _ tt)

    pub fails_at : (from : ℕ) (failure : FailedRule) → IsRuleDecision net (drop from list) (Some failure) → Fails v terms s atoms failure.rule failure.valuation.bits
    fails_at from failure h =
        let k = from + h.0 in
        let at = there from failure h in
        let number : k + 1 ≡ failure.rule = sym (place from failure h) in
        let w = failure.valuation.bits in
        let own : Fails v terms s rules.atoms (k + 1) w = λ α cv given controls. sym ((rules.gates k h.1 at).is w α cv given controls) ∙ (h.2).least.holds in
        subst (λ (xs : List Atom). Fails v terms s xs failure.rule w) same_atoms (subst (λ n. Fails v terms s rules.atoms n w) number own)

    pub size_at : (from : ℕ) (failure : FailedRule) → IsRuleDecision net (drop from list) (Some failure) → length failure.valuation.bits ≡ bit_count + length atoms
    size_at from failure h = (h.2).least.size ∙ (rules.vars ∙ ap (λ (xs : List Atom). bit_count + length xs) same_atoms)

    pub least_at : (from : ℕ) (failure : FailedRule) → IsRuleDecision net (drop from list) (Some failure) → IsLeast v terms s atoms failure.rule failure.valuation.bits
    least_at from failure h =
        subst (λ (xs : List Atom). IsLeast v terms s xs failure.rule w) same_atoms (subst (λ n. IsLeast v terms s rules.atoms n w) (sym (place from failure h)) own)
      where
        w : List Bool
        w = failure.valuation.bits

        own : IsLeast v terms s rules.atoms (from + h.0 + 1) w
        own u size f y same off = elim (cases_lt y net.vars) [
          | inl lt ↦ (h.2).least.least u (size ∙ sym rules.vars) ((rules.gates (from + h.0) h.1 (there from failure h)).is u f.α f.cv f.atoms_are f.controls ∙ f.false_there) y lt same off
          | inr le ↦ get_or_past w y false (let e = (h.2).least.size in omega (arith, le, e))
        ]

    -- a rule that is always true
    holds_at : (i : ℕ) → 1 ≤ i → i ≤ length list → ((r : Rule) → slice_get list (i - 1) ≡ Some r → IsAlwaysTrue net r.gate) → Everywhere v atoms (PipeControls terms) (obligation v s atoms i)
    holds_at i l h always =
        let k = i - 1 in
        let x = get_or list k no_rule in
        let at = slice_get-get_or list k no_rule (omega (arith, l, h)) in
        let number : k + 1 ≡ i = omega (arith, l) in
        let own = everywhere v terms rules.atoms apart (λ field α. controls_exist pipe_rows terms ids field α order) net rules.vars x.gate (obligation v s rules.atoms (k + 1)) (rules.gates k x at) (always x at) in
        subst (λ (xs : List Atom). Everywhere v xs (PipeControls terms) (obligation v s xs i)) same_atoms
        (subst (λ n. Everywhere v rules.atoms (PipeControls terms) (obligation v s rules.atoms n)) number own)

    abbrev Holds : ℕ → Type 0
    Holds i = Everywhere v atoms (PipeControls terms) (obligation v s atoms i)

    pub none_refuted : AreRefuted v terms s atoms 0 []
    none_refuted = refuted.none_refuted (λ (y : Refutation). y.rule) (IsRefutation v terms s atoms) Holds

    -- one more is false somewhere, and those between it and the last are not
    pub one_more : (from : ℕ) (failure : FailedRule) (all : List Refutation) (x : Refutation) → IsRuleDecision net (drop from list) (Some failure) → x.rule ≡ failure.rule →
        IsRefutation v terms s atoms x → AreRefuted v terms s atoms from all → AreRefuted v terms s atoms failure.rule (all ++ x ∷ [])
    one_more from failure all x h is own told =
        refuted.one_more (λ (y : Refutation). y.rule) (IsRefutation v terms s atoms) Holds from failure.rule all x (next_rule from failure h) is own between told
      where
        between : (i : ℕ) → from < i → i < failure.rule → Holds i
        between i behind before = holds_at i (omega (arith, behind)) (let inside = within_list from failure h in omega (arith, before, inside))
            (λ r at. let p = place from failure h in let e : i - 1 ≡ from + (i - 1 - from) = omega (arith, behind) in
            (h.2).earlier (i - 1 - from) r (omega (arith, p, before, behind)) (from_drop list from (i - 1 - from) ∙ (ap (slice_get list) (sym e) ∙ at)))

    -- all that is left holds
    pub rest_holds : (from : ℕ) (all : List Refutation) → from ≤ length list → IsRuleDecision net (drop from list) None → AreRefuted v terms s atoms from all → AreRefuted v terms s atoms (length list) all
    rest_holds from all inside h told = refuted.others_hold (λ (y : Refutation). y.rule) (IsRefutation v terms s atoms) Holds from (length list) all inside follow told
      where
        follow : (i : ℕ) → from < i → i ≤ length list → Holds i
        follow i behind le = holds_at i (omega (arith, behind)) le (λ r at. let e : i - 1 ≡ from + (i - 1 - from) = omega (arith, behind) in
            h (i - 1 - from) r (from_drop list from (i - 1 - from) ∙ (ap (slice_get list) (sym e) ∙ at)))
