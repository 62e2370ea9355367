-- From the decisions on PIPE's formulas and rules to the meaning of a verdict on the design.
use Rattle.std.proofs.Common.{◌≡◌, ℕ, ◌+◌, ◌-◌, ◌<◌, ◌≤◌, inl, inr, Bool, true, false, not, List, [], length, get_or, slice_get, Some, None, sym, ap, ◌∙◌, subst, arith}
use Rattle.std.proofs.lemmas.Bool.{false≢true, cases_lt, not-true, not-false, not_from_true}
use Rattle.std.proofs.lemmas.List.{get_or_past}
use Rattle.std.proofs.lemmas.Option.{slice_get_within}
use Rattle.std.proofs.Math.Bool.{not-not}
use Rattle.y86_base.proofs.Lists.{element_at}
use Rattle.y86_base.specs.declared.parts.Variant.{Variant}
use Rattle.nets.specs.Nets.{Gates, truth}
use Rattle.hcl_types.specs.Tables.{IsOrderOf}
use Rattle.hcl_types.specs.declared.term.Term.{Term}
use Rattle.dp_signals.specs.PipeTable.{pipe_rows}
use Rattle.ctl_atoms.specs.Leaves.{Assignment, AtomsAre}
use Rattle.ctl_atoms.specs.declared.leaf.Atom.{Atom}
use Rattle.ctl_atoms.specs.Atoms.{AreAtoms}
use Rattle.ctl_atoms.proofs.Solved.{leaves_exist}
use Rattle.ctl_atoms.specs.declared.leaf.Leaf.{Leaf}
use Rattle.ctl_equations.specs.Laws.{HasControls}
use Rattle.ctl_equations.proofs.Solved.{controls_exist}
use Rattle.pipe_fields.specs.Layout.{bit_count, fields_of, number_of, pattern_of}
use Rattle.pipe_fields.proofs.Told.{has_pattern, in_range}
use Rattle.pipe_motion.specs.declared.settings.Settings.{Settings}
use Rattle.hazard_rules.specs.Parts.{AreEarlyGates, AreLateGates, AreRules, IsDesignGate}
use Rattle.pipe_obligations.specs.Rules.{obligation, rule_count}
use Rattle.pipe_obligations.specs.FileSettings.{Decides, Everywhere, IsFalseAt, IsLeastFalse, Somewhere, ValuationTruth, alu_passes_target, picks_target, witnesses_je, witnesses_lf, witnesses_rm, PipeControls}
use Rattle.ctl_rules.specs.declared.rules.Rule.{Rule}
use Rattle.ctl_rules.specs.declared.rules.Rules.{Rules}
use Rattle.bdd_decide.specs.Decisions.{AreDecided, IsAlwaysTrue, IsDecided}
use Rattle.ctl_verdicts.specs.Decisions.{HaveGatesOfNet, IsRuleDecision, IsFirstFalseRule}
use Rattle.ctl_verdicts.specs.declared.decision.FailedRule.{FailedRule}
use Rattle.control_check.specs.PipeVerdicts.{AcceptsPipe, AreFileRules, AreSettings, HasSevenGates, RejectsPipe}
use Rattle.control_check.proofs.OneSettings.{never_accepted, one_list}
use Rattle.ctl_verdicts.proofs.AtomBits.{AreApart, apart_added, bits_are, length-truth_bits, told_are, told_by, truth_bits}

module _ (v : Variant) (terms : List Term) (atoms : List Atom) (apart : AreApart atoms) (exists : (field : ℕ → ℕ) (α : Assignment) → HasControls pipe_rows terms field α)
    (net : Gates) (vars : net.vars ≡ bit_count + length atoms) where
  -- a formula that is true at every pattern of bits is true at every valuation
  pub everywhere : (g : ℕ) (f : ValuationTruth) → IsDesignGate terms atoms net g f → IsAlwaysTrue net g → Everywhere v atoms (PipeControls terms) f
  everywhere g f h always c α cv range controls =
      let w : List Bool = pattern_of c (truth_bits α atoms) in
      let law = has_pattern c (truth_bits α atoms) range in
      let are : AtomsAre atoms bit_count w α = λ k a at. law.later k ∙ bits_are α atoms k a at in
      let size : length w ≡ net.vars = law.size ∙ (ap (λ n. bit_count + n) (length-truth_bits α atoms) ∙ sym vars) in
      let told = h.is w α cv are (subst (λ x. PipeControls terms x α cv) (sym law.spells) controls) in
      subst (λ x. f x α cv ≡ true) law.spells (sym told ∙ always w size)

  -- a pattern at which it is false is a valuation at which it is false
  pub somewhere : (g : ℕ) (f : ValuationTruth) → IsDesignGate terms atoms net g f → (w : List Bool) → truth net g w ≡ false →
      (α : Assignment) × (cv : ℕ → Leaf) × AtomsAre atoms bit_count w α × PipeControls terms (fields_of w) α cv × (f (fields_of w) α cv ≡ false)
  somewhere g f h w e =
      let α = told_by atoms bit_count w in
      let controls = exists (number_of (fields_of w)) α in
      let are = told_are atoms bit_count w apart in
      (α, controls.0, are, controls.1, sym (h.is w α controls.0 are controls.1) ∙ e)

  pub decides : (g : ℕ) (f : ValuationTruth) (b : Bool) → IsDesignGate terms atoms net g f → IsDecided net g b → Decides b (Everywhere v atoms (PipeControls terms) f)
  decides g f b h d =
      record {
        yes = λ e. everywhere g f h (d.yes e);
        no = λ e all. (let w = d.no e in let s = somewhere g f h w.0 w.2 in false≢true (sym s.4 ∙ all (fields_of w.0) s.0 s.1 (in_range w.0) s.3));
      }

  -- if the formula is the negation of another
  pub decides_some : (g : ℕ) (f : ValuationTruth) (b : Bool) → IsDesignGate terms atoms net g (λ c α cv. not (f c α cv)) → IsDecided net g b → Decides (not b) (Somewhere v atoms (PipeControls terms) f)
  decides_some g f b h d =
      record {
        yes = λ e. (let w = d.no (not-true b e) in let s = somewhere g (λ c α cv. not (f c α cv)) h w.0 w.2 in (fields_of w.0, s.0, s.1, in_range w.0, s.3, not-false (f (fields_of w.0) s.0 s.1) s.4));
        no = λ e some. false≢true (sym (not_from_true (f some.0 some.1 some.2) some.5) ∙ everywhere g (λ c α cv. not (f c α cv)) h (d.yes (not-false b e)) some.0 some.1 some.2 some.3 some.4);
      }

  -- ---- the rules

  module _ (s : Settings) (list : List Rule) (count : length list ≡ rule_count) (gates : (k : ℕ) (x : Rule) → slice_get list k ≡ Some x → IsDesignGate terms atoms net x.gate (obligation v s atoms (k + 1))) where
    pub holds : ((k : ℕ) (x : Rule) → slice_get list k ≡ Some x → IsAlwaysTrue net x.gate) → (i : ℕ) → 1 ≤ i → i ≤ rule_count → Everywhere v atoms (PipeControls terms) (obligation v s atoms i)
    holds always i l h =
        let rule = element_at list (i - 1) (omega (arith, l, h, count)) in
        let number : i - 1 + 1 ≡ i = omega (arith, l) in
        subst (λ n. Everywhere v atoms (PipeControls terms) (obligation v s atoms n)) number
        (everywhere rule.0.gate (obligation v s atoms (i - 1 + 1)) (gates (i - 1) rule.0 rule.1) (always (i - 1) rule.0 rule.1))

    false_at : (k : ℕ) (x : Rule) (w : List Bool) → slice_get list k ≡ Some x → truth net x.gate w ≡ false → IsFalseAt v atoms (PipeControls terms) s (k + 1) w
    false_at k x w at e =
        let f = somewhere x.gate (obligation v s atoms (k + 1)) (gates k x at) w e in
        record { α = f.0; cv = f.1; atoms_are = f.2; controls = f.3; false_there = f.4 }

    gate_false : (k : ℕ) (x : Rule) (w : List Bool) → slice_get list k ≡ Some x → IsFalseAt v atoms (PipeControls terms) s (k + 1) w → truth net x.gate w ≡ false
    gate_false k x w at h = (gates k x at).is w h.α h.cv h.atoms_are h.controls ∙ h.false_there

    pub first_false : (k : ℕ) (x : Rule) (w : List Bool) → IsFirstFalseRule net list k x w → IsLeastFalse v atoms (PipeControls terms) s (k + 1) w
    first_false k x w h =
        record {
          first = omega arith;
          last = (let z = slice_get_within list k x h.there in omega (arith, z, count));
          size = h.least.size ∙ vars;
          fails = false_at k x w h.there h.least.holds;
          least_rule = λ j l lt u size f. before j l lt u size f;
          least_valuation = λ u size f y same off. at u size f y same off;
        }
      where
        before : (j : ℕ) → 1 ≤ j → j < k + 1 → (u : List Bool) → length u ≡ bit_count + length atoms → IsFalseAt v atoms (PipeControls terms) s j u → ⊥
        before j l lt u size f =
            let rule = element_at list (j - 1) (let z = slice_get_within list k x h.there in omega (arith, l, lt, z)) in
            let back : j ≡ j - 1 + 1 = omega (arith, l) in
            false≢true (sym (gate_false (j - 1) rule.0 u rule.1 (subst (λ n. IsFalseAt v atoms (PipeControls terms) s n u) back f))
            ∙ h.earlier (j - 1) rule.0 (omega (arith, l, lt)) rule.1 u (size ∙ sym vars))

        at : (u : List Bool) → length u ≡ bit_count + length atoms → IsFalseAt v atoms (PipeControls terms) s (k + 1) u → (y : ℕ) →
            ((z : ℕ) → z < y → get_or w z false ≡ get_or u z false) → get_or u y false ≡ false → get_or w y false ≡ false
        at u size f y same off = elim (cases_lt y net.vars) [
          | inl lt ↦ h.least.least u (size ∙ sym vars) (gate_false k x u h.there f) y lt same off
          | inr le ↦ get_or_past w y false (let e = h.least.size in omega (arith, le, e))
        ]

-- ---- the settings

pub closed_gates : (terms : List Term) (atoms : List Atom) (net : Gates) (gates : List ℕ) (f : ℕ → ValuationTruth) → ((i : ℕ) → i < 7 → IsDesignGate terms atoms net (get_or gates i 0) (f i)) → HasSevenGates net gates
closed_gates terms atoms net gates f h i lt = (h i lt).within

module _ (v : Variant) (terms : List Term) (ids : List ℕ) (o : IsOrderOf pipe_rows terms ids) where
  same_list : (a b : List Atom) → AreAtoms pipe_rows terms a → AreAtoms pipe_rows terms b → a ≡ b
  same_list = one_list terms ids o

  apart : (a : List Atom) → AreAtoms pipe_rows terms a → AreApart a
  apart a h = (let some = leaves_exist pipe_rows terms ids o in subst AreApart (sym (h.are some.0 some.1)) (apart_added [] _ tt))

  exists : (field : ℕ → ℕ) (α : Assignment) → HasControls pipe_rows terms field α
  exists field α = controls_exist pipe_rows terms ids field α o

  late_decides : (atoms late_atoms : List Atom) (net : Gates) (g : ℕ) (f : List Atom → ValuationTruth) (b : Bool) → AreAtoms pipe_rows terms atoms → AreAtoms pipe_rows terms late_atoms →
      net.vars ≡ bit_count + length late_atoms → IsDesignGate terms late_atoms net g (λ c α cv. not (f late_atoms c α cv)) → IsDecided net g (not b) →
      Decides b (Somewhere v atoms (PipeControls terms) (f atoms))
  late_decides atoms late_atoms net g f b h k vars formula decided =
      subst (λ (them : List Atom). Decides b (Somewhere v them (PipeControls terms) (f them))) (same_list late_atoms atoms k h)
      (subst (λ x. Decides x (Somewhere v late_atoms (PipeControls terms) (f late_atoms))) (not-not b)
      (decides_some v terms late_atoms (apart late_atoms k) exists net vars g (f late_atoms) (not b) formula decided))

  pub settings_are : (first : Gates) (pt pb : List ℕ) (tv : ℕ) (closed : AreEarlyGates v terms first pt pb tv) (s : Settings) (pt' pb' : List Bool) (tv' : Bool) →
      length s.pt ≡ 7 → length s.pb ≡ 7 → s.pt ≡ pt' → s.pb ≡ pb' → s.tv ≡ tv' → AreDecided first pt pt' → AreDecided first pb pb' → IsDecided first tv tv' →
      (second : Gates) (lf je rm : ℕ) → AreLateGates v terms pt' pb' tv' second lf je rm → IsDecided second lf (not s.lf) → IsDecided second je (not s.je) → IsDecided second rm (not s.rm) →
      AreSettings v terms s
  settings_are first pt pb tv closed s pt' pb' tv' forward backward ept epb etv dpt dpb dtv second lf je rm late dlf dje drm =
      record {
        atoms = closed.atoms;
        are = closed.are;
        forward = forward;
        backward = backward;
        set = record {
          pt = λ i lt. subst (λ (xs : List Bool). Decides (get_or xs i false) (Everywhere v closed.atoms (PipeControls terms) (picks_target v closed.atoms i false))) (sym ept)
              (by_formula (get_or pt i 0) (picks_target v closed.atoms i false) (get_or pt' i false) (closed.forward i lt) (dpt.each i (inside i pt' lt (sym (ap length ept) ∙ forward))));
          pb = λ i lt. subst (λ (xs : List Bool). Decides (get_or xs i false) (Everywhere v closed.atoms (PipeControls terms) (picks_target v closed.atoms i true))) (sym epb)
              (by_formula (get_or pb i 0) (picks_target v closed.atoms i true) (get_or pb' i false) (closed.backward i lt) (dpb.each i (inside i pb' lt (sym (ap length epb) ∙ backward))));
          tv = subst (λ b. Decides b (Everywhere v closed.atoms (PipeControls terms) (alu_passes_target v s))) (sym etv) (by_formula tv (alu_passes_target v s) tv' (closed.target s) dtv);
          lf = late_decides closed.atoms late.atoms second lf (λ them. witnesses_lf v s them) s.lf closed.are late.are late.vars (late.late s ept epb etv) dlf;
          je = late_decides closed.atoms late.atoms second je (λ them. witnesses_je v s them) s.je closed.are late.are late.vars (late.jump s ept epb etv) dje;
          rm = late_decides closed.atoms late.atoms second rm (λ them. witnesses_rm v s them) s.rm closed.are late.are late.vars (late.ret s ept epb etv) drm;
        };
      }
    where
      inside : (i : ℕ) (xs : List Bool) → i < 7 → length xs ≡ 7 → i < length xs
      inside i xs lt seven = omega (arith, lt, seven)

      by_formula : (g : ℕ) (f : ValuationTruth) (b : Bool) → IsDesignGate terms closed.atoms first g f → IsDecided first g b → Decides b (Everywhere v closed.atoms (PipeControls terms) f)
      by_formula = decides v terms closed.atoms (apart closed.atoms closed.are) exists first closed.vars

  -- ---- the verdict

  pub rules_gates : (s : Settings) (net : Gates) (list : List Rule) → AreRules v terms s net list → HaveGatesOfNet net list
  rules_gates s net list rules k r at = (rules.gates k r at).within

  -- the gate of a rule is false exactly where its obligation is
  pub obligation_false : (r : Rules) (h : AreFileRules v terms r) (k : ℕ) (x : Rule) (w : List Bool) → slice_get r.list k ≡ Some x → truth r.net x.gate w ≡ false →
      IsFalseAt v h.are_settings.atoms (PipeControls terms) h.settings (k + 1) w
  obligation_false r h k x w at e =
      let rules = h.are_rules in
      subst (λ (them : List Atom). IsFalseAt v them (PipeControls terms) h.settings (k + 1) w) (same_list rules.atoms h.are_settings.atoms rules.are h.are_settings.are)
      (false_at v terms rules.atoms (apart rules.atoms rules.are) exists r.net rules.vars h.settings r.list rules.count rules.gates k x w at e)

  pub rule_false : (r : Rules) (h : AreFileRules v terms r) (k : ℕ) (x : Rule) (w : List Bool) → slice_get r.list k ≡ Some x →
      IsFalseAt v h.are_settings.atoms (PipeControls terms) h.settings (k + 1) w → truth r.net x.gate w ≡ false
  rule_false r h k x w at f =
      let rules = h.are_rules in
      gate_false v terms rules.atoms (apart rules.atoms rules.are) exists r.net rules.vars h.settings r.list rules.count rules.gates k x w at
      (subst (λ (them : List Atom). IsFalseAt v them (PipeControls terms) h.settings (k + 1) w) (sym (same_list rules.atoms h.are_settings.atoms rules.are h.are_settings.are)) f)

  pub accepts : (s : Settings) (net : Gates) (list : List Rule) → AreSettings v terms s → AreRules v terms s net list → IsRuleDecision net list None → AcceptsPipe v terms s
  accepts s net list settings rules always =
      record {
        settings = settings;
        holds = record {
          obligations = λ i l h. subst (λ (them : List Atom). Everywhere v them (PipeControls terms) (obligation v s them i)) (same_list rules.atoms settings.atoms rules.are settings.are)
              (holds v terms rules.atoms (apart rules.atoms rules.are) exists net rules.vars s list rules.count rules.gates always i l h);
          target = settings.set.tv.yes;
        };
      }

  pub rejects : (s : Settings) (net : Gates) (list : List Rule) (failure : FailedRule) → AreSettings v terms s → AreRules v terms s net list → IsRuleDecision net list (Some failure) →
      RejectsPipe v terms failure.rule failure.valuation.bits
  rejects s net list failure settings rules d =
      let number : d.0 + 1 ≡ failure.rule = sym (d.3 ∙ rules.numbers d.0 d.1 d.2.there) in
      let least = first_false v terms rules.atoms (apart rules.atoms rules.are) exists net rules.vars s list rules.count rules.gates d.0 d.1 failure.valuation.bits d.2 in
      let told = subst (λ (them : List Atom). IsLeastFalse v them (PipeControls terms) s failure.rule failure.valuation.bits) (same_list rules.atoms settings.atoms rules.are settings.are)
      (subst (λ i. IsLeastFalse v rules.atoms (PipeControls terms) s i failure.valuation.bits) number least) in
      record {
        found = s;
        settings = settings;
        least = told;
        refused = λ other accepts. never_accepted v terms ids o s other failure.rule failure.valuation.bits settings told accepts;
      }
