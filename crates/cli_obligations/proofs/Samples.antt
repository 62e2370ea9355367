-- What the gates of a file's rules at drawn valuations mean for its obligations; and the answers to a sample.
use Rattle.std.proofs.Common.{◌≡◌, inl, inr, ℕ, ◌+◌, ◌-◌, ◌≤◌, Bool, true, List, length, get_or, slice_get, Option, Some, None, sym, ap, ◌∙◌, subst, Result, Err, arith}
use Rattle.std.proofs.lemmas.Bool.{false≢true}
use Rattle.std.proofs.lemmas.Option.{slice_get-get_or, slice_get_within}
use Rattle.pipe_fields.specs.Layout.{bit_count}
use Rattle.pipe_obligations.specs.Rules.{rule_count}
use Rattle.nets.specs.Nets.{truth}
use Rattle.control_check.specs.PipeVerdicts.{AreFileRules}
use Rattle.control_check.proofs.PipeVerdict.{obligation_false, rule_false}
use Rattle.ctl_atoms.proofs.Solved.{leaves_exist}
use Rattle.dp_signals.specs.PipeTable.{pipe_rows}
use Rattle.hcl_types.specs.Tables.{IsOrderOf}
use Rattle.hcl_types.specs.declared.term.Term.{Term}
use Rattle.lane_eval.specs.Search.{IsFirstFalse, holds_drawn}
use Rattle.lane_eval.specs.declared.search.Found.{Found}
use Rattle.prog_gen.specs.Choices.{valuation}
use Rattle.ctl_rules.specs.declared.rules.Rule.{Rule}
use Rattle.ctl_rules.specs.declared.rules.Rules.{Rules}
use Rattle.y86_base.specs.declared.parts.Variant.{Variant}
use Rattle.cli_verdicts.specs.Verdicts.{RefusesControl}
use Rattle.cli_plans.specs.PlanFollowing.{RefusesWith, WritesAnswer, SinkState}
use Rattle.cli_plans.specs.Plan.{done}
use Rattle.cli_obligations.specs.Samples.{DrawnOf, IsFalseDrawn, IsSampled, NoneFalseDrawn, SampleAnswers, found_line, none_line}
use Rattle.cli_plans.specs.declared.stop_reason.StopReason as code
use Rattle.cli_plans.proofs.Does.{refused_says, says_more}

module _ (v : Variant) (terms : List Term) (ids : List ℕ) (o : IsOrderOf pipe_rows terms ids) (r : Rules) (h : AreFileRules v terms r) (seed : ℕ) where
  abbrev drawn : DrawnOf v terms
  drawn = record { settings = h.settings; are = h.are_settings }

  abbrev w : ℕ → List Bool
  w i = valuation v (length h.are_settings.atoms) seed i

  -- a design has one list of atoms
  one_list : h.are_rules.atoms ≡ h.are_settings.atoms
  one_list = (let leaves = leaves_exist pipe_rows terms ids o in h.are_rules.are.are leaves.0 leaves.1 ∙ sym (h.are_settings.are.are leaves.0 leaves.1))

  atoms_are : r.net.vars - bit_count ≡ length h.are_settings.atoms
  atoms_are = (let vars = h.are_rules.vars in let same = ap length one_list in omega (arith, vars, same))

  same_drawn : (i : ℕ) → valuation r.variant (r.net.vars - bit_count) seed i ≡ w i
  same_drawn i = ap (λ x. valuation x (r.net.vars - bit_count) seed i) h.variant ∙ ap (λ n. valuation v n seed i) atoms_are

  none : Rule
  none = record { number = 0; gate = 0 }

  -- an obligation whose rule holds isn't false
  unless : (i k : ℕ) (x : Rule) → slice_get r.list k ≡ Some x → holds_drawn r seed i x ≡ true → IsFalseDrawn v terms drawn seed i (k + 1) → ⊥
  unless i k x at holds f = false≢true (sym (rule_false v terms ids o r h k x (w i) at f) ∙ (sym (ap (truth r.net x.gate) (same_drawn i)) ∙ holds))

  place_of : (k : ℕ) → 1 ≤ k → k ≤ rule_count → slice_get r.list (k - 1) ≡ Some (get_or r.list (k - 1) none)
  place_of k l m = slice_get-get_or r.list (k - 1) none (let count = h.are_rules.count in omega (arith, l, m, count))

  one_back : (k : ℕ) → 1 ≤ k → k ≡ k - 1 + 1
  one_back k l = omega (arith, l)

  all_met : (i : ℕ) → ((k : ℕ) (x : Rule) → slice_get r.list k ≡ Some x → holds_drawn r seed i x ≡ true) → NoneFalseDrawn v terms drawn seed i
  all_met i all k l m f =
      unless i (k - 1) (get_or r.list (k - 1) none) (place_of k l m) (all (k - 1) _ (place_of k l m)) (subst (IsFalseDrawn v terms drawn seed i) (one_back k l) f)

  pub sampled : (count : ℕ) (found : Option Found) → IsFirstFalse (holds_drawn r seed) r.list count found → IsSampled v terms seed count found
  sampled count None all = record { drawn = drawn; none = λ i lt. all_met i (all i lt) }
  sampled count (Some found) f =
      let place : ℕ = f.2.place in
      let within = slice_get_within r.list place f.2.rule f.2.there in
      let count_is = h.are_rules.count in
      let number : place + 1 ≡ found.rule = sym (f.2.numbered ∙ h.are_rules.numbers place f.2.rule f.2.there) in
      record {
        drawn = drawn;
        within = f.0;
        from_one = omega (arith, number);
        to_last = omega (arith, number, within, count_is);
        fails = subst (IsFalseDrawn v terms drawn seed found.index) number
            (obligation_false v terms ids o r h place f.2.rule (w found.index) f.2.there (sym (ap (truth r.net f.2.rule.gate) (same_drawn found.index)) ∙ f.2.fails));
        earlier = λ i lt. all_met i (f.1 i lt);
        before = λ k l lt fails.
            let here = place_of k l (omega (arith, lt, number, within, count_is)) in
            unless found.index (k - 1) (get_or r.list (k - 1) none) here (f.2.before (k - 1) _ (omega (arith, l, lt, number)) here)
            (subst (IsFalseDrawn v terms drawn seed found.index) (one_back k l) fails);
      }

-- ---- the answers

pub said_none : (name : List ℕ) (v : Variant) (terms : List Term) (seed count : ℕ) (old new : SinkState) (result : Result ℕ code.StopReason) → IsSampled v terms seed count None →
    WritesAnswer (λ a. a ≡ done 0 (none_line count)) old new result → WritesAnswer (SampleAnswers name v terms seed count) old new result
said_none name v terms seed count old new result finds s =
    says_more (λ a. a ≡ done 0 (none_line count)) (SampleAnswers name v terms seed count) old new result (λ a told. inl (record { finds = finds; told = told })) s

pub said_found : (name : List ℕ) (v : Variant) (terms : List Term) (seed count : ℕ) (found : Found) (old new : SinkState) (result : Result ℕ code.StopReason) →
    IsSampled v terms seed count (Some found) → WritesAnswer (λ a. a ≡ done 1 (found_line found.index found.rule)) old new result →
    WritesAnswer (SampleAnswers name v terms seed count) old new result
said_found name v terms seed count found old new result finds s =
    says_more (λ a. a ≡ done 1 (found_line found.index found.rule)) (SampleAnswers name v terms seed count) old new result
    (λ a told. inr (inl (record { index = found.index; rule = found.rule; finds = finds; told = told }))) s

pub said_sample_refusal : (name : List ℕ) (v : Variant) (terms : List Term) (seed count : ℕ) (seen : SinkState) (stop : code.StopReason) →
    RefusesWith (RefusesControl name pipe_rows terms) stop → WritesAnswer (SampleAnswers name v terms seed count) seen seen (Err stop)
said_sample_refusal name v terms seed count seen stop refuses =
    refused_says (SampleAnswers name v terms seed count) (RefusesControl name pipe_rows terms) seen stop (λ a is. inr (inr is)) refuses
