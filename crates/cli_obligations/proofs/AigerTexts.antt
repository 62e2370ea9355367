-- The obligations of a design as an AIGER text, and the counts of the outputs of one, as answers.
use Rattle.std.proofs.Common.{◌≡◌, inl, inr, ℕ, ◌+◌, ◌<◌, Bool, true, not, List, length, get_or, slice_get, Some, refl, sym, ap, ◌∙◌, Result, Err, arith}
use Rattle.std.specs.Borrow.{Bor}
use Rattle.std.proofs.lemmas.List.{length-map}
use Rattle.std.proofs.lemmas.Option.{slice_get-get_or}
use Rattle.std.proofs.lemmas.Bool.{not-true}
use Rattle.pipe_obligations.specs.Rules.{rule_count}
use Rattle.nets.specs.Nets.{truth}
use Rattle.aiger_out.specs.declared.fault.AagFault.{AagFault}
use Rattle.aiger_out.specs.declared.form.Header.{Header}
use Rattle.aiger_out.specs.Form.{IsFault}
use Rattle.aiger_out.specs.Written.{IsAagOf}
use Rattle.aiger_out.specs.WrittenLines.{gate_of, gates_of, numbers_of}
use Rattle.aiger_out.proofs.WrittenText.{gate_there, number_there}
use Rattle.aiger_run.specs.PrintedCounts.{PrintsCounts}
use Rattle.control_check.specs.PipeVerdicts.{AreFileRules}
use Rattle.control_check.proofs.PipeVerdict.{obligation_false, rule_false}
use Rattle.ctl_atoms.proofs.Solved.{leaves_exist}
use Rattle.dp_signals.specs.PipeTable.{pipe_rows}
use Rattle.hcl_types.specs.Tables.{IsOrderOf}
use Rattle.hcl_types.specs.declared.term.Term.{Term}
use Rattle.pipe_obligations.specs.FileSettings.{IsFalseAt, PipeControls}
use Rattle.ctl_rules.specs.declared.rules.Rule.{Rule}
use Rattle.ctl_rules.specs.declared.rules.Rules.{Rules}
use Rattle.y86_base.specs.declared.parts.Variant.{Variant}
use Rattle.cli_obligations.specs.AigerTexts.{AigAnswers, AigrunAnswers, RefusesAag, IsAigOfDesign, aag_reason}
use Rattle.cli_verdicts.specs.Verdicts.{RefusesControl}
use Rattle.cli_plans.specs.PlanFollowing.{RefusesWith, WritesAnswer, SinkState}
use Rattle.cli_plans.specs.Plan.{done}
use Rattle.cli_plans.specs.Stops.{answer_at}
use Rattle.cli_plans.specs.declared.stop_reason.InputFault.TheVariants.{AtLine}
use Rattle.cli_plans.specs.declared.stop_reason.StopReason as code
use Rattle.cli_plans.specs.declared.stop_reason.StopReason.TheVariants.{Refused}
use Rattle.cli_plans.proofs.Does.{refused_says, says_more}

module _ (v : Variant) (terms : List Term) (ids : List ℕ) (o : IsOrderOf pipe_rows terms ids) (r : Rules) (h : AreFileRules v terms r) where
  -- a design has one list of atoms
  one_list : h.are_rules.atoms ≡ h.are_settings.atoms
  one_list = (let leaves = leaves_exist pipe_rows terms ids o in h.are_rules.are.are leaves.0 leaves.1 ∙ sym (h.are_settings.are.are leaves.0 leaves.1))

  no_rule : Rule
  no_rule = record { number = 0; gate = 0 }

  rule_there : (i : ℕ) → i < rule_count → slice_get r.list i ≡ Some (get_or r.list i no_rule)
  rule_there i l = slice_get-get_or r.list i no_rule (let count = h.are_rules.count in omega (arith, l, count))

  gate_is : (i : ℕ) → i < rule_count → get_or (gates_of r.list) i 0 ≡ (get_or r.list i no_rule).gate
  gate_is i l = gate_there r.list i (get_or r.list i no_rule) (rule_there i l)

  abbrev False : ℕ → List Bool → Type 0
  False k w = IsFalseAt v h.are_settings.atoms (PipeControls terms) h.settings k w

  is_false : (i : ℕ) → i < rule_count → (w : List Bool) → not (truth r.net (get_or (gates_of r.list) i 0) w) ≡ true → False (i + 1) w
  is_false i l w e =
      obligation_false v terms ids o r h i (get_or r.list i no_rule) w (rule_there i l)
      (sym (ap (λ (g : ℕ). truth r.net g w) (gate_is i l)) ∙ not-true (truth r.net (get_or (gates_of r.list) i 0) w) e)

  is_one : (i : ℕ) → i < rule_count → (w : List Bool) → False (i + 1) w → not (truth r.net (get_or (gates_of r.list) i 0) w) ≡ true
  is_one i l w f = ap not (ap (λ (g : ℕ). truth r.net g w) (gate_is i l) ∙ rule_false v terms ids o r h i (get_or r.list i no_rule) w (rule_there i l) f)

  pub tells : (text : List ℕ) → (header : Header) × IsAagOf r.net (gates_of r.list) (numbers_of r.list) text header → IsAigOfDesign v terms text
  tells text (header, w) =
      let count : length (gates_of r.list) ≡ rule_count = length-map r.list gate_of ∙ h.are_rules.count in
      record {
        settings = h.settings;
        are = h.are_settings;
        header = header;
        net = r.net;
        gates = gates_of r.list;
        numbers = numbers_of r.list;
        written = w;
        inputs = w.inputs ∙ (let vars = h.are_rules.vars in let same = ap length one_list in omega (arith, vars, same));
        outputs = w.outputs ∙ count;
        names = λ i l. number_there r.list i (get_or r.list i no_rule) (rule_there i l) ∙ h.are_rules.numbers i (get_or r.list i no_rule) (rule_there i l);
        tells = λ i l bits. (not (truth r.net (get_or (gates_of r.list) i 0) bits), w.values i (omega (arith, l, count)) bits, (is_false i l bits, is_one i l bits));
      }

-- ---- the answers

pub said_obligations : (name : List ℕ) (v : Variant) (terms : List Term) (text : List ℕ) (old new : SinkState) (result : Result ℕ code.StopReason) → IsAigOfDesign v terms text →
    WritesAnswer (λ a. a ≡ done 0 text) old new result → WritesAnswer (AigAnswers name v terms) old new result
said_obligations name v terms text old new result tell s =
    says_more (λ a. a ≡ done 0 text) (AigAnswers name v terms) old new result (λ a told. inl (record { text = text; tells = tell; told = told })) s

pub said_refusal : (name : List ℕ) (v : Variant) (terms : List Term) (seen : SinkState) (stop : code.StopReason) →
    RefusesWith (RefusesControl name pipe_rows terms) stop → WritesAnswer (AigAnswers name v terms) seen seen (Err stop)
said_refusal name v terms seen stop refuses =
    refused_says (AigAnswers name v terms) (RefusesControl name pipe_rows terms) seen stop (λ a is. inr is) refuses

pub refuses_aag : (name why : Bor (List ℕ)) (text : List ℕ) (fault : AagFault) → IsFault 1000000 text fault.line fault.why → why.now ≡ aag_reason fault.why
    → RefusesAag name.now text (answer_at (Refused name (AtLine fault.line why)))
refuses_aag name why text fault is reason = record { line = fault.line; why = fault.why; fault = is; told = rw reason refl }

pub said_counts : (name text : List ℕ) (seed : ℕ) (counts : List ℕ) (old new : SinkState) (result : Result ℕ code.StopReason) → PrintsCounts text seed counts →
    WritesAnswer (λ a. a ≡ done 0 counts) old new result → WritesAnswer (AigrunAnswers name text seed) old new result
said_counts name text seed counts old new result tell s =
    says_more (λ a. a ≡ done 0 counts) (AigrunAnswers name text seed) old new result (λ a told. inl (record { counts = counts; tells = tell; told = told })) s

pub said_aag_refusal : (name text : List ℕ) (seed : ℕ) (seen : SinkState) (stop : code.StopReason) →
    RefusesWith (RefusesAag name text) stop → WritesAnswer (AigrunAnswers name text seed) seen seen (Err stop)
said_aag_refusal name text seed seen stop refuses = refused_says (AigrunAnswers name text seed) (RefusesAag name text) seen stop (λ a is. inr is) refuses
