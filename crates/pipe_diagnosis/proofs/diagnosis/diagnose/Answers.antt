use Rattle.std.proofs.Common.{◌∙◌, sym, ap, subst, ℕ, List, map}
use Rattle.hcl_types.specs.declared.table.Row.{Row}
use Rattle.hcl_types.specs.Tables.{IsSound}
use Rattle.dp_signals.specs.PipeTable.{pipe_rows}
use Rattle.dp_signals.proofs.Sound.{pipe_sound}
use Rattle.ctl_atoms.specs.declared.leaf.Leaf.{Leaf}
use Rattle.ctl_equations.specs.Controls.{AreControls}
use Rattle.control_values.specs.Given.{assigned, at, field_at}
use Rattle.net_fields.specs.declared.field_specs.FieldSpec.{FieldSpec}
use Rattle.pipe_fields.specs.Layout.{bit_count, fields_of, field_specs}
use Rattle.pipe_requirements.specs.Requirements.{requirements, unread}
use Rattle.motion_repairs.specs.Pairs.{repairs_of}
use Rattle.pipe_obligations.specs.Obligations.{register_controls_of}
use Rattle.pipe_obligations.specs.StageFlows.{flow_of}
use Rattle.findings.proofs.EachMet.{atoms_given}
use Rattle.pipe_diagnosis.proofs.OneWrong.{controls_are, one_wrong}
use Rattle.dp_signals.specs.PipeNames as signal
use Rattle.findings.specs.Findings.{are_right, finding}
use Rattle.pipe_diagnosis.proofs.diagnosis.diagnose.Goals as goal

pub control_values-requires-clause-sound : goal.control_values-requires-clause-sound
control_values-requires-clause-sound c = subst IsSound (sym c.in-Ok.ensures) pipe_sound

pub returns : goal.returns
returns c =
    let terms = c.args.file.now.ordered.now.design.terms in
    let atoms = c.args.atoms.now in
    let w = c.args.bits.now in
    let α = assigned atoms bit_count w in
    let ls = c.in_ok-leaves.leaves.items in
    let solved = subst (λ (rows : List Row). AreControls rows terms (field_at c.field_specs.result.now w) α (at ls)) c.in-Ok.ensures c.in_ok-leaves.ensures.solved in
    let own = subst (λ (ss : List FieldSpec). AreControls pipe_rows terms (field_at ss w) α (at ls)) c.field_specs.ensures solved in
    let cv : ℕ → Leaf = at c.of.result in
    let controls = controls_are terms w α cv (subst (λ (xs : List Leaf). AreControls pipe_rows terms (field_at field_specs w) α (at xs)) (sym c.of.ensures) own) in
    let given = atoms_given pipe_rows terms c.args.file.now.ordered.now.order.ids atoms bit_count w c.requires.ordered c.requires.atoms in
    let v = c.args.file.now.variant in
    let s = c.args.file.now.settings.now in
    let i = c.args.number in
    let same = c.as_slice.ensures.value ∙ sym c.of.ensures in
    let here = c.as_slice.result.now in
    let findings = c.in_ok-found.ensures.findings
    ∙ ap (λ (xs : List Leaf). map (finding signal.f_pc terms α (at xs)) (requirements v s (fields_of w) (flow_of v s (fields_of w)) (register_controls_of α (at xs)) (at xs) i)) same in
    let false_there = c.requires.fails α cv given controls in
    record {
      diagnosis = record {
        atoms_are = given;
        controls = controls;
        false_there = false_there;
        findings = findings;
        one_wrong = λ lt. ap are_right findings ∙ one_wrong v terms s atoms i w α cv c.requires.first lt false_there;
        repairs = c.in_ok-found.ensures.repairs ∙ ap (λ (xs : List Leaf). repairs_of v s (fields_of w) (flow_of v s (fields_of w)) (register_controls_of α (at xs)) unread xs) same;
      };
    }
