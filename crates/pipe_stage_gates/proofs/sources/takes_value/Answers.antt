use Rattle.std.proofs.Common.{◌&&◌, if◌then◌else◌}
use Rattle.std.proofs.lemmas.Result.{IfOk-weaker}
use Rattle.nets.proofs.Truths.{begins_more, gate_there}
use Rattle.ctl_picks.proofs.Inside.{inside_more}
use Rattle.ctl_atoms.specs.declared.leaf.Leaf.TheVariants.{Name}
use Rattle.y86_base.specs.Words.{set}
use Rattle.y86_isa.specs.Table.{row}
use Rattle.dp_signals.specs.PipeNames as signal
use Rattle.y86_isa.specs.Blocks.{destination_e}
use Rattle.ctl_rules.specs.ColumnDemands as words
use Rattle.pipe_fields.specs.Layout.{fields_of}
use Rattle.pipe_motion.specs.Gates.{flow_at}
use Rattle.ctl_rules.proofs.Kept.{asked_two, asked_more, asked_as, asked_gate}
use Rattle.pipe_gates.proofs.Choices.{asked_three, first_leaf}
use Rattle.pipe_stage_gates.proofs.sources.takes_value.Goals as goal

pub returns-clause-has_truth : goal.returns-clause-has_truth
returns-clause-has_truth c =
    let i0 = c.requires.has.inside in
    let k1 = c.from_m_on.ensures.extends in
    let i1 = inside_more k1 i0 in
    let k2 = c.late_destination_is.ensures.extends in
    let i2 = inside_more k2 i1 in
    let k3 = c.and.ensures.extends in
    let i3 = inside_more k3 i2 in
    let k4 = c.picks_leaf.ensures.extends in
    let i4 = inside_more k4 i3 in
    let good = asked_more (begins_more k1 k2) i0 (asked_gate (gate_there c.requires.has.flow.e.good)) in
    let in_e = asked_two (λ w x y. x && y) k3 i2 good c.in_ok-writes.ensures.has_truth c.in_ok-in_e.ensures.has_truth in
    let older = asked_more (begins_more k2 (begins_more k3 k4)) i1 c.in_ok-older.ensures.has_truth in
    IfOk-weaker c.choose.result _ _ (λ _ made. asked_as (asked_three (λ x y z. if x then y else z) c.choose.ensures.extends i4 (asked_more k4 i3 in_e) c.in_ok-taken.ensures.has_truth older made)
    (λ w α cv. first_leaf
    ((flow_at c.args.b.now w c.args.inputs.now.flow.now).e.good && words.is_number cv c.args.operand.source (destination_e (row c.args.inputs.now.variant (fields_of w).e.icode).conditional (set (fields_of w).e.cnd) (fields_of w).e.dst_e))
    (words.is_number cv c.args.operand.source (fields_of w).m.dst_m) (words.is_number cv c.args.operand.source (fields_of w).m.dst_e)
    (words.is_number cv c.args.operand.source (fields_of w).w.dst_m) (words.is_number cv c.args.operand.source (fields_of w).w.dst_e)
    (cv c.args.operand.word) (Name signal.e_valE) (Name signal.m_valM) (Name signal.M_valE) (Name signal.W_valM) (Name signal.W_valE) (Name c.args.operand.rest)))
    c.choose.ensures.has_truth
