use Rattle.std.proofs.Common.{◌<◌, ℕ, arith, length}
use Rattle.pipe_motion.specs.Gates.{HasFlow}
use Rattle.pipe_motion.proofs.Kept.{flow_stays}
use Rattle.test_control.proofs.flows.judged.Goals as goal

pub flow_legal_gate-requires : goal.flow_legal_gate-requires
flow_legal_gate-requires c =
    let yes = c.in_ok-yes.ensures.has_truth.within in
    let more = c.constant-2.ensures.extends.more in
    let no = c.in_ok-no.ensures.has_truth.within in
    record { d = c.stage_flow.ensures _ (omega (arith, yes, more)) no; e = c.stage_flow-2.ensures _ (omega (arith, yes, more)) no; m = c.stage_flow-3.ensures _ (omega (arith, yes, more)) no; w = c.stage_flow-4.ensures _ (omega (arith, yes, more)) no }

pub path_gate-requires : goal.path_gate-requires
path_gate-requires c =
    let yes = c.in_ok-yes.ensures.has_truth.within in
    let more = c.constant-2.ensures.extends.more in
    let no = c.in_ok-no.ensures.has_truth.within in
    flow_stays c.flow_legal_gate.ensures.extends.more _ (record { d = c.stage_flow.ensures _ (omega (arith, yes, more)) no; e = c.stage_flow-2.ensures _ (omega (arith, yes, more)) no; m = c.stage_flow-3.ensures _ (omega (arith, yes, more)) no; w = c.stage_flow-4.ensures _ (omega (arith, yes, more)) no })
