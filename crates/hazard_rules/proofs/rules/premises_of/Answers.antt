use Rattle.nets.proofs.Truths.{begins_more}
use Rattle.pipe_motion.proofs.Kept.{is_flow_kept}
use Rattle.pipe_gates.proofs.Choices.{over_more}
use Rattle.hazard_rules.proofs.rules.premises_of.Goals as goal

pub premise_gate-requires-2-clause-flow : goal.premise_gate-requires-2-clause-flow
premise_gate-requires-2-clause-flow c = is_flow_kept c.premise_gate.ensures.extends c.in_ok-flow.ensures.has_truth

pub returns-clause-flow : goal.returns-clause-flow
returns-clause-flow c = is_flow_kept (begins_more c.premise_gate.ensures.extends c.premise_gate-2.ensures.extends) c.in_ok-flow.ensures.has_truth

pub returns-clause-always : goal.returns-clause-always
returns-clause-always c = over_more c.premise_gate-2.ensures.extends c.in_ok-always.ensures.has_truth
