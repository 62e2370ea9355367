-- What the gates of an obligation are made from stays as the net grows.
use Rattle.std.proofs.Common.{arith}
use Rattle.nets.specs.Nets.{Gates, ExtendsNet}
use Rattle.ctl_picks.proofs.Inside.{inside_more}
use Rattle.pipe_motion.proofs.Kept.{flow_stays}
use Rattle.pipe_gates.specs.declared.inputs.RuleInputs.{RuleInputs}
use Rattle.pipe_gates.specs.Inputs.{HasInputs, IsRuleReady}

pub inputs_stay : {old new : Gates} {inputs : RuleInputs} → ExtendsNet old new → HasInputs old inputs → HasInputs new inputs
inputs_stay {old} {new} {inputs} k h = record {
  inside = inside_more k h.inside;
  vars = let same = k.vars in let fits = h.vars in omega (arith, same, fits);
  flow = flow_stays k.more inputs.flow.now h.flow;
}

pub rule_stays_ready : {old new : Gates} {inputs : RuleInputs} → ExtendsNet old new → IsRuleReady old inputs → IsRuleReady new inputs
rule_stays_ready k h = record { has = inputs_stay k h.has; known = h.known }
