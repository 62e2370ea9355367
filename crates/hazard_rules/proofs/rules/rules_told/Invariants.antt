use Rattle.std.proofs.Common.{◌≡◌, true, false, length}
use Rattle.nets.specs.Nets.{ExtendsNet}
use Rattle.pipe_fields.specs.Layout.{fields_of}
use Rattle.pipe_motion.specs.Gates.{IsFlow}
use Rattle.pipe_obligations.specs.StageFlows.{flow_of}
use Rattle.pipe_gates.specs.GateTruths.{IsAtomGate}
use Rattle.pipe_motion_gates.specs.Legality.{premise_when}
use Rattle.hazard_rules.specs.Parts.{AreRuleGates}
use Rattle.hazard_rules.proofs.rules.rules_told.Given as goal

abbrev pub invariant-loop-i : goal.invariant-loop-i
invariant-loop-i l = record {
  begins : ExtendsNet l.fn.b l.b;
  flow : IsFlow l.b l.p.flow (λ w. flow_of l.v l.s (fields_of w));
  always : IsAtomGate l.b l.atoms l.p.always (λ w α. premise_when l.v l.s l.atoms true (fields_of w) α);
  going : IsAtomGate l.b l.atoms l.p.going (λ w α. premise_when l.v l.s l.atoms false (fields_of w) α);
  count : length l.list.items ≡ l.i;
  rules : AreRuleGates l.v l.s l.b l.ctl l.atoms l.list.items;
}
