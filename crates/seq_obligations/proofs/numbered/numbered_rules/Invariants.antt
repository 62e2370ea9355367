use Rattle.std.proofs.Common.{◌≡◌, ◌||◌, not, length}
use Rattle.nets.specs.Nets.{ExtendsNet}
use Rattle.ctl_rules.specs.ControlGates.{IsControlGate}
use Rattle.seq_obligations.specs.Rules.{AreNumbered}
use Rattle.seq_obligations.proofs.numbered.numbered_rules.Given as goal

abbrev pub invariant-loop-i : goal.invariant-loop-i
invariant-loop-i g l = record {
  begins : ExtendsNet l.fn.b l.b;
  fits : IsControlGate l.b l.ctl l.fits (g.N.RuleFamily.may l.rules);
  count : length l.list.items ≡ l.i;
  rules : AreNumbered l.b l.ctl (λ i w α cv. not (g.N.RuleFamily.may l.rules w α cv) || g.N.RuleFamily.asks l.rules i w α cv) l.list.items;
}
