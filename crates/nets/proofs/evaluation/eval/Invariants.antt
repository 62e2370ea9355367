use Rattle.std.proofs.Common.{◌-◌, ◌≡◌, ◌≤◌, take, []}
use Rattle.nets.specs.Nets.{values}
use Rattle.nets.proofs.evaluation.eval.Given as goal

abbrev pub invariant-loop-i : goal.invariant-loop-i
invariant-loop-i l = record {
  within : l.i ≤ l.gate;
  bits : l.bits ≡ l.v.bits;
  truths : l.truths.items ≡ values l.v.bits [] (take l.i l.n.gates);
}

abbrev pub decreases-loop-i : goal.decreases-loop-i
decreases-loop-i l = l.gate - l.i
