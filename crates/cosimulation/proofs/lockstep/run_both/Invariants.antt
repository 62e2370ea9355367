use Rattle.std.proofs.Common.{◌+◌, ◌≤◌}
use Rattle.cosimulation.proofs.Alike.{SoFar}
use Rattle.cosimulation.proofs.lockstep.run_both.Given as goal

abbrev pub invariant-loop-k : goal.invariant-loop-k
invariant-loop-k g l = record {
  so_far : SoFar l.v l.fn.p l.fn.m l.k l.steps l.p l.m;
  cycles : l.p.cycles ≤ l.fn.p.cycles + l.k;
}
