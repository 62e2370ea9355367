use Rattle.std.proofs.Common.{◌≡◌, ◌≤◌, ◌-◌, ◌+◌, ◌*◌, take, ◌++◌}
use Rattle.prog_gen.specs.Programs.{code}
use Rattle.prog_gen.proofs.Laid.{IsLaid}
use Rattle.prog_gen.proofs.programs.program.Given as goal

abbrev pub invariant-loop-k : goal.invariant-loop-k
invariant-loop-k l = record {
  within : l.k ≤ l.n;
  most : l.at ≤ 10 * l.k;
  laid : IsLaid (l.data_at + 2048) l.at l.image;
  rest : take l.at l.image ++ code l.data_at (l.n - l.k) l.at l.draws ≡ code l.data_at l.n 0 l.n;
}

abbrev pub decreases-loop-k : goal.decreases-loop-k
decreases-loop-k l = l.n - l.k
