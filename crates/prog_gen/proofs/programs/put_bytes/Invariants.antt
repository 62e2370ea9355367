use Rattle.std.proofs.Common.{◌≡◌, ◌≤◌, ◌-◌, ◌+◌, length, drop}
use Rattle.std.proofs.Math.Seq.{sets}
use Rattle.prog_gen.proofs.programs.put_bytes.Given as goal

abbrev pub invariant-loop-i : goal.invariant-loop-i
invariant-loop-i l = record {
  within : l.i ≤ length l.bytes;
  size : length l.image ≡ length l.fn.image;
  rest : sets l.image (l.at + l.i) (drop l.i l.bytes) ≡ sets l.fn.image (l.at + 0) (drop 0 l.bytes);
}

abbrev pub decreases-loop-i : goal.decreases-loop-i
decreases-loop-i l = length l.bytes - l.i
