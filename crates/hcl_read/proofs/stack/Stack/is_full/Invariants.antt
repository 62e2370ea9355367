use Rattle.std.proofs.Common.{◌≡◌, ◌+◌, ◌<◌, ◌≤◌, length, reverse}
use Rattle.hcl_read.specs.Depth.{depth_of}
use Rattle.hcl_read.proofs.stack.Stack.is_full.Given as goal

abbrev pub invariant-frames : goal.invariant-frames
invariant-frames l = record {
  some : 0 < l.room;
  most : l.room ≤ 64;
  depth : l.nots + depth_of l.self + l.room ≡ 64 + depth_of (reverse l.rest);
}

abbrev pub decreases-frames : goal.decreases-frames
decreases-frames l = length l.rest
