use Rattle.std.proofs.Common.{◌≡◌, ◌≤◌, length, false}
use Rattle.hcl_read.specs.Tokens.{skipped}
use Rattle.hcl_read.proofs.scan.after_gap.Given as goal

abbrev pub invariant-loop-byte : goal.invariant-loop-byte
invariant-loop-byte l = record {
  value : skipped l.comment l.rest ≡ skipped false l.bytes;
  shorter : length l.rest ≤ length l.bytes;
}

abbrev pub decreases-loop-byte : goal.decreases-loop-byte
decreases-loop-byte l = length l.rest
