use Rattle.std.proofs.Common.{◌≡◌, ◌++◌, drop, take}
use Rattle.std.specs.Prelude.{filter}
use Rattle.hcl_read.specs.Tokens.{tokens}
use Rattle.hcl_faults.specs.Expected.{follows}
use Rattle.hcl_faults.proofs.expected.expected_kinds.Given as goal

abbrev pub invariant-loop-kind : goal.invariant-loop-kind
invariant-loop-kind l =
    l.list.items ++ filter (follows (take l.count (tokens l.text))) (drop l.kind-index l.kinds) ≡ filter (follows (take l.count (tokens l.text))) l.kinds
