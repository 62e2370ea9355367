use Rattle.std.proofs.Common.{◌≡◌, reverse, drop, []}
use Rattle.hcl_faults.specs.Brackets.{open_behind}
use Rattle.hcl_faults.proofs.brackets.open_brackets.Given as goal

abbrev pub invariant-loop-token : goal.invariant-loop-token
invariant-loop-token l = open_behind (reverse l.open_ones.items) (drop l.token-index l.tokens) ≡ open_behind [] l.tokens
