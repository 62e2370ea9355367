use Rattle.hcl_faults.proofs.Runs.{Reached}
use Rattle.hcl_faults.proofs.expected.state_behind.Given as goal

abbrev pub invariant-tokens : goal.invariant-tokens
invariant-tokens l = Reached l.text l._done l.state l.rest
