use Rattle.std.proofs.Common.{◌≡◌, ◌-◌}
use Rattle.hcl_read.specs.Machine.{negate}
use Rattle.hcl_read.proofs.steps.negate.Given as goal

abbrev pub invariant-loop-i : goal.invariant-loop-i
invariant-loop-i l = negate (l.nots - l._i) l.all ≡ negate l.nots l.fn.e
