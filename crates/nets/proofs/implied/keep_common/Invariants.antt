use Rattle.nets.proofs.Forcing.{AreCommonTo}
use Rattle.nets.proofs.implied.keep_common.Given as goal

abbrev pub invariant-loop-i : goal.invariant-loop-i
invariant-loop-i l = record { common : AreCommonTo l.fn.marked l.others l.i l.marked }
