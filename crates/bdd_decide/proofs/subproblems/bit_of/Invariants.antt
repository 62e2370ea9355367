use Rattle.std.proofs.Common.{◌≡◌, ◌<◌, false, get_or}
use Rattle.net_fields.specs.Spelling.{spell}
use Rattle.bdd_decide.proofs.subproblems.bit_of.Given as goal

abbrev pub invariant-loop-left : goal.invariant-loop-left
invariant-loop-left l = record {
  within : l.i < l.left;
  same : get_or (spell l.left l.rest) l.i false ≡ get_or (spell l.bits l.part) l.i false;
}

abbrev pub decreases-loop-left : goal.decreases-loop-left
decreases-loop-left l = l.left
