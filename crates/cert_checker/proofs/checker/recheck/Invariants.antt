use Rattle.std.proofs.Common.{◌≡◌, length}
use Rattle.cert_checker.proofs.Going.{IsAt}
use Rattle.cert_checker.proofs.checker.recheck.Given as goal

abbrev pub invariant-lines : goal.invariant-lines
invariant-lines l = record {
  vars : l.vars ≡ l.g.net.vars;
  at : IsAt l.g l.bytes l.known l.rest l.line;
}

abbrev pub decreases-lines : goal.decreases-lines
decreases-lines l = length l.rest
