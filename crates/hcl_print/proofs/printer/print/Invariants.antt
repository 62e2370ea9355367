use Rattle.std.proofs.Common.{◌≡◌, ◌++◌, drop}
use Rattle.hcl_print.specs.Print.{printed}
use Rattle.hcl_print.proofs.printer.print.Given as goal

abbrev pub invariant-loop-item : goal.invariant-loop-item
invariant-loop-item l = l.out.items ++ printed (drop l.item-index l.item-items) ≡ printed l.f.items
