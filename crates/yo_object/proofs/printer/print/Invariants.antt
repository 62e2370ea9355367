use Rattle.std.proofs.Common.{◌≡◌, take}
use Rattle.std.specs.List.{flat_map}
use Rattle.yo_object.specs.Printed as definition
use Rattle.yo_object.proofs.printer.print.Given as goal

abbrev pub invariant-loop-line : goal.invariant-loop-line
invariant-loop-line l = l.text.items ≡ flat_map (definition.printed_line l.source) (take l.line-index l.line-items)
