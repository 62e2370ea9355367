use Rattle.std.proofs.Common.{◌≡◌, ◌++◌, take}
use Rattle.yo_object.specs.Printed as definition
use Rattle.yo_object.proofs.printer.put_hex_bytes.Given as goal

abbrev pub invariant-loop-byte : goal.invariant-loop-byte
invariant-loop-byte l = l.text.items ≡ l.initial.text.items ++ definition.hex_bytes (take l.byte-index l.bytes)
