use Rattle.std.proofs.Common.{◌≡◌, ◌++◌, drop, codes}
use Rattle.fault_output.specs.Json.{chars_text}
use Rattle.fault_output.proofs.json.put_string.Given as goal

abbrev pub invariant-loop-byte : goal.invariant-loop-byte
invariant-loop-byte l = l.out.items ++ chars_text (drop l.byte-index l.bytes) ≡ (l.fn.out.items ++ codes "\"") ++ chars_text l.bytes
