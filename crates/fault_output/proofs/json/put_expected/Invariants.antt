use Rattle.std.proofs.Common.{◌≡◌, ◌++◌, true, drop, codes}
use Rattle.fault_output.specs.Json.{strings_text}
use Rattle.fault_output.proofs.json.put_expected.Given as goal

abbrev pub invariant-loop-name : goal.invariant-loop-name
invariant-loop-name l = l.out.items ++ strings_text l.is_first (drop l.name-index l.expected) ≡ (l.fn.out.items ++ codes ", \"expected\": [") ++ strings_text true l.expected
