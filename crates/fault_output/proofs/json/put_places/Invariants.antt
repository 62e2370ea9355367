use Rattle.std.proofs.Common.{◌≡◌, ◌++◌, true, drop, codes}
use Rattle.fault_output.specs.Json.{places_text}
use Rattle.fault_output.proofs.json.put_places.Given as goal

abbrev pub invariant-loop-place : goal.invariant-loop-place
invariant-loop-place l = l.out.items ++ places_text l.is_first (drop l.place-index l.places) ≡ (l.fn.out.items ++ codes ", \"related\": [") ++ places_text true l.places
