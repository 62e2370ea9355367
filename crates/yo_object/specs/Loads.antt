-- How the steps of a load relate to the definitions of object text.
use Rattle.std.specs.Prelude.{◌≡◌, ℕ, List, Result, Ok, Err}
use Rattle.yo_object.specs.declared.object.YoWhy.{YoWhy}
use Rattle.yo_object.specs.declared.object.YoWhy.TheVariants.{Memory}
use Rattle.yo_object.specs.declared.object.YoFault.{YoFault}

-- a successful step left the memory of the definition, and a refused one has the reason of the definition
abbrev pub LeavesMemory : {A : Type 0} → Result A YoWhy → List ℕ → Result (List ℕ) YoWhy → Type 0
LeavesMemory (Ok done) after defined = defined ≡ Ok after
LeavesMemory (Err why) after defined = defined ≡ Err why

-- the answer when memory runs out
abbrev pub out_of_memory : YoFault
out_of_memory = record { line = 0; why = Memory }
