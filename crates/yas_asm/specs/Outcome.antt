-- How the result of a function that may run out of memory relates to its definition.
use Rattle.std.specs.Prelude.{ℕ, ◌+◌, ◌≡◌, ◌⊎◌, Result, Ok, Err, Option, Some, None}
use Rattle.yas_asm.specs.declared.fault.AsmWhy.{AsmWhy}
use Rattle.yas_asm.specs.declared.fault.AsmWhy.TheVariants.{Memory}
use Rattle.yas_asm.specs.declared.fault.AsmFault.{AsmFault}

-- unless memory runs out, it continues exactly if there is no fault, and otherwise reports that fault
abbrev pub StopsWith : {A : Type 0} → Result A AsmWhy → Option AsmWhy → Type 0
StopsWith (Ok _) said = said ≡ None
StopsWith (Err why) said = (why ≡ Memory) ⊎ (said ≡ Some why)

-- it returns this value, as its caller sees it, or this fault, or out of memory, which has no line
abbrev pub GivesOrFaults : {A B : Type 0} → (A → B) → Result A AsmFault → Result B AsmFault → Type 0
GivesOrFaults view (Ok value) said = said ≡ Ok (view value)
GivesOrFaults view (Err fault) said = ((fault.why ≡ Memory) × (fault.line ≡ 0)) ⊎ (said ≡ Err fault)

-- the number of a line with a fault, counted from 1; 0 for out of memory
abbrev pub line_for : ℕ → AsmWhy → ℕ
line_for passed Memory = 0
line_for passed _ = passed + 1
