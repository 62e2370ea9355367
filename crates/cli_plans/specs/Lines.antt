-- The lines that the program writes on standard error.
use Rattle.std.specs.Prelude.{ℕ, codes, List, [], ◌∷◌, map, slice_get, unwrap_or}
use Rattle.std.specs.List.{concat}
use Rattle.hcl_read.specs.declared.fault.HclFault.{HclFault}
use Rattle.hcl_read.specs.declared.fault.HclWhy.{HclWhy}
use Rattle.hcl_read.specs.declared.fault.HclWhy.TheVariants as whys
use Rattle.hcl_binding.specs.declared.fault.BindFault.{BindFault}
use Rattle.hcl_binding.specs.declared.fault.BindWhy.{BindWhy}
use Rattle.hcl_binding.specs.declared.fault.BindWhy.TheVariants as binding
use Rattle.y86_base.specs.Numeral.{numeral}
use Rattle.yas_asm.specs.declared.fault.AsmFault.{AsmFault}
use Rattle.yas_asm.specs.declared.fault.AsmWhy.{AsmWhy}
use Rattle.yas_asm.specs.declared.fault.AsmWhy.TheVariants as assembly
use Rattle.yo_object.specs.declared.object.YoFault.{YoFault}
use Rattle.yo_object.specs.declared.object.YoWhy.{YoWhy}
use Rattle.yo_object.specs.declared.object.YoWhy.TheVariants.{Syntax, OddDigits, OutsideMemory, AddressTooWide, Memory}

abbrev pub usage_line : List ℕ
usage_line = codes "usage: y86 yas|yis|hcl|ssim|psim|check|sample|big|recheck|ssimp|aig|aigrun\n"

unfoldable pub read_fault_line : List ℕ → List ℕ
read_fault_line name = concat (codes "read fault " ∷ name ∷ codes "\n" ∷ [])

abbrev pub memory_line : List ℕ
memory_line = codes "out of memory\n"

unfoldable pub too_long_line : List ℕ → ℕ → List ℕ
too_long_line name limit = concat (name ∷ codes ": TooLong " ∷ numeral 10 1 limit ∷ codes "\n" ∷ [])

abbrev pub object_reason : YoWhy → List ℕ
object_reason Syntax = codes "Syntax"
object_reason OddDigits = codes "OddDigits"
object_reason OutsideMemory = codes "OutsideMemory"
object_reason AddressTooWide = codes "AddressTooWide"
object_reason Memory = codes "Memory"

abbrev pub assembly_reason : AsmWhy → List ℕ
assembly_reason assembly.Syntax = codes "Syntax"
assembly_reason assembly.BadByte = codes "BadByte"
assembly_reason assembly.NumberTooWide = codes "NumberTooWide"
assembly_reason assembly.LabelTwice = codes "LabelTwice"
assembly_reason assembly.LabelUnknown = codes "LabelUnknown"
assembly_reason assembly.OutsideMemory = codes "OutsideMemory"
assembly_reason assembly.Overlap = codes "Overlap"
assembly_reason assembly.LabelLimit = codes "LabelLimit"
assembly_reason assembly.Memory = codes "Memory"

-- a fault at a line of a file
unfoldable pub fault_line : List ℕ → ℕ → List ℕ → List ℕ
fault_line name line reason = concat (name ∷ codes ":" ∷ numeral 10 1 line ∷ codes ": " ∷ reason ∷ codes "\n" ∷ [])

abbrev pub assembly_fault_line : List ℕ → AsmFault → List ℕ
assembly_fault_line name fault = fault_line name fault.line (assembly_reason fault.why)

abbrev pub object_fault_line : List ℕ → YoFault → List ℕ
object_fault_line name fault = fault_line name fault.line (object_reason fault.why)

abbrev pub hcl_reason : HclWhy → List ℕ
hcl_reason whys.Syntax = codes "Syntax"
hcl_reason whys.BadByte = codes "BadByte"
hcl_reason whys.NumberTooWide = codes "NumberTooWide"
hcl_reason whys.DepthOver64 = codes "DepthOver64"
hcl_reason whys.NamesOver256 = codes "NamesOver256"
hcl_reason whys.Memory = codes "Memory"

-- a fault at a line and a column of a file
unfoldable pub place_line : List ℕ → ℕ → ℕ → List ℕ → List ℕ
place_line name line column reason =
    concat (name ∷ codes ":" ∷ numeral 10 1 line ∷ codes ":" ∷ numeral 10 1 column ∷ codes ": " ∷ reason ∷ codes "\n" ∷ [])

abbrev pub hcl_fault_line : List ℕ → HclFault → List ℕ
hcl_fault_line name fault = place_line name fault.line fault.col (hcl_reason fault.why)

-- a fault about names of a file: each has a blank before it
abbrev pub blank_names : List (List ℕ) → List ℕ
blank_names names = concat (map (λ name. 32 ∷ name) names)

unfoldable pub names_line : List ℕ → List ℕ → List ℕ → List ℕ
names_line name reason names = concat (name ∷ codes ": " ∷ reason ∷ names ∷ codes "\n" ∷ [])

abbrev pub bind_reason : BindWhy → List ℕ
bind_reason binding.Unknown = codes "Unknown"
bind_reason binding.Twice = codes "Twice"
bind_reason binding.Missing = codes "Missing"
bind_reason binding.KindMismatch = codes "KindMismatch"
bind_reason binding.Redefines = codes "Redefines"
bind_reason binding.Memory = codes "Memory"

abbrev pub bind_fault_line : List ℕ → BindFault → List ℕ
bind_fault_line name fault = names_line name (bind_reason fault.why) (blank_names (fault.name ∷ []))

-- the names of rows of a table
abbrev pub names_at : List (List ℕ) → List ℕ → List (List ℕ)
names_at names ids = map (λ id. unwrap_or (slice_get names id) []) ids

abbrev pub cycle_line : List ℕ → List (List ℕ) → List ℕ
cycle_line name names = names_line name (codes "Cycle") (blank_names names)
