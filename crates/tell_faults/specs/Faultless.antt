-- What statuses 0 and 5 of `fault` say of a file.
use Rattle.std.specs.Prelude.{◌≡◌, ℕ, nat_eq, true, List, Option, Some, None, Ok, codes, if◌then◌else◌}
use Rattle.std.specs.List.{ends_with}
use Rattle.fault_report.specs.ObjectBytes.{puts_bytes}
use Rattle.fault_report.specs.Told.{IsWanted}
use Rattle.hcl_design.specs.Designs.{HasDesign}
use Rattle.hcl_types.specs.declared.table.Datapath.{Datapath}
use Rattle.seq_plus.specs.Datapaths.{table_rows}
use Rattle.tell_faults.specs.declared.faulty.Kind.{Kind}
use Rattle.tell_faults.specs.declared.faulty.Kind.TheVariants.{Assembly, Hcl, Object}
use Rattle.tell_words.specs.declared.questions.FaultQuestion.{FaultQuestion}
use Rattle.yas_asm.specs.Assembly.{assembled}
use Rattle.yas_asm.specs.declared.listing.Line.{Line}
use Rattle.yo_object.specs.ObjectText.{object_of}

-- what a file is by the end of its name
abbrev pub kind_by_name : List ℕ → Kind
kind_by_name name = if ends_with nat_eq name (codes ".hcl") then Hcl else if ends_with nat_eq name (codes ".yo") then Object else Assembly

-- the same, but HCL if a datapath is named
abbrev pub kind_of : List ℕ → Option Datapath → Kind
kind_of name (Some path) = Hcl
kind_of name None = kind_by_name name

-- the HCL text is a design for the datapath that is asked for, or for some datapath if none is
abbrev pub HasWantedDesign : Option Datapath → List ℕ → Type 0
HasWantedDesign asked text = (path : Datapath) × IsWanted asked path × HasDesign (table_rows path) text

-- the object text is loaded into memory of this size, and puts a byte
abbrev pub IsLoadable : ℕ → List ℕ → Type 0
IsLoadable size text = (image : List ℕ) × (object_of text size ≡ Ok image) × (puts_bytes text ≡ true)

-- an HCL text has such a design, the assembler accepts a source, and an object text is loadable
abbrev pub IsFaultlessText : Kind → FaultQuestion → List ℕ → Type 0
IsFaultlessText Hcl asked text = HasWantedDesign asked.path text
IsFaultlessText Assembly asked text = (lines : List Line) × (assembled asked.variant text asked.size ≡ Ok lines)
IsFaultlessText Object asked text = IsLoadable asked.size text

-- the text of a file with this name
abbrev pub IsFaultlessFile : List ℕ → FaultQuestion → List ℕ → Type 0
IsFaultlessFile name asked text = IsFaultlessText (kind_of name asked.path) asked text
