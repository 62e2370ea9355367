-- The result of assembling a file: its object text, or a refusal.
use Rattle.std.proofs.Common.{◌≡◌, ◌≢◌, ℕ, List, refl, inl, inr, Ok, Err, Vec}
use Rattle.std.specs.Borrow.{Bor}
use Rattle.std.specs.Global.{Global}
use Rattle.y86_base.specs.declared.parts.Variant.{Variant}
use Rattle.yas_asm.specs.Assembly.{assembled}
use Rattle.yas_asm.specs.Listing.{Listed, lines_of}
use Rattle.yas_asm.specs.Outcome as assembler
use Rattle.yas_asm.specs.declared.fault.AsmFault.{AsmFault}
use Rattle.yas_asm.specs.declared.fault.AsmWhy.TheVariants as assembly
use Rattle.yo_object.specs.Printed.{printed}
use Rattle.cli_plans.specs.declared.stop_reason.InputFault.TheVariants.{AtLine}
use Rattle.cli_plans.specs.declared.stop_reason.StopReason.TheVariants.{Refused}
use Rattle.cli_runs.specs.Answers.{text_of_listing}
use Rattle.cli_plans.specs.PlanFollowing.{IsStageResult}
use Rattle.cli_plans.specs.Lines.{assembly_reason}

-- a source that the code refuses has the fault of the definition
pub source_refused : (v : Variant) (name why : Bor (List ℕ)) (source : List ℕ) (size : ℕ) (fault : AsmFault) → fault.why ≢ assembly.Memory →
    assembler.GivesOrFaults lines_of (Err fault) (assembled v source size) → why.now ≡ assembly_reason fault.why →
    IsStageResult (λ (text : Vec ℕ Global). text.items) (text_of_listing name.now source (assembled v source size)) (Err (Refused name (AtLine fault.line why)))
source_refused v name why source size fault other (inl memory) reason = absurd (other memory.0)
source_refused v name why source size fault other (inr said) reason = inr (refl, rw (said, reason) refl)

-- a source that the code accepts has the printed text of its listing
pub source_listed : (v : Variant) (name source : List ℕ) (size : ℕ) (listing : Listed) (text : Vec ℕ Global) → assembler.GivesOrFaults lines_of (Ok listing) (assembled v source size) →
    listing.source ≡ source → text.items ≡ printed listing → text_of_listing name source (assembled v source size) ≡ Ok text.items
source_listed v name source size listing text said same printed_is =
    rw (said, printed_is, ← same) refl
