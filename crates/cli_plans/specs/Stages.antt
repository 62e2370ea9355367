-- The results of the stages that commands share: an image, the status of a run; and the limits on the size of files.
use Rattle.std.specs.Prelude.{ℕ, List, Result, Ok, Err}
use Rattle.y86_base.specs.declared.parts.Stat.{Stat}
use Rattle.y86_base.specs.declared.parts.Stat.TheVariants.{Hlt}
use Rattle.yo_object.specs.declared.object.YoFault.{YoFault}
use Rattle.cli_plans.specs.Lines.{object_fault_line}
use Rattle.cli_plans.specs.Plan.{Answer, refused}

-- the most bytes of an object file or an assembly file, and of an HCL file
abbrev pub file_limit : ℕ
file_limit = 1048576

abbrev pub hcl_limit : ℕ
hcl_limit = 65536

-- the image of an object text, or the refusal of a text with a fault
abbrev pub image_of_text : List ℕ → Result (List ℕ) YoFault → Result (List ℕ) Answer
image_of_text name (Ok image) = Ok image
image_of_text name (Err fault) = Err (refused 5 (object_fault_line name fault))

-- 0 if a run ended at a halt, otherwise 1
abbrev pub run_status : Stat → ℕ
run_status Hlt = 0
run_status _ = 1
