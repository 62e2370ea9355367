-- What the texts of an instruction mean: `bubble`, `failed fetch` and `invalid` are no names of instructions.
use Rattle.std.specs.Prelude.{◌≡◌, ◌↔◌, ℕ, List, true, false, codes}
use Rattle.y86_base.specs.declared.parts.Stat.TheVariants.{Adr, Ins}
use Rattle.y86_base.specs.declared.parts.Variant.{Variant}
use Rattle.y86_isa.specs.Blocks.{reading}
use Rattle.y86_isa.specs.Machine.{is_aok}
use Rattle.y86_isa.specs.Step.{advance}
use Rattle.y86_isa.specs.Work.{work}
use Rattle.y86_isa.specs.declared.machine.Machine.{Machine}
use Rattle.hcl_types.specs.declared.term.Term.{Term}
use Rattle.dp_signals.specs.PipeEquations.{Solves}
use Rattle.dp_signals.specs.PipeNames as row
use Rattle.dp_signals.specs.declared.pipe_state.PipeState.{PipeState}
use Rattle.pipe_stage_text.specs.Instruction.{instruction, is_valid}
use Rattle.pipe_stage_text.specs.StageContents.{fetched}
use Rattle.pipe_stage_text.specs.declared.stage_content.StageContent.{StageContent}
use Rattle.pipe_stage_text.specs.declared.stage_contents.StageContents.{StageContents}

abbrev pub IsBubble : StageContent → Type 0
IsBubble h = h.live ≡ false

abbrev pub IsFailed : StageContent → Type 0
IsFailed h = (h.live ≡ true) × (h.failed ≡ true)

-- its icode has no row in the instruction table, or its ifun exceeds the largest of that row
abbrev pub IsInvalid : StageContent → Type 0
IsInvalid h = (h.live ≡ true) × (h.failed ≡ false) × (is_valid h.icode h.ifun ≡ false)

pub record TextsDiffer (h : StageContent) : Type 0 where
  pub bubble : (instruction h ≡ codes "bubble") ↔ IsBubble h
  pub failed : (instruction h ≡ codes "failed fetch") ↔ IsFailed h
  pub invalid : (instruction h ≡ codes "invalid") ↔ IsInvalid h

-- ---- compared with the run by instructions

-- h is what is read at the PC of a machine
pub record IsReadAt (v : Variant) (m : Machine) (h : StageContent) : Type 0 where
  pub live : h.live ≡ true
  pub failed : h.failed ≡ (reading v m.mem m.pc).error
  pub icode : h.icode ≡ (reading v m.mem m.pc).icode
  pub ifun : h.ifun ≡ (reading v m.mem m.pc).ifun

-- `invalid` is shown exactly if the run by instructions ends with INS, and `failed fetch` exactly if its fetch has
-- status ADR
pub record IsTextOfRun (v : Variant) (m : Machine) (h : StageContent) : Type 0 where
  pub invalid : (instruction h ≡ codes "invalid") ↔ ((advance v m).stat ≡ Ins)
  pub failed : (instruction h ≡ codes "failed fetch") ↔ ((work v m).fetch_stat ≡ Adr)

abbrev pub TextsAreOfRuns : Type 0
TextsAreOfRuns = (v : Variant) (m : Machine) (h : StageContent) → is_aok m.stat ≡ true → IsReadAt v m h → IsTextOfRun v m h

-- what a cycle fetches is read at f_pc, if the file takes the icode and the ifun as they are read
abbrev pub FetchesWhatIsRead : Type 0
FetchesWhatIsRead =
    (v : Variant) (terms : List Term) (p : PipeState) (f : ℕ → ℕ) (watch : StageContents) (m : Machine) → Solves v terms p f → m.mem ≡ p.mem → m.pc ≡ f row.f_pc →
    f row.f_icode ≡ f row.imem_icode → f row.f_ifun ≡ f row.imem_ifun → IsReadAt v m (fetched watch p f)
