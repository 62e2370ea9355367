-- The lines of a cycle report all that the cycle changes in registers and memory.
use Rattle.std.specs.Prelude.{◌≡◌, ◌<◌, ℕ, true, List, [], ◌∷◌, Some, is_some}
use Rattle.std.specs.List.{AllByRecursion}
use Rattle.y86_base.specs.Image.{word_at}
use Rattle.y86_base.specs.Registers.{with_register}
use Rattle.y86_base.specs.declared.parts.Variant.{Variant}
use Rattle.y86_isa.specs.Blocks.{stored}
use Rattle.y86_isa.specs.declared.machine.Store.{Store}
use Rattle.hcl_types.specs.declared.term.Term.{Term}
use Rattle.dp_signals.specs.PipeCycle.{next}
use Rattle.dp_signals.specs.PipeEquations.{Solves}
use Rattle.dp_signals.specs.declared.pipe_state.PipeState.{PipeState}
use Rattle.pipe_stage_text.specs.Cycle.{told_store, told_writes}

-- the registers after writes of words, one after another
abbrev pub after_writes : List ℕ → List (ℕ × ℕ) → List ℕ
after_writes registers [] = registers
after_writes registers (write ∷ rest) = after_writes (with_register registers write.0 write.1) rest

abbrev pub IsOfRegister : ℕ × ℕ → Type 0
IsOfRegister write = write.0 < 15

-- f gives the values of the cycle that begins in the state p
pub record TellsChanges (p : PipeState) (f : ℕ → ℕ) : Type 0 where
  pub registers : (next p f).regs ≡ after_writes p.regs (told_writes p f)
  pub of_registers : AllByRecursion IsOfRegister (told_writes p f)
  pub memory : (next p f).mem ≡ stored p.mem (told_store p f)
  pub inside : (store : Store) → told_store p f ≡ Some store → is_some (word_at p.mem store.addr) ≡ true

abbrev pub EachCycleTellsChanges : Type 0
EachCycleTellsChanges = (v : Variant) (terms : List Term) (p : PipeState) (f : ℕ → ℕ) → Solves v terms p f → TellsChanges p f
