use Rattle.y86_isa.proofs.Records.{record_tells}
use Rattle.y86_isa.proofs.Runs.{advance-stopped, retired-stopped, is_aok-from_not}
use Rattle.y86_isa.proofs.Steps.{mem-advance}
use Rattle.y86_isa.proofs.Changes.{ChangesOneRegister-advance, KeepsFlags-advance, FallsThrough-advance}
use Rattle.y86_isa.proofs.laws.law_of_steps.Goals as goal

pub returns-clause-registers : goal.returns-clause-registers
returns-clause-registers c = ChangesOneRegister-advance

pub returns-clause-memory : goal.returns-clause-memory
returns-clause-memory c = mem-advance

pub returns-clause-flags : goal.returns-clause-flags
returns-clause-flags c = KeepsFlags-advance

pub returns-clause-pc : goal.returns-clause-pc
returns-clause-pc c = FallsThrough-advance

pub returns-clause-stopped : goal.returns-clause-stopped
returns-clause-stopped c = λ v m h. (advance-stopped v m (is_aok-from_not m.stat h), retired-stopped v m (is_aok-from_not m.stat h))

pub returns-clause-record : goal.returns-clause-record
returns-clause-record c = record_tells
