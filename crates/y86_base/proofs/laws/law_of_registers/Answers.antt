use Rattle.y86_base.proofs.Memories.{meaning_of-register_name, no_register, register-with_register, register-with_register_other}
use Rattle.y86_base.proofs.laws.law_of_registers.Goals as goal

pub returns-clause-written : goal.returns-clause-written
returns-clause-written c = register-with_register

pub returns-clause-others : goal.returns-clause-others
returns-clause-others c = register-with_register_other

pub returns-clause-none : goal.returns-clause-none
returns-clause-none c = no_register

pub returns-clause-names : goal.returns-clause-names
returns-clause-names c = meaning_of-register_name
