use Rattle.yis_run.proofs.Listed.{ListsChanges-registers, ListsChanges-memory}
use Rattle.yis_run.proofs.Unlisted.{byte-same}
use Rattle.yis_run.proofs.laws.law_of_report.Goals as goal

pub returns-clause-registers : goal.returns-clause-registers
returns-clause-registers c = ListsChanges-registers

pub returns-clause-memory : goal.returns-clause-memory
returns-clause-memory c = ListsChanges-memory

pub returns-clause-bytes : goal.returns-clause-bytes
returns-clause-bytes c = byte-same
