use Rattle.program_laws.proofs.Right.{prints_report, prints_run, watched_near, watched_stops}
use Rattle.program_laws.proofs.laws.law_of_checked_programs.Goals as goal

pub returns-clause-psim : goal.returns-clause-psim
returns-clause-psim c =
    λ words name object text bytes image size limit most steps trace v call status is told short accepted told_object short_object loads watched.
    prints_run words name object text bytes image size limit steps trace v call status is told short accepted told_object short_object loads
    (watched_stops v image most steps watched) (watched_near v image most steps watched)

pub returns-clause-yis : goal.returns-clause-yis
returns-clause-yis c =
    λ words object bytes image size limit most steps v call status is told short loads watched.
    prints_report words object bytes image size limit steps v call status is told short loads (watched_stops v image most steps watched)
