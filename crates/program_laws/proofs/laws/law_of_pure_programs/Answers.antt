use Rattle.yis_pure_runs.proofs.Near.{near_from_pure}
use Rattle.program_laws.proofs.Right.{prints_run}
use Rattle.program_laws.proofs.laws.law_of_pure_programs.Goals as goal

pub returns-clause-refines : goal.returns-clause-refines
returns-clause-refines c = λ v told h image k is pure. h.refines image k is (near_from_pure v image k pure)

pub returns-clause-psim : goal.returns-clause-psim
returns-clause-psim c =
    λ words name object text bytes image size limit steps trace v call status is told short accepted told_object short_object loads stops pure.
    prints_run words name object text bytes image size limit steps trace v call status is told short accepted told_object short_object loads stops
    (λ k. near_from_pure v image k (pure k))
