use Rattle.y86_isa.proofs.Effects.{does_nothing-from_bad}
use Rattle.y86_isa.proofs.Runs.{is_aok-from_not}
use Rattle.y86_isa.proofs.Works.{FollowsFetch-work, FollowsRow-work}
use Rattle.y86_isa.proofs.laws.law_of_work.Goals as goal

pub returns-clause-fetch : goal.returns-clause-fetch
returns-clause-fetch c = FollowsFetch-work

pub returns-clause-row : goal.returns-clause-row
returns-clause-row c = FollowsRow-work

pub returns-clause-bad : goal.returns-clause-bad
returns-clause-bad c = λ v m h. does_nothing-from_bad v m (is_aok-from_not _ h)
