use Rattle.yis_pure_runs.proofs.Near.{apart_near, fetched_near, near_apart, near_fewer, near_from_pure}
use Rattle.yis_pure_runs.proofs.laws.law_of_near_purity.Goals as goal

pub returns-clause-pure : goal.returns-clause-pure
returns-clause-pure c = near_from_pure

pub returns-clause-fewer : goal.returns-clause-fewer
returns-clause-fewer c = near_fewer

pub returns-clause-apart : goal.returns-clause-apart
returns-clause-apart c = λ v image n. (near_apart v image n, apart_near v image n)

pub returns-clause-fetch : goal.returns-clause-fetch
returns-clause-fetch c = fetched_near
