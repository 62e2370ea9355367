use Rattle.yis_pure_runs.proofs.Purity.{apart_pure, pure_apart}
use Rattle.yis_pure_runs.proofs.laws.law_of_purity.Goals as goal

pub returns : goal.returns
returns c = λ v image n. (pure_apart v image n, apart_pure v image n)
