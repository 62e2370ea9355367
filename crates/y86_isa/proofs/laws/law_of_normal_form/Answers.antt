use Rattle.y86_isa.proofs.Normal.{kept_by_normal, normal-bad}
use Rattle.y86_isa.proofs.Runs.{is_aok-from_not}
use Rattle.y86_isa.proofs.laws.law_of_normal_form.Goals as goal

pub returns-clause-keeps : goal.returns-clause-keeps
returns-clause-keeps c = kept_by_normal

pub returns-clause-bad : goal.returns-clause-bad
returns-clause-bad c = λ r s h. normal-bad r s (is_aok-from_not r.stat h)
