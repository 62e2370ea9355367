use Rattle.y86_call_laws.proofs.Plans.{yas_one, yis_one, told_one, part_one}
use Rattle.y86_call_laws.proofs.laws.law_of_plans.Goals as goal

pub returns-clause-yas : goal.returns-clause-yas
returns-clause-yas c = yas_one

pub returns-clause-yis : goal.returns-clause-yis
returns-clause-yis c = yis_one

pub returns-clause-told : goal.returns-clause-told
returns-clause-told c = told_one

pub returns-clause-part : goal.returns-clause-part
returns-clause-part c = part_one
