use Rattle.y86_answer_laws.proofs.Commands.{aig_plan_yes, aigrun_plan_one, big_plan_one, certify_plan_yes, check_pipe_plan_one, check_seq_plan_one, hcl_plan_one, no_command_one, psim_plan_one, sample_plan_one, ssim_plan_one, yas_plan_one, yis_plan_one}
use Rattle.y86_answer_laws.proofs.laws.law_of_one_answer.Goals as goal

pub returns-clause-yas : goal.returns-clause-yas
returns-clause-yas c = yas_plan_one

pub returns-clause-yis : goal.returns-clause-yis
returns-clause-yis c = yis_plan_one

pub returns-clause-hcl : goal.returns-clause-hcl
returns-clause-hcl c = hcl_plan_one

pub returns-clause-ssim : goal.returns-clause-ssim
returns-clause-ssim c = ssim_plan_one

pub returns-clause-psim : goal.returns-clause-psim
returns-clause-psim c = psim_plan_one

pub returns-clause-check_seq : goal.returns-clause-check_seq
returns-clause-check_seq c = check_seq_plan_one

pub returns-clause-check_pipe : goal.returns-clause-check_pipe
returns-clause-check_pipe c = check_pipe_plan_one

pub returns-clause-big : goal.returns-clause-big
returns-clause-big c = big_plan_one

pub returns-clause-sample : goal.returns-clause-sample
returns-clause-sample c = sample_plan_one

pub returns-clause-certify_pipe : goal.returns-clause-certify_pipe
returns-clause-certify_pipe c = certify_plan_yes

pub returns-clause-aig : goal.returns-clause-aig
returns-clause-aig c = aig_plan_yes

pub returns-clause-no_command : goal.returns-clause-no_command
returns-clause-no_command c = no_command_one

pub returns-clause-aigrun : goal.returns-clause-aigrun
returns-clause-aigrun c = aigrun_plan_one
