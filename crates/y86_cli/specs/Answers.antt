-- What each command answers, as a plan.
use Rattle.std.specs.Prelude.{Option, Some, None}
use Rattle.y86_words.specs.Forms.{Command, yas, yis, hcl, ssim, ssimp, psim, check_seq, check_plus, check_pipe, certify_pipe, recheck, sample, aig, aigrun, big}
use Rattle.cli_plans.specs.Lines.{usage_line}
use Rattle.cli_plans.specs.Plan.{Plan, answers, refused}
use Rattle.hcl_types.specs.declared.table.SequentialDatapath.TheVariants.{Seq, SeqPlus}
use Rattle.cli_checks.specs.Answers.{check_pipe_plan, check_seq_plan}
use Rattle.cli_obligations.specs.Answers.{aig_plan, aigrun_plan, certify_pipe_plan, recheck_plan, sample_plan}
use Rattle.cli_runs.specs.Answers.{big_plan, hcl_plan, psim_plan, ssim_plan, yas_plan, yis_plan}

abbrev pub plan_of : Command → Plan
plan_of (yas source size v) = yas_plan source size v
plan_of (yis object size limit v) = yis_plan object size limit v
plan_of (hcl file) = hcl_plan file
plan_of (ssim name object size limit v) = ssim_plan Seq name object size limit v
plan_of (ssimp name object size limit v) = ssim_plan SeqPlus name object size limit v
plan_of (psim name object size limit trace checked v) = psim_plan name object size limit trace checked v
plan_of (check_seq name v) = check_seq_plan Seq name v
plan_of (check_plus name v) = check_seq_plan SeqPlus name v
plan_of (check_pipe name v) = check_pipe_plan name v
plan_of (certify_pipe name v) = certify_pipe_plan name v
plan_of (recheck name cert v) = recheck_plan name cert v
plan_of (aig name v) = aig_plan name v
plan_of (aigrun name seed) = aigrun_plan name seed
plan_of (sample name seed count v) = sample_plan name seed count v
plan_of (big n name v) = big_plan n name v

-- the plan of the command that words form, or of the usage line
abbrev pub plan_in : Option Command → Plan
plan_in None = answers (refused 2 usage_line)
plan_in (Some command) = plan_of command
