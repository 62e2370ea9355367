-- Plans whose answer is a function of the contents of the files.
use Rattle.std.specs.Prelude.{◌≡◌, ◌⊎◌, ◌≤◌, ℕ, List, [], Option}
use Rattle.cert_log.specs.Files.{holds_line}
use Rattle.cert_checker.specs.Faults.{IsOfGates}
use Rattle.cert_checker.specs.declared.fault.CertFault.{CertFault}
use Rattle.control_check.specs.PipeVerdicts.{AcceptsPipe}
use Rattle.dp_signals.specs.PipeTable.{pipe_rows}
use Rattle.hcl_types.specs.declared.term.Term.{Term}
use Rattle.pipe_motion.specs.declared.settings.Settings.{Settings}
use Rattle.wb_io.specs.Sinks.{Appended}
use Rattle.y86_base.specs.declared.parts.Variant.{Variant}
use Rattle.cli_obligations.specs.Certified.{cert_fault_line}
use Rattle.hcl_design.specs.Designs.{IsDesign}
use Rattle.cli_plans.specs.PlanFollowing.{CallStates, SinkState}
use Rattle.cli_plans.specs.Plan.{IsAnswerOf, Answer, Plan}
use Rattle.cli_plans.specs.Calls.{WroteError}

-- whatever the files contain, there is at most one answer
pub record HasOneAnswer (plan : Plan) : Type 0 where
  pub one : (contents : List (Option (List ℕ))) (a b : Answer) → IsAnswerOf plan contents a → IsAnswerOf plan contents b → a ≡ b

-- two answers with status 0 and nothing on standard error: their texts may differ
pub record AreYes (a b : Answer) : Type 0 where
  pub first : a.status ≡ 0
  pub second : b.status ≡ 0
  pub quiet : a.err ≡ []
  pub still : b.err ≡ []

-- whatever the files contain, there is at most one answer, except for the text of answers with status 0
pub record HasOneRefusal (plan : Plan) : Type 0 where
  pub one : (contents : List (Option (List ℕ))) (a b : Answer) → IsAnswerOf plan contents a → IsAnswerOf plan contents b → (a ≡ b) ⊎ AreYes a b

-- two calls gave the same answer, which the plan allows for these contents
pub record SameAnswers (plan : Plan) (contents : List (Option (List ℕ))) (call other_call : CallStates) (status other : ℕ) : Type 0 where
  pub answer : Answer
  pub allowed : IsAnswerOf plan contents answer
  pub status_is : status ≡ answer.status
  pub other_is : other ≡ answer.status
  pub out : Appended call.out_before.taken call.out_after.taken answer.out
  pub other_out : Appended other_call.out_before.taken other_call.out_after.taken answer.out
  pub err : WroteError call.err_before call.err_after answer.err
  pub other_err : WroteError other_call.err_before other_call.err_after answer.err

-- A certificate that was written for a file was checked for it: it was accepted, at the settings at which the file is
-- accepted; or it was refused because of the gates of the net, and for no other reason.
pub record KeptCertificate (v : Variant) (text cert : List ℕ) (out_before out_after err_before err_after : SinkState) (status : ℕ) : Type 0 where
  pub terms : List Term
  pub design : IsDesign pipe_rows text terms
  pub settings : Settings
  pub accepted : AcceptsPipe v terms settings
  pub outcome : ((status ≡ 0) × Appended out_before.taken out_after.taken (holds_line settings))
      ⊎ ((status ≡ 5) × ((fault : CertFault) × IsOfGates fault.why × (3 ≤ fault.line) × WroteError err_before err_after (cert_fault_line cert fault)))
