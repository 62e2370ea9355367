-- What `big` answers, from what the code did.
use Rattle.std.proofs.Common.{◌≡◌, ℕ, ◌≤◌, List, refl}
use Rattle.wb_io.specs.Causes.{counted}
use Rattle.wb_io.specs.Sinks.{Appended, AppendedPrefix}
use Rattle.y86_base.specs.declared.parts.Variant.{Variant}
use Rattle.hcl_types.specs.declared.term.Term.{Term}
use Rattle.prog_cosim.specs.Cosimulation.{IsCosimulation}
use Rattle.prog_cosim.specs.declared.both.CosimResult.{CosimResult}
use Rattle.cli_runs.specs.Big.{BigAnswers, big_line, big_status}
use Rattle.cli_plans.specs.PlanFollowing.{SinkState, WrotePart, WroteWhole}
use Rattle.cli_plans.specs.Plan.{done}

pub said_whole : (v : Variant) (terms : List Term) (n : ℕ) (both : CosimResult) (before after : SinkState) (status : ℕ) → IsCosimulation v terms n both →
    status ≡ big_status both → status ≤ 1 → Appended before.taken after.taken (big_line n both) → after.faults ≡ before.faults → WroteWhole (BigAnswers v terms n) before after status
said_whole v terms n both before after status goes is low told no_fault = record {
  answer = done (big_status both) (big_line n both);
  allowed = (both, goes, refl);
  status_is = is;
  low = low;
  quiet = refl;
  went = told;
  no_fault = no_fault;
}

pub said_part : (v : Variant) (terms : List Term) (n : ℕ) (both : CosimResult) (before after : SinkState) → IsCosimulation v terms n both →
    AppendedPrefix before.taken after.taken (big_line n both) → after.faults ≡ counted before.faults → WrotePart (BigAnswers v terms n) before after
said_part v terms n both before after goes told one_fault = record {
  answer = done (big_status both) (big_line n both);
  allowed = (both, goes, refl);
  went = told;
  one_fault = one_fault;
}
