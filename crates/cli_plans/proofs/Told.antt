-- A text on standard error, whole or in part.
use Rattle.std.proofs.Common.{◌≡◌, ℕ, List, inl, inr}
use Rattle.wb_io.specs.Causes.{counted}
use Rattle.wb_io.specs.Sinks.{Appended, AppendedPrefix}
use Rattle.cli_plans.specs.PlanFollowing.{SinkState}
use Rattle.cli_plans.specs.Calls.{WroteError}

-- a text that was written on standard error
pub told_whole : (before after : SinkState) (text : List ℕ) → Appended before.taken after.taken text → after.faults ≡ before.faults → WroteError before after text
told_whole before after text took same = inl (took, same)

pub told_part : (before after : SinkState) (text : List ℕ) → AppendedPrefix before.taken after.taken text → after.faults ≡ counted before.faults → WroteError before after text
told_part before after text part fault = inr (part, fault)
