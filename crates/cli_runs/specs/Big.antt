-- What `big` answers: a generated program, run by the instructions and on PIPE.
use Rattle.std.specs.Prelude.{◌≡◌, ℕ, ◌+◌, ◌*◌, ◌≤◌, ◌&&◌, true, codes, List, [], ◌∷◌, if◌then◌else◌}
use Rattle.std.specs.List.{concat}
use Rattle.hcl_types.specs.declared.term.Term.{Term}
use Rattle.prog_cosim.specs.Cosimulation.{IsCosimulation}
use Rattle.prog_cosim.specs.declared.both.CosimResult.{CosimResult}
use Rattle.y86_base.specs.Numeral.{numeral}
use Rattle.y86_base.specs.declared.parts.Variant.{Variant}
use Rattle.yis_run.specs.Report.{flag}
use Rattle.wb_io.specs.Sinks.{Appended}
use Rattle.cli_plans.specs.PlanFollowing.{SinkState}
use Rattle.cli_plans.specs.Plan.{Answer, done}

-- the line: the number of the program, the numbers of instructions and cycles, and whether the reports are the same
-- bytes
unfoldable pub big_line : ℕ → CosimResult → List ℕ
big_line n both =
    concat (codes "big " ∷ numeral 10 1 n ∷ codes " steps " ∷ numeral 10 1 both.steps ∷ codes " cycles " ∷ numeral 10 1 both.cycles ∷ codes " same " ∷ flag both.same ∷ codes "\n" ∷ [])

-- 0 if the reports are the same bytes and both runs ended with HLT, otherwise 1
abbrev pub big_status : CosimResult → ℕ
big_status both = if both.same && both.halted then 0 else 1

abbrev pub BigAnswers : Variant → List Term → ℕ → Answer → Type 0
BigAnswers v terms n a = (both : CosimResult) × IsCosimulation v terms n both × (a ≡ done (big_status both) (big_line n both))

-- both runs did all of program n and gave the same report, the pipeline in at most 5 (n + 1) cycles, and the line that
-- says so was printed
pub record AnsweredSame (n : ℕ) (before after : SinkState) (status : ℕ) : Type 0 where
  pub cycles : ℕ
  pub in_time : cycles ≤ 5 * (n + 1)
  pub status_is : status ≡ 0
  pub told : Appended before.taken after.taken (big_line n (record { steps = n + 1; cycles = cycles; same = true; halted = true }))
