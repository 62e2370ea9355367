-- Runs of PIPE to their end or to a limit of cycles, and the output for a run.
use Rattle.std.specs.Prelude.{ℕ, Bool, codes, List, [], ◌∷◌, ◌++◌, length}
use Rattle.std.specs.List.{concat}
use Rattle.y86_base.specs.Numeral.{numeral}
use Rattle.dp_signals.specs.PipeRun.{PipeHistory}
pub use Rattle.prog_cosim.specs.RunsTo.{RunsFor, RunsTo, end_of}
use Rattle.retire_trace.specs.Drive.{traced}
use Rattle.yis_run.specs.Report.{report}

-- the line that counts the cycles and the instructions that retired
unfoldable pub ran_line : ℕ → ℕ → List ℕ
ran_line cycles retired =
    concat (codes "Ran " ∷ numeral 10 1 cycles ∷ codes " cycles, retired " ∷ numeral 10 1 retired ∷ codes " instructions\n" ∷ [])

-- the output for a run: the trace, if it is asked for, the counts, and the report, whose steps are the records
abbrev pub run_text : Bool → List ℕ → ℕ → PipeHistory → List ℕ
run_text trace image cycles p =
    traced trace p.records ++ (ran_line cycles (length p.records) ++ report image (end_of p) (length p.records))
