-- A generated program run both ways: by the instructions, and on PIPE under a design.
use Rattle.std.specs.Prelude.{◌≡◌, ◌↔◌, ℕ, ◌+◌, ◌*◌, ◌≤◌, true, List, length}
use Rattle.y86_base.specs.declared.parts.Stat.TheVariants.{Hlt}
use Rattle.y86_base.specs.declared.parts.Variant.{Variant}
use Rattle.y86_isa.specs.Run.{run, records}
use Rattle.yis_run.specs.Report.{report}
use Rattle.hcl_types.specs.declared.term.Term.{Term}
use Rattle.dp_signals.specs.PipeRun.{PipeHistory}
use Rattle.prog_gen.specs.Programs.{program}
use Rattle.prog_cosim.specs.RunsTo.{RunsTo, end_of}
use Rattle.prog_cosim.specs.declared.both.CosimResult as code

-- the most instructions of one run, and the most cycles of the other
abbrev pub run_limit : ℕ → ℕ
run_limit n = 10 * n + 100

-- program n run by the instructions and on PIPE under a design, each up to the limit: the numbers of instructions and
-- of cycles; whether both reports, with the instructions and the retired records as their steps, are the same bytes;
-- whether both runs ended with HLT
pub record IsCosimulation (v : Variant) (terms : List Term) (n : ℕ) (b : code.CosimResult) : Type 0 where
  pub end : PipeHistory
  pub runs : RunsTo v terms (program n) (run_limit n) b.cycles end
  pub steps : b.steps ≡ length (records v (program n) (run_limit n))
  pub same : (b.same ≡ true)
      ↔ (report (program n) (run v (program n) (run_limit n)) b.steps ≡ report (program n) (end_of end) (length end.records))
  pub halted : (b.halted ≡ true) ↔ (((run v (program n) (run_limit n)).stat ≡ Hlt) × (end.end ≡ Hlt))

-- both runs executed the whole program: n instructions and the halt, in at most 5 (n + 1) cycles, with the same report
pub record CosimulationAgrees (n : ℕ) (b : code.CosimResult) : Type 0 where
  pub steps : b.steps ≡ n + 1
  pub cycles : b.cycles ≤ 5 * (n + 1)
  pub same : b.same ≡ true
  pub halted : b.halted ≡ true
