use Rattle.std.proofs.Common.{length, ap, sym, ◌∙◌}
use Rattle.y86_isa.specs.declared.machine.Machine.{Machine}
use Rattle.cli_runs.proofs.Runs.{run_keeps_size}
use Rattle.cli_runs.proofs.yis.run_image.Goals as goal

pub report-requires : goal.report-requires
report-requires g c =
    let size = λ (m : Machine). length m.mem in
    record {
      one_size =
          ap length c.in-Ok.ensures
          ∙ (sym (ap size c.start-machine.ensures) ∙ (run_keeps_size _ c.start-machine.result c.run-ran.new.m _ c.run-ran.ensures.machine ∙ sym (ap size c.of-end.ensures)));
    }
