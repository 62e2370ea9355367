use Rattle.std.proofs.Common.{◌∙◌, refl}
use Rattle.hcl_types.specs.declared.table.SequentialDatapath.TheVariants as datapath
use Rattle.cli_runs.proofs.SequentialRuns.{one_size, part, seq_run, whole}
use Rattle.cli_runs.proofs.ssim.run_seq_machine.Goals as goal

-- (`let` would have the checker work out the run once more at each use)
pub report-requires : goal.report-requires
report-requires g c = let ran = c.run-ran.ensures.calls in record {
  one_size = one_size datapath.Seq _ _ _ _ _ _ _
      (seq_run _ _ _ _ _ _ _ ran.0 _ _ _ refl c.requires ran.1 ran.2 (c.of-end.ensures ∙ c.state.ensures));
}

pub returns-in-Ok : goal.returns-in-Ok
returns-in-Ok g c =
    let ran = c.run-ran.ensures.calls in
    whole datapath.Seq _ _ _ _ _ _ _
    (seq_run _ _ _ _ _ _ _ ran.0 _ _ _ refl c.requires ran.1 ran.2 (c.of-end.ensures ∙ c.state.ensures))
    _ _ _ c.status.ensures.status c.status.ensures.low c.in-Ok.ensures.puts c.in-Ok.ensures.counts.no_fault_at_ok

pub returns-in-Err : goal.returns-in-Err
returns-in-Err g c =
    let ran = c.run-ran.ensures.calls in
    part datapath.Seq _ _ _ _ _ _ _
    (seq_run _ _ _ _ _ _ _ ran.0 _ _ _ refl c.requires ran.1 ran.2 (c.of-end.ensures ∙ c.state.ensures))
    _ _ c.in-Err.ensures.puts c.in-Err.ensures.counts.one_fault_at_err
