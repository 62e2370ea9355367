use Rattle.std.proofs.Common.{rules, ◌≢◌, []}
use Rattle.fault_report.proofs.Reported.{reports_stop}
use Rattle.fault_report.proofs.hcl.stop_report.Goals as goal

pub returns : goal.returns
returns c = λ t.
    let some : c.of.result ≢ [] = search rules in
    reports_stop t c.args.asked c.args.text.now c.args.stop.now (record { datapath = c.args.asked; faults = c.of.result }) c.requires some
