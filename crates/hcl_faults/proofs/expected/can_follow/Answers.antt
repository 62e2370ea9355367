use Rattle.std.proofs.Common.{take}
use Rattle.hcl_read.specs.Tokens.{tokens}
use Rattle.hcl_faults.proofs.Runs.{refused_run_of, taken_run}
use Rattle.hcl_faults.proofs.expected.can_follow.Goals as goal

pub returns-in-Err : goal.returns-in-Err
returns-in-Err c = refused_run_of c.refused.result c.in-Err.why (take c.args.count (tokens c.args.text.now)) c.args.kind c.refused.ensures c.in-Err.ensures

pub returns-in-Ok : goal.returns-in-Ok
returns-in-Ok c = taken_run c.takes.result (take c.args.count (tokens c.args.text.now)) c.args.kind c.in-Ok.state c.in-Ok.ensures c.takes.ensures
