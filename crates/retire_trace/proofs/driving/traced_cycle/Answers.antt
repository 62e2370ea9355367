use Rattle.std.proofs.Common.{refl, sym, ◌∙◌}
use Rattle.std.specs.Option.{option_to_list}
use Rattle.wb_io.proofs.Writes.{took_nothing}
use Rattle.pipe_path.specs.Calls.{record_in}
use Rattle.retire_trace.proofs.Driven.{traced_none, traced_off, traced_on}
use Rattle.retire_trace.proofs.driving.traced_cycle.Goals as goal

pub returns-then-not-trace-clause-traced : goal.returns-then-not-trace-clause-traced
returns-then-not-trace-clause-traced g c =
    let passed = c.pass.ensures.cycle in (
      passed.0,
      passed.1,
      passed.2,
      let off = traced_off c.args.trace (option_to_list (record_in passed.0)) c.if-not-trace.true in rw off (took_nothing _),
    )

pub returns-in-None-clause-traced : goal.returns-in-None-clause-traced
returns-in-None-clause-traced g c =
    let none = sym c.record_of.ensures ∙ c.in-None.is in (
      c.cycle.result,
      c.cycle.ensures.cycle,
      rw none refl,
      rw (none, traced_none c.args.trace) (took_nothing _),
    )

pub returns-in-Ok-clause-traced : goal.returns-in-Ok-clause-traced
returns-in-Ok-clause-traced g c =
    let some = sym c.record_of.ensures ∙ c.in-Some.is in (
      c.cycle.result,
      c.cycle.ensures.cycle,
      rw some refl,
      rw (some, traced_on c.args.trace c.in-Some.record c.if-not-trace.false) c.in-Ok.ensures.puts,
    )
