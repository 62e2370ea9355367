use Rattle.std.proofs.Common.{refl, ◌∙◌, arith}
use Rattle.hcl_types.specs.Terms.{at}
use Rattle.dp_signals.specs.PipeCycle.{ending, retires}
use Rattle.pipe_path.specs.Pipe.{call_answer}
use Rattle.pipe_path.specs.declared.pipe.Cycled.TheVariants.{Ended}
use Rattle.pipe_path.proofs.Live.{live_count, live_told}
use Rattle.pipe_path.proofs.pipe.Pipe.pass.Goals as goal

pub returns-then-not-is_aok_stat-clause-cycle : goal.returns-then-not-is_aok_stat-clause-cycle
returns-then-not-is_aok_stat-clause-cycle g c = (
  Ended,
  record { ended = λ over. (refl, refl); goes = λ going. absurd (grind (arith, going, c.is_aok_stat.ensures, c.if-not-is_aok_stat.true)) },
  refl,
)

pub returns-clause-cycle : goal.returns-clause-cycle
returns-clause-cycle g c =
    let state = c.self.inside.state in
    let f = at c.solve_pipe_in.new.values in
    rw (← c.self.view_is) (
      call_answer (ending f) (retires state f),
      record {
        ended = λ over. absurd (grind (arith, over, c.is_aok_stat.ensures, c.if-not-is_aok_stat.false));
        goes = λ going. (f, c.solve_pipe_in.ensures.solves, rw (c.finish-end.ensures.next, c.finish-end.ensures.end, c.one-more.ensures.count, live_count state f) refl, refl);
      },
      c.one-more.ensures.count ∙ live_told (ending f) state f,
    )
