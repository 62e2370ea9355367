use Rattle.std.proofs.Common.{refl, sym, subst, arith, IfSome}
use Rattle.hcl_types.specs.Terms.{at}
use Rattle.pipe_path.specs.Destinations.{HasDestinations}
use Rattle.pipe_path.proofs.Destinations.{retired_fits, told_fits}
use Rattle.pipe_path.proofs.pipe.Pipe.cycle.Goals as goal

pub returns-clause-cycle : goal.returns-clause-cycle
returns-clause-cycle g c =
    rw (← c.self.view_is)
    (record {
      ended = λ over. absurd (grind (arith, over, c.is_aok_stat.ensures, c.if-not-is_aok_stat.false));
      goes = λ going. (
        at c.solve_pipe_in.new.values,
        c.solve_pipe_in.ensures.solves,
        rw (c.finish-ending.ensures.next, c.record_count.ensures.count, c.finish-ending.ensures.end, c.retires-record.ensures) refl,
        rw (c.told.ensures, c.finish-ending.ensures.ending, c.retires-record.ensures) refl,
      );
    })

pub returns-clause-destinations : goal.returns-clause-destinations
returns-clause-destinations g c =
    let fits = retired_fits c.self.inside.state (at c.solve_pipe_in.new.values) in
    told_fits c.told.result c.finish-ending.result.0 c.retires-record.result c.told.ensures
    (subst (λ r. IfSome r (λ x. HasDestinations x)) (sym c.retires-record.ensures) fits)
