use Rattle.std.proofs.Common.{Some, refl, ap, sym, ◌∙◌, arith}
use Rattle.hcl_types.specs.Terms.{at}
use Rattle.dp_sequential.proofs.machine.SequentialMachine.cycle.Goals as goal

pub returns-clause-cycle : goal.returns-clause-cycle
returns-clause-cycle g c =
    rw (← c.self.view_is)
    (record {
      cycle = record {
        ended = λ over. absurd (grind (arith, over, c.view.ensures.stat, c.is_aok_stat.ensures, c.if-not-is_aok_stat.false));
        goes = λ going. (
          at c.solve_in.new.values,
          c.solve_in.ensures.solves,
          c.advance.ensures,
          ap Some (c.record_of.ensures ∙ (rw (c.ROWS.ensures, c.pc-pc.ensures, c.view-2.ensures.flags, c.advance.ensures) (sym (g.met.S.Sequential.lawful.tells _ _)))),
        );
      };
      rest = refl;
    })
