use Rattle.std.proofs.Common.{◌+◌, ℕ, List, set, ap, sym, subst, ◌∙◌, refl}
use Rattle.aiger_out.specs.Rows.{AreFirsts, row}
use Rattle.aiger_out.proofs.Firsts.{firsts_start}
use Rattle.aiger_out.proofs.table.read_firsts.Goals as goal

pub mark_all-requires-clause-start : goal.mark_all-requires-clause-start
mark_all-requires-clause-start c =
    subst (AreFirsts c.args.h (row c.args.rows.now) 1)
    (sym (c.as_mut_slice.ensures.value ∙ ap (λ (xs : List ℕ). set xs 0 0) c.in-Ok.ensures))
    (firsts_start c.args.h (row c.args.rows.now) (c.args.h.most + 1) c.requires.header refl)
