use Rattle.std.proofs.Common.{◌≡◌, ◌+◌, ◌++◌, ◌∷◌, [], Bool, not, if◌then◌else◌, List, ap, sym, subst, ◌∙◌}
use Rattle.aiger_out.specs.declared.form.AagLine.{AagLine}
use Rattle.aiger_out.specs.Rows.{AreRows}
use Rattle.aiger_out.proofs.RowSteps.{rows_more}
use Rattle.aiger_out.proofs.rows.read_rows.Goals as goal

pub loop-j-preserved : goal.loop-j-preserved
loop-j-preserved c =
    let old = c.loop-j.rows.items in
    let line = c.next_line-line.result.0 in
    let behind = c.next_line-line.result.1.now in
    let pushed : c.push.new.self.items ≡ old ++ line ∷ [] =
    c.push.ensures.items ∙ ap (λ (b : Bool). if b then old ++ line ∷ [] else old) (c.is_err.ensures.negation ∙ ap not c.if-is_err.false) in
    subst (λ (xs : List AagLine). AreRows c.args.h c.args.text.now (c.loop-j.j + 1) xs behind) (sym pushed)
    (rows_more c.args.h c.args.text.now c.loop-j.j old c.loop-j.rest.now behind line c.loop-j.invariant
    c.next_line-line.ensures.line c.next_line-line.ensures.rest c.next_line-line.ensures.more)
