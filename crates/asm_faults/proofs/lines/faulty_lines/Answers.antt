use Rattle.std.proofs.Common.{◌+◌, sym, subst}
use Rattle.asm_faults.proofs.LineLemmas.{Noted, noted_first, noted_more, noted_end}
use Rattle.asm_faults.proofs.lines.faulty_lines.Goals as goal

pub lines-init : goal.lines-init
lines-init c = subst (λ some. Noted c.args.variant c.args.source.now 1 some c.args.source.now) (sym c.new-list.ensures.items) (noted_first c.args.variant c.args.source.now)

pub returns-in-None : goal.returns-in-None
returns-in-None c = noted_end c.args.variant c.args.source.now c.lines.number c.lines.list.items c.lines.rest.now c.lines.invariant c.in-None.ensures.lines

pub lines-preserved : goal.lines-preserved
lines-preserved c =
    subst (λ some. Noted c.args.variant c.args.source.now (c.lines.number + 1) some c.in-Some.behind.now) (sym c.in-Ok.ensures)
    (noted_more c.args.variant c.args.source.now c.lines.number c.lines.list.items c.lines.rest.now c.in-Some.line.now c.in-Some.behind.now c.lines.invariant
    c.in-Some.ensures.lines c.in-Some.ensures.shorter)
