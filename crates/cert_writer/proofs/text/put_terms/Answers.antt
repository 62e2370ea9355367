use Rattle.std.proofs.Common.{◌<◌, arith, get_or, length}
use Rattle.cert_checker.specs.declared.known.TermDef.{TermDef}
use Rattle.cert_writer.proofs.Writing.{read_at, term_more}
use Rattle.cert_writer.proofs.text.put_terms.Goals as goal

pub loop-i-preserved : goal.loop-i-preserved
loop-i-preserved c =
    let none : TermDef = record { var = 0; low = 0; high = 0 } in
    let inside : c.loop-i.i < length c.args.terms.now = omega (arith, c.loop-i-test.true, c.loop-i.auto.i-end) in
    term_more c.args.g.now c.loop-i.out.items c.put_line.new.out.items c.args.terms.now c.loop-i.i (get_or c.args.terms.now c.loop-i.i none) c.requires.named inside
    (read_at c.args.terms.now c.loop-i.i none inside) c.put_line.ensures.small c.loop-i.invariant c.in_ok-put_line.ensures.put
