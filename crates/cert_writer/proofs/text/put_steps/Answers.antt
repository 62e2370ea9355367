use Rattle.std.proofs.Common.{◌<◌, List, arith, get_or, length, subst, sym}
use Rattle.cert_checker.specs.declared.line.CertLine.{CertLine}
use Rattle.cert_checker.specs.declared.line.CertLine.TheVariants as line
use Rattle.cert_writer.specs.Proofs.{AreProved}
use Rattle.cert_writer.proofs.Writing.{read_at, step_more}
use Rattle.cert_writer.proofs.text.put_steps.Goals as goal

pub loop-i-preserved : goal.loop-i-preserved
loop-i-preserved c =
    let none : CertLine = line.Term 0 0 0 in
    let inside : c.loop-i.i < length c.steps-steps.result.now = omega (arith, c.loop-i-test.true, c.loop-i.auto.i-end) in
    let proved : AreProved (length c.args.claims.now.ranks) c.args.claims.now.terms c.steps-steps.result.now =
    subst (λ (xs : List CertLine). AreProved (length c.args.claims.now.ranks) c.args.claims.now.terms xs) (sym c.steps-steps.ensures.steps) c.steps-steps.ensures.proved in
    step_more c.args.g.now c.loop-i.out.items c.put_line.new.out.items (length c.args.claims.now.ranks) c.args.claims.now.terms c.steps-steps.result.now c.loop-i.i (get_or c.steps-steps.result.now c.loop-i.i none)
    c.requires.vars proved inside (read_at c.steps-steps.result.now c.loop-i.i none inside) c.put_line.ensures.small c.loop-i.invariant c.in_ok-put_line.ensures.put
