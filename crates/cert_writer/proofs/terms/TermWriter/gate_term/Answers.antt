use Rattle.std.proofs.Common.{length, subst, sym}
use Rattle.cert_writer.specs.Writing.{IsGateTerm}
use Rattle.cert_writer.proofs.Gates.{constant_term}
use Rattle.cert_writer.proofs.terms.TermWriter.gate_term.Goals as goal

pub returns-in-Const-clause-term : goal.returns-in-Const-clause-term
returns-in-Const-clause-term c =
    subst (λ t. IsGateTerm c.args.n.now (length c.args.self.now.order) c.args.self.now.terms c.args.i t) (sym c.constant.ensures)
    (constant_term c.args.n.now (length c.args.self.now.order) c.args.self.now.terms c.args.i c.in-Const.b c.in-Const.ensures.is c.in-Const.ensures.meaning)
