use Rattle.cert_writer.proofs.Gates.{gates_more}
use Rattle.cert_writer.proofs.Nodes.{goes_more}
use Rattle.cert_writer.proofs.terms.TermWriter.gate_terms.Goals as goal

pub loop-i-preserved : goal.loop-i-preserved
loop-i-preserved c = (
  goes_more c.args.self.now c.loop-i.self c.gate_term.new.self c.loop-i.invariant.0 c.gate_term.ensures.terms_grow,
  gates_more c.args.n.now c.loop-i.self c.gate_term.new.self c.loop-i.terms.items c.push.new.list.items c.loop-i.i c.in_ok-t.t c.gate_term.ensures.terms_grow c.loop-i.invariant.1 c.in_ok-t.ensures.term c.in_ok-push.ensures,
)
