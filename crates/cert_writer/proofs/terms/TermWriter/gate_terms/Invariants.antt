use Rattle.std.proofs.Common.{length}
use Rattle.cert_writer.specs.Nodes.{ExtendsTerms}
use Rattle.cert_writer.specs.Writing.{AreGateTerms}
use Rattle.cert_writer.proofs.terms.TermWriter.gate_terms.Given as goal

abbrev pub invariant-loop-i : goal.invariant-loop-i
invariant-loop-i l = ExtendsTerms l.fn.self l.self × AreGateTerms l.n (length l.self.order) l.self.terms l.terms.items l.i
