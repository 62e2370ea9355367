use Rattle.std.proofs.Common.{take}
use Rattle.cert_writer.specs.Writing.{IsCertificatePrefix, facts_with}
use Rattle.cert_writer.proofs.text.put_gates.Given as goal

abbrev pub invariant-loop-i : goal.invariant-loop-i
invariant-loop-i l = IsCertificatePrefix l.g l.out.items (facts_with l.claims.terms l.claims.steps (take l.i l.terms))
