use Rattle.std.proofs.Common.{refl}
use Rattle.cert_writer.proofs.Claimed.{and_asked, not_asked}
use Rattle.cert_writer.proofs.claims.ClaimWriter.gate_claim.Goals as goal

pub not-requires-clause-is : goal.not-requires-clause-is
not-requires-clause-is c =
    not_asked c.args.n.now c.args.self.now.ranks c.args.self.now.terms c.args.ts.now c.args.i c.requires.inside c.requires.terms c.in-Not.a _ _
    (c.in-Not.ensures.earlier.inverted c.in-Not.a refl) c.in-Not.ensures.meaning refl refl

pub and-requires-clause-is : goal.and-requires-clause-is
and-requires-clause-is c =
    and_asked c.args.n.now c.args.self.now.ranks c.args.self.now.terms c.args.ts.now c.args.i c.requires.inside c.requires.terms c.in-And.a c.in-And.b _ _ _
    (c.in-And.ensures.earlier.left c.in-And.a c.in-And.b refl) (c.in-And.ensures.earlier.right c.in-And.a c.in-And.b refl) c.in-And.ensures.meaning refl refl refl
