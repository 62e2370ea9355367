use Rattle.std.proofs.Common.{subst}
use Rattle.cli_obligations.specs.Certified.{IsCertificateOrNo}
use Rattle.cli_obligations.proofs.Certified.{said_certificate}
use Rattle.cli_obligations.proofs.certify.say_certificate.Goals as goal

pub returns-in-Ok-Yes : goal.returns-in-Ok-Yes
returns-in-Ok-Yes g c =
    said_certificate c.args.name.now c.args.variant c.args.bound.now.ordered.design.terms c.in-Ok-Yes.text.items _ _ _
    (subst (IsCertificateOrNo c.args.variant c.args.bound.now.ordered.design.terms) c.in-Ok-Yes.field-0-is c.in-Ok-Yes.ensures.text)
    (rw c.as_slice.ensures.value at c.write_answer.ensures)
