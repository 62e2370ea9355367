use Rattle.cert_writer.proofs.Claimed.{claims_more}
use Rattle.cert_writer.proofs.Steps.{keeps_more}
use Rattle.cert_writer.proofs.claims.ClaimWriter.gate_claims.Goals as goal

pub loop-i-preserved : goal.loop-i-preserved
loop-i-preserved c = (
  keeps_more c.args.self.now c.loop-i.self c.gate_claim.new.self c.loop-i.invariant.0 c.gate_claim.ensures.kept,
  claims_more c.args.n.now c.loop-i.self c.gate_claim.new.self c.args.ts.now c.loop-i.by.items c.push.new.list.items c.loop-i.i c.in_ok-p.p c.gate_claim.ensures.kept c.loop-i.invariant.1 c.in_ok-p.ensures.fits
      c.in_ok-push.ensures,
)
