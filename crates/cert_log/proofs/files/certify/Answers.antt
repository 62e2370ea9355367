use Rattle.cert_log.proofs.Shown.{never_open}
use Rattle.cert_log.proofs.files.certify.Goals as goal

pub unreachable-requires : goal.unreachable-requires
unreachable-requires c =
    never_open c.args.variant c.args.ordered.now.design.terms c.args.ordered.now.order.ids c.args.settings c.in_ok-demands.demands c.requires.ordered c.requires.meets c.in_ok-demands.ensures.demands
    (c.in_ok-text.ensures.none c.in-None.is)
