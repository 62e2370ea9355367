use Rattle.std.proofs.Common.{◌<◌, true, Option, length, get_or, ap, arith, subst}
use Rattle.std.specs.Option.{MatchOption}
use Rattle.nets.specs.declared.evaluation.Valuation.{Valuation}
use Rattle.bdd_core.specs.Meaning.{Always, IsLeastFalsifying}
use Rattle.cert_writer.specs.Nodes.{no_dia}
use Rattle.cert_writer.proofs.Demanded.{open_at}
use Rattle.cert_writer.proofs.writer.is_open.Goals as goal

pub returns-in-Some-clause-open : goal.returns-in-Some-clause-open
returns-in-Some-clause-open c =
    let h : c.loop-k.k < length c.args.g.now.want = omega (arith, c.loop-k-test.true, ap length c.items-k-end.ensures) in
    let found : IsLeastFalsifying c.args.drawn.now.store (get_or c.args.drawn.now.dias.items (get_or c.args.g.now.want c.loop-k.k 0) no_dia) c.in-Some.field-0.bits =
    subst (λ (o : Option Valuation). MatchOption o (Always c.args.drawn.now.store (get_or c.args.drawn.now.dias.items (get_or c.args.g.now.want c.loop-k.k 0) no_dia) true)
    (λ v. IsLeastFalsifying c.args.drawn.now.store (get_or c.args.drawn.now.dias.items (get_or c.args.g.now.want c.loop-k.k 0) no_dia) v.bits)) c.in-Some.is c.in_ok-counter.ensures in
    λ e. open_at c.args.g.now c.args.order.now c.args.ranks.now c.args.drawn.now.store c.args.drawn.now.dias.items c.loop-k.k c.in-Some.field-0.bits c.requires.inside c.requires.vars c.requires.order c.requires.drawn h found
