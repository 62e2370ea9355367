use Rattle.std.proofs.Common.{◌≡◌, ◌∷◌, ℕ, ap, length, subst, arith}
use Rattle.seq_refusals.specs.Answered.{AreRefuted}
use Rattle.seq_refusals.proofs.answer.refute_others.Goals as goal

pub returns : goal.returns
returns c =
    let r = c.args.rules.now in
    let within = c.loop-k.invariant.within in
    let ended = c.loop-k-test.false in
    let count : length c.items-count.result.now ≡ length r.list = ap length c.items-count.ensures in
    let e : c.loop-k.k ≡ length r.list = omega (arith, count, within, ended) in
    subst (λ (n : ℕ). AreRefuted c.args.file.now.which c.args.file.now.variant c.args.file.now.ordered.now.design.terms r.atoms n (c.args.first.now ∷ c.loop-k.others.items)) e c.loop-k.invariant.refuted
