use Rattle.std.proofs.Common.{ℕ, List, length, get_or, ap, arith}
use Rattle.std.proofs.lemmas.Option.{IfSome_then}
use Rattle.bdd_decide.proofs.Mirrors.{decided_mirrored}
use Rattle.bdd_decide.proofs.net_diagrams.each_true.Goals as goal

pub loop-k-init : goal.loop-k-init
loop-k-init c =
    let none = ap length c.new-truths.ensures.items in
    record {
      diagrams = c.in_ok-diagrams.ensures;
      size = none;
      decided = record { each = λ k lt. absurd (omega (arith, lt, none)) };
    }

pub told_or_decided-requires-clause-told : goal.told_or_decided-requires-clause-told
told_or_decided-requires-clause-told c =
    let k : ℕ = c.loop-k.k in
    IfSome_then c.in_ok-told.told c.in_ok-told.ensures.decided
    (λ b. decided_mirrored c.args.net.now c.args.gates.now c.in_ok-copy.copy c.in_ok-copy.ensures k _ b (omega arith) (ap (λ (xs : List ℕ). get_or xs k 0) c.items.ensures))
