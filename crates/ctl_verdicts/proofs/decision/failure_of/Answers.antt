use Rattle.std.proofs.Common.{◌<◌, length, refl, arith}
use Rattle.std.proofs.lemmas.Option.{slice_get-get_or}
use Rattle.ctl_verdicts.proofs.Decided.{first_failed}
use Rattle.ctl_verdicts.proofs.decision.failure_of.Goals as goal

pub returns-in-Some : goal.returns-in-Some
returns-in-Some c n gates theirs decided =
    let first = rw c.in-Some.is at decided in
    let less : c.in-Some.c.place < length c.args.list.now = (let w = first.within in let s = theirs.size in omega (arith, w, s)) in
    (c.in-Some.c.place, _, first_failed n c.args.list.now gates c.in-Some.c.place _ c.in-Some.c.valuation.bits theirs first (slice_get-get_or c.args.list.now c.in-Some.c.place (record { number = 0; gate = 0 }) less), refl)
