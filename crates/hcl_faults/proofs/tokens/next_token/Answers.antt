use Rattle.std.proofs.Common.{sym, subst}
use Rattle.hcl_faults.specs.Places.{IsNext}
use Rattle.hcl_faults.proofs.Listing.{none_next, next_of}
use Rattle.hcl_faults.proofs.tokens.next_token.Goals as goal

pub returns-in-Ok-None : goal.returns-in-Ok-None
returns-in-Ok-None c =
    let e = rw c.in-Ok-None.field-0-is at c.in-Ok-None.ensures in
    none_next c.args.rest.now c.after_gap-here.result.now c.after_gap-here.ensures.value e

pub returns-in-Ok-Some : goal.returns-in-Ok-Some
returns-in-Ok-Some c =
    let e = rw c.in-Ok-Some.field-0-is at c.in-Ok-Some.ensures in
    subst (λ k. IsNext c.args.rest.now k c.after_gap-here.result.now c.in-Ok-Some.behind.now) (sym c.kind_of.ensures)
    (next_of c.args.rest.now c.after_gap-here.result.now c.in-Ok-Some.token c.in-Ok-Some.behind.now c.after_gap-here.ensures.value e)
