use Rattle.std.proofs.Common.{sym, subst}
use Rattle.hcl_faults.proofs.Listing.{Listed, listed_first, listed_end, listed_step}
use Rattle.hcl_faults.proofs.tokens.token_list.Goals as goal

pub tokens-init : goal.tokens-init
tokens-init c = subst (λ some. Listed c.args.text.now some c.args.text.now) (sym c.new-list.ensures.items) (listed_first c.args.text.now)

pub returns-in-Ok-None : goal.returns-in-Ok-None
returns-in-Ok-None c =
    let e = rw c.in-Ok-None.field-0-is at c.in-Ok-None.ensures in
    listed_end c.args.text.now c.tokens.rest.now c.tokens.list.items c.tokens.invariant e

pub tokens-preserved : goal.tokens-preserved
tokens-preserved c =
    let n = rw c.in-Ok-Some.field-0-is at c.in-Ok-Some.ensures in
    subst (λ some. Listed c.args.text.now some c.in-Ok-Some.behind.now) (sym c.in-Ok.ensures)
    (listed_step c.args.text.now c.tokens.rest.now c.in-Ok-Some.here.now c.in-Ok-Some.behind.now c.in-Ok-Some.kind c.tokens.list.items c.tokens.invariant n)
