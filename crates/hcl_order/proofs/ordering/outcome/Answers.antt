use Rattle.std.proofs.Common.{◌≡◌, ◌∙◌, ap, sym, subst, length, arith, refl, true}
use Rattle.hcl_types.specs.Lists.{IsIn}
use Rattle.hcl_types.specs.Equations.{is_known, needs_of}
use Rattle.hcl_types.specs.Tables.{needs, known}
use Rattle.hcl_order.specs.Layers.{IsWithin}
use Rattle.hcl_order.proofs.Sound.{within, given_rows, needs-length, known-length}
use Rattle.hcl_order.proofs.ordering.outcome.Goals as goal

needs_is : (c : goal.After-as_slice-2) → c.as_slice.result.now ≡ needs c.args.t.now.rows c.args.d.now.terms
needs_is c = rw (c.as_slice.ensures.value, c.in_ok-needs.ensures, c.items-rows.ensures, c.items.ensures) refl

known_is : (c : goal.After-as_slice-2) → c.as_slice-2.result.now ≡ known c.args.t.now.rows
known_is c = rw (c.as_slice-2.ensures.value, c.in_ok-known.ensures, c.items-rows.ensures) refl

pub order_rows-requires-clause-within : goal.order_rows-requires-clause-within
order_rows-requires-clause-within c = subst IsWithin (sym (needs_is c)) (within c.args.t.now.rows c.args.d.now.terms c.requires.sound c.requires.bound)

pub order_rows-requires-clause-rows : goal.order_rows-requires-clause-rows
order_rows-requires-clause-rows c =
    let n : length c.as_slice.result.now ≡ length c.args.t.now.rows = ap length (needs_is c) ∙ needs-length c.args.t.now.rows c.args.d.now.terms in
    (n ∙ sym (ap length (known_is c) ∙ known-length c.args.t.now.rows), omega (arith, n, c.requires.sound.few))

pub order_rows-requires-clause-known : goal.order_rows-requires-clause-known
order_rows-requires-clause-known c a n k i =
    given_rows c.args.t.now.rows c.args.d.now.terms a n (subst (λ xs. is_known xs a ≡ true) (known_is c) k) (subst (λ xs. IsIn n (needs_of xs a)) (needs_is c) i)
