use Rattle.std.proofs.Common.{◌≡◌, ◌<◌, inl, inr, ℕ, arith, ◌∙◌, sym, ap, subst, length, refl, ◌∷◌, ◌++◌, [], slice_index}
use Rattle.hcl_types.specs.Lists.{IsIn}
use Rattle.hcl_types.specs.Equations.{needs_of}
use Rattle.hcl_order.proofs.Choosing.{on_way_begin, on_way_step, on_way_end}
use Rattle.hcl_order.proofs.cycle.way_back.Goals as goal

pub loop-left-init : goal.loop-left-init
loop-left-init c = (c.requires.row, on_way_begin _ _ _ _ _ c.requires.positive c.requires.size (c.in_ok-push.ensures.items ∙ ap (λ xs. xs ++ c.args.row ∷ []) c.new-ids.ensures.items))

pub least_marked-at-requires : goal.least_marked-at-requires
least_marked-at-requires c n i = omega (arith, c.requires.rows.0, c.requires.within c.loop-left.at n (subst (IsIn n) c.needs_at.ensures i))

pub loop-left-preserved : goal.loop-left-preserved
loop-left-preserved c =
    let way = c.loop-left.invariant.1 in
    let leasts = λ (n : ℕ) (i : IsIn n (needs_of c.args.needs.now c.loop-left.at)) (e : slice_index c.args.marks.now n ≡ c.loop-left.left). c.least_marked-at.ensures.least n (subst (IsIn n) (sym c.needs_at.ensures) i) e in
    let inside : c.least_marked-at.result < length c.args.needs.now =
    omega (arith, c.requires.within c.loop-left.at way.need.0 way.need.1, leasts way.need.0 way.need.1 way.need.2) in
    let is_in : IsIn c.least_marked-at.result (needs_of c.args.needs.now c.loop-left.at) = elim c.least_marked-at.ensures.has [
      | inl e ↦ absurd (omega (arith, c.requires.rows.0))
      | inr i ↦ subst (IsIn c.least_marked-at.result) c.needs_at.ensures i
    ] in (
      inside,
      on_way_step _ _ _ _ c.loop-left.at c.loop-left.left _ _ c.loop-left.ids.items _ c.requires.size way c.loop-left-test.true is_in
          (c.least_marked-at.ensures.marked (omega (arith, c.requires.rows.0))) leasts c.in_ok-push-2.ensures.items refl,
    )

pub returns : goal.returns
returns c = rw c.of.ensures (on_way_end _ _ _ _ _ _ _ c.requires.size c.loop-left.invariant.1 c.loop-left-test.false)
