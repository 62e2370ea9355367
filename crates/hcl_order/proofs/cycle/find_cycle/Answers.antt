use Rattle.std.proofs.Common.{inl, inr, arith, ◌∙◌, subst, length}
use Rattle.hcl_types.specs.Equations.{needs_of}
use Rattle.hcl_order.specs.Dependence.{Depends}
use Rattle.hcl_order.proofs.Choosing.{first_way}
use Rattle.hcl_order.proofs.Layering.{depends_inside}
use Rattle.hcl_order.proofs.Walking.{steps_of}
use Rattle.hcl_order.proofs.Members.{last_or}
use Rattle.hcl_order.proofs.cycle.find_cycle.Goals as goal

pub returns-then-size-gt0 : goal.returns-then-size-gt0
returns-then-size-gt0 c = first_way _ _ _ _ _ (c.cycle_length-size.ensures.nearest.found c.if-size-gt0.true) c.in_ok-way_back.ensures c.loop-row.invariant.1

pub loop-row-preserved : goal.loop-row-preserved
loop-row-preserved c = (
  c.cycle_length-size.ensures.size ∙ c.loop-row.invariant.0,
  λ n h d. elim (last_or n c.loop-row.row (omega arith)) [
    | inl b ↦ c.loop-row.invariant.1 n b d
    | inr s ↦ (let e = subst (λ x. Depends (needs_of c.args.needs.now) x x) s d in
        c.cycle_length-size.ensures.nearest.none (omega (arith, c.if-size-gt0.false)) (length e.0) (steps_of _ c.loop-row.row e.0 c.loop-row.row e.1))
  ],
)

pub returns : goal.returns
returns c n d = c.loop-row.invariant.1 n (omega (arith, c.loop-row-test.false, depends_inside c.args.needs.now n n d)) d
