use Rattle.std.proofs.Common.{inl, inr, ℕ, sym, ◌∙◌, ap, subst, length, arith, length-set}
use Rattle.std.proofs.lemmas.List.{length-replicate}
use Rattle.hcl_types.specs.Lists.{IsIn}
use Rattle.hcl_order.proofs.Layering.{searched_begin, searched_more, searched_none, searched_found, none_of, rows_of}
use Rattle.hcl_order.proofs.layers.cycle_length.Goals as goal

pub loop-marks-init : goal.loop-marks-init
loop-marks-init c = (
  ap length c.mark_first.ensures ∙ omega (arith, length-set {A = ℕ}, length-replicate {A = ℕ}),
  searched_begin _ (length c.args.marks.now) c.args.row _ (omega (arith, c.requires.size, c.requires.row)) c.mark_first.ensures,
)

pub least_marked-requires : goal.least_marked-requires
least_marked-requires c n i = omega (arith, c.loop-marks.invariant.0, c.requires.size, c.requires.within c.args.row n (subst (IsIn n) c.needs_at.ensures i))

pub returns-then-not-mark_layer-clause-nearest : goal.returns-then-not-mark_layer-clause-nearest
returns-then-not-mark_layer-clause-nearest c =
    searched_none _ c.args.row c.loop-marks.level (length c.loop-marks.marks) c.loop-marks.marks _ (rows_of _ _ (c.requires.size ∙ sym c.loop-marks.invariant.0)) c.loop-marks.invariant.1
    (none_of c.args.needs.now c.args.row c.loop-marks.level c.least_marked.result c.loop-marks.marks c.needs_at.result.now c.requires.within (c.requires.size ∙ sym c.loop-marks.invariant.0)
    c.needs_at.ensures (omega (arith, c.loop-marks-test.true)) c.least_marked.ensures.least)
    c.if-not-mark_layer.ensures

pub loop-marks-preserved : goal.loop-marks-preserved
loop-marks-preserved c = (
  c.mark_layer.ensures.size ∙ c.loop-marks.invariant.0,
  searched_more _ c.args.row c.loop-marks.level (length c.loop-marks.marks) c.loop-marks.marks _ (rows_of _ _ (c.requires.size ∙ sym c.loop-marks.invariant.0)) c.loop-marks.invariant.1
      (none_of c.args.needs.now c.args.row c.loop-marks.level c.least_marked.result c.loop-marks.marks c.needs_at.result.now c.requires.within (c.requires.size ∙ sym c.loop-marks.invariant.0)
      c.needs_at.ensures (omega (arith, c.loop-marks-test.true)) c.least_marked.ensures.least)
      c.if-not-mark_layer.ensures,
)

pub returns-clause-nearest : goal.returns-clause-nearest
returns-clause-nearest c = elim c.least_marked.ensures.has [
  | inl e ↦ absurd (c.loop-marks-test.false e)
  | inr i ↦ searched_found _ c.args.row c.loop-marks.level c.least_marked.result c.loop-marks.marks c.loop-marks.invariant.1 (subst (IsIn c.least_marked.result) c.needs_at.ensures i) (c.least_marked.ensures.marked (omega (arith, c.loop-marks.invariant.0, c.requires.size, c.requires.within c.args.row c.least_marked.result (subst (IsIn c.least_marked.result) c.needs_at.ensures i))))
]
