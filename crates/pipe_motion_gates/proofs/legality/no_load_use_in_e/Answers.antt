use Rattle.std.proofs.Common.{◌≡◌, ◌∙◌, ◌==◌, ap, refl, Bool, true, false, not, ◌&&◌, ◌||◌}
use Rattle.std.proofs.lemmas.Result.{IfOk-weaker}
use Rattle.y86_isa.specs.Table.{row}
use Rattle.y86_isa.specs.RowTests.{stores_val_a}
use Rattle.pipe_fields.specs.Layout.{fields_of}
use Rattle.pipe_motion.specs.Gates.{flow_at}
use Rattle.pipe_motion_gates.proofs.legality.no_load_use_in_e.Goals as goal

by_parts : (a x y z : Bool) → not (a && (x || (y && not z))) ≡ (not a || (not x && (not y || z)))
by_parts false x y z = refl
by_parts true true y z = refl
by_parts true false false z = refl
by_parts true false true true = refl
by_parts true false true false = refl

pub returns-clause-has_truth : goal.returns-clause-has_truth
returns-clause-has_truth c = IfOk-weaker c.not.result _ _ (λ _ made. record {
  within = made.within;
  is = λ w. made.is w ∙ (ap not (c.in_ok-bad.ensures.has_truth.is w)
      ∙ by_parts ((flow_at c.args.b.now w c.args.y.now).e.good && ((flow_at c.args.b.now w c.args.y.now).m.good && not ((fields_of w).m.dst_m == 15)))
      ((fields_of w).m.dst_m == (fields_of w).e.src_b) ((fields_of w).m.dst_m == (fields_of w).e.src_a) (c.args.lf && stores_val_a (row c.args.v (fields_of w).e.icode).memory));
}) c.not.ensures.has_truth
