use Rattle.std.proofs.Common.{◌∙◌, ◌==◌, ◌&&◌, ap, arith}
use Rattle.nets.proofs.Truths.{begins_more}
use Rattle.y86_isa.specs.declared.columns.Row.{Row}
use Rattle.net_fields.specs.Spelling.{spelt}
use Rattle.net_fields.proofs.Fields.{gate_as}
use Rattle.pipe_gates.specs.Columns.{has, row_passes}
use Rattle.pipe_gates.proofs.Found.{found_step, found_all}
use Rattle.pipe_gates.proofs.fields.row_has.Goals as goal

pub loop-k-preserved : goal.loop-k-preserved
loop-k-preserved c = record {
  begins = begins_more c.loop-k.invariant.begins (begins_more c.spells_if.ensures.extends c.or.ensures.extends);
  made = record {
    within = c.in_ok-any-2.ensures.has_truth.within;
    is = λ w. found_step (has c.args.v c.args.test) _ c.loop-k.k _ _ _ (c.spells_if.ensures.extends.same _ w c.loop-k.invariant.made.within ∙ c.loop-k.invariant.made.is w)
        (c.in_ok-here.ensures.has_truth.is w ∙ ap (λ x. (spelt w c.args.icode.first c.args.icode.bits == c.loop-k.k) && x) (c.row_passes.ensures ∙ ap (λ (r : Row). row_passes r c.args.test) c.row.ensures.row)) (c.in_ok-any-2.ensures.has_truth.is w);
  };
}

pub returns-clause-has_truth : goal.returns-clause-has_truth
returns-clause-has_truth c = gate_as c.loop-k.invariant.made (λ w. found_all w c.args.icode.first c.args.icode.bits c.loop-k.k _ c.requires.bits (omega arith))
