use Rattle.std.proofs.lemmas.Result.{IfOk-weaker}
use Rattle.net_fields.proofs.Fields.{gate_as}
use Rattle.net_fields.proofs.Icodes.{where_is}
use Rattle.pipe_fields.proofs.Icodes.{icode_below}
use Rattle.pipe_fields.specs.Layout.{fields_of}
use Rattle.pipe_fields.specs.Lines.{line_icode_allowed, icode_in}
use Rattle.pipe_fields.proofs.valuation.stage_line_allowed.Goals as goal

pub returns-clause-has_truth : goal.returns-clause-has_truth
returns-clause-has_truth c =
    IfOk-weaker c.below_icode.result _ _ (λ g made. gate_as made (λ w. where_is 16 (icode_in c.args.line (fields_of w)) (λ k. line_icode_allowed c.args.v c.args.line k (fields_of w)) (icode_below c.args.line w))) c.below_icode.ensures.has_truth
