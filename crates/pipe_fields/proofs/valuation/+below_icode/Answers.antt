use Rattle.std.proofs.Common.{◌==◌, ◌||◌, not, sym, arith}
use Rattle.std.proofs.lemmas.Result.{IfOk-weaker}
use Rattle.net_fields.proofs.Fields.{gate_as, joined}
use Rattle.net_fields.proofs.Icodes.{each_zero}
use Rattle.pipe_fields.proofs.Icodes.{each_last}
use Rattle.pipe_fields.specs.Layout.{fields_of}
use Rattle.pipe_fields.specs.Lines.{line_icode_allowed, icode_in}
use Rattle.pipe_fields.proofs.valuation.+below_icode.Goals as goal

pub returns-then-n-eq0-clause-has_truth : goal.returns-then-n-eq0-clause-has_truth
returns-then-n-eq0-clause-has_truth t c = IfOk-weaker c.constant.result _ _ (λ g made. gate_as made (λ w. sym (each_zero c.args.n _ c.if-n-eq0.true))) c.constant.ensures.has_truth

pub returns-clause-has_truth : goal.returns-clause-has_truth
returns-clause-has_truth t c =
    IfOk-weaker c.and.result _ _ (λ g made. gate_as (joined c.in_ok-earlier.ensures.has_truth c.at_icode.ensures.extends c.in_ok-last.ensures.has_truth made)
    (λ w. sym (each_last c.args.n (λ k. not (icode_in c.args.line (fields_of w) == k) || line_icode_allowed c.args.v c.args.line k (fields_of w)) (omega arith)))) c.and.ensures.has_truth
