use Rattle.std.proofs.Common.{◌==◌, ◌&&◌}
use Rattle.std.proofs.lemmas.Result.{IfOk-weaker}
use Rattle.ctl_rules.proofs.Kept.{asked_as}
use Rattle.pipe_stage_gates.proofs.Joined.{regroup}
use Rattle.pipe_fields.specs.Layout.{fields_of}
use Rattle.nets.specs.Nets.{truth}
use Rattle.dp_signals.specs.PipeNames.{alufun}
use Rattle.ctl_rules.specs.ColumnDemands.{is_number}
use Rattle.y86_isa.specs.Blocks.{alu_function}
use Rattle.y86_isa.specs.RowTests.{has_operand_a}
use Rattle.y86_isa.specs.Table.{row}
use Rattle.pipe_stage_gates.proofs.execute.obligation_14.Goals as goal

pub returns-clause-has_truth : goal.returns-clause-has_truth
returns-clause-has_truth c =
    IfOk-weaker c.demand_in_e.result _ _ (λ _ made. asked_as made
    (λ w α cv. regroup (truth c.args.b.now c.args.inputs.now.flow.now.e.good w && (fields_of w).e.stat == 1) (has_operand_a (row c.args.inputs.now.variant (fields_of w).e.icode).alu_a)
    (is_number cv alufun (alu_function (row c.args.inputs.now.variant (fields_of w).e.icode).selects (fields_of w).e.ifun))))
    c.demand_in_e.ensures.has_truth
