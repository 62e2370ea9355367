use Rattle.std.proofs.Common.{subst, refl}
use Rattle.hcl_compile.specs.Making.{IsOperand}
use Rattle.hcl_compile.proofs.Choosing.{test_number, test_row}
use Rattle.hcl_compile.proofs.choices.put_operand.Goals as goal

pub returns-in-Number : goal.returns-in-Number
returns-in-Number c =
    test_number c.args.constants.now _ _ c.args.to _ c.args.t.now c.in-Number.n _ (subst (IsOperand c.args.constants.now c.args.t.now) c.in-Number.is c.read_operand.ensures) refl c.chosen.ensures refl

pub returns-in_ok-put_code-in-Row : goal.returns-in_ok-put_code-in-Row
returns-in_ok-put_code-in-Row c =
    test_row c.args.constants.now _ _ c.args.to _ c.args.t.now c.in-Row.id (subst (IsOperand c.args.constants.now c.args.t.now) c.in-Row.is c.read_operand.ensures)
    (rw c.swapped.ensures at (c.in_ok-put_code-in-Row.ensures c.args.constants.now))
