use Rattle.std.proofs.Common.{subst, sym}
use Rattle.hcl_compile.specs.Making.{IsEquality, IsOperand}
use Rattle.hcl_compile.proofs.Valuing.{equal_code, equal_number, equal_rows}
use Rattle.hcl_compile.proofs.equality.compared.Goals as goal

pub returns-in-Row-Row-clause-is : goal.returns-in-Row-Row-clause-is
returns-in-Row-Row-clause-is c =
    equal_rows c.args.constants.now c.args.x.now c.args.y.now c.in-Row-Row.id c.in-Row-Row.other (subst (IsOperand c.args.constants.now c.args.x.now) c.in-Row-Row.is-0 c.read_operand.ensures)
    (subst (IsOperand c.args.constants.now c.args.y.now) c.in-Row-Row.is-1 c.read_operand-2.ensures)

pub returns-in-Row-Number-clause-is : goal.returns-in-Row-Number-clause-is
returns-in-Row-Number-clause-is c =
    subst (IsEquality c.args.constants.now c.args.x.now c.args.y.now) (sym c.of_row-in-Row-Number.ensures.is)
    (equal_code c.args.constants.now c.args.x.now c.args.y.now c.in-Row-Number.id c.in-Row-Number.n
    (subst (IsOperand c.args.constants.now c.args.x.now) c.in-Row-Number.is-0 c.read_operand.ensures)
    (subst (IsOperand c.args.constants.now c.args.y.now) c.in-Row-Number.is-1 c.read_operand-2.ensures))

pub returns-in-Number-Row-clause-is : goal.returns-in-Number-Row-clause-is
returns-in-Number-Row-clause-is c =
    subst (IsEquality c.args.constants.now c.args.x.now c.args.y.now) (sym c.of_row.ensures.is)
    (equal_number c.args.constants.now c.args.x.now c.args.y.now c.in-Number-Row.id c.in-Number-Row.n
    (subst (IsOperand c.args.constants.now c.args.x.now) c.in-Number-Row.is-0 c.read_operand.ensures)
    (subst (IsOperand c.args.constants.now c.args.y.now) c.in-Number-Row.is-1 c.read_operand-2.ensures))
