use Rattle.std.proofs.Common.{subst}
use Rattle.hcl_compile.specs.Making.{IsEquality}
use Rattle.hcl_compile.proofs.Valuing.{put_known, put_row_code, put_rows}
use Rattle.hcl_compile.proofs.equality.put_equal.Goals as goal

pub returns-in-Known : goal.returns-in-Known
returns-in-Known c =
    put_known c.args.constants.now c.args.x.now c.args.y.now c.in-Known.equal c.args.d.now c.args.to c.chosen.result
    (subst (IsEquality c.args.constants.now c.args.x.now c.args.y.now) c.in-Known.is c.compared.ensures.is) c.chosen.ensures

pub returns-in_ok-put_same-in-Rows : goal.returns-in_ok-put_same-in-Rows
returns-in_ok-put_same-in-Rows c =
    put_rows c.args.constants.now c.args.x.now c.args.y.now c.in-Rows.left c.in-Rows.right c.args.d.now c.put_same.new.d c.args.to c.in_ok-put_same-in-Rows.field-0
    (subst (IsEquality c.args.constants.now c.args.x.now c.args.y.now) c.in-Rows.is c.compared.ensures.is) (c.in_ok-put_same-in-Rows.ensures c.args.constants.now)

pub returns-in_ok-put_code-in-Code : goal.returns-in_ok-put_code-in-Code
returns-in_ok-put_code-in-Code c =
    put_row_code c.args.constants.now c.args.x.now c.args.y.now c.in-Code.name c.in-Code.code c.args.d.now c.put_code.new.d c.args.to c.in_ok-put_code-in-Code.field-0
    (subst (IsEquality c.args.constants.now c.args.x.now c.args.y.now) c.in-Code.is c.compared.ensures.is) (c.in_ok-put_code-in-Code.ensures c.args.constants.now)
