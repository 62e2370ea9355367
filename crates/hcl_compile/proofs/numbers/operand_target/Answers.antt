use Rattle.std.proofs.Common.{subst, refl}
use Rattle.hcl_types.specs.Terms.{value, word_meaning}
use Rattle.hcl_compile.specs.Making.{IsOperand}
use Rattle.hcl_compile.proofs.Valuing.{row_ends}
use Rattle.hcl_compile.proofs.numbers.operand_target.Goals as goal

pub returns-then-id-lt-FARTHEST : goal.returns-then-id-lt-FARTHEST
returns-then-id-lt-FARTHEST c terms nodes env rows begins within =
    let is = subst (IsOperand c.args.constants.now c.args.t.now) c.in-Row.is c.read_operand.ensures env rows begins within in
    row_ends env rows terms nodes c.in-Row.id _ (value word_meaning env c.args.t.now) refl is.0 is.1
