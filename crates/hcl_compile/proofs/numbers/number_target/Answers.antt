use Rattle.std.proofs.Common.{refl}
use Rattle.hcl_compile.proofs.Valuing.{number_found}
use Rattle.hcl_compile.proofs.numbers.number_target.Goals as goal

pub returns-then-id : goal.returns-then-id
returns-then-id c = number_found c.args.constants.now c.args.n c.loop-id.id _ c.loop-id-test.true c.if-constant-n.true refl
