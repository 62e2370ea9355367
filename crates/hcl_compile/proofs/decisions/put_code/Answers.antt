use Rattle.std.proofs.Common.{◌≤◌, arith}
use Rattle.std.proofs.lemmas.Result.{IfOk-weaker}
use Rattle.hcl_compile.proofs.Made.{put_code_decides}
use Rattle.hcl_compile.proofs.decisions.put_code.Goals as goal

pub returns : goal.returns
returns c constants =
    let whole : 17 ≤ c.loop-answer.answer = omega (arith, c.loop-answer-test.false) in
    IfOk-weaker c.put.result _ _ (λ place added. put_code_decides c.args.name c.args.code c.args.to _ _ place _ c.loop-answer.answer c.requires c.loop-answer.invariant whole added constants) c.put.ensures
