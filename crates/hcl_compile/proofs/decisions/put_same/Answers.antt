use Rattle.std.proofs.lemmas.Result.{IfOk-weaker}
use Rattle.hcl_compile.proofs.Made.{put_same_decides}
use Rattle.hcl_compile.proofs.decisions.put_same.Goals as goal

pub returns : goal.returns
returns c constants = IfOk-weaker c.put_question.result _ _ (λ place added. put_same_decides c.args.left c.args.right c.args.to _ _ place added.0 added.1 constants) c.put_question.ensures
