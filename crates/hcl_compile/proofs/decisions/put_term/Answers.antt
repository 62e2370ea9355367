use Rattle.std.proofs.lemmas.Result.{IfOk-weaker}
use Rattle.hcl_compile.proofs.Made.{put_term_decides}
use Rattle.hcl_compile.proofs.decisions.put_term.Goals as goal

pub returns : goal.returns
returns c constants =
    IfOk-weaker c.put_question.result _ _ (λ place added. put_term_decides c.args.t.now c.args.to c.args.d.now c.add_term.new.d c.put_question.new.d c.in_ok-k.k place added.0 c.in_ok-k.ensures added.1 constants)
    c.put_question.ensures
