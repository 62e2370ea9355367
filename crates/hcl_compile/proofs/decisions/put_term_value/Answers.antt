use Rattle.std.proofs.lemmas.Result.{IfOk-weaker}
use Rattle.hcl_compile.proofs.Made.{put_term_ends}
use Rattle.hcl_compile.proofs.decisions.put_term_value.Goals as goal

pub returns : goal.returns
returns c constants =
    IfOk-weaker c.put.result _ _ (λ place added. put_term_ends c.args.t.now c.args.d.now c.add_term.new.d c.put.new.d c.in_ok-k.k place _ c.in_ok-k.ensures added constants) c.put.ensures
