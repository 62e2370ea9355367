use Rattle.aiger_run.proofs.Vectors.{start_word, vector_none}
use Rattle.aiger_run.proofs.inputs.put_vector.Goals as goal

pub loop-k-init : goal.loop-k-init
loop-k-init c = record {
  behind = start_word c.from-draws.result _ c.from-draws.ensures;
  so_far = vector_none c.args.seed c.args.i c.args.bits.now;
}
