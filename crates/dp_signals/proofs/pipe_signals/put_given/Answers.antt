use Rattle.std.proofs.Common.{rules, ◌≡◌, length}
use Rattle.dp_signals.specs.PipeNames as row
use Rattle.dp_signals.specs.PipeEquations.{state_words}
use Rattle.dp_signals.proofs.PipeRules.{state_put}
use Rattle.dp_signals.proofs.pipe_signals.put_given.Goals as goal

pub returns : goal.returns
unfolding state_words
returns c =
    let size : length c.args.values.now ≡ row.count = search rules in
    state_put c.args.p.now c.args.values.now c.requires size
