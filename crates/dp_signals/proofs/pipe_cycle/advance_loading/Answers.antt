use Rattle.std.proofs.Common.{refl}
use Rattle.hcl_types.specs.Terms.{at}
use Rattle.dp_signals.specs.PipeEquations.{given, state_words}
use Rattle.dp_signals.proofs.Loading.{next_loading}
use Rattle.dp_signals.proofs.pipe_cycle.advance_loading.Goals as goal

pub returns-clause-next : goal.returns-clause-next
returns-clause-next c =
    rw (next_loading c.args.p.now (at c.args.values.now) c.requires.loads, c.put_store.ensures, c.load_registers.ensures, c.store_of-store.ensures) refl

pub returns-clause-given : goal.returns-clause-given
unfolding given state_words
returns-clause-given c = c.put_given.ensures
