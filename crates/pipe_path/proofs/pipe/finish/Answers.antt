use Rattle.std.proofs.Common.{refl, sym, ◌∙◌}
use Rattle.hcl_types.specs.Terms.{at}
use Rattle.dp_signals.proofs.Loading.{ending_loading}
use Rattle.pipe_path.proofs.pipe.finish.Goals as goal

pub returns-then-all_load-clause-ending : goal.returns-then-all_load-clause-ending
returns-then-all_load-clause-ending c = sym (ending_loading (at c.args.values.now) (sym c.all_load.ensures ∙ c.if-all_load.true))

pub returns-then-all_load-clause-end : goal.returns-then-all_load-clause-end
returns-then-all_load-clause-end c = rw (ending_loading (at c.args.values.now) (sym c.all_load.ensures ∙ c.if-all_load.true)) refl
