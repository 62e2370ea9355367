use Rattle.std.proofs.Common.{sym, ◌∙◌}
use Rattle.dp_sequential.proofs.values.UnitsHardware.value.Goals as goal

pub returns-clause-value : goal.returns-clause-value
returns-clause-value g c = c.unit.ensures.value ∙ sym (g.met.S.Sequential.lawful.blocks _ _ _ _)
