use Rattle.std.proofs.Common.{◌≡◌, length}
use Rattle.nets.specs.Nets.{ExtendsNet}
use Rattle.dp_signals.specs.PipeNames as names
use Rattle.ctl_atoms.specs.declared.leaf.Leaf.TheVariants.{Name}
use Rattle.ctl_rules.specs.ColumnDemands.{picks_leaf}
use Rattle.ctl_rules.specs.ControlGates.{IsControlGate}
use Rattle.hazard_rules.specs.Parts.{ArePredictionGates}
use Rattle.hazard_rules.proofs.early_gates.predictions.Given as goal

abbrev pub invariant-loop-i : goal.invariant-loop-i
invariant-loop-i l = record {
  size : length l.gates ≡ 7;
  begins : ExtendsNet l.fn.b l.b;
  taken : IsControlGate l.b l.ctl l.taken (λ w α cv. picks_leaf cv names.f_predPC (Name names.f_valC));
  told : ArePredictionGates l.v l.b l.ctl l.atoms l.back l.gates l.i;
}
