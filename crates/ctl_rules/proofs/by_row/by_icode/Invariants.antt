use Rattle.nets.specs.Nets.{ExtendsNet}
use Rattle.y86_isa.specs.Table.{row}
use Rattle.net_fields.specs.Spelling.{spelt}
use Rattle.net_fields.specs.Icodes.{where_below}
use Rattle.ctl_rules.specs.ControlGates.{IsControlGate}
use Rattle.ctl_rules.proofs.by_row.by_icode.Given as goal

abbrev pub invariant-loop-code : goal.invariant-loop-code
invariant-loop-code g l = record {
  begins : ExtendsNet l.fn.b l.b;
  are : IsControlGate l.b l.ctl l.all (λ w α cv. where_below l.code (spelt w l.icode.first l.icode.bits) (λ k. g.R.RowGates.asks l.rule k (row l.v k) w α cv));
}
