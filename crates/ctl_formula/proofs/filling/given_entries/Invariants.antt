use Rattle.nets.specs.Nets.{ExtendsNet}
use Rattle.ctl_formula.specs.Encoding.{IsInputEncoding}
use Rattle.ctl_formula.proofs.filling.given_entries.Given as goal

abbrev pub invariant-loop-id : goal.invariant-loop-id
invariant-loop-id l = record {
  begins : ExtendsNet l.fn.b l.b;
  given : IsInputEncoding l.rows l.places l.id l.b l.es.items;
}
