use Rattle.std.proofs.Common.{◌≡◌, ℕ, false, IsTrue, drop, Some, slice_get}
use Rattle.nets.specs.Nets.{ExtendsNet}
use Rattle.hcl_types.specs.declared.table.Row.{Row}
use Rattle.hcl_types.specs.Tables.{is_defined}
use Rattle.ctl_formula.specs.Encoding.{IsPartialEncoding, is_filled}
use Rattle.ctl_formula.proofs.OneByOne.{IsAlong}
use Rattle.ctl_formula.proofs.filling.Definitions.told_entries.Given as goal

abbrev pub invariant-loop-id : goal.invariant-loop-id
invariant-loop-id l = record {
  begins : ExtendsNet l.fn.b l.b;
  filling : IsPartialEncoding l.self.rows.now l.self.terms.now l.places l.self.atoms.now l.self.first l.b l.es.items;
  given : (n : ℕ) (row : Row) → slice_get l.self.rows.now n ≡ Some row → is_defined row.role ≡ false → IsTrue (is_filled (slice_get l.es.items n));
  along : IsAlong l.self.rows.now l.self.terms.now l.places l.self.atoms.now l.self.first l.o.ids (drop l.id-index l.o.ids) l.es.items;
}
