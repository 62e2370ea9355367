use Rattle.std.proofs.Common.{◌≡◌, ◌+◌, drop}
use Rattle.net_fields.specs.FieldSpecs.{total, place_from}
use Rattle.net_fields.proofs.field_specs.place_in.Given as goal

abbrev pub invariant-loop-field : goal.invariant-loop-field
invariant-loop-field l = record {
  within : l.first + total (drop l.field-index l.fields) ≡ total l.fields;
  left : place_from (drop l.field-index l.fields) l.first l.name ≡ place_from l.fields 0 l.name;
}
