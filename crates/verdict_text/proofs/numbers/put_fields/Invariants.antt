use Rattle.std.proofs.Common.{◌≡◌, ◌++◌, true, drop}
use Rattle.verdict_text.specs.Fields.{labelled}
use Rattle.verdict_text.specs.Views.{are_few, shown}
use Rattle.verdict_text.proofs.numbers.put_fields.Given as goal

abbrev pub invariant-loop-it : goal.invariant-loop-it
invariant-loop-it l = record {
  text : l.out.items ++ labelled (shown l.bits (drop l.it-index l.fields)) ≡ l.fn.out.items ++ labelled (shown l.bits l.fields);
  few : are_few (drop l.it-index l.fields) ≡ true;
}
