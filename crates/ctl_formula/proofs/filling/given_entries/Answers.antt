use Rattle.std.proofs.Common.{◌≡◌, ◌+◌, length, Some, slice_get, sym, subst, refl, arith, IsTrue, is_some}
use Rattle.std.proofs.lemmas.Option.{slice_get_read}
use Rattle.nets.proofs.Truths.{begins_more}
use Rattle.hcl_types.specs.declared.table.Row.{Row}
use Rattle.ctl_formula.specs.Encoding.{IsInputEncoding}
use Rattle.ctl_given.specs.Places.{place_of}
use Rattle.ctl_given.proofs.Placed.{placed_at}
use Rattle.ctl_formula.proofs.OneByOne.{given_next}
use Rattle.ctl_formula.proofs.filling.given_entries.Goals as goal

pub loop-id-preserved : goal.loop-id-preserved
loop-id-preserved c =
    let rows = c.args.rows.now in
    let id = c.loop-id.id in
    let row : Row = c.index-rows-id.result in
    let read : slice_get rows id ≡ Some row = slice_get_read rows (length rows) id row refl c.loop-id-test.true c.index-rows-id.is in
    let e = c.in_ok-e.ensures in
    let made = given_next e.extends rows c.args.places.now id c.loop-id.es.items c.in_ok-e.e row read c.loop-id.invariant.given e.within e.absent e.entry e.is in
    record {
      begins = begins_more c.loop-id.invariant.begins e.extends;
      given = subst (IsInputEncoding rows c.args.places.now (id + 1) c.given_entry.new.b) (sym c.in-Ok.ensures) made;
    }

pub given_entry-requires-clause-placed : goal.given_entry-requires-clause-placed
given_entry-requires-clause-placed c =
    let rows = c.args.rows.now in
    let id = c.loop-id.id in
    let row : Row = c.index-rows-id.result in
    let read : slice_get rows id ≡ Some row = slice_get_read rows (length rows) id row refl c.loop-id-test.true c.index-rows-id.is in
    λ f h. subst (λ k. IsTrue (is_some (place_of c.args.places.now k))) (let q : 0 + id ≡ id = omega arith in q) (placed_at c.args.places.now 0 rows id row read c.requires.places.placed f h)
