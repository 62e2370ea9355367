use Rattle.std.proofs.Common.{◌≡◌, ℕ, ◌+◌, ◌<◌, ◌≤◌, true, List, length, drop, get_or, Some, slice_get, IsTrue, sym, subst}
use Rattle.std.proofs.lemmas.List.{drop_more, at_drop_all}
use Rattle.std.specs.List.{AllByRecursion}
use Rattle.nets.proofs.Truths.{begins_more}
use Rattle.hcl_types.specs.declared.table.Row.{Row}
use Rattle.hcl_types.specs.Tables.{is_defined}
use Rattle.hcl_types.specs.Terms.{names}
use Rattle.ctl_atoms.specs.Rows.{row_term}
use Rattle.ctl_atoms.proofs.Solved.{leaves_exist}
use Rattle.ctl_formula.specs.Encoding.{is_filled}
use Rattle.ctl_formula.proofs.OneByOne.{IsAlong, filling_start, given_filled, along_start, along_next, along_needs, along_end, along_inside, put_filled}
use Rattle.ctl_formula.proofs.filling.Definitions.told_entries.Goals as goal

pub loop-id-init : goal.loop-id-init
loop-id-init c =
    let rows = c.args.self.now.rows.now in
    let terms = c.args.self.now.terms.now in
    let places = c.args.places.now in
    let asks = c.args.self.now.atoms.now in
    let net = c.given_entries.new.b in
    let es = c.in_ok-es.es.items in
    let given = c.in_ok-es.ensures.given in
    record {
      begins = c.in_ok-es.ensures.extends;
      filling = filling_start rows terms places asks c.args.self.now.first net es given;
      given = given_filled rows terms places asks c.args.self.now.first net es given;
      along = along_start rows terms places asks c.args.self.now.first c.args.o.now.ids es c.requires.ordered;
    }

pub put_row-requires-clause-leaves : goal.put_row-requires-clause-leaves
put_row-requires-clause-leaves c = leaves_exist c.args.self.now.rows.now c.args.self.now.terms.now c.args.o.now.ids c.requires.ordered

pub put_row-requires-clause-needs : goal.put_row-requires-clause-needs
put_row-requires-clause-needs c =
    let rows = c.args.self.now.rows.now in
    let terms = c.args.self.now.terms.now in
    let places = c.args.places.now in
    let asks = c.args.self.now.atoms.now in
    let ids = c.args.o.now.ids in
    let i = c.loop-id.id-index in
    let es = c.loop-id.es.items in
    let inside : i < length ids = subst (λ (xs : List ℕ). i < length xs) c.items-id-items.ensures c.loop-id-test.true in
    let along = subst (λ (xs : List ℕ). IsAlong rows terms places asks c.args.self.now.first ids xs es) (drop_more ids i 0 inside) c.loop-id.invariant.along in
    let base = along_needs rows terms places asks c.args.self.now.first ids (get_or ids i 0) (drop (i + 1) ids) es along c.loop-id.invariant.given in
    subst (λ (xs : List ℕ). (row : Row) → slice_get rows (get_or xs i 0) ≡ Some row → is_defined row.role ≡ true →
    AllByRecursion (λ m. m < length rows → IsTrue (is_filled (slice_get es m))) (names (row_term rows terms (get_or xs i 0)))) (sym c.items-id-items.ensures) base

pub loop-id-preserved : goal.loop-id-preserved
loop-id-preserved c =
    let rows = c.args.self.now.rows.now in
    let terms = c.args.self.now.terms.now in
    let places = c.args.places.now in
    let asks = c.args.self.now.atoms.now in
    let ids = c.args.o.now.ids in
    let i = c.loop-id.id-index in
    let es = c.loop-id.es.items in
    let es' = c.put_row.new.es.items in
    let k : ℕ = get_or ids i 0 in
    let inv = c.loop-id.invariant in
    let step = c.in-Ok.ensures in
    let inside : i < length ids = subst (λ (xs : List ℕ). i < length xs) c.items-id-items.ensures c.loop-id-test.true in
    let along = subst (λ (xs : List ℕ). IsAlong rows terms places asks c.args.self.now.first ids xs es) (drop_more ids i 0 inside) inv.along in
    let told = subst (λ (xs : List ℕ). (row : Row) → slice_get rows (get_or xs i 0) ≡ Some row → is_defined row.role ≡ true → IsTrue (is_filled (slice_get es' (get_or xs i 0)))) c.items-id-items.ensures step.filled in
    let lt : k < length rows = along_inside rows terms places asks c.args.self.now.first ids i inside c.requires.ordered in
    let filled = put_filled rows terms places asks c.args.self.now.first es es' k lt inv.given told step.kept in
    record {
      begins = begins_more inv.begins step.extends;
      filling = step.filling places inv.filling;
      given = λ n row r d. step.kept n (inv.given n row r d);
      along = along_next rows terms places asks c.args.self.now.first ids k (drop (i + 1) ids) es es' along filled step.kept;
    }

pub returns-clause-encodes : goal.returns-clause-encodes
returns-clause-encodes c =
    let rows = c.args.self.now.rows.now in
    let terms = c.args.self.now.terms.now in
    let places = c.args.places.now in
    let asks = c.args.self.now.atoms.now in
    let ids = c.args.o.now.ids in
    let i = c.loop-id.id-index in
    let es = c.loop-id.es.items in
    let inv = c.loop-id.invariant in
    let past : length ids ≤ i = subst (λ (xs : List ℕ). length xs ≤ i) c.items-id-items.ensures c.loop-id-test.false in
    let along = subst (λ (xs : List ℕ). IsAlong rows terms places asks c.args.self.now.first ids xs es) (at_drop_all (λ (xs : List ℕ). xs) ids i past) inv.along in
    record {
      filling = inv.filling;
      filled = along_end rows terms places asks c.args.self.now.first ids es along c.requires.ordered inv.given;
    }
