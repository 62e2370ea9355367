use Rattle.std.proofs.Common.{◌≡◌, ◌<◌, true, List, length, Some, slice_get, IsTrue, refl, sym, ap, ◌∙◌, subst, arith}
use Rattle.std.proofs.lemmas.Option.{slice_get_read}
use Rattle.hcl_types.specs.declared.term.Term.{Term}
use Rattle.hcl_types.specs.declared.table.Row.{Row}
use Rattle.hcl_types.specs.Tables.{is_defined}
use Rattle.hcl_types.specs.Terms.{value}
use Rattle.ctl_atoms.specs.Leaves.{leaf_meaning}
use Rattle.ctl_atoms.specs.Rows.{row_term, defined_leaves}
use Rattle.ctl_picks.specs.declared.controls.Entry.{Entry}
use Rattle.ctl_picks.specs.TakenPicks.{at}
use Rattle.ctl_picks.specs.Entries.{EntryEncodes, IsEntryOf}
use Rattle.ctl_terms.specs.Translatable.{EncodesSoFar, translatable}
use Rattle.ctl_formula.specs.Encoding.{IsPartialEncoding, is_filled}
use Rattle.ctl_formula.proofs.Elements.{defined_below, set_here, set_passes}
use Rattle.ctl_formula.proofs.OneByOne.{readied_at, truth_class, word_class, bound_class, filling_next, filled_entry}
use Rattle.ctl_formula.proofs.filling.Definitions.put_row.Goals as goal

pub term-requires-clause-defined : goal.term-requires-clause-defined
term-requires-clause-defined c =
    let rows = c.args.self.now.rows.now in
    let id = c.args.id in
    let row : Row = c.index-rows-id.result in
    let read : slice_get rows id ≡ Some row = slice_get_read rows (length rows) id row refl c.requires.row c.index-rows-id.is in
    let d : is_defined row.role ≡ true = sym c.is_defined.ensures ∙ c.if-not-is_defined.false in
    let below = defined_below rows id row read d in
    let whole = c.requires.bound.whole in
    omega (arith, below, whole)

pub defined_entry-requires-clause-truth : goal.defined_entry-requires-clause-truth
defined_entry-requires-clause-truth c = λ h.
    let rows = c.args.self.now.rows.now in
    let terms = c.args.self.now.terms.now in
    let asks = c.args.self.now.atoms.now in
    let es = c.args.es.now.items in
    let id = c.args.id in
    let row : Row = c.index-rows-id.result in
    let read : slice_get rows id ≡ Some row = slice_get_read rows (length rows) id row refl c.requires.row c.index-rows-id.is in
    let d : is_defined row.role ≡ true = sym c.is_defined.ensures ∙ c.if-not-is_defined.false in
    let places = c.requires.filling.0 in
    let leaves = c.requires.leaves.0 in
    let all = readied_at rows terms places asks c.args.self.now.first leaves c.requires.leaves.1 c.args.b.now es c.requires.filling.1 c.requires.bound (c.requires.atoms.are leaves c.requires.leaves.1) id row read d (c.requires.needs row read d) in
    let term : Term = row_term rows terms id in
    let kind = truth_class rows terms places asks c.args.self.now.first row.class term (bound_class rows terms places asks c.args.self.now.first c.requires.bound id row read d) h in
    subst (λ (xs : List Entry). IsTrue (translatable xs asks c.term.result.now).truth) (sym c.as_slice.ensures.value)
    (subst (λ (t : Term). IsTrue (translatable es asks t).truth) (sym c.term.ensures) (all.truth kind))

pub defined_entry-requires-clause-word : goal.defined_entry-requires-clause-word
defined_entry-requires-clause-word c = λ h.
    let rows = c.args.self.now.rows.now in
    let terms = c.args.self.now.terms.now in
    let asks = c.args.self.now.atoms.now in
    let es = c.args.es.now.items in
    let id = c.args.id in
    let row : Row = c.index-rows-id.result in
    let read : slice_get rows id ≡ Some row = slice_get_read rows (length rows) id row refl c.requires.row c.index-rows-id.is in
    let d : is_defined row.role ≡ true = sym c.is_defined.ensures ∙ c.if-not-is_defined.false in
    let places = c.requires.filling.0 in
    let leaves = c.requires.leaves.0 in
    let all = readied_at rows terms places asks c.args.self.now.first leaves c.requires.leaves.1 c.args.b.now es c.requires.filling.1 c.requires.bound (c.requires.atoms.are leaves c.requires.leaves.1) id row read d (c.requires.needs row read d) in
    let term : Term = row_term rows terms id in
    let kind = word_class rows terms places asks c.args.self.now.first row.class term (bound_class rows terms places asks c.args.self.now.first c.requires.bound id row read d) h in
    subst (λ (xs : List Entry). IsTrue (translatable xs asks c.term.result.now).word) (sym c.as_slice.ensures.value)
    (subst (λ (t : Term). IsTrue (translatable es asks t).word) (sym c.term.ensures) (all.word kind))

pub returns-clause-filling : goal.returns-clause-filling
returns-clause-filling c = λ places h.
    let rows = c.args.self.now.rows.now in
    let terms = c.args.self.now.terms.now in
    let asks = c.args.self.now.atoms.now in
    let es = c.args.es.now.items in
    let id = c.args.id in
    let row : Row = c.index-rows-id.result in
    let read : slice_get rows id ≡ Some row = slice_get_read rows (length rows) id row refl c.requires.row c.index-rows-id.is in
    let d : is_defined row.role ≡ true = sym c.is_defined.ensures ∙ c.if-not-is_defined.false in
    let e : Entry = c.in_ok-e.e in
    let made = c.in_ok-e.ensures in
    let term : Term = row_term rows terms id in
    let net = c.defined_entry.new.b in
    let entry : IsEntryOf row.class (defined_leaves row.class (translatable es asks term).leaves) e =
    subst (λ (xs : List Entry). IsEntryOf row.class (defined_leaves row.class (translatable xs asks term).leaves) e) c.as_slice.ensures.value
    (subst (λ (t : Term). IsEntryOf row.class (defined_leaves row.class (translatable c.as_slice.result.now asks t).leaves) e) c.term.ensures made.entry) in
    subst (λ (xs : List Entry). IsPartialEncoding rows terms places asks c.args.self.now.first net xs) (sym c.put_entry.ensures)
    (filling_next rows terms places asks c.args.self.now.first made.extends es id row e read d h made.within
    (λ leaves fixed. (readied_at rows terms places asks c.args.self.now.first leaves fixed c.args.b.now es h c.requires.bound (c.requires.atoms.are leaves fixed) id row read d (c.requires.needs row read d)).leaves)
    entry
    (λ w α cv s.
    subst (λ (t : Term). EntryEncodes (at net w) α e (value (leaf_meaning α) cv t)) c.term.ensures
    (made.is w α cv (subst (λ (xs : List Entry). EncodesSoFar c.args.b.now xs asks c.args.self.now.first w α cv) (sym c.as_slice.ensures.value) s))))

pub returns-clause-filled : goal.returns-clause-filled
returns-clause-filled c = λ r read d.
    let es = c.args.es.now.items in
    let id = c.args.id in
    let row : Row = c.index-rows-id.result in
    let e : Entry = c.in_ok-e.e in
    let size = c.requires.filling.1.size in
    let inside = c.requires.row in
    let lt : id < length es = omega (arith, size, inside) in
    ap is_filled (ap (λ (xs : List Entry). slice_get xs id) c.put_entry.ensures ∙ set_here es id e lt)
    ∙ filled_entry row.class (defined_leaves row.class (translatable c.as_slice.result.now c.args.self.now.atoms.now c.term.result.now).leaves) e c.in_ok-e.ensures.entry

pub returns-clause-kept : goal.returns-clause-kept
returns-clause-kept c = λ n h.
    let es = c.args.es.now.items in
    let row : Row = c.index-rows-id.result in
    let e : Entry = c.in_ok-e.e in
    subst (λ (xs : List Entry). IsTrue (is_filled (slice_get xs n))) (sym c.put_entry.ensures)
    (set_passes is_filled es c.args.id e n (filled_entry row.class (defined_leaves row.class (translatable c.as_slice.result.now c.args.self.now.atoms.now c.term.result.now).leaves) e c.in_ok-e.ensures.entry) h)
