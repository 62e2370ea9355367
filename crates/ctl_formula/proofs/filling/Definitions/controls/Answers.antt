use Rattle.std.proofs.Common.{◌-◌, List, sym, subst}
use Rattle.ctl_atoms.proofs.Solved.{leaves_exist}
use Rattle.ctl_picks.specs.declared.controls.Entry.{Entry}
use Rattle.ctl_picks.specs.Picks.{Covers, IsInside, EncodesControls}
use Rattle.ctl_picks.specs.Laws.{AreApart}
use Rattle.ctl_formula.proofs.Apart.{apart_all}
use Rattle.ctl_formula.proofs.OneByOne.{covers_all, inside_all, tells_all}
use Rattle.ctl_formula.proofs.filling.Definitions.controls.Goals as goal

pub returns-clause-inside : goal.returns-clause-inside
returns-clause-inside c =
    subst (IsInside c.told_entries.new.b) (sym c.finished.ensures) (inside_all c.told_entries.new.b c.in_ok-es.es.items c.in_ok-es.ensures.encodes.filling.within)

pub returns-clause-covers : goal.returns-clause-covers
returns-clause-covers c =
    let rows = c.args.self.now.rows.now in
    let terms = c.args.self.now.terms.now in
    let leaves = leaves_exist rows terms c.args.o.now.ids c.requires.ordered in
    subst (Covers rows) (sym c.finished.ensures)
    (covers_all rows terms c.args.places.now c.args.self.now.atoms.now _ leaves.0 leaves.1 c.told_entries.new.b c.in_ok-es.es.items c.in_ok-es.ensures.encodes)

pub returns-clause-encodes : goal.returns-clause-encodes
returns-clause-encodes c = λ w α field cv atoms s controls.
    let net = c.told_entries.new.b in
    let es = c.in_ok-es.es.items in
    subst (λ (xs : List Entry). EncodesControls net xs w α cv) (sym c.finished.ensures) (tells_all net es w α cv (c.in_ok-es.ensures.encodes.filling.shows w α field cv atoms s controls))

pub returns-clause-apart : goal.returns-clause-apart
returns-clause-apart c =
    let rows = c.args.self.now.rows.now in
    let terms = c.args.self.now.terms.now in
    let leaves = leaves_exist rows terms c.args.o.now.ids c.requires.ordered in
    subst AreApart (sym c.finished.ensures)
    (apart_all rows terms c.args.places.now c.args.self.now.atoms.now _ c.args.o.now.ids c.requires.ordered leaves.0 leaves.1 c.told_entries.new.b c.in_ok-es.es.items c.in_ok-es.ensures.encodes.filling)
