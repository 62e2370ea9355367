use Rattle.std.proofs.Common.{◌≡◌, List, sym, ap, ◌∙◌, subst, not, nat_eq}
use Rattle.net_fields.specs.Spelling.{spelt}
use Rattle.ctl_atoms.specs.declared.leaf.Leaf.{Leaf}
use Rattle.ctl_atoms.specs.declared.leaf.Leaf.TheVariants.{Number}
use Rattle.ctl_atoms.specs.Leaves.{leaf_holds}
use Rattle.ctl_picks.specs.declared.controls.Pick.{Pick}
use Rattle.ctl_given.specs.declared.places.Place.{Place}
use Rattle.ctl_equations.specs.Controls.{field_leaf}
use Rattle.ctl_given.specs.Places.{IsInside}
use Rattle.ctl_picks.specs.TakenPicks.{IsOnlyTaken, at}
use Rattle.ctl_given.proofs.Placed.{place_at}
use Rattle.ctl_given.proofs.given.field_entry.Goals as goal

pub code_picks-requires-clause-few : goal.code_picks-requires-clause-few
code_picks-requires-clause-few c = (place_at (IsInside c.args.b.now.vars) c.args.places.now c.args.id c.find_place.result c.find_place.ensures c.requires.inside).0.0

pub code_picks-requires-clause-inside : goal.code_picks-requires-clause-inside
code_picks-requires-clause-inside c = (place_at (IsInside c.args.b.now.vars) c.args.places.now c.args.id c.find_place.result c.find_place.ensures c.requires.inside).0.1

pub bit_gate-requires : goal.bit_gate-requires
bit_gate-requires c = (place_at (IsInside c.args.b.now.vars) c.args.places.now c.args.id c.find_place-in-Truth.result c.find_place-in-Truth.ensures c.requires.inside).0.1

pub returns-in_ok-ps-in-Code-clause-is : goal.returns-in_ok-ps-in-Code-clause-is
returns-in_ok-ps-in-Code-clause-is c = λ w α field s.
    let found = place_at (λ (p : Place). field p.name ≡ spelt w p.first p.bits) c.args.places.now c.args.id c.find_place.result c.find_place.ensures s in
    let number : spelt w c.find_place.result.first c.find_place.result.bits ≡ field c.args.id = sym found.0 ∙ ap field found.1 in
    let leaf : Number (spelt w c.find_place.result.first c.find_place.result.bits) ≡ field_leaf field c.args.id c.args.class = ap Number number ∙ ap (field_leaf field c.args.id) (sym c.in-Code.is) in
    subst (λ (x : Leaf). IsOnlyTaken (at c.code_picks.new.b w) c.of-in-Code.result x) leaf
    (subst (λ (ps : List Pick). IsOnlyTaken (at c.code_picks.new.b w) ps (Number (spelt w c.find_place.result.first c.find_place.result.bits))) (sym c.of-in-Code.ensures) (c.in_ok-ps-in-Code.ensures.is w))

pub returns-in_ok-g-in-Truth-clause-is : goal.returns-in_ok-g-in-Truth-clause-is
returns-in_ok-g-in-Truth-clause-is c = λ w α field s.
    let place = c.find_place-in-Truth.result in
    let found = place_at (λ (p : Place). field p.name ≡ spelt w p.first p.bits) c.args.places.now c.args.id place c.find_place-in-Truth.ensures s in
    let number : spelt w place.first place.bits ≡ field c.args.id = sym found.0 ∙ ap field found.1 in
    c.in_ok-g-in-Truth.ensures.has_truth.is w ∙ (ap (λ z. not (nat_eq z 0)) number ∙ ap (leaf_holds α) (ap (field_leaf field c.args.id) (sym c.in-Truth.is)))
