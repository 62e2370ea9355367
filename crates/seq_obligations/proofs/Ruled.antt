-- From the gates of names, which encode control values, to the rules of a design.
use Rattle.std.proofs.Common.{◌≡◌, ℕ, ◌+◌, ◌-◌, Bool, List, length, sym, subst, ◌∙◌, arith}
use Rattle.nets.specs.Nets.{Gates, ExtendsNet}
use Rattle.hcl_types.specs.declared.term.Term.{Term}
use Rattle.hcl_types.specs.declared.table.Row.{Row}
use Rattle.ctl_atoms.specs.Atoms.{AreAtoms}
use Rattle.ctl_atoms.specs.Leaves.{Assignment, AtomsAre}
use Rattle.ctl_atoms.specs.declared.leaf.Atom.{Atom}
use Rattle.ctl_atoms.specs.declared.leaf.Leaf.{Leaf}
use Rattle.ctl_equations.specs.Controls.{AreControls}
use Rattle.ctl_picks.specs.declared.controls.Entry.{Entry}
use Rattle.ctl_given.specs.declared.places.Place.{Place}
use Rattle.ctl_picks.specs.Picks.{IsInside, EncodesControls}
use Rattle.ctl_given.specs.Places.{Spells}
use Rattle.ctl_picks.proofs.Inside.{tells_more}
use Rattle.ctl_rules.specs.declared.rules.Rule.{Rule}
use Rattle.seq_obligations.specs.Obligations.{rule_count}
use Rattle.seq_obligations.specs.Rules.{AreDesignedRules, AreNumbered}

-- rules that are right if the gates of names encode control values are the rules of the design
pub designed : {translated last : Gates} (rows seen : List Row) (places ps : List Place) (field : List Bool → ℕ → ℕ) (bits : ℕ) (f : ℕ → List Bool → Assignment → (ℕ → Leaf) → Bool)
    (terms : List Term) (ctl : List Entry) (atoms : List Atom) (list : List Rule) (vars : ℕ)
    → seen ≡ rows → ps ≡ places → ((w : List Bool) → Spells places w (field w)) → AreAtoms seen terms atoms → vars ≡ bits + length atoms → translated.vars ≡ vars → IsInside translated ctl
    → ((w : List Bool) (α : Assignment) (given : ℕ → ℕ) (cv : ℕ → Leaf) (listed : List Atom) → AreAtoms seen terms listed → AtomsAre listed (vars - length listed) w α
    → Spells ps w given → AreControls seen terms given α cv → EncodesControls translated ctl w α cv)
    → ExtendsNet translated last → length list ≡ rule_count → AreNumbered last ctl f list → AreDesignedRules rows field bits f terms last list
designed {translated} {last} rows seen places ps field bits f terms ctl atoms list vars e k spelt are size same inside tells grown count asked = record {
  atoms = atoms;
  are = subst (λ r. AreAtoms r terms atoms) e are;
  vars = grown.vars ∙ (same ∙ size);
  count = count;
  each = λ n x at. record {
    number = (asked n x at).number;
    within = (asked n x at).asked.within;
    is = λ w α cv l c. (asked n x at).asked.is w α cv (told w α cv l c);
  };
}
  where
    from : vars - length atoms ≡ bits
    from = omega (arith, size)

    told : (w : List Bool) (α : Assignment) (cv : ℕ → Leaf) → AtomsAre atoms bits w α → AreControls rows terms (field w) α cv → EncodesControls last ctl w α cv
    told w α cv l c =
        tells_more grown inside
        (tells w α (field w) cv atoms are (subst (λ n. AtomsAre atoms n w α) (sym from) l) (subst (λ p. Spells p w (field w)) (sym k) (spelt w))
        (subst (λ r. AreControls r terms (field w) α cv) (sym e) c))
