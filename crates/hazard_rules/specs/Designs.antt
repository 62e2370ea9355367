-- The names of a design as gates, over the bits of a control valuation of PIPE.
use Rattle.std.specs.Prelude.{ℕ, ◌≡◌, ◌+◌, Bool, List, [], ◌∷◌, Option, Some, None, length}
use Rattle.nets.specs.Nets.{Gates}
use Rattle.hcl_types.specs.declared.term.Term.{Term}
use Rattle.dp_signals.specs.PipeTable.{pipe_rows}
use Rattle.ctl_atoms.specs.declared.leaf.Leaf.{Leaf}
use Rattle.ctl_atoms.specs.declared.leaf.Atom.{Atom}
use Rattle.ctl_atoms.specs.Leaves.{Assignment, AtomsAre}
use Rattle.ctl_atoms.specs.Atoms.{AreAtoms}
use Rattle.ctl_picks.specs.declared.controls.Entry.{Entry}
use Rattle.ctl_given.specs.declared.places.Place.{Place}
use Rattle.ctl_picks.specs.Picks.{Covers, IsInside, EncodesControls}
use Rattle.net_fields.specs.declared.field_specs.FieldSpec.{FieldSpec}
use Rattle.pipe_fields.specs.Layout.{bit_count, fields_of, field_specs}
use Rattle.pipe_obligations.specs.FileSettings.{PipeControls}

-- the places of the fields of a table that are signals, with the first field's first bit at a number
abbrev placed : Option ℕ → ℕ → ℕ → List Place → List Place
placed None first bits rest = rest
placed (Some name) first bits rest = record { name = name; first = first; bits = bits } ∷ rest

abbrev pub places_from : List FieldSpec → ℕ → List Place
places_from [] first = []
places_from (s ∷ ss) first = placed s.name first s.bits (places_from ss (first + s.bits))

-- the places of the signals that are fields among the variables
abbrev pub places : List Place
places = places_from field_specs 0

-- the net has a variable for each bit of a field and each atom, and its gates encode the control values of the
-- design's names
pub record IsTranslated (terms : List Term) (net : Gates) (ctl : List Entry) (atoms : List Atom) : Type 0 where
  pub are : AreAtoms pipe_rows terms atoms
  pub vars : net.vars ≡ bit_count + length atoms
  pub inside : IsInside net ctl
  pub covers : Covers pipe_rows ctl
  pub tells : (w : List Bool) (α : Assignment) (cv : ℕ → Leaf) → AtomsAre atoms bit_count w α → PipeControls terms (fields_of w) α cv → EncodesControls net ctl w α cv
