-- What a gate says about control values.
use Rattle.std.specs.Prelude.{ℕ, ◌+◌, ◌<◌, ◌≤◌, ◌≡◌, Bool, List, length, if◌then◌else◌, ◌&&◌}
use Rattle.nets.specs.Nets.{Gates, truth}
use Rattle.ctl_atoms.specs.declared.leaf.Leaf.{Leaf}
use Rattle.ctl_atoms.specs.declared.leaf.Leaf.TheVariants.{Name, Number}
use Rattle.ctl_atoms.specs.Leaves.{Assignment}
use Rattle.ctl_picks.specs.declared.controls.Entry.{Entry}
use Rattle.ctl_picks.specs.Picks.{EncodesControls}
use Rattle.net_fields.specs.Spelling.{spelt}
use Rattle.ctl_rules.specs.declared.expected_leaf.ExpectedLeaf.{ExpectedLeaf}
use Rattle.ctl_rules.specs.declared.expected_leaf.ExpectedLeaf.TheVariants as want
use Rattle.net_fields.specs.declared.field_specs.BitRange.{BitRange}
use Rattle.y86_isa.specs.declared.columns.RegisterColumn.{RegisterColumn}
use Rattle.y86_isa.specs.declared.columns.RegisterColumn.TheVariants.{Dash, FieldA, FieldB, Stack}
use Rattle.y86_isa.specs.Table.{no_register, stack_pointer}

-- gate g of the net has the truth f wherever the gates of names encode the control values cv
pub record IsControlGate (net : Gates) (ctl : List Entry) (g : ℕ) (f : List Bool → Assignment → (ℕ → Leaf) → Bool) : Type 0 where
  pub within : g < length net.gates
  pub is : (w : List Bool) (α : Assignment) (cv : ℕ → Leaf) → EncodesControls net ctl w α cv → truth net g w ≡ f w α cv

-- the leaf that is wanted: a given one, or the number of a field
abbrev pub leaf_expected : List Bool → ExpectedLeaf → Leaf
leaf_expected w (want.This leaf) = leaf
leaf_expected w (want.Field p) = Number (spelt w p.first p.bits)

-- a wanted field is among the first vars variables
abbrev pub IsWithin : ℕ → ExpectedLeaf → Type 0
IsWithin vars (want.This leaf) = Unit {0}
IsWithin vars (want.Field p) = p.first + p.bits ≤ vars

-- the register that a column names
abbrev pub expected_register : RegisterColumn → BitRange → BitRange → ExpectedLeaf
expected_register Dash r_a r_b = want.This (Number no_register)
expected_register FieldA r_a r_b = want.Field r_a
expected_register FieldB r_a r_b = want.Field r_b
expected_register Stack r_a r_b = want.This (Number stack_pointer)
