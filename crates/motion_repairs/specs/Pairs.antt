-- Two changes made together, and all changes that meet all obligations on motion.
use Rattle.std.specs.Prelude.{ℕ, Bool, ◌&&◌, ◌==◌, if◌then◌else◌, List, [], ◌∷◌, ◌++◌, filter, length, map}
use Rattle.y86_base.specs.declared.parts.Variant.{Variant}
use Rattle.ctl_atoms.specs.declared.leaf.Leaf.{Leaf}
use Rattle.ctl_atoms.specs.Leaves.{Assignment}
use Rattle.control_values.specs.Given.{at}
use Rattle.pipe_fields.specs.Layout.{Fields}
use Rattle.pipe_motion.specs.Flow.{Flow, RegisterControls}
use Rattle.pipe_motion.specs.declared.settings.Settings.{Settings}
use Rattle.motion_repairs.specs.declared.pairs.Pair.{Pair}
use Rattle.motion_repairs.specs.declared.pairs.Repairs.{Repairs}
use Rattle.motion_repairs.specs.Changes.{is_pc_repair, is_signal_repair, pc_repairs, pc_sources, signal_repairs, stall_bubble_signals, with_inverted}

-- a name with each of some others
abbrev pub pairs_with : ℕ → List ℕ → List Pair
pairs_with first seconds = map (λ second. record { first = first; second = second }) seconds

-- each pair of two of the names, in their order
unfoldable pub pairs_of : List ℕ → List Pair
pairs_of [] = []
pairs_of (first ∷ rest) = pairs_with first rest ++ pairs_of rest

-- each of the first names with each of the second ones
unfoldable pub combinations : List ℕ → List ℕ → List Pair
combinations [] seconds = []
combinations (first ∷ rest) seconds = pairs_with first seconds ++ combinations rest seconds

module _ (v : Variant) (s : Settings) (c : Fields) (y : Flow) (mv : RegisterControls) (α : Assignment) (leaves : List Leaf) where
  -- whether they are met with both signals inverted
  unfoldable pub is_met_by_both : Pair → Bool
  is_met_by_both pair = is_signal_repair v s c y (with_inverted pair.first mv) α (at leaves) pair.second

  -- whether they are met with the first name inverted, if f_pc picks the second one
  unfoldable pub is_met_with_pc : Pair → Bool
  is_met_with_pc pair = is_pc_repair v s c y (with_inverted pair.first mv) α leaves pair.second

  -- the pairs of signals that, inverted together, meet them all
  unfoldable pub both_repairs : List Pair
  both_repairs = filter is_met_by_both (pairs_of stall_bubble_signals)

  -- the signals, each with a choice of f_pc, that meet them all together
  unfoldable pub repairs_with_pc : List Pair
  repairs_with_pc = filter is_met_with_pc (combinations stall_bubble_signals pc_sources)

  -- no change alone meets them all
  unfoldable pub needs_two : Bool
  needs_two = length (signal_repairs v s c y mv α (at leaves)) == 0 && length (pc_repairs v s c y mv α leaves) == 0

  -- all changes that meet them all; pairs are listed only if no single change meets them
  abbrev pub repairs_of : Repairs
  repairs_of = record {
    invert = signal_repairs v s c y mv α (at leaves);
    f_pc = pc_repairs v s c y mv α leaves;
    invert_both = if needs_two then both_repairs else [];
    invert_and_f_pc = if needs_two then repairs_with_pc else [];
  }
