-- The obligations by their numbers, with their premises.
use Rattle.std.specs.Prelude.{ℕ, Bool, true, not, ◌&&◌, ◌||◌, ◌==◌, List, [], ◌∷◌, get_or}
use Rattle.y86_base.specs.declared.parts.Variant.{Variant}
use Rattle.ctl_atoms.specs.declared.leaf.Leaf.{Leaf}
use Rattle.ctl_atoms.specs.declared.leaf.Atom.{Atom}
use Rattle.ctl_atoms.specs.Leaves.{Assignment}
use Rattle.pipe_fields.specs.Layout.{Fields}
use Rattle.pipe_fields.specs.Allowed.{allowed}
use Rattle.pipe_motion.specs.Flow.{Flow, RegisterControls}
use Rattle.pipe_motion.specs.declared.settings.Settings.{Settings}
use Rattle.pipe_obligations.specs.StageFlows.{flow_of, legal, is_stopping}
use Rattle.pipe_obligations.specs.Obligations.{register_controls_of, o1, o2, o3, o4, o5, o6, o7, o8, o9, o10, o11, o12, o13, o14, o15, o16, o17, o18, o19, o20, o21, o22, o23, o24, o25, o26, o27}

-- how many there are
abbrev pub rule_count : ℕ
rule_count = 27

-- what they demand at a valuation, in the order of their numbers, from 1 on
abbrev pub demands : Variant → Settings → Fields → Flow → RegisterControls → Assignment → (ℕ → Leaf) → List Bool
demands v s c y mv α cv =
    o1 v s c y mv α cv ∷ o2 v s c y mv α cv ∷ o3 v s c y mv α cv ∷
    o4 v s c y mv α cv ∷ o5 v s c y mv α cv ∷ o6 v s c y mv α cv ∷
    o7 v s c y mv α cv ∷ o8 v s c y mv α cv ∷ o9 v s c y mv α cv ∷
    o10 v s c y mv α cv ∷ o11 v s c y mv α cv ∷ o12 v s c y mv α cv ∷
    o13 v s c y mv α cv ∷ o14 v s c y mv α cv ∷ o15 v s c y mv α cv ∷
    o16 v s c y mv α cv ∷ o17 v s c y mv α cv ∷ o18 v s c y mv α cv ∷
    o19 v s c y mv α cv ∷ o20 v s c y mv α cv ∷ o21 v s c y mv α cv ∷
    o22 v s c y mv α cv ∷ o23 v s c y mv α cv ∷ o24 v s c y mv α cv ∷
    o25 v s c y mv α cv ∷ o26 v s c y mv α cv ∷ o27 v s c y mv α cv ∷ []

abbrev pub demand : ℕ → Variant → Settings → Fields → Flow → RegisterControls → Assignment → (ℕ → Leaf) → Bool
demand i v s c y mv α cv = get_or (true ∷ demands v s c y mv α cv) i true

unfoldable pub demand_at : Variant → Settings → ℕ → Fields → Assignment → (ℕ → Leaf) → Bool
demand_at v s i c α cv = demand i v s c (flow_of v s c) (register_controls_of α cv) α cv

-- the obligations on the flags, memory and the status are demanded in cycles that stop too
abbrev pub is_always_demanded : ℕ → Bool
is_always_demanded i = i == 15 || (i == 19 || i == 22)

-- the valuations at which obligation i is demanded
unfoldable pub is_demanded : Variant → Settings → List Atom → ℕ → Fields → Assignment → Bool
is_demanded v s atoms i c α = allowed v c && (legal v s atoms c α && (is_always_demanded i || not (is_stopping c)))

-- the obligation; it holds at a valuation at which it isn't demanded
abbrev pub obligation : Variant → Settings → List Atom → ℕ → Fields → Assignment → (ℕ → Leaf) → Bool
obligation v s atoms i c α cv = not (is_demanded v s atoms i c α) || demand_at v s i c α cv
