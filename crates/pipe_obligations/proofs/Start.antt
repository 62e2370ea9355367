-- The start of a run, where all stages hold bubbles.
use Rattle.std.proofs.Common.{◌≡◌, Bool, true, false, not, ◌||◌, List, refl}
use Rattle.y86_base.specs.declared.parts.Variant.{Variant}
use Rattle.ctl_atoms.specs.declared.leaf.Atom.{Atom}
use Rattle.ctl_atoms.specs.Leaves.{Assignment}
use Rattle.pipe_fields.specs.Laws.{of_bubbles}
use Rattle.pipe_fields.specs.Layout.{FetchLine}
use Rattle.pipe_motion.specs.declared.settings.Settings.{Settings}
use Rattle.pipe_obligations.proofs.Older.{empty_is_lawful}
use Rattle.pipe_obligations.specs.StageFlows.{back_matches_in_f, legal, flow_of}

or_true : (b : Bool) → not b || true ≡ true
or_true true = refl
or_true false = refl

pub start_is_legal : (v : Variant) (s : Settings) (atoms : List Atom) (f : FetchLine) (α : Assignment) → back_matches_in_f v atoms (of_bubbles f) α ≡ true → legal v s atoms (of_bubbles f) α ≡ true
unfolding legal flow_of
start_is_legal v s atoms f α h = rw (empty_is_lawful s.je s.rm, h) (or_true s.tv)
