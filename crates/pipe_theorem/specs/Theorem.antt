-- The refinement theorem: a file for PIPE that meets the obligations computes what the instructions compute.
use Rattle.std.specs.Prelude.{ℕ, List}
use Rattle.y86_base.specs.declared.parts.Variant.{Variant}
use Rattle.y86_isa.specs.Run.{IsImage}
use Rattle.yis_pure_runs.specs.Near.{NearPure}
use Rattle.hcl_types.specs.declared.term.Term.{Term}
use Rattle.hcl_types.specs.Tables.{IsBound, IsOrderOf}
use Rattle.dp_signals.specs.PipeTable.{pipe_rows}
use Rattle.ctl_atoms.specs.declared.leaf.Atom.{Atom}
use Rattle.pipe_motion.specs.declared.settings.Settings.{Settings}
use Rattle.pipe_obligations.specs.FileSettings.{Holds, PipeControls}
use Rattle.pipe_refinement.specs.Refines.{Refines}

-- the design meets every obligation at the settings, in every valuation in which its control values solve their
-- equations; and a jump carries its target if the settings say so
abbrev pub MeetsObligations : Variant → List Term → List Atom → Settings → Type 0
MeetsObligations v terms atoms s = Holds v atoms (PipeControls terms) s

-- For every instruction set, design, settings, image and number of cycles: a design that is bound, has an order and
-- meets the obligations refines the run of instructions, provided that none of the first instructions fetches a byte
-- that one of the three before it stored.
abbrev pub ObligationsRefine : Type 0
ObligationsRefine =
    (v : Variant) (terms : List Term) (ids : List ℕ) (atoms : List Atom) (s : Settings) (image : List ℕ) (k : ℕ) →
    IsBound pipe_rows terms → IsOrderOf pipe_rows terms ids → MeetsObligations v terms atoms s →
    IsImage image → NearPure v image k → Refines v terms image k
