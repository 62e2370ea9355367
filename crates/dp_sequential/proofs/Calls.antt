-- Calls of `cycle` on a new machine are its run.
use Rattle.std.proofs.Common.{◌≡◌, List, Option, refl, ◌∙◌, ap, subst}
use Rattle.y86_base.specs.declared.parts.Variant.{Variant}
use Rattle.y86_isa.specs.declared.machine.Rec.{Rec}
use Rattle.hcl_types.specs.declared.term.Term.{Term}
use Rattle.dp_machines.proofs.After.{after_states}
use Rattle.dp_sequential.specs.Machine.{CallsAreTheRun, IsCall, MachineView, started_on}
use Rattle.dp_sequential.specs.Path.{IsCycle, SequentialPath}

module _ {S : Type 0} (path : SequentialPath S) where
  -- a machine of this instruction set and design
  abbrev Keeps : Variant → List Term → MachineView S → Type 0
  Keeps v terms q = (q.variant ≡ v) × (q.terms ≡ terms)

  kept : (v : Variant) (terms : List Term) (m : MachineView S) (r : Option Rec) (q : MachineView S) → Keeps v terms m → IsCall path m r q → Keeps v terms q × IsCycle path v terms m.state r q.state
  kept v terms m r q k c = (
    (ap (λ (p : MachineView S). p.variant) c.rest ∙ k.0, ap (λ (p : MachineView S). p.terms) c.rest ∙ k.1),
    subst (λ x. IsCycle path x terms m.state r q.state) k.0 (subst (λ x. IsCycle path m.variant x m.state r q.state) k.1 c.cycle),
  )

  pub calls_are_the_run : CallsAreTheRun path
  calls_are_the_run v terms order image k q records h =
      let done = after_states (IsCall path) (IsCycle path v terms) (λ (p : MachineView S). p.state) (Keeps v terms) (kept v terms) (started_on path v terms order image) (refl, refl) k q records h in
      record { same_variant = done.0.0; same_terms = done.0.1; run = done.1 }
