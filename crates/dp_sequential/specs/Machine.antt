-- A machine of a sequential datapath as its callers see it, and what one call of `cycle` does.
use Rattle.std.specs.Prelude.{◌≡◌, ℕ, false, List, Option, None}
use Rattle.std.proofs.Common.{◌∙◌, ap}
use Rattle.y86_base.specs.declared.parts.Variant.{Variant}
use Rattle.y86_isa.specs.Machine.{is_aok}
use Rattle.y86_isa.specs.declared.machine.Rec.{Rec}
use Rattle.hcl_types.specs.declared.table.Row.{Row}
use Rattle.hcl_types.specs.declared.term.Term.{Term}
use Rattle.hcl_types.specs.Tables.{IsBound, IsOrderOf}
use Rattle.dp_signals.specs.After.{IsAfter}
use Rattle.dp_sequential.specs.Path.{SequentialPath, IsCycle, RunFrom}

-- the hardware units as a cycle begins: the instruction set, and the state that they read
pub record UnitsView (S : Type 0) : Type 0 where
  pub variant : Variant
  pub state : S

-- the instruction set, the design with its order, and the state
pub record MachineView (S : Type 0) : Type 0 where
  pub variant : Variant
  pub terms : List Term
  pub order : List ℕ
  pub state : S

-- a machine with these parts
abbrev pub seen : {S : Type 0} → Variant → List Term → List ℕ → S → MachineView S
seen v terms order state = record { variant = v; terms = terms; order = order; state = state }

-- the machine before its first cycle
abbrev pub started_on : {S : Type 0} → SequentialPath S → Variant → List Term → List ℕ → List ℕ → MachineView S
started_on path v terms order image = seen v terms order (path.start image)

-- a call on the machine p that returns r and leaves the machine q: its state goes through one cycle, and the rest stays
pub record IsCall {S : Type 0} (path : SequentialPath S) (p : MachineView S) (r : Option Rec) (q : MachineView S) : Type 0 where
  pub cycle : IsCycle path p.variant p.terms p.state r q.state
  pub rest : q ≡ record p { state = q.state }

-- q is the machine after k calls on p, and these are the records that they returned, the first one first
abbrev pub CallsOn : {S : Type 0} → SequentialPath S → MachineView S → ℕ → MachineView S → List Rec → Type 0
CallsOn path = IsAfter (IsCall path)

-- k calls on a machine that began on an image are the run of k cycles, with the same state and records. A call after
-- the end does nothing.
pub record IsRun {S : Type 0} (path : SequentialPath S) (v : Variant) (terms : List Term) (image : List ℕ) (k : ℕ) (q : MachineView S) (records : List Rec) : Type 0 where
  pub same_variant : q.variant ≡ v
  pub same_terms : q.terms ≡ terms
  pub run : RunFrom path v terms (path.start image) k q.state records

abbrev pub CallsAreTheRun : {S : Type 0} → SequentialPath S → Type 0
CallsAreTheRun {S} path =
    (v : Variant) (terms : List Term) (order image : List ℕ) (k : ℕ) (q : MachineView S) (records : List Rec) →
    CallsOn path (started_on path v terms order image) k q records → IsRun path v terms image k q records

-- what is true of every machine: the design is bound to the table, and the order is one of this design
pub record IsOfTable (table : List Row) (terms : List Term) (order : List ℕ) : Type 0 where
  pub bound : IsBound table terms
  pub ordered : IsOrderOf table terms order

-- a call on a machine that has stopped leaves it as it was
pub stays_on : {S : Type 0} (path : SequentialPath S) (p q : MachineView S) → is_aok (path.stat p.state) ≡ false → IsCall path p None q → q ≡ p
stays_on path p q over c = c.rest ∙ ap (λ s. record p { state = s }) (c.cycle.ended over).0
