-- A run keeps the size of the memory.
use Rattle.std.proofs.Common.{◌≡◌, ℕ, zero, suc, Bool, true, false, List, length, Option, ap, refl, ◌∙◌}
use Rattle.y86_base.specs.declared.parts.Variant.{Variant}
use Rattle.y86_isa.specs.Machine.{is_aok}
use Rattle.y86_isa.specs.declared.machine.Rec.{Rec}
use Rattle.hcl_types.specs.declared.term.Term.{Term}
use Rattle.dp_sequential.specs.Laws.{IsSequential}
use Rattle.dp_sequential.specs.Machine.{CallsOn, MachineView, started_on}
use Rattle.dp_sequential.specs.Path.{IsCycle, RunFrom, SequentialPath}
use Rattle.dp_signals.specs.declared.sequential_rows.SignalRows.{SignalRows}
use Rattle.dp_sequential.proofs.Calls.{calls_are_the_run}

module _ {S : Type 0} (rows : SignalRows) (path : SequentialPath S) (laws : IsSequential rows path) (v : Variant) (terms : List Term) where
  cycle_keeps : (s : S) (r : Option Rec) (t : S) → IsCycle path v terms s r t → (b : Bool) → is_aok (path.stat s) ≡ b → length (path.mem t) ≡ length (path.mem s)
  cycle_keeps s r t c false e = ap (λ (x : S). length (path.mem x)) (c.ended e).0
  cycle_keeps s r t c true e =
      let went = c.goes e in
      ap (λ (x : S). length (path.mem x)) went.2 ∙ laws.keeps s went.0

  run_keeps : (m : S) (k : ℕ) (s : S) (records : List Rec) → RunFrom path v terms m k s records → length (path.mem s) ≡ length (path.mem m)
  run_keeps m zero s records h = ap (λ (x : S). length (path.mem x)) h.0
  run_keeps m (suc k) s records h = cycle_keeps h.0 h.2 s h.4 (is_aok (path.stat h.0)) refl ∙ run_keeps m k h.0 h.1 h.3

  -- calls on a new machine keep the size of its memory
  pub calls_keep : (order image : List ℕ) (k : ℕ) (q : MachineView S) (records : List Rec) → CallsOn path (started_on path v terms order image) k q records →
      length (path.mem q.state) ≡ length image
  calls_keep order image k q records h = run_keeps (path.start image) k q.state records (calls_are_the_run path v terms order image k q records h).run ∙ ap length (laws.starts image)
