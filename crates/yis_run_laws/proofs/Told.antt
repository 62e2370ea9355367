-- The records of a run.
use Rattle.std.proofs.Common.{◌≡◌, ℕ, ◌+◌, List, ◌++◌, Some, ap, sym, ◌∙◌}
use Rattle.std.specs.Option.{option_to_list}
use Rattle.y86_base.specs.declared.parts.Variant.{Variant}
use Rattle.y86_isa.specs.Machine.{start}
use Rattle.y86_isa.specs.Step.{machine_after, record_of, retired}
use Rattle.y86_isa.specs.Run.{records}
use Rattle.y86_isa.proofs.Records.{retired-live, advance-live}
use Rattle.y86_isa.proofs.Runs.{records_from-last}
use Rattle.yis_run_laws.specs.Instructions.{state_before, work_at, RunReaches}
use Rattle.yis_run_laws.proofs.Walk.{before_next}

pub retired_at : (v : Variant) (image : List ℕ) (i : ℕ) → RunReaches v image i → retired v (state_before v image i) ≡ Some (record_of (state_before v image i) (work_at v image i))
unfolding work_at
retired_at v image i live = retired-live v (state_before v image i) live

pub after_flags : (v : Variant) (image : List ℕ) (i : ℕ) → RunReaches v image i →
    (machine_after (state_before v image i) (work_at v image i)).flags ≡ (state_before v image (i + 1)).flags
unfolding work_at
after_flags v image i live = ap (λ m. m.flags) (sym (before_next v image i ∙ advance-live v (state_before v image i) live))

pub records_next : (v : Variant) (image : List ℕ) (i : ℕ) → records v image (i + 1) ≡ records v image i ++ option_to_list (retired v (state_before v image i))
unfolding state_before
records_next v image i = records_from-last v (start image) i
