-- One step of the run, by the work of its instruction.
use Rattle.std.proofs.Common.{◌≡◌, ℕ, ◌+◌, ◌<◌, inl, inr, Bool, true, false, not, List, refl, sym, ap, ◌∙◌}
use Rattle.std.proofs.lemmas.Bool.{cases_Bool, false≢true, not-true, not-false}
use Rattle.y86_base.specs.declared.parts.Stat.{Stat}
use Rattle.y86_base.specs.declared.parts.Stat.TheVariants.{Bub, Aok, Hlt, Adr, Ins, Pip, Bad}
use Rattle.y86_base.specs.declared.parts.Variant.{Variant}
use Rattle.y86_isa.specs.Run.{IsImage}
use Rattle.y86_isa.specs.Machine.{is_aok, start}
use Rattle.y86_isa.specs.Blocks.{fetched, stored, written_back}
use Rattle.y86_isa.specs.RowTests.{is_dash, has_operand_a, accesses, next_is_branch}
use Rattle.y86_isa.specs.Step.{advance, finished}
use Rattle.y86_isa.specs.Laws.{FollowsRow, FollowsFetch, DoesNothing}
use Rattle.y86_isa.proofs.Effects.{does_nothing-from_bad, access-from_fault, mem-by_work, flags-by_work, src_a-lt, src_b-lt}
use Rattle.y86_isa.proofs.Images.{IsImage-run_from}
use Rattle.y86_isa.proofs.Records.{advance-goes, advance-stops}
use Rattle.y86_isa.proofs.Runs.{run_from-last}
use Rattle.y86_isa.proofs.Works.{FollowsRow-work, FollowsFetch-work}
use Rattle.yis_run_laws.specs.Instructions.{state_before, work_at, instruction_row, RunReaches, stops_at}

pub before_next : (v : Variant) (image : List ℕ) (i : ℕ) → state_before v image (i + 1) ≡ advance v (state_before v image i)
unfolding state_before
before_next v image i = run_from-last v (start image) i

-- the equations of the work of instruction i
pub follows : (v : Variant) (image : List ℕ) (i : ℕ) → FollowsRow (instruction_row v image i) (state_before v image i) (work_at v image i)
unfolding work_at
follows v image i = FollowsRow-work v (state_before v image i)

pub fetches : (v : Variant) (image : List ℕ) (i : ℕ) → FollowsFetch (fetched v (state_before v image i).mem (state_before v image i).pc) (work_at v image i)
unfolding work_at
fetches v image i = FollowsFetch-work v (state_before v image i)

pub image_before : (v : Variant) (image : List ℕ) (i : ℕ) → IsImage image → IsImage (state_before v image i).mem
unfolding state_before
image_before v image i h = IsImage-run_from v (start image) i h

-- ---- an instruction that is bad at its fetch does nothing

pub bad_does : (v : Variant) (image : List ℕ) (i : ℕ) → is_aok (work_at v image i).fetch_stat ≡ false → DoesNothing (instruction_row v image i)
unfolding work_at
bad_does v image i h = does_nothing-from_bad v (state_before v image i) h

or_aok : (v : Variant) (image : List ℕ) (i : ℕ) (b : Bool) → (is_aok (work_at v image i).fetch_stat ≡ false → b ≡ false) → b ≡ true →
    is_aok (work_at v image i).fetch_stat ≡ true
or_aok v image i b h e = elim (cases_Bool (is_aok (work_at v image i).fetch_stat)) [ inl a ↦ a | inr n ↦ absurd (false≢true (sym (h n) ∙ e)) ]

pub aok-from_operand : (v : Variant) (image : List ℕ) (i : ℕ) → has_operand_a (instruction_row v image i).alu_a ≡ true → is_aok (work_at v image i).fetch_stat ≡ true
aok-from_operand v image i e = or_aok v image i _ (λ n. (bad_does v image i n).operand) e

pub aok-from_access : (v : Variant) (image : List ℕ) (i : ℕ) → accesses (instruction_row v image i).memory ≡ true → is_aok (work_at v image i).fetch_stat ≡ true
aok-from_access v image i e = or_aok v image i _ (λ n. (bad_does v image i n).access) e

pub aok-from_branch : (v : Variant) (image : List ℕ) (i : ℕ) → next_is_branch (instruction_row v image i).next ≡ true → is_aok (work_at v image i).fetch_stat ≡ true
aok-from_branch v image i e = or_aok v image i _ (λ n. (bad_does v image i n).branch) e

pub access-from_fault_at : (v : Variant) (image : List ℕ) (i : ℕ) → (work_at v image i).fault ≡ true → accesses (instruction_row v image i).memory ≡ true
unfolding work_at
access-from_fault_at v image i h = access-from_fault v (state_before v image i) h

-- ---- the machine after

is_aok-is : (s : Stat) → is_aok s ≡ true → s ≡ Aok
is_aok-is Bub h = cc
is_aok-is Aok h = refl
is_aok-is Hlt h = cc
is_aok-is Adr h = cc
is_aok-is Ins h = cc
is_aok-is Pip h = cc
is_aok-is Bad h = cc

pub live_aok : (v : Variant) (image : List ℕ) (i : ℕ) → RunReaches v image i → (state_before v image i).stat ≡ Aok
live_aok v image i h = is_aok-is _ h

pub after_is : (v : Variant) (image : List ℕ) (i : ℕ) → RunReaches v image i → stops_at v image i ≡ false →
    state_before v image (i + 1) ≡ finished (state_before v image i) (work_at v image i)
unfolding work_at
after_is v image i live h = before_next v image i ∙ advance-goes v (state_before v image i) live (not-false _ h)

pub live_next : (v : Variant) (image : List ℕ) (i : ℕ) → RunReaches v image i → stops_at v image i ≡ false → RunReaches v image (i + 1)
live_next v image i live h = ap (λ m. is_aok m.stat) (after_is v image i live h) ∙ not-false _ h

pub pc_next : (v : Variant) (image : List ℕ) (i : ℕ) → RunReaches v image i → stops_at v image i ≡ false →
    (state_before v image (i + 1)).pc ≡ (work_at v image i).next_pc
pc_next v image i live h = ap (λ m. m.pc) (after_is v image i live h)

pub regs_next : (v : Variant) (image : List ℕ) (i : ℕ) → RunReaches v image i → stops_at v image i ≡ false →
    (state_before v image (i + 1)).regs
    ≡ written_back (state_before v image i).regs (work_at v image i).dst_e (work_at v image i).val_e (work_at v image i).dst_m (work_at v image i).val_m
regs_next v image i live h = ap (λ m. m.regs) (after_is v image i live h)

pub stopped_is : (v : Variant) (image : List ℕ) (i : ℕ) → RunReaches v image i → stops_at v image i ≡ true →
    state_before v image (i + 1) ≡ record (state_before v image i) { stat = (work_at v image i).stat }
unfolding work_at
stopped_is v image i live h = before_next v image i ∙ advance-stops v (state_before v image i) live (not-true _ h)

-- memory and flags, whether it stops or not

pub mem_next : (v : Variant) (image : List ℕ) (i : ℕ) → RunReaches v image i → (state_before v image (i + 1)).mem ≡ stored (state_before v image i).mem (work_at v image i).store
unfolding work_at
mem_next v image i live = ap (λ m. m.mem) (before_next v image i) ∙ mem-by_work v (state_before v image i) live

pub flags_next : (v : Variant) (image : List ℕ) (i : ℕ) → RunReaches v image i → (state_before v image (i + 1)).flags ≡ (work_at v image i).flags
unfolding work_at
flags_next v image i live = ap (λ m. m.flags) (before_next v image i) ∙ flags-by_work v (state_before v image i) live

-- ---- the sources of an instruction are registers

pub source_a : (v : Variant) (image : List ℕ) (i : ℕ) → IsImage image → is_dash (instruction_row v image i).src_a ≡ false → (work_at v image i).src_a < 15
unfolding work_at
source_a v image i h some = src_a-lt v (state_before v image i) (image_before v image i h) some

pub source_b : (v : Variant) (image : List ℕ) (i : ℕ) → IsImage image → is_dash (instruction_row v image i).src_b ≡ false → (work_at v image i).src_b < 15
unfolding work_at
source_b v image i h some = src_b-lt v (state_before v image i) (image_before v image i h) some
