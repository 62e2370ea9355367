-- A run keeps an image an image, and an image that is pure for some steps is pure for fewer.
use Rattle.std.proofs.Common.{◌≡◌, ◌≢◌, ℕ, zero, suc, ◌≤◌, false, List, length, refl, sym, ap, ◌∙◌, arith}
use Rattle.std.proofs.lemmas.Bool.{false≢true}
use Rattle.y86_base.specs.declared.parts.Stat.{Stat}
use Rattle.y86_base.specs.declared.parts.Stat.TheVariants.{Aok}
use Rattle.y86_base.specs.declared.parts.Variant.{Variant}
use Rattle.y86_isa.specs.declared.machine.Machine.{Machine}
use Rattle.y86_isa.specs.Machine.{is_aok}
use Rattle.y86_isa.specs.Step.{advance}
use Rattle.y86_isa.specs.Run.{IsImage, Pure, run_from}
use Rattle.y86_isa.proofs.Steps.{IsImage-advance, length-advance}

pub IsImage-run_from : (v : Variant) (m : Machine) (n : ℕ) → IsImage m.mem → IsImage (run_from v m n).mem
unfolding run_from
IsImage-run_from v m zero h = h
IsImage-run_from v m (suc n) h = IsImage-run_from v (advance v m) n (IsImage-advance v m h)

pub length-run_from : (v : Variant) (m : Machine) (n : ℕ) → length (run_from v m n).mem ≡ length m.mem
unfolding run_from
length-run_from v m zero = refl
length-run_from v m (suc n) = length-run_from v (advance v m) n ∙ length-advance v m

pub Pure-fewer : (v : Variant) (image : List ℕ) (n k : ℕ) → k ≤ n → Pure v image n → Pure v image k
Pure-fewer v image n k le pure i j address i_lt = pure i j address (omega arith)

pub not_aok-from_false : (s : Stat) → is_aok s ≡ false → s ≢ Aok
not_aok-from_false s h e = false≢true (sym h ∙ ap is_aok e)
