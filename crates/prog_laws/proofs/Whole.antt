-- The run of a generated program as a whole.
use Rattle.std.proofs.Common.{ℕ, ◌+◌, ◌-◌, ◌≤◌, length, replicate, subst, sym, arith, add-one}
use Rattle.y86_base.specs.declared.parts.Variant.{Variant}
use Rattle.y86_isa.specs.Machine.{start}
use Rattle.y86_isa.specs.Run.{Pure}
use Rattle.prog_gen.specs.Programs.{data_start, program, code}
use Rattle.prog_laws.specs.Laws.{RunsToHalt, KeepsCode}
use Rattle.prog_laws.proofs.Walking.{Ends, ends}
use Rattle.prog_laws.proofs.Images.{ready}

walked : (v : Variant) (n : ℕ) → n ≤ 100000 → Ends v (data_start n) (n + 1) (start (program n))
walked v n h =
    subst (λ (k : ℕ). Ends v (data_start n) k (start (program n))) (sym (add-one n))
    (ends v (data_start n) n n (replicate (data_start n - length (code (data_start n) n 0 n) - 1) 0) (start (program n)) (omega (arith, h)) (ready n h))

pub runs : (v : Variant) (n : ℕ) → 1 ≤ n → n ≤ 100000 → RunsToHalt v (program n) (n + 1)
runs v n least most = record { records = (walked v n most).records; halted = (walked v n most).halted }

pub keeps : (v : Variant) (n : ℕ) → 1 ≤ n → n ≤ 100000 → KeepsCode v (program n) (data_start n)
keeps v n least most = record { fetched = (walked v n most).quiet.fetched; stored = (walked v n most).quiet.stored }

-- every store is in the data area, and every fetch below it
pub pure : (v : Variant) (n k : ℕ) → 1 ≤ n → n ≤ 100000 → Pure v (program n) k
pure v n k least most i j address _ _ on fetched stored =
    let keeps_code : KeepsCode v (program n) (data_start n) = keeps v n least most in
    absurd (omega (arith, keeps_code.fetched i address on fetched, keeps_code.stored j address stored))
