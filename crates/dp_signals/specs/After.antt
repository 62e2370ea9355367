-- Cycles of a machine of any type, one after another, where a relation says what one cycle does and which record it leaves.
use Rattle.std.specs.Prelude.{◌≡◌, ℕ, zero, suc, List, [], ◌++◌, Option}
use Rattle.std.specs.Option.{option_to_list}
use Rattle.y86_isa.specs.declared.machine.Rec.{Rec}

-- q is the machine k cycles after p, and these are the records of the cycles, the first one first
abbrev pub IsAfter : {M : Type 0} → (M → Option Rec → M → Type 0) → M → ℕ → M → List Rec → Type 0
IsAfter Cycle p zero q records = (q ≡ p) × (records ≡ [])
IsAfter {M} Cycle p (suc k) q records =
    (m : M) × (before : List Rec) × (r : Option Rec) × IsAfter Cycle p k m before × Cycle m r q × (records ≡ before ++ option_to_list r)
