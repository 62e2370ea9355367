-- Stores that are apart from the instructions after them, and an image whose stores are.
use Rattle.std.specs.Prelude.{◌≡◌, ◌⊎◌, ℕ, ◌+◌, ◌<◌, ◌≤◌, List, [], ◌∷◌, ◌++◌, replicate, Some}
use Rattle.y86_base.specs.declared.parts.Stat.TheVariants.{Aok}
use Rattle.y86_base.specs.declared.parts.Variant.{Variant}
use Rattle.y86_isa.specs.declared.machine.Machine.{Machine}
use Rattle.y86_isa.specs.declared.machine.Rec.{Rec}
use Rattle.y86_isa.specs.declared.machine.Store.{Store}
use Rattle.y86_isa.specs.Step.{retired}
use Rattle.y86_isa.specs.Run.{run, fetched_count}

-- the 8 bytes of a store are all before those that the instruction at a machine's PC fetches, or all after them
abbrev pub AvoidsStore : Variant → Machine → Store → Type 0
AvoidsStore v m store = (store.addr + 8 ≤ m.pc) ⊎ (m.pc + fetched_count v m.mem m.pc ≤ store.addr)

-- each store of an instruction is apart from each later instruction among the first n
abbrev pub StoresAvoidCode : Variant → List ℕ → ℕ → Type 0
StoresAvoidCode v image n =
    (i j : ℕ) (r : Rec) (store : Store) → i < n → j < i → (run v image i).stat ≡ Aok →
    retired v (run v image j) ≡ Some r → r.store ≡ Some store → AvoidsStore v (run v image i) store

-- the bytes of examples/programs/call.yo (irmovq $0x100, %rsp; call function; halt; function: ret), and its image of
-- 512 bytes
abbrev pub call_bytes : List ℕ
call_bytes = 48 ∷ 244 ∷ 0 ∷ 1 ∷ 0 ∷ 0 ∷ 0 ∷ 0 ∷ 0 ∷ 0 ∷ 128 ∷ 20 ∷ 0 ∷ 0 ∷ 0 ∷ 0 ∷ 0 ∷ 0 ∷ 0 ∷ 0 ∷ 144 ∷ []

unfoldable pub call_image : List ℕ
call_image = call_bytes ++ replicate 491 0
