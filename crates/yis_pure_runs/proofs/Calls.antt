-- The run of examples/programs/call.yo, computed.
use Rattle.std.proofs.Common.{◌≡◌, ◌⊎◌, ℕ, zero, suc, ◌+◌, ◌-◌, ◌<◌, nat_le, nat_lt, ltb, Bool, true, false, List, ◌++◌, length, replicate, take, Option, Some, None, refl, ap, ◌∙◌, subst, inl, inr, arith}
use Rattle.std.specs.List.{list_all}
use Rattle.std.proofs.lemmas.Bool.{leb-true, ltb-false, ltb-true}
use Rattle.std.proofs.lemmas.List.Sums.{AllPass-from_list_all}
use Rattle.y86_base.specs.Image.{AreBytes, IsImage, IsSize, put_word, word_at}
use Rattle.y86_base.specs.Registers.{register, with_register}
use Rattle.y86_base.specs.declared.parts.Stat.TheVariants.{Aok, Hlt}
use Rattle.y86_base.specs.declared.parts.Variant.{Variant}
use Rattle.y86_base.specs.declared.parts.Variant.TheVariants.{Base, Full}
use Rattle.y86_isa.specs.declared.machine.Machine.{Machine}
use Rattle.y86_isa.specs.declared.machine.Rec.{Rec}
use Rattle.y86_isa.specs.declared.machine.Store.{Store}
use Rattle.y86_isa.specs.Blocks.{alu_flags, alu_value, behind, condition, constant_at, data_error, data_read, data_store, fetched, field_a, field_b, reading, stored, word_from}
use Rattle.y86_isa.specs.Machine.{is_aok, start}
use Rattle.y86_isa.specs.Run.{fetched_count, run, run_from}
use Rattle.y86_isa.specs.Step.{advance, retired}
use Rattle.y86_isa.specs.Table.{row}
use Rattle.y86_isa.specs.Work.{work}
use Rattle.y86_isa.proofs.Runs.{advance-stopped, run_from-last}
use Rattle.yis_pure_runs.specs.Purity.{AvoidsStore, StoresAvoidCode, call_bytes, call_image}

-- ---- the image

pub call_size : length call_image ≡ 512
unfolding call_image
call_size = refl

pub call_begins : take (length call_bytes) call_image ≡ call_bytes
unfolding call_image
call_begins = refl

call_sized : IsSize (length call_image)
call_sized = rw call_size (record { least = omega arith; most = omega arith; whole_words = refl })

abbrev is_byte : ℕ → Bool
is_byte n = nat_lt n 256

bytes_by : (xs : List ℕ) → list_all is_byte xs ≡ true → AreBytes xs
bytes_by xs e = λ k d h. ltb-true _ 256 (AllPass-from_list_all is_byte xs e k d h)

call_small : AreBytes call_image
unfolding call_image
call_small = bytes_by (call_bytes ++ replicate 491 0) refl

pub call_is_image : IsImage call_image
call_is_image = record { sized = call_sized; bytes = call_small }

-- the address after the last byte that the instruction at a machine's PC fetches
abbrev end_of : Variant → Machine → ℕ
end_of v m = m.pc + fetched_count v m.mem m.pc

-- the address at which the store of a record begins; 248 if it has none
abbrev store_from : Option Store → ℕ
store_from None = 248
store_from (Some s) = s.addr

abbrev store_at : Option Rec → ℕ
store_at None = 248
store_at (Some r) = store_from r.store

-- ---- the four instructions, and the halt

pub called : (v : Variant) → ((run v call_image 2).pc ≡ 20) × (word_at (run v call_image 2).mem 248 ≡ Some 19)
unfolding call_image run_from advance retired work fetched reading row field_a field_b word_from constant_at behind alu_value alu_flags condition data_error data_read data_store stored word_at put_word register with_register
called Base = (refl, refl)
called Full = (refl, refl)

pub returned : (v : Variant) → ((run v call_image 3).pc ≡ 19) × ((run v call_image 3).stat ≡ Aok)
unfolding call_image run_from advance retired work fetched reading row field_a field_b word_from constant_at behind alu_value alu_flags condition data_error data_read data_store stored word_at put_word register with_register
returned Base = (refl, refl)
returned Full = (refl, refl)

pub halted : (v : Variant) → (run v call_image 4).stat ≡ Hlt
unfolding call_image run_from advance retired work fetched reading row field_a field_b word_from constant_at behind alu_value alu_flags condition data_error data_read data_store stored word_at put_word register with_register
halted Base = refl
halted Full = refl

low_at : (v : Variant) (i : ℕ) → i < 4 → nat_le (end_of v (run v call_image i)) 248 ≡ true
unfolding call_image run_from advance retired work fetched reading row field_a field_b word_from constant_at behind alu_value alu_flags condition data_error data_read data_store stored word_at put_word register with_register
low_at Base zero lt = refl
low_at Base (suc zero) lt = refl
low_at Base (suc (suc zero)) lt = refl
low_at Base (suc (suc (suc zero))) lt = refl
low_at Full zero lt = refl
low_at Full (suc zero) lt = refl
low_at Full (suc (suc zero)) lt = refl
low_at Full (suc (suc (suc zero))) lt = refl
low_at v (suc (suc (suc (suc i)))) lt = absurd (omega (arith, lt))

high_at : (v : Variant) (i : ℕ) → i < 4 → nat_le 248 (store_at (retired v (run v call_image i))) ≡ true
unfolding call_image run_from advance retired work fetched reading row field_a field_b word_from constant_at behind alu_value alu_flags condition data_error data_read data_store stored word_at put_word register with_register
high_at Base zero lt = refl
high_at Base (suc zero) lt = refl
high_at Base (suc (suc zero)) lt = refl
high_at Base (suc (suc (suc zero))) lt = refl
high_at Full zero lt = refl
high_at Full (suc zero) lt = refl
high_at Full (suc (suc zero)) lt = refl
high_at Full (suc (suc (suc zero))) lt = refl
high_at v (suc (suc (suc (suc i)))) lt = absurd (omega (arith, lt))

-- ---- all steps

-- after the halt the machine doesn't change
stays : (v : Variant) (k : ℕ) → run v call_image (k + 4) ≡ run v call_image 4
stays v zero = refl
stays v (suc k) =
    let next : suc k + 4 ≡ (k + 4) + 1 = omega arith in
    ap (λ n. run v call_image n) next ∙ run_from-last v (start call_image) (k + 4) ∙ ap (advance v) (stays v k)
    ∙ advance-stopped v (run v call_image 4) (ap is_aok (halted v))

abbrev Early : Variant → ℕ → Type 0
Early v i = (i < 4) ⊎ (run v call_image i ≡ run v call_image 4)

early : (v : Variant) (i : ℕ) → Early v i
early v i = by (ltb i 4) refl
  where
    by : (b : Bool) → ltb i 4 ≡ b → Early v i
    by true e = inl (ltb-true i 4 e)
    by false e =
        let sum : (i - 4) + 4 ≡ i = omega (arith, ltb-false i 4 e) in
        inr (subst (λ n. run v call_image n ≡ run v call_image 4) sum (stays v (i - 4)))

-- each instruction ends at or before 248, and each store begins there
pub call_apart : (v : Variant) (n : ℕ) → StoresAvoidCode v call_image n
call_apart v n i j r store within earlier on told is = by (early v i)
  where
    by : Early v i → AvoidsStore v (run v call_image i) store
    by (inl lt) =
        let from : store_at (Some r) ≡ store.addr = ap store_from is in
        let high : nat_le 248 store.addr ≡ true =
        subst (λ n. nat_le 248 n ≡ true) from (subst (λ o. nat_le 248 (store_at o) ≡ true) told (high_at v j (omega (arith, lt, earlier)))) in
        inr (omega (arith, leb-true (end_of v (run v call_image i)) 248 (low_at v i lt), leb-true 248 store.addr high))
    by (inr same) = absurd (cc (on, ap (λ (m : Machine). m.stat) same, halted v))
