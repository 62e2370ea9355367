-- If two memories agree on the fetched bytes of an instruction, it is read alike from both.
use Rattle.std.proofs.Common.{◌≡◌, ℕ, ◌+◌, ◌^◌, ◌<◌, ◌≤◌, inl, inr, Bool, true, false, cond, List, length, Some, None, slice_get, refl, sym, ap, ◌∙◌, arith, add_assoc}
use Rattle.std.proofs.lemmas.Bool.{leb-true, cases_lt}
use Rattle.std.proofs.lemmas.Option.{slice_get_past, slice_get_within, slice_get-get_or, none-some}
use Rattle.std.proofs.Math.Nat.{mod-eq_of_lt}
use Rattle.y86_base.specs.declared.parts.Variant.{Variant}
use Rattle.y86_base.specs.declared.parts.Variant.TheVariants.{Base, Full}
use Rattle.y86_isa.specs.declared.columns.Row.{Row}
use Rattle.y86_isa.specs.declared.fetch.Reading.{Reading}
use Rattle.y86_isa.specs.Table.{inop, iinvalid, row, is_instruction}
use Rattle.y86_isa.specs.Blocks.{high_half, low_half, byte_at, field_a, field_b, constant_at, word_from, lacks_register, reading, fetched, fetched_by}
use Rattle.y86_isa.specs.Run.{count_by_first, SameFetch}
use Rattle.y86_isa.proofs.Rows.{row-length}
use Rattle.y86_isa.proofs.Readings.{ReadsAs, reads_as}
use Rattle.y86_isa.proofs.Readings.ReadsAs.{first_outside, bad_first, later_outside, no_register, good}

-- ---- bytes, fields and constants

byte_at-same : (memory other : List ℕ) (address : ℕ) → address < 2 ^ 64 → slice_get other address ≡ slice_get memory address → byte_at other address ≡ byte_at memory address
byte_at-same memory other address lt e = rw (mod-eq_of_lt lt, e) refl

field_a-same : (memory other : List ℕ) (pc : ℕ) (has : Bool) → (has ≡ true → byte_at other (pc + 1) ≡ byte_at memory (pc + 1)) → field_a other pc has ≡ field_a memory pc has
unfolding field_a
field_a-same memory other pc true e = ap high_half (e refl)
field_a-same memory other pc false e = refl

field_b-same : (memory other : List ℕ) (pc : ℕ) (has : Bool) → (has ≡ true → byte_at other (pc + 1) ≡ byte_at memory (pc + 1)) → field_b other pc has ≡ field_b memory pc has
unfolding field_b
field_b-same memory other pc true e = ap low_half (e refl)
field_b-same memory other pc false e = refl

word_from-same : (memory other : List ℕ) (address : ℕ) → ((k : ℕ) → k < 8 → byte_at other (address + k) ≡ byte_at memory (address + k)) → word_from other address ≡ word_from memory address
unfolding word_from
word_from-same memory other address h =
    rw (h 0 (omega arith), h 1 (omega arith), h 2 (omega arith), h 3 (omega arith), h 4 (omega arith), h 5 (omega arith), h 6 (omega arith), h 7 (omega arith)) refl

constant_at-same : (memory other : List ℕ) (pc : ℕ) (has constant : Bool) →
    (constant ≡ true → (k : ℕ) → k < 8 → byte_at other (pc + cond has 2 1 + k) ≡ byte_at memory (pc + cond has 2 1 + k)) →
    constant_at other pc has constant ≡ constant_at memory pc has constant
unfolding constant_at
constant_at-same memory other pc has true e = word_from-same memory other (pc + cond has 2 1) (e refl)
constant_at-same memory other pc has false e = refl

-- the bytes after the first are alike, up to the length that the row gives
abbrev Alike : List ℕ → List ℕ → ℕ → Row → Type 0
Alike memory other pc r = (k : ℕ) → 0 < k → k < 1 + cond r.has_byte 1 0 + cond r.has_const 8 0 → byte_at other (pc + k) ≡ byte_at memory (pc + k)

register_place : (has constant : Bool) → has ≡ true → 1 < 1 + cond has 1 0 + cond constant 8 0
register_place true constant e = omega arith
register_place false constant e = cc

constant_place : (has constant : Bool) (k : ℕ) → k < 8 → constant ≡ true → cond has 2 1 + k < 1 + cond has 1 0 + cond constant 8 0
constant_place true true k h e = omega arith
constant_place false true k h e = omega arith
constant_place has false k h e = cc

first_place : (has : Bool) (k : ℕ) → 0 < cond has 2 1 + k
first_place true k = omega arith
first_place false k = omega arith

register_alike : (memory other : List ℕ) (pc : ℕ) (r : Row) → Alike memory other pc r → r.has_byte ≡ true → byte_at other (pc + 1) ≡ byte_at memory (pc + 1)
register_alike memory other pc r h e = h 1 (omega arith) (register_place r.has_byte r.has_const e)

constant_alike : (memory other : List ℕ) (pc : ℕ) (r : Row) → Alike memory other pc r → r.has_const ≡ true → (k : ℕ) → k < 8 →
    byte_at other (pc + cond r.has_byte 2 1 + k) ≡ byte_at memory (pc + cond r.has_byte 2 1 + k)
constant_alike memory other pc r h e k lt =
    rw add_assoc (h (cond r.has_byte 2 1 + k) (first_place r.has_byte k) (constant_place r.has_byte r.has_const k lt e))

fields_alike : (memory other : List ℕ) (pc : ℕ) (read : Reading) (r : Row) → Alike memory other pc r → fetched_by other pc read r ≡ fetched_by memory pc read r
fields_alike memory other pc read r h =
    rw (
      field_a-same memory other pc r.has_byte (register_alike memory other pc r h),
      field_b-same memory other pc r.has_byte (register_alike memory other pc r h),
      constant_at-same memory other pc r.has_byte r.has_const (constant_alike memory other pc r h),
    ) refl

lacks_alike : (memory other : List ℕ) (pc : ℕ) (r : Row) → Alike memory other pc r → lacks_register other pc r ≡ lacks_register memory pc r
lacks_alike memory other pc r h =
    rw (field_a-same memory other pc r.has_byte (register_alike memory other pc r h), field_b-same memory other pc r.has_byte (register_alike memory other pc r h)) refl

-- a row of one byte needs no agreement
bare_alike : (memory other : List ℕ) (pc : ℕ) (r : Row) → r.has_byte ≡ false → r.has_const ≡ false → Alike memory other pc r
bare_alike memory other pc r b c k some lt = absurd (omega (arith, rw (b, c) at lt))

bare_nop : (v : Variant) → ((row v inop).has_byte ≡ false) × ((row v inop).has_const ≡ false)
unfolding row
bare_nop Base = (refl, refl)
bare_nop Full = (refl, refl)

bare_invalid : (v : Variant) → ((row v iinvalid).has_byte ≡ false) × ((row v iinvalid).has_const ≡ false)
unfolding row
bare_invalid Base = (refl, refl)
bare_invalid Full = (refl, refl)

-- ---- the memories

past : (xs : List ℕ) (k : ℕ) → slice_get xs k ≡ None → length xs ≤ k
past xs k e = elim (cases_lt k (length xs)) [ inl lt ↦ absurd (none-some _ (sym e ∙ slice_get-get_or xs k 0 lt)) | inr le ↦ le ]

same_first : (v : Variant) (memory other : List ℕ) (pc byte : ℕ) → SameFetch v memory other pc → slice_get memory pc ≡ Some byte →
    0 < count_by_first v (Some byte) → slice_get other pc ≡ Some byte
same_first v memory other pc byte s e some =
    s.bytes pc (record { from = omega arith; to = rw e (omega arith); inside = slice_get_within memory pc byte e }) ∙ e

-- all bytes of a whole instruction are fetched
whole_alike : (v : Variant) (memory other : List ℕ) (pc byte : ℕ) → SameFetch v memory other pc → slice_get memory pc ≡ Some byte →
    is_instruction v (high_half byte) (low_half byte) ≡ true → pc + (row v (high_half byte)).length ≤ length memory →
    Alike memory other pc (row v (high_half byte))
whole_alike v memory other pc byte s e b whole k some lt =
    let within : k < (row v (high_half byte)).length = rw (row-length v (high_half byte)) lt in
    let small : length memory < 2 ^ 64 = omega (arith, s.sized.most) in
    byte_at-same memory other (pc + k) (omega arith)
    (s.bytes (pc + k) (record { from = omega arith; to = rw (e, b) (omega arith); inside = omega arith }))

some_bytes : (v : Variant) (byte : ℕ) (begins : Bool) → is_instruction v (high_half byte) (low_half byte) ≡ begins → 0 < count_by_first v (Some byte)
some_bytes v byte true b = rw (b, row-length v (high_half byte)) (omega arith)
some_bytes v byte false b = rw b (omega arith)

reading_as-same : (v : Variant) (memory other : List ℕ) (pc : ℕ) (read : Reading) → SameFetch v memory other pc → ReadsAs v memory pc read → reading v other pc ≡ read
unfolding reading
reading_as-same v memory other pc _ s (first_outside e) =
    rw (slice_get_past other pc (omega (arith, past memory pc e, s.size))) refl
reading_as-same v memory other pc _ s (bad_first byte e b) =
    rw (same_first v memory other pc byte s e (some_bytes v byte false b), b) refl
reading_as-same v memory other pc _ s (later_outside byte e b w) =
    rw (same_first v memory other pc byte s e (some_bytes v byte true b), b, s.size, w) refl
reading_as-same v memory other pc _ s (no_register byte e b w l) =
    rw (
      same_first v memory other pc byte s e (some_bytes v byte true b),
      b,
      s.size,
      w,
      lacks_alike memory other pc (row v (high_half byte)) (whole_alike v memory other pc byte s e b (leb-true _ _ w)),
      l,
    ) refl
reading_as-same v memory other pc _ s (good byte e b w l) =
    rw (
      same_first v memory other pc byte s e (some_bytes v byte true b),
      b,
      s.size,
      w,
      lacks_alike memory other pc (row v (high_half byte)) (whole_alike v memory other pc byte s e b (leb-true _ _ w)),
      l,
    ) refl

pub reading-same : (v : Variant) (memory other : List ℕ) (pc : ℕ) → SameFetch v memory other pc → reading v other pc ≡ reading v memory pc
reading-same v memory other pc s = reading_as-same v memory other pc (reading v memory pc) s (reads_as v memory pc)

row_alike : (v : Variant) (memory other : List ℕ) (pc : ℕ) (read : Reading) → SameFetch v memory other pc → ReadsAs v memory pc read → Alike memory other pc (row v read.icode)
row_alike v memory other pc _ s (first_outside e) = bare_alike memory other pc (row v inop) (bare_nop v).0 (bare_nop v).1
row_alike v memory other pc _ s (bad_first byte e b) = bare_alike memory other pc (row v iinvalid) (bare_invalid v).0 (bare_invalid v).1
row_alike v memory other pc _ s (later_outside byte e b w) = bare_alike memory other pc (row v inop) (bare_nop v).0 (bare_nop v).1
row_alike v memory other pc _ s (no_register byte e b w l) = bare_alike memory other pc (row v iinvalid) (bare_invalid v).0 (bare_invalid v).1
row_alike v memory other pc _ s (good byte e b w l) = whole_alike v memory other pc byte s e b (leb-true _ _ w)

pub fetched-same : (v : Variant) (memory other : List ℕ) (pc : ℕ) → SameFetch v memory other pc → fetched v other pc ≡ fetched v memory pc
unfolding fetched
fetched-same v memory other pc s =
    rw (reading-same v memory other pc s)
    (fields_alike memory other pc (reading v memory pc) (row v (reading v memory pc).icode) (row_alike v memory other pc (reading v memory pc) s (reads_as v memory pc)))
