-- Facts about every row of the instruction table: a test that computes to true at each row holds at each icode.
use Rattle.std.proofs.Common.{◌≡◌, ℕ, zero, suc, ◌+◌, ◌<◌, ◌≤◌, Bool, true, cond, ◌&&◌, ◌||◌, nat_le, ◌==◌, List, [], ◌∷◌, unwrap_or, slice_get, length, refl, sym, ◌∙◌, subst, arith, add-zero, zero-add}
use Rattle.std.specs.List.{list_all}
use Rattle.std.proofs.lemmas.Option.{slice_get_past, unwrap_or-slice_get}
use Rattle.std.proofs.lemmas.List.{get_or_append_left}
use Rattle.std.proofs.lemmas.Bool.{and_parts, eqb-true, leb-true}
use Rattle.y86_base.specs.declared.parts.Variant.{Variant}
use Rattle.y86_base.specs.declared.parts.Variant.TheVariants.{Base, Full}
use Rattle.y86_isa.specs.declared.columns.Row.{Row}
use Rattle.y86_isa.specs.Table.{rows, row, dash_row, iaddq}
use Rattle.y86_isa.specs.RowTests.{is_dash, is_stack}
use Rattle.y86_isa.specs.Encoding.{widest}

in_list : (p : Row → Bool) (rs : List Row) (d : Row) → list_all p rs ≡ true → p d ≡ true → (i : ℕ) → p (unwrap_or (slice_get rs i) d) ≡ true
in_list p [] d h e i = e
in_list p (r ∷ rs) d h e zero = (and_parts (p r) (list_all p rs) h).0
in_list p (r ∷ rs) d h e (suc i) = in_list p rs d (and_parts (p r) (list_all p rs) h).1 e i

-- a test that passes for every row, and for the row of dashes, passes for the row of each icode
pub row-test : (p : Row → Bool) (v : Variant) → list_all p (rows v) ≡ true → p dash_row ≡ true → (icode : ℕ) → p (row v icode) ≡ true
unfolding row
row-test p v h e icode = in_list p (rows v) dash_row h e icode

past_rows : (rs : List Row) (d : Row) (i : ℕ) → length rs ≤ i → unwrap_or (slice_get rs i) d ≡ d
past_rows rs d i le = rw (slice_get_past rs i le) refl

-- an icode without a row has the row of dashes
pub row-unknown : (v : Variant) (icode : ℕ) → length (rows v) ≤ icode → row v icode ≡ dash_row
unfolding row
row-unknown v icode le = past_rows (rows v) dash_row icode le

-- the rows of a variant are the first rows of the widest variant
pub row-widest : (v : Variant) (icode : ℕ) → icode < length (rows v) → row v icode ≡ row widest icode
unfolding row
row-widest Base icode lt =
    unwrap_or-slice_get (rows Base) icode dash_row
    ∙ (sym (get_or_append_left (rows Base) (iaddq ∷ []) dash_row icode lt) ∙ sym (unwrap_or-slice_get (rows Full) icode dash_row))
row-widest Full icode lt = refl

-- the length of an instruction is the sum of its parts
abbrev sized : Row → Bool
sized r = r.length == 1 + cond r.has_byte 1 0 + cond r.has_const 8 0

abbrev small_ifun : Row → Bool
small_ifun r = nat_le r.ifun_top 15

all_sized : (v : Variant) → list_all sized (rows v) ≡ true
all_sized Base = refl
all_sized Full = refl

all_small : (v : Variant) → list_all small_ifun (rows v) ≡ true
all_small Base = refl
all_small Full = refl

pub row-length : (v : Variant) (icode : ℕ) → (row v icode).length ≡ 1 + cond (row v icode).has_byte 1 0 + cond (row v icode).has_const 8 0
row-length v icode = eqb-true _ _ (row-test sized v (all_sized v) refl icode)

pub ifun_top-le : (v : Variant) (icode : ℕ) → (row v icode).ifun_top ≤ 15
ifun_top-le v icode = leb-true _ _ (row-test small_ifun v (all_small v) refl icode)

-- at most 13 instructions have a row
pub rows_few : (v : Variant) → length (rows v) ≤ 13
rows_few Base = omega arith
rows_few Full = omega arith

-- ---- tests that know the icode

abbrev pub all_from : (ℕ → Row → Bool) → ℕ → List Row → Bool
all_from p i [] = true
all_from p i (r ∷ rs) = p i r && all_from p (suc i) rs

in_numbered : (p : ℕ → Row → Bool) (first : ℕ) (rs : List Row) (d : Row) → all_from p first rs ≡ true → (i : ℕ) → i < length rs →
    p (first + i) (unwrap_or (slice_get rs i) d) ≡ true
in_numbered p first [] d h i lt = absurd (omega arith)
in_numbered p first (r ∷ rs) d h zero lt = rw add-zero (and_parts (p first r) (all_from p (suc first) rs) h).0
in_numbered p first (r ∷ rs) d h (suc i) lt =
    let next : first + suc i ≡ suc first + i = omega arith in
    rw next (in_numbered p (suc first) rs d (and_parts (p first r) (all_from p (suc first) rs) h).1 i (omega arith))

-- a test that passes for each icode with its row passes for this icode
pub row-numbered : (p : ℕ → Row → Bool) (v : Variant) → all_from p 0 (rows v) ≡ true → (icode : ℕ) → icode < length (rows v) → p icode (row v icode) ≡ true
unfolding row
row-numbered p v h icode lt = let P : ℕ → Type 0 = λ i. p i (unwrap_or (slice_get (rows v) icode) dash_row) ≡ true in
    subst P (zero-add icode) (in_numbered p 0 (rows v) dash_row h icode lt)

-- if valM has a destination, valE has none but %rsp
abbrev one_field : Row → Bool
one_field r = is_dash r.dst_m || is_dash r.dst_e || is_stack r.dst_e

all_one : (v : Variant) → list_all one_field (rows v) ≡ true
all_one Base = refl
all_one Full = refl

pub one_destination : (v : Variant) (icode : ℕ) → one_field (row v icode) ≡ true
one_destination v icode = row-test one_field v (all_one v) refl icode
