-- Numbers each of which may follow those before it are those of an allowed valuation.
use Rattle.std.proofs.Common.{◌≡◌, ℕ, ◌<◌, Bool, true, false, not, ◌&&◌, ◌||◌, ◌==◌, nat_lt, nat_le, if◌then◌else◌, length, slice_get, unwrap_or, refl, ap, sym, subst, arith}
use Rattle.std.proofs.lemmas.Bool.{eqb-true, and_from}
use Rattle.std.proofs.lemmas.Bool.Decides.{nat_tests}
use Rattle.y86_base.specs.declared.parts.Variant.{Variant}
use Rattle.y86_base.specs.declared.parts.Variant.TheVariants.{Base, Full}
use Rattle.y86_base.specs.Words.{set}
use Rattle.y86_base.proofs.Booleans.{and_second, and_first}
use Rattle.y86_isa.specs.declared.columns.Row.{Row}
use Rattle.y86_isa.specs.Table.{rows, row, dash_row, inop, no_register}
use Rattle.net_fields.specs.AllowedNumbers.{register_field_allowed, register_allowed, cnd_allowed_where, zero_unless, cnd_allowed, icode_allowed, codes_allowed}
use Rattle.pipe_fields.specs.Layout.{Fields, FetchLine, DecodeLine, ExecuteLine, MemoryLine, WriteLine, numbers, bubble}
use Rattle.pipe_fields.specs.Allowed.{allowed, fetch_row_allowed, decode_row_allowed, execute_row_allowed, memory_row_allowed, write_row_allowed, fetch_allowed, decode_allowed, execute_allowed, memory_allowed, write_allowed, stage_allowed, is_good_aok}
use Rattle.prog_gen.specs.Choices.{AreChosen, icode_choice_allowed, ifun_choice_allowed}
use Rattle.prog_laws.proofs.Conjunctions.{◌and◌}
use Rattle.prog_laws.proofs.Lines.{FetchMay, DecodeMay, ExecuteMay, MemoryMay, WriteMay, chosen_may}

reading : (e a b z t : Bool) → (if e then a else b) ≡ true → (t && (not e || z)) ≡ true → ((if e then a && z else b) && t) ≡ true
reading true a b z t p q = and_from (a && z) t (and_from a z p (and_second t z q)) (and_first t z q)
reading false a b z t p q = and_from b t p (and_first t true q)

fetch_chosen : (v : Variant) (x : FetchLine) → FetchMay v x → fetch_allowed v x ≡ true
unfolding fetch_row_allowed
fetch_chosen v x may =
    reading (set x.error) (x.icode == inop) (icode_allowed (length (rows v)) x.icode) (x.ifun == 0) (nat_le x.ifun (row v x.icode).ifun_top) may.icode may.ifun
    and may.taken and may.stops and may.back

-- ---- a choice by a test that is known

pub then_true : (b x y : Bool) → b ≡ true → (if b then x else y) ≡ true → x ≡ true
then_true true x y e h = h
then_true false x y e h = absurd (cc)

pub else_true : (b x y : Bool) → b ≡ false → (if b then x else y) ≡ true → y ≡ true
else_true true x y e h = absurd (cc)
else_true false x y e h = h

pub choose_then : (b x y : Bool) → b ≡ true → x ≡ true → (if b then x else y) ≡ true
choose_then true x y e h = h
choose_then false x y e h = absurd (cc)

pub choose_else : (b x y : Bool) → b ≡ false → y ≡ true → (if b then x else y) ≡ true
choose_else true x y e h = absurd (cc)
choose_else false x y e h = h

-- ---- the row of a nop; a bubble looks like a nop

abbrev pub nop_row : Row
nop_row = unwrap_or (slice_get (rows Base) inop) dash_row

row_of_nop : (v : Variant) (n : ℕ) → n ≡ inop → row v n ≡ nop_row
unfolding row
row_of_nop Base n e = ap (row Base) e
row_of_nop Full n e = ap (row Full) e

-- a test of the row says what it says of a nop's, and the other way round
nop_says : (v : Variant) (n : ℕ) (test : Row → Bool) → (n == inop) ≡ true → test (row v n) ≡ true → test nop_row ≡ true
nop_says v n test e h = subst (λ (r : Row). test r ≡ true) (row_of_nop v n (eqb-true n inop e)) h

pub nop_may : (v : Variant) (n : ℕ) (test : Row → Bool) → (n == inop) ≡ true → test nop_row ≡ true → test (row v n) ≡ true
nop_may v n test e h = subst (λ (r : Row). test r ≡ true) (sym (row_of_nop v n (eqb-true n inop e))) h

-- a hidden bit is 0 for anything but a good instruction
unset : (b : Bool) → not (not b) ≡ true → b ≡ true
unset true h = refl
unset false h = h

hidden : (kind stat : ℕ) (may : Bool) (n : ℕ) → (kind == bubble) ≡ true → zero_unless (is_good_aok kind stat && may) n ≡ true → (n == 0) ≡ true
hidden kind stat may n e h = unset (n == 0) (subst (λ (k : ℕ). zero_unless (is_good_aok k stat && may) n ≡ true) (eqb-true kind bubble e) h)

untaken : (kind stat ifun : ℕ) (may : Bool) (n : ℕ) → (kind == bubble) ≡ true → cnd_allowed_where (is_good_aok kind stat && may) ifun n ≡ true → (n == 0) ≡ true
untaken kind stat ifun may n e h = unset (n == 0) (subst (λ (k : ℕ). cnd_allowed_where (is_good_aok k stat && may) ifun n ≡ true) (eqb-true kind bubble e) h)

-- the condition of ifun 0 holds
sure : (ifun cnd : ℕ) → (ifun == 0) ≡ true → cnd_allowed ifun cnd ≡ true → cnd < 2 → (cnd == 1) ≡ true
sure ifun cnd e h small = bit (subst (λ (k : ℕ). cnd_allowed k cnd ≡ true) (eqb-true ifun 0 e) h) small
  where
    bit : set cnd ≡ true → cnd < 2 → (cnd == 1) ≡ true
    bit p s = grind (arith, nat_tests)

or_false : (b : Bool) → (b || false) ≡ true → b ≡ true
or_false true h = refl
or_false false h = h

-- ---- line by line

-- the codes of an instruction
codes_chosen : (v : Variant) (kind stat icode ifun : ℕ) → (kind == bubble) ≡ false → icode_choice_allowed (length (rows v)) kind false stat icode ≡ true →
    ifun_choice_allowed (row v icode) kind stat ifun ≡ true → codes_allowed (length (rows v)) (row v icode) stat icode ifun ≡ true
codes_chosen v kind stat icode ifun e told h = let fits = else_true _ _ _ e h in else_true _ _ _ e told and and_first _ _ fits and and_second _ _ fits

-- a line is allowed if it is as a bubble for a bubble, and as an instruction for any other kind
stage_chosen : (kinds kind : ℕ) (as_bubble fits : Bool) → nat_lt kind kinds ≡ true → ((kind == bubble) ≡ true → as_bubble ≡ true) → ((kind == bubble) ≡ false → fits ≡ true) →
    stage_allowed kinds kind as_bubble fits ≡ true
stage_chosen kinds kind as_bubble fits may held other = by (kind == bubble) refl
  where
    by : (b : Bool) → (kind == bubble) ≡ b → stage_allowed kinds kind as_bubble fits ≡ true
    by true e = choose_then _ _ _ e (held e)
    by false e = choose_else _ _ _ e (may and other e)

decode_chosen : (v : Variant) (x : DecodeLine) → DecodeMay v x → decode_allowed v x ≡ true
unfolding decode_row_allowed
decode_chosen v x may = stage_chosen _ _ _ _ may.kind
    (λ e. let icode = then_true _ _ _ e may.icode in
    then_true _ _ _ e may.stat and icode and then_true _ _ _ e may.ifun
    and nop_says v x.icode (λ r. register_field_allowed r.has_byte r.uses_a x.r_a) icode may.r_a
    and nop_says v x.icode (λ r. register_field_allowed r.has_byte r.uses_b x.r_b) icode may.r_b
    and untaken x.kind x.stat x.ifun _ x.taken e may.taken and hidden x.kind x.stat _ x.stops e may.stops and hidden x.kind x.stat _ x.back e may.back)
    (λ e. codes_chosen _ _ _ _ _ e may.icode may.ifun and may.r_a and may.r_b and may.taken and may.stops and may.back)

execute_chosen : (v : Variant) (x : ExecuteLine) → x.cnd < 2 → ExecuteMay v x → execute_allowed v x ≡ true
unfolding execute_row_allowed
execute_chosen v x small may = stage_chosen _ _ _ _ may.kind
    (λ e. let icode = then_true _ _ _ e may.icode in
    let ifun = then_true _ _ _ e may.ifun in
    then_true _ _ _ e may.stat and icode and ifun
    and nop_says v x.icode (λ r. register_allowed r.dst_e x.dst_e) icode may.dst_e
    and nop_says v x.icode (λ r. register_allowed r.dst_m x.dst_m) icode may.dst_m
    and nop_says v x.icode (λ r. register_allowed r.src_a x.src_a) icode may.src_a
    and nop_says v x.icode (λ r. register_allowed r.src_b x.src_b) icode (and_first _ _ may.src_b)
    and sure x.ifun x.cnd ifun may.cnd small and hidden x.kind x.stat _ x.stops e may.stops and hidden x.kind x.stat _ x.back e may.back)
    (λ e. codes_chosen _ _ _ _ _ e may.icode may.ifun
    and (may.dst_e and may.dst_m and may.src_a and and_first _ _ may.src_b and and_second _ _ may.src_b)
    and may.cnd and may.stops and may.back)

memory_chosen : (v : Variant) (x : MemoryLine) → MemoryMay v x → memory_allowed v x ≡ true
unfolding memory_row_allowed
memory_chosen v x may = stage_chosen _ _ _ _ may.kind
    (λ e. let icode = then_true _ _ _ e may.icode in
    then_true _ _ _ e may.stat and icode and then_true _ _ _ e may.ifun
    and or_false _ (nop_says v x.icode (λ r. register_allowed r.dst_e x.dst_e || (r.conditional && (x.dst_e == no_register && not (x.ifun == 0)))) icode may.dst_e)
    and nop_says v x.icode (λ r. register_allowed r.dst_m x.dst_m) icode may.dst_m
    and hidden x.kind x.stat _ x.error e may.error and hidden x.kind x.stat _ x.back e may.back)
    (λ e. let cnd = else_true _ _ _ e may.cnd in
    codes_chosen _ _ _ _ _ e may.icode may.ifun and and_second _ _ cnd and may.dst_m and and_first _ _ cnd and may.error and may.back)

write_chosen : (v : Variant) (x : WriteLine) → WriteMay v x → write_allowed v x ≡ true
unfolding write_row_allowed
write_chosen v x may = stage_chosen _ _ _ _ may.kind
    (λ e. let icode = then_true _ _ _ e may.icode in
    then_true _ _ _ e may.stat and icode
    and nop_says v x.icode (λ r. (r.conditional && x.dst_e == no_register) || register_allowed r.dst_e x.dst_e) icode may.dst_e
    and nop_says v x.icode (λ r. register_allowed r.dst_m x.dst_m) icode may.dst_m)
    (λ e. else_true _ _ _ e may.icode and may.dst_e and may.dst_m)

-- numbers each of which may follow those before it are those of an allowed valuation
pub chosen_allowed : (v : Variant) (c : Fields) → c.e.cnd < 2 → AreChosen v (numbers c) → allowed v c ≡ true
unfolding allowed
chosen_allowed v c small h =
    let may = chosen_may v c h in
    fetch_chosen v c.f may.f and decode_chosen v c.d may.d and execute_chosen v c.e small may.e and memory_chosen v c.m may.m and write_chosen v c.w may.w
