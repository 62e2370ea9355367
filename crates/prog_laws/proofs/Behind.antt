-- Each number of an allowed valuation may follow those before it.
use Rattle.std.proofs.Common.{◌≡◌, ℕ, ◌+◌, Bool, true, false, not, ◌&&◌, ◌||◌, ◌==◌, nat_lt, nat_le, if◌then◌else◌, [], ◌∷◌, length, refl, sym, ap, subst, arith}
use Rattle.std.proofs.lemmas.Bool.{eqb-true, or_left, or_right, and_from, not-true}
use Rattle.std.proofs.lemmas.Bool.Decides.{nat_tests}
use Rattle.y86_base.specs.declared.parts.Variant.{Variant}
use Rattle.y86_base.specs.Words.{set}
use Rattle.y86_base.proofs.Booleans.{clash, and_second, and_first}
use Rattle.y86_isa.specs.declared.columns.Row.{Row}
use Rattle.y86_isa.specs.RowTests.{accesses, next_is_branch}
use Rattle.y86_isa.specs.Table.{rows, row, inop, no_register}
use Rattle.net_fields.specs.AllowedNumbers.{reading_allowed, register_field_allowed, register_allowed, cnd_allowed_where, zero_unless, cnd_allowed, icode_allowed, stat_allowed, shares_register, destination_allowed}
use Rattle.pipe_fields.specs.Layout.{Fields, FetchLine, DecodeLine, ExecuteLine, MemoryLine, WriteLine, numbers, bubble}
use Rattle.pipe_fields.specs.Allowed.{allowed, fetch_row_allowed, decode_row_allowed, execute_row_allowed, memory_row_allowed, write_row_allowed, registers_allowed, fetch_allowed, stage_allowed, is_good_aok, decode_bubble, execute_bubble, memory_bubble, write_bubble}
use Rattle.pipe_fields.proofs.Told.{lines_allowed}
use Rattle.prog_gen.specs.Choices.{AreChosen}
use Rattle.prog_laws.proofs.Conjunctions.{with_all, ◌and◌}
use Rattle.prog_laws.proofs.Lawful.{then_true, else_true, choose_then, choose_else, nop_may}
use Rattle.prog_laws.proofs.Lines.{FetchMay, DecodeMay, ExecuteMay, MemoryMay, WriteMay, may_chosen}

-- ---- tests that are known

reading_back : (e a b z t : Bool) → ((if e then a && z else b) && t) ≡ true → ((if e then a else b) ≡ true) × ((t && (not e || z)) ≡ true)
reading_back true a b z t h = (and_first a z (and_first (a && z) t h), and_from t z (and_second (a && z) t h) (and_second a z (and_first (a && z) t h)))
reading_back false a b z t h = (and_first b t h, and_from t true (and_second b t h) refl)

-- a stage with a bubble isn't live
live_off : (kind stat : ℕ) (b : Bool) → (kind == bubble) ≡ true → (is_good_aok kind stat && b) ≡ false
live_off kind stat b e = subst (λ (k : ℕ). (is_good_aok k stat && b) ≡ false) (sym (eqb-true kind bubble e)) refl

reset : (n : ℕ) → (n == 0) ≡ true → not (set n) ≡ true
reset n h = ap (λ b. not (not b)) h

off_where : (kind stat : ℕ) (b : Bool) (ifun n : ℕ) → (kind == bubble) ≡ true → (n == 0) ≡ true → cnd_allowed_where (is_good_aok kind stat && b) ifun n ≡ true
off_where kind stat b ifun n e h = choose_else _ _ _ (live_off kind stat b e) (reset n h)

off_only : (b : Bool) (n : ℕ) → (n == 0) ≡ true → zero_unless b n ≡ true
off_only b n h = or_right b (not (set n)) (reset n h)

kind_small : (kind k : ℕ) → (kind == bubble) ≡ true → nat_lt kind (k + 1) ≡ true
kind_small kind k e = grind (arith, nat_tests)

stat_range : (count : ℕ) (f : Bool) (stat icode : ℕ) → stat_allowed count f stat icode ≡ true → (nat_le 1 stat && nat_le stat 4) ≡ true
stat_range count f stat icode h = grind (arith, nat_tests)

-- ---- line by line, bubbles and instructions

fetch_back : (v : Variant) (x : FetchLine) → fetch_allowed v x ≡ true → FetchMay v x
unfolding fetch_row_allowed
fetch_back v x h =
    let r : Row = row v x.icode in
    with_all (reading_allowed (length (rows v)) r x.error x.icode x.ifun)
    (cnd_allowed_where (next_is_branch r.next) x.ifun x.taken
    ∷ zero_unless (accesses r.memory) x.stops
    ∷ zero_unless (next_is_branch r.next) x.back
    ∷ []) (FetchMay v x) h
    (λ reading taken stops back.
    let read = reading_back (set x.error) (x.icode == inop) (icode_allowed (length (rows v)) x.icode) (x.ifun == 0) (nat_le x.ifun r.ifun_top) reading in
    record { error = refl; icode = read.0; ifun = read.1; taken = taken; stops = stops; back = back })

decode_bubble' : (v : Variant) (x : DecodeLine) → (x.kind == bubble) ≡ true → decode_bubble x ≡ true → DecodeMay v x
decode_bubble' v x e h =
    with_all (x.stat == 0)
    ((x.icode == inop) ∷ (x.ifun == 0) ∷ (x.r_a == no_register) ∷ (x.r_b == no_register) ∷ (x.taken == 0) ∷ (x.stops == 0) ∷ (x.back == 0) ∷ []) (DecodeMay v x) h
    (λ stat icode ifun r_a r_b taken stops back. record {
      kind = kind_small x.kind 2 e;
      stat = choose_then _ _ _ e stat;
      icode = choose_then _ _ _ e icode;
      ifun = choose_then _ _ _ e ifun;
      r_a = nop_may v x.icode (λ r. register_field_allowed r.has_byte r.uses_a x.r_a) icode r_a;
      r_b = nop_may v x.icode (λ r. register_field_allowed r.has_byte r.uses_b x.r_b) icode r_b;
      taken = off_where x.kind x.stat (next_is_branch (row v x.icode).next) x.ifun x.taken e taken;
      stops = off_only _ x.stops stops;
      back = off_only _ x.back back;
    })

decode_instr : (v : Variant) (x : DecodeLine) → (x.kind == bubble) ≡ false → nat_lt x.kind 3 ≡ true → decode_row_allowed (length (rows v)) x.icode (row v x.icode) x ≡ true → DecodeMay v x
unfolding decode_row_allowed
decode_instr v x e small h =
    let r : Row = row v x.icode in
    with_all (stat_allowed (length (rows v)) false x.stat x.icode)
    (nat_le x.ifun r.ifun_top ∷ (not (x.stat == 3) || x.ifun == 0)
    ∷ register_field_allowed r.has_byte r.uses_a x.r_a
    ∷ register_field_allowed r.has_byte r.uses_b x.r_b
    ∷ cnd_allowed_where (is_good_aok x.kind x.stat && next_is_branch r.next) x.ifun x.taken
    ∷ zero_unless (is_good_aok x.kind x.stat && accesses r.memory) x.stops
    ∷ zero_unless (is_good_aok x.kind x.stat && next_is_branch r.next) x.back
    ∷ []) (DecodeMay v x) h
    (λ icode ifun faulted r_a r_b taken stops back. record {
      kind = small;
      stat = choose_else _ _ _ e (stat_range (length (rows v)) false x.stat x.icode icode);
      icode = choose_else _ _ _ e icode;
      ifun = choose_else _ _ _ e (ifun and faulted);
      r_a = r_a;
      r_b = r_b;
      taken = taken;
      stops = stops;
      back = back;
    })

one_set : (n : ℕ) → (n == 1) ≡ true → set n ≡ true
one_set n h = grind (arith, nat_tests)

execute_bubble' : (v : Variant) (x : ExecuteLine) → (x.kind == bubble) ≡ true → execute_bubble x ≡ true → ExecuteMay v x
execute_bubble' v x e h =
    with_all (x.stat == 0)
    ((x.icode == inop) ∷ (x.ifun == 0) ∷ (x.dst_e == no_register) ∷ (x.dst_m == no_register) ∷ (x.src_a == no_register) ∷ (x.src_b == no_register)
    ∷ (x.cnd == 1) ∷ (x.stops == 0) ∷ (x.back == 0) ∷ []) (ExecuteMay v x) h
    (λ stat icode ifun dst_e dst_m src_a src_b cnd stops back. record {
      kind = kind_small x.kind 2 e;
      stat = choose_then _ _ _ e stat;
      icode = choose_then _ _ _ e icode;
      ifun = choose_then _ _ _ e ifun;
      dst_e = nop_may v x.icode (λ r. register_allowed r.dst_e x.dst_e) icode dst_e;
      dst_m = nop_may v x.icode (λ r. register_allowed r.dst_m x.dst_m) icode dst_m;
      src_a = nop_may v x.icode (λ r. register_allowed r.src_a x.src_a) icode src_a;
      src_b = nop_may v x.icode (λ r. register_allowed r.src_b x.src_b && shares_register r x.src_b x.dst_e) icode (src_b and refl);
      cnd = choose_then _ _ _ ifun (one_set x.cnd cnd);
      stops = off_only _ x.stops stops;
      back = off_only _ x.back back;
    })

execute_instr : (v : Variant) (x : ExecuteLine) → (x.kind == bubble) ≡ false → nat_lt x.kind 3 ≡ true → execute_row_allowed (length (rows v)) x.icode (row v x.icode) x ≡ true → ExecuteMay v x
unfolding execute_row_allowed
execute_instr v x e small h =
    let r : Row = row v x.icode in
    with_all (stat_allowed (length (rows v)) false x.stat x.icode)
    (nat_le x.ifun r.ifun_top ∷ (not (x.stat == 3) || x.ifun == 0)
    ∷ registers_allowed r x
    ∷ cnd_allowed x.ifun x.cnd
    ∷ zero_unless (is_good_aok x.kind x.stat && accesses r.memory) x.stops
    ∷ zero_unless (is_good_aok x.kind x.stat && next_is_branch r.next) x.back
    ∷ []) (ExecuteMay v x) h
    (λ icode ifun faulted registers cnd stops back.
    with_all (register_allowed r.dst_e x.dst_e)
    (register_allowed r.dst_m x.dst_m ∷ register_allowed r.src_a x.src_a ∷ register_allowed r.src_b x.src_b ∷ shares_register r x.src_b x.dst_e ∷ []) (ExecuteMay v x) registers
    (λ dst_e dst_m src_a src_b shared. record {
      kind = small;
      stat = choose_else _ _ _ e (stat_range (length (rows v)) false x.stat x.icode icode);
      icode = choose_else _ _ _ e icode;
      ifun = choose_else _ _ _ e (ifun and faulted);
      dst_e = dst_e;
      dst_m = dst_m;
      src_a = src_a;
      src_b = src_b and shared;
      cnd = cnd;
      stops = stops;
      back = back;
    }))

memory_bubble' : (v : Variant) (x : MemoryLine) → (x.kind == bubble) ≡ true → memory_bubble x ≡ true → MemoryMay v x
memory_bubble' v x e h =
    with_all (x.stat == 0)
    ((x.icode == inop) ∷ (x.ifun == 0) ∷ (x.dst_e == no_register) ∷ (x.dst_m == no_register) ∷ (x.error == 0) ∷ (x.back == 0) ∷ []) (MemoryMay v x) h
    (λ stat icode ifun dst_e dst_m error back. record {
      kind = kind_small x.kind 1 e;
      stat = choose_then _ _ _ e stat;
      icode = choose_then _ _ _ e icode;
      ifun = choose_then _ _ _ e ifun;
      dst_e = or_left _ _ (nop_may v x.icode (λ r. register_allowed r.dst_e x.dst_e) icode dst_e);
      dst_m = nop_may v x.icode (λ r. register_allowed r.dst_m x.dst_m) icode dst_m;
      cnd = choose_then _ _ _ e refl;
      error = off_only _ x.error error;
      back = off_only _ x.back back;
    })

lost_or_kept : (r : Row) (ifun cnd d : ℕ) → destination_allowed r cnd d ≡ true → cnd_allowed ifun cnd ≡ true
    → (register_allowed r.dst_e d || (r.conditional && (d == no_register && not (ifun == 0)))) ≡ true
lost_or_kept r ifun cnd d h c = by (r.conditional && not (set cnd)) refl
  where
    nonzero : (b : Bool) → (ifun == 0) ≡ b → set cnd ≡ false → not b ≡ true
    nonzero true e off = clash (set cnd) (then_true _ _ _ e c) off
    nonzero false e off = refl

    by : (b : Bool) → (r.conditional && not (set cnd)) ≡ b → (register_allowed r.dst_e d || (r.conditional && (d == no_register && not (ifun == 0)))) ≡ true
    by true e =
        or_right (register_allowed r.dst_e d) (r.conditional && (d == no_register && not (ifun == 0)))
        (and_from r.conditional (d == no_register && not (ifun == 0)) (and_first r.conditional (not (set cnd)) e)
        (and_from (d == no_register) (not (ifun == 0)) (then_true _ _ _ e h) (nonzero (ifun == 0) refl (not-true (set cnd) (and_second r.conditional (not (set cnd)) e)))))
    by false e = or_left (register_allowed r.dst_e d) (r.conditional && (d == no_register && not (ifun == 0))) (else_true _ _ _ e h)

memory_instr : (v : Variant) (x : MemoryLine) → (x.kind == bubble) ≡ false → nat_lt x.kind 2 ≡ true → memory_row_allowed (length (rows v)) x.icode (row v x.icode) x ≡ true → MemoryMay v x
unfolding memory_row_allowed
memory_instr v x e small h =
    let r : Row = row v x.icode in
    with_all (stat_allowed (length (rows v)) false x.stat x.icode)
    (nat_le x.ifun r.ifun_top ∷ (not (x.stat == 3) || x.ifun == 0)
    ∷ destination_allowed r x.cnd x.dst_e
    ∷ register_allowed r.dst_m x.dst_m
    ∷ cnd_allowed x.ifun x.cnd
    ∷ zero_unless (is_good_aok x.kind x.stat && accesses r.memory) x.error
    ∷ zero_unless (is_good_aok x.kind x.stat && next_is_branch r.next) x.back
    ∷ []) (MemoryMay v x) h
    (λ icode ifun faulted dst_e dst_m cnd error back. record {
      kind = small;
      stat = choose_else _ _ _ e (stat_range (length (rows v)) false x.stat x.icode icode);
      icode = choose_else _ _ _ e icode;
      ifun = choose_else _ _ _ e (ifun and faulted);
      dst_e = lost_or_kept r x.ifun x.cnd x.dst_e dst_e cnd;
      dst_m = dst_m;
      cnd = choose_else _ _ _ e (cnd and dst_e);
      error = error;
      back = back;
    })

write_bubble' : (v : Variant) (x : WriteLine) → (x.kind == bubble) ≡ true → write_bubble x ≡ true → WriteMay v x
write_bubble' v x e h =
    with_all (x.stat == 0) ((x.icode == inop) ∷ (x.dst_e == no_register) ∷ (x.dst_m == no_register) ∷ []) (WriteMay v x) h
    (λ stat icode dst_e dst_m. record {
      kind = kind_small x.kind 1 e;
      stat = choose_then _ _ _ e stat;
      icode = choose_then _ _ _ e icode;
      dst_e = or_right _ _ (nop_may v x.icode (λ r. register_allowed r.dst_e x.dst_e) icode dst_e);
      dst_m = nop_may v x.icode (λ r. register_allowed r.dst_m x.dst_m) icode dst_m;
    })

write_instr : (v : Variant) (x : WriteLine) → (x.kind == bubble) ≡ false → nat_lt x.kind 2 ≡ true → write_row_allowed (length (rows v)) x.icode (row v x.icode) x ≡ true → WriteMay v x
unfolding write_row_allowed
write_instr v x e small h =
    let r : Row = row v x.icode in
    with_all (stat_allowed (length (rows v)) (accesses r.memory) x.stat x.icode)
    (((r.conditional && x.dst_e == no_register) || register_allowed r.dst_e x.dst_e) ∷ register_allowed r.dst_m x.dst_m ∷ []) (WriteMay v x) h
    (λ icode dst_e dst_m. record {
      kind = small;
      stat = choose_else _ _ _ e (stat_range (length (rows v)) (accesses r.memory) x.stat x.icode icode);
      icode = choose_else _ _ _ e icode;
      dst_e = dst_e;
      dst_m = dst_m;
    })

-- an allowed line is a bubble's or an instruction's
stage_back : (R : Type 0) (kinds kind : ℕ) (as_bubble fits : Bool) → stage_allowed kinds kind as_bubble fits ≡ true →
    ((kind == bubble) ≡ true → as_bubble ≡ true → R) → ((kind == bubble) ≡ false → nat_lt kind kinds ≡ true → fits ≡ true → R) → R
stage_back R kinds kind as_bubble fits h held other = by (kind == bubble) refl
  where
    by : (b : Bool) → (kind == bubble) ≡ b → R
    by true e = held e (then_true _ _ _ e h)
    by false e = let both = else_true _ _ _ e h in other e (and_first _ _ both) (and_second _ _ both)

-- each number of an allowed valuation may follow those before it
pub allowed_chosen : (v : Variant) (c : Fields) → allowed v c ≡ true → AreChosen v (numbers c)
allowed_chosen v c h =
    let lines = lines_allowed v c h in
    may_chosen v c (record {
      f = fetch_back v c.f lines.f;
      d = stage_back _ _ _ _ _ lines.d (decode_bubble' v c.d) (decode_instr v c.d);
      e = stage_back _ _ _ _ _ lines.e (execute_bubble' v c.e) (execute_instr v c.e);
      m = stage_back _ _ _ _ _ lines.m (memory_bubble' v c.m) (memory_instr v c.m);
      w = stage_back _ _ _ _ _ lines.w (write_bubble' v c.w) (write_instr v c.w);
    })
