-- After numbers each of which may follow those before it there is one that may follow, at each place.
use Rattle.std.proofs.Common.{◌≡◌, ℕ, zero, suc, ◌<◌, ◌^◌, Bool, true, false, not, ◌&&◌, ◌||◌, ◌==◌, nat_lt, nat_le, if◌then◌else◌, List, [], ◌∷◌, length, get_or, take, slice_get, unwrap_or, refl, ap, subst, arith}
use Rattle.std.proofs.lemmas.Bool.Decides.{nat_tests}
use Rattle.std.proofs.lemmas.Bool.{or_left, or_right, and_from, not-true}
use Rattle.y86_base.proofs.Numbers.{eqb_self}
use Rattle.std.proofs.Math.Bool.{and-false, or-true}
use Rattle.dp_signals.specs.PipeNames as signal
use Rattle.y86_base.specs.declared.parts.Variant.{Variant}
use Rattle.y86_base.specs.declared.parts.Variant.TheVariants.{Base, Full}
use Rattle.y86_isa.specs.declared.columns.Row.{Row}
use Rattle.y86_isa.specs.declared.columns.RegisterColumn.{RegisterColumn}
use Rattle.y86_isa.specs.declared.columns.RegisterColumn.TheVariants.{Dash, FieldA, FieldB, Stack}
use Rattle.y86_isa.specs.RowTests.{accesses, next_is_branch, is_field_b}
use Rattle.y86_isa.specs.Table.{rows, row, dash_row, inop, no_register}
use Rattle.net_fields.specs.AllowedNumbers.{register_field_allowed, register_allowed, cnd_allowed_where, zero_unless, cnd_allowed, icode_allowed, stat_allowed, destination_allowed}
use Rattle.y86_base.specs.Words.{set}
use Rattle.y86_base.proofs.Booleans.{and_second, and_first}
use Rattle.pipe_fields.specs.Layout.{Fields, fields_by, numbers, bubble, field_count}
use Rattle.pipe_fields.specs.Allowed.{is_good_aok}
use Rattle.prog_gen.specs.Choices.{choice_allowed, stat_choice_allowed, icode_choice_allowed, ifun_choice_allowed, width}
use Rattle.prog_laws.proofs.Lines.{place}
use Rattle.prog_laws.proofs.Lawful.{else_true, choose_then, choose_else}
use Rattle.net_fields.proofs.EachBelow.{EachFrom, ◌▹◌, no_more, each_below}

-- a number below a bound that passes a test
pub record Some_below (bound : ℕ) (may : ℕ → Bool) : Type 0 where
  pub n : ℕ
  pub small : n < bound
  pub may_be : may n ≡ true

least : (n : ℕ) → nat_le 0 n ≡ true
least n = grind (arith, nat_tests)

-- ---- by the kinds of tests

cnd_some : (ifun : ℕ) → Some_below 2 (cnd_allowed ifun)
cnd_some ifun = by (ifun == 0) refl
  where
    by : (b : Bool) → (ifun == 0) ≡ b → Some_below 2 (cnd_allowed ifun)
    by true e = record { n = 1; small = omega arith; may_be = choose_then _ _ _ e refl }
    by false e = record { n = 0; small = omega arith; may_be = choose_else _ _ _ e (or-true (nat_lt ifun 7)) }

only_some : (may : Bool) → Some_below 2 (zero_unless may)
only_some may = record { n = 0; small = omega arith; may_be = or-true may }

where_some : (may : Bool) (ifun : ℕ) → Some_below 2 (cnd_allowed_where may ifun)
where_some true ifun = (let c = cnd_some ifun in record { n = c.n; small = c.small; may_be = c.may_be })
where_some false ifun = record { n = 0; small = omega arith; may_be = refl }

register_some : (field : RegisterColumn) → Some_below 16 (register_allowed field)
register_some Dash = record { n = 15; small = omega arith; may_be = refl }
register_some FieldA = record { n = 0; small = omega arith; may_be = refl }
register_some FieldB = record { n = 0; small = omega arith; may_be = refl }
register_some Stack = record { n = 4; small = omega arith; may_be = refl }

half_some : (has_byte used : Bool) → Some_below 16 (register_field_allowed has_byte used)
half_some true used = record { n = 0; small = omega arith; may_be = or-true (not used) }
half_some false used = record { n = 15; small = omega arith; may_be = refl }

stat_some : (kind : ℕ) → Some_below 8 (stat_choice_allowed kind)
stat_some kind = by (kind == bubble) refl
  where
    by : (b : Bool) → (kind == bubble) ≡ b → Some_below 8 (stat_choice_allowed kind)
    by true e = record { n = 0; small = omega arith; may_be = choose_then _ _ _ e refl }
    by false e = record { n = 1; small = omega arith; may_be = choose_else _ _ _ e refl }

one_to_four : (P : ℕ → Type 0) → P 1 → P 2 → P 3 → P 4 → (s : ℕ) → (nat_le 1 s && nat_le s 4) ≡ true → P s
one_to_four P p1 p2 p3 p4 zero h = absurd (grind (arith, nat_tests))
one_to_four P p1 p2 p3 p4 (suc zero) h = p1
one_to_four P p1 p2 p3 p4 (suc (suc zero)) h = p2
one_to_four P p1 p2 p3 p4 (suc (suc (suc zero))) h = p3
one_to_four P p1 p2 p3 p4 (suc (suc (suc (suc zero)))) h = p4
one_to_four P p1 p2 p3 p4 (suc (suc (suc (suc (suc k))))) h = absurd (too_many k h)
  where
    too_many : (k : ℕ) → (nat_le 1 (suc (suc (suc (suc (suc k))))) && nat_le (suc (suc (suc (suc (suc k))))) 4) ≡ true → ⊥
    too_many k h = grind (arith, nat_tests)

-- the icode of each status; whether it faults may depend on the icode
status_some : (v : Variant) (faulted : ℕ → Bool) (stat : ℕ) → (nat_le 1 stat && nat_le stat 4) ≡ true → Some_below 16 (λ n. stat_allowed (length (rows v)) (faulted n) stat n)
status_some Base faulted stat h =
    one_to_four (λ s. Some_below 16 (λ n. stat_allowed (length (rows Base)) (faulted n) s n))
    (record { n = 1; small = omega arith; may_be = refl })
    (record { n = 0; small = omega arith; may_be = refl })
    (record { n = 1; small = omega arith; may_be = refl })
    (record { n = 15; small = omega arith; may_be = refl }) stat h
status_some Full faulted stat h =
    one_to_four (λ s. Some_below 16 (λ n. stat_allowed (length (rows Full)) (faulted n) s n))
    (record { n = 1; small = omega arith; may_be = refl })
    (record { n = 0; small = omega arith; may_be = refl })
    (record { n = 1; small = omega arith; may_be = refl })
    (record { n = 15; small = omega arith; may_be = refl }) stat h

icode_some : (v : Variant) (kind : ℕ) (faulted : ℕ → Bool) (stat : ℕ) → stat_choice_allowed kind stat ≡ true → Some_below 16 (λ n. icode_choice_allowed (length (rows v)) kind (faulted n) stat n)
icode_some v kind faulted stat h = by (kind == bubble) refl
  where
    by : (b : Bool) → (kind == bubble) ≡ b → Some_below 16 (λ n. icode_choice_allowed (length (rows v)) kind (faulted n) stat n)
    by true e = record { n = 1; small = omega arith; may_be = choose_then _ _ _ e refl }
    by false e = (let s = status_some v faulted stat (else_true _ _ _ e h) in record { n = s.n; small = s.small; may_be = choose_else _ _ _ e s.may_be })

ifun_some : (r : Row) (kind stat : ℕ) → Some_below 16 (ifun_choice_allowed r kind stat)
ifun_some r kind stat = by (kind == bubble) refl
  where
    by : (b : Bool) → (kind == bubble) ≡ b → Some_below 16 (ifun_choice_allowed r kind stat)
    by true e = record { n = 0; small = omega arith; may_be = choose_then _ _ _ e refl }
    by false e = record { n = 0; small = omega arith; may_be = choose_else _ _ _ e (and_from _ _ (least r.ifun_top) (or-true (not (stat == 3)))) }

fetched_some : (v : Variant) (error : ℕ) → Some_below 16 (λ n. if set error then n == inop else icode_allowed (length (rows v)) n)
fetched_some v error = by (set error) refl v
  where
    by : (b : Bool) → set error ≡ b → (v : Variant) → Some_below 16 (λ n. if set error then n == inop else icode_allowed (length (rows v)) n)
    by true e v = record { n = 1; small = omega arith; may_be = choose_then _ _ _ e refl }
    by false e Base = record { n = 0; small = omega arith; may_be = choose_else _ _ _ e refl }
    by false e Full = record { n = 0; small = omega arith; may_be = choose_else _ _ _ e refl }

fetched_ifun_some : (r : Row) (error : ℕ) → Some_below 16 (λ n. nat_le n r.ifun_top && (not (set error) || n == 0))
fetched_ifun_some r error = record { n = 0; small = omega arith; may_be = and_from _ _ (least r.ifun_top) (or-true (not (set error))) }

-- srcB, if it has to be the destination that is known already
source_some : (src dst : RegisterColumn) (dst_e : ℕ) → register_allowed dst dst_e ≡ true
    → Some_below 16 (λ n. register_allowed src n && (not (is_field_b src && is_field_b dst) || n == dst_e))
source_some Dash dst dst_e h = record { n = 15; small = omega arith; may_be = refl }
source_some FieldA dst dst_e h = record { n = 0; small = omega arith; may_be = refl }
source_some Stack dst dst_e h = record { n = 4; small = omega arith; may_be = refl }
source_some FieldB Dash dst_e h = record { n = 0; small = omega arith; may_be = refl }
source_some FieldB FieldA dst_e h = record { n = 0; small = omega arith; may_be = refl }
source_some FieldB Stack dst_e h = record { n = 0; small = omega arith; may_be = refl }
source_some FieldB FieldB dst_e h = record { n = dst_e; small = below dst_e h; may_be = and_from _ _ h (eqb_self dst_e) }
  where
    below : (n : ℕ) → nat_lt n no_register ≡ true → n < 16
    below n h = grind (arith, nat_tests)

-- ---- M_Cnd after the destination

-- a row with a condition takes no ifun over 6
conditional_small : Row → Bool
conditional_small r = not r.conditional || nat_le r.ifun_top 6

all_small : List Row → Bool
all_small [] = true
all_small (r ∷ rs) = conditional_small r && all_small rs

small_at : (rs : List Row) (n : ℕ) → all_small rs ≡ true → conditional_small (unwrap_or (slice_get rs n) dash_row) ≡ true
unfolding all_small conditional_small
small_at [] n h = refl
small_at (r ∷ rs) zero h = and_first _ _ h
small_at (r ∷ rs) (suc n) h = small_at rs n (and_second _ _ h)

row_small : (v : Variant) (n : ℕ) → conditional_small (row v n) ≡ true
unfolding row all_small conditional_small
row_small Base n = small_at (rows Base) n refl
row_small Full n = small_at (rows Full) n refl

top_small : (r : Row) → conditional_small r ≡ true → r.conditional ≡ true → nat_le r.ifun_top 6 ≡ true
unfolding conditional_small
top_small r h e = subst (λ b. (not b || nat_le r.ifun_top 6) ≡ true) e h

memory_cnd_some : (r : Row) (kind ifun dst_e : ℕ) → conditional_small r ≡ true
    → (kind == bubble ≡ false → nat_le ifun r.ifun_top ≡ true)
    → (register_allowed r.dst_e dst_e || (r.conditional && (dst_e == no_register && not (ifun == 0)))) ≡ true
    → Some_below 2 (λ n. if kind == bubble then true else cnd_allowed ifun n && destination_allowed r n dst_e)
memory_cnd_some r kind ifun dst_e known top fits = by (kind == bubble) refl
  where
    yes_fits : nat_lt ifun 7 ≡ true → cnd_allowed ifun 1 ≡ true
    yes_fits h = of (ifun == 0) refl
      where
        of : (b : Bool) → (ifun == 0) ≡ b → cnd_allowed ifun 1 ≡ true
        of true e = choose_then _ _ _ e refl
        of false e = choose_else _ _ _ e (ap (λ b. b || not (set 1)) h)

    no_fits : (ifun == 0) ≡ false → cnd_allowed ifun 0 ≡ true
    no_fits e = choose_else _ _ _ e (or-true (nat_lt ifun 7))

    past : nat_lt ifun 7 ≡ false → (ifun == 0) ≡ false
    past h = grind (arith, nat_tests)

    over : nat_lt ifun 7 ≡ false → (kind == bubble) ≡ false → r.conditional ≡ false
    over h e = of r.conditional refl
      where
        of : (b : Bool) → r.conditional ≡ b → r.conditional ≡ false
        of false c = c
        of true c = absurd (clash ifun r.ifun_top h (top e) (top_small r known c))
          where
            clash : (i t : ℕ) → nat_lt i 7 ≡ false → nat_le i t ≡ true → nat_le t 6 ≡ true → ⊥
            clash i t p q s = grind (arith, nat_tests)

    with_register : (kind == bubble) ≡ false → register_allowed r.dst_e dst_e ≡ true → (b : Bool) → nat_lt ifun 7 ≡ b
        → Some_below 2 (λ n. if kind == bubble then true else cnd_allowed ifun n && destination_allowed r n dst_e)
    with_register e f true h = record { n = 1; small = omega arith; may_be = choose_else _ _ _ e (and_from _ _ (yes_fits h) (choose_else _ _ _ (and-false r.conditional) f)) }
    with_register e f false h = record {
      n = 0;
      small = omega arith;
      may_be = choose_else _ _ _ e (and_from _ _ (no_fits (past h)) (choose_else _ _ _ (ap (λ b. b && true) (over h e)) f));
    }

    lost : (kind == bubble) ≡ false → (r.conditional && (dst_e == no_register && not (ifun == 0))) ≡ true
        → Some_below 2 (λ n. if kind == bubble then true else cnd_allowed ifun n && destination_allowed r n dst_e)
    lost e f =
        let rest : (dst_e == no_register && not (ifun == 0)) ≡ true = and_second r.conditional (dst_e == no_register && not (ifun == 0)) f in
        record {
          n = 0;
          small = omega arith;
          may_be = choose_else _ _ _ e (and_from _ _ (no_fits (not-true (ifun == 0) (and_second (dst_e == no_register) (not (ifun == 0)) rest)))
              (choose_then (r.conditional && not (set 0)) (dst_e == no_register) (register_allowed r.dst_e dst_e) (lost_then r.conditional (and_first r.conditional (dst_e == no_register && not (ifun == 0)) f))
              (and_first (dst_e == no_register) (not (ifun == 0)) rest)));
        }
      where
        lost_then : (b : Bool) → b ≡ true → (b && not (set 0)) ≡ true
        lost_then b h = ap (λ x. x && not (set 0)) h

    by : (b : Bool) → (kind == bubble) ≡ b → Some_below 2 (λ n. if kind == bubble then true else cnd_allowed ifun n && destination_allowed r n dst_e)
    by true e = record { n = 0; small = omega arith; may_be = choose_then _ _ _ e refl }
    by false e = of (register_allowed r.dst_e dst_e) refl
      where
        of : (b : Bool) → register_allowed r.dst_e dst_e ≡ b → Some_below 2 (λ n. if kind == bubble then true else cnd_allowed ifun n && destination_allowed r n dst_e)
        of true f = with_register e f (nat_lt ifun 7) refl
        of false f = lost e (subst (λ b. (b || (r.conditional && (dst_e == no_register && not (ifun == 0)))) ≡ true) f fits)

-- ---- by 0, and by one of two tests

zero_some : {bound : ℕ} {may : ℕ → Bool} → 0 < bound → may 0 ≡ true → Some_below bound may
zero_some small h = record { n = 0; small = small; may_be = h }

left_some : {bound : ℕ} {p : ℕ → Bool} (q : ℕ → Bool) → Some_below bound p → Some_below bound (λ n. p n || q n)
left_some q s = record { n = s.n; small = s.small; may_be = or_left _ _ s.may_be }

right_some : {bound : ℕ} {q : ℕ → Bool} (p : ℕ → Bool) → Some_below bound q → Some_below bound (λ n. p n || q n)
right_some p s = record { n = s.n; small = s.small; may_be = or_right _ _ s.may_be }

-- ---- at each place, after those that are known

-- each number before a place may follow those before it
abbrev pub AreBefore : Variant → Fields → ℕ → Type 0
AreBefore v c j = (k : ℕ) → k < j → choice_allowed v k (fields_by (take k (numbers c))) (get_or (numbers c) k 0) ≡ true

abbrev pub IsWitnessed : Variant → Fields → ℕ → Type 0
IsWitnessed v c j = AreBefore v c j → Some_below (2 ^ width j) (choice_allowed v j (fields_by (take j (numbers c))))

-- another one may follow
pub witness : (v : Variant) (c : Fields) (j : ℕ) → j < field_count → IsWitnessed v c j
unfolding choice_allowed
witness v c j lt =
    each_below (IsWitnessed v c) field_count each j lt
  where
    each : EachFrom (IsWitnessed v c) 0 field_count
    each =
        (λ h. zero_some (omega arith) refl) ▹
        (λ h. zero_some (omega arith) refl) ▹
        (λ h. zero_some (omega arith) refl) ▹
        (λ h. zero_some (omega arith) refl) ▹
        (λ h. zero_some (omega arith) refl) ▹
        (λ h. fetched_some v c.f.error) ▹
        (λ h. fetched_ifun_some (row v c.f.icode) c.f.error) ▹
        (λ h. where_some (next_is_branch (row v c.f.icode).next) c.f.ifun) ▹
        (λ h. only_some (accesses (row v c.f.icode).memory)) ▹
        (λ h. only_some (next_is_branch (row v c.f.icode).next)) ▹
        (λ h. stat_some c.d.kind) ▹
        (λ h. icode_some v c.d.kind (λ n. false) c.d.stat (h (place signal.D_stat) (omega arith))) ▹
        (λ h. ifun_some (row v c.d.icode) c.d.kind c.d.stat) ▹
        (λ h. half_some (row v c.d.icode).has_byte (row v c.d.icode).uses_a) ▹
        (λ h. half_some (row v c.d.icode).has_byte (row v c.d.icode).uses_b) ▹
        (λ h. where_some (is_good_aok c.d.kind c.d.stat && next_is_branch (row v c.d.icode).next) c.d.ifun) ▹
        (λ h. only_some (is_good_aok c.d.kind c.d.stat && accesses (row v c.d.icode).memory)) ▹
        (λ h. only_some (is_good_aok c.d.kind c.d.stat && next_is_branch (row v c.d.icode).next)) ▹
        (λ h. stat_some c.e.kind) ▹
        (λ h. icode_some v c.e.kind (λ n. false) c.e.stat (h (place signal.E_stat) (omega arith))) ▹
        (λ h. ifun_some (row v c.e.icode) c.e.kind c.e.stat) ▹
        (λ h. register_some (row v c.e.icode).dst_e) ▹
        (λ h. register_some (row v c.e.icode).dst_m) ▹
        (λ h. register_some (row v c.e.icode).src_a) ▹
        (λ h. source_some (row v c.e.icode).src_b (row v c.e.icode).dst_e c.e.dst_e (h (place signal.E_dstE) (omega arith))) ▹
        (λ h. cnd_some c.e.ifun) ▹
        (λ h. only_some (is_good_aok c.e.kind c.e.stat && accesses (row v c.e.icode).memory)) ▹
        (λ h. only_some (is_good_aok c.e.kind c.e.stat && next_is_branch (row v c.e.icode).next)) ▹
        (λ h. stat_some c.m.kind) ▹
        (λ h. icode_some v c.m.kind (λ n. false) c.m.stat (h (place signal.M_stat) (omega arith))) ▹
        (λ h. ifun_some (row v c.m.icode) c.m.kind c.m.stat) ▹
        (λ h. left_some _ (register_some (row v c.m.icode).dst_e)) ▹
        (λ h. register_some (row v c.m.icode).dst_m) ▹
        (λ h. memory_cnd_some (row v c.m.icode) c.m.kind c.m.ifun c.m.dst_e (row_small v c.m.icode) (λ e. and_first _ _ (else_true _ _ _ e (h (place signal.M_ifun) (omega arith)))) (h (place signal.M_dstE) (omega arith))) ▹
        (λ h. only_some (is_good_aok c.m.kind c.m.stat && accesses (row v c.m.icode).memory)) ▹
        (λ h. only_some (is_good_aok c.m.kind c.m.stat && next_is_branch (row v c.m.icode).next)) ▹
        (λ h. stat_some c.w.kind) ▹
        (λ h. icode_some v c.w.kind (λ n. accesses (row v n).memory) c.w.stat (h (place signal.W_stat) (omega arith))) ▹
        (λ h. right_some _ (register_some (row v c.w.icode).dst_e)) ▹
        (λ h. register_some (row v c.w.icode).dst_m) ▹
        no_more
