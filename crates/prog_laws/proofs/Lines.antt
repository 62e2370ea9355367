-- What each number of a valuation has to be, by name: a fact for each field, and the facts in the order of the fields.
use Rattle.std.proofs.Common.{◌≡◌, ℕ, zero, suc, ◌+◌, ◌<◌, ◌≤◌, true, false, not, ◌&&◌, ◌||◌, ◌==◌, nat_lt, nat_le, if◌then◌else◌, cond, List, [], ◌∷◌, length, get_or, take, arith}
use Rattle.y86_base.specs.declared.parts.Variant.{Variant}
use Rattle.y86_base.specs.Words.{set}
use Rattle.y86_isa.specs.RowTests.{accesses, next_is_branch}
use Rattle.y86_isa.specs.Table.{rows, row, inop, no_register}
use Rattle.net_fields.proofs.EachBelow.{EachFrom, ◌▹◌, no_more, each_below}
use Rattle.net_fields.specs.AllowedNumbers.{register_field_allowed, register_allowed, cnd_allowed_where, zero_unless, cnd_allowed, icode_allowed, shares_register, destination_allowed}
use Rattle.net_fields.specs.FieldSpecs.{is_name}
use Rattle.net_fields.specs.declared.field_specs.FieldSpec.{FieldSpec}
use Rattle.pipe_fields.specs.Layout.{Fields, FetchLine, DecodeLine, ExecuteLine, MemoryLine, WriteLine, fields_by, numbers, bubble, field_count, field_specs, kind_fields, fetch_fields, decode_fields, execute_fields, memory_fields, write_fields, f_first, d_first, e_first, m_first, w_first}
use Rattle.pipe_fields.specs.Allowed.{is_good_aok}
use Rattle.prog_gen.specs.Choices.{AreChosen, choice_allowed, stat_choice_allowed, icode_choice_allowed, ifun_choice_allowed}

-- ---- the facts of each line

pub record FetchMay (v : Variant) (x : FetchLine) : Type 0 where
  pub error : true ≡ true
  pub icode : (if set x.error then x.icode == inop else icode_allowed (length (rows v)) x.icode) ≡ true
  pub ifun : (nat_le x.ifun (row v x.icode).ifun_top && (not (set x.error) || x.ifun == 0)) ≡ true
  pub taken : cnd_allowed_where (next_is_branch (row v x.icode).next) x.ifun x.taken ≡ true
  pub stops : zero_unless (accesses (row v x.icode).memory) x.stops ≡ true
  pub back : zero_unless (next_is_branch (row v x.icode).next) x.back ≡ true

pub record DecodeMay (v : Variant) (x : DecodeLine) : Type 0 where
  pub kind : nat_lt x.kind 3 ≡ true
  pub stat : stat_choice_allowed x.kind x.stat ≡ true
  pub icode : icode_choice_allowed (length (rows v)) x.kind false x.stat x.icode ≡ true
  pub ifun : ifun_choice_allowed (row v x.icode) x.kind x.stat x.ifun ≡ true
  pub r_a : register_field_allowed (row v x.icode).has_byte (row v x.icode).uses_a x.r_a ≡ true
  pub r_b : register_field_allowed (row v x.icode).has_byte (row v x.icode).uses_b x.r_b ≡ true
  pub taken : cnd_allowed_where (is_good_aok x.kind x.stat && next_is_branch (row v x.icode).next) x.ifun x.taken ≡ true
  pub stops : zero_unless (is_good_aok x.kind x.stat && accesses (row v x.icode).memory) x.stops ≡ true
  pub back : zero_unless (is_good_aok x.kind x.stat && next_is_branch (row v x.icode).next) x.back ≡ true

pub record ExecuteMay (v : Variant) (x : ExecuteLine) : Type 0 where
  pub kind : nat_lt x.kind 3 ≡ true
  pub stat : stat_choice_allowed x.kind x.stat ≡ true
  pub icode : icode_choice_allowed (length (rows v)) x.kind false x.stat x.icode ≡ true
  pub ifun : ifun_choice_allowed (row v x.icode) x.kind x.stat x.ifun ≡ true
  pub dst_e : register_allowed (row v x.icode).dst_e x.dst_e ≡ true
  pub dst_m : register_allowed (row v x.icode).dst_m x.dst_m ≡ true
  pub src_a : register_allowed (row v x.icode).src_a x.src_a ≡ true
  pub src_b : (register_allowed (row v x.icode).src_b x.src_b && shares_register (row v x.icode) x.src_b x.dst_e) ≡ true
  pub cnd : cnd_allowed x.ifun x.cnd ≡ true
  pub stops : zero_unless (is_good_aok x.kind x.stat && accesses (row v x.icode).memory) x.stops ≡ true
  pub back : zero_unless (is_good_aok x.kind x.stat && next_is_branch (row v x.icode).next) x.back ≡ true

pub record MemoryMay (v : Variant) (x : MemoryLine) : Type 0 where
  pub kind : nat_lt x.kind 2 ≡ true
  pub stat : stat_choice_allowed x.kind x.stat ≡ true
  pub icode : icode_choice_allowed (length (rows v)) x.kind false x.stat x.icode ≡ true
  pub ifun : ifun_choice_allowed (row v x.icode) x.kind x.stat x.ifun ≡ true
  pub dst_e : (register_allowed (row v x.icode).dst_e x.dst_e || ((row v x.icode).conditional && (x.dst_e == no_register && not (x.ifun == 0)))) ≡ true
  pub dst_m : register_allowed (row v x.icode).dst_m x.dst_m ≡ true
  pub cnd : (if x.kind == bubble then true else cnd_allowed x.ifun x.cnd && destination_allowed (row v x.icode) x.cnd x.dst_e) ≡ true
  pub error : zero_unless (is_good_aok x.kind x.stat && accesses (row v x.icode).memory) x.error ≡ true
  pub back : zero_unless (is_good_aok x.kind x.stat && next_is_branch (row v x.icode).next) x.back ≡ true

pub record WriteMay (v : Variant) (x : WriteLine) : Type 0 where
  pub kind : nat_lt x.kind 2 ≡ true
  pub stat : stat_choice_allowed x.kind x.stat ≡ true
  pub icode : icode_choice_allowed (length (rows v)) x.kind (accesses (row v x.icode).memory) x.stat x.icode ≡ true
  pub dst_e : (((row v x.icode).conditional && x.dst_e == no_register) || register_allowed (row v x.icode).dst_e x.dst_e) ≡ true
  pub dst_m : register_allowed (row v x.icode).dst_m x.dst_m ≡ true

pub record LinesMay (v : Variant) (c : Fields) : Type 0 where
  pub f : FetchMay v c.f
  pub d : DecodeMay v c.d
  pub e : ExecuteMay v c.e
  pub m : MemoryMay v c.m
  pub w : WriteMay v c.w

-- ---- at the places

-- the number at a place may follow those before it
abbrev pub IsMet : Variant → Fields → ℕ → Type 0
IsMet v c j = choice_allowed v j (fields_by (take j (numbers c))) (get_or (numbers c) j 0) ≡ true

-- the facts give the choices: they stand here in the order of the fields
pub may_chosen : (v : Variant) (c : Fields) → LinesMay v c → AreChosen v (numbers c)
unfolding choice_allowed
may_chosen v c s j lt =
    each_below (IsMet v c) field_count each j lt
  where
    each : EachFrom (IsMet v c) 0 field_count
    each =
        s.d.kind ▹ s.e.kind ▹ s.m.kind ▹ s.w.kind ▹
        s.f.error ▹ s.f.icode ▹ s.f.ifun ▹ s.f.taken ▹ s.f.stops ▹ s.f.back ▹
        s.d.stat ▹ s.d.icode ▹ s.d.ifun ▹ s.d.r_a ▹ s.d.r_b ▹ s.d.taken ▹ s.d.stops ▹ s.d.back ▹
        s.e.stat ▹ s.e.icode ▹ s.e.ifun ▹ s.e.dst_e ▹ s.e.dst_m ▹ s.e.src_a ▹ s.e.src_b ▹ s.e.cnd ▹ s.e.stops ▹ s.e.back ▹
        s.m.stat ▹ s.m.icode ▹ s.m.ifun ▹ s.m.dst_e ▹ s.m.dst_m ▹ s.m.cnd ▹ s.m.error ▹ s.m.back ▹
        s.w.stat ▹ s.w.icode ▹ s.w.dst_e ▹ s.w.dst_m ▹
        no_more

-- what follows from a fact for each of count places, from first on
abbrev WithFrom : (ℕ → Type 0) → ℕ → ℕ → Type 0 → Type 0
WithFrom P first zero R = R
WithFrom P first (suc count) R = P first → WithFrom P (suc first) count R

with_from : (P : ℕ → Type 0) (first count : ℕ) (R : Type 0) → ((j : ℕ) → first ≤ j → j < first + count → P j) → WithFrom P first count R → R
with_from P first zero R h go = go
with_from P first (suc count) R h go =
    with_from P (suc first) count R (λ j ge lt. h j (omega (arith, ge)) (omega (arith, lt))) (go (h first (omega arith) (omega arith)))

-- the choices give the facts
pub chosen_may : (v : Variant) (c : Fields) → AreChosen v (numbers c) → LinesMay v c
unfolding choice_allowed
chosen_may v c h =
    with_from (IsMet v c) 0 (length kind_fields) (LinesMay v c) (λ j ge lt. h j (omega (arith, lt)))
    (λ d_kind e_kind m_kind w_kind. record {
      f =
          with_from (IsMet v c) f_first (length fetch_fields) (FetchMay v c.f) (λ j ge lt. h j (omega (arith, lt)))
          (λ error icode ifun taken stops back. record { error = error; icode = icode; ifun = ifun; taken = taken; stops = stops; back = back });
      d =
          with_from (IsMet v c) d_first (length decode_fields) (DecodeMay v c.d) (λ j ge lt. h j (omega (arith, lt)))
          (λ stat icode ifun r_a r_b taken stops back. record { kind = d_kind; stat = stat; icode = icode; ifun = ifun; r_a = r_a; r_b = r_b; taken = taken; stops = stops; back = back });
      e =
          with_from (IsMet v c) e_first (length execute_fields) (ExecuteMay v c.e) (λ j ge lt. h j (omega (arith, lt)))
          (λ stat icode ifun dst_e dst_m src_a src_b cnd stops back. record { kind = e_kind; stat = stat; icode = icode; ifun = ifun; dst_e = dst_e; dst_m = dst_m; src_a = src_a; src_b = src_b; cnd = cnd; stops = stops; back = back });
      m =
          with_from (IsMet v c) m_first (length memory_fields) (MemoryMay v c.m) (λ j ge lt. h j (omega (arith, lt)))
          (λ stat icode ifun dst_e dst_m cnd error back. record { kind = m_kind; stat = stat; icode = icode; ifun = ifun; dst_e = dst_e; dst_m = dst_m; cnd = cnd; error = error; back = back });
      w =
          with_from (IsMet v c) w_first (length write_fields) (WriteMay v c.w) (λ j ge lt. h j (omega (arith, lt)))
          (λ stat icode dst_e dst_m. record { kind = w_kind; stat = stat; icode = icode; dst_e = dst_e; dst_m = dst_m });
    })

-- the place of a signal's field
abbrev position : List FieldSpec → ℕ → ℕ
position [] name = 0
position (s ∷ ss) name = cond (is_name s.name name) 0 (suc (position ss name))

abbrev pub place : ℕ → ℕ
place name = position field_specs name
