-- The lines of a real cycle's valuation are allowed.
use Rattle.std.proofs.Common.{◌≡◌, ◌≢◌, ℕ, ◌<◌, ◌≤◌, ◌⊎◌, inl, inr, Bool, true, false, not, ◌&&◌, ◌||◌, ◌==◌, nat_lt, nat_le, cond, List, length, refl, sym, ap, ◌∙◌, arith}
use Rattle.std.proofs.lemmas.Bool.{false≢true, and_parts, and_from, eq-eqb, eqb-false, lt-ltb, le-leb, or_left, or_right}
use Rattle.y86_base.specs.Stat.{stat_number}
use Rattle.y86_base.specs.declared.parts.Stat.TheVariants.{Adr, Aok, Hlt, Ins}
use Rattle.y86_base.specs.declared.parts.Variant.{Variant}
use Rattle.y86_isa.specs.Blocks.{condition, destination_e, fetch_status, fetched, reading, register_number}
use Rattle.y86_isa.specs.Machine.{is_aok}
use Rattle.y86_isa.specs.RowTests.{accesses, next_is_branch, is_dash, is_field_b, is_used}
use Rattle.y86_isa.specs.Run.{IsImage}
use Rattle.y86_isa.specs.Table.{row, rows}
use Rattle.y86_isa.specs.declared.columns.RegisterColumn.TheVariants.{Dash, FieldA, FieldB, Stack}
use Rattle.y86_isa.specs.declared.columns.RegisterColumn.{RegisterColumn}
use Rattle.y86_isa.specs.declared.columns.Row.{Row}
use Rattle.y86_isa.specs.declared.machine.Rec.{Rec}
use Rattle.y86_isa.proofs.RowsAgree.{fields_agree}
use Rattle.y86_isa.proofs.WhatIsRead.{IsFields-fetched, IsReading-reading}
use Rattle.y86_isa.proofs.Words.{FitsFields-fetched}
use Rattle.y86_isa.proofs.Effects.{number_lt}
use Rattle.yis_run_laws.specs.Instructions.{state_before, work_at, instruction_row}
use Rattle.yis_run_laws.proofs.Statuses.{fetch_one}
use Rattle.yis_run_laws.proofs.Walk.{access-from_fault_at, aok-from_access, aok-from_branch, fetches, follows, image_before}
use Rattle.hcl_types.specs.Terms.{signed_below}
use Rattle.dp_signals.specs.PipeNames as name
use Rattle.dp_signals.specs.PipeRows.{PipeHardware}
use Rattle.y86_base.specs.Words.{set}
use Rattle.dp_signals.specs.Values.{bit}
use Rattle.dp_signals.specs.declared.pipe_state.PipeState.{PipeState}
use Rattle.dp_signals.specs.declared.pipe_state.StageD.{StageD}
use Rattle.dp_signals.proofs.Bits.{set_bit}
use Rattle.net_fields.specs.AllowedNumbers.{cnd_allowed, cnd_allowed_where, codes_allowed, destination_allowed, register_field_allowed, icode_allowed, zero_unless, reading_allowed, register_allowed, stat_allowed, shares_register}
use Rattle.net_fields.proofs.Fitting.{half_by, cnd_by}
use Rattle.pipe_fields.specs.Allowed.{allowed, decode_allowed, decode_row_allowed, execute_allowed, execute_row_allowed, fetch_allowed, fetch_row_allowed, is_good_aok, memory_allowed, memory_row_allowed, registers_allowed, stage_allowed, write_allowed, write_row_allowed}
use Rattle.pipe_fields.specs.Layout.{ExecuteLine, Fields}
use Rattle.pipe_refinement.specs.Invariant.{AllowedD, RunContext, CouplingInvariant}
use Rattle.pipe_refinement.specs.Kinds.{Schedule, Bubbled, Good, StageKind, Wrong, in_d, in_e, in_f, in_m, in_w, is_good, is_wrong}
use Rattle.pipe_refinement.proofs.Fetch.{reads}
use Rattle.pipe_theorem.proofs.Real.{good_number}
use Rattle.pipe_theorem.proofs.RealCycle.{back_of, f_line, fault_of, fields_at, hidden, kind_number, taken_of}

-- ---- truths

all3 : (a b c : Bool) → a ≡ true → b ≡ true → c ≡ true → (a && b) && c ≡ true
all3 a b c pa pb pc = rw (pa, pb, pc) refl

all4 : (a b c d : Bool) → a ≡ true → b ≡ true → c ≡ true → d ≡ true → ((a && b) && c) && d ≡ true
all4 a b c d pa pb pc pd = rw (pa, pb, pc, pd) refl

all5 : (a b c d e : Bool) → a ≡ true → b ≡ true → c ≡ true → d ≡ true → e ≡ true → (((a && b) && c) && d) && e ≡ true
all5 a b c d e pa pb pc pd pe = rw (pa, pb, pc, pd, pe) refl

all6 : (a b c d e g : Bool) → a ≡ true → b ≡ true → c ≡ true → d ≡ true → e ≡ true → g ≡ true → ((((a && b) && c) && d) && e) && g ≡ true
all6 a b c d e g pa pb pc pd pe pg = rw (pa, pb, pc, pd, pe, pg) refl

-- ---- codes
pub record Coded (v : Variant) (stat icode ifun : ℕ) : Type 0 where
  pub error : Bool
  pub stat_is : stat ≡ stat_number (fetch_status error icode)
  pub outside : error ≡ true → (icode ≡ 1) × (ifun ≡ 0)
  pub known : (icode < length (rows v)) ⊎ (icode ≡ 15)
  pub top : ifun ≤ (row v icode).ifun_top

above_zero : (n : ℕ) → (n == 0) ≡ false → nat_lt 0 n ≡ true
above_zero n h = lt-ltb 0 n (by n (eqb-false n 0 h))
  where
    by : (n : ℕ) → n ≢ 0 → 0 < n
    by n ne = grind (arith, ne)

code_by : (many icode ifun : ℕ) (r : Row) (error a b : Bool) → (error ≡ true → (icode ≡ 1) × (ifun ≡ 0)) → (icode == 15) ≡ a → (icode == 0) ≡ b →
    (a ≡ false → icode < many) → nat_le ifun r.ifun_top ≡ true →
    codes_allowed many r (stat_number (cond error Adr (cond a Ins (cond b Hlt Aok)))) icode ifun ≡ true
code_by many icode ifun r true a b o ha hb k t = rw (t, (o refl).0, (o refl).1) refl
code_by many icode ifun r false true b o ha hb k t = rw (t, ha) refl
code_by many icode ifun r false false true o ha hb k t = rw (t, hb) refl
code_by many icode ifun r false false false o ha hb k t = rw (t, lt-ltb icode many (k refl), above_zero icode hb) refl

known_lt : (many icode : ℕ) → (icode < many) ⊎ (icode ≡ 15) → (icode == 15) ≡ false → icode < many
known_lt many icode (inl h) e = h
known_lt many icode (inr h) e = absurd (eqb-false icode 15 e h)

pub code_is : (v : Variant) (stat icode ifun : ℕ) → Coded v stat icode ifun → codes_allowed (length (rows v)) (row v icode) stat icode ifun ≡ true
code_is v stat icode ifun c =
    rw c.stat_is (code_by (length (rows v)) icode ifun (row v icode) c.error (icode == 15) (icode == 0) c.outside refl refl (known_lt _ _ c.known) (le-leb _ _ c.top))

pub coded_of : (x : RunContext) (i : ℕ) → Coded x.v (stat_number (work_at x.v x.image i).fetch_stat) (work_at x.v x.image i).icode (work_at x.v x.image i).ifun
coded_of x i =
    let w = fetches x.v x.image i in
    let g = reads x.v (state_before x.v x.image i).mem (state_before x.v x.image i).pc in
    let r = IsReading-reading x.v (state_before x.v x.image i).mem (state_before x.v x.image i).pc in
    let ic : (work_at x.v x.image i).icode ≡ (reading x.v (state_before x.v x.image i).mem (state_before x.v x.image i).pc).icode = w.icode ∙ g.icode in
    let fn : (work_at x.v x.image i).ifun ≡ (reading x.v (state_before x.v x.image i).mem (state_before x.v x.image i).pc).ifun = w.ifun ∙ g.ifun in
    record {
      error = (reading x.v (state_before x.v x.image i).mem (state_before x.v x.image i).pc).error;
      stat_is = ap stat_number w.fetch_stat ∙ rw (g.error, w.icode) refl;
      outside = λ e. (ic ∙ (r.outside e).0, fn ∙ (r.outside e).1);
      known = elim r.known [ inl lt ↦ inl (rw ic lt) | inr e ↦ inr (ic ∙ e.0) ];
      top = rw (ic, fn) r.ifun;
    }

-- ---- registers
fits_by : (y : RegisterColumn) (n r_a r_b : ℕ) → n ≡ register_number y r_a r_b → (is_dash y ≡ false → register_number y r_a r_b < 15) → register_allowed y n ≡ true
fits_by Dash n r_a r_b e h = rw e refl
fits_by FieldA n r_a r_b e h = rw e (lt-ltb _ _ (h refl))
fits_by FieldB n r_a r_b e h = rw e (lt-ltb _ _ (h refl))
fits_by Stack n r_a r_b e h = rw e refl

tie_by : (y z : RegisterColumn) (a b r_a r_b : ℕ) → a ≡ register_number y r_a r_b → b ≡ register_number z r_a r_b → not (is_field_b y && is_field_b z) || a == b ≡ true
tie_by FieldB FieldB a b r_a r_b e g = eq-eqb _ _ (e ∙ sym g)
tie_by FieldB Dash a b r_a r_b e g = refl
tie_by FieldB FieldA a b r_a r_b e g = refl
tie_by FieldB Stack a b r_a r_b e g = refl
tie_by Dash z a b r_a r_b e g = refl
tie_by FieldA z a b r_a r_b e g = refl
tie_by Stack z a b r_a r_b e g = refl

-- ---- bits and conditions
bit_by : (may q : Bool) → (q ≡ true → may ≡ true) → zero_unless may (bit q) ≡ true
bit_by true q h = refl
bit_by false true h = absurd (false≢true (h refl))
bit_by false false h = refl

-- the hidden bits of a stage
module _ (x : RunContext) (k : StageKind) (i stat icode ifun : ℕ) (s : is_good k ≡ true → stat ≡ stat_number (work_at x.v x.image i).fetch_stat)
    (c : is_good k ≡ true → icode ≡ (work_at x.v x.image i).icode) (n : is_good k ≡ true → ifun ≡ (work_at x.v x.image i).ifun) where
  sound_by : is_good k ≡ true → is_aok (work_at x.v x.image i).fetch_stat ≡ true → is_good_aok (kind_number k) stat ≡ true
  sound_by g e = and_from (kind_number k == 1) (stat == 1) (good_number k ∙ g) (ap (λ z. z == 1) (s g) ∙ fetch_one x.v x.image i ∙ e)

  pub stops_fit : zero_unless (is_good_aok (kind_number k) stat && accesses (row x.v icode).memory) (hidden k (fault_of x i)) ≡ true
  stops_fit = bit_by (is_good_aok (kind_number k) stat && accesses (row x.v icode).memory) (is_good k && fault_of x i) (λ h.
      let q = and_parts (is_good k) (fault_of x i) h in
      let a = access-from_fault_at x.v x.image i q.1 in
      and_from (is_good_aok (kind_number k) stat) (accesses (row x.v icode).memory) (sound_by q.0 (aok-from_access x.v x.image i a)) (ap (λ z. accesses (row x.v z).memory) (c q.0) ∙ a))

  pub back_fits : zero_unless (is_good_aok (kind_number k) stat && next_is_branch (row x.v icode).next) (hidden k (back_of x i)) ≡ true
  back_fits = bit_by (is_good_aok (kind_number k) stat && next_is_branch (row x.v icode).next) (is_good k && back_of x i) (λ h.
      let q = and_parts (is_good k) (back_of x i) h in
      let a = (and_parts (next_is_branch (instruction_row x.v x.image i).next) (signed_below (work_at x.v x.image i).val_c (work_at x.v x.image i).val_p) q.1).0 in
      and_from (is_good_aok (kind_number k) stat) (next_is_branch (row x.v icode).next) (sound_by q.0 (aok-from_branch x.v x.image i a)) (ap (λ z. next_is_branch (row x.v z).next) (c q.0) ∙ a))

  taken_false : (is_good_aok (kind_number k) stat && next_is_branch (row x.v icode).next) ≡ false → is_good k && taken_of x i ≡ false
  taken_false f = by (is_good k) (next_is_branch (instruction_row x.v x.image i).next) refl refl
    where
      by : (g z : Bool) → is_good k ≡ g → next_is_branch (instruction_row x.v x.image i).next ≡ z → is_good k && taken_of x i ≡ false
      by false z hg hz = rw hg refl
      by true false hg hz = rw (hg, hz) refl
      by true true hg hz =
          absurd (false≢true (sym f
          ∙ and_from (is_good_aok (kind_number k) stat) (next_is_branch (row x.v icode).next) (sound_by hg (aok-from_branch x.v x.image i hz)) (ap (λ z. next_is_branch (row x.v z).next) (c hg) ∙ hz)))

  pub taken_fits : cnd_allowed_where (is_good_aok (kind_number k) stat && next_is_branch (row x.v icode).next) ifun (hidden k (taken_of x i)) ≡ true
  taken_fits = by (is_good_aok (kind_number k) stat && next_is_branch (row x.v icode).next) refl
    where
      by : (b : Bool) → (is_good_aok (kind_number k) stat && next_is_branch (row x.v icode).next) ≡ b →
          cnd_allowed_where (is_good_aok (kind_number k) stat && next_is_branch (row x.v icode).next) ifun (hidden k (taken_of x i)) ≡ true
      by true e =
          let h = and_parts (is_good_aok (kind_number k) stat) (next_is_branch (row x.v icode).next) e in
          let g : is_good k ≡ true = sym (good_number k) ∙ (and_parts (kind_number k == 1) (stat == 1) h.0).0 in
          let br : next_is_branch (instruction_row x.v x.image i).next ≡ true = ap (λ z. next_is_branch (row x.v z).next) (sym (c g)) ∙ h.1 in
          rw (e, g, br, n g, (follows x.v x.image i).cnd) (cnd_by (work_at x.v x.image i).ifun (state_before x.v x.image i).flags)
      by false e = rw (e, taken_false e) refl

-- ---- what a reading gives
pub record Known (v : Variant) (stat icode ifun r_a r_b : ℕ) : Type 0 where
  pub coded : Coded v stat icode ifun
  pub le_a : r_a ≤ 15
  pub le_b : r_b ≤ 15
  pub used_a : (row v icode).uses_a ≡ true → r_a < 15
  pub used_b : (row v icode).uses_b ≡ true → r_b < 15
  pub none_a : (row v icode).has_byte ≡ false → r_a ≡ 15
  pub none_b : (row v icode).has_byte ≡ false → r_b ≡ 15

pub known_of : (x : RunContext) (i : ℕ) → IsImage x.image →
    Known x.v (stat_number (work_at x.v x.image i).fetch_stat) (work_at x.v x.image i).icode (work_at x.v x.image i).ifun (work_at x.v x.image i).r_a (work_at x.v x.image i).r_b
known_of x i image =
    let w = fetches x.v x.image i in
    let h = image_before x.v x.image i image in
    let s = IsFields-fetched x.v (state_before x.v x.image i).mem (state_before x.v x.image i).pc h in
    let m = FitsFields-fetched x.v (state_before x.v x.image i).mem (state_before x.v x.image i).pc h in
    record {
      coded = coded_of x i;
      le_a = rw w.r_a m.r_a;
      le_b = rw w.r_b m.r_b;
      used_a = λ u. rw w.r_a (s.used_a (rw (← w.icode) u));
      used_b = λ u. rw w.r_b (s.used_b (rw (← w.icode) u));
      none_a = λ u. w.r_a ∙ s.none_a (rw (← w.icode) u);
      none_b = λ u. w.r_b ∙ s.none_b (rw (← w.icode) u);
    }

pub known_wrong : (v : Variant) (d : StageD) → AllowedD v d → Known v d.stat d.icode d.ifun d.r_a d.r_b
known_wrong v d h = record {
  coded = record { error = h.error; stat_is = h.stat; outside = h.outside; known = h.known; top = h.ifun };
  le_a = h.r_a;
  le_b = h.r_b;
  used_a = h.used_a;
  used_b = h.used_b;
  none_a = h.none_a;
  none_b = h.none_b;
}

-- a column's number fits
column_fits : (v : Variant) (stat icode ifun r_a r_b n : ℕ) (y : RegisterColumn) → Known v stat icode ifun r_a r_b → is_used (row v icode) y ≡ true → n ≡ register_number y r_a r_b → register_allowed y n ≡ true
column_fits v stat icode ifun r_a r_b n y k m e = fits_by y n r_a r_b e (λ d. number_lt y (row v icode).uses_a (row v icode).uses_b r_a r_b m k.used_a k.used_b d)

-- ---- D
half_a : (v : Variant) (stat icode ifun r_a r_b : ℕ) → Known v stat icode ifun r_a r_b → register_field_allowed (row v icode).has_byte (row v icode).uses_a r_a ≡ true
half_a v stat icode ifun r_a r_b k = half_by (row v icode).has_byte (row v icode).uses_a r_a k.used_a k.none_a

half_b : (v : Variant) (stat icode ifun r_a r_b : ℕ) → Known v stat icode ifun r_a r_b → register_field_allowed (row v icode).has_byte (row v icode).uses_b r_b ≡ true
half_b v stat icode ifun r_a r_b k = half_by (row v icode).has_byte (row v icode).uses_b r_b k.used_b k.none_b

-- ---- E, from a D line
registers_are : (v : Variant) (stat icode ifun r_a r_b : ℕ) (l : ExecuteLine) → Known v stat icode ifun r_a r_b → l.dst_e ≡ register_number (row v icode).dst_e r_a r_b →
    l.dst_m ≡ register_number (row v icode).dst_m r_a r_b → l.src_a ≡ register_number (row v icode).src_a r_a r_b → l.src_b ≡ register_number (row v icode).src_b r_a r_b →
    registers_allowed (row v icode) l ≡ true
registers_are v stat icode ifun r_a r_b l k de dm sa sb =
    let g = fields_agree v icode in
    all5 (register_allowed (row v icode).dst_e l.dst_e) (register_allowed (row v icode).dst_m l.dst_m) (register_allowed (row v icode).src_a l.src_a) (register_allowed (row v icode).src_b l.src_b)
    (shares_register (row v icode) l.src_b l.dst_e)
    (column_fits v stat icode ifun r_a r_b l.dst_e (row v icode).dst_e k g.dst_e de)
    (column_fits v stat icode ifun r_a r_b l.dst_m (row v icode).dst_m k g.dst_m dm)
    (column_fits v stat icode ifun r_a r_b l.src_a (row v icode).src_a k g.src_a sa)
    (column_fits v stat icode ifun r_a r_b l.src_b (row v icode).src_b k g.src_b sb)
    (tie_by (row v icode).src_b (row v icode).dst_e l.src_b l.dst_e r_a r_b sb de)

-- ---- M and W
late_good : (r : Row) (cnd : Bool) (n raw : ℕ) → n ≡ destination_e r.conditional cnd raw → register_allowed r.dst_e raw ≡ true → destination_allowed r (bit cnd) n ≡ true
late_good r cnd n raw e h = by r.conditional cnd refl refl
  where
    by : (b d : Bool) → r.conditional ≡ b → cnd ≡ d → destination_allowed r (bit cnd) n ≡ true
    by true true hb hd = rw (hb, hd) (ap (register_allowed r.dst_e) (e ∙ rw (hb, hd) refl) ∙ h)
    by true false hb hd = rw (hb, hd) (eq-eqb n 15 (e ∙ rw (hb, hd) refl))
    by false d hb hd = rw hb (ap (register_allowed r.dst_e) (e ∙ rw hb refl) ∙ h)

none_or : (conditional cnd : Bool) (y : RegisterColumn) (n raw : ℕ) → n ≡ destination_e conditional cnd raw → register_allowed y raw ≡ true → (conditional && n == 15) || register_allowed y n ≡ true
none_or true true y n raw e h = or_right (n == 15) _ (rw e h)
none_or true false y n raw e h = or_left (n == 15) _ (eq-eqb n 15 e)
none_or false cnd y n raw e h = rw e h

raw_fits : (x : RunContext) (image : IsImage x.image) (j : ℕ) →
    (register_allowed (instruction_row x.v x.image j).dst_e (work_at x.v x.image j).raw_dst_e ≡ true) × (register_allowed (instruction_row x.v x.image j).dst_m (work_at x.v x.image j).dst_m ≡ true)
raw_fits x image j =
    let k = known_of x j image in
    let g = fields_agree x.v (work_at x.v x.image j).icode in (
      column_fits x.v _ (work_at x.v x.image j).icode (work_at x.v x.image j).ifun (work_at x.v x.image j).r_a (work_at x.v x.image j).r_b (work_at x.v x.image j).raw_dst_e (instruction_row x.v x.image j).dst_e k g.dst_e (follows x.v x.image j).raw_dst_e,
      column_fits x.v _ (work_at x.v x.image j).icode (work_at x.v x.image j).ifun (work_at x.v x.image j).r_a (work_at x.v x.image j).r_b (work_at x.v x.image j).dst_m (instruction_row x.v x.image j).dst_m k g.dst_m (follows x.v x.image j).dst_m,
    )

end_good : (many icode : ℕ) (r : Row) (fault error a d : Bool) → (error ≡ true → icode ≡ 1) → (icode == 15) ≡ a → (icode == 0) ≡ d → (a ≡ false → icode < many) →
    (fault ≡ true → accesses r.memory ≡ true) → stat_allowed many (accesses r.memory) (stat_number (cond fault Adr (cond error Adr (cond a Ins (cond d Hlt Aok))))) icode ≡ true
end_good many icode r true error a d o ha hd k fa = or_left (icode == 1 || accesses r.memory) false (or_right (icode == 1) (accesses r.memory) (fa refl))
end_good many icode r false true a d o ha hd k fa = rw (eq-eqb icode 1 (o refl)) refl
end_good many icode r false false true d o ha hd k fa = rw ha refl
end_good many icode r false false false true o ha hd k fa = rw hd refl
end_good many icode r false false false false o ha hd k fa = rw (lt-ltb icode many (k refl), above_zero icode hd) refl

end_of : (x : RunContext) (j : ℕ) → stat_allowed (length (rows x.v)) (accesses (instruction_row x.v x.image j).memory) (stat_number (work_at x.v x.image j).stat) (work_at x.v x.image j).icode ≡ true
end_of x j =
    let w = fetches x.v x.image j in
    let g = fetched x.v (state_before x.v x.image j).mem (state_before x.v x.image j).pc in
    let q = reads x.v (state_before x.v x.image j).mem (state_before x.v x.image j).pc in
    let k = coded_of x j in
    let r = IsReading-reading x.v (state_before x.v x.image j).mem (state_before x.v x.image j).pc in
    rw ((follows x.v x.image j).stat, w.fetch_stat, ← w.icode)
    (end_good (length (rows x.v)) (work_at x.v x.image j).icode (instruction_row x.v x.image j) (work_at x.v x.image j).fault g.error ((work_at x.v x.image j).icode == 15) ((work_at x.v x.image j).icode == 0)
    (λ e. w.icode ∙ q.icode ∙ (r.outside (sym q.error ∙ e)).0) refl refl (known_lt _ _ k.known) (access-from_fault_at x.v x.image j))

-- ---- the five lines
stage_good : (kinds kind : ℕ) (bubble fits : Bool) → (kind == 0) ≡ false → nat_lt kind kinds ≡ true → fits ≡ true → stage_allowed kinds kind bubble fits ≡ true
stage_good kinds kind bubble fits a b h = rw (a, b, h) refl

module _ (x : RunContext) (t : ℕ) (c : Schedule) (p : PipeState) (f : ℕ → ℕ) (rs : List Rec) (image : IsImage x.image) (i : CouplingInvariant x t c p rs) (b : PipeHardware x.v p f) where
  abbrev C : Fields
  C = fields_at x c p f (f_line x c f)

  d_line_fits : Known x.v p.d.stat p.d.icode p.d.ifun p.d.r_a p.d.r_b → decode_row_allowed (length (rows x.v)) (fields_at x c p f (f_line x c f)).d.icode (row x.v (fields_at x c p f (f_line x c f)).d.icode) (fields_at x c p f (f_line x c f)).d ≡ true
  unfolding fields_at decode_row_allowed
  d_line_fits k =
      let s = λ (g : is_good c.d ≡ true). (i.good_d g).stat in
      let o = λ (g : is_good c.d ≡ true). (i.good_d g).icode in
      let n = λ (g : is_good c.d ≡ true). (i.good_d g).ifun in
      all6 _ _ _ _ _ _ (code_is x.v p.d.stat p.d.icode p.d.ifun k.coded) (half_a x.v p.d.stat p.d.icode p.d.ifun p.d.r_a p.d.r_b k) (half_b x.v p.d.stat p.d.icode p.d.ifun p.d.r_a p.d.r_b k)
      (taken_fits x c.d (in_d c) p.d.stat p.d.icode p.d.ifun s o n) (stops_fit x c.d (in_d c) p.d.stat p.d.icode p.d.ifun s o n) (back_fits x c.d (in_d c) p.d.stat p.d.icode p.d.ifun s o n)

  d_by : (k : StageKind) → c.d ≡ k → decode_allowed x.v (fields_at x c p f (f_line x c f)).d ≡ true
  unfolding fields_at
  d_by Bubbled e = let h = i.empty_d e in rw (e, h.stat, h.icode, h.ifun, h.r_a, h.r_b) refl
  d_by Wrong e =
      stage_good 3 (kind_number c.d) _ _ (ap (λ k. kind_number k == 0) e) (ap (λ k. nat_lt (kind_number k) 3) e) (d_line_fits (known_wrong x.v p.d (i.wrong_d (ap is_wrong e))))
  d_by Good e =
      let h = i.good_d (ap is_good e) in
      let k : Known x.v p.d.stat p.d.icode p.d.ifun p.d.r_a p.d.r_b = rw (h.stat, h.icode, h.ifun, h.r_a, h.r_b) (known_of x (in_d c) image) in
      stage_good 3 (kind_number c.d) _ _ (ap (λ k. kind_number k == 0) e) (ap (λ k. nat_lt (kind_number k) 3) e) (d_line_fits k)

  e_line_fits : (from : StageD) → Known x.v p.e.stat p.e.icode p.e.ifun from.r_a from.r_b → p.e.dst_e ≡ register_number (row x.v p.e.icode).dst_e from.r_a from.r_b →
      p.e.dst_m ≡ register_number (row x.v p.e.icode).dst_m from.r_a from.r_b → p.e.src_a ≡ register_number (row x.v p.e.icode).src_a from.r_a from.r_b →
      p.e.src_b ≡ register_number (row x.v p.e.icode).src_b from.r_a from.r_b →
      execute_row_allowed (length (rows x.v)) (fields_at x c p f (f_line x c f)).e.icode (row x.v (fields_at x c p f (f_line x c f)).e.icode) (fields_at x c p f (f_line x c f)).e ≡ true
  unfolding fields_at execute_row_allowed
  e_line_fits from k de dm sa sb =
      let s = λ (g : is_good c.e ≡ true). (i.good_e g).stat in
      let o = λ (g : is_good c.e ≡ true). (i.good_e g).icode in
      let n = λ (g : is_good c.e ≡ true). (i.good_e g).ifun in
      let met : cnd_allowed p.e.ifun (f name.e_Cnd) ≡ true = rw b.e_Cnd (cnd_by p.e.ifun p.flags) in
      all5 _ _ _ _ _ (code_is x.v p.e.stat p.e.icode p.e.ifun k.coded) (registers_are x.v p.e.stat p.e.icode p.e.ifun from.r_a from.r_b (fields_at x c p f (f_line x c f)).e k de dm sa sb) met
      (stops_fit x c.e (in_e c) p.e.stat p.e.icode p.e.ifun s o n) (back_fits x c.e (in_e c) p.e.stat p.e.icode p.e.ifun s o n)

  bubble_cnd : p.e.ifun ≡ 0 → f name.e_Cnd ≡ 1
  unfolding condition
  bubble_cnd e = b.e_Cnd ∙ rw e refl

  e_by : (k : StageKind) → c.e ≡ k → execute_allowed x.v (fields_at x c p f (f_line x c f)).e ≡ true
  unfolding fields_at
  e_by Bubbled e = let h = i.empty_e e in rw (e, bubble_cnd h.ifun, h.stat, h.icode, h.ifun, h.dst_e, h.dst_m, h.src_a, h.src_b) refl
  e_by Wrong e =
      let h = i.wrong_e (ap is_wrong e) in
      let k : Known x.v p.e.stat p.e.icode p.e.ifun h.from.r_a h.from.r_b = rw (h.stat, h.icode, h.ifun) (known_wrong x.v h.from h.allowed) in
      stage_good 3 (kind_number c.e) _ _ (ap (λ k. kind_number k == 0) e) (ap (λ k. nat_lt (kind_number k) 3) e)
      (e_line_fits h.from k (rw h.icode h.dst_e) (rw h.icode h.dst_m) (rw h.icode h.src_a) (rw h.icode h.src_b))
  e_by Good e =
      let h = i.good_e (ap is_good e) in
      let w = follows x.v x.image (in_e c) in
      let k : Known x.v p.e.stat p.e.icode p.e.ifun (work_at x.v x.image (in_e c)).r_a (work_at x.v x.image (in_e c)).r_b = rw (h.stat, h.icode, h.ifun) (known_of x (in_e c) image) in
      stage_good 3 (kind_number c.e) _ _ (ap (λ k. kind_number k == 0) e) (ap (λ k. nat_lt (kind_number k) 3) e)
      (e_line_fits (record { live = true; trail = p.d.trail; stat = 0; icode = 0; ifun = 0; r_a = (work_at x.v x.image (in_e c)).r_a; r_b = (work_at x.v x.image (in_e c)).r_b; val_c = 0; val_p = 0 })
      k (rw h.icode (h.dst_e ∙ w.raw_dst_e)) (rw h.icode (h.dst_m ∙ w.dst_m)) (rw h.icode (h.src_a ∙ w.src_a)) (rw h.icode (h.src_b ∙ w.src_b)))

  m_line_fits : is_good c.m ≡ true → memory_row_allowed (length (rows x.v)) (fields_at x c p f (f_line x c f)).m.icode (row x.v (fields_at x c p f (f_line x c f)).m.icode) (fields_at x c p f (f_line x c f)).m ≡ true
  unfolding fields_at memory_row_allowed
  m_line_fits e =
      let h = i.good_m e in
      let s = λ (g : is_good c.m ≡ true). (i.good_m g).stat in
      let o = λ (g : is_good c.m ≡ true). (i.good_m g).icode in
      let n = λ (g : is_good c.m ≡ true). (i.good_m g).ifun in
      let w = work_at x.v x.image (in_m c) in
      let raw = raw_fits x image (in_m c) in
      let codes : codes_allowed (length (rows x.v)) (row x.v p.m.icode) p.m.stat p.m.icode p.m.ifun ≡ true = rw (h.stat, h.icode, h.ifun) (code_is x.v _ _ _ (coded_of x (in_m c))) in
      let late : destination_allowed (row x.v p.m.icode) p.m.cnd p.m.dst_e ≡ true = rw (h.icode, h.cnd, h.dst_e) (late_good (instruction_row x.v x.image (in_m c)) w.cnd w.dst_e w.raw_dst_e (follows x.v x.image (in_m c)).dst_e raw.0) in
      let dm : register_allowed (row x.v p.m.icode).dst_m p.m.dst_m ≡ true = rw (h.icode, h.dst_m) raw.1 in
      let met : cnd_allowed p.m.ifun p.m.cnd ≡ true = rw (h.ifun, h.cnd, (follows x.v x.image (in_m c)).cnd) (cnd_by w.ifun (state_before x.v x.image (in_m c)).flags) in
      all6 _ _ _ _ _ _ codes late dm met (stops_fit x c.m (in_m c) p.m.stat p.m.icode p.m.ifun s o n) (back_fits x c.m (in_m c) p.m.stat p.m.icode p.m.ifun s o n)

  m_by : (k : StageKind) → c.m ≡ k → memory_allowed x.v (fields_at x c p f (f_line x c f)).m ≡ true
  unfolding fields_at
  m_by Bubbled e = let h = i.empty_m e in rw (e, h.stat, h.icode, h.ifun, h.dst_e, h.dst_m) refl
  m_by Wrong e = absurd (false≢true (sym i.right_m ∙ ap is_wrong e))
  m_by Good e = stage_good 2 (kind_number c.m) _ _ (ap (λ k. kind_number k == 0) e) (ap (λ k. nat_lt (kind_number k) 2) e) (m_line_fits (ap is_good e))

  w_line_fits : is_good c.w ≡ true → write_row_allowed (length (rows x.v)) (fields_at x c p f (f_line x c f)).w.icode (row x.v (fields_at x c p f (f_line x c f)).w.icode) (fields_at x c p f (f_line x c f)).w ≡ true
  unfolding fields_at write_row_allowed
  w_line_fits e =
      let h = i.good_w e in
      let w = work_at x.v x.image (in_w c) in
      let r = instruction_row x.v x.image (in_w c) in
      let raw = raw_fits x image (in_w c) in
      let codes : stat_allowed (length (rows x.v)) (accesses (row x.v p.w.icode).memory) p.w.stat p.w.icode ≡ true = rw (h.stat, h.icode) (end_of x (in_w c)) in
      let late : ((row x.v p.w.icode).conditional && p.w.dst_e == 15) || register_allowed (row x.v p.w.icode).dst_e p.w.dst_e ≡ true =
      rw (h.icode, h.dst_e) (none_or r.conditional w.cnd r.dst_e w.dst_e w.raw_dst_e (follows x.v x.image (in_w c)).dst_e raw.0) in
      let dm : register_allowed (row x.v p.w.icode).dst_m p.w.dst_m ≡ true = rw (h.icode, h.dst_m) raw.1 in
      all3 _ _ _ codes late dm

  w_by : (k : StageKind) → c.w ≡ k → write_allowed x.v (fields_at x c p f (f_line x c f)).w ≡ true
  unfolding fields_at
  w_by Bubbled e = let h = i.empty_w e in rw (e, h.stat, h.icode, h.dst_e, h.dst_m) refl
  w_by Wrong e = absurd (false≢true (sym i.right_w ∙ ap is_wrong e))
  w_by Good e = stage_good 2 (kind_number c.w) _ _ (ap (λ k. kind_number k == 0) e) (ap (λ k. nat_lt (kind_number k) 2) e) (w_line_fits (ap is_good e))

  -- ---- F
  f_code : (e : Bool) → set (f name.imem_error) ≡ e → cond (set (f name.imem_error)) (f name.imem_icode == 1 && f name.imem_ifun == 0) (icode_allowed (length (rows x.v)) (f name.imem_icode)) ≡ true
  f_code true e =
      let r = IsReading-reading x.v p.mem (f name.f_pc) in
      let err : (reading x.v p.mem (f name.f_pc)).error ≡ true = sym (set_bit _) ∙ sym (ap set b.imem_error) ∙ e in
      rw (e, b.imem_icode, b.imem_ifun, (r.outside err).0, (r.outside err).1) refl
  f_code false e =
      let r = IsReading-reading x.v p.mem (f name.f_pc) in
      rw (e, b.imem_icode) (elim r.known [
        | inl lt ↦ rw (lt-ltb _ _ lt) refl
        | inr q ↦ rw q.0 (or_right (nat_lt 15 (length (rows x.v))) true refl)
      ])

  f_reading : reading_allowed (length (rows x.v)) (row x.v (f name.imem_icode)) (f name.imem_error) (f name.imem_icode) (f name.imem_ifun) ≡ true
  f_reading =
      let r = IsReading-reading x.v p.mem (f name.f_pc) in
      let top : nat_le (f name.imem_ifun) (row x.v (f name.imem_icode)).ifun_top ≡ true = rw (b.imem_icode, b.imem_ifun) (le-leb _ _ r.ifun) in
      and_from (cond (set (f name.imem_error)) (f name.imem_icode == 1 && f name.imem_ifun == 0) (icode_allowed (length (rows x.v)) (f name.imem_icode)))
      (nat_le (f name.imem_ifun) (row x.v (f name.imem_icode)).ifun_top) (f_code (set (f name.imem_error)) refl) top

  f_taken : (z : Bool) → next_is_branch (row x.v (f name.imem_icode)).next ≡ z →
      cnd_allowed_where (next_is_branch (row x.v (f name.imem_icode)).next) (f name.imem_ifun) (bit (next_is_branch (row x.v (f name.imem_icode)).next && condition (f name.imem_ifun) (state_before x.v x.image (in_f c)).flags)) ≡ true
  f_taken true e = rw e (cnd_by (f name.imem_ifun) (state_before x.v x.image (in_f c)).flags)
  f_taken false e = rw e refl

  f_is : fetch_allowed x.v (fields_at x c p f (f_line x c f)).f ≡ true
  unfolding fields_at f_line fetch_row_allowed
  f_is =
      all4 _ _ _ _ f_reading (f_taken (next_is_branch (row x.v (f name.imem_icode)).next) refl)
      (bit_by (accesses (row x.v (f name.imem_icode)).memory) (accesses (row x.v (f name.imem_icode)).memory && (work_at x.v x.image (in_f c)).fault) (λ h. (and_parts (accesses (row x.v (f name.imem_icode)).memory) _ h).0))
      (bit_by (next_is_branch (row x.v (f name.imem_icode)).next) (next_is_branch (row x.v (f name.imem_icode)).next && signed_below (f name.f_valC) (f name.f_valP)) (λ h. (and_parts (next_is_branch (row x.v (f name.imem_icode)).next) _ h).0))

  pub all_fit : allowed x.v (fields_at x c p f (f_line x c f)) ≡ true
  unfolding allowed
  all_fit =
      all5 (fetch_allowed x.v (fields_at x c p f (f_line x c f)).f) (decode_allowed x.v (fields_at x c p f (f_line x c f)).d) (execute_allowed x.v (fields_at x c p f (f_line x c f)).e)
      (memory_allowed x.v (fields_at x c p f (f_line x c f)).m) (write_allowed x.v (fields_at x c p f (f_line x c f)).w)
      f_is (d_by c.d refl) (e_by c.e refl) (m_by c.m refl) (w_by c.w refl)
