-- The fields of a real cycle's valuation can be spelt by their bits.
use Rattle.std.proofs.Common.{◌≡◌, ℕ, ◌<◌, ◌≤◌, ◌⊎◌, inl, inr, Bool, true, false, List, length, refl, sym, ap, ◌∙◌, arith}
use Rattle.std.proofs.lemmas.Bool.{false≢true}
use Rattle.y86_base.specs.Stat.{stat_number}
use Rattle.y86_base.specs.declared.parts.Stat.TheVariants.{Adr, Aok, Bad, Bub, Hlt, Ins, Pip}
use Rattle.y86_base.specs.declared.parts.Stat.{Stat}
use Rattle.y86_base.specs.declared.parts.Variant.TheVariants.{Base, Full}
use Rattle.y86_base.specs.declared.parts.Variant.{Variant}
use Rattle.y86_isa.specs.Blocks.{destination_e, reading, register_number}
use Rattle.y86_isa.specs.Run.{IsImage}
use Rattle.y86_isa.specs.Table.{rows}
use Rattle.y86_isa.specs.declared.columns.RegisterColumn.TheVariants.{Dash, FieldA, FieldB, Stack}
use Rattle.y86_isa.specs.declared.columns.RegisterColumn.{RegisterColumn}
use Rattle.y86_isa.specs.declared.machine.Rec.{Rec}
use Rattle.y86_isa.proofs.Rows.{ifun_top-le}
use Rattle.y86_isa.proofs.WhatIsRead.{IsReading-reading}
use Rattle.yis_run_laws.specs.Instructions.{work_at}
use Rattle.yis_run_laws.proofs.Walk.{follows}
use Rattle.dp_signals.specs.PipeNames as name
use Rattle.dp_signals.specs.PipeRows.{PipeHardware}
use Rattle.dp_signals.specs.declared.pipe_state.PipeState.{PipeState}
use Rattle.dp_signals.proofs.Bits.{bit_lt}
use Rattle.pipe_fields.specs.Layout.{InRange}
use Rattle.pipe_refinement.specs.Invariant.{RunContext, CouplingInvariant}
use Rattle.pipe_refinement.specs.Kinds.{Schedule, Bubbled, Good, StageKind, Wrong, in_d, in_e, in_m, in_w, is_good, is_wrong}
use Rattle.pipe_theorem.proofs.Fits.{Known, known_of, known_wrong}
use Rattle.pipe_theorem.proofs.RealCycle.{f_line, fields_at, kind_number}

number_lt : (s : Stat) → stat_number s < 8
number_lt Bub = omega arith
number_lt Aok = omega arith
number_lt Hlt = omega arith
number_lt Adr = omega arith
number_lt Ins = omega arith
number_lt Pip = omega arith
number_lt Bad = omega arith

few_rows : (v : Variant) → length (rows v) ≤ 16
few_rows Base = omega arith
few_rows Full = omega arith

icode_lt : (v : Variant) (icode : ℕ) → (icode < length (rows v)) ⊎ (icode ≡ 15) → icode < 16
icode_lt v icode (inl h) = omega (arith, few_rows v)
icode_lt v icode (inr h) = omega arith

register_lt : (y : RegisterColumn) (r_a r_b : ℕ) → r_a ≤ 15 → r_b ≤ 15 → register_number y r_a r_b < 16
register_lt Dash r_a r_b a b = omega arith
register_lt FieldA r_a r_b a b = omega arith
register_lt FieldB r_a r_b a b = omega arith
register_lt Stack r_a r_b a b = omega arith

late_lt : (conditional cnd : Bool) (n : ℕ) → n < 16 → destination_e conditional cnd n < 16
late_lt true true n h = h
late_lt true false n h = omega arith
late_lt false cnd n h = h

kind_lt : (k : StageKind) → kind_number k < 4
kind_lt Bubbled = omega arith
kind_lt Wrong = omega arith
kind_lt Good = omega arith

sound_lt : (k : StageKind) → is_wrong k ≡ false → kind_number k < 2
sound_lt Bubbled h = omega arith
sound_lt Wrong h = cc
sound_lt Good h = omega arith

record Codes (stat icode ifun : ℕ) : Type 0 where
  stat_lt : stat < 8
  code_lt : icode < 16
  fun_lt : ifun < 16

codes_of : (v : Variant) (stat icode ifun r_a r_b : ℕ) → Known v stat icode ifun r_a r_b → Codes stat icode ifun
codes_of v stat icode ifun r_a r_b k =
    let top = ifun_top-le v icode in
    let fits = k.coded.top in
    record { stat_lt = rw k.coded.stat_is (number_lt _); code_lt = icode_lt v icode k.coded.known; fun_lt = omega arith }

bubble_codes : (stat icode ifun : ℕ) → stat ≡ 0 → icode ≡ 1 → ifun ≡ 0 → Codes stat icode ifun
bubble_codes stat icode ifun a b c = record { stat_lt = omega arith; code_lt = omega arith; fun_lt = omega arith }

module _ (x : RunContext) (t : ℕ) (c : Schedule) (p : PipeState) (f : ℕ → ℕ) (rs : List Rec) (image : IsImage x.image) (i : CouplingInvariant x t c p rs) (b : PipeHardware x.v p f) where
  le_of : (n : ℕ) → n ≡ 15 → n ≤ 15
  le_of n e = omega arith

  d_codes : (k : StageKind) → c.d ≡ k → Codes p.d.stat p.d.icode p.d.ifun × (p.d.r_a ≤ 15) × (p.d.r_b ≤ 15)
  d_codes Bubbled e = let h = i.empty_d e in (bubble_codes _ _ _ h.stat h.icode h.ifun, le_of _ h.r_a, le_of _ h.r_b)
  d_codes Wrong e = let k = known_wrong x.v p.d (i.wrong_d (ap is_wrong e)) in (codes_of x.v _ _ _ _ _ k, k.le_a, k.le_b)
  d_codes Good e =
      let h = i.good_d (ap is_good e) in
      let k = known_of x (in_d c) image in
      rw (h.stat, h.icode, h.ifun, h.r_a, h.r_b) (codes_of x.v _ _ _ _ _ k, k.le_a, k.le_b)

  le_lt : {n : ℕ} → n ≤ 15 → n < 16
  le_lt h = omega arith

  lt_of : (n : ℕ) → n ≡ 15 → n < 16
  lt_of n e = omega arith

  named_lt : (n r_a r_b : ℕ) (y : RegisterColumn) → n ≡ register_number y r_a r_b → r_a ≤ 15 → r_b ≤ 15 → n < 16
  named_lt n r_a r_b y e u w = rw e (register_lt y r_a r_b u w)

  e_codes : (k : StageKind) → c.e ≡ k → Codes p.e.stat p.e.icode p.e.ifun × (p.e.dst_e < 16) × (p.e.dst_m < 16) × (p.e.src_a < 16) × (p.e.src_b < 16)
  e_codes Bubbled e = let h = i.empty_e e in (bubble_codes _ _ _ h.stat h.icode h.ifun, lt_of _ h.dst_e, lt_of _ h.dst_m, lt_of _ h.src_a, lt_of _ h.src_b)
  e_codes Wrong e =
      let h = i.wrong_e (ap is_wrong e) in
      let k = known_wrong x.v h.from h.allowed in
      let q : Codes p.e.stat p.e.icode p.e.ifun = rw (h.stat, h.icode, h.ifun) (codes_of x.v _ _ _ _ _ k) in
      (q, named_lt _ _ _ _ h.dst_e k.le_a k.le_b, named_lt _ _ _ _ h.dst_m k.le_a k.le_b, named_lt _ _ _ _ h.src_a k.le_a k.le_b, named_lt _ _ _ _ h.src_b k.le_a k.le_b)
  e_codes Good e =
      let h = i.good_e (ap is_good e) in
      let w = follows x.v x.image (in_e c) in
      let k = known_of x (in_e c) image in
      let q : Codes p.e.stat p.e.icode p.e.ifun = rw (h.stat, h.icode, h.ifun) (codes_of x.v _ _ _ _ _ k) in (
        q,
        named_lt _ _ _ _ (h.dst_e ∙ w.raw_dst_e) k.le_a k.le_b,
        named_lt _ _ _ _ (h.dst_m ∙ w.dst_m) k.le_a k.le_b,
        named_lt _ _ _ _ (h.src_a ∙ w.src_a) k.le_a k.le_b,
        named_lt _ _ _ _ (h.src_b ∙ w.src_b) k.le_a k.le_b,
      )

  late_at : (j n : ℕ) → n ≡ (work_at x.v x.image j).dst_e → n < 16
  late_at j n e =
      let w = follows x.v x.image j in
      let k = known_of x j image in
      rw (e ∙ w.dst_e) (late_lt _ _ _ (named_lt _ _ _ _ w.raw_dst_e k.le_a k.le_b))

  m_codes : (k : StageKind) → c.m ≡ k → Codes p.m.stat p.m.icode p.m.ifun × (p.m.dst_e < 16) × (p.m.dst_m < 16) × (p.m.cnd < 2)
  m_codes Bubbled e = let h = i.empty_m e in let q = h.cnd in (bubble_codes _ _ _ h.stat h.icode h.ifun, lt_of _ h.dst_e, lt_of _ h.dst_m, omega arith)
  m_codes Wrong e = absurd (false≢true (sym i.right_m ∙ ap is_wrong e))
  m_codes Good e =
      let h = i.good_m (ap is_good e) in
      let w = follows x.v x.image (in_m c) in
      let k = known_of x (in_m c) image in
      let q : Codes p.m.stat p.m.icode p.m.ifun = rw (h.stat, h.icode, h.ifun) (codes_of x.v _ _ _ _ _ k) in
      let met : p.m.cnd < 2 = rw h.cnd (bit_lt _) in
      (q, late_at (in_m c) _ h.dst_e, named_lt _ _ _ _ (h.dst_m ∙ w.dst_m) k.le_a k.le_b, met)

  w_codes : (k : StageKind) → c.w ≡ k → (p.w.stat < 8) × (p.w.icode < 16) × (p.w.dst_e < 16) × (p.w.dst_m < 16)
  w_codes Bubbled e =
      let h = i.empty_w e in
      let q = bubble_codes p.w.stat p.w.icode 0 h.stat h.icode refl in
      (q.stat_lt, q.code_lt, lt_of _ h.dst_e, lt_of _ h.dst_m)
  w_codes Wrong e = absurd (false≢true (sym i.right_w ∙ ap is_wrong e))
  w_codes Good e =
      let h = i.good_w (ap is_good e) in
      let w = follows x.v x.image (in_w c) in
      let k = known_of x (in_w c) image in
      let st : p.w.stat < 8 = rw h.stat (number_lt _) in
      let co : p.w.icode < 16 = rw h.icode (icode_lt x.v _ k.coded.known) in
      (st, co, late_at (in_w c) _ h.dst_e, named_lt _ _ _ _ (h.dst_m ∙ w.dst_m) k.le_a k.le_b)

  reading_icode : (q : ((reading x.v p.mem (f name.f_pc)).icode < length (rows x.v)) ⊎ (((reading x.v p.mem (f name.f_pc)).icode ≡ 15) × ((reading x.v p.mem (f name.f_pc)).ifun ≡ 0))) →
      (reading x.v p.mem (f name.f_pc)).icode < 16
  reading_icode (inl h) = omega (arith, few_rows x.v)
  reading_icode (inr h) = rw h.0 (omega arith)

  pub in_range : InRange (fields_at x c p f (f_line x c f))
  unfolding fields_at f_line
  in_range =
      let r = IsReading-reading x.v p.mem (f name.f_pc) in
      let top = ifun_top-le x.v (reading x.v p.mem (f name.f_pc)).icode in
      let fun = r.ifun in
      let error_lt : f name.imem_error < 2 = rw b.imem_error (bit_lt _) in
      let icode_lt_f : f name.imem_icode < 16 = rw b.imem_icode (reading_icode r.known) in
      let ifun_lt_f : f name.imem_ifun < 16 = rw b.imem_ifun (omega arith) in
      let cnd_lt : f name.e_Cnd < 2 = rw b.e_Cnd (bit_lt _) in
      let d = d_codes c.d refl in
      let e = e_codes c.e refl in
      let m = m_codes c.m refl in
      let w = w_codes c.w refl in
      let ra = d.1 in
      let rb = d.2 in (
        kind_lt c.d,
        (
          kind_lt c.e,
          (
            sound_lt c.m i.right_m,
            (
              sound_lt c.w i.right_w,
              (
                error_lt,
                (
                  icode_lt_f,
                  (
                    ifun_lt_f,
                    (
                      bit_lt _,
                      (
                        bit_lt _,
                        (
                          bit_lt _,
                          (
                            d.0.stat_lt,
                            (
                              d.0.code_lt,
                              (
                                d.0.fun_lt,
                                (
                                  le_lt ra,
                                  (
                                    le_lt rb,
                                    (
                                      bit_lt _,
                                      (
                                        bit_lt _,
                                        (
                                          bit_lt _,
                                          (
                                            e.0.stat_lt,
                                            (
                                              e.0.code_lt,
                                              (
                                                e.0.fun_lt,
                                                (
                                                  e.1,
                                                  (
                                                    e.2,
                                                    (
                                                      e.3,
                                                      (
                                                        e.4,
                                                        (
                                                          cnd_lt,
                                                          (
                                                            bit_lt _,
                                                            (
                                                              bit_lt _,
                                                              (
                                                                m.0.stat_lt,
                                                                (
                                                                  m.0.code_lt,
                                                                  (
                                                                    m.0.fun_lt,
                                                                    (
                                                                      m.1,
                                                                      (
                                                                        m.2,
                                                                        (
                                                                          m.3,
                                                                          (
                                                                            bit_lt _,
                                                                            (
                                                                              bit_lt _,
                                                                              (w.0, (w.1, (w.2, (w.3, tt)))),
                                                                            ),
                                                                          ),
                                                                        ),
                                                                      ),
                                                                    ),
                                                                  ),
                                                                ),
                                                              ),
                                                            ),
                                                          ),
                                                        ),
                                                      ),
                                                    ),
                                                  ),
                                                ),
                                              ),
                                            ),
                                          ),
                                        ),
                                      ),
                                    ),
                                  ),
                                ),
                              ),
                            ),
                          ),
                        ),
                      ),
                    ),
                  ),
                ),
              ),
            ),
          ),
        ),
      )
