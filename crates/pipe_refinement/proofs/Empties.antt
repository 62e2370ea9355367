-- Bubbles and wrong instructions, as they move.
use Rattle.std.proofs.Common.{◌≡◌, ℕ, ◌≤◌, inl, inr, Bool, true, false, List, refl, ap, ◌∙◌, arith}
use Rattle.std.proofs.lemmas.Bool.{and_left}
use Rattle.y86_base.specs.declared.parts.Variant.TheVariants.{Base, Full}
use Rattle.y86_base.specs.declared.parts.Variant.{Variant}
use Rattle.y86_isa.specs.Blocks.{data_error, reading, register_number}
use Rattle.y86_isa.specs.Run.{IsImage}
use Rattle.y86_isa.specs.Table.{row}
use Rattle.y86_isa.proofs.WhatIsRead.{IsFields-fetched, IsReading-reading}
use Rattle.y86_isa.proofs.Words.{FitsFields-fetched}
use Rattle.y86_isa.proofs.RowColumns.{none_late}
use Rattle.dp_signals.specs.PipeCycle.{loaded_d, loaded_e, loaded_m, loaded_w}
use Rattle.dp_signals.specs.PipeNames as name
use Rattle.dp_signals.specs.PipeRows.{PipeHardware}
use Rattle.dp_signals.specs.PipeState.{bubble_d, bubble_e, bubble_m, bubble_w}
use Rattle.y86_base.specs.Words.{set}
use Rattle.dp_signals.specs.Values.{bit}
use Rattle.dp_signals.specs.declared.pipe_state.PipeState.{PipeState}
use Rattle.dp_signals.proofs.Bits.{set_bit}
use Rattle.pipe_refinement.specs.Facts.{AlwaysFacts, DecodeFacts, ExecuteFacts, FetchFacts, MemoryFacts}
use Rattle.pipe_refinement.specs.Invariant.{AllowedD, AllowedE, IsBubbleD, IsBubbleE, IsBubbleM, IsBubbleW, RunContext}
use Rattle.pipe_refinement.specs.Kinds.{Schedule, is_good, is_wrong}
use Rattle.pipe_motion.specs.declared.settings.Settings.{Settings}
use Rattle.pipe_refinement.proofs.Fetch.{loads_fetched, reads}

pub record NopRow (v : Variant) : Type 0 where
  pub src_a : (a b : ℕ) → register_number (row v 1).src_a a b ≡ 15
  pub src_b : (a b : ℕ) → register_number (row v 1).src_b a b ≡ 15
  pub dst_e : (a b : ℕ) → register_number (row v 1).dst_e a b ≡ 15
  pub dst_m : (a b : ℕ) → register_number (row v 1).dst_m a b ≡ 15

nop_row : (v : Variant) → NopRow v
unfolding row
nop_row Base = record { src_a = λ a b. refl; src_b = λ a b. refl; dst_e = λ a b. refl; dst_m = λ a b. refl }
nop_row Full = record { src_a = λ a b. refl; src_b = λ a b. refl; dst_e = λ a b. refl; dst_m = λ a b. refl }

bit_le : (b : Bool) → bit b ≤ 1
bit_le true = omega arith
bit_le false = omega arith

pub empty_d_bubble : IsBubbleD bubble_d
empty_d_bubble = record { stat = refl; icode = refl; ifun = refl; r_a = refl; r_b = refl }

pub empty_e_bubble : IsBubbleE bubble_e
empty_e_bubble = record { stat = refl; icode = refl; ifun = refl; dst_e = refl; dst_m = refl; src_a = refl; src_b = refl }

pub empty_m_bubble : IsBubbleM bubble_m
empty_m_bubble = record { stat = refl; icode = refl; ifun = refl; dst_e = refl; dst_m = refl; cnd = omega arith }

pub empty_w_bubble : IsBubbleW bubble_w
empty_w_bubble = record { stat = refl; icode = refl; dst_e = refl; dst_m = refl }

pub empty_e_loaded : (v : Variant) (s : Settings) (p : PipeState) (f : ℕ → ℕ) (c : Schedule) → DecodeFacts v s p f c → IsBubbleD p.d → IsBubbleE (loaded_e p f)
empty_e_loaded v s p f c q h =
    record {
      stat = h.stat;
      icode = h.icode;
      ifun = h.ifun;
      dst_e = q.dst_e ∙ rw h.icode ((nop_row v).dst_e _ _);
      dst_m = q.dst_m ∙ rw h.icode ((nop_row v).dst_m _ _);
      src_a = q.src_a ∙ rw h.icode ((nop_row v).src_a _ _);
      src_b = q.src_b ∙ rw h.icode ((nop_row v).src_b _ _);
    }

pub empty_m_loaded : (v : Variant) (s : Settings) (p : PipeState) (f : ℕ → ℕ) (c : Schedule) → PipeHardware v p f → ExecuteFacts v s p f c → is_wrong c.e ≡ false → IsBubbleE p.e → IsBubbleM (loaded_m p f)
empty_m_loaded v s p f c b q n h =
    record {
      stat = h.stat;
      icode = h.icode;
      ifun = h.ifun;
      dst_e = q.dst_e n ∙ none_late _ _ _ h.dst_e;
      dst_m = h.dst_m;
      cnd = rw b.e_Cnd (bit_le _);
    }

pub no_error : (mem : List ℕ) (address : ℕ) (r w : Bool) → r ≡ false → w ≡ false → data_error mem address r w ≡ false
unfolding data_error
no_error mem address r w e f = rw (e, f) refl

pub empty_w_loaded : (v : Variant) (p : PipeState) (f : ℕ → ℕ) (c : Schedule) → PipeHardware v p f → MemoryFacts v p f c → AlwaysFacts v p f c → is_good c.m ≡ false → IsBubbleM p.m → IsBubbleW (loaded_w p f)
empty_w_loaded v p f c b q a n h =
    let r : set (f name.mem_read) ≡ false = a.access.reads ∙ and_left _ _ n in
    let w : set (f name.mem_write) ≡ false = a.access.writes ∙ and_left _ _ n in
    let e : set (f name.dmem_error) ≡ false = ap set b.dmem_error ∙ set_bit _ ∙ no_error p.mem (f name.mem_addr) _ _ r w in
    record {
      stat = q.stat ∙ rw e h.stat;
      icode = h.icode;
      dst_e = h.dst_e;
      dst_m = h.dst_m;
    }

-- whatever is fetched, its fields are those of a reading
pub allowed_loaded : (x : RunContext) (p : PipeState) (f : ℕ → ℕ) → IsImage p.mem → PipeHardware x.v p f → FetchFacts x.v x.s f → AllowedD x.v (loaded_d p f)
allowed_loaded x p f h b q =
    let l = loads_fetched x p f b q in
    let g = reads x.v p.mem (f name.f_pc) in
    let r = IsReading-reading x.v p.mem (f name.f_pc) in
    let s = IsFields-fetched x.v p.mem (f name.f_pc) h in
    let m = FitsFields-fetched x.v p.mem (f name.f_pc) h in
    let i : f name.f_icode ≡ (reading x.v p.mem (f name.f_pc)).icode = l.icode ∙ g.icode in
    let n : f name.f_ifun ≡ (reading x.v p.mem (f name.f_pc)).ifun = l.ifun ∙ g.ifun in
    record {
      error = (reading x.v p.mem (f name.f_pc)).error;
      stat = l.stat ∙ rw (g.error, g.icode, i) refl;
      outside = λ e. (i ∙ (r.outside e).0, n ∙ (r.outside e).1);
      known = elim r.known [ inl lt ↦ inl (rw i lt) | inr e ↦ inr (i ∙ e.0) ];
      ifun = rw (i, n) r.ifun;
      r_a = rw l.r_a m.r_a;
      r_b = rw l.r_b m.r_b;
      used_a = λ u. rw l.r_a (s.used_a (rw (← l.icode) u));
      used_b = λ u. rw l.r_b (s.used_b (rw (← l.icode) u));
      none_a = λ u. l.r_a ∙ s.none_a (rw (← l.icode) u);
      none_b = λ u. l.r_b ∙ s.none_b (rw (← l.icode) u);
    }

pub allowed_moved : (v : Variant) (s : Settings) (p : PipeState) (f : ℕ → ℕ) (c : Schedule) → DecodeFacts v s p f c → AllowedD v p.d → AllowedE v (loaded_e p f)
allowed_moved v s p f c q h =
    record { from = p.d; allowed = h; stat = refl; icode = refl; ifun = refl; src_a = q.src_a; src_b = q.src_b; dst_e = q.dst_e; dst_m = q.dst_m }
