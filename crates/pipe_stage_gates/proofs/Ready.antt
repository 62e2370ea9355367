-- In a net with PIPE's fields and control values of all its signals, the rules of the stages are ready.
use Rattle.std.proofs.Common.{◌≡◌, ℕ, ◌≤◌, true, List, slice_get, refl, ◌∙◌}
use Rattle.ctl_picks.specs.declared.controls.Entry.{Entry}
use Rattle.ctl_picks.specs.Picks.{Covers, has_gate, has_picks}
use Rattle.dp_signals.specs.PipeNames as signal
use Rattle.dp_signals.specs.PipeTable.{pipe_state, pipe_hardware, pipe_defined, pipe_rows}
use Rattle.dp_signals.specs.Tables.{constant_rows}
use Rattle.hcl_types.specs.Kinds.{kinds_of_row}
use Rattle.pipe_stage_gates.specs.Fronts.{IsFrontReady}
use Rattle.pipe_stage_gates.specs.Signals.{IsReady}
use Rattle.pipe_fields.specs.Layout.{bit_count}

truth_of : {ctl : List Entry} → Covers pipe_rows ctl → (n : ℕ) → (kinds_of_row (slice_get pipe_rows n)).truth ≡ true → has_gate ctl n ≡ true
truth_of h n e = h.gates n ∙ e

word_of : {ctl : List Entry} → Covers pipe_rows ctl → (n : ℕ) → (kinds_of_row (slice_get pipe_rows n)).word ≡ true → has_picks ctl n ≡ true
word_of h n e = h.picks n ∙ e

pub ready_by : {vars : ℕ} {ctl : List Entry} → bit_count ≤ vars → Covers pipe_rows ctl → IsReady vars ctl
unfolding pipe_rows constant_rows pipe_state pipe_hardware pipe_defined
ready_by {vars} {ctl} le h = record {
  fields = le;
  aluA = word_of h signal.aluA refl;
  aluB = word_of h signal.aluB refl;
  alufun = word_of h signal.alufun refl;
  set_cc = truth_of h signal.set_cc refl;
  e_valA = word_of h signal.e_valA refl;
  e_dstE = word_of h signal.e_dstE refl;
  mem_addr = word_of h signal.mem_addr refl;
  mem_read = truth_of h signal.mem_read refl;
  mem_write = truth_of h signal.mem_write refl;
  m_stat = word_of h signal.m_stat refl;
  w_dstE = word_of h signal.w_dstE refl;
  w_valE = word_of h signal.w_valE refl;
  w_dstM = word_of h signal.w_dstM refl;
  w_valM = word_of h signal.w_valM refl;
  Stat = word_of h signal.Stat refl;
}

-- the same for the rules of fetch and decode
pub front_ready_by : {vars : ℕ} {ctl : List Entry} → bit_count ≤ vars → Covers pipe_rows ctl → IsFrontReady vars ctl
unfolding pipe_rows constant_rows pipe_state pipe_hardware pipe_defined
front_ready_by {vars} {ctl} le h = record {
  fields = le;
  f_icode = word_of h signal.f_icode refl;
  f_ifun = word_of h signal.f_ifun refl;
  f_stat = word_of h signal.f_stat refl;
  need_regids = truth_of h signal.need_regids refl;
  need_valC = truth_of h signal.need_valC refl;
  f_predPC = word_of h signal.f_predPC refl;
  d_srcA = word_of h signal.d_srcA refl;
  d_srcB = word_of h signal.d_srcB refl;
  d_dstE = word_of h signal.d_dstE refl;
  d_dstM = word_of h signal.d_dstM refl;
}
