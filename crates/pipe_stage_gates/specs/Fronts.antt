-- The premises of the gates of obligations 1 to 9: the fields are among the variables, and the signals of fetch and
-- decode have control values; and what the row of an icode demands of some of these signals.
use Rattle.std.specs.Prelude.{ℕ, ◌≤◌, Bool, IsTrue, List}
use Rattle.y86_base.specs.Stat.{stat_number}
use Rattle.y86_isa.specs.declared.columns.Row.{Row}
use Rattle.y86_isa.specs.Blocks.{fetch_status, register_number}
use Rattle.ctl_atoms.specs.declared.leaf.Leaf.{Leaf}
use Rattle.ctl_atoms.specs.Leaves.{Assignment}
use Rattle.ctl_picks.specs.declared.controls.Entry.{Entry}
use Rattle.ctl_picks.specs.Picks.{has_gate, has_picks}
use Rattle.dp_signals.specs.PipeNames as signal
use Rattle.y86_base.specs.Words.{set}
use Rattle.pipe_fields.specs.Layout.{Fields, bit_count}
use Rattle.pipe_motion.specs.Predictions.{predicts}
use Rattle.ctl_rules.specs.ColumnDemands.{picks_some_leaf, is_number, is_truth}
use Rattle.pipe_obligations.specs.Obligations.{predicted_leaf}
use Rattle.pipe_stage_gates.specs.declared.front.FrontRule.{FrontRule}
use Rattle.pipe_stage_gates.specs.declared.front.FrontRule.TheVariants.{Status, RegisterByte, Constant, Predicted, SourceA, SourceB, DestinationE, DestinationM}

pub record IsFrontReady (vars : ℕ) (ctl : List Entry) : Type 0 where
  pub fields : bit_count ≤ vars
  pub f_icode : IsTrue (has_picks ctl signal.f_icode)
  pub f_ifun : IsTrue (has_picks ctl signal.f_ifun)
  pub f_stat : IsTrue (has_picks ctl signal.f_stat)
  pub need_regids : IsTrue (has_gate ctl signal.need_regids)
  pub need_valC : IsTrue (has_gate ctl signal.need_valC)
  pub f_predPC : IsTrue (has_picks ctl signal.f_predPC)
  pub d_srcA : IsTrue (has_picks ctl signal.d_srcA)
  pub d_srcB : IsTrue (has_picks ctl signal.d_srcB)
  pub d_dstE : IsTrue (has_picks ctl signal.d_dstE)
  pub d_dstM : IsTrue (has_picks ctl signal.d_dstM)

-- what is demanded if the icode of F, or of D, is this one and has this row
abbrev pub demand_in_front : FrontRule → ℕ → Row → Fields → Assignment → (ℕ → Leaf) → Bool
demand_in_front Status code r c α cv = is_number cv signal.f_stat (stat_number (fetch_status (set c.f.error) code))
demand_in_front RegisterByte code r c α cv = is_truth α cv signal.need_regids r.has_byte
demand_in_front Constant code r c α cv = is_truth α cv signal.need_valC r.has_const
demand_in_front (Predicted s) code r c α cv = picks_some_leaf cv signal.f_predPC (predicted_leaf r.next (predicts s c.f.ifun (set c.f.back)))
demand_in_front SourceA code r c α cv = is_number cv signal.d_srcA (register_number r.src_a c.d.r_a c.d.r_b)
demand_in_front SourceB code r c α cv = is_number cv signal.d_srcB (register_number r.src_b c.d.r_a c.d.r_b)
demand_in_front DestinationE code r c α cv = is_number cv signal.d_dstE (register_number r.dst_e c.d.r_a c.d.r_b)
demand_in_front DestinationM code r c α cv = is_number cv signal.d_dstM (register_number r.dst_m c.d.r_a c.d.r_b)
