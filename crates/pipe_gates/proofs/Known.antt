-- Which signals of PIPE are truths and which are words.
use Rattle.std.proofs.Common.{IsTrue, List}
use Rattle.ctl_picks.specs.declared.controls.Entry.{Entry}
use Rattle.ctl_picks.specs.Picks.{Covers, has_gate, has_picks}
use Rattle.dp_signals.specs.Tables.{constant_rows}
use Rattle.dp_signals.specs.PipeTable.{pipe_rows, pipe_state, pipe_hardware, pipe_defined}
use Rattle.dp_signals.specs.PipeNames as signal

module _ {ctl : List Entry} (k : Covers pipe_rows ctl) where
  pub known_F_stall : IsTrue (has_gate ctl signal.F_stall)
  unfolding pipe_rows pipe_state pipe_hardware pipe_defined constant_rows
  known_F_stall = k.gates signal.F_stall

  pub known_F_bubble : IsTrue (has_gate ctl signal.F_bubble)
  unfolding pipe_rows pipe_state pipe_hardware pipe_defined constant_rows
  known_F_bubble = k.gates signal.F_bubble

  pub known_D_stall : IsTrue (has_gate ctl signal.D_stall)
  unfolding pipe_rows pipe_state pipe_hardware pipe_defined constant_rows
  known_D_stall = k.gates signal.D_stall

  pub known_D_bubble : IsTrue (has_gate ctl signal.D_bubble)
  unfolding pipe_rows pipe_state pipe_hardware pipe_defined constant_rows
  known_D_bubble = k.gates signal.D_bubble

  pub known_E_stall : IsTrue (has_gate ctl signal.E_stall)
  unfolding pipe_rows pipe_state pipe_hardware pipe_defined constant_rows
  known_E_stall = k.gates signal.E_stall

  pub known_E_bubble : IsTrue (has_gate ctl signal.E_bubble)
  unfolding pipe_rows pipe_state pipe_hardware pipe_defined constant_rows
  known_E_bubble = k.gates signal.E_bubble

  pub known_M_stall : IsTrue (has_gate ctl signal.M_stall)
  unfolding pipe_rows pipe_state pipe_hardware pipe_defined constant_rows
  known_M_stall = k.gates signal.M_stall

  pub known_M_bubble : IsTrue (has_gate ctl signal.M_bubble)
  unfolding pipe_rows pipe_state pipe_hardware pipe_defined constant_rows
  known_M_bubble = k.gates signal.M_bubble

  pub known_W_stall : IsTrue (has_gate ctl signal.W_stall)
  unfolding pipe_rows pipe_state pipe_hardware pipe_defined constant_rows
  known_W_stall = k.gates signal.W_stall

  pub known_W_bubble : IsTrue (has_gate ctl signal.W_bubble)
  unfolding pipe_rows pipe_state pipe_hardware pipe_defined constant_rows
  known_W_bubble = k.gates signal.W_bubble

  pub known_f_pc : IsTrue (has_picks ctl signal.f_pc)
  unfolding pipe_rows pipe_state pipe_hardware pipe_defined constant_rows
  known_f_pc = k.picks signal.f_pc

  pub known_f_icode : IsTrue (has_picks ctl signal.f_icode)
  unfolding pipe_rows pipe_state pipe_hardware pipe_defined constant_rows
  known_f_icode = k.picks signal.f_icode

  pub known_f_ifun : IsTrue (has_picks ctl signal.f_ifun)
  unfolding pipe_rows pipe_state pipe_hardware pipe_defined constant_rows
  known_f_ifun = k.picks signal.f_ifun

  pub known_f_stat : IsTrue (has_picks ctl signal.f_stat)
  unfolding pipe_rows pipe_state pipe_hardware pipe_defined constant_rows
  known_f_stat = k.picks signal.f_stat

  pub known_d_srcA : IsTrue (has_picks ctl signal.d_srcA)
  unfolding pipe_rows pipe_state pipe_hardware pipe_defined constant_rows
  known_d_srcA = k.picks signal.d_srcA

  pub known_d_srcB : IsTrue (has_picks ctl signal.d_srcB)
  unfolding pipe_rows pipe_state pipe_hardware pipe_defined constant_rows
  known_d_srcB = k.picks signal.d_srcB

  pub known_d_valA : IsTrue (has_picks ctl signal.d_valA)
  unfolding pipe_rows pipe_state pipe_hardware pipe_defined constant_rows
  known_d_valA = k.picks signal.d_valA

  pub known_d_valB : IsTrue (has_picks ctl signal.d_valB)
  unfolding pipe_rows pipe_state pipe_hardware pipe_defined constant_rows
  known_d_valB = k.picks signal.d_valB

  pub known_f_predPC : IsTrue (has_picks ctl signal.f_predPC)
  unfolding pipe_rows pipe_state pipe_hardware pipe_defined constant_rows
  known_f_predPC = k.picks signal.f_predPC
