-- The fields of a real cycle's valuation: visible ones from the registers, hidden ones from the run of instructions.
use Rattle.std.proofs.Common.{ℕ, Bool, ◌&&◌}
use Rattle.y86_isa.specs.Blocks.{condition}
use Rattle.y86_isa.specs.RowTests.{accesses, next_is_branch}
use Rattle.y86_isa.specs.Table.{row}
use Rattle.yis_run_laws.specs.Instructions.{state_before, work_at, instruction_row}
use Rattle.hcl_types.specs.Terms.{signed_below}
use Rattle.dp_signals.specs.PipeNames as name
use Rattle.dp_signals.specs.Values.{bit}
use Rattle.dp_signals.specs.declared.pipe_state.PipeState.{PipeState}
use Rattle.pipe_fields.specs.Layout.{FetchLine, Fields}
use Rattle.pipe_refinement.specs.Invariant.{RunContext}
use Rattle.pipe_refinement.specs.Kinds.{Schedule, Bubbled, Good, StageKind, Wrong, in_d, in_e, in_f, in_m, is_good}

abbrev pub kind_number : StageKind → ℕ
kind_number Bubbled = 0
kind_number Good = 1
kind_number Wrong = 2

-- ---- the hidden bits of instruction i, which count where it is good
abbrev pub back_of : RunContext → ℕ → Bool
back_of x i = next_is_branch (instruction_row x.v x.image i).next && signed_below (work_at x.v x.image i).val_c (work_at x.v x.image i).val_p

abbrev pub taken_of : RunContext → ℕ → Bool
taken_of x i = next_is_branch (instruction_row x.v x.image i).next && (work_at x.v x.image i).cnd

abbrev pub fault_of : RunContext → ℕ → Bool
fault_of x i = (work_at x.v x.image i).fault

abbrev pub hidden : StageKind → Bool → ℕ
hidden k b = bit (is_good k && b)

-- ---- what is fetched is real; its hidden bits are those of the next instruction, as far as the fetched icode allows
unfoldable pub f_line : RunContext → Schedule → (ℕ → ℕ) → FetchLine
f_line x c f = record {
  error = f name.imem_error;
  icode = f name.imem_icode;
  ifun = f name.imem_ifun;
  taken = bit (next_is_branch (row x.v (f name.imem_icode)).next && condition (f name.imem_ifun) (state_before x.v x.image (in_f c)).flags);
  stops = bit (accesses (row x.v (f name.imem_icode)).memory && (work_at x.v x.image (in_f c)).fault);
  back = bit (next_is_branch (row x.v (f name.imem_icode)).next && signed_below (f name.f_valC) (f name.f_valP));
}

unfoldable pub fields_at : RunContext → Schedule → PipeState → (ℕ → ℕ) → FetchLine → Fields
fields_at x c p f l = record {
  f = l;
  d = record {
    kind = kind_number c.d;
    stat = p.d.stat;
    icode = p.d.icode;
    ifun = p.d.ifun;
    r_a = p.d.r_a;
    r_b = p.d.r_b;
    taken = hidden c.d (taken_of x (in_d c));
    stops = hidden c.d (fault_of x (in_d c));
    back = hidden c.d (back_of x (in_d c));
  };
  e = record {
    kind = kind_number c.e;
    stat = p.e.stat;
    icode = p.e.icode;
    ifun = p.e.ifun;
    dst_e = p.e.dst_e;
    dst_m = p.e.dst_m;
    src_a = p.e.src_a;
    src_b = p.e.src_b;
    cnd = f name.e_Cnd;
    stops = hidden c.e (fault_of x (in_e c));
    back = hidden c.e (back_of x (in_e c));
  };
  m = record {
    kind = kind_number c.m;
    stat = p.m.stat;
    icode = p.m.icode;
    ifun = p.m.ifun;
    dst_e = p.m.dst_e;
    dst_m = p.m.dst_m;
    cnd = p.m.cnd;
    error = hidden c.m (fault_of x (in_m c));
    back = hidden c.m (back_of x (in_m c));
  };
  w = record { kind = kind_number c.w; stat = p.w.stat; icode = p.w.icode; dst_e = p.w.dst_e; dst_m = p.w.dst_m };
}
