-- The work of an instruction as equations.
use Rattle.std.proofs.Common.{refl}
use Rattle.y86_base.specs.declared.parts.Variant.{Variant}
use Rattle.y86_isa.specs.declared.machine.Machine.{Machine}
use Rattle.y86_isa.specs.Table.{row}
use Rattle.y86_isa.specs.Blocks.{fetched}
use Rattle.y86_isa.specs.Work.{work}
use Rattle.y86_isa.specs.Laws.{FollowsFetch, FollowsRow}

pub FollowsFetch-work : (v : Variant) (m : Machine) → FollowsFetch (fetched v m.mem m.pc) (work v m)
unfolding work
FollowsFetch-work v m = record { fetch_stat = refl; icode = refl; ifun = refl; r_a = refl; r_b = refl; val_c = refl; val_p = refl }

pub FollowsRow-work : (v : Variant) (m : Machine) → FollowsRow (row v (work v m).icode) m (work v m)
unfolding work
FollowsRow-work v m =
    record {
      src_a = refl;
      src_b = refl;
      raw_dst_e = refl;
      dst_m = refl;
      val_a = refl;
      val_b = refl;
      val_e = refl;
      flags = refl;
      cnd = refl;
      dst_e = refl;
      address = refl;
      fault = refl;
      val_m = refl;
      store = refl;
      next_pc = refl;
      stat = refl;
    }
