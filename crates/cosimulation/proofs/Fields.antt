-- Records by their fields.
use Rattle.std.proofs.Common.{◌≡◌, refl}
use Rattle.y86_isa.specs.declared.machine.Rec.{Rec}

pub same_fields : (a b : Rec) → (a.pc ≡ b.pc) × (a.icode ≡ b.icode) × (a.ifun ≡ b.ifun) → (a.dst_e ≡ b.dst_e) × (a.val_e ≡ b.val_e) × (a.dst_m ≡ b.dst_m) × (a.val_m ≡ b.val_m) →
    (a.store ≡ b.store) × (a.flags ≡ b.flags) × (a.stat ≡ b.stat) → a ≡ b
same_fields a b x y z =
    let it : record { pc = a.pc; icode = a.icode; ifun = a.ifun; dst_e = a.dst_e; val_e = a.val_e; dst_m = a.dst_m; val_m = a.val_m; store = a.store; flags = a.flags; stat = a.stat } ≡ b =
    rw (x.0, x.1, x.2, y.0, y.1, y.2, y.3, z.0, z.1, z.2) refl in
    it
