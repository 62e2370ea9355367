-- The normal form of a record.
use Rattle.std.proofs.Common.{◌≡◌, Bool, true, false, cond, refl}
use Rattle.y86_isa.specs.declared.machine.Rec.{Rec}
use Rattle.y86_isa.specs.Machine.{is_aok, normal}
use Rattle.y86_isa.specs.Laws.{SameButDone}

kept : (b : Bool) (r s t : Rec) → SameButDone r s → SameButDone r t → SameButDone r (cond b s t)
kept true r s t h k = h
kept false r s t h k = k

pub kept_by_normal : (r : Rec) → SameButDone r (normal r)
kept_by_normal r =
    kept (is_aok r.stat) r _ _
    (record { pc = refl; icode = refl; ifun = refl; flags = refl; stat = refl })
    (record { pc = refl; icode = refl; ifun = refl; flags = refl; stat = refl })

-- if the status isn't AOK, the normal form depends on nothing else that may differ
pub normal-bad : (r s : Rec) → is_aok r.stat ≡ false → SameButDone r s → normal s ≡ normal r
normal-bad r s bad h = rw (h.stat, bad, h.pc, h.icode, h.ifun, h.flags) refl
