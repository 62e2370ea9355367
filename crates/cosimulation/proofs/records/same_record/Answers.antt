use Rattle.std.proofs.Common.{ap}
use Rattle.y86_isa.specs.declared.machine.Rec.{Rec}
use Rattle.cosimulation.proofs.Fields.{same_fields}
use Rattle.cosimulation.proofs.records.same_record.Goals as goal

pub returns : goal.returns
returns c = (
  λ e.
      let all = c.all_three.ensures.0 e in
      same_fields c.args.one.now c.args.other.now (c.same_instruction-first.ensures.0 all.0) (c.same_writes-second.ensures.0 all.1) (c.same_outcome-third.ensures.0 all.2),
  λ e.
      c.all_three.ensures.1 (
        c.same_instruction-first.ensures.1 (ap (λ (r : Rec). r.pc) e, ap (λ (r : Rec). r.icode) e, ap (λ (r : Rec). r.ifun) e),
        c.same_writes-second.ensures.1 (ap (λ (r : Rec). r.dst_e) e, ap (λ (r : Rec). r.val_e) e, ap (λ (r : Rec). r.dst_m) e, ap (λ (r : Rec). r.val_m) e),
        c.same_outcome-third.ensures.1 (ap (λ (r : Rec). r.store) e, ap (λ (r : Rec). r.flags) e, ap (λ (r : Rec). r.stat) e),
      ),
)
