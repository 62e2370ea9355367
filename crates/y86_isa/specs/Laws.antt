-- What a step may change, in the book's terms.
use Rattle.std.specs.Prelude.{◌≡◌, ◌≢◌, ℕ, ◌+◌, ◌%◌, ◌^◌, ◌<◌, ◌≤◌, ◌⊎◌, true, false, List, length, Some, option_map, IfSome, if◌then◌else◌}
use Rattle.y86_base.specs.Image.{word_at}
use Rattle.y86_base.specs.Registers.{register}
use Rattle.y86_base.specs.declared.parts.Stat.TheVariants.{Aok, Adr}
use Rattle.y86_base.specs.declared.parts.Variant.{Variant}
use Rattle.y86_isa.specs.declared.columns.Row.{Row}
use Rattle.y86_isa.specs.declared.columns.NextPcColumn.TheVariants.{Fall}
use Rattle.y86_isa.specs.declared.fetch.Fetched.{Fetched}
use Rattle.y86_isa.specs.declared.fetch.Reading.{Reading}
use Rattle.y86_isa.specs.declared.machine.Machine.{Machine}
use Rattle.y86_isa.specs.declared.machine.Rec.{Rec}
use Rattle.y86_isa.specs.declared.work.Work.{Work}
use Rattle.y86_isa.specs.Blocks.{fetched, written_back, stored, fetch_status, register_number, operand_a, operand_b, alu_value, alu_function, flags_after, condition, destination_e, is_load, is_store, data_address, data_word, data_error, data_read, data_store, next_address}
use Rattle.y86_isa.specs.Table.{inop, iinvalid, no_register, stack_pointer, rows, row}
use Rattle.y86_isa.specs.RowTests.{has_operand_a, accesses, next_is_branch, next_is_val_m}
use Rattle.y86_isa.specs.Step.{advance, retired}

-- the work of an instruction, as one equation for each value that its row and the machine determine
pub record FollowsRow (r : Row) (m : Machine) (w : Work) : Type 0 where
  pub src_a : w.src_a ≡ register_number r.src_a w.r_a w.r_b
  pub src_b : w.src_b ≡ register_number r.src_b w.r_a w.r_b
  pub raw_dst_e : w.raw_dst_e ≡ register_number r.dst_e w.r_a w.r_b
  pub dst_m : w.dst_m ≡ register_number r.dst_m w.r_a w.r_b
  pub val_a : w.val_a ≡ register m.regs w.src_a
  pub val_b : w.val_b ≡ register m.regs w.src_b
  pub val_e : w.val_e ≡ alu_value (alu_function r.selects w.ifun) (operand_a r.alu_a w.val_a w.val_c) (operand_b r.alu_b w.val_b)
  pub flags : w.flags
      ≡ flags_after r.sets_flags (alu_function r.selects w.ifun) (operand_a r.alu_a w.val_a w.val_c) (operand_b r.alu_b w.val_b) m.flags
  pub cnd : w.cnd ≡ condition w.ifun m.flags
  pub dst_e : w.dst_e ≡ destination_e r.conditional w.cnd w.raw_dst_e
  pub address : w.address ≡ data_address r.memory w.val_a w.val_e
  pub fault : w.fault ≡ data_error m.mem w.address (is_load r.memory) (is_store r.memory)
  pub val_m : w.val_m ≡ data_read m.mem w.address (is_load r.memory)
  pub store : w.store ≡ data_store w.address (data_word r.memory w.val_a w.val_p) (is_store r.memory) w.fault
  pub next_pc : w.next_pc ≡ next_address r.next m.pc w.val_p w.val_c w.val_m w.cnd
  pub stat : w.stat ≡ (if w.fault then Adr else w.fetch_stat)

-- and the values that are fetched
pub record FollowsFetch (f : Fetched) (w : Work) : Type 0 where
  pub fetch_stat : w.fetch_stat ≡ fetch_status f.error f.icode
  pub icode : w.icode ≡ f.icode
  pub ifun : w.ifun ≡ f.ifun
  pub r_a : w.r_a ≡ f.r_a
  pub r_b : w.r_b ≡ f.r_b
  pub val_c : w.val_c ≡ f.val_c
  pub val_p : w.val_p ≡ f.val_p

-- at most one register other than %rsp differs
pub record ChangesOneRegister (old new : List ℕ) : Type 0 where
  pub changed : ℕ
  pub others : (number : ℕ) → number ≢ stack_pointer → number ≢ changed → register new number ≡ register old number

-- the flags are as before, unless the row of the instruction sets them
abbrev pub KeepsFlags : Variant → Machine → Type 0
KeepsFlags v m = IfSome (retired v m) (λ r. (row v r.icode).sets_flags ≡ false → (advance v m).flags ≡ m.flags)

-- after an instruction that ends with AOK and falls through by its row, the PC is at the next instruction
abbrev pub FallsThrough : Variant → Machine → Type 0
FallsThrough v m =
    IfSome (retired v m)
    (λ r. r.stat ≡ Aok → (row v r.icode).next ≡ Fall → (advance v m).pc ≡ (m.pc + (row v r.icode).length) % 2 ^ 64)

-- a record determines the step from one machine to the next, except the next PC
pub record IsRecordOfStep (m after : Machine) (r : Rec) : Type 0 where
  pub pc : r.pc ≡ m.pc
  pub stat : after.stat ≡ r.stat
  pub flags : after.flags ≡ r.flags
  pub mem : after.mem ≡ stored m.mem r.store
  pub regs : after.regs ≡ written_back m.regs r.dst_e r.val_e r.dst_m r.val_m

-- the possible readings: with an error it is a nop; else it has the icode of an invalid instruction, or an icode with a
-- row and an ifun that the icode accepts
pub record IsReading (v : Variant) (read : Reading) : Type 0 where
  pub outside : read.error ≡ true → (read.icode ≡ inop) × (read.ifun ≡ 0)
  pub known : (read.icode < length (rows v)) ⊎ ((read.icode ≡ iinvalid) × (read.ifun ≡ 0))
  pub ifun : read.ifun ≤ (row v read.icode).ifun_top

-- register fields that the instruction uses are registers; without a register byte both are 15
pub record IsFields (r : Row) (f : Fetched) : Type 0 where
  pub used_a : r.uses_a ≡ true → f.r_a < no_register
  pub used_b : r.uses_b ≡ true → f.r_b < no_register
  pub none_a : r.has_byte ≡ false → f.r_a ≡ no_register
  pub none_b : r.has_byte ≡ false → f.r_b ≡ no_register

-- two records that differ at most in their destinations and stores
pub record SameButDone (r s : Rec) : Type 0 where
  pub pc : s.pc ≡ r.pc
  pub icode : s.icode ≡ r.icode
  pub ifun : s.ifun ≡ r.ifun
  pub flags : s.flags ≡ r.flags
  pub stat : s.stat ≡ r.stat

-- pushq %rsp stores the old value, and popq %rsp leaves the word that was loaded (practice problems 4.7 and 4.8)
abbrev pub PushStoresOld : Variant → Machine → Type 0
PushStoresOld v m =
    IfSome (retired v m)
    (λ r. r.stat ≡ Aok → r.icode ≡ 10 → (fetched v m.mem m.pc).r_a ≡ stack_pointer →
    option_map (λ store. store.word) r.store ≡ Some (register m.regs stack_pointer))

abbrev pub PopLeavesLoaded : Variant → Machine → Type 0
PopLeavesLoaded v m =
    IfSome (retired v m)
    (λ r. r.stat ≡ Aok → r.icode ≡ 11 → (fetched v m.mem m.pc).r_a ≡ stack_pointer →
    word_at m.mem (register m.regs stack_pointer) ≡ Some (register (advance v m).regs stack_pointer))

-- an instruction that is bad at its fetch computes nothing, accesses no memory, takes no jump, loads no PC and sets no flag
pub record DoesNothing (r : Row) : Type 0 where
  pub operand : has_operand_a r.alu_a ≡ false
  pub access : accesses r.memory ≡ false
  pub branch : next_is_branch r.next ≡ false
  pub loaded : next_is_val_m r.next ≡ false
  pub flags : r.sets_flags ≡ false
