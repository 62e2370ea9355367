-- The columns of each row agree: tests that compute to true, and what they mean.
use Rattle.std.proofs.Common.{◌≡◌, ℕ, Bool, true, false, not, ◌&&◌, ◌||◌, refl}
use Rattle.std.specs.List.{list_all}
use Rattle.std.proofs.lemmas.Bool.{and_parts}
use Rattle.y86_base.specs.declared.parts.Variant.{Variant}
use Rattle.y86_base.specs.declared.parts.Variant.TheVariants.{Base, Full}
use Rattle.y86_isa.specs.declared.columns.Row.{Row}
use Rattle.y86_isa.specs.Table.{rows, row}
use Rattle.y86_isa.specs.Blocks.{is_load}
use Rattle.y86_isa.specs.RowTests.{is_dash, is_used, has_operand_a, has_operand_b, operand_is_val_a, operand_is_val_b, accesses, stores_val_a, address_is_val_a, address_is_val_e, next_is_branch, next_is_val_m, select_a_is_val_p, select_a_is_val_a, OperandsAgree, SourcesAgree, AccessesAgree, FieldsAgree}
use Rattle.y86_isa.proofs.Rows.{row-test}

abbrev implies : Bool → Bool → Bool
implies a b = not a || b

abbrev operands_test : Row → Bool
operands_test r =
    implies (not (is_dash r.dst_e)) (has_operand_a r.alu_a)
    && (implies r.sets_flags (has_operand_a r.alu_a)
    && (implies (address_is_val_e r.memory) (has_operand_a r.alu_a)
    && implies (has_operand_a r.alu_a) (has_operand_b r.alu_b)))

abbrev sources_test : Row → Bool
sources_test r =
    implies (operand_is_val_a r.alu_a) (not (is_dash r.src_a))
    && (implies (operand_is_val_b r.alu_b) (not (is_dash r.src_b))
    && (implies (select_a_is_val_a r) (not (is_dash r.src_a))
    && (implies (select_a_is_val_a r) (not (select_a_is_val_p r))
    && (implies (select_a_is_val_p r) (is_dash r.src_a)
    && implies (stores_val_a r.memory) (not (operand_is_val_a r.alu_a))))))

abbrev accesses_test : Row → Bool
accesses_test r =
    implies (next_is_branch r.next) (not (has_operand_a r.alu_a))
    && (implies (next_is_branch r.next) (not (accesses r.memory))
    && (implies (next_is_val_m r.next) (address_is_val_a r.memory)
    && (implies (accesses r.memory) (not r.sets_flags)
    && implies (not (is_dash r.dst_m)) (is_load r.memory))))

abbrev fields_test : Row → Bool
fields_test r =
    is_used r r.src_a && (is_used r r.src_b && (is_used r r.dst_e && (is_used r r.dst_m && (implies r.uses_a r.has_byte && implies r.uses_b r.has_byte))))

each : (v : Variant) →
    (list_all operands_test (rows v) ≡ true) × (list_all sources_test (rows v) ≡ true) × (list_all accesses_test (rows v) ≡ true) × (list_all fields_test (rows v) ≡ true)
each Base = (refl, refl, refl, refl)
each Full = (refl, refl, refl, refl)

-- using an implication

says : (a b : Bool) → implies a b ≡ true → a ≡ true → b ≡ true
says true b h e = h
says false b h e = cc

says_not : (a b : Bool) → implies a (not b) ≡ true → a ≡ true → b ≡ false
says_not true true h e = cc
says_not true false h e = refl
says_not false b h e = cc

unless : (a b : Bool) → implies (not a) b ≡ true → a ≡ false → b ≡ true
unless false b h e = h
unless true b h e = cc

pub operands_agree : (v : Variant) (icode : ℕ) → OperandsAgree (row v icode)
operands_agree v icode =
    let h = and_parts _ _ (row-test operands_test v (each v).0 refl icode) in
    let h1 = and_parts _ _ h.1 in
    let h2 = and_parts _ _ h1.1 in
    record { destination = unless _ _ h.0; flags = says _ _ h1.0; address = says _ _ h2.0; both = says _ _ h2.1 }

pub sources_agree : (v : Variant) (icode : ℕ) → SourcesAgree (row v icode)
sources_agree v icode =
    let h = and_parts _ _ (row-test sources_test v (each v).1 refl icode) in
    let h1 = and_parts _ _ h.1 in
    let h2 = and_parts _ _ h1.1 in
    let h3 = and_parts _ _ h2.1 in
    let h4 = and_parts _ _ h3.1 in
    record {
      alu_a = says_not _ _ h.0;
      alu_b = says_not _ _ h1.0;
      carried = says_not _ _ h2.0;
      one_carried = says_not _ _ h3.0;
      no_source = says _ _ h4.0;
      stored = says_not _ _ h4.1;
    }

pub accesses_agree : (v : Variant) (icode : ℕ) → AccessesAgree (row v icode)
accesses_agree v icode =
    let h = and_parts _ _ (row-test accesses_test v (each v).2 refl icode) in
    let h1 = and_parts _ _ h.1 in
    let h2 = and_parts _ _ h1.1 in
    let h3 = and_parts _ _ h2.1 in
    record { branch_operand = says_not _ _ h.0; branch_access = says_not _ _ h1.0; loaded = says _ _ h2.0; flags = says_not _ _ h3.0; destination = unless _ _ h3.1 }

pub fields_agree : (v : Variant) (icode : ℕ) → FieldsAgree (row v icode)
fields_agree v icode =
    let h = and_parts _ _ (row-test fields_test v (each v).3 refl icode) in
    let h1 = and_parts _ _ h.1 in
    let h2 = and_parts _ _ h1.1 in
    let h3 = and_parts _ _ h2.1 in
    let h4 = and_parts _ _ h3.1 in
    record { src_a = h.0; src_b = h1.0; dst_e = h2.0; dst_m = h3.0; byte_a = says _ _ h4.0; byte_b = says _ _ h4.1 }
