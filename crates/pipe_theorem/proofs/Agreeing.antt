-- In a real cycle the word of each control value is the value of its name.
use Rattle.std.proofs.Common.{◌≡◌, ℕ, ◌+◌, ◌-◌, ◌<◌, ◌≤◌, inl, inr, Bool, true, false, not, ◌&&◌, ◌||◌, ◌==◌, nat_le, List, [], ◌∷◌, length, take, get_or, slice_get, Option, Some, None, refl, sym, ap, ◌∙◌, subst, arith}
use Rattle.std.proofs.lemmas.Bool.{and_parts, cases_eq, cases_lt, eqb-true, leb-true, lt-ltb}
use Rattle.std.proofs.lemmas.List.{get_or_append_left}
use Rattle.std.proofs.lemmas.Option.{slice_get_past, slice_get-get_or}
use Rattle.std.specs.List.{AllByRecursion}
use Rattle.y86_base.specs.declared.parts.Variant.{Variant}
use Rattle.y86_base.proofs.Booleans.{clash, implied}
use Rattle.y86_base.proofs.Numbers.{number_tests, each_number}
use Rattle.hcl_types.specs.Tables.{IsBound, IsOrderOf, defined, inputs, is_defined, term_at}
use Rattle.hcl_types.specs.Terms.{value, word_meaning}
use Rattle.hcl_types.specs.declared.table.Class.TheVariants as class
use Rattle.hcl_types.specs.declared.table.Role.TheVariants as role
use Rattle.hcl_types.specs.declared.table.Role.{Role}
use Rattle.hcl_types.specs.declared.table.Row.{Row}
use Rattle.hcl_types.specs.declared.term.Term.TheVariants.{Num}
use Rattle.hcl_types.specs.declared.term.Term.{Term}
use Rattle.dp_signals.specs.Equations.{rule_of, term_value}
use Rattle.dp_signals.specs.PipeEquations.{Solves, block, constants, given, state_words}
use Rattle.dp_signals.specs.PipeNames as name
use Rattle.dp_signals.specs.PipeTable.{pipe_defined, pipe_hardware, pipe_rows, pipe_state}
use Rattle.dp_signals.specs.Tables.{constant_count, constant_rows}
use Rattle.dp_signals.specs.declared.pipe_state.PipeState.{PipeState}
use Rattle.dp_signals.proofs.PipeRules.{length-given, length-pipe_rows}
use Rattle.dp_signals.proofs.Rules.{definition_rule}
use Rattle.dp_signals.proofs.Bits.{constants_count}
use Rattle.ctl_atoms.specs.declared.leaf.Leaf.TheVariants.{Number}
use Rattle.ctl_atoms.specs.declared.leaf.Leaf.{Leaf}
use Rattle.ctl_equations.specs.Controls.{AreControls, role_leaf, row_leaf}
use Rattle.ctl_equations.specs.Laws.{IsDefinedBy, IsWorthGiven, real_assignment, leaf_value}
use Rattle.ctl_equations.proofs.Rows.{rule_row}
use Rattle.ctl_equations.proofs.Solved.{agreement}
use Rattle.pipe_fields.specs.Layout.{number_of}
use Rattle.pipe_refinement.specs.Invariant.{RunContext}
use Rattle.pipe_refinement.specs.Kinds.{Schedule, in_m}
use Rattle.pipe_theorem.proofs.RealCycle.{f_line, fault_of, fields_at, hidden}

-- ---- tests of each number below one

some_none : {A : Type 0} (a : A) → Some a ≡ None → ⊥
some_none a h = cc

-- ---- the rows that a file defines come after the other rows, in table order

row_defined : Option Row → Bool
row_defined None = false
row_defined (Some r) = is_defined r.role

definitions_there : each_number name.count (λ n. not (row_defined (slice_get pipe_rows n)) || (nat_le name.defined n && (length (defined (take n pipe_rows)) + name.defined == n))) ≡ true
unfolding pipe_rows constant_rows pipe_state pipe_hardware pipe_defined each_number row_defined
definitions_there = refl

defined_count : length (defined pipe_rows) ≡ name.count - name.defined
unfolding pipe_rows constant_rows pipe_state pipe_hardware pipe_defined
defined_count = refl

inside : (n : ℕ) (r : Row) → slice_get pipe_rows n ≡ Some r → n < name.count
inside n r e = elim (cases_lt n name.count) [
  | inl lt ↦ lt
  | inr le ↦ absurd (some_none r (sym e ∙ slice_get_past pipe_rows n (omega (arith, le, length-pipe_rows))))
]

outside : (n : ℕ) → slice_get pipe_rows n ≡ None → name.count ≤ n
outside n e = elim (cases_lt n name.count) [
  | inl lt ↦ absurd (some_none _ (sym (slice_get-get_or pipe_rows n (record { name = []; class = class.Number; role = role.State }) (omega (arith, lt, length-pipe_rows))) ∙ e))
  | inr le ↦ le
]

place_of_defined : (n : ℕ) (r : Row) → slice_get pipe_rows n ≡ Some r → is_defined r.role ≡ true → (name.defined ≤ n) × (length (defined (take n pipe_rows)) + name.defined ≡ n)
unfolding row_defined
place_of_defined n r e d =
    let test = number_tests name.count (λ i. not (row_defined (slice_get pipe_rows i)) || (nat_le name.defined i && (length (defined (take i pipe_rows)) + name.defined == i))) definitions_there n (inside n r e) in
    let there : row_defined (slice_get pipe_rows n) ≡ true = ap row_defined e ∙ d in
    let both = and_parts (nat_le name.defined n) (length (defined (take n pipe_rows)) + name.defined == n) (implied (row_defined (slice_get pipe_rows n)) (nat_le name.defined n && (length (defined (take n pipe_rows)) + name.defined == n)) test there) in
    (leb-true name.defined n both.0, eqb-true _ _ both.1)

module _ (v : Variant) (terms : List Term) (p : PipeState) (f : ℕ → ℕ) (s : Solves v terms p f) (bound : IsBound pipe_rows terms) where
  total : length terms ≡ name.count - name.defined
  total = bound.whole ∙ defined_count

  defined_word : (n k : ℕ) → k + name.defined ≡ n → k < (name.count - name.defined) → f n ≡ value word_meaning f (term_at terms k)
  defined_word n k e lt =
      let index : n - name.defined ≡ k = omega (arith, e) in
      s n
      ∙ (definition_rule (given p) name.f_pc (block v p) terms n f (omega (arith, e, length-given p)) (omega (arith, e))
      ∙ (rw (index, slice_get-get_or terms k (Num 0) (omega (arith, lt, total))) refl))

  past_word : (n : ℕ) → name.count ≤ n → f n ≡ 0
  past_word n le =
      s n
      ∙ (definition_rule (given p) name.f_pc (block v p) terms n f (omega (arith, le, length-given p)) (omega (arith, le))
      ∙ ap (λ o. term_value o f) (slice_get_past terms (n - name.defined) (omega (arith, le, total))))

  pub defined_by : IsDefinedBy pipe_rows terms f
  defined_by = record {
    defined = λ n r e d.
        let q = place_of_defined n r e d in
        let lt = inside n r e in
        defined_word n (length (defined (take n pipe_rows))) q.1 (omega (arith, q.1, lt));
    past = λ n e. past_word n (outside n e);
  }

-- ---- constants, state and hardware

is_constant : Role → ℕ → Bool
is_constant (role.Constant k) x = k == x
is_constant role.State x = false
is_constant (role.Hardware ids) x = false
is_constant role.Defined x = false

constant_at : Option Row → ℕ → Bool
constant_at None x = false
constant_at (Some r) x = is_constant r.role x

inputs_at : Option Row → List ℕ
inputs_at None = []
inputs_at (Some r) = inputs r.role

constants_there : each_number constant_count (λ n. constant_at (slice_get pipe_rows n) (get_or constants n 0)) ≡ true
unfolding pipe_rows constant_rows pipe_state pipe_hardware pipe_defined constants each_number constant_at is_constant
constants_there = refl

all_defined : each_number (name.count - name.defined) (λ k. row_defined (slice_get pipe_rows (name.f_pc + k))) ≡ true
unfolding pipe_rows constant_rows pipe_state pipe_hardware pipe_defined each_number row_defined
all_defined = refl

constant_leaf : (field : ℕ → ℕ) (i x : ℕ) (o : Option Row) → constant_at o x ≡ true → row_leaf field i o (Number 0) ≡ Number x
unfolding constant_at is_constant
constant_leaf field i x None h = cc
constant_leaf field i x (Some r) h = by r.role h
  where
    by : (q : Role) → is_constant q x ≡ true → role_leaf field i r.class q (Number 0) ≡ Number x
    by (role.Constant k) h = ap Number (eqb-true k x h)
    by role.State h = cc
    by (role.Hardware ids) h = cc
    by role.Defined h = cc

-- a number has a property if the first number has it, and each later one
by_number : (P : ℕ → Type 0) (n first : ℕ) → first ≤ n → P first → (first + 1 ≤ n → P n) → P n
by_number P n first le here later = elim (cases_eq n first) [
  | inl e ↦ subst P (sym e) here
  | inr ne ↦ later (above ne)
]
  where
    above : (n ≡ first → ⊥) → first + 1 ≤ n
    above ne = grind (arith, ne, le)

given_leaf : (field : ℕ → ℕ) (n : ℕ) (r : Row) (a b : Leaf) → is_defined r.role ≡ false → role_leaf field n r.class r.role a ≡ role_leaf field n r.class r.role b
given_leaf field n r a b d = by r.role d
  where
    by : (q : Role) → is_defined q ≡ false → role_leaf field n r.class q a ≡ role_leaf field n r.class q b
    by (role.Constant k) d = refl
    by role.State d = refl
    by (role.Hardware ids) d = refl
    by role.Defined d = cc

module _ (x : RunContext) (terms : List Term) (c : Schedule) (p : PipeState) (f : ℕ → ℕ) (cv : ℕ → Leaf) (s : Solves x.v terms p f)
    (ring : leaf_value f (cv name.mem_addr) ≡ f name.mem_addr → leaf_value f (cv name.mem_read) ≡ f name.mem_read → leaf_value f (cv name.mem_write) ≡ f name.mem_write →
    f name.dmem_error ≡ hidden c.m (fault_of x (in_m c))) where
  numbers : ℕ → ℕ
  numbers = number_of (fields_at x c p f (f_line x c f))

  -- for a row that the file doesn't define: the word of its leaf is the value of its name, if this holds for its inputs
  Step : ℕ → Type 0
  Step n = AllByRecursion (λ m. leaf_value f (cv m) ≡ f m) (inputs_at (slice_get pipe_rows n)) → leaf_value f (row_leaf numbers n (slice_get pipe_rows n) (Number 0)) ≡ f n

  given_word : (n : ℕ) → n < name.hardware → f n ≡ get_or (given p) n 0
  unfolding given constants state_words rule_of
  given_word n lt = s n ∙ (rw (lt-ltb n name.hardware lt) refl)

  at_constant : (n : ℕ) → n < constant_count → Step n
  unfolding Step given
  at_constant n lt = λ a.
      let there = number_tests constant_count (λ i. constant_at (slice_get pipe_rows i) (get_or constants i 0)) constants_there n lt in
      ap (leaf_value f) (constant_leaf numbers n (get_or constants n 0) (slice_get pipe_rows n) there)
      ∙ sym (given_word n (omega (arith, lt)) ∙ get_or_append_left constants (state_words p) 0 n (omega (arith, lt, constants_count)))

  at_signal : (n : ℕ) → name.D_stat ≤ n → n < name.f_pc → Step n
  unfolding Step numbers inputs_at pipe_rows constant_rows pipe_state pipe_hardware pipe_defined number_of fields_at f_line rule_of given constants state_words
  at_signal n ge lt =
      by_number Step n name.D_stat ge (λ _. sym (s name.D_stat))
      (λ ge. by_number Step n name.D_icode ge (λ _. sym (s name.D_icode))
      (λ ge. by_number Step n name.D_ifun ge (λ _. sym (s name.D_ifun))
      (λ ge. by_number Step n name.D_rA ge (λ _. sym (s name.D_rA))
      (λ ge. by_number Step n name.D_rB ge (λ _. sym (s name.D_rB))
      (λ ge. by_number Step n name.E_stat ge (λ _. sym (s name.E_stat))
      (λ ge. by_number Step n name.E_icode ge (λ _. sym (s name.E_icode))
      (λ ge. by_number Step n name.E_ifun ge (λ _. sym (s name.E_ifun))
      (λ ge. by_number Step n name.E_dstE ge (λ _. sym (s name.E_dstE))
      (λ ge. by_number Step n name.E_dstM ge (λ _. sym (s name.E_dstM))
      (λ ge. by_number Step n name.E_srcA ge (λ _. sym (s name.E_srcA))
      (λ ge. by_number Step n name.E_srcB ge (λ _. sym (s name.E_srcB))
      (λ ge. by_number Step n name.M_stat ge (λ _. sym (s name.M_stat))
      (λ ge. by_number Step n name.M_icode ge (λ _. sym (s name.M_icode))
      (λ ge. by_number Step n name.M_ifun ge (λ _. sym (s name.M_ifun))
      (λ ge. by_number Step n name.M_dstE ge (λ _. sym (s name.M_dstE))
      (λ ge. by_number Step n name.M_dstM ge (λ _. sym (s name.M_dstM))
      (λ ge. by_number Step n name.W_stat ge (λ _. sym (s name.W_stat))
      (λ ge. by_number Step n name.W_icode ge (λ _. sym (s name.W_icode))
      (λ ge. by_number Step n name.W_dstE ge (λ _. sym (s name.W_dstE))
      (λ ge. by_number Step n name.W_dstM ge (λ _. sym (s name.W_dstM))
      (λ ge. by_number Step n name.F_predPC ge (λ _. refl)
      (λ ge. by_number Step n name.D_valC ge (λ _. refl)
      (λ ge. by_number Step n name.D_valP ge (λ _. refl)
      (λ ge. by_number Step n name.E_valC ge (λ _. refl)
      (λ ge. by_number Step n name.E_valA ge (λ _. refl)
      (λ ge. by_number Step n name.E_valB ge (λ _. refl)
      (λ ge. by_number Step n name.M_valE ge (λ _. refl)
      (λ ge. by_number Step n name.M_valA ge (λ _. refl)
      (λ ge. by_number Step n name.W_valE ge (λ _. refl)
      (λ ge. by_number Step n name.W_valM ge (λ _. refl)
      (λ ge. by_number Step n name.M_Cnd ge (λ _. sym (s name.M_Cnd))
      (λ ge. by_number Step n name.imem_icode ge (λ _. refl)
      (λ ge. by_number Step n name.imem_ifun ge (λ _. refl)
      (λ ge. by_number Step n name.imem_error ge (λ _. refl)
      (λ ge. by_number Step n name.f_valC ge (λ _. refl)
      (λ ge. by_number Step n name.f_valP ge (λ _. refl)
      (λ ge. by_number Step n name.d_rvalA ge (λ _. refl)
      (λ ge. by_number Step n name.d_rvalB ge (λ _. refl)
      (λ ge. by_number Step n name.e_valE ge (λ _. refl)
      (λ ge. by_number Step n name.e_Cnd ge (λ _. refl)
      (λ ge. by_number Step n name.m_valM ge (λ _. refl)
      (λ ge. by_number Step n name.dmem_error ge (λ a. sym (ring a.0 a.1.0 a.1.1.0))
      (λ ge. absurd (omega (arith, ge, lt)))))))))))))))))))))))))))))))))))))))))))))

  step : (n : ℕ) (r : Row) → slice_get pipe_rows n ≡ Some r → is_defined r.role ≡ false → Step n
  unfolding row_defined
  step n r e d = elim (cases_lt n constant_count) [
    | inl lt ↦ at_constant n lt
    | inr le ↦ elim (cases_lt n name.f_pc) [
      | inl lt ↦ at_signal n le lt
      | inr above ↦ clash (is_defined r.role) (is_so above) d
    ]
  ]
    where
      is_so : name.f_pc ≤ n → is_defined r.role ≡ true
      is_so above =
          let same : name.f_pc + (n - name.f_pc) ≡ n = omega (arith, above) in
          sym (ap row_defined (ap (slice_get pipe_rows) same ∙ e))
          ∙ number_tests (name.count - name.defined) (λ k. row_defined (slice_get pipe_rows (name.f_pc + k))) all_defined (n - name.f_pc) (omega (arith, above, inside n r e))

  pub worth_given : AreControls pipe_rows terms (number_of (fields_at x c p f (f_line x c f))) (real_assignment f) cv → IsWorthGiven pipe_rows f cv
  unfolding Step numbers inputs_at
  worth_given k n r e d a =
      ap (leaf_value f) (k n
      ∙ rule_row pipe_rows terms (number_of (fields_at x c p f (f_line x c f))) (real_assignment f) n cv r e
      ∙ given_leaf (number_of (fields_at x c p f (f_line x c f))) n r _ (Number 0) d)
      ∙ subst (λ o. leaf_value f (row_leaf numbers n o (Number 0)) ≡ f n) e (step n r e d (subst (λ o. AllByRecursion (λ m. leaf_value f (cv m) ≡ f m) (inputs_at o)) (sym e) a))

  -- along the order, with M's error bit once what it depends on agrees
  pub all_agree : (ids : List ℕ) → IsBound pipe_rows terms → IsOrderOf pipe_rows terms ids →
      AreControls pipe_rows terms (number_of (fields_at x c p f (f_line x c f))) (real_assignment f) cv → (n : ℕ) → leaf_value f (cv n) ≡ f n
  all_agree ids bound o k =
      agreement pipe_rows terms ids (number_of (fields_at x c p f (f_line x c f))) f cv o k (defined_by x.v terms p f s bound) (worth_given k)
