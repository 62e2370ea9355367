-- What a term picks, and its value.
use Rattle.std.proofs.Common.{◌≡◌, ℕ, ◌+◌, ◌<◌, Bool, true, false, not, if◌then◌else◌, List, [], ◌∷◌, map, length, drop, get_or, slice_get, Option, None, Some, refl, sym, ap, ◌∙◌, arith}
use Rattle.std.specs.Prelude.{nat_eq, option_and_then}
use Rattle.std.proofs.lemmas.Bool.Decides.{nat_tests}
use Rattle.std.proofs.lemmas.List.{drop_more}
use Rattle.std.proofs.lemmas.Option.{none-some}
use Rattle.std.specs.List.{AllByRecursion}
use Rattle.hcl_tree.specs.declared.tree.CmpOp.{CmpOp}
use Rattle.hcl_types.specs.Terms.{branch_value, names, picked, value, word_meaning}
use Rattle.hcl_types.specs.declared.term.Term.{Term}
use Rattle.hcl_types.specs.declared.term.Term.TheVariants.{Num, Name, Not, And, Or, Cmp, In, Case}
use Rattle.hcl_types.specs.declared.term.TermBranch.{TermBranch}
use Rattle.hcl_types.proofs.Related.{Alike, related}
use Rattle.hcl_types.proofs.Values.{value_And, value_Case, value_Cmp, value_In, value_Name, value_Not, value_Num, value_Or, value_branch}
use Rattle.dp_signals.specs.Equations.{defined_value, rule_of, term_value}
use Rattle.dp_signals.specs.PipeEquations.{constants, given, state_words}
use Rattle.dp_signals.specs.PipeNames as row
use Rattle.pipe_stage_text.specs.Sources.{HasItsSource, NamedWord, PicksByTerms, PicksTheValue, by_name, picked_name, picks}

some_is : (x y : ℕ) → Some x ≡ Some y → x ≡ y
some_is x y e = cc

abbrev name_of : NamedWord → Option ℕ
name_of x = x.name

is_zero : (n : ℕ) → nat_eq n 0 ≡ true → n ≡ 0
is_zero n e = grind (arith, nat_tests)

unless : (b : Bool) (x y : Option ℕ) → (b ≡ true → ⊥) → (if not b then x else y) ≡ x
unless true x y h = absurd (h refl)
unless false x y h = refl

holds_then : (n : ℕ) (x y : Option ℕ) → (n ≡ 0 → ⊥) → (if word_meaning.holds n then x else y) ≡ x
holds_then n x y h = unless (nat_eq n 0) x y (λ e. h (is_zero n e))

name_if : (b : Bool) (x y : NamedWord) → name_of (if b then x else y) ≡ (if b then x.name else y.name)
name_if true x y = refl
name_if false x y = refl

-- the word is the value, and a name has it
abbrev Agrees : (ℕ → ℕ) → NamedWord → ℕ → Type 0
Agrees f x n = (x.word ≡ n) × ((id : ℕ) → x.name ≡ Some id → n ≡ f id)

module _ (f : ℕ → ℕ) where
  alike : Alike picks word_meaning (Agrees f)
  alike = record {
    nums = λ n. (refl, λ id e. absurd (none-some id e));
    bools = λ b. (refl, λ id e. absurd (none-some id e));
    holds = λ x y r. ap word_meaning.holds r.0;
    compares = λ op x x' y y' r r'. ap (λ z. word_meaning.cmp op z x'.word) r.0 ∙ ap (word_meaning.cmp op y) r'.0;
  }

  at_names : (ids : List ℕ) → AllByRecursion (λ id. Agrees f (by_name f id) (f id)) ids
  at_names [] = tt
  at_names (id ∷ ids) = ((refl, λ other e. ap f (some_is id other e)), at_names ids)

  agrees : (t : Term) → Agrees f (value picks (by_name f) t) (value word_meaning f t)
  agrees t = related picks word_meaning (Agrees f) alike (by_name f) f t (at_names (names t))

  -- ---- term by term

  pub picks_Name : (id : ℕ) → picked_name f (Name id) ≡ Some id
  unfolding picked_name
  picks_Name id = ap name_of (value_Name picks (by_name f) id)

  pub picks_Num : (n : ℕ) → picked_name f (Num n) ≡ None
  unfolding picked_name
  picks_Num n = ap name_of (value_Num picks (by_name f) n)

  pub picks_Not : (t : Term) → picked_name f (Not t) ≡ None
  unfolding picked_name
  picks_Not t = ap name_of (value_Not picks (by_name f) t)

  pub picks_And : (ts : List Term) → picked_name f (And ts) ≡ None
  unfolding picked_name
  picks_And ts = ap name_of (value_And picks (by_name f) ts)

  pub picks_Or : (ts : List Term) → picked_name f (Or ts) ≡ None
  unfolding picked_name
  picks_Or ts = ap name_of (value_Or picks (by_name f) ts)

  pub picks_Cmp : (op : CmpOp) (t u : Term) → picked_name f (Cmp op t u) ≡ None
  unfolding picked_name
  picks_Cmp op t u = ap name_of (value_Cmp picks (by_name f) op t u)

  pub picks_In : (t : Term) (ts : List Term) → picked_name f (In t ts) ≡ None
  unfolding picked_name
  picks_In t ts = ap name_of (value_In picks (by_name f) t ts)

  pub picks_no_branch : picked_name f (Case []) ≡ None
  unfolding picked_name
  picks_no_branch = ap name_of (value_Case picks (by_name f) [])

  pub picks_branch : (b : TermBranch) (bs : List TermBranch) →
      picked_name f (Case (b ∷ bs)) ≡ (if word_meaning.holds (value word_meaning f b.guard) then picked_name f b.value else picked_name f (Case bs))
  unfolding picked_name
  picks_branch b bs =
      let rest : NamedWord = picked picks.holds (picks.num 0) (map (branch_value picks (by_name f)) bs) in
      let guard : NamedWord = value picks (by_name f) b.guard in
      let taken : NamedWord = value picks (by_name f) b.value in
      ap name_of (value_Case picks (by_name f) (b ∷ bs))
      ∙ ap (λ (x : NamedWord × NamedWord). name_of (if picks.holds x.0 then x.1 else rest)) (value_branch picks (by_name f) b)
      ∙ name_if (picks.holds guard) taken rest
      ∙ ap (λ n. if word_meaning.holds n then taken.name else rest.name) (agrees b.guard).0
      ∙ ap (λ n. if word_meaning.holds (value word_meaning f b.guard) then taken.name else n) (ap name_of (sym (value_Case picks (by_name f) bs)))

  -- ---- a loop over the branches

  item_is : (all : List TermBranch) (i : ℕ) (b : TermBranch) → i < length all → b ≡ get_or all i b →
      picked_name f (Case (drop i all)) ≡ picked_name f (Case (b ∷ drop (i + 1) all))
  item_is all i b inside is =
      ap (λ bs. picked_name f (Case bs)) (drop_more all i b inside) ∙ ap (λ (x : TermBranch). picked_name f (Case (x ∷ drop (i + 1) all))) (sym is)

  pub picks_later : (all : List TermBranch) (i : ℕ) (b : TermBranch) → i < length all → b ≡ get_or all i b → value word_meaning f b.guard ≡ 0 →
      picked_name f (Case (drop (i + 1) all)) ≡ picked_name f (Case (drop i all))
  picks_later all i b inside is zero_guard =
      sym (item_is all i b inside is ∙ picks_branch b (drop (i + 1) all)
      ∙ ap (λ n. if word_meaning.holds n then picked_name f b.value else picked_name f (Case (drop (i + 1) all))) zero_guard)

  pub picks_here : (all : List TermBranch) (i : ℕ) (b : TermBranch) → i < length all → b ≡ get_or all i b → (value word_meaning f b.guard ≡ 0 → ⊥) →
      picked_name f b.value ≡ picked_name f (Case (drop i all))
  picks_here all i b inside is holds =
      sym (item_is all i b inside is ∙ picks_branch b (drop (i + 1) all)
      ∙ holds_then (value word_meaning f b.guard) (picked_name f b.value) (picked_name f (Case (drop (i + 1) all))) holds)

pub picks_by_terms : (f : ℕ → ℕ) → PicksByTerms f
picks_by_terms f = record {
  names = picks_Name f;
  no_branches = picks_no_branch f;
  branches = picks_branch f;
  numbers = picks_Num f;
  negations = picks_Not f;
  conjunctions = picks_And f;
  disjunctions = picks_Or f;
  comparisons = picks_Cmp f;
  memberships = picks_In f;
}

pub picks_the_value : PicksTheValue
unfolding picked_name
picks_the_value f t id e = (agrees f t).1 id e

-- ---- in a cycle

pub value_of_source : (f : ℕ → ℕ) (id : ℕ) (term : Option Term) → option_and_then (picked_name f) term ≡ Some id → term_value term f ≡ f id
value_of_source f id None e = absurd (none-some id e)
value_of_source f id (Some t) e = picks_the_value f t id e

pub pc_source : HasItsSource row.f_pc
unfolding rule_of given constants state_words defined_value
pc_source v terms p f id solves e = solves row.f_pc ∙ value_of_source f id (slice_get terms 0) e

pub val_a_source : HasItsSource row.d_valA
unfolding rule_of given constants state_words defined_value
val_a_source v terms p f id solves e = solves row.d_valA ∙ value_of_source f id (slice_get terms 12) e

pub val_b_source : HasItsSource row.d_valB
unfolding rule_of given constants state_words defined_value
val_b_source v terms p f id solves e = solves row.d_valB ∙ value_of_source f id (slice_get terms 13) e
