-- Operands, numbers and the values of terms.
use Rattle.std.proofs.Common.{◌≡◌, ◌≢◌, ◌+◌, ◌-◌, ◌<◌, ◌≤◌, nat_eq, nat_lt, not, inl, inr, ℕ, Bool, true, false, if◌then◌else◌, List, [], ◌∷◌, ◌++◌, length, map, drop, get_or, refl, sym, ap, subst, ◌∙◌, arith}
use Rattle.std.proofs.lemmas.Bool.{cases_eq, eq-eqb, ne_eqb}
use Rattle.hcl_tree.specs.declared.tree.CmpOp.TheVariants.{Eq}
use Rattle.hcl_types.specs.declared.term.Term.{Term}
use Rattle.hcl_types.specs.declared.term.TermBranch.{TermBranch}
use Rattle.hcl_types.specs.declared.term.Term.TheVariants.{Num, Name, Case}
use Rattle.hcl_types.specs.Lists.{each, some}
use Rattle.hcl_types.specs.Terms.{at, branch_names, branch_value, compare_words, joined, names, picked, value, word_meaning}
use Rattle.hcl_types.proofs.Each.{each_left, each_right}
use Rattle.hcl_types.proofs.Inductions.{induct}
use Rattle.hcl_types.proofs.Values.{value_Num, value_Name, value_Not, value_And, value_Or, value_Cmp, value_In, value_Case, value_branch, names_Name, names_Case, names_branch}
use Rattle.hcl_compile.specs.declared.node.TheConstants.{ROWS}
use Rattle.hcl_compile.specs.declared.node.Node.{Node}
use Rattle.hcl_compile.specs.declared.decisions.Decisions.{Decisions}
use Rattle.hcl_compile.specs.declared.equality.Equality.TheVariants.{Known, Rows, Code, Other}
use Rattle.hcl_compile.specs.declared.numbers.Operand.TheVariants.{Number, Row}
use Rattle.hcl_compile.specs.declared.targets.Targets.{Targets}
use Rattle.hcl_compile.specs.Making.{Comes, Decides, IsEquality, IsNumber, IsOperand, IsTest, IsTruth, IsValue, IsValued, Says, chosen, code_equality}
use Rattle.hcl_compile.specs.Walks.{Begins, Ends, at_row, Within}
use Rattle.hcl_compile.proofs.Choosing.{decides_known, drop_whole, split, valued_branch}
use Rattle.hcl_compile.proofs.Made.{keeps_all}

-- ---- targets of rows

pub row_ends : (env : ℕ → ℕ) (rows : ℕ) (terms : List Term) (nodes : List Node) (id target word : ℕ) → target ≡ ROWS + id → id < rows → word ≡ env id → Ends env rows terms nodes target word
row_ends env rows terms nodes id target word e h w =
    let back : target - ROWS ≡ id = omega (arith, e) in
    at_row target word (omega (arith, e)) (omega (arith, e)) (w ∙ ap env (sym back))

pub number_found : (constants : List ℕ) (n id target : ℕ) → id < length constants → at constants id ≡ n → target ≡ ROWS + id → IsNumber constants n target
number_found constants n id target h e t terms nodes env rows begins =
    row_ends env rows terms nodes id target n t (omega (arith, begins.room)) (sym (begins.constant id h ∙ e))

-- ---- operands

pub name_known : (constants : List ℕ) (t : Term) (id n : ℕ) → t ≡ Name id → id < length constants → at constants id ≡ n → (env : ℕ → ℕ) (rows : ℕ) → Begins constants env rows → value word_meaning env t ≡ n
name_known constants t id n e h a env rows begins = ap (value word_meaning env) e ∙ value_Name word_meaning env id ∙ begins.constant id h ∙ a

pub name_row : (t : Term) (id : ℕ) → t ≡ Name id → (env : ℕ → ℕ) (rows : ℕ) → Within rows (names t) → (id < rows) × (value word_meaning env t ≡ env id)
name_row t id e env rows within = (first (subst (Within rows) (ap names e ∙ names_Name id) within), ap (value word_meaning env) e ∙ value_Name word_meaning env id)
  where
    first : Within rows (id ∷ []) → id < rows
    first w = w.0

pub number_known : (t : Term) (n : ℕ) → t ≡ Num n → (env : ℕ → ℕ) → value word_meaning env t ≡ n
number_known t n e env = ap (value word_meaning env) e ∙ value_Num word_meaning env n

-- ---- values

-- a term is worth a truth unless it is a number, a name or a case list
abbrev pub TruthUnless : Term → Type 0
TruthUnless t = ((n : ℕ) → t ≢ Num n) → ((id : ℕ) → t ≢ Name id) → ((bs : List TermBranch) → t ≢ Case bs) → IsTruth t

pub is_truth : (t : Term) → TruthUnless t
is_truth = induct TruthUnless (λ b. Unit {0})
    (λ n a b c env. absurd (a n refl))
    (λ id a b c env. absurd (b id refl))
    (λ t p a b c env. (not (word_meaning.holds (value word_meaning env t)), value_Not word_meaning env t))
    (λ ts p a b c env. (each word_meaning.holds (map (value word_meaning env) ts), value_And word_meaning env ts))
    (λ ts p a b c env. (some word_meaning.holds (map (value word_meaning env) ts), value_Or word_meaning env ts))
    (λ op t u p q a b c env. (compare_words op (value word_meaning env t) (value word_meaning env u), value_Cmp word_meaning env op t u))
    (λ t us p q a b c env. (some (compare_words Eq (value word_meaning env t)) (map (value word_meaning env) us), value_In word_meaning env t us))
    (λ bs p a b c env. absurd (c bs refl))
    (λ b p q. tt)

module _ (constants : List ℕ) where
  pub truth_value : (t : Term) (old new : Decisions) (to : Targets) (place : ℕ) → IsTruth t → IsNumber constants 1 to.hit → IsNumber constants 0 to.miss
      → IsTest constants t old new to place → IsValue constants t old new place
  truth_value t old new to place truth one zero' d = record {
    keeps = d.keeps;
    ends = λ env rows begins within. d.leads env rows (value word_meaning env t) begins within (by (truth env).0 env rows begins (truth env).1);
  }
    where
      by : (b : Bool) (env : ℕ → ℕ) (rows : ℕ) → Begins constants env rows → value word_meaning env t ≡ word_meaning.bool b → Comes env rows old (chosen to (word_meaning.holds (value word_meaning env t))) (value word_meaning env t)
      by true env rows begins e = rw e (one old.terms.items old.nodes.items env rows begins)
      by false env rows begins e = rw e (zero' old.terms.items old.nodes.items env rows begins)

  pub valued_target : (t : Term) (d : Decisions) (target : ℕ) → ((terms : List Term) (nodes : List Node) (env : ℕ → ℕ) (rows : ℕ) → Begins constants env rows → Within rows (names t) → Ends env rows terms nodes target (value word_meaning env t))
      → IsValue constants t d d target
  valued_target t d target h = record { keeps = keeps_all d; ends = λ env rows begins within. h d.terms.items d.nodes.items env rows begins within }

  pub valued_case : (t : Term) (bs : List TermBranch) (old new : Decisions) (place : ℕ) → t ≡ Case bs
      → IsValued constants (joined (map branch_names bs)) (λ env. picked word_meaning.holds 0 (map (branch_value word_meaning env) bs)) old new place → IsValue constants t old new place
  valued_case t bs old new place e v = subst (λ x. IsValue constants x old new place) (sym e) (record {
    keeps = v.keeps;
    ends = λ env rows begins within. subst (λ x. Comes env rows new place x) (sym (value_Case word_meaning env bs)) (v.ends env rows begins (subst (Within rows) (names_Case bs) within));
  })

-- ---- branches, from the last

abbrev pub IsCase : List ℕ → List TermBranch → ℕ → Decisions → Decisions → ℕ → Type 0
IsCase constants bs left old new place =
    (left ≤ length bs) × IsValued constants (joined (map branch_names (drop left bs))) (λ env. picked word_meaning.holds 0 (map (branch_value word_meaning env) (drop left bs))) old new place

module _ (constants : List ℕ) (bs : List TermBranch) (old : Decisions) where
  pub case_none : (left none : ℕ) → left ≡ length bs → IsNumber constants 0 none → IsCase constants bs left old old none
  case_none left none e zero' = (
    omega arith,
    subst (λ xs. IsValued constants (joined (map branch_names xs)) (λ env. picked word_meaning.holds 0 (map (branch_value word_meaning env) xs)) old old none) (sym nothing)
        (record { keeps = keeps_all old; ends = λ env rows begins within. zero' old.terms.items old.nodes.items env rows begins }),
  )
    where
      nothing : drop left bs ≡ []
      nothing = ap (λ k. drop k bs) e ∙ drop_whole bs

  pub case_more : (mid later new : Decisions) (b : TermBranch) (left next rest taken place : ℕ) → next + 1 ≡ left → b ≡ get_or bs next b → IsCase constants bs left old mid rest
      → IsValue constants b.value mid later taken → IsTest constants b.guard later new (record { hit = taken; miss = rest }) place → IsCase constants bs next old new place
  case_more mid later new b left next rest taken place down here r v d = (
    omega (arith, r.0),
    subst (λ xs. IsValued constants (joined (map branch_names xs)) (λ env. picked word_meaning.holds 0 (map (branch_value word_meaning env) xs)) old new place)
        (sym (split bs b left next down (omega (arith, r.0)) here)) (record {
          keeps = whole.keeps;
          ends = λ env rows begins within.
              subst (λ (x : ℕ × ℕ). Comes env rows new place (if word_meaning.holds x.0 then x.1 else picked word_meaning.holds 0 (map (branch_value word_meaning env) (drop left bs)))) (sym (value_branch word_meaning env b))
              (whole.ends env rows begins (subst (λ ids. Within rows (ids ++ joined (map branch_names (drop left bs)))) (names_branch b) within));
        }),
  )
    where
      whole : IsValued constants ((names b.guard ++ names b.value) ++ joined (map branch_names (drop left bs)))
          (λ env. if word_meaning.holds (value word_meaning env b.guard) then value word_meaning env b.value else picked word_meaning.holds 0 (map (branch_value word_meaning env) (drop left bs))) old new place
      whole = valued_branch constants (names b.guard) (names b.value) (joined (map branch_names (drop left bs))) (λ env. word_meaning.holds (value word_meaning env b.guard)) (λ env. value word_meaning env b.value)
          (λ env. picked word_meaning.holds 0 (map (branch_value word_meaning env) (drop left bs))) old mid later new rest taken place r.1 v d

  pub case_end : (new : Decisions) (left place : ℕ) → IsCase constants bs left old new place → left ≡ 0
      → IsValued constants (joined (map branch_names bs)) (λ env. picked word_meaning.holds 0 (map (branch_value word_meaning env) bs)) old new place
  case_end new left place r e = subst (λ k. IsValued constants (joined (map branch_names (drop k bs))) (λ env. picked word_meaning.holds 0 (map (branch_value word_meaning env) (drop k bs))) old new place) e r.1

-- ---- equality

module _ (constants : List ℕ) (x y : Term) where
  pub equal_rows : (a b : ℕ) → IsOperand constants x (Row a) → IsOperand constants y (Row b) → IsEquality constants x y (Rows a b)
  equal_rows a b p q env rows begins v w = ((p env rows begins v).0, (q env rows begins w).0, rw ((p env rows begins v).1, (q env rows begins w).1) refl)

  pub equal_code : (a n : ℕ) → IsOperand constants x (Row a) → IsOperand constants y (Number n) → IsEquality constants x y (code_equality a n)
  equal_code a n p q env rows begins v w = by (nat_lt n 16)
    where
      by : (b : Bool) → Says env rows (nat_eq (value word_meaning env x) (value word_meaning env y)) (if b then Code a n else Other)
      by true = ((p env rows begins v).0, rw ((p env rows begins v).1, q env rows begins) refl)
      by false = tt

  pub equal_number : (a n : ℕ) → IsOperand constants x (Number n) → IsOperand constants y (Row a) → IsEquality constants x y (code_equality a n)
  equal_number a n p q env rows begins v w = by (nat_lt n 16)
    where
      by : (b : Bool) → Says env rows (nat_eq (value word_meaning env x) (value word_meaning env y)) (if b then Code a n else Other)
      by true = (
        (q env rows begins w).0,
        rw ((q env rows begins w).1, p env rows begins) (elim (cases_eq n (env a)) [
          | inl e ↦ eq-eqb n (env a) e ∙ sym (eq-eqb (env a) n (sym e))
          | inr e ↦ ne_eqb n (env a) e ∙ sym (ne_eqb (env a) n (λ f. e (sym f)))
        ]),
      )
      by false = tt

  abbrev pub Equal : Decisions → Decisions → Targets → ℕ → Type 0
  Equal old new to place = Decides constants (names x ++ names y) (λ env. nat_eq (value word_meaning env x) (value word_meaning env y)) old new to place

  pub put_known : (b : Bool) (d : Decisions) (to : Targets) (place : ℕ) → IsEquality constants x y (Known b) → place ≡ chosen to b → Equal d d to place
  put_known b d to place e p = decides_known constants (names x ++ names y) (λ env. nat_eq (value word_meaning env x) (value word_meaning env y)) b d to place
      (λ env rows begins within. e env rows begins (each_left (λ id. id < rows) (names x) (names y) within) (each_right (λ id. id < rows) (names x) (names y) within)) p

  pub put_rows : (a b : ℕ) (old new : Decisions) (to : Targets) (place : ℕ) → IsEquality constants x y (Rows a b) → Decides constants (a ∷ b ∷ []) (λ env. nat_eq (env a) (env b)) old new to place
      → Equal old new to place
  put_rows a b old new to place e d = record {
    keeps = d.keeps;
    leads = λ env rows word begins within c.
        let s = e env rows begins (each_left (λ id. id < rows) (names x) (names y) within) (each_right (λ id. id < rows) (names x) (names y) within) in
        d.leads env rows word begins (s.0, (s.1, tt)) (subst (λ t. Comes env rows old (chosen to t) word) s.2 c);
  }

  pub put_row_code : (a n : ℕ) (old new : Decisions) (to : Targets) (place : ℕ) → IsEquality constants x y (Code a n) → Decides constants (a ∷ []) (λ env. nat_eq (env a) n) old new to place
      → Equal old new to place
  put_row_code a n old new to place e d = record {
    keeps = d.keeps;
    leads = λ env rows word begins within c.
        let s = e env rows begins (each_left (λ id. id < rows) (names x) (names y) within) (each_right (λ id. id < rows) (names x) (names y) within) in
        d.leads env rows word begins (s.0, tt) (subst (λ t. Comes env rows old (chosen to t) word) s.1 c);
  }
