-- How the decision of a term follows from those of its parts: tests, branches, lists of terms and members.
use Rattle.std.proofs.Common.{◌≡◌, ◌+◌, ◌<◌, ◌≤◌, ◌&&◌, ◌||◌, nat_eq, not, ℕ, Bool, true, false, if◌then◌else◌, List, [], ◌∷◌, ◌++◌, length, map, drop, get_or, refl, sym, ap, subst, ◌∙◌, arith}
use Rattle.std.proofs.lemmas.List.{drop_more}
use Rattle.std.specs.Prelude.{MatchOption, None, Option, Some}
use Rattle.hcl_tree.specs.declared.tree.CmpOp.TheVariants as op
use Rattle.hcl_types.specs.declared.term.Term.{Term}
use Rattle.hcl_types.specs.declared.term.Term.TheVariants as terms
use Rattle.hcl_types.specs.Lists.{each, some}
use Rattle.hcl_types.specs.Terms.{compare_words, joined, names, value, word_meaning}
use Rattle.hcl_types.proofs.Each.{each_both, each_left, each_right}
use Rattle.hcl_types.proofs.Values.{value_Not, value_And, value_Or, value_Cmp, value_In, names_Not, names_And, names_Or, names_Cmp, names_In}
use Rattle.hcl_compile.specs.declared.decisions.Decisions.{Decisions}
use Rattle.hcl_compile.specs.declared.targets.Quantifier.{Quantifier}
use Rattle.hcl_compile.specs.declared.targets.Quantifier.TheVariants.{All, Any}
use Rattle.hcl_compile.specs.declared.targets.Targets.{Targets}
use Rattle.hcl_compile.specs.Making.{Comes, Decides, IsTest, IsValued, Keeps, ahead_of, chosen, of_none, quantified, swapped}
use Rattle.hcl_compile.specs.Walks.{Begins, Within}
use Rattle.hcl_compile.proofs.Made.{keeps_all, keeps_both}

negated : (to : Targets) (b : Bool) → chosen to (not b) ≡ chosen (swapped to) b
negated to true = refl
negated to false = refl

-- both of two truths, or at least one
abbrev joins : Quantifier → Bool → Bool → Bool
joins All a b = a && b
joins Any a b = a || b

quantified_more : {A : Type 0} (q : Quantifier) (p : A → Bool) (x : A) (xs : List A) → quantified q p (x ∷ xs) ≡ joins q (p x) (quantified q p xs)
quantified_more All p x xs = refl
quantified_more Any p x xs = refl

module _ (constants : List ℕ) where
  -- a decision of one test also decides an equal test that needs at least the same rows
  pub decides_as : (ids jds : List ℕ) (f g : (ℕ → ℕ) → Bool) (old new : Decisions) (to : Targets) (place : ℕ) → Decides constants ids f old new to place
      → ((rows : ℕ) → Within rows jds → Within rows ids) → ((env : ℕ → ℕ) (rows : ℕ) → Begins constants env rows → Within rows jds → g env ≡ f env)
      → Decides constants jds g old new to place
  decides_as ids jds f g old new to place d w s = record {
    keeps = d.keeps;
    leads = λ env rows word begins within c. d.leads env rows word begins (w rows within) (subst (λ x. Comes env rows old (chosen to x) word) (s env rows begins within) c);
  }

  pub decides_known : (ids : List ℕ) (f : (ℕ → ℕ) → Bool) (b : Bool) (d : Decisions) (to : Targets) (place : ℕ) → ((env : ℕ → ℕ) (rows : ℕ) → Begins constants env rows → Within rows ids → f env ≡ b)
      → place ≡ chosen to b → Decides constants ids f d d to place
  decides_known ids f b d to place s e = record {
    keeps = keeps_all d;
    leads = λ env rows word begins within c.
        subst (λ x. Comes env rows d x word) (sym e) (subst (λ x. Comes env rows d (chosen to x) word) (s env rows begins within) c);
  }

  pub decides_not : (ids : List ℕ) (f : (ℕ → ℕ) → Bool) (old new : Decisions) (to : Targets) (place : ℕ) → Decides constants ids f old new (swapped to) place
      → Decides constants ids (λ env. not (f env)) old new to place
  decides_not ids f old new to place d = record {
    keeps = d.keeps;
    leads = λ env rows word begins within c. d.leads env rows word begins within (subst (λ x. Comes env rows old x word) (negated to (f env)) c);
  }

  -- another test in front of others
  pub decides_more : (q : Quantifier) (ids jds : List ℕ) (f g : (ℕ → ℕ) → Bool) (old mid new : Decisions) (to : Targets) (rest place : ℕ) → Decides constants jds g old mid to rest
      → Decides constants ids f mid new (ahead_of q rest to) place → Decides constants (ids ++ jds) (λ env. joins q (f env) (g env)) old new to place
  decides_more q ids jds f g old mid new to rest place d h = record {
    keeps = keeps_both old mid new d.keeps h.keeps;
    leads = λ env rows word begins within c. h.leads env rows word begins (each_left (λ id. id < rows) ids jds within)
        (by q (f env) (g env) env rows word (d.leads env rows word begins (each_right (λ id. id < rows) ids jds within)) c);
  }
    where
      by : (k : Quantifier) (b e : Bool) (env : ℕ → ℕ) (rows word : ℕ) → (Comes env rows old (chosen to e) word → Comes env rows mid rest word)
          → Comes env rows old (chosen to (joins k b e)) word → Comes env rows mid (chosen (ahead_of k rest to) b) word
      by All true e env rows word s c = s c
      by All false e env rows word s c = d.keeps env rows to.miss word c
      by Any true e env rows word s c = d.keeps env rows to.hit word c
      by Any false e env rows word s c = s c

  -- another branch in front of others
  pub valued_branch : (ids jds kds : List ℕ) (f : (ℕ → ℕ) → Bool) (g h : (ℕ → ℕ) → ℕ) (old mid later new : Decisions) (rest taken place : ℕ) → IsValued constants kds h old mid rest
      → IsValued constants jds g mid later taken → Decides constants ids f later new (record { hit = taken; miss = rest }) place
      → IsValued constants ((ids ++ jds) ++ kds) (λ env. if f env then g env else h env) old new place
  valued_branch ids jds kds f g h old mid later new rest taken place r t d = record {
    keeps = keeps_both old mid new r.keeps (keeps_both mid later new t.keeps d.keeps);
    ends = λ env rows begins within.
        let front = each_left (λ id. id < rows) (ids ++ jds) kds within in
        d.leads env rows (if f env then g env else h env) begins (each_left (λ id. id < rows) ids jds front)
        (by (f env) env rows (t.ends env rows begins (each_right (λ id. id < rows) ids jds front))
        (t.keeps env rows rest (h env) (r.ends env rows begins (each_right (λ id. id < rows) (ids ++ jds) kds within))));
  }
    where
      by : (b : Bool) (env : ℕ → ℕ) (rows : ℕ) → Comes env rows later taken (g env) → Comes env rows later rest (h env)
          → Comes env rows later (if b then taken else rest) (if b then g env else h env)
      by true env rows x y = x
      by false env rows x y = y

-- ---- terms

word_holds : (b : Bool) → word_meaning.holds (word_meaning.bool b) ≡ b
word_holds true = refl
word_holds false = refl

pub drop_whole : {A : Type 0} (xs : List A) → drop (length xs) xs ≡ []
drop_whole [] = refl
drop_whole (x ∷ xs) = drop_whole xs

module _ (constants : List ℕ) (old new : Decisions) (to : Targets) (place : ℕ) where
  -- a decision of `f` tests each term whose value is that truth
  pub test_as : (ids : List ℕ) (f : (ℕ → ℕ) → Bool) (t : Term) → Decides constants ids f old new to place → names t ≡ ids → ((env : ℕ → ℕ) → value word_meaning env t ≡ word_meaning.bool (f env))
      → IsTest constants t old new to place
  test_as ids f t d n v = decides_as constants ids (names t) f (λ env. word_meaning.holds (value word_meaning env t)) old new to place d (λ rows w. subst (Within rows) n w)
      (λ env rows b w. ap word_meaning.holds (v env) ∙ word_holds (f env))

  pub test_not : (t x : Term) → t ≡ terms.Not x → IsTest constants x old new (swapped to) place → IsTest constants t old new to place
  test_not t x e d = subst (λ y. IsTest constants y old new to place) (sym e)
      (test_as (names x) (λ env. not (word_meaning.holds (value word_meaning env x))) (terms.Not x) (decides_not constants (names x) (λ env. word_meaning.holds (value word_meaning env x)) old new to place d)
      (names_Not x) (λ env. value_Not word_meaning env x))

  pub test_and : (t : Term) (ts : List Term) → t ≡ terms.And ts → Decides constants (joined (map names ts)) (λ env. each word_meaning.holds (map (value word_meaning env) ts)) old new to place
      → IsTest constants t old new to place
  test_and t ts e d = subst (λ y. IsTest constants y old new to place) (sym e)
      (test_as (joined (map names ts)) (λ env. each word_meaning.holds (map (value word_meaning env) ts)) (terms.And ts) d (names_And ts) (λ env. value_And word_meaning env ts))

  pub test_or : (t : Term) (ts : List Term) → t ≡ terms.Or ts → Decides constants (joined (map names ts)) (λ env. some word_meaning.holds (map (value word_meaning env) ts)) old new to place
      → IsTest constants t old new to place
  test_or t ts e d = subst (λ y. IsTest constants y old new to place) (sym e)
      (test_as (joined (map names ts)) (λ env. some word_meaning.holds (map (value word_meaning env) ts)) (terms.Or ts) d (names_Or ts) (λ env. value_Or word_meaning env ts))

  pub test_equal : (x y : Term) → Decides constants (names x ++ names y) (λ env. nat_eq (value word_meaning env x) (value word_meaning env y)) old new to place → IsTest constants (terms.Cmp op.Eq x y) old new to place
  test_equal x y d = test_as (names x ++ names y) (λ env. nat_eq (value word_meaning env x) (value word_meaning env y)) (terms.Cmp op.Eq x y) d (names_Cmp op.Eq x y) (λ env. value_Cmp word_meaning env op.Eq x y)

  pub test_unequal : (x y : Term) → Decides constants (names x ++ names y) (λ env. nat_eq (value word_meaning env x) (value word_meaning env y)) old new (swapped to) place → IsTest constants (terms.Cmp op.Ne x y) old new to place
  test_unequal x y d = test_as (names x ++ names y) (λ env. not (nat_eq (value word_meaning env x) (value word_meaning env y))) (terms.Cmp op.Ne x y)
      (decides_not constants (names x ++ names y) (λ env. nat_eq (value word_meaning env x) (value word_meaning env y)) old new to place d) (names_Cmp op.Ne x y) (λ env. value_Cmp word_meaning env op.Ne x y)

  pub test_number : (t : Term) (n : ℕ) (b : Bool) → ((env : ℕ → ℕ) (rows : ℕ) → Begins constants env rows → value word_meaning env t ≡ n) → word_meaning.holds n ≡ b → place ≡ chosen to b → new ≡ old
      → IsTest constants t old new to place
  test_number t n b v h p e = subst (λ d. IsTest constants t old d to place) (sym e)
      (decides_known constants (names t) (λ env. word_meaning.holds (value word_meaning env t)) b old to place (λ env rows begins within. ap word_meaning.holds (v env rows begins) ∙ h) p)

  pub test_row : (t : Term) (id : ℕ) → ((env : ℕ → ℕ) (rows : ℕ) → Begins constants env rows → Within rows (names t) → (id < rows) × (value word_meaning env t ≡ env id))
      → Decides constants (id ∷ []) (λ env. nat_eq (env id) 0) old new (swapped to) place → IsTest constants t old new to place
  test_row t id v d = record {
    keeps = d.keeps;
    leads = λ env rows word begins within c.
        let is = v env rows begins within in
        d.leads env rows word begins (is.0, tt) (subst (λ x. Comes env rows old x word) (ap (λ x. chosen to (word_meaning.holds x)) is.1 ∙ negated to (nat_eq (env id) 0)) c);
  }

-- a test whose nodes follow others that were appended first
pub test_behind : (constants : List ℕ) (t : Term) (old mid new : Decisions) (to : Targets) (place : ℕ) → Keeps old mid → IsTest constants t mid new to place → IsTest constants t old new to place
test_behind constants t old mid new to place k d = record {
  keeps = keeps_both old mid new k d.keeps;
  leads = λ env rows word begins within c. d.leads env rows word begins within (k env rows (chosen to (word_meaning.holds (value word_meaning env t))) word c);
}

-- if each Q gives an R, then an optional Q gives an optional R
pub may_so : (P : Type 0) (Q R : ℕ → Type 0) (found : Option ℕ) → ((place : ℕ) → Q place → R place) → MatchOption found P Q → MatchOption found P R
may_so P Q R None so k = k
may_so P Q R (Some place) so d = so place d

-- ---- lists of terms, from the last: whether the values of all or any of them pass a test, which needs the rows of ids

abbrev pub IsRest : List ℕ → Quantifier → (Term → List ℕ) → ((ℕ → ℕ) → ℕ → Bool) → List Term → ℕ → Decisions → Decisions → Targets → ℕ → Type 0
IsRest constants q ids p ts left old new to place =
    (left ≤ length ts) × Decides constants (joined (map ids (drop left ts))) (λ env. quantified q (p env) (map (value word_meaning env) (drop left ts))) old new to place

pub split : {A : Type 0} (xs : List A) (x : A) (left next : ℕ) → next + 1 ≡ left → next < length xs → x ≡ get_or xs next x → drop next xs ≡ x ∷ drop left xs
split xs x left next e h s = subst (λ k. drop next xs ≡ x ∷ drop k xs) e (drop_more xs next x h ∙ ap (λ y. y ∷ drop (next + 1) xs) (sym s))

module _ (constants : List ℕ) (q : Quantifier) (ids : Term → List ℕ) (p : (ℕ → ℕ) → ℕ → Bool) (ts : List Term) (old : Decisions) (to : Targets) where
  pub rest_none : (left place : ℕ) → left ≡ length ts → place ≡ of_none q to → IsRest constants q ids p ts left old old to place
  rest_none left place e is = (
    omega arith,
    subst (λ xs. Decides constants (joined (map ids xs)) (λ env. quantified q (p env) (map (value word_meaning env) xs)) old old to place) (sym (ap (λ k. drop k ts) e ∙ drop_whole ts)) (none q is),
  )
    where
      none : (k : Quantifier) → place ≡ of_none k to → Decides constants [] (λ env. quantified k (p env) []) old old to place
      none All is = decides_known constants [] (λ env. true) true old to place (λ env rows b w. refl) is
      none Any is = decides_known constants [] (λ env. false) false old to place (λ env rows b w. refl) is

  pub rest_more : (mid new : Decisions) (t : Term) (left next rest place : ℕ) → next + 1 ≡ left → t ≡ get_or ts next t → IsRest constants q ids p ts left old mid to rest
      → Decides constants (ids t) (λ env. p env (value word_meaning env t)) mid new (ahead_of q rest to) place → IsRest constants q ids p ts next old new to place
  rest_more mid new t left next rest place down here d h = (
    omega (arith, d.0),
    subst (λ xs. Decides constants (joined (map ids xs)) (λ env. quantified q (p env) (map (value word_meaning env) xs)) old new to place) (sym (split ts t left next down (omega (arith, d.0)) here))
        (decides_as constants (ids t ++ joined (map ids (drop left ts))) (ids t ++ joined (map ids (drop left ts)))
        (λ env. joins q (p env (value word_meaning env t)) (quantified q (p env) (map (value word_meaning env) (drop left ts)))) (λ env. quantified q (p env) (map (value word_meaning env) (t ∷ drop left ts))) old new to place
        (decides_more constants q (ids t) (joined (map ids (drop left ts))) (λ env. p env (value word_meaning env t)) (λ env. quantified q (p env) (map (value word_meaning env) (drop left ts))) old mid new to rest place d.1 h)
        (λ rows w. w) (λ env rows b w. quantified_more q (p env) (value word_meaning env t) (map (value word_meaning env) (drop left ts)))),
  )

  pub rest_end : (new : Decisions) (left place : ℕ) → IsRest constants q ids p ts left old new to place → left ≡ 0
      → Decides constants (joined (map ids ts)) (λ env. quantified q (p env) (map (value word_meaning env) ts)) old new to place
  rest_end new left place d e = subst (λ k. Decides constants (joined (map ids (drop k ts))) (λ env. quantified q (p env) (map (value word_meaning env) (drop k ts))) old new to place) e d.1

-- ---- membership: one term is compared with each member

within_each : (rows : ℕ) (xs : List ℕ) (ts : List Term) → Within rows (xs ++ joined (map names ts)) → Within rows (joined (map (λ t. xs ++ names t) ts))
within_each rows xs [] w = tt
within_each rows xs (t ∷ ts) w =
    let one = each_left (λ id. id < rows) xs (names t ++ joined (map names ts)) w in
    let more = each_right (λ id. id < rows) xs (names t ++ joined (map names ts)) w in
    each_both (λ id. id < rows) (xs ++ names t) (joined (map (λ u. xs ++ names u) ts))
    (each_both (λ id. id < rows) xs (names t) one (each_left (λ id. id < rows) (names t) (joined (map names ts)) more))
    (within_each rows xs ts (each_both (λ id. id < rows) xs (joined (map names ts)) one (each_right (λ id. id < rows) (names t) (joined (map names ts)) more)))

-- the rows of a comparison with a member, and the test
abbrev pub pair_names : Term → Term → List ℕ
pair_names x t = names x ++ names t

abbrev pub equals : Term → (ℕ → ℕ) → ℕ → Bool
equals x env = compare_words op.Eq (value word_meaning env x)

pub test_member : (constants : List ℕ) (x : Term) (ts : List Term) (old new : Decisions) (to : Targets) (place : ℕ)
    → Decides constants (joined (map (pair_names x) ts)) (λ env. quantified Any (equals x env) (map (value word_meaning env) ts)) old new to place → IsTest constants (terms.In x ts) old new to place
test_member constants x ts old new to place d =
    test_as constants old new to place (names x ++ joined (map names ts)) (λ env. some (equals x env) (map (value word_meaning env) ts)) (terms.In x ts)
    (decides_as constants (joined (map (pair_names x) ts)) (names x ++ joined (map names ts)) (λ env. some (equals x env) (map (value word_meaning env) ts)) (λ env. some (equals x env) (map (value word_meaning env) ts)) old new to place d
    (λ rows w. within_each rows (names x) ts w) (λ env rows b w. refl)) (names_In x ts) (λ env. value_In word_meaning env x ts)
