-- The term of an expression: each name in it is a row.
use Rattle.std.proofs.Common.{◌≡◌, ℕ, ◌<◌, Bool, true, false, cond, List, [], ◌∷◌, map, length, Option, Some, None, Result, Ok, Err, refl, sym, subst, nat_eq, nat_lt, arith}
use Rattle.std.proofs.lemmas.Bool.Decides.{nat_tests}
use Rattle.std.specs.List.{AllByRecursion, position_or_len}
use Rattle.std.specs.Cmp.Lexicographic.{pointwise}
use Rattle.hcl_tree.specs.declared.tree.CmpOp.{CmpOp}
use Rattle.hcl_tree.specs.declared.tree.Expr.{Expr}
use Rattle.hcl_tree.specs.declared.tree.Branch.{Branch}
use Rattle.hcl_tree.specs.declared.tree.Expr.TheOpen.{Expr-F, Branch-F}
use Rattle.hcl_tree.specs.declared.tree.Expr.TheFolds.{map-Expr, map-Branch, ind-Expr, fold-roll-Expr, fold-roll-Branch}
use Rattle.hcl_tree.specs.declared.tree.Expr.TheViews.{roll-Expr, roll-Branch}
use Rattle.hcl_types.specs.declared.term.Term.{Term}
use Rattle.hcl_types.specs.declared.term.TermBranch.{TermBranch}
use Rattle.hcl_types.specs.declared.term.Term.TheVariants as term
use Rattle.hcl_binding.specs.declared.fault.BindFault.{BindFault}
use Rattle.hcl_types.specs.Terms.{names, branch_names, joined}
use Rattle.hcl_binding.specs.Binding.{and_then, all_ok, place, named, term_of, branch_of, term_layer, term_branch}
use Rattle.hcl_types.proofs.Inductions.{each_beside}
use Rattle.hcl_types.proofs.Each.{each_joins, each_both}
use Rattle.hcl_types.proofs.Values.{names_Num, names_Name, names_Not, names_And, names_Or, names_Cmp, names_In, names_Case, names_branch}

-- P holds for the value of a result, if it has one
abbrev pub WhereOk : {A : Type 0} → (A → Type 0) → Result A BindFault → Type 0
WhereOk P (Ok x) = P x
WhereOk P (Err e) = Unit {0}

pub then_ok : {A B : Type 0} (P : A → Type 0) (Q : B → Type 0) (f : A → Result B BindFault) → ((x : A) → P x → WhereOk Q (f x)) → (r : Result A BindFault) → WhereOk P r → WhereOk Q (and_then r f)
then_ok P Q f h (Ok x) p = h x p
then_ok P Q f h (Err e) p = tt

pub each_ok : {A B : Type 0} (P : B → Type 0) (f : A → Result B BindFault) (xs : List A) → AllByRecursion (λ x. WhereOk P (f x)) xs → WhereOk (AllByRecursion P) (all_ok (map f xs))
each_ok P f [] h = tt
each_ok P f (x ∷ xs) h =
    then_ok P (AllByRecursion P) (λ y. and_then (all_ok (map f xs)) (λ ys. Ok (y ∷ ys)))
    (λ y p. then_ok (AllByRecursion P) (AllByRecursion P) (λ ys. Ok (y ∷ ys)) (λ ys q. (p, q)) (all_ok (map f xs)) (each_ok P f xs h.1)) (f x) h.0

pub found_inside : (name : List ℕ) (rows : List (List ℕ)) (id : ℕ) → place rows name ≡ Some id → id < length rows
found_inside name rows id e = by (nat_lt (position_or_len (pointwise nat_eq name) rows) (length rows)) refl e
  where
    by : (b : Bool) → nat_lt (position_or_len (pointwise nat_eq name) rows) (length rows) ≡ b → cond b (Some (position_or_len (pointwise nat_eq name) rows)) None ≡ Some id → id < length rows
    by true h q =
        let same : position_or_len (pointwise nat_eq name) rows ≡ id = grind (arith, q) in
        subst (λ k. k < length rows) same (grind (arith, nat_tests, h))
    by false h q = absurd (grind (arith, q))

module _ (rows : List (List ℕ)) where
  abbrev pub Inside : Term → Type 0
  Inside t = AllByRecursion (λ id. id < length rows) (names t)

  abbrev pub InsideBranch : TermBranch → Type 0
  InsideBranch b = AllByRecursion (λ id. id < length rows) (branch_names b)

  abbrev P : Expr → Type 0
  P e = WhereOk Inside (term_of rows e)

  abbrev Q : Branch → Type 0
  Q b = WhereOk InsideBranch (branch_of rows b)

  name_inside : (name : List ℕ) (o : Option ℕ) → place rows name ≡ o → WhereOk Inside (named name o)
  name_inside name None e = tt
  name_inside name (Some id) e = subst (AllByRecursion (λ i. i < length rows)) (sym (names_Name id)) (found_inside name rows id e, tt)

  binary : (op : CmpOp) (t u : Term) → Inside t → Inside u → Inside (term.Cmp op t u)
  binary op t u p q = subst (AllByRecursion (λ id. id < length rows)) (sym (names_Cmp op t u)) (each_both (λ id. id < length rows) (names t) (names u) p q)

  layer_inside : (y : Expr-F ((e : Expr) × P e) ((b : Branch) × Q b)) →
      WhereOk Inside (term_layer rows (map-Expr Expr Branch (Result Term BindFault) (Result TermBranch BindFault) (term_of rows) (branch_of rows)
      (map-Expr ((e : Expr) × P e) ((b : Branch) × Q b) Expr Branch (λ e. e.0) (λ e. e.0) y)))
  layer_inside (Expr-F.Num n) = subst (AllByRecursion (λ id. id < length rows)) (sym (names_Num n)) tt
  layer_inside (Expr-F.Name name) = name_inside name (place rows name) refl
  layer_inside (Expr-F.Not x) =
      then_ok Inside Inside (λ t. Ok (term.Not t)) (λ t p. subst (AllByRecursion (λ id. id < length rows)) (sym (names_Not t)) p) (term_of rows x.0) x.1
  layer_inside (Expr-F.And xs) =
      then_ok (AllByRecursion Inside) Inside (λ ts. Ok (term.And ts)) (λ ts p. subst (AllByRecursion (λ id. id < length rows)) (sym (names_And ts)) (each_joins (λ id. id < length rows) names ts p))
      (all_ok (map (term_of rows) (map (λ (e : (e : Expr) × P e). e.0) xs))) (each_ok Inside (term_of rows) (map (λ (e : (e : Expr) × P e). e.0) xs) (each_beside {P = P} xs))
  layer_inside (Expr-F.Or xs) =
      then_ok (AllByRecursion Inside) Inside (λ ts. Ok (term.Or ts)) (λ ts p. subst (AllByRecursion (λ id. id < length rows)) (sym (names_Or ts)) (each_joins (λ id. id < length rows) names ts p))
      (all_ok (map (term_of rows) (map (λ (e : (e : Expr) × P e). e.0) xs))) (each_ok Inside (term_of rows) (map (λ (e : (e : Expr) × P e). e.0) xs) (each_beside {P = P} xs))
  layer_inside (Expr-F.Cmp op x y) =
      then_ok Inside Inside (λ t. and_then (term_of rows y.0) (λ u. Ok (term.Cmp op t u)))
      (λ t p. then_ok Inside Inside (λ u. Ok (term.Cmp op t u)) (λ u q. binary op t u p q) (term_of rows y.0) y.1) (term_of rows x.0) x.1
  layer_inside (Expr-F.In x ys) =
      then_ok Inside Inside (λ t. and_then (all_ok (map (term_of rows) (map (λ (e : (e : Expr) × P e). e.0) ys))) (λ us. Ok (term.In t us)))
      (λ t p. then_ok (AllByRecursion Inside) Inside (λ us. Ok (term.In t us))
      (λ us q. subst (AllByRecursion (λ id. id < length rows)) (sym (names_In t us)) (each_both (λ id. id < length rows) (names t) (joined (map names us)) p (each_joins (λ id. id < length rows) names us q)))
      (all_ok (map (term_of rows) (map (λ (e : (e : Expr) × P e). e.0) ys))) (each_ok Inside (term_of rows) (map (λ (e : (e : Expr) × P e). e.0) ys) (each_beside {P = P} ys)))
      (term_of rows x.0) x.1
  layer_inside (Expr-F.Case bs) =
      then_ok (AllByRecursion InsideBranch) Inside (λ ts. Ok (term.Case ts)) (λ ts p. subst (AllByRecursion (λ id. id < length rows)) (sym (names_Case ts)) (each_joins (λ id. id < length rows) branch_names ts p))
      (all_ok (map (branch_of rows) (map (λ (e : (b : Branch) × Q b). e.0) bs))) (each_ok InsideBranch (branch_of rows) (map (λ (e : (b : Branch) × Q b). e.0) bs) (each_beside {P = Q} bs))

  branch_inside : (y : Branch-F ((e : Expr) × P e) ((b : Branch) × Q b)) →
      WhereOk InsideBranch (term_branch (map-Branch Expr Branch (Result Term BindFault) (Result TermBranch BindFault) (term_of rows) (branch_of rows)
      (map-Branch ((e : Expr) × P e) ((b : Branch) × Q b) Expr Branch (λ e. e.0) (λ e. e.0) y)))
  branch_inside y =
      then_ok Inside InsideBranch (λ t. and_then (term_of rows y.value.0) (λ u. Ok (record { guard = t; value = u })))
      (λ t p. then_ok Inside InsideBranch (λ u. Ok (record { guard = t; value = u }))
      (λ u q. subst (AllByRecursion (λ id. id < length rows)) (sym (names_branch (record { guard = t; value = u }))) (each_both (λ id. id < length rows) (names t) (names u) p q))
      (term_of rows y.value.0) y.value.1)
      (term_of rows y.guard.0) y.guard.1

  -- each name in the term of an expression is the position of a row
  pub term_inside : (e : Expr) → WhereOk Inside (term_of rows e)
  term_inside = ind-Expr P Q
      (λ x y is. subst (λ z. P (roll-Expr z)) is
      (subst (WhereOk Inside) (sym (fold-roll-Expr (Result Term BindFault) (Result TermBranch BindFault) (term_layer rows) term_branch
      (map-Expr ((e : Expr) × P e) ((b : Branch) × Q b) Expr Branch (λ e. e.0) (λ e. e.0) y))) (layer_inside y)))
      (λ x y is. subst (λ z. Q (roll-Branch z)) is
      (subst (WhereOk InsideBranch) (sym (fold-roll-Branch (Result Term BindFault) (Result TermBranch BindFault) (term_layer rows) term_branch
      (map-Branch ((e : Expr) × P e) ((b : Branch) × Q b) Expr Branch (λ e. e.0) (λ e. e.0) y))) (branch_inside y)))
