-- A fault of an expression: a name in it that is no row.
use Rattle.std.proofs.Common.{◌≡◌, ℕ, List, [], ◌∷◌, ◌++◌, map, Option, Some, None, Result, Ok, Err, refl, sym, subst, inl, inr}
use Rattle.std.specs.List.{AllByRecursion}
use Rattle.hcl_tree.specs.declared.tree.Expr.{Expr}
use Rattle.hcl_tree.specs.declared.tree.Branch.{Branch}
use Rattle.hcl_tree.specs.declared.tree.Expr.TheOpen.{Expr-F, Branch-F}
use Rattle.hcl_tree.specs.declared.tree.Expr.TheFolds.{map-Expr, map-Branch, ind-Expr, fold-roll-Expr, fold-roll-Branch}
use Rattle.hcl_tree.specs.declared.tree.Expr.TheViews.{roll-Expr, roll-Branch}
use Rattle.hcl_types.specs.declared.term.Term.{Term}
use Rattle.hcl_types.specs.declared.term.TermBranch.{TermBranch}
use Rattle.hcl_types.specs.declared.term.Term.TheVariants as term
use Rattle.hcl_binding.specs.declared.fault.BindFault.{BindFault}
use Rattle.hcl_binding.specs.declared.fault.BindWhy.TheVariants as why
use Rattle.hcl_types.specs.Lists.{IsIn}
use Rattle.hcl_binding.specs.Binding.{and_then, all_ok, place, named, term_of, branch_of, term_layer, term_branch}
use Rattle.hcl_binding.specs.Faults.{uses, branch_uses, uses_in_layer, uses_in_branch, all_uses}
use Rattle.hcl_types.proofs.Inductions.{each_beside}

pub in_left : {A : Type 0} (x : A) (xs ys : List A) → IsIn x xs → IsIn x (xs ++ ys)
in_left x [] ys h = absurd h
in_left x (z ∷ zs) ys (inl e) = inl e
in_left x (z ∷ zs) ys (inr h) = inr (in_left x zs ys h)

pub in_right : {A : Type 0} (x : A) (xs ys : List A) → IsIn x ys → IsIn x (xs ++ ys)
in_right x [] ys h = h
in_right x (z ∷ zs) ys h = inr (in_right x zs ys h)

-- P holds for the fault of a result, if it has one
abbrev pub WhereErr : {A : Type 0} → (BindFault → Type 0) → Result A BindFault → Type 0
WhereErr P (Ok x) = Unit {0}
WhereErr P (Err e) = P e

then_err : {A B : Type 0} (P : BindFault → Type 0) (f : A → Result B BindFault) (r : Result A BindFault) → WhereErr P r → ((x : A) → WhereErr P (f x)) → WhereErr P (and_then r f)
then_err P f (Ok x) p h = h x
then_err P f (Err e) p h = p

module _ (rows : List (List ℕ)) where
  -- fault e is that some name among these is no row
  abbrev pub Lacks : List (List ℕ) → BindFault → Type 0
  Lacks among e = (e.why ≡ why.Unknown) × (place rows e.name ≡ None) × IsIn e.name among

  wider : {A : Type 0} (xs ys : List (List ℕ)) → ((name : List ℕ) → IsIn name xs → IsIn name ys) → (r : Result A BindFault) → WhereErr (Lacks xs) r → WhereErr (Lacks ys) r
  wider xs ys h (Ok x) p = tt
  wider xs ys h (Err e) p = (p.0, p.1, h e.name p.2)

  all_lack : {A B : Type 0} (f : A → Result B BindFault) (u : A → List (List ℕ)) (xs : List A) → AllByRecursion (λ x. WhereErr (Lacks (u x)) (f x)) xs → WhereErr (Lacks (all_uses (map u xs))) (all_ok (map f xs))
  all_lack f u [] h = tt
  all_lack f u (x ∷ xs) h =
      then_err (Lacks (u x ++ all_uses (map u xs))) (λ y. and_then (all_ok (map f xs)) (λ ys. Ok (y ∷ ys))) (f x)
      (wider (u x) (u x ++ all_uses (map u xs)) (λ name. in_left name (u x) (all_uses (map u xs))) (f x) h.0)
      (λ y. then_err (Lacks (u x ++ all_uses (map u xs))) (λ ys. Ok (y ∷ ys)) (all_ok (map f xs))
      (wider (all_uses (map u xs)) (u x ++ all_uses (map u xs)) (λ name. in_right name (u x) (all_uses (map u xs))) (all_ok (map f xs)) (all_lack f u xs h.1)) (λ ys. tt))

  abbrev P : Expr → Type 0
  P e = WhereErr (Lacks (uses e)) (term_of rows e)

  abbrev Q : Branch → Type 0
  Q b = WhereErr (Lacks (branch_uses b)) (branch_of rows b)

  name_lacks : (name : List ℕ) (o : Option ℕ) → place rows name ≡ o → WhereErr (Lacks (name ∷ [])) (named name o)
  name_lacks name None e = (refl, e, inl refl)
  name_lacks name (Some id) e = tt

  abbrev Firsts : List ((e : Expr) × P e) → List Expr
  Firsts xs = map (λ (e : (e : Expr) × P e). e.0) xs

  layer_lacks : (y : Expr-F ((e : Expr) × P e) ((b : Branch) × Q b)) →
      WhereErr (Lacks (uses_in_layer (map-Expr Expr Branch (List (List ℕ)) (List (List ℕ)) uses branch_uses
      (map-Expr ((e : Expr) × P e) ((b : Branch) × Q b) Expr Branch (λ e. e.0) (λ e. e.0) y))))
      (term_layer rows (map-Expr Expr Branch (Result Term BindFault) (Result TermBranch BindFault) (term_of rows) (branch_of rows)
      (map-Expr ((e : Expr) × P e) ((b : Branch) × Q b) Expr Branch (λ e. e.0) (λ e. e.0) y)))
  layer_lacks (Expr-F.Num n) = tt
  layer_lacks (Expr-F.Name name) = name_lacks name (place rows name) refl
  layer_lacks (Expr-F.Not x) = then_err (Lacks (uses x.0)) (λ t. Ok (term.Not t)) (term_of rows x.0) x.1 (λ t. tt)
  layer_lacks (Expr-F.And xs) =
      then_err (Lacks (all_uses (map uses (Firsts xs)))) (λ ts. Ok (term.And ts)) (all_ok (map (term_of rows) (Firsts xs))) (all_lack (term_of rows) uses (Firsts xs) (each_beside {P = P} xs)) (λ ts. tt)
  layer_lacks (Expr-F.Or xs) =
      then_err (Lacks (all_uses (map uses (Firsts xs)))) (λ ts. Ok (term.Or ts)) (all_ok (map (term_of rows) (Firsts xs))) (all_lack (term_of rows) uses (Firsts xs) (each_beside {P = P} xs)) (λ ts. tt)
  layer_lacks (Expr-F.Cmp op x y) =
      then_err (Lacks (uses x.0 ++ uses y.0)) (λ t. and_then (term_of rows y.0) (λ u. Ok (term.Cmp op t u))) (term_of rows x.0)
      (wider (uses x.0) (uses x.0 ++ uses y.0) (λ name. in_left name (uses x.0) (uses y.0)) (term_of rows x.0) x.1)
      (λ t. then_err (Lacks (uses x.0 ++ uses y.0)) (λ u. Ok (term.Cmp op t u)) (term_of rows y.0)
      (wider (uses y.0) (uses x.0 ++ uses y.0) (λ name. in_right name (uses x.0) (uses y.0)) (term_of rows y.0) y.1) (λ u. tt))
  layer_lacks (Expr-F.In x ys) =
      then_err (Lacks (uses x.0 ++ all_uses (map uses (Firsts ys)))) (λ t. and_then (all_ok (map (term_of rows) (Firsts ys))) (λ us. Ok (term.In t us))) (term_of rows x.0)
      (wider (uses x.0) (uses x.0 ++ all_uses (map uses (Firsts ys))) (λ name. in_left name (uses x.0) (all_uses (map uses (Firsts ys)))) (term_of rows x.0) x.1)
      (λ t. then_err (Lacks (uses x.0 ++ all_uses (map uses (Firsts ys)))) (λ us. Ok (term.In t us)) (all_ok (map (term_of rows) (Firsts ys)))
      (wider (all_uses (map uses (Firsts ys))) (uses x.0 ++ all_uses (map uses (Firsts ys))) (λ name. in_right name (uses x.0) (all_uses (map uses (Firsts ys)))) (all_ok (map (term_of rows) (Firsts ys)))
      (all_lack (term_of rows) uses (Firsts ys) (each_beside {P = P} ys))) (λ us. tt))
  layer_lacks (Expr-F.Case bs) =
      then_err (Lacks (all_uses (map branch_uses (map (λ (e : (b : Branch) × Q b). e.0) bs)))) (λ ts. Ok (term.Case ts)) (all_ok (map (branch_of rows) (map (λ (e : (b : Branch) × Q b). e.0) bs)))
      (all_lack (branch_of rows) branch_uses (map (λ (e : (b : Branch) × Q b). e.0) bs) (each_beside {P = Q} bs)) (λ ts. tt)

  branch_lacks : (y : Branch-F ((e : Expr) × P e) ((b : Branch) × Q b)) →
      WhereErr (Lacks (uses_in_branch (map-Branch Expr Branch (List (List ℕ)) (List (List ℕ)) uses branch_uses
      (map-Branch ((e : Expr) × P e) ((b : Branch) × Q b) Expr Branch (λ e. e.0) (λ e. e.0) y))))
      (term_branch (map-Branch Expr Branch (Result Term BindFault) (Result TermBranch BindFault) (term_of rows) (branch_of rows)
      (map-Branch ((e : Expr) × P e) ((b : Branch) × Q b) Expr Branch (λ e. e.0) (λ e. e.0) y)))
  branch_lacks y =
      then_err (Lacks (uses y.guard.0 ++ uses y.value.0)) (λ t. and_then (term_of rows y.value.0) (λ u. Ok (record { guard = t; value = u }))) (term_of rows y.guard.0)
      (wider (uses y.guard.0) (uses y.guard.0 ++ uses y.value.0) (λ name. in_left name (uses y.guard.0) (uses y.value.0)) (term_of rows y.guard.0) y.guard.1)
      (λ t. then_err (Lacks (uses y.guard.0 ++ uses y.value.0)) (λ u. Ok (record { guard = t; value = u })) (term_of rows y.value.0)
      (wider (uses y.value.0) (uses y.guard.0 ++ uses y.value.0) (λ name. in_right name (uses y.guard.0) (uses y.value.0)) (term_of rows y.value.0) y.value.1) (λ u. tt))

  -- an expression that is no term has a name that is no row
  pub term_lacks : (e : Expr) → WhereErr (Lacks (uses e)) (term_of rows e)
  term_lacks = ind-Expr P Q
      (λ x y is. subst (λ z. P (roll-Expr z)) is
      (subst (λ us. WhereErr (Lacks us) (term_of rows (roll-Expr (map-Expr ((e : Expr) × P e) ((b : Branch) × Q b) Expr Branch (λ e. e.0) (λ e. e.0) y))))
      (sym (fold-roll-Expr (List (List ℕ)) (List (List ℕ)) uses_in_layer uses_in_branch (map-Expr ((e : Expr) × P e) ((b : Branch) × Q b) Expr Branch (λ e. e.0) (λ e. e.0) y)))
      (subst (WhereErr (Lacks (uses_in_layer (map-Expr Expr Branch (List (List ℕ)) (List (List ℕ)) uses branch_uses (map-Expr ((e : Expr) × P e) ((b : Branch) × Q b) Expr Branch (λ e. e.0) (λ e. e.0) y)))))
      (sym (fold-roll-Expr (Result Term BindFault) (Result TermBranch BindFault) (term_layer rows) term_branch (map-Expr ((e : Expr) × P e) ((b : Branch) × Q b) Expr Branch (λ e. e.0) (λ e. e.0) y)))
      (layer_lacks y))))
      (λ x y is. subst (λ z. Q (roll-Branch z)) is
      (subst (λ us. WhereErr (Lacks us) (branch_of rows (roll-Branch (map-Branch ((e : Expr) × P e) ((b : Branch) × Q b) Expr Branch (λ e. e.0) (λ e. e.0) y))))
      (sym (fold-roll-Branch (List (List ℕ)) (List (List ℕ)) uses_in_layer uses_in_branch (map-Branch ((e : Expr) × P e) ((b : Branch) × Q b) Expr Branch (λ e. e.0) (λ e. e.0) y)))
      (subst (WhereErr (Lacks (uses_in_branch (map-Branch Expr Branch (List (List ℕ)) (List (List ℕ)) uses branch_uses (map-Branch ((e : Expr) × P e) ((b : Branch) × Q b) Expr Branch (λ e. e.0) (λ e. e.0) y)))))
      (sym (fold-roll-Branch (Result Term BindFault) (Result TermBranch BindFault) (term_layer rows) term_branch (map-Branch ((e : Expr) × P e) ((b : Branch) × Q b) Expr Branch (λ e. e.0) (λ e. e.0) y)))
      (branch_lacks y))))
