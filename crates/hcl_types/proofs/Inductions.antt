-- Induction over terms, variant by variant.
use Rattle.std.proofs.Common.{ℕ, List, [], ◌∷◌, map, subst, sym}
use Rattle.std.specs.List.{AllByRecursion}
use Rattle.hcl_tree.specs.declared.tree.CmpOp.{CmpOp}
use Rattle.hcl_types.specs.declared.term.Term.{Term}
use Rattle.hcl_types.specs.declared.term.TermBranch.{TermBranch}
use Rattle.hcl_types.specs.declared.term.Term.TheOpen.{Term-F, TermBranch-F}
use Rattle.hcl_types.specs.declared.term.Term.TheFolds.{map-Term, map-TermBranch, ind-Term}
use Rattle.hcl_types.specs.declared.term.Term.TheViews.{roll-Term, roll-TermBranch}
use Rattle.hcl_types.specs.declared.term.Term.TheVariants.{Num, Name, Not, And, Or, Cmp, In, Case, rolls-Num, rolls-Name, rolls-Not, rolls-And, rolls-Or, rolls-Cmp, rolls-In, rolls-Case}

-- if each element comes with a proof of P, then P holds for each element
pub each_beside : {A : Type 0} {P : A → Type 0} (es : List ((x : A) × P x)) → AllByRecursion P (map (λ (e : (x : A) × P x). e.0) es)
each_beside [] = tt
each_beside (e ∷ es) = (e.1, each_beside es)

module _ (P : Term → Type 0) (Q : TermBranch → Type 0)
    (num : (n : ℕ) → P (Num n)) (name : (id : ℕ) → P (Name id)) (negated : (t : Term) → P t → P (Not t))
    (conjunction : (ts : List Term) → AllByRecursion P ts → P (And ts)) (disjunction : (ts : List Term) → AllByRecursion P ts → P (Or ts))
    (comparison : (op : CmpOp) (t u : Term) → P t → P u → P (Cmp op t u))
    (membership : (t : Term) (us : List Term) → P t → AllByRecursion P us → P (In t us))
    (choice : (bs : List TermBranch) → AllByRecursion Q bs → P (Case bs))
    (branch : (b : TermBranch) → P b.guard → P b.value → Q b) where
  at_layer : (y : Term-F ((t : Term) × P t) ((b : TermBranch) × Q b)) →
      P (roll-Term (map-Term ((t : Term) × P t) ((b : TermBranch) × Q b) Term TermBranch (λ e. e.0) (λ e. e.0) y))
  at_layer (Term-F.Num n) = subst P (sym (rolls-Num n)) (num n)
  at_layer (Term-F.Name id) = subst P (sym (rolls-Name id)) (name id)
  at_layer (Term-F.Not x) = subst P (sym (rolls-Not x.0)) (negated x.0 x.1)
  at_layer (Term-F.And xs) = subst P (sym (rolls-And (map (λ (e : (t : Term) × P t). e.0) xs))) (conjunction (map (λ (e : (t : Term) × P t). e.0) xs) (each_beside xs))
  at_layer (Term-F.Or xs) = subst P (sym (rolls-Or (map (λ (e : (t : Term) × P t). e.0) xs))) (disjunction (map (λ (e : (t : Term) × P t). e.0) xs) (each_beside xs))
  at_layer (Term-F.Cmp op x y) = subst P (sym (rolls-Cmp op x.0 y.0)) (comparison op x.0 y.0 x.1 y.1)
  at_layer (Term-F.In x ys) = subst P (sym (rolls-In x.0 (map (λ (e : (t : Term) × P t). e.0) ys))) (membership x.0 (map (λ (e : (t : Term) × P t). e.0) ys) x.1 (each_beside ys))
  at_layer (Term-F.Case bs) = subst P (sym (rolls-Case (map (λ (e : (b : TermBranch) × Q b). e.0) bs))) (choice (map (λ (e : (b : TermBranch) × Q b). e.0) bs) (each_beside bs))

  at_branch : (y : TermBranch-F ((t : Term) × P t) ((b : TermBranch) × Q b)) →
      Q (roll-TermBranch (map-TermBranch ((t : Term) × P t) ((b : TermBranch) × Q b) Term TermBranch (λ e. e.0) (λ e. e.0) y))
  at_branch y = branch (record { guard = y.guard.0; value = y.value.0 }) y.guard.1 y.value.1

  pub induct : (t : Term) → P t
  induct = ind-Term P Q (λ x y is. subst (λ z. P (roll-Term z)) is (at_layer y)) (λ x y is. subst (λ z. Q (roll-TermBranch z)) is (at_branch y))
