-- The value of a term and the names in it, variant by variant.
use Rattle.std.proofs.Common.{◌≡◌, ℕ, not, List, [], ◌∷◌, ◌++◌, map, sym, ap, ◌∙◌}
use Rattle.hcl_tree.specs.declared.tree.CmpOp.{CmpOp}
use Rattle.hcl_tree.specs.declared.tree.CmpOp.TheVariants.{Eq}
use Rattle.hcl_types.specs.declared.term.Term.{Term}
use Rattle.hcl_types.specs.declared.term.TermBranch.{TermBranch}
use Rattle.hcl_types.specs.declared.term.Term.TheOpen.{Term-F}
use Rattle.hcl_types.specs.declared.term.Term.TheFolds.{fold-roll-Term, fold-roll-TermBranch}
use Rattle.hcl_types.specs.declared.term.Term.TheVariants.{Num, Name, Not, And, Or, Cmp, In, Case, rolls-Num, rolls-Name, rolls-Not, rolls-And, rolls-Or, rolls-Cmp, rolls-In, rolls-Case}
use Rattle.hcl_types.specs.Lists.{each, some}
use Rattle.hcl_types.specs.Terms.{Interpretation, value, branch_value, layer, pair, picked, names, branch_names, names_in_layer, names_in_branch, joined}

module _ {A : Type 0} (m : Interpretation A) (env : ℕ → A) where
  pub value_Num : (n : ℕ) → value m env (Num n) ≡ m.num n
  value_Num n = ap (value m env) (sym (rolls-Num n)) ∙ fold-roll-Term A (A × A) (layer m env) pair (Term-F.Num n)

  pub value_Name : (id : ℕ) → value m env (Name id) ≡ env id
  value_Name id = ap (value m env) (sym (rolls-Name id)) ∙ fold-roll-Term A (A × A) (layer m env) pair (Term-F.Name id)

  pub value_Not : (t : Term) → value m env (Not t) ≡ m.bool (not (m.holds (value m env t)))
  value_Not t = ap (value m env) (sym (rolls-Not t)) ∙ fold-roll-Term A (A × A) (layer m env) pair (Term-F.Not t)

  pub value_And : (ts : List Term) → value m env (And ts) ≡ m.bool (each m.holds (map (value m env) ts))
  value_And ts = ap (value m env) (sym (rolls-And ts)) ∙ fold-roll-Term A (A × A) (layer m env) pair (Term-F.And ts)

  pub value_Or : (ts : List Term) → value m env (Or ts) ≡ m.bool (some m.holds (map (value m env) ts))
  value_Or ts = ap (value m env) (sym (rolls-Or ts)) ∙ fold-roll-Term A (A × A) (layer m env) pair (Term-F.Or ts)

  pub value_Cmp : (op : CmpOp) (t u : Term) → value m env (Cmp op t u) ≡ m.bool (m.cmp op (value m env t) (value m env u))
  value_Cmp op t u = ap (value m env) (sym (rolls-Cmp op t u)) ∙ fold-roll-Term A (A × A) (layer m env) pair (Term-F.Cmp op t u)

  pub value_In : (t : Term) (ts : List Term) → value m env (In t ts) ≡ m.bool (some (m.cmp Eq (value m env t)) (map (value m env) ts))
  value_In t ts = ap (value m env) (sym (rolls-In t ts)) ∙ fold-roll-Term A (A × A) (layer m env) pair (Term-F.In t ts)

  pub value_Case : (bs : List TermBranch) → value m env (Case bs) ≡ picked m.holds (m.num 0) (map (branch_value m env) bs)
  value_Case bs = ap (value m env) (sym (rolls-Case bs)) ∙ fold-roll-Term A (A × A) (layer m env) pair (Term-F.Case bs)

  pub value_branch : (b : TermBranch) → branch_value m env b ≡ (value m env b.guard, value m env b.value)
  value_branch b = fold-roll-TermBranch A (A × A) (layer m env) pair (record { guard = b.guard; value = b.value })

pub names_Num : (n : ℕ) → names (Num n) ≡ []
names_Num n = ap names (sym (rolls-Num n)) ∙ fold-roll-Term (List ℕ) (List ℕ) names_in_layer names_in_branch (Term-F.Num n)

pub names_Name : (id : ℕ) → names (Name id) ≡ id ∷ []
names_Name id = ap names (sym (rolls-Name id)) ∙ fold-roll-Term (List ℕ) (List ℕ) names_in_layer names_in_branch (Term-F.Name id)

pub names_Not : (t : Term) → names (Not t) ≡ names t
names_Not t = ap names (sym (rolls-Not t)) ∙ fold-roll-Term (List ℕ) (List ℕ) names_in_layer names_in_branch (Term-F.Not t)

pub names_And : (ts : List Term) → names (And ts) ≡ joined (map names ts)
names_And ts = ap names (sym (rolls-And ts)) ∙ fold-roll-Term (List ℕ) (List ℕ) names_in_layer names_in_branch (Term-F.And ts)

pub names_Or : (ts : List Term) → names (Or ts) ≡ joined (map names ts)
names_Or ts = ap names (sym (rolls-Or ts)) ∙ fold-roll-Term (List ℕ) (List ℕ) names_in_layer names_in_branch (Term-F.Or ts)

pub names_Cmp : (op : CmpOp) (t u : Term) → names (Cmp op t u) ≡ names t ++ names u
names_Cmp op t u = ap names (sym (rolls-Cmp op t u)) ∙ fold-roll-Term (List ℕ) (List ℕ) names_in_layer names_in_branch (Term-F.Cmp op t u)

pub names_In : (t : Term) (ts : List Term) → names (In t ts) ≡ names t ++ joined (map names ts)
names_In t ts = ap names (sym (rolls-In t ts)) ∙ fold-roll-Term (List ℕ) (List ℕ) names_in_layer names_in_branch (Term-F.In t ts)

pub names_Case : (bs : List TermBranch) → names (Case bs) ≡ joined (map branch_names bs)
names_Case bs = ap names (sym (rolls-Case bs)) ∙ fold-roll-Term (List ℕ) (List ℕ) names_in_layer names_in_branch (Term-F.Case bs)

pub names_branch : (b : TermBranch) → branch_names b ≡ names b.guard ++ names b.value
names_branch b = fold-roll-TermBranch (List ℕ) (List ℕ) names_in_layer names_in_branch (record { guard = b.guard; value = b.value })
