-- The leaves and atoms of a term, variant by variant.
use Rattle.std.proofs.Common.{◌≡◌, ℕ, ◌+◌, true, false, List, [], ◌∷◌, ◌++◌, map, sym, ap, ◌∙◌, nat_eq, if◌then◌else◌}
use Rattle.hcl_tree.specs.declared.tree.CmpOp.{CmpOp}
use Rattle.hcl_types.specs.declared.term.TermBranch.{TermBranch}
use Rattle.hcl_types.specs.declared.term.Term.{Term}
use Rattle.hcl_types.specs.declared.term.Term.TheOpen.{Term-F}
use Rattle.hcl_types.specs.declared.term.Term.TheFolds.{fold-roll-Term, fold-roll-TermBranch}
use Rattle.hcl_types.specs.declared.term.Term.TheVariants.{Num, Name, Not, And, Or, Cmp, In, Case, rolls-Num, rolls-Name, rolls-Not, rolls-And, rolls-Or, rolls-Cmp, rolls-In, rolls-Case}
use Rattle.ctl_atoms.specs.declared.leaf.Leaf.{Leaf}
use Rattle.ctl_atoms.specs.declared.leaf.Leaf.TheVariants.{Number}
use Rattle.ctl_atoms.specs.TermAtoms.{TermAtoms, term_atoms, branch_plan, plan_layer, plan_pair, truth_plan, atoms_of_all, member_atoms, branch_atoms, case_leaves, pair_atoms, joined}

module _ (leaves : ℕ → List Leaf) where
  pub plan_Num : (n : ℕ) → term_atoms leaves (Num n) ≡ record { one = nat_eq n 1; leaves = Number n ∷ []; asks = [] }
  plan_Num n = ap (term_atoms leaves) (sym (rolls-Num n)) ∙ fold-roll-Term TermAtoms (TermAtoms × TermAtoms) (plan_layer leaves) plan_pair (Term-F.Num n)

  pub plan_Name : (id : ℕ) → term_atoms leaves (Name id) ≡ record { one = false; leaves = leaves id; asks = [] }
  plan_Name id = ap (term_atoms leaves) (sym (rolls-Name id)) ∙ fold-roll-Term TermAtoms (TermAtoms × TermAtoms) (plan_layer leaves) plan_pair (Term-F.Name id)

  pub plan_Not : (t : Term) → term_atoms leaves (Not t) ≡ truth_plan (term_atoms leaves t).asks
  plan_Not t = ap (term_atoms leaves) (sym (rolls-Not t)) ∙ fold-roll-Term TermAtoms (TermAtoms × TermAtoms) (plan_layer leaves) plan_pair (Term-F.Not t)

  pub plan_And : (ts : List Term) → term_atoms leaves (And ts) ≡ truth_plan (atoms_of_all (map (term_atoms leaves) ts))
  plan_And ts = ap (term_atoms leaves) (sym (rolls-And ts)) ∙ fold-roll-Term TermAtoms (TermAtoms × TermAtoms) (plan_layer leaves) plan_pair (Term-F.And ts)

  pub plan_Or : (ts : List Term) → term_atoms leaves (Or ts) ≡ truth_plan (atoms_of_all (map (term_atoms leaves) ts))
  plan_Or ts = ap (term_atoms leaves) (sym (rolls-Or ts)) ∙ fold-roll-Term TermAtoms (TermAtoms × TermAtoms) (plan_layer leaves) plan_pair (Term-F.Or ts)

  pub plan_Cmp : (o : CmpOp) (x y : Term) → term_atoms leaves (Cmp o x y) ≡ truth_plan ((term_atoms leaves x).asks ++ ((term_atoms leaves y).asks ++ pair_atoms o (term_atoms leaves x).leaves (term_atoms leaves y).leaves))
  plan_Cmp o x y = ap (term_atoms leaves) (sym (rolls-Cmp o x y)) ∙ fold-roll-Term TermAtoms (TermAtoms × TermAtoms) (plan_layer leaves) plan_pair (Term-F.Cmp o x y)

  pub plan_In : (x : Term) (ts : List Term) → term_atoms leaves (In x ts) ≡ truth_plan ((term_atoms leaves x).asks ++ member_atoms (term_atoms leaves x).leaves (map (term_atoms leaves) ts))
  plan_In x ts = ap (term_atoms leaves) (sym (rolls-In x ts)) ∙ fold-roll-Term TermAtoms (TermAtoms × TermAtoms) (plan_layer leaves) plan_pair (Term-F.In x ts)

  pub plan_Case : (bs : List TermBranch) → term_atoms leaves (Case bs) ≡ record { one = false; leaves = case_leaves [] (map (branch_plan leaves) bs); asks = branch_atoms (map (branch_plan leaves) bs) }
  plan_Case bs = ap (term_atoms leaves) (sym (rolls-Case bs)) ∙ fold-roll-Term TermAtoms (TermAtoms × TermAtoms) (plan_layer leaves) plan_pair (Term-F.Case bs)

  pub plan_branch : (b : TermBranch) → branch_plan leaves b ≡ (term_atoms leaves b.guard, term_atoms leaves b.value)
  plan_branch b = fold-roll-TermBranch TermAtoms (TermAtoms × TermAtoms) (plan_layer leaves) plan_pair (record { guard = b.guard; value = b.value })

-- the atoms of a term that an equation gives
module _ (leaves : ℕ → List Leaf) (t : Term) where
  pub asks_Num : (n : ℕ) → t ≡ Num n → (term_atoms leaves t).asks ≡ []
  asks_Num n e = ap (λ (p : TermAtoms). p.asks) (ap (term_atoms leaves) e ∙ plan_Num leaves n)

  pub asks_Name : (id : ℕ) → t ≡ Name id → (term_atoms leaves t).asks ≡ []
  asks_Name id e = ap (λ (p : TermAtoms). p.asks) (ap (term_atoms leaves) e ∙ plan_Name leaves id)

  pub asks_Cmp : (o : CmpOp) (x y : Term) → t ≡ Cmp o x y → (term_atoms leaves t).asks ≡ (term_atoms leaves x).asks ++ ((term_atoms leaves y).asks ++ pair_atoms o (term_atoms leaves x).leaves (term_atoms leaves y).leaves)
  asks_Cmp o x y e = ap (λ (p : TermAtoms). p.asks) (ap (term_atoms leaves) e ∙ plan_Cmp leaves o x y)

  pub asks_In : (x : Term) (ts : List Term) → t ≡ In x ts → (term_atoms leaves t).asks ≡ (term_atoms leaves x).asks ++ member_atoms (term_atoms leaves x).leaves (map (term_atoms leaves) ts)
  asks_In x ts e = ap (λ (p : TermAtoms). p.asks) (ap (term_atoms leaves) e ∙ plan_In leaves x ts)

-- the leaves of a case list, after those of a branch whose guard isn't the number 1 are joined
pub leaves_step : (xs : List Leaf) (b : TermAtoms × TermAtoms) (g v : TermAtoms) (rest : List (TermAtoms × TermAtoms)) → b ≡ (g, v) → g.one ≡ false →
    case_leaves (joined xs v.leaves) rest ≡ case_leaves xs (b ∷ rest)
leaves_step xs b g v rest e h =
    sym (ap (λ (p : TermAtoms × TermAtoms). case_leaves xs (p ∷ rest)) e ∙ ap (λ o. if o then joined xs v.leaves else case_leaves (joined xs v.leaves) rest) h)

-- and those after a guard that is the number 1
pub leaves_stop : (xs : List Leaf) (b : TermAtoms × TermAtoms) (g v : TermAtoms) (rest : List (TermAtoms × TermAtoms)) → b ≡ (g, v) → g.one ≡ true →
    joined xs v.leaves ≡ case_leaves xs (b ∷ rest)
leaves_stop xs b g v rest e h =
    sym (ap (λ (p : TermAtoms × TermAtoms). case_leaves xs (p ∷ rest)) e ∙ ap (λ o. if o then joined xs v.leaves else case_leaves (joined xs v.leaves) rest) h)
