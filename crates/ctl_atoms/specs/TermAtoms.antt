-- The leaves that a term can pick, and the atoms of its comparisons, given the leaves that each name can pick.
use Rattle.std.specs.Prelude.{ℕ, Bool, false, ◌||◌, if◌then◌else◌, List, [], ◌∷◌, ◌++◌, map, nat_eq, Option}
use Rattle.hcl_tree.specs.declared.tree.CmpOp.{CmpOp}
use Rattle.hcl_tree.specs.declared.tree.CmpOp.TheVariants as op
use Rattle.hcl_types.specs.declared.term.Term.{Term}
use Rattle.hcl_types.specs.declared.term.TermBranch.{TermBranch}
use Rattle.hcl_types.specs.declared.term.Term.TheOpen.{Term-F, TermBranch-F}
use Rattle.hcl_types.specs.declared.term.Term.TheFolds.{fold-Term, fold-TermBranch}
use Rattle.ctl_atoms.specs.declared.leaf.Leaf.{Leaf}
use Rattle.ctl_atoms.specs.declared.leaf.Leaf.TheVariants.{Number}
use Rattle.ctl_atoms.specs.declared.leaf.Atom.{Atom}
use Rattle.ctl_atoms.specs.Leaves.{open_atom, leaf_eq}

abbrev pub has_leaf : List Leaf → Leaf → Bool
has_leaf [] x = false
has_leaf (y ∷ ys) x = leaf_eq y x || has_leaf ys x

-- the list with a leaf added at its end if it isn't there yet
abbrev pub once : List Leaf → Leaf → List Leaf
once xs x = if has_leaf xs x then xs else xs ++ x ∷ []

abbrev pub joined : List Leaf → List Leaf → List Leaf
joined xs [] = xs
joined xs (y ∷ ys) = joined (once xs y) ys

-- the atoms of the comparisons of each left leaf with each right leaf
abbrev pub pair_atoms : CmpOp → List Leaf → List Leaf → List (Option Atom)
pair_atoms o [] ys = []
pair_atoms o (x ∷ xs) ys = map (open_atom o x) ys ++ pair_atoms o xs ys

-- For a term: whether it is the number 1, the leaves that it can pick (in order of first appearance), and the atoms of
-- its comparisons, from left to right and the inner ones before the outer.
pub record TermAtoms : Type 0 where
  pub one : Bool
  pub leaves : List Leaf
  pub asks : List (Option Atom)

abbrev pub atoms_of_all : List TermAtoms → List (Option Atom)
atoms_of_all [] = []
atoms_of_all (p ∷ ps) = p.asks ++ atoms_of_all ps

-- member by member: its own atoms, then those of its comparison with the left side
abbrev pub member_atoms : List Leaf → List TermAtoms → List (Option Atom)
member_atoms xs [] = []
member_atoms xs (p ∷ ps) = (p.asks ++ pair_atoms op.Eq xs p.leaves) ++ member_atoms xs ps

abbrev pub branch_atoms : List (TermAtoms × TermAtoms) → List (Option Atom)
branch_atoms [] = []
branch_atoms (b ∷ bs) = (b.0.asks ++ b.1.asks) ++ branch_atoms bs

-- the leaves of the branches up to a guard that is the number 1; after the last branch the number 0
abbrev pub case_leaves : List Leaf → List (TermAtoms × TermAtoms) → List Leaf
case_leaves xs [] = once xs (Number 0)
case_leaves xs (b ∷ bs) = if b.0.one then joined xs b.1.leaves else case_leaves (joined xs b.1.leaves) bs

-- a truth has no leaves
abbrev pub truth_plan : List (Option Atom) → TermAtoms
truth_plan asks = record { one = false; leaves = []; asks = asks }

abbrev pub plan_layer : (ℕ → List Leaf) → Term-F TermAtoms (TermAtoms × TermAtoms) → TermAtoms
plan_layer leaves (Term-F.Num n) = record { one = nat_eq n 1; leaves = Number n ∷ []; asks = [] }
plan_layer leaves (Term-F.Name id) = record { one = false; leaves = leaves id; asks = [] }
plan_layer leaves (Term-F.Not p) = truth_plan p.asks
plan_layer leaves (Term-F.And ps) = truth_plan (atoms_of_all ps)
plan_layer leaves (Term-F.Or ps) = truth_plan (atoms_of_all ps)
plan_layer leaves (Term-F.Cmp o p q) = truth_plan (p.asks ++ (q.asks ++ pair_atoms o p.leaves q.leaves))
plan_layer leaves (Term-F.In p qs) = truth_plan (p.asks ++ member_atoms p.leaves qs)
plan_layer leaves (Term-F.Case bs) = record { one = false; leaves = case_leaves [] bs; asks = branch_atoms bs }

abbrev pub plan_pair : TermBranch-F TermAtoms (TermAtoms × TermAtoms) → TermAtoms × TermAtoms
plan_pair b = (b.guard, b.value)

abbrev pub term_atoms : (ℕ → List Leaf) → Term → TermAtoms
term_atoms leaves = fold-Term TermAtoms (TermAtoms × TermAtoms) (plan_layer leaves) plan_pair

abbrev pub branch_plan : (ℕ → List Leaf) → TermBranch → TermAtoms × TermAtoms
branch_plan leaves = fold-TermBranch TermAtoms (TermAtoms × TermAtoms) (plan_layer leaves) plan_pair
