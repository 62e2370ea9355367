-- The conditions under which a term can be translated, the leaves that it can pick, and what a translation begins with.
use Rattle.std.specs.Prelude.{ℕ, ◌+◌, ◌≤◌, Bool, true, false, ◌&&◌, if◌then◌else◌, List, [], ◌∷◌, ◌≡◌, length, nat_eq, Some, slice_get}
use Rattle.hcl_tree.specs.declared.tree.CmpOp.{CmpOp}
use Rattle.hcl_tree.specs.declared.tree.CmpOp.TheVariants as op
use Rattle.hcl_types.specs.declared.term.Term.{Term}
use Rattle.hcl_types.specs.declared.term.TermBranch.{TermBranch}
use Rattle.hcl_types.specs.declared.term.Term.TheOpen.{Term-F, TermBranch-F}
use Rattle.hcl_types.specs.declared.term.Term.TheFolds.{fold-Term, fold-TermBranch}
use Rattle.hcl_types.specs.Lists.{each}
use Rattle.ctl_atoms.specs.declared.leaf.Leaf.{Leaf}
use Rattle.ctl_atoms.specs.declared.leaf.Leaf.TheVariants.{Name, Number}
use Rattle.ctl_atoms.specs.declared.leaf.Atom.{Atom}
use Rattle.ctl_picks.specs.declared.controls.Entry.{Entry}
use Rattle.nets.specs.Nets.{Gates}
use Rattle.ctl_atoms.specs.Leaves.{Assignment, AtomsAre}
use Rattle.ctl_atoms.specs.TermAtoms.{joined, once}
use Rattle.ctl_picks.specs.Picks.{entry_truth, entry_word}
use Rattle.ctl_picks.specs.TakenPicks.{at}
use Rattle.ctl_picks.specs.Entries.{entry_leaves, EntryEncodes, EntryWithin}
use Rattle.ctl_terms.specs.Pairs.{leaves_listed}
use Rattle.ctl_terms.specs.declared.scope.Scope.{Scope}

-- about a term: whether it is the number 1, whether it can be translated as a truth and as a word, and the leaves that
-- it can pick
pub record Translatable : Type 0 where
  pub one : Bool
  pub truth : Bool
  pub word : Bool
  pub leaves : List Leaf

abbrev pub truths : List Translatable → Bool
truths ps = each (λ (p : Translatable). p.truth) ps

abbrev pub members : List Atom → List Leaf → List Translatable → Bool
members atoms ls ps = each (λ (p : Translatable). p.word && leaves_listed atoms op.Eq ls p.leaves) ps

abbrev pub branches : List (Translatable × Translatable) → Bool
branches bs = each (λ (b : Translatable × Translatable). b.0.truth && b.1.word) bs

-- the leaves of a case list, up to a guard that is the number 1
abbrev pub case_leaves : List Leaf → List (Translatable × Translatable) → List Leaf
case_leaves ls [] = once ls (Number 0)
case_leaves ls (b ∷ bs) = if b.0.one then joined ls b.1.leaves else case_leaves (joined ls b.1.leaves) bs

abbrev pub ready_layer : List Entry → List Atom → Term-F Translatable (Translatable × Translatable) → Translatable
ready_layer es atoms (Term-F.Num n) = record { one = nat_eq n 1; truth = true; word = true; leaves = Number n ∷ [] }
ready_layer es atoms (Term-F.Name id) = record { one = false; truth = entry_truth (slice_get es id); word = entry_word (slice_get es id); leaves = entry_leaves (slice_get es id) }
ready_layer es atoms (Term-F.Not t) = record { one = false; truth = t.truth; word = false; leaves = [] }
ready_layer es atoms (Term-F.And ts) = record { one = false; truth = truths ts; word = false; leaves = [] }
ready_layer es atoms (Term-F.Or ts) = record { one = false; truth = truths ts; word = false; leaves = [] }
ready_layer es atoms (Term-F.Cmp o t u) = record { one = false; truth = t.word && (u.word && leaves_listed atoms o t.leaves u.leaves); word = false; leaves = [] }
ready_layer es atoms (Term-F.In t ts) = record { one = false; truth = t.word && members atoms t.leaves ts; word = false; leaves = [] }
ready_layer es atoms (Term-F.Case bs) = record { one = false; truth = false; word = branches bs; leaves = case_leaves [] bs }

abbrev pub ready_pair : TermBranch-F Translatable (Translatable × Translatable) → Translatable × Translatable
ready_pair b = (b.guard, b.value)

abbrev pub translatable : List Entry → List Atom → Term → Translatable
translatable es atoms = fold-Term Translatable (Translatable × Translatable) (ready_layer es atoms) ready_pair

abbrev pub branch_ready : List Entry → List Atom → TermBranch → Translatable × Translatable
branch_ready es atoms = fold-TermBranch Translatable (Translatable × Translatable) (ready_layer es atoms) ready_pair

-- the gates of all names are in the net, and the atoms among its variables, from `first` on
pub record HasScope (n : Gates) (es : List Entry) (listed : List Atom) (first : ℕ) : Type 0 where
  pub vars : first + length listed ≤ n.vars
  pub entries : (id : ℕ) (e : Entry) → slice_get es id ≡ Some e → EntryWithin (length n.gates) e

-- under a valuation the atoms have the truths of α, and each name that has a gate or picks has the control value of cv
pub record EncodesSoFar (n : Gates) (es : List Entry) (listed : List Atom) (first : ℕ) (w : List Bool) (α : Assignment) (cv : ℕ → Leaf) : Type 0 where
  pub atoms : AtomsAre listed first w α
  pub entries : (id : ℕ) (e : Entry) → slice_get es id ≡ Some e → EntryEncodes (at n w) α e (cv id)

-- ---- at the entries and the atoms of a scope

-- what the translation of a term needs, and the leaves that it can pick
abbrev pub translatable_in : Scope → Term → Translatable
translatable_in s = translatable s.entries.now s.atoms.now

-- the same of the guard and of the value of a case
abbrev pub branch_ready_in : Scope → TermBranch → Translatable × Translatable
branch_ready_in s = branch_ready s.entries.now s.atoms.now

-- the net has the gates of the entries, and a variable for each atom
abbrev pub IsScopeIn : Gates → Scope → Type 0
IsScopeIn n s = HasScope n s.entries.now s.atoms.now s.first

-- at a valuation, the entries encode control values, and the variables the truths of the atoms
abbrev pub EncodesScope : Gates → Scope → List Bool → Assignment → (ℕ → Leaf) → Type 0
EncodesScope n s = EncodesSoFar n s.entries.now s.atoms.now s.first

-- the variables of the atoms are among those of the net
abbrev pub HasScopeAtoms : Gates → Scope → Type 0
HasScopeAtoms n s = s.first + length s.atoms.now ≤ n.vars

-- at a valuation, those variables have the truths of the atoms
abbrev pub ScopeAtomsAre : Scope → List Bool → Assignment → Type 0
ScopeAtomsAre s = AtomsAre s.atoms.now s.first
