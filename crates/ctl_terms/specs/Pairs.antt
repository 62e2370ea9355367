-- Comparisons of the leaves of two lists of picks.
use Rattle.std.specs.Prelude.{ℕ, Bool, ◌&&◌, List}
use Rattle.ctl_atoms.specs.declared.leaf.Leaf.{Leaf}
use Rattle.ctl_atoms.specs.declared.leaf.Atom.{Atom}
use Rattle.ctl_picks.specs.declared.controls.Pick.{Pick}
use Rattle.hcl_tree.specs.declared.tree.CmpOp.{CmpOp}
use Rattle.hcl_types.specs.Lists.{some, each}
use Rattle.ctl_atoms.specs.Leaves.{leaf_cmp, open_atom, is_listed, Assignment}

-- each pair of a left and a right leaf is decided at once or listed
abbrev pub leaves_listed : List Atom → CmpOp → List Leaf → List Leaf → Bool
leaves_listed atoms o ls ms = each (λ (l : Leaf). each (λ (m : Leaf). is_listed atoms (open_atom o l m)) ms) ls

-- the atoms of the comparisons of a leaf with picks, and of picks with picks, are listed
abbrev pub row_listed : List Atom → CmpOp → Leaf → List Pick → Bool
row_listed atoms o x qs = each (λ (q : Pick). is_listed atoms (open_atom o x q.leaf)) qs

abbrev pub pairs_listed : List Atom → CmpOp → List Pick → List Pick → Bool
pairs_listed atoms o ps qs = each (λ (p : Pick). row_listed atoms o p.leaf qs) ps

abbrev pub row_holds : (ℕ → Bool) → Assignment → CmpOp → Leaf → List Pick → Bool
row_holds tr α o x qs = some (λ (q : Pick). tr q.gate && leaf_cmp α o x q.leaf) qs

abbrev pub pairs_hold : (ℕ → Bool) → Assignment → CmpOp → List Pick → List Pick → Bool
pairs_hold tr α o ps qs = some (λ (p : Pick). tr p.gate && row_holds tr α o p.leaf qs) ps
