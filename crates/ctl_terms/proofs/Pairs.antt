-- Comparisons of picked leaves.
use Rattle.std.proofs.Common.{◌≡◌, Bool, refl, ◌∙◌, List, [], ◌∷◌, ℕ, length}
use Rattle.ctl_atoms.specs.declared.leaf.Leaf.{Leaf}
use Rattle.ctl_picks.specs.declared.controls.Pick.{Pick}
use Rattle.hcl_tree.specs.declared.tree.CmpOp.{CmpOp}
use Rattle.nets.specs.Nets.{Gates, ExtendsNet}
use Rattle.ctl_atoms.specs.Leaves.{leaf_cmp, Assignment, is_listed, open_atom}
use Rattle.ctl_picks.specs.TakenPicks.{at, IsOnlyTaken}
use Rattle.ctl_terms.specs.Pairs.{row_holds, pairs_hold, row_listed, pairs_listed, leaves_listed}
use Rattle.ctl_picks.specs.Picks.{Within, leaves_of}
use Rattle.ctl_atoms.specs.declared.leaf.Atom.{Atom}
use Rattle.hcl_types.specs.Lists.{each}
use Rattle.ctl_picks.proofs.Chosen.{chosen}
use Rattle.ctl_picks.proofs.Steps.{and_same, or_same, each_map}

pub row_kept : {a b : Gates} → ExtendsNet a b → (w : List Bool) (α : Assignment) (o : CmpOp) (x : Leaf) (qs : List Pick) → Within (length a.gates) qs
    → row_holds (at b w) α o x qs ≡ row_holds (at a w) α o x qs
row_kept k w α o x [] h = refl
row_kept k w α o x (q ∷ qs) h = or_same _ _ _ _ (and_same _ _ _ _ (k.same q.gate w h.0) refl) (row_kept k w α o x qs h.1)

pub chosen_pairs : (tr : ℕ → Bool) (α : Assignment) (o : CmpOp) (ps qs : List Pick) (x y : Leaf) → IsOnlyTaken tr ps x → IsOnlyTaken tr qs y
    → pairs_hold tr α o ps qs ≡ leaf_cmp α o x y
chosen_pairs tr α o ps qs x y p q = chosen tr (λ z. row_holds tr α o z qs) x ps p ∙ chosen tr (leaf_cmp α o x) y qs q

row_leaves : (atoms : List Atom) (o : CmpOp) (x : Leaf) (qs : List Pick) → each (λ (m : Leaf). is_listed atoms (open_atom o x m)) (leaves_of qs) ≡ row_listed atoms o x qs
row_leaves atoms o x qs = each_map (λ (m : Leaf). is_listed atoms (open_atom o x m)) (λ (q : Pick). q.leaf) qs

pub pairs_from_leaves : (atoms : List Atom) (o : CmpOp) (ps qs : List Pick) → leaves_listed atoms o (leaves_of ps) (leaves_of qs) ≡ pairs_listed atoms o ps qs
pairs_from_leaves atoms o [] qs = refl
pairs_from_leaves atoms o (p ∷ ps) qs = and_same _ _ _ _ (row_leaves atoms o p.leaf qs) (pairs_from_leaves atoms o ps qs)
