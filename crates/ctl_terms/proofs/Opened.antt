-- The conditions on a translation's input stay true as the net grows.
use Rattle.std.proofs.Common.{Bool, List, ℕ, length, arith}
use Rattle.ctl_atoms.specs.declared.leaf.Leaf.{Leaf}
use Rattle.ctl_picks.specs.declared.controls.Entry.{Entry}
use Rattle.ctl_atoms.specs.declared.leaf.Atom.{Atom}
use Rattle.nets.specs.Nets.{Gates, ExtendsNet}
use Rattle.ctl_atoms.specs.Leaves.{Assignment}
use Rattle.ctl_terms.specs.Translatable.{HasScope, EncodesSoFar}
use Rattle.ctl_picks.proofs.Entries.{entry_within, entry_shows}

pub open_kept : {a b : Gates} {es : List Entry} {atoms : List Atom} {first : ℕ} → ExtendsNet a b → HasScope a es atoms first → HasScope b es atoms first
open_kept {a} {b} {es} {atoms} {first} k o = record {
  vars = let v = k.vars in let x = o.vars in omega arith;
  entries = λ id e i. entry_within (length a.gates) (length b.gates) e k.more (o.entries id e i);
}

pub shows_kept : {a b : Gates} {es : List Entry} {atoms : List Atom} {first : ℕ} {w : List Bool} {α : Assignment} {cv : ℕ → Leaf} → ExtendsNet a b → HasScope a es atoms first →
    EncodesSoFar a es atoms first w α cv → EncodesSoFar b es atoms first w α cv
shows_kept {a} {b} {es} {atoms} {first} {w} {α} {cv} k o h = record {
  atoms = h.atoms;
  entries = λ id e i. entry_shows k w α e (cv id) (o.entries id e i) (h.entries id e i);
}
