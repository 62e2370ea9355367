use Rattle.std.proofs.Common.{◌+◌, ◌<◌, List, length, get_or, drop, map, ap, sym, ◌∙◌}
use Rattle.std.proofs.lemmas.List.{drop_more, at_drop_all}
use Rattle.ctl_atoms.specs.declared.leaf.Leaf.{Leaf}
use Rattle.ctl_atoms.specs.declared.leaf.Leaf.TheVariants.{Name}
use Rattle.ctl_atoms.specs.declared.leaf.Atom.{Atom}
use Rattle.ctl_atoms.specs.Leaves.{open_atom}
use Rattle.ctl_atoms.specs.Atoms.{added, with_atom}
use Rattle.ctl_atoms.proofs.Added.{added_nil, added_one}
use Rattle.ctl_atoms.proofs.open_atoms.put_row.Goals as goal

pub loop-right-preserved : goal.loop-right-preserved
loop-right-preserved c =
    let ls = c.args.rights.now in
    let i = c.loop-right.right-index in
    let out = c.loop-right.out.items in
    let inside : i < length ls = c.loop-right-test.true in
    let rest = map (open_atom c.args.op c.args.left) (drop (i + 1) ls) in
    ap (λ (xs : List Atom). added xs rest) (c.in-Ok.ensures ∙ ap (with_atom out) c.atom_at.ensures)
    ∙ (sym (added_one out (open_atom c.args.op c.args.left (get_or ls i (Name 0))) rest)
    ∙ (ap (λ (xs : List Leaf). added out (map (open_atom c.args.op c.args.left) xs)) (sym (drop_more ls i (Name 0) inside)) ∙ c.loop-right.invariant))

pub returns : goal.returns
returns c =
    sym (added_nil c.loop-right.out.items)
    ∙ (sym (at_drop_all (λ (xs : List Leaf). added c.loop-right.out.items (map (open_atom c.args.op c.args.left) xs)) c.args.rights.now c.loop-right.right-index c.loop-right-test.false) ∙ c.loop-right.invariant)
