use Rattle.std.proofs.Common.{◌+◌, ◌<◌, List, length, get_or, drop, map, ap, sym, ◌∙◌}
use Rattle.std.proofs.lemmas.List.{drop_more, at_drop_all}
use Rattle.ctl_atoms.specs.declared.leaf.Leaf.{Leaf}
use Rattle.ctl_atoms.specs.declared.leaf.Leaf.TheVariants.{Name}
use Rattle.ctl_atoms.specs.declared.leaf.Atom.{Atom}
use Rattle.ctl_atoms.specs.Leaves.{open_atom}
use Rattle.ctl_atoms.specs.TermAtoms.{pair_atoms}
use Rattle.ctl_atoms.specs.Atoms.{added}
use Rattle.ctl_atoms.proofs.Added.{added_nil, added_append}
use Rattle.ctl_atoms.proofs.open_atoms.put_pairs.Goals as goal

pub loop-left-preserved : goal.loop-left-preserved
loop-left-preserved c =
    let ls = c.args.lefts.now in
    let i = c.loop-left.left-index in
    let out = c.loop-left.out.items in
    let inside : i < length ls = c.loop-left-test.true in
    let rest = pair_atoms c.args.op (drop (i + 1) ls) c.args.rights.now in
    ap (λ (xs : List Atom). added xs rest) c.in-Ok.ensures
    ∙ (sym (added_append out (map (open_atom c.args.op (get_or ls i (Name 0))) c.args.rights.now) rest)
    ∙ (ap (λ (xs : List Leaf). added out (pair_atoms c.args.op xs c.args.rights.now)) (sym (drop_more ls i (Name 0) inside)) ∙ c.loop-left.invariant))

pub returns : goal.returns
returns c =
    sym (added_nil c.loop-left.out.items)
    ∙ (sym (at_drop_all (λ (xs : List Leaf). added c.loop-left.out.items (pair_atoms c.args.op xs c.args.rights.now)) c.args.lefts.now c.loop-left.left-index c.loop-left-test.false) ∙ c.loop-left.invariant)
