use Rattle.std.proofs.Common.{◌∙◌, List, ap, map, ℕ}
use Rattle.hcl_types.specs.declared.term.Term.{Term}
use Rattle.ctl_atoms.specs.declared.leaf.Leaf.{Leaf}
use Rattle.ctl_atoms.specs.declared.leaf.Atom.{Atom}
use Rattle.ctl_atoms.specs.Atoms.{added, atoms_of}
use Rattle.ctl_atoms.specs.TermAtoms.{atoms_of_all, term_atoms}
use Rattle.ctl_atoms.specs.Rows.{leaves_at}
use Rattle.ctl_atoms.proofs.Solved.{leaves_one}
use Rattle.ctl_atoms.proofs.listing.all_atoms.Goals as goal

pub returns : goal.returns
returns c = λ leaves fixed.
    let rows = c.args.t.now.rows in
    let terms = c.args.ordered.now.design.terms in
    let lists = c.in_ok-lists.lists.items in
    let one = leaves_one rows terms c.args.ordered.now.order.ids c.requires.ordered (leaves_at lists) leaves c.in_ok-lists.ensures.solved fixed in
    c.in_ok-put_open_atoms.ensures
    ∙ (ap (λ (xs : List Atom). added xs (atoms_of_all (map (term_atoms (leaves_at c.as_slice.result.now)) c.items.result.now))) c.new-out.ensures.items
    ∙ (ap (λ (ts : List Term). atoms_of (leaves_at c.as_slice.result.now) ts) c.items.ensures
    ∙ (ap (λ (ls : List (List Leaf)). atoms_of (leaves_at ls) terms) c.as_slice.ensures.value
    ∙ ap (λ (f : ℕ → List Leaf). atoms_of f terms) one)))
