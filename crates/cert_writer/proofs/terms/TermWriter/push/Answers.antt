use Rattle.std.proofs.Common.{◌++◌, ◌∷◌, [], List, arith, subst, sym}
use Rattle.cert_checker.specs.declared.known.TermDef.{TermDef}
use Rattle.cert_writer.specs.Nodes.{IsTermTable, TermTable}
use Rattle.cert_writer.specs.Terms.{AreOrdered}
use Rattle.cert_writer.proofs.Nodes.{written_push}
use Rattle.cert_writer.proofs.terms.TermWriter.push.Goals as goal
use Rattle.cert_writer.proofs.terms.TermWriter.push.Goals.{in-Ok, in-Err}

pub invariant_of-self : goal.invariant_of-self
invariant_of-self c = elim c.match-push.branch [
  | in-Ok w ↦ subst (λ (xs : List TermDef). IsTermTable (record { store = c.self.inside.store.now; order = c.self.inside.order.now; ranks = c.self.inside.ranks.now; terms = xs; found = c.self.inside.found.items }))
      (sym w.in-Ok.ensures.items)
      (written_push c.self.inside.store.now c.self.inside.order.now c.self.inside.ranks.now c.self.inside.terms.items c.self.inside.found.items c.args.made c.self.invariant (omega (arith, c.if-t-ge-MOST.false, c.len-t.ensures)) (subst (λ (x : TermTable). AreOrdered x.ranks (x.terms ++ c.args.made ∷ [])) (sym c.self.view_is) c.requires))
  | in-Err w ↦ subst (λ (xs : List TermDef). IsTermTable (record { store = c.self.inside.store.now; order = c.self.inside.order.now; ranks = c.self.inside.ranks.now; terms = xs; found = c.self.inside.found.items }))
      (sym w.in-Err.ensures.items) c.self.invariant
]
