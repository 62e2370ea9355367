use Rattle.std.proofs.Common.{rules, ◌≡◌, ◌++◌, ◌∷◌, [], subst, sym}
use Rattle.nets.specs.Substitution.{AreCopies}
use Rattle.nets.proofs.Gates.{copies_more}
use Rattle.nets.proofs.copies.substitute.Goals as goal

pub loop-i-preserved : goal.loop-i-preserved
loop-i-preserved c =
    let items : c.push.new.self.items ≡ c.loop-i.made.items ++ c.in_ok-g.g ∷ [] = search rules in
    record {
      within = search rules;
      vars = search rules;
      size = search rules;
      copies = subst (AreCopies c.args.n.now c.copy_gate.new.b c.args.to.now) (sym items)
          (copies_more c.gate.result c.copy_gate.ensures.extends c.loop-i.invariant.copies c.loop-i.invariant.size c.gate.ensures.meaning c.in_ok-g.ensures.has_truth);
    }
