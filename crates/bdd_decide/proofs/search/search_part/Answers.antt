use Rattle.std.proofs.Common.{subst}
use Rattle.bdd_decide.specs.Splitting.{IsPass}
use Rattle.bdd_decide.specs.declared.pass.PassResult.{PassResult}
use Rattle.bdd_decide.specs.declared.pass.PassResult.TheVariants as pass
use Rattle.bdd_decide.proofs.Searching.{search_some}
use Rattle.bdd_decide.proofs.search.search_part.Goals as goal

pub returns-in-False : goal.returns-in-False
returns-in-False g c =
    let copy = c.in_ok-copy.copy in
    let found : IsPass copy.net copy.gates (pass.False c.in-False.place) = subst (λ (r : PassResult). IsPass copy.net copy.gates r) c.in-False.is c.in_ok-pass.ensures in
    search_some c.args.net.now c.args.gates.now c.args.part.bits c.args.part.number c.args.so_far.place c.args.so_far.part c.requires.so_far
    copy c.in-False.place c.requires.part c.in_ok-copy.ensures found.0 found.1 found.2 found.3
