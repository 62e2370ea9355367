use Rattle.std.proofs.Common.{List, sym, subst}
use Rattle.hcl_types.specs.Terms.{value}
use Rattle.ctl_atoms.specs.Leaves.{leaf_meaning}
use Rattle.ctl_picks.specs.declared.controls.Pick.{Pick}
use Rattle.ctl_picks.specs.TakenPicks.{IsOnlyTaken, at}
use Rattle.ctl_terms.proofs.scope.Scope.defined_entry.Goals as goal

pub returns-in_ok-ps-in-Number-clause-is : goal.returns-in_ok-ps-in-Number-clause-is
returns-in_ok-ps-in-Number-clause-is c = λ w α cv s.
    subst (λ (ps : List Pick). IsOnlyTaken (at c.word.new.b w) ps (value (leaf_meaning α) cv c.args.t.now)) (sym c.of.ensures) (c.in_ok-ps-in-Number.ensures.is w α cv s)

pub returns-in_ok-ps-in-Code-clause-is : goal.returns-in_ok-ps-in-Code-clause-is
returns-in_ok-ps-in-Code-clause-is c = λ w α cv s.
    subst (λ (ps : List Pick). IsOnlyTaken (at c.word-in-Code.new.b w) ps (value (leaf_meaning α) cv c.args.t.now)) (sym c.of-in-Code.ensures) (c.in_ok-ps-in-Code.ensures.is w α cv s)

pub returns-in_ok-ps-in-Value-clause-is : goal.returns-in_ok-ps-in-Value-clause-is
returns-in_ok-ps-in-Value-clause-is c = λ w α cv s.
    subst (λ (ps : List Pick). IsOnlyTaken (at c.word-in-Value.new.b w) ps (value (leaf_meaning α) cv c.args.t.now)) (sym c.of-in-Value.ensures) (c.in_ok-ps-in-Value.ensures.is w α cv s)
