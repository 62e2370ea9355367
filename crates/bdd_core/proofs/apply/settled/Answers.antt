use Rattle.std.proofs.Common.{inl, inr}
use Rattle.bdd_core.proofs.Applying.{not_first, not_second, and_first, and_left, and_right}
use Rattle.bdd_core.proofs.apply.settled.Goals as goal

pub returns-in-0-clause-settled : goal.returns-in-0-clause-settled
returns-in-0-clause-settled c = not_first c.args.key c.in-Not.is c.in-0.is

pub returns-in-1-clause-settled : goal.returns-in-1-clause-settled
returns-in-1-clause-settled c = not_second c.args.key c.in-Not.is c.in-1.is

pub returns-then-key-eq0-2-clause-settled : goal.returns-then-key-eq0-2-clause-settled
returns-then-key-eq0-2-clause-settled c = and_first c.args.key c.in-And.is (elim c.if-key-eq0-2.either [ inl p ↦ inl p | inr p ↦ inr p.1 ])

pub returns-then-key-eq1-clause-settled : goal.returns-then-key-eq1-clause-settled
returns-then-key-eq1-clause-settled c = and_left c.args.key c.in-And.is c.if-key-eq1.true

pub returns-then-key-clause-settled : goal.returns-then-key-clause-settled
returns-then-key-clause-settled c = and_right c.args.key c.in-And.is (elim c.if-key.either [ inl p ↦ inl p | inr p ↦ inr p.1 ])
