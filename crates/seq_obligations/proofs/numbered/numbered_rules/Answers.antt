use Rattle.std.proofs.Common.{ℕ, Bool, ◌||◌, not, List, refl}
use Rattle.nets.proofs.Truths.{begins_more}
use Rattle.ctl_atoms.specs.declared.leaf.Leaf.{Leaf}
use Rattle.ctl_atoms.specs.Leaves.{Assignment}
use Rattle.ctl_picks.proofs.Inside.{inside_more}
use Rattle.ctl_rules.proofs.Kept.{asked_more}
use Rattle.ctl_rules.proofs.Lists.{counted}
use Rattle.seq_obligations.proofs.Listed.{rules_more, rules_pushed}
use Rattle.seq_obligations.proofs.numbered.numbered_rules.Goals as goal

pub rule_told-requires-clause-inside : goal.rule_told-requires-clause-inside
rule_told-requires-clause-inside g c = inside_more c.loop-i.invariant.begins c.requires.inside

pub loop-i-preserved : goal.loop-i-preserved
loop-i-preserved g c =
    let f : ℕ → List Bool → Assignment → (ℕ → Leaf) → Bool = λ i w α cv. not (g.N.RuleFamily.may c.args.rules.now w α cv) || g.N.RuleFamily.asks c.args.rules.now i w α cv in
    let i = inside_more c.loop-i.invariant.begins c.requires.inside in
    let grown = c.rule_told.ensures.extends in
    record {
      begins = begins_more c.loop-i.invariant.begins grown;
      fits = asked_more grown i c.loop-i.invariant.fits;
      count = counted _ _ _ _ c.in_ok-push.ensures c.loop-i.invariant.count;
      rules = rules_pushed f _ _ _ _ c.in_ok-push.ensures c.loop-i.invariant.count (rules_more f _ grown i c.loop-i.invariant.rules) (record { number = refl; asked = c.in_ok-gate.ensures.has_truth });
    }
