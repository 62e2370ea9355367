use Rattle.std.proofs.Common.{◌≡◌, ◌+◌, ◌-◌, ◌&&◌, ◌++◌, ◌∷◌, [], List, length, sym, ap, ◌∙◌, refl, subst, arith}
use Rattle.nets.proofs.Truths.{begins_more}
use Rattle.net_fields.specs.Spelling.{spelt}
use Rattle.ctl_atoms.specs.declared.leaf.Leaf.TheVariants.{Number}
use Rattle.ctl_atoms.specs.Leaves.{leaf_eq}
use Rattle.ctl_picks.specs.declared.controls.Pick.{Pick}
use Rattle.ctl_picks.specs.Picks.{Within, leaves_of}
use Rattle.ctl_picks.specs.TakenPicks.{at, leaf_taken}
use Rattle.ctl_picks.proofs.Inside.{within_more}
use Rattle.ctl_picks.proofs.Chosen.{taken_kept}
use Rattle.ctl_picks.proofs.Steps.{or_same}
use Rattle.ctl_picks.proofs.Taken.{within_push, taken_push}
use Rattle.ctl_given.proofs.Codes.{numbers, leaves_next, below_next, below_all, spelt_below}
use Rattle.ctl_given.proofs.given.code_picks.Goals as goal

pub loop-k-preserved : goal.loop-k-preserved
loop-k-preserved c =
    let n = c.spelling.new.b in
    let ps = c.loop-k.ps.items in
    let k = c.loop-k.k in
    let q : Pick = record { leaf = Number k; gate = c.in_ok-gate.gate } in
    let items : c.push.new.list.items ≡ ps ++ q ∷ [] = c.in-Ok.ensures in
    let made = c.in_ok-gate.ensures in
    let inv = c.loop-k.invariant in
    record {
      begins = begins_more inv.begins made.extends;
      within = subst (λ (xs : List Pick). Within (length n.gates) xs) (sym items) (within_push (length n.gates) ps q (within_more _ _ ps made.extends.more inv.within) made.has_truth.within);
      leaves = ap (λ (xs : List Pick). leaves_of xs ++ numbers (k + 1) (16 - (k + 1))) items ∙ (leaves_next ps q k 16 refl c.loop-k-test.true ∙ inv.leaves);
      is = λ w y.
          ap (λ (xs : List Pick). leaf_taken (at n w) xs y) items ∙ (taken_push (at n w) ps q y
          ∙ (or_same _ _ _ _ (taken_kept made.extends w ps inv.within y ∙ inv.is w y) (ap (λ b. leaf_eq (Number k) y && b) (made.has_truth.is w))
          ∙ below_next k (spelt w c.args.place.first c.args.place.bits) y));
    }

pub returns-clause-is : goal.returns-clause-is
returns-clause-is c = λ w. record {
  only = λ y.
      let small = spelt_below w c.args.place.first c.args.place.bits c.requires.few in
      let all = c.loop-k-test.false in
      c.loop-k.invariant.is w y ∙ below_all c.loop-k.k (spelt w c.args.place.first c.args.place.bits) y (omega (arith, small, all));
}
