use Rattle.std.proofs.Common.{◌<◌, ◌||◌, length, List, subst, ap, ◌∙◌, sym, ◌++◌, ◌∷◌, [], if◌then◌else◌}
use Rattle.std.proofs.lemmas.List.{get_or_read}
use Rattle.std.proofs.lemmas.Result.{on_ok_weaker}
use Rattle.ctl_picks.specs.declared.controls.Pick.{Pick}
use Rattle.nets.specs.Nets.{truth}
use Rattle.ctl_picks.specs.TakenPicks.{at, leaf_taken}
use Rattle.ctl_picks.specs.Picks.{Within, IsPlace, leaves_of}
use Rattle.ctl_picks.proofs.Steps.{none, within_at}
use Rattle.ctl_picks.proofs.Inside.{within_more}
use Rattle.ctl_picks.proofs.Taken.{taken_set, leaves_set, within_set, within_push, taken_push}
use Rattle.ctl_picks.proofs.picking.add.Goals as goal

pub or-requires-clause-left : goal.or-requires-clause-left
or-requires-clause-left c =
    let ps = c.args.out.now.items in
    let place = subst (λ (xs : List Pick). IsPlace xs c.in-Some.k c.args.leaf) c.as_slice.ensures.value c.in-Some.ensures in
    let read = get_or_read ps c.in-Some.k c.index.result.now place.within c.index.ensures none in
    subst (λ (q : Pick). q.gate < length c.args.b.now.gates) (sym read) (within_at (length c.args.b.now.gates) ps c.in-Some.k c.requires.within place.within)

pub returns-in_ok-both-in-Some-clause-within : goal.returns-in_ok-both-in-Some-clause-within
returns-in_ok-both-in-Some-clause-within c =
    let n = length c.or.new.self.gates in
    within_set n c.args.out.now.items c.in-Some.k (record { leaf = c.args.leaf; gate = c.in_ok-both-in-Some.both })
    (within_more (length c.args.b.now.gates) n c.args.out.now.items c.in_ok-both-in-Some.ensures.extends.more c.requires.within) c.in_ok-both-in-Some.ensures.has_truth.within

pub returns-in_ok-both-in-Some-clause-leaves : goal.returns-in_ok-both-in-Some-clause-leaves
returns-in_ok-both-in-Some-clause-leaves c =
    let ps = c.args.out.now.items in
    let place = subst (λ (xs : List Pick). IsPlace xs c.in-Some.k c.args.leaf) c.as_slice.ensures.value c.in-Some.ensures in
    leaves_set ps c.in-Some.k c.in_ok-both-in-Some.both c.args.leaf place.within place.same
    ∙ ap (λ b. if b then leaves_of ps else leaves_of ps ++ c.args.leaf ∷ []) (sym place.has)

pub returns-in_ok-both-in-Some-clause-is : goal.returns-in_ok-both-in-Some-clause-is
returns-in_ok-both-in-Some-clause-is c = λ w y.
    let ps = c.args.out.now.items in
    let place = subst (λ (xs : List Pick). IsPlace xs c.in-Some.k c.args.leaf) c.as_slice.ensures.value c.in-Some.ensures in
    let read = get_or_read ps c.in-Some.k c.index.result.now place.within c.index.ensures none in
    taken_set c.in_ok-both-in-Some.ensures.extends w ps c.in-Some.k c.in_ok-both-in-Some.both c.args.leaf (truth c.args.b.now c.args.gate w) c.requires.within place.within place.same
    (c.in_ok-both-in-Some.ensures.has_truth.is w ∙ ap (λ (q : Pick). truth c.args.b.now q.gate w || truth c.args.b.now c.args.gate w) read) y

pub returns-in-None-clause-within : goal.returns-in-None-clause-within
returns-in-None-clause-within c =
    let n = length c.args.b.now.gates in
    on_ok_weaker c.push.result (λ grown. subst (λ (xs : List Pick). Within n xs) (sym grown)
    (within_push n c.args.out.now.items (record { leaf = c.args.leaf; gate = c.args.gate }) c.requires.within c.requires.gate))
    c.push.ensures

pub returns-in-None-clause-is : goal.returns-in-None-clause-is
returns-in-None-clause-is c = λ w y.
    on_ok_weaker c.push.result (λ grown. ap (λ (xs : List Pick). leaf_taken (at c.args.b.now w) xs y) grown
    ∙ taken_push (at c.args.b.now w) c.args.out.now.items (record { leaf = c.args.leaf; gate = c.args.gate }) y)
    c.push.ensures
