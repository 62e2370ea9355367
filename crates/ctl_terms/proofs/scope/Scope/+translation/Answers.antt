use Rattle.std.proofs.Common.{rules, ◌<◌, ◌+◌, ◌&&◌, ◌||◌, length, List, Bool, IsTrue, map, not, sym, ap, ◌∙◌, drop, refl, subst, ◌∷◌}
use Rattle.hcl_tree.specs.declared.tree.CmpOp.TheVariants.{Eq}
use Rattle.hcl_types.specs.declared.term.Term.{Term, the_lemmas}
use Rattle.hcl_types.specs.declared.term.TermBranch.{TermBranch}
use Rattle.hcl_types.specs.declared.term.TermBranch as bs
use Rattle.std.proofs.lemmas.List.{at_drop_all}
use Rattle.std.proofs.lemmas.Bool.{and_parts}
use Rattle.std.proofs.lemmas.Result.{IfOk-weaker}
use Rattle.y86_base.proofs.Lists.{item_is}
use Rattle.ctl_atoms.specs.declared.leaf.Leaf.{Leaf}
use Rattle.ctl_picks.specs.declared.controls.Pick.{Pick}
use Rattle.ctl_picks.specs.declared.controls.Entry.TheVariants.{Truth, Picks}
use Rattle.nets.specs.Nets.{truth}
use Rattle.ctl_atoms.specs.Leaves.{leaf_eq, leaf_holds, leaf_cmp, leaf_meaning}
use Rattle.ctl_picks.specs.TakenPicks.{IsOnlyTaken, at, leaf_taken}
use Rattle.ctl_picks.specs.Picks.{Within, leaves_of}
use Rattle.ctl_terms.specs.Translatable.{translatable, branch_ready, truths, members, branches, case_leaves}
use Rattle.ctl_atoms.specs.declared.leaf.Leaf.TheVariants.{Number}
use Rattle.hcl_types.specs.Lists.{each, some}
use Rattle.hcl_types.specs.Terms.{picked, value, branch_value}
use Rattle.hcl_types.proofs.Values.{value_Num, value_Name, value_Not, value_And, value_Or, value_Cmp, value_In, value_Case}
use Rattle.nets.proofs.Truths.{begins_more}
use Rattle.ctl_terms.proofs.Opened.{open_kept, shows_kept}
use Rattle.ctl_picks.proofs.Chosen.{picked_kept, taken_kept}
use Rattle.ctl_picks.proofs.Steps.{and_more, or_more, and_same, or_same}
use Rattle.ctl_picks.proofs.Inside.{within_more}
use Rattle.ctl_terms.proofs.Arms.{ready_Cmp, ready_In, holds_bit, item_has, and_end, or_end, case_end, case_shut, case_step, shut, branch_is, branch_ready_is, leaves_step, leaves_one}
use Rattle.ctl_terms.proofs.scope.Scope.+translation.Goals as goal

pub truth-returns-in-Name-clause-within : goal.truth-returns-in-Name-clause-within
truth-returns-in-Name-clause-within t c = c.requires.open.entries c.in-Name.id (Truth c.gate_of.result) c.gate_of.ensures

pub truth-returns-in-Name-clause-is : goal.truth-returns-in-Name-clause-is
truth-returns-in-Name-clause-is t c = λ w α cv s.
    s.entries c.in-Name.id (Truth c.gate_of.result) c.gate_of.ensures
    ∙ ap (leaf_holds α) (sym (ap (value (leaf_meaning α) cv) c.in-Name.is ∙ value_Name (leaf_meaning α) cv c.in-Name.id))

pub truth-returns-in_ok-x-in-Not-clause-is : goal.truth-returns-in_ok-x-in-Not-clause-is
truth-returns-in_ok-x-in-Not-clause-is t c = λ w α cv s.
    let v = value (leaf_meaning α) cv in
    IfOk-weaker c.not.result _ _ (λ _ made. made.is w ∙ (ap not (c.in_ok-x-in-Not.ensures.is w α cv s ∙ ap (λ (x : Term). leaf_holds α (v x)) c.get.ensures)
    ∙ (sym (holds_bit α (not (leaf_holds α (v c.in-Not.a)))) ∙ ap (leaf_holds α) (sym (ap v c.in-Not.is ∙ value_Not (leaf_meaning α) cv c.in-Not.a)))))
    c.not.ensures.has_truth

pub truth-returns-in-And-clause-is : goal.truth-returns-in-And-clause-is
truth-returns-in-And-clause-is t c = λ w α cv s.
    let v = value (leaf_meaning α) cv in
    IfOk-weaker c.all_of.result _ _ (λ _ is. is ∙ (ap (λ (ts : List Term). each (leaf_holds α) (map v ts)) c.items.ensures
    ∙ (sym (holds_bit α (each (leaf_holds α) (map v c.in-And.all))) ∙ ap (leaf_holds α) (sym (ap v c.in-And.is ∙ value_And (leaf_meaning α) cv c.in-And.all)))))
    (c.all_of.ensures.is w α cv s)

pub truth-returns-in-Or-clause-is : goal.truth-returns-in-Or-clause-is
truth-returns-in-Or-clause-is t c = λ w α cv s.
    let v = value (leaf_meaning α) cv in
    IfOk-weaker c.any_of.result _ _ (λ _ is. is ∙ (ap (λ (ts : List Term). some (leaf_holds α) (map v ts)) c.items-in-Or.ensures
    ∙ (sym (holds_bit α (some (leaf_holds α) (map v c.in-Or.all))) ∙ ap (leaf_holds α) (sym (ap v c.in-Or.is ∙ value_Or (leaf_meaning α) cv c.in-Or.all)))))
    (c.any_of.ensures.is w α cv s)

pub truth-returns-in_ok-qs-in-Cmp-clause-is : goal.truth-returns-in_ok-qs-in-Cmp-clause-is
truth-returns-in_ok-qs-in-Cmp-clause-is t c = λ w α cv s.
    let v = value (leaf_meaning α) cv in
    let first = c.in_ok-ps-in-Cmp.ensures in
    let second = c.in_ok-qs-in-Cmp.ensures in
    let x = subst (λ (z : Term). IsOnlyTaken (at c.word.new.b w) c.in_ok-ps-in-Cmp.ps.items (v z)) c.get-in-Cmp.ensures (first.is w α cv s) in
    let y = subst (λ (z : Term). IsOnlyTaken (at c.word-in-Cmp.new.b w) c.in_ok-qs-in-Cmp.qs.items (v z)) c.get-in-Cmp-2.ensures (second.is w α cv (shows_kept first.extends c.requires.open s)) in
    IfOk-weaker c.compare.result _ _ (λ _ is. is ∙ (sym (holds_bit α (leaf_cmp α c.in-Cmp.op (v c.in-Cmp.x) (v c.in-Cmp.y)))
    ∙ ap (leaf_holds α) (sym (ap v c.in-Cmp.is ∙ value_Cmp (leaf_meaning α) cv c.in-Cmp.op c.in-Cmp.x c.in-Cmp.y))))
    (c.compare.ensures.is w α (v c.in-Cmp.x) (v c.in-Cmp.y) s.atoms
    (subst (λ (ps : List Pick). IsOnlyTaken (at c.word-in-Cmp.new.b w) ps (v c.in-Cmp.x)) (sym c.as_slice.ensures.value)
    (picked_kept second.extends w c.in_ok-ps-in-Cmp.ps.items first.within (v c.in-Cmp.x) x))
    (subst (λ (ps : List Pick). IsOnlyTaken (at c.word-in-Cmp.new.b w) ps (v c.in-Cmp.y)) (sym c.as_slice-in-Cmp.ensures.value) y))

pub truth-returns-in_ok-ps-in-In-clause-is : goal.truth-returns-in_ok-ps-in-In-clause-is
truth-returns-in_ok-ps-in-In-clause-is t c = λ w α cv s.
    let v = value (leaf_meaning α) cv in
    let first = c.in_ok-ps-in-In.ensures in
    let x = subst (λ (z : Term). IsOnlyTaken (at c.word-in-In.new.b w) c.in_ok-ps-in-In.ps.items (v z)) c.get-in-In.ensures (first.is w α cv s) in
    IfOk-weaker c.member_of.result _ _ (λ _ is. is ∙ (ap (λ (ts : List Term). some (leaf_cmp α Eq (v c.in-In.x)) (map v ts)) c.items-in-In.ensures
    ∙ (sym (holds_bit α (some (leaf_cmp α Eq (v c.in-In.x)) (map v c.in-In.all)))
    ∙ ap (leaf_holds α) (sym (ap v c.in-In.is ∙ value_In (leaf_meaning α) cv c.in-In.x c.in-In.all)))))
    (c.member_of.ensures.is w α cv (v c.in-In.x) (shows_kept first.extends c.requires.open s)
    (subst (λ (ps : List Pick). IsOnlyTaken (at c.word-in-In.new.b w) ps (v c.in-In.x)) (sym c.as_slice-in-In.ensures.value) x))

pub truth-word-requires-in-Cmp : goal.truth-word-requires-in-Cmp
truth-word-requires-in-Cmp t c =
    let es = c.args.self.now.entries.now in
    let atoms = c.args.self.now.atoms.now in
    let whole = subst (λ (z : Term). IsTrue (translatable es atoms z).truth) c.in-Cmp.is c.requires.planned in
    let parts = and_parts _ _ (subst (λ b. IsTrue b) (ready_Cmp es atoms c.in-Cmp.op c.in-Cmp.x c.in-Cmp.y) whole) in
    (search (rules, the_lemmas), (open_kept c.in_ok-ps-in-Cmp.ensures.extends c.requires.open, subst (λ (z : Term). IsTrue (translatable es atoms z).word) (sym c.get-in-Cmp-2.ensures) (and_parts _ _ parts.1).0))

pub truth-compare-requires-clause-left : goal.truth-compare-requires-clause-left
truth-compare-requires-clause-left t c =
    subst (λ (ps : List Pick). Within (length c.word-in-Cmp.new.b.gates) ps) (sym c.as_slice.ensures.value)
    (within_more _ _ c.in_ok-ps-in-Cmp.ps.items c.in_ok-qs-in-Cmp.ensures.extends.more c.in_ok-ps-in-Cmp.ensures.within)

pub truth-member_of-requires : goal.truth-member_of-requires
truth-member_of-requires t c =
    let es = c.args.self.now.entries.now in
    let atoms = c.args.self.now.atoms.now in
    let first = c.in_ok-ps-in-In.ensures in
    let items = c.as_slice-in-In.ensures.value in
    let whole = subst (λ (z : Term). IsTrue (translatable es atoms z).truth) c.in-In.is c.requires.planned in
    let parts = and_parts _ _ (subst (λ b. IsTrue b) (ready_In es atoms c.in-In.x c.in-In.all) whole) in
    let leaves = ap leaves_of items ∙ (first.leaves ∙ ap (λ (z : Term). (translatable es atoms z).leaves) c.get-in-In.ensures) in (
      search (rules, the_lemmas),
      (
        open_kept first.extends c.requires.open,
        (
          subst (λ (ps : List Pick). Within (length c.word-in-In.new.b.gates) ps) (sym items) first.within,
          subst (λ (ts : List Term). IsTrue (members atoms (leaves_of c.as_slice-in-In.result.now) (map (translatable es atoms) ts))) (sym c.items-in-In.ensures)
              (subst (λ (ls : List Leaf). IsTrue (members atoms ls (map (translatable es atoms) c.in-In.all))) (sym leaves) parts.1),
        ),
      ),
    )

pub word-returns-in-Name-clause-within : goal.word-returns-in-Name-clause-within
word-returns-in-Name-clause-within t c =
    IfOk-weaker c.copy_picks.result _ _ (λ _ same. subst (λ (ps : List Pick). Within (length c.args.b.now.gates) ps) (sym same)
    (c.requires.open.entries c.in-Name.id (Picks c.picks_of.result.now) c.picks_of.ensures))
    c.copy_picks.ensures

pub word-returns-in-Name-clause-is : goal.word-returns-in-Name-clause-is
word-returns-in-Name-clause-is t c = λ w α cv s.
    let here = s.entries c.in-Name.id (Picks c.picks_of.result.now) c.picks_of.ensures in
    let named = subst (λ (x : Leaf). IsOnlyTaken (at c.args.b.now w) c.picks_of.result.now x) (sym (ap (value (leaf_meaning α) cv) c.in-Name.is ∙ value_Name (leaf_meaning α) cv c.in-Name.id)) here in
    IfOk-weaker c.copy_picks.result _ _ (λ _ same. subst (λ (ps : List Pick). IsOnlyTaken (at c.args.b.now w) ps (value (leaf_meaning α) cv c.args.t.now)) (sym same) named) c.copy_picks.ensures

pub word-returns-in-Case-clause-is : goal.word-returns-in-Case-clause-is
word-returns-in-Case-clause-is t c = λ w α cv s.
    let v = value (leaf_meaning α) cv in
    let leaf = λ (bs : List TermBranch). picked (leaf_holds α) (Number 0) (map (branch_value (leaf_meaning α) cv) bs) in
    IfOk-weaker c.case_of.result _ _ (λ ps is. subst (λ (x : Leaf). IsOnlyTaken (at c.case_of.new.b w) ps.items x) (ap leaf c.items.ensures ∙ sym (ap v c.in-Case.is ∙ value_Case (leaf_meaning α) cv c.in-Case.all)) is)
    (c.case_of.ensures.is w α cv s)

pub all_of-returns-clause-is : goal.all_of-returns-clause-is
all_of-returns-clause-is t c = λ w α cv s.
    and_end (λ (ts : List Term). each (leaf_holds α) (map (value (leaf_meaning α) cv) ts)) _ _ c.args.all.now c.loop-t.t-index c.loop-t-test.false refl (c.loop-t.invariant.is w α cv s)

pub any_of-returns-clause-is : goal.any_of-returns-clause-is
any_of-returns-clause-is t c = λ w α cv s.
    or_end (λ (ts : List Term). some (leaf_holds α) (map (value (leaf_meaning α) cv) ts)) _ _ c.args.all.now c.loop-t.t-index c.loop-t-test.false refl (c.loop-t.invariant.is w α cv s)

pub member_of-returns-clause-is : goal.member_of-returns-clause-is
member_of-returns-clause-is t c = λ w α cv x s p.
    or_end (λ (ts : List Term). some (leaf_cmp α Eq x) (map (value (leaf_meaning α) cv) ts)) _ _ c.args.all.now c.loop-t.t-index c.loop-t-test.false refl (c.loop-t.invariant.is w α cv x s p)

pub all_of-loop-t-preserved : goal.all_of-loop-t-preserved
all_of-loop-t-preserved t c =
    let all = c.args.all.now in
    let i = c.loop-t.t-index in
    let x = c.t-item.result in
    let inside : i < length all = c.loop-t-test.true in
    let read = c.t-item.is in
    let begins = c.loop-t.invariant.begins in
    let later = begins_more c.in_ok-x.ensures.extends c.in_ok-g-2.ensures.extends in
    record {
      begins = begins_more begins later;
      opened = open_kept later c.loop-t.invariant.opened;
      within = c.in_ok-g-2.ensures.has_truth.within;
      planned = (and_parts _ _ (item_has (λ (ts : List Term). IsTrue (truths (map (translatable c.args.self.now.entries.now c.args.self.now.atoms.now) ts))) all i x inside read c.loop-t.invariant.planned)).1;
      is = λ w α cv s.
          and_more _ (truth c.loop-t.b c.loop-t.g w) (leaf_holds α (value (leaf_meaning α) cv x)) _ _ _
          (c.in_ok-g-2.ensures.has_truth.is w ∙ and_same _ _ _ _ (c.in_ok-x.ensures.extends.same c.loop-t.g w c.loop-t.invariant.within)
          (c.in_ok-x.ensures.is w α cv (shows_kept begins c.requires.open s)))
          (item_is (λ (ts : List Term). each (leaf_holds α) (map (value (leaf_meaning α) cv) ts)) all i x inside read)
          (c.loop-t.invariant.is w α cv s);
    }

pub any_of-loop-t-preserved : goal.any_of-loop-t-preserved
any_of-loop-t-preserved t c =
    let all = c.args.all.now in
    let i = c.loop-t.t-index in
    let x = c.t-item.result in
    let inside : i < length all = c.loop-t-test.true in
    let read = c.t-item.is in
    let begins = c.loop-t.invariant.begins in
    let later = begins_more c.in_ok-x.ensures.extends c.in_ok-g-2.ensures.extends in
    record {
      begins = begins_more begins later;
      opened = open_kept later c.loop-t.invariant.opened;
      within = c.in_ok-g-2.ensures.has_truth.within;
      planned = (and_parts _ _ (item_has (λ (ts : List Term). IsTrue (truths (map (translatable c.args.self.now.entries.now c.args.self.now.atoms.now) ts))) all i x inside read c.loop-t.invariant.planned)).1;
      is = λ w α cv s.
          or_more _ (truth c.loop-t.b c.loop-t.g w) (leaf_holds α (value (leaf_meaning α) cv x)) _ _ _
          (c.in_ok-g-2.ensures.has_truth.is w ∙ or_same _ _ _ _ (c.in_ok-x.ensures.extends.same c.loop-t.g w c.loop-t.invariant.within)
          (c.in_ok-x.ensures.is w α cv (shows_kept begins c.requires.open s)))
          (item_is (λ (ts : List Term). some (leaf_holds α) (map (value (leaf_meaning α) cv) ts)) all i x inside read)
          (c.loop-t.invariant.is w α cv s);
    }

pub member_of-loop-t-init : goal.member_of-loop-t-init
member_of-loop-t-init t c = record {
  begins = c.in_ok-g.ensures.extends;
  opened = open_kept c.in_ok-g.ensures.extends c.requires.open;
  within = c.in_ok-g.ensures.has_truth.within;
  left = within_more _ _ c.args.ps.now c.in_ok-g.ensures.extends.more c.requires.within;
  planned = c.requires.planned;
  is = λ w α cv x s p. ap (λ b. b || some (leaf_cmp α Eq x) (map (value (leaf_meaning α) cv) c.args.all.now)) (c.in_ok-g.ensures.has_truth.is w);
}

pub member_of-loop-t-preserved : goal.member_of-loop-t-preserved
member_of-loop-t-preserved t c =
    let all = c.args.all.now in
    let i = c.loop-t.t-index in
    let x = c.t-item.result in
    let inside : i < length all = c.loop-t-test.true in
    let read = c.t-item.is in
    let begins = c.loop-t.invariant.begins in
    let upto = begins_more c.in_ok-qs.ensures.extends c.in_ok-here.ensures.extends in
    let later = begins_more upto c.in_ok-g-2.ensures.extends in
    record {
      begins = begins_more begins later;
      opened = open_kept later c.loop-t.invariant.opened;
      within = c.in_ok-g-2.ensures.has_truth.within;
      left = within_more _ _ c.args.ps.now later.more c.loop-t.invariant.left;
      planned = (and_parts _ _ (item_has (λ (ts : List Term). IsTrue (members c.args.self.now.atoms.now (leaves_of c.args.ps.now) (map (translatable c.args.self.now.entries.now c.args.self.now.atoms.now) ts))) all i x inside read c.loop-t.invariant.planned)).1;
      is = λ w α cv z s p.
          let v = value (leaf_meaning α) cv in
          or_more _ (truth c.loop-t.b c.loop-t.g w) (leaf_cmp α Eq z (v x)) _ _ _
          (c.in_ok-g-2.ensures.has_truth.is w ∙ or_same _ _ _ _ (upto.same c.loop-t.g w c.loop-t.invariant.within)
          (c.in_ok-here.ensures.is w α z (v x) s.atoms
          (picked_kept (begins_more begins c.in_ok-qs.ensures.extends) w c.args.ps.now c.requires.within z p)
          (subst (λ (ps : List Pick). IsOnlyTaken (at c.word.new.b w) ps (v x)) (sym c.as_slice.ensures.value) (c.in_ok-qs.ensures.is w α cv (shows_kept begins c.requires.open s)))))
          (item_is (λ (ts : List Term). some (leaf_cmp α Eq z) (map v ts)) all i x inside read)
          (c.loop-t.invariant.is w α cv z s p);
    }

pub member_of-compare-requires-clause-left : goal.member_of-compare-requires-clause-left
member_of-compare-requires-clause-left t c = within_more _ _ c.args.ps.now c.in_ok-qs.ensures.extends.more c.loop-t.invariant.left

pub branch_of-word-requires : goal.branch_of-word-requires
branch_of-word-requires t c = (search (rules, the_lemmas, bs.the_lemmas), (open_kept c.in_ok-guard.ensures.extends c.requires.open, c.requires.value))

pub branch_of-add_all-requires-clause-within : goal.branch_of-add_all-requires-clause-within
branch_of-add_all-requires-clause-within t c =
    within_more _ _ c.args.out.now.items (begins_more c.in_ok-guard.ensures.extends (begins_more c.in_ok-ps.ensures.extends c.in_ok-here.ensures.extends)).more c.requires.within

pub branch_of-add_all-requires-clause-more : goal.branch_of-add_all-requires-clause-more
branch_of-add_all-requires-clause-more t c =
    subst (λ (ps : List Pick). Within (length c.and.new.self.gates) ps) (sym c.as_slice.ensures.value)
    (within_more _ _ c.in_ok-ps.ps.items c.in_ok-here.ensures.extends.more c.in_ok-ps.ensures.within)

pub branch_of-returns-clause-within : goal.branch_of-returns-clause-within
branch_of-returns-clause-within t c =
    IfOk-weaker c.and-2.result _ _ (λ _ _. within_more _ _ c.add_all.new.out.items (begins_more c.in_ok-past.ensures.extends c.and-2.ensures.extends).more c.in_ok-add_all.ensures.within)
    c.and-2.ensures.has_truth

pub branch_of-returns-clause-shut : goal.branch_of-returns-clause-shut
branch_of-returns-clause-shut t c = λ w α cv s h.
    let first = c.in_ok-guard.ensures in
    let upto = begins_more c.in_ok-ps.ensures.extends (begins_more c.in_ok-here.ensures.extends c.in_ok-add_all.ensures.extends) in
    IfOk-weaker c.and-2.result _ _ (λ _ made. made.is w
    ∙ (and_same _ _ _ _ refl (c.in_ok-past.ensures.has_truth.is w ∙ ap not (upto.same c.in_ok-guard.guard w first.within ∙ first.is w α cv s))
    ∙ shut (truth c.not.new.self c.args.free w) (leaf_holds α (value (leaf_meaning α) cv c.args.branch.now.guard)) h))
    c.and-2.ensures.has_truth

pub branch_of-returns-clause-is : goal.branch_of-returns-clause-is
branch_of-returns-clause-is t c = λ w α cv s r y.
    let v = value (leaf_meaning α) cv in
    let out = c.args.out.now.items in
    let first = c.in_ok-guard.ensures in
    let second = c.in_ok-ps.ensures in
    let here = c.in_ok-here.ensures in
    let added = c.in_ok-add_all.ensures in
    let past = c.in_ok-past.ensures in
    let last = c.and-2.ensures.extends in
    let two = begins_more first.extends second.extends in
    let three = begins_more two here.extends in
    let four = begins_more second.extends (begins_more here.extends added.extends) in
    let five = begins_more first.extends (begins_more four past.extends) in
    let guarded = first.is w α cv s in
    let worth = (second.is w α cv (shows_kept first.extends c.requires.open s)).only y in
    IfOk-weaker c.and-2.result _ _ (λ _ made. or_same _ _ _ _
    (taken_kept (begins_more past.extends last) w c.add_all.new.out.items added.within y
    ∙ (added.is w y
    ∙ or_same _ _ _ _ (taken_kept three w out c.requires.within y)
    (and_same _ _ _ _
    (here.has_truth.is w ∙ and_same _ _ _ _ (two.same c.args.free w c.requires.gate) (second.extends.same c.in_ok-guard.guard w first.within ∙ guarded))
    (ap (λ (ps : List Pick). leaf_taken (at c.and.new.self w) ps y) c.as_slice.ensures.value ∙ (taken_kept here.extends w c.in_ok-ps.ps.items second.within y ∙ worth)))))
    (and_same _ _ _ _
    (made.is w ∙ and_same _ _ _ _ (five.same c.args.free w c.requires.gate)
    (past.has_truth.is w ∙ ap not (four.same c.in_ok-guard.guard w first.within ∙ guarded)))
    refl)
    ∙ case_step (leaf_taken (at c.args.b.now w) out y) (truth c.args.b.now c.args.free w) (leaf_holds α (v c.args.branch.now.guard)) (v c.args.branch.now.value) r y)
    c.and-2.ensures.has_truth

pub case_of-returns-clause-is : goal.case_of-returns-clause-is
case_of-returns-clause-is t c = λ w α cv s. record {
  only = λ y.
      let F : List TermBranch → Bool = λ bs. leaf_taken (at c.loop-branch.b w) c.loop-branch.out.items y || (truth c.loop-branch.b c.loop-branch.open w && leaf_eq (picked (leaf_holds α) (Number 0) (map (branch_value (leaf_meaning α) cv) bs)) y) in
      case_end (leaf_taken (at c.loop-branch.b w) c.loop-branch.out.items y) (truth c.loop-branch.b c.loop-branch.open w) (leaf_eq (Number 0) y) _ _ (c.in_ok-add.ensures.is w y)
      (sym (at_drop_all F c.args.all.now c.loop-branch.branch-index c.loop-branch-test.false) ∙ c.loop-branch.invariant.is w α cv s y);
}

pub case_of-loop-branch-preserved : goal.case_of-loop-branch-preserved
case_of-loop-branch-preserved t c =
    let es = c.args.self.now.entries.now in
    let atoms = c.args.self.now.atoms.now in
    let all = c.args.all.now in
    let i = c.loop-branch.branch-index in
    let br = c.branch-item.result in
    let inside : i < length all = c.loop-branch-test.true in
    let read = c.branch-item.is in
    let inv = c.loop-branch.invariant in
    let e = c.in_ok-open-2.ensures in
    record {
      begins = begins_more inv.begins e.extends;
      opened = open_kept e.extends inv.opened;
      within = e.within;
      left = e.gate;
      planned = (and_parts _ _ (item_has (λ (bs : List TermBranch). IsTrue (branches (map (branch_ready es atoms) bs))) all i br inside read inv.planned)).1;
      leaves = ap (λ (ls : List Leaf). case_leaves ls (map (branch_ready es atoms) (drop (i + 1) all))) e.leaves
          ∙ (leaves_step (leaves_of c.loop-branch.out.items) (branch_ready es atoms br) (translatable es atoms br.guard) (translatable es atoms br.value) (map (branch_ready es atoms) (drop (i + 1) all))
          (branch_ready_is es atoms br) (sym (c.is_one.ensures.one es atoms) ∙ c.if-is_one.false)
          ∙ (sym (item_is (λ (bs : List TermBranch). case_leaves (leaves_of c.loop-branch.out.items) (map (branch_ready es atoms) bs)) all i br inside read) ∙ inv.leaves));
      is = λ w α cv s y.
          let T = leaf_taken (at c.loop-branch.b w) c.loop-branch.out.items y in
          let O = truth c.loop-branch.b c.loop-branch.open w in
          let rest = map (branch_value (leaf_meaning α) cv) (drop (i + 1) all) in
          e.is w α cv (shows_kept inv.begins c.requires.open s) (picked (leaf_holds α) (Number 0) rest) y
          ∙ (sym (ap (λ (p : Leaf × Leaf). T || (O && leaf_eq (picked (leaf_holds α) (Number 0) (p ∷ rest)) y)) (branch_is (leaf_meaning α) cv br))
          ∙ (sym (item_is (λ (bs : List TermBranch). T || (O && leaf_eq (picked (leaf_holds α) (Number 0) (map (branch_value (leaf_meaning α) cv) bs)) y)) all i br inside read)
          ∙ inv.is w α cv s y));
    }

pub case_of-returns-then-is_one-clause-is : goal.case_of-returns-then-is_one-clause-is
case_of-returns-then-is_one-clause-is t c = λ w α cv s. record {
  only = λ y.
      let all = c.args.all.now in
      let i = c.loop-branch.branch-index in
      let br = c.branch-item.result in
      let inside : i < length all = c.loop-branch-test.true in
      let read = c.branch-item.is in
      let inv = c.loop-branch.invariant in
      let e = c.in_ok-open-2.ensures in
      let T = leaf_taken (at c.loop-branch.b w) c.loop-branch.out.items y in
      let O = truth c.loop-branch.b c.loop-branch.open w in
      let rest = map (branch_value (leaf_meaning α) cv) (drop (i + 1) all) in
      let s1 = shows_kept inv.begins c.requires.open s in
      let one = ap (λ (z : Term). leaf_holds α (value (leaf_meaning α) cv z)) (c.is_one.ensures.is c.if-is_one.true) ∙ ap (leaf_holds α) (value_Num (leaf_meaning α) cv 1) in
      case_shut _ (truth c.branch_of.new.b c.in_ok-open-2.open w) (leaf_eq (picked (leaf_holds α) (Number 0) rest) y) _ (e.shut w α cv s1 one)
      (e.is w α cv s1 (picked (leaf_holds α) (Number 0) rest) y
      ∙ (sym (ap (λ (p : Leaf × Leaf). T || (O && leaf_eq (picked (leaf_holds α) (Number 0) (p ∷ rest)) y)) (branch_is (leaf_meaning α) cv br))
      ∙ (sym (item_is (λ (bs : List TermBranch). T || (O && leaf_eq (picked (leaf_holds α) (Number 0) (map (branch_value (leaf_meaning α) cv) bs)) y)) all i br inside read)
      ∙ inv.is w α cv s y)));
}

pub all_of-loop-t-init : goal.all_of-loop-t-init
all_of-loop-t-init t c = record {
  begins = c.in_ok-g.ensures.extends;
  opened = open_kept c.in_ok-g.ensures.extends c.requires.open;
  within = c.in_ok-g.ensures.has_truth.within;
  planned = c.requires.planned;
  is = λ w α cv s. ap (λ b. b && each (leaf_holds α) (map (value (leaf_meaning α) cv) c.args.all.now)) (c.in_ok-g.ensures.has_truth.is w);
}

pub any_of-loop-t-init : goal.any_of-loop-t-init
any_of-loop-t-init t c = record {
  begins = c.in_ok-g.ensures.extends;
  opened = open_kept c.in_ok-g.ensures.extends c.requires.open;
  within = c.in_ok-g.ensures.has_truth.within;
  planned = c.requires.planned;
  is = λ w α cv s. ap (λ b. b || some (leaf_holds α) (map (value (leaf_meaning α) cv) c.args.all.now)) (c.in_ok-g.ensures.has_truth.is w);
}

pub case_of-loop-branch-init : goal.case_of-loop-branch-init
case_of-loop-branch-init t c =
    let made = c.in_ok-open.ensures in
    let none = c.new-out.ensures.items in
    let es = c.args.self.now.entries.now in
    let atoms = c.args.self.now.atoms.now in
    record {
      begins = made.extends;
      opened = open_kept made.extends c.requires.open;
      within = subst (λ (ps : List Pick). Within (length c.constant.new.self.gates) ps) (sym none) tt;
      left = made.has_truth.within;
      planned = c.requires.planned;
      leaves = ap (λ (ps : List Pick). case_leaves (leaves_of ps) (map (branch_ready es atoms) c.args.all.now)) none;
      is = λ w α cv s y.
          let whole = picked (leaf_holds α) (Number 0) (map (branch_value (leaf_meaning α) cv) c.args.all.now) in
          ap (λ (ps : List Pick). leaf_taken (at c.constant.new.self w) ps y || (truth c.constant.new.self c.in_ok-open.open w && leaf_eq whole y)) none
          ∙ ap (λ b. b && leaf_eq whole y) (made.has_truth.is w);
    }

pub case_of-returns-then-is_one-clause-leaves : goal.case_of-returns-then-is_one-clause-leaves
case_of-returns-then-is_one-clause-leaves t c =
    let es = c.args.self.now.entries.now in
    let atoms = c.args.self.now.atoms.now in
    let all = c.args.all.now in
    let i = c.loop-branch.branch-index in
    let br = c.branch-item.result in
    let inside : i < length all = c.loop-branch-test.true in
    c.in_ok-open-2.ensures.leaves
    ∙ (leaves_one (leaves_of c.loop-branch.out.items) (branch_ready es atoms br) (translatable es atoms br.guard) (translatable es atoms br.value) (map (branch_ready es atoms) (drop (i + 1) all))
    (branch_ready_is es atoms br) (sym (c.is_one.ensures.one es atoms) ∙ c.if-is_one.true)
    ∙ (sym (item_is (λ (bs : List TermBranch). case_leaves (leaves_of c.loop-branch.out.items) (map (branch_ready es atoms) bs)) all i br inside c.branch-item.is) ∙ c.loop-branch.invariant.leaves))
