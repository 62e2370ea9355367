use Rattle.std.proofs.Common.{ap, sym, ◌∙◌}
use Rattle.std.proofs.lemmas.List.{at_drop_all}
use Rattle.hcl_types.specs.Terms.{at}
use Rattle.hcl_types.specs.declared.term.Term.TheVariants.{Case}
use Rattle.pipe_stage_text.specs.Sources.{picked_name}
use Rattle.pipe_stage_text.proofs.Picks.{picks_And, picks_Cmp, picks_In, picks_Name, picks_Not, picks_Num, picks_Or, picks_here, picks_later, picks_no_branch}
use Rattle.pipe_stage_text.proofs.picked.+picking.Goals as goal

pub picked_name-returns-in-Name : goal.picked_name-returns-in-Name
picked_name-returns-in-Name t c = rw c.in-Name.is (sym (picks_Name _ _))

pub picked_name-returns-in-Case : goal.picked_name-returns-in-Case
picked_name-returns-in-Case t c = rw c.in-Case.is (c.picked_branch.ensures ∙ ap (λ bs. picked_name (at c.args.values.now) (Case bs)) c.items.ensures)

pub picked_name-returns-in-Num : goal.picked_name-returns-in-Num
picked_name-returns-in-Num t c = rw c.in-Num.is (sym (picks_Num _ _))

pub picked_name-returns-in-Not : goal.picked_name-returns-in-Not
picked_name-returns-in-Not t c = rw c.in-Not.is (sym (picks_Not _ _))

pub picked_name-returns-in-And : goal.picked_name-returns-in-And
picked_name-returns-in-And t c = rw c.in-And.is (sym (picks_And _ _))

pub picked_name-returns-in-Or : goal.picked_name-returns-in-Or
picked_name-returns-in-Or t c = rw c.in-Or.is (sym (picks_Or _ _))

pub picked_name-returns-in-Cmp : goal.picked_name-returns-in-Cmp
picked_name-returns-in-Cmp t c = rw c.in-Cmp.is (sym (picks_Cmp _ _ _ _))

pub picked_name-returns-in-In : goal.picked_name-returns-in-In
picked_name-returns-in-In t c = rw c.in-In.is (sym (picks_In _ _ _))

pub picked_branch-loop-branch-preserved : goal.picked_branch-loop-branch-preserved
picked_branch-loop-branch-preserved t c =
    picks_later (at c.args.values.now) c.args.all.now c.loop-branch.branch-index c.branch-item.result c.loop-branch-test.true c.branch-item.is
    (sym c.value_of.ensures ∙ c.if-value_of-ne0.false)
    ∙ c.loop-branch.invariant

pub picked_branch-returns-then-value_of-ne0 : goal.picked_branch-returns-then-value_of-ne0
picked_branch-returns-then-value_of-ne0 t c =
    c.picked_name.ensures
    ∙ picks_here (at c.args.values.now) c.args.all.now c.loop-branch.branch-index c.branch-item.result c.loop-branch-test.true c.branch-item.is
    (λ e. c.if-value_of-ne0.true (c.value_of.ensures ∙ e))
    ∙ c.loop-branch.invariant

pub picked_branch-returns : goal.picked_branch-returns
picked_branch-returns t c =
    sym (picks_no_branch (at c.args.values.now))
    ∙ sym (at_drop_all (λ bs. picked_name (at c.args.values.now) (Case bs)) c.args.all.now c.loop-branch.branch-index c.loop-branch-test.false)
    ∙ c.loop-branch.invariant
