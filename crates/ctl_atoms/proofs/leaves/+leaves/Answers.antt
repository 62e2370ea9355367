use Rattle.std.proofs.Common.{◌+◌, ◌<◌, List, length, drop, map, ap, sym, ◌∙◌}
use Rattle.y86_base.proofs.Lists.{item_is}
use Rattle.hcl_types.specs.declared.term.TermBranch.{TermBranch}
use Rattle.ctl_atoms.specs.declared.leaf.Leaf.{Leaf}
use Rattle.ctl_atoms.specs.TermAtoms.{joined, term_atoms, branch_plan, case_leaves}
use Rattle.ctl_atoms.specs.Rows.{leaves_at}
use Rattle.ctl_atoms.proofs.Plans.{plan_branch, leaves_step, leaves_stop}
use Rattle.ctl_atoms.proofs.leaves.+leaves.Goals as goal

pub case_leaves-returns-then-is_one : goal.case_leaves-returns-then-is_one
case_leaves-returns-then-is_one t c =
    let env = leaves_at c.args.lists.now in
    let all = c.args.all.now in
    let i = c.loop-branch.branch-index in
    let br = c.branch-item.result in
    let out = c.loop-branch.out.items in
    let inside : i < length all = c.loop-branch-test.true in
    let rest = map (branch_plan env) (drop (i + 1) all) in
    c.in_ok-put_leaves.ensures ∙ (ap (joined out) (c.as_slice.ensures.value ∙ c.in_ok-leaves.ensures)
    ∙ (leaves_stop out (branch_plan env br) (term_atoms env br.guard) (term_atoms env br.value) rest (plan_branch env br) (sym (c.is_one.ensures env) ∙ c.if-is_one.true)
    ∙ (sym (item_is (λ (bs : List TermBranch). case_leaves out (map (branch_plan env) bs)) all i br inside c.branch-item.is) ∙ c.loop-branch.invariant)))

pub case_leaves-loop-branch-preserved : goal.case_leaves-loop-branch-preserved
case_leaves-loop-branch-preserved t c =
    let env = leaves_at c.args.lists.now in
    let all = c.args.all.now in
    let i = c.loop-branch.branch-index in
    let br = c.branch-item.result in
    let out = c.loop-branch.out.items in
    let inside : i < length all = c.loop-branch-test.true in
    let rest = map (branch_plan env) (drop (i + 1) all) in
    ap (λ (ls : List Leaf). case_leaves ls rest) (c.in_ok-put_leaves.ensures ∙ ap (joined out) (c.as_slice.ensures.value ∙ c.in_ok-leaves.ensures))
    ∙ (leaves_step out (branch_plan env br) (term_atoms env br.guard) (term_atoms env br.value) rest (plan_branch env br) (sym (c.is_one.ensures env) ∙ c.if-is_one.false)
    ∙ (sym (item_is (λ (bs : List TermBranch). case_leaves out (map (branch_plan env) bs)) all i br inside c.branch-item.is) ∙ c.loop-branch.invariant))
