use Rattle.std.proofs.Common.{◌+◌, ◌<◌, ◌∷◌, List, length, drop, map, ap, sym, ◌∙◌}
use Rattle.std.proofs.lemmas.List.{at_drop_all}
use Rattle.y86_base.proofs.Lists.{item_is}
use Rattle.hcl_tree.specs.declared.tree.CmpOp.TheVariants.{Eq}
use Rattle.hcl_types.specs.declared.term.Term.{Term}
use Rattle.hcl_types.specs.declared.term.TermBranch.{TermBranch}
use Rattle.ctl_atoms.specs.declared.leaf.Leaf.{Leaf}
use Rattle.ctl_atoms.specs.declared.leaf.Atom.{Atom}
use Rattle.ctl_atoms.specs.TermAtoms.{TermAtoms, atoms_of_all, member_atoms, branch_atoms, pair_atoms, term_atoms, branch_plan}
use Rattle.ctl_atoms.specs.Rows.{leaves_at}
use Rattle.ctl_atoms.specs.Atoms.{added}
use Rattle.ctl_atoms.proofs.Added.{added_nil, added_append, added_three, added_pair}
use Rattle.ctl_atoms.proofs.Plans.{plan_branch, asks_Num, asks_Name, asks_Cmp, asks_In}
use Rattle.ctl_atoms.proofs.open_atoms.+asking.Goals as goal

pub put_asked-returns-in-Num : goal.put_asked-returns-in-Num
put_asked-returns-in-Num t c = sym (added_nil c.args.out.now.items) ∙ ap (added c.args.out.now.items) (sym (asks_Num (leaves_at c.args.lists.now) c.args.t.now c.in-Num.field-0 c.in-Num.is))

pub put_asked-returns-in-Name : goal.put_asked-returns-in-Name
put_asked-returns-in-Name t c = sym (added_nil c.args.out.now.items) ∙ ap (added c.args.out.now.items) (sym (asks_Name (leaves_at c.args.lists.now) c.args.t.now c.in-Name.field-0 c.in-Name.is))

pub put_asked-returns-in_ok-put_pairs-in-Cmp : goal.put_asked-returns-in_ok-put_pairs-in-Cmp
put_asked-returns-in_ok-put_pairs-in-Cmp t c =
    let env = leaves_at c.args.lists.now in
    let out = c.args.out.now.items in
    let x = c.in-Cmp.x in
    let y = c.in-Cmp.y in
    let a = (term_atoms env x).asks in
    let b = (term_atoms env y).asks in
    let p = pair_atoms c.in-Cmp.op (term_atoms env x).leaves (term_atoms env y).leaves in
    let first = c.in_ok-put_asked-in-Cmp.ensures ∙ ap (λ (z : Term). added out (term_atoms env z).asks) c.get-in-Cmp.ensures in
    let second = c.in_ok-put_asked-in-Cmp-2.ensures ∙ (ap (λ (z : Term). added c.put_asked-in-Cmp.new.out.items (term_atoms env z).asks) c.get-in-Cmp-2.ensures ∙ ap (λ (xs : List Atom). added xs b) first) in
    let left = c.as_slice.ensures.value ∙ (c.in_ok-lefts-in-Cmp.ensures ∙ ap (λ (z : Term). (term_atoms env z).leaves) c.get-in-Cmp-3.ensures) in
    let right = c.as_slice-in-Cmp.ensures.value ∙ (c.in_ok-rights-in-Cmp.ensures ∙ ap (λ (z : Term). (term_atoms env z).leaves) c.get-in-Cmp-4.ensures) in
    c.in_ok-put_pairs-in-Cmp.ensures
    ∙ (ap (λ (ls : List Leaf). added c.put_asked-in-Cmp-2.new.out.items (pair_atoms c.in-Cmp.op ls c.as_slice-in-Cmp.result.now)) left
    ∙ (ap (λ (ms : List Leaf). added c.put_asked-in-Cmp-2.new.out.items (pair_atoms c.in-Cmp.op (term_atoms env x).leaves ms)) right
    ∙ (ap (λ (xs : List Atom). added xs p) second
    ∙ (added_three out a b p
    ∙ ap (added out) (sym (asks_Cmp env c.args.t.now c.in-Cmp.op x y c.in-Cmp.is))))))

pub put_asked-returns-in_ok-put_members_asked-in-In : goal.put_asked-returns-in_ok-put_members_asked-in-In
put_asked-returns-in_ok-put_members_asked-in-In t c =
    let env = leaves_at c.args.lists.now in
    let out = c.args.out.now.items in
    let x = c.in-In.x in
    let a = (term_atoms env x).asks in
    let m = member_atoms (term_atoms env x).leaves (map (term_atoms env) c.in-In.all) in
    let first = c.in_ok-put_asked-in-In.ensures ∙ ap (λ (z : Term). added out (term_atoms env z).asks) c.get-in-In.ensures in
    let left = c.as_slice-in-In.ensures.value ∙ (c.in_ok-lefts-in-In.ensures ∙ ap (λ (z : Term). (term_atoms env z).leaves) c.get-in-In-2.ensures) in
    c.in_ok-put_members_asked-in-In.ensures
    ∙ (ap (λ (ls : List Leaf). added c.put_asked-in-In.new.out.items (member_atoms ls (map (term_atoms env) c.items-in-In.result.now))) left
    ∙ (ap (λ (ts : List Term). added c.put_asked-in-In.new.out.items (member_atoms (term_atoms env x).leaves (map (term_atoms env) ts))) c.items-in-In.ensures
    ∙ (ap (λ (xs : List Atom). added xs m) first
    ∙ (sym (added_append out a m)
    ∙ ap (added out) (sym (asks_In env c.args.t.now x c.in-In.all c.in-In.is))))))

pub put_open_atoms-loop-t-preserved : goal.put_open_atoms-loop-t-preserved
put_open_atoms-loop-t-preserved t c =
    let env = leaves_at c.args.lists.now in
    let all = c.args.all.now in
    let i = c.loop-t.t-index in
    let out = c.loop-t.out.items in
    let inside : i < length all = c.loop-t-test.true in
    let rest = atoms_of_all (map (term_atoms env) (drop (i + 1) all)) in
    ap (λ (xs : List Atom). added xs rest) c.in_ok-put_asked.ensures
    ∙ (sym (added_append out (term_atoms env c.t-item.result).asks rest)
    ∙ (sym (item_is (λ (ts : List Term). added out (atoms_of_all (map (term_atoms env) ts))) all i c.t-item.result inside c.t-item.is) ∙ c.loop-t.invariant))

pub put_open_atoms-returns : goal.put_open_atoms-returns
put_open_atoms-returns t c =
    sym (added_nil c.loop-t.out.items)
    ∙ (sym (at_drop_all (λ (ts : List Term). added c.loop-t.out.items (atoms_of_all (map (term_atoms (leaves_at c.args.lists.now)) ts))) c.args.all.now c.loop-t.t-index c.loop-t-test.false) ∙ c.loop-t.invariant)

pub put_members_asked-loop-t-preserved : goal.put_members_asked-loop-t-preserved
put_members_asked-loop-t-preserved t c =
    let env = leaves_at c.args.lists.now in
    let all = c.args.all.now in
    let i = c.loop-t.t-index in
    let x = c.t-item.result in
    let out = c.loop-t.out.items in
    let inside : i < length all = c.loop-t-test.true in
    let rest = member_atoms c.args.lefts.now (map (term_atoms env) (drop (i + 1) all)) in
    let p = pair_atoms Eq c.args.lefts.now (term_atoms env x).leaves in
    let right = c.as_slice.ensures.value ∙ c.in_ok-rights.ensures in
    ap (λ (xs : List Atom). added xs rest) (c.in_ok-put_pairs.ensures
    ∙ (ap (λ (ms : List Leaf). added c.put_asked.new.out.items (pair_atoms Eq c.args.lefts.now ms)) right ∙ ap (λ (xs : List Atom). added xs p) c.in_ok-put_asked.ensures))
    ∙ (added_pair out (term_atoms env x).asks p rest
    ∙ (sym (item_is (λ (ts : List Term). added out (member_atoms c.args.lefts.now (map (term_atoms env) ts))) all i x inside c.t-item.is) ∙ c.loop-t.invariant))

pub put_members_asked-returns : goal.put_members_asked-returns
put_members_asked-returns t c =
    sym (added_nil c.loop-t.out.items)
    ∙ (sym (at_drop_all (λ (ts : List Term). added c.loop-t.out.items (member_atoms c.args.lefts.now (map (term_atoms (leaves_at c.args.lists.now)) ts))) c.args.all.now c.loop-t.t-index c.loop-t-test.false) ∙ c.loop-t.invariant)

pub put_branches_asked-loop-branch-preserved : goal.put_branches_asked-loop-branch-preserved
put_branches_asked-loop-branch-preserved t c =
    let env = leaves_at c.args.lists.now in
    let all = c.args.all.now in
    let i = c.loop-branch.branch-index in
    let br = c.branch-item.result in
    let out = c.loop-branch.out.items in
    let inside : i < length all = c.loop-branch-test.true in
    let after = map (branch_plan env) (drop (i + 1) all) in
    let rest = branch_atoms after in
    ap (λ (xs : List Atom). added xs rest) (c.in_ok-put_asked-2.ensures ∙ ap (λ (xs : List Atom). added xs (term_atoms env br.value).asks) c.in_ok-put_asked.ensures)
    ∙ (added_pair out (term_atoms env br.guard).asks (term_atoms env br.value).asks rest
    ∙ (sym (ap (λ (b : TermAtoms × TermAtoms). added out (branch_atoms (b ∷ after))) (plan_branch env br))
    ∙ (sym (item_is (λ (bs : List TermBranch). added out (branch_atoms (map (branch_plan env) bs))) all i br inside c.branch-item.is) ∙ c.loop-branch.invariant)))

pub put_branches_asked-returns : goal.put_branches_asked-returns
put_branches_asked-returns t c =
    sym (added_nil c.loop-branch.out.items)
    ∙ (sym (at_drop_all (λ (bs : List TermBranch). added c.loop-branch.out.items (branch_atoms (map (branch_plan (leaves_at c.args.lists.now)) bs))) c.args.all.now c.loop-branch.branch-index c.loop-branch-test.false) ∙ c.loop-branch.invariant)
