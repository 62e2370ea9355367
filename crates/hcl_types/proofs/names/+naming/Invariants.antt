use Rattle.std.proofs.Common.{◌≡◌, ◌++◌, drop, map}
use Rattle.hcl_types.specs.Terms.{branch_names, joined, names}
use Rattle.hcl_types.proofs.names.+naming.Given as goal

abbrev pub invariant-put_all_names-loop-t : goal.invariant-put_all_names-loop-t
invariant-put_all_names-loop-t l = l.out.items ++ joined (map names (drop l.t-index l.all)) ≡ l.fn.out.items ++ joined (map names l.all)

abbrev pub invariant-put_branch_names-loop-branch : goal.invariant-put_branch_names-loop-branch
invariant-put_branch_names-loop-branch l = l.out.items ++ joined (map branch_names (drop l.branch-index l.all)) ≡ l.fn.out.items ++ joined (map branch_names l.all)
