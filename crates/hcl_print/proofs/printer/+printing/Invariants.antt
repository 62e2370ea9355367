use Rattle.std.proofs.Common.{◌≡◌, ◌++◌, map, drop, cond}
use Rattle.hcl_print.specs.Print.{branch_text, branches, further, joined, shown}
use Rattle.hcl_print.proofs.printer.+printing.Given as goal

abbrev pub invariant-put_branches-loop-b : goal.invariant-put_branches-loop-b
invariant-put_branches-loop-b l = l.out.items ++ branches (map branch_text (drop l.b-index l.bs)) ≡ l.fn.out.items ++ branches (map branch_text l.bs)

abbrev pub invariant-put_joined-loop-e : goal.invariant-put_joined-loop-e
invariant-put_joined-loop-e l =
    l.out.items ++ cond l.first (joined l.separator l.least (map shown (drop l.e-index l.es))) (further l.separator l.least (map shown (drop l.e-index l.es)))
    ≡ l.fn.out.items ++ joined l.separator l.least (map shown l.es)
