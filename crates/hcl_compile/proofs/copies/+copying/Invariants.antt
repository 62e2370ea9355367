use Rattle.std.proofs.Common.{◌≡◌, take}
use Rattle.hcl_compile.proofs.copies.+copying.Given as goal

abbrev pub invariant-copy_terms-loop-t : goal.invariant-copy_terms-loop-t
invariant-copy_terms-loop-t l = l.copies.items ≡ take l.t-index l.all

abbrev pub invariant-copy_branches-loop-branch : goal.invariant-copy_branches-loop-branch
invariant-copy_branches-loop-branch l = l.copies.items ≡ take l.branch-index l.all
