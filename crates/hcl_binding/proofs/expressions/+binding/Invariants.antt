use Rattle.std.proofs.Common.{◌≡◌, drop, map}
use Rattle.hcl_binding.specs.Binding.{all_ok, branch_of, term_of}
use Rattle.hcl_binding.specs.BindSteps.{put_before}
use Rattle.hcl_binding.proofs.expressions.+binding.Given as goal

abbrev pub invariant-bind_terms-loop-e : goal.invariant-bind_terms-loop-e
invariant-bind_terms-loop-e l = put_before l.terms.items (all_ok (map (term_of l.places) (drop l.e-index l.all))) ≡ all_ok (map (term_of l.places) l.all)

abbrev pub invariant-bind_branches-loop-branch : goal.invariant-bind_branches-loop-branch
invariant-bind_branches-loop-branch l = put_before l.branches.items (all_ok (map (branch_of l.places) (drop l.branch-index l.all))) ≡ all_ok (map (branch_of l.places) l.all)
