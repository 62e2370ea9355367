use Rattle.std.proofs.Common.{◌≡◌, drop, map}
use Rattle.hcl_tree.specs.declared.tree.CmpOp.TheVariants.{Eq}
use Rattle.hcl_types.specs.Lists.{each, some}
use Rattle.hcl_types.specs.Terms.{at, branch_value, compare_words, picked, value, word_meaning}
use Rattle.hcl_types.proofs.value.+evaluation.Given as goal

abbrev pub invariant-each_holds-loop-t : goal.invariant-each_holds-loop-t
invariant-each_holds-loop-t l = each word_meaning.holds (map (value word_meaning (at l.vals)) (drop l.t-index l.all)) ≡ each word_meaning.holds (map (value word_meaning (at l.vals)) l.all)

abbrev pub invariant-some_holds-loop-t : goal.invariant-some_holds-loop-t
invariant-some_holds-loop-t l = some word_meaning.holds (map (value word_meaning (at l.vals)) (drop l.t-index l.all)) ≡ some word_meaning.holds (map (value word_meaning (at l.vals)) l.all)

abbrev pub invariant-some_equals-loop-t : goal.invariant-some_equals-loop-t
invariant-some_equals-loop-t l = some (compare_words Eq l.left) (map (value word_meaning (at l.vals)) (drop l.t-index l.all)) ≡ some (compare_words Eq l.left) (map (value word_meaning (at l.vals)) l.all)

abbrev pub invariant-first_taken-loop-branch : goal.invariant-first_taken-loop-branch
invariant-first_taken-loop-branch l = picked word_meaning.holds 0 (map (branch_value word_meaning (at l.vals)) (drop l.branch-index l.all)) ≡ picked word_meaning.holds 0 (map (branch_value word_meaning (at l.vals)) l.all)
