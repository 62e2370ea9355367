use Rattle.std.proofs.Common.{◌≡◌, ◌&&◌, drop, map}
use Rattle.hcl_types.specs.Lists.{each}
use Rattle.hcl_types.specs.Kinds.{branch_kinds, kinds}
use Rattle.hcl_types.specs.declared.kinds.Kinds.{Kinds}
use Rattle.hcl_types.proofs.kinds.+kinds.Given as goal

abbrev pub invariant-all_truths-loop-t : goal.invariant-all_truths-loop-t
invariant-all_truths-loop-t l = each (λ (x : Kinds). x.truth) (map (kinds l.rows) (drop l.t-index l.all)) ≡ each (λ (x : Kinds). x.truth) (map (kinds l.rows) l.all)

abbrev pub invariant-all_words-loop-t : goal.invariant-all_words-loop-t
invariant-all_words-loop-t l = each (λ (x : Kinds). x.word) (map (kinds l.rows) (drop l.t-index l.all)) ≡ each (λ (x : Kinds). x.word) (map (kinds l.rows) l.all)

abbrev pub invariant-all_branches-loop-branch : goal.invariant-all_branches-loop-branch
invariant-all_branches-loop-branch l = each (λ (b : Kinds × Kinds). b.0.truth && b.1.word) (map (branch_kinds l.rows) (drop l.branch-index l.all)) ≡ each (λ (b : Kinds × Kinds). b.0.truth && b.1.word) (map (branch_kinds l.rows) l.all)
