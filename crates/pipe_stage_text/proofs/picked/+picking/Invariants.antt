use Rattle.std.proofs.Common.{◌≡◌, drop}
use Rattle.hcl_types.specs.Terms.{at}
use Rattle.hcl_types.specs.declared.term.Term.TheVariants.{Case}
use Rattle.pipe_stage_text.specs.Sources.{picked_name}
use Rattle.pipe_stage_text.proofs.picked.+picking.Given as goal

abbrev pub invariant-picked_branch-loop-branch : goal.invariant-picked_branch-loop-branch
invariant-picked_branch-loop-branch l = picked_name (at l.values) (Case (drop l.branch-index l.all)) ≡ picked_name (at l.values) (Case l.all)
