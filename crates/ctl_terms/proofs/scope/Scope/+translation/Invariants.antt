use Rattle.std.proofs.Common.{◌≡◌, ◌<◌, ◌&&◌, ◌||◌, ℕ, Bool, List, [], drop, length, IsTrue, map}
use Rattle.ctl_atoms.specs.declared.leaf.Leaf.{Leaf}
use Rattle.ctl_atoms.specs.declared.leaf.Leaf.TheVariants.{Number}
use Rattle.hcl_tree.specs.declared.tree.CmpOp.TheVariants.{Eq}
use Rattle.nets.specs.Nets.{ExtendsNet, truth}
use Rattle.ctl_atoms.specs.Leaves.{Assignment, leaf_eq, leaf_holds, leaf_cmp, leaf_meaning}
use Rattle.ctl_picks.specs.TakenPicks.{IsOnlyTaken, at, leaf_taken}
use Rattle.ctl_picks.specs.Picks.{Within, leaves_of}
use Rattle.ctl_terms.specs.Translatable.{IsScopeIn, EncodesScope, translatable_in, branch_ready_in, truths, members, branches, case_leaves}
use Rattle.hcl_types.specs.Lists.{each, some}
use Rattle.hcl_types.specs.Terms.{picked, value, branch_value}
use Rattle.ctl_terms.proofs.scope.Scope.+translation.Given as goal

abbrev pub invariant-all_of-loop-t : goal.invariant-all_of-loop-t
invariant-all_of-loop-t l = record {
  begins : ExtendsNet l.fn.b l.b;
  opened : IsScopeIn l.b l.self;
  within : l.g < length l.b.gates;
  planned : IsTrue (truths (map (translatable_in l.self) (drop l.t-index l.all)));
  is : (w : List Bool) (α : Assignment) (cv : ℕ → Leaf) → EncodesScope l.fn.b l.self w α cv →
      truth l.b l.g w && each (leaf_holds α) (map (value (leaf_meaning α) cv) (drop l.t-index l.all)) ≡ each (leaf_holds α) (map (value (leaf_meaning α) cv) l.all);
}

abbrev pub invariant-any_of-loop-t : goal.invariant-any_of-loop-t
invariant-any_of-loop-t l = record {
  begins : ExtendsNet l.fn.b l.b;
  opened : IsScopeIn l.b l.self;
  within : l.g < length l.b.gates;
  planned : IsTrue (truths (map (translatable_in l.self) (drop l.t-index l.all)));
  is : (w : List Bool) (α : Assignment) (cv : ℕ → Leaf) → EncodesScope l.fn.b l.self w α cv →
      truth l.b l.g w || some (leaf_holds α) (map (value (leaf_meaning α) cv) (drop l.t-index l.all)) ≡ some (leaf_holds α) (map (value (leaf_meaning α) cv) l.all);
}

abbrev pub invariant-member_of-loop-t : goal.invariant-member_of-loop-t
invariant-member_of-loop-t l = record {
  begins : ExtendsNet l.fn.b l.b;
  opened : IsScopeIn l.b l.self;
  within : l.g < length l.b.gates;
  left : Within (length l.b.gates) l.ps;
  planned : IsTrue (members l.self.atoms.now (leaves_of l.ps) (map (translatable_in l.self) (drop l.t-index l.all)));
  is : (w : List Bool) (α : Assignment) (cv : ℕ → Leaf) (x : Leaf) → EncodesScope l.fn.b l.self w α cv → IsOnlyTaken (at l.fn.b w) l.ps x →
      truth l.b l.g w || some (leaf_cmp α Eq x) (map (value (leaf_meaning α) cv) (drop l.t-index l.all)) ≡ some (leaf_cmp α Eq x) (map (value (leaf_meaning α) cv) l.all);
}

abbrev pub invariant-case_of-loop-branch : goal.invariant-case_of-loop-branch
invariant-case_of-loop-branch l = record {
  begins : ExtendsNet l.fn.b l.b;
  opened : IsScopeIn l.b l.self;
  within : Within (length l.b.gates) l.out.items;
  left : l.open < length l.b.gates;
  planned : IsTrue (branches (map (branch_ready_in l.self) (drop l.branch-index l.all)));
  leaves : case_leaves (leaves_of l.out.items) (map (branch_ready_in l.self) (drop l.branch-index l.all))
      ≡ case_leaves [] (map (branch_ready_in l.self) l.all);
  is : (w : List Bool) (α : Assignment) (cv : ℕ → Leaf) → EncodesScope l.fn.b l.self w α cv → (y : Leaf) →
      leaf_taken (at l.b w) l.out.items y || (truth l.b l.open w && leaf_eq (picked (leaf_holds α) (Number 0) (map (branch_value (leaf_meaning α) cv) (drop l.branch-index l.all))) y)
      ≡ leaf_eq (picked (leaf_holds α) (Number 0) (map (branch_value (leaf_meaning α) cv) l.all)) y;
}
