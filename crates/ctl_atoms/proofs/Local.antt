-- The leaves and atoms of a term depend on the leaves of its names alone.
use Rattle.std.proofs.Common.{◌≡◌, ℕ, false, List, [], ◌∷◌, ◌++◌, map, ap, subst, refl}
use Rattle.std.specs.List.{AllByRecursion}
use Rattle.hcl_types.specs.declared.term.Term.{Term}
use Rattle.hcl_types.specs.declared.term.TermBranch.{TermBranch}
use Rattle.hcl_types.specs.Terms.{names, branch_names}
use Rattle.hcl_types.specs.Terms as terms
use Rattle.hcl_types.proofs.Inductions.{induct}
use Rattle.hcl_types.proofs.Each.{each_left, each_right, each_joined}
use Rattle.hcl_types.proofs.Values.{names_Name, names_Not, names_And, names_Or, names_Cmp, names_In, names_Case, names_branch}
use Rattle.ctl_atoms.specs.declared.leaf.Leaf.{Leaf}
use Rattle.ctl_atoms.specs.TermAtoms.{TermAtoms, term_atoms, branch_plan, truth_plan, atoms_of_all, member_atoms, branch_atoms, case_leaves}
use Rattle.ctl_atoms.proofs.Plans.{plan_Num, plan_Name, plan_Not, plan_And, plan_Or, plan_Cmp, plan_In, plan_Case, plan_branch}

module _ (f g : ℕ → List Leaf) where
  abbrev Same : ℕ → Type 0
  Same id = f id ≡ g id

  abbrev Good : Term → Type 0
  Good t = AllByRecursion (λ id. f id ≡ g id) (names t) → term_atoms f t ≡ term_atoms g t

  abbrev GoodBranch : TermBranch → Type 0
  GoodBranch b = AllByRecursion (λ id. f id ≡ g id) (branch_names b) → branch_plan f b ≡ branch_plan g b

  all_same : (ts : List Term) → AllByRecursion Good ts → AllByRecursion (λ t. AllByRecursion (λ id. f id ≡ g id) (names t)) ts → map (term_atoms f) ts ≡ map (term_atoms g) ts
  all_same [] h n = refl
  all_same (t ∷ ts) h n = rw (h.0 n.0, all_same ts h.1 n.1) refl

  branches_same : (bs : List TermBranch) → AllByRecursion GoodBranch bs → AllByRecursion (λ b. AllByRecursion (λ id. f id ≡ g id) (branch_names b)) bs → map (branch_plan f) bs ≡ map (branch_plan g) bs
  branches_same [] h n = refl
  branches_same (b ∷ bs) h n = rw (h.0 n.0, branches_same bs h.1 n.1) refl

  pub same_plan : (t : Term) → AllByRecursion (λ id. f id ≡ g id) (names t) → term_atoms f t ≡ term_atoms g t
  same_plan = induct Good GoodBranch
      (λ n h. rw (plan_Num f n, plan_Num g n) refl)
      (λ id h. rw (plan_Name f id, plan_Name g id) (ap (λ (xs : List Leaf). record { one = false; leaves = xs; asks = [] }) (subst (AllByRecursion (λ id. f id ≡ g id)) (names_Name id) h).0))
      (λ t p h. rw (plan_Not f t, plan_Not g t, p (subst (AllByRecursion (λ id. f id ≡ g id)) (names_Not t) h)) refl)
      (λ ts p h. rw (plan_And f ts, plan_And g ts) (ap (λ (ps : List TermAtoms). truth_plan (atoms_of_all ps))
      (all_same ts p (each_joined (λ id. f id ≡ g id) names ts (subst (AllByRecursion (λ id. f id ≡ g id)) (names_And ts) h)))))
      (λ ts p h. rw (plan_Or f ts, plan_Or g ts) (ap (λ (ps : List TermAtoms). truth_plan (atoms_of_all ps))
      (all_same ts p (each_joined (λ id. f id ≡ g id) names ts (subst (AllByRecursion (λ id. f id ≡ g id)) (names_Or ts) h)))))
      (λ op t u p q h.
      let both = subst (AllByRecursion (λ id. f id ≡ g id)) (names_Cmp op t u) h in
      rw (plan_Cmp f op t u, plan_Cmp g op t u, p (each_left (λ id. f id ≡ g id) (names t) (names u) both), q (each_right (λ id. f id ≡ g id) (names t) (names u) both)) refl)
      (λ t us p q h.
      let both = subst (AllByRecursion (λ id. f id ≡ g id)) (names_In t us) h in
      rw (plan_In f t us, plan_In g t us, p (each_left (λ id. f id ≡ g id) (names t) (terms.joined (map names us)) both))
      (ap (λ (ps : List TermAtoms). truth_plan ((term_atoms g t).asks ++ member_atoms (term_atoms g t).leaves ps))
      (all_same us q (each_joined (λ id. f id ≡ g id) names us (each_right (λ id. f id ≡ g id) (names t) (terms.joined (map names us)) both)))))
      (λ bs p h. rw (plan_Case f bs, plan_Case g bs)
      (ap (λ (ps : List (TermAtoms × TermAtoms)). record { one = false; leaves = case_leaves [] ps; asks = branch_atoms ps })
      (branches_same bs p (each_joined (λ id. f id ≡ g id) branch_names bs (subst (AllByRecursion (λ id. f id ≡ g id)) (names_Case bs) h)))))
      (λ b p q h.
      let both = subst (AllByRecursion (λ id. f id ≡ g id)) (names_branch b) h in
      rw (plan_branch f b, plan_branch g b, p (each_left (λ id. f id ≡ g id) (names b.guard) (names b.value) both), q (each_right (λ id. f id ≡ g id) (names b.guard) (names b.value) both)) refl)
