-- If each name of a term has its entry and the atoms of its comparisons are listed, the term can be translated, and its
-- picks have the leaves of its plan.
use Rattle.std.proofs.Common.{rules, ◌≡◌, ℕ, Bool, true, false, ◌&&◌, List, [], ◌∷◌, ◌++◌, map, nat_eq, nat_lt, Option, slice_get, if◌then◌else◌, IsTrue, refl, sym, ap, ◌∙◌, subst}
use Rattle.std.specs.List.{AllByRecursion}
use Rattle.std.proofs.lemmas.Bool.{and_parts}
use Rattle.hcl_tree.specs.declared.tree.CmpOp.{CmpOp}
use Rattle.hcl_tree.specs.declared.tree.CmpOp.TheVariants as op
use Rattle.hcl_types.specs.declared.term.Term.{Term, Term-F, fold-roll-Term}
use Rattle.hcl_types.specs.declared.term.TermBranch.{TermBranch}
use Rattle.hcl_types.specs.declared.term.TermBranch as bs
use Rattle.hcl_types.specs.declared.term.Term.TheVariants.{Num, Name, Not, And, Or, Cmp, In, Case, rolls-Num, rolls-Name, rolls-Not, rolls-And, rolls-Or, rolls-Cmp, rolls-In, rolls-Case}
use Rattle.hcl_types.specs.declared.kinds.Kinds.{Kinds}
use Rattle.hcl_types.specs.declared.table.Row.{Row}
use Rattle.hcl_types.specs.Kinds.{kinds, branch_kinds, kinds_of_row, kinds_in_layer, kinds_of_branch}
use Rattle.hcl_types.specs.Lists.{each}
use Rattle.hcl_types.specs.Terms.{names, branch_names, joined}
use Rattle.hcl_types.proofs.Each.{each_left, each_right, each_joined}
use Rattle.hcl_types.proofs.Inductions.{induct}
use Rattle.hcl_types.proofs.Values.{names_Name, names_Not, names_And, names_Or, names_Cmp, names_In, names_Case, names_branch}
use Rattle.ctl_atoms.specs.declared.leaf.Leaf.{Leaf}
use Rattle.ctl_atoms.specs.declared.leaf.Leaf.TheVariants.{Number}
use Rattle.ctl_atoms.specs.declared.leaf.Atom.{Atom}
use Rattle.ctl_atoms.specs.Leaves.{open_atom, is_listed}
use Rattle.ctl_atoms.specs.TermAtoms as plans
use Rattle.ctl_atoms.specs.TermAtoms.{TermAtoms, term_atoms, branch_plan, atoms_of_all, member_atoms, branch_atoms, pair_atoms}
use Rattle.ctl_atoms.proofs.Plans.{plan_Num, plan_Name, plan_Not, plan_And, plan_Or, plan_Cmp, plan_In, plan_Case, plan_branch}
use Rattle.ctl_picks.specs.declared.controls.Entry.{Entry}
use Rattle.ctl_picks.specs.Picks.{entry_truth, entry_word}
use Rattle.ctl_terms.specs.Translatable.{Translatable, translatable, branch_ready, ready_layer, ready_pair, truths, members, branches, case_leaves}
use Rattle.ctl_picks.specs.Entries.{entry_leaves}
use Rattle.ctl_terms.specs.Pairs.{leaves_listed}
use Rattle.ctl_terms.proofs.Arms.{branch_ready_is}

joins : (a b : Bool) → IsTrue a → IsTrue b → IsTrue (a && b)
joins true b h k = k
joins false b h k = h

each_append : {A : Type 0} (p : A → Bool) (xs ys : List A) → IsTrue (each p (xs ++ ys)) → IsTrue (each p xs) × IsTrue (each p ys)
each_append p [] ys h = (refl, h)
each_append p (x ∷ xs) ys h =
    let parts = and_parts (p x) (each p (xs ++ ys)) h in
    let rest = each_append p xs ys parts.1 in
    (joins (p x) (each p xs) parts.0 rest.0, rest.1)

-- ---- the entries of a name

module _ (es : List Entry) (atoms : List Atom) (rows : List Row) (own : ℕ → List Leaf) where
  -- a name has an entry of its row's kind, with its leaves
  pub record Stands (id : ℕ) : Type 0 where
    pub truth : entry_truth (slice_get es id) ≡ (kinds_of_row (slice_get rows id)).truth
    pub word : entry_word (slice_get es id) ≡ (kinds_of_row (slice_get rows id)).word
    pub leaves : entry_leaves (slice_get es id) ≡ own id

  pub record Readied (t : Term) : Type 0 where
    pub one : (translatable es atoms t).one ≡ (term_atoms own t).one
    pub truth : IsTrue (kinds rows t).truth → IsTrue (translatable es atoms t).truth
    pub word : IsTrue (kinds rows t).word → IsTrue (translatable es atoms t).word
    pub leaves : (translatable es atoms t).leaves ≡ (term_atoms own t).leaves

  abbrev Listed : List (Option Atom) → Type 0
  Listed asks = IsTrue (each (is_listed atoms) asks)

  abbrev Good : Term → Type 0
  Good t = AllByRecursion Stands (names t) → Listed (term_atoms own t).asks → Readied t

  record ReadiedBranch (b : TermBranch) : Type 0 where
    guard : Readied b.guard
    value : Readied b.value

  abbrev GoodBranch : TermBranch → Type 0
  GoodBranch b = AllByRecursion Stands (branch_names b) → Listed ((branch_plan own b).0.asks ++ (branch_plan own b).1.asks) → ReadiedBranch b

  -- ---- what the variants demand of their parts

  kinds_Num : (n : ℕ) → kinds rows (Num n) ≡ record { word = true; truth = nat_lt n 2 }
  kinds_Num n = ap (kinds rows) (sym (rolls-Num n)) ∙ fold-roll-Term Kinds (Kinds × Kinds) (kinds_in_layer rows) kinds_of_branch (Term-F.Num n)

  kinds_Name : (id : ℕ) → kinds rows (Name id) ≡ kinds_of_row (slice_get rows id)
  kinds_Name id = ap (kinds rows) (sym (rolls-Name id)) ∙ fold-roll-Term Kinds (Kinds × Kinds) (kinds_in_layer rows) kinds_of_branch (Term-F.Name id)

  kinds_Not : (t : Term) → kinds rows (Not t) ≡ record { word = false; truth = (kinds rows t).truth }
  kinds_Not t = ap (kinds rows) (sym (rolls-Not t)) ∙ fold-roll-Term Kinds (Kinds × Kinds) (kinds_in_layer rows) kinds_of_branch (Term-F.Not t)

  kinds_And : (ts : List Term) → kinds rows (And ts) ≡ record { word = false; truth = each (λ (x : Kinds). x.truth) (map (kinds rows) ts) }
  kinds_And ts = ap (kinds rows) (sym (rolls-And ts)) ∙ fold-roll-Term Kinds (Kinds × Kinds) (kinds_in_layer rows) kinds_of_branch (Term-F.And ts)

  kinds_Or : (ts : List Term) → kinds rows (Or ts) ≡ record { word = false; truth = each (λ (x : Kinds). x.truth) (map (kinds rows) ts) }
  kinds_Or ts = ap (kinds rows) (sym (rolls-Or ts)) ∙ fold-roll-Term Kinds (Kinds × Kinds) (kinds_in_layer rows) kinds_of_branch (Term-F.Or ts)

  kinds_Cmp : (o : CmpOp) (t u : Term) → kinds rows (Cmp o t u) ≡ record { word = false; truth = (kinds rows t).word && (kinds rows u).word }
  kinds_Cmp o t u = ap (kinds rows) (sym (rolls-Cmp o t u)) ∙ fold-roll-Term Kinds (Kinds × Kinds) (kinds_in_layer rows) kinds_of_branch (Term-F.Cmp o t u)

  kinds_In : (t : Term) (us : List Term) → kinds rows (In t us) ≡ record { word = false; truth = (kinds rows t).word && each (λ (y : Kinds). y.word) (map (kinds rows) us) }
  kinds_In t us = ap (kinds rows) (sym (rolls-In t us)) ∙ fold-roll-Term Kinds (Kinds × Kinds) (kinds_in_layer rows) kinds_of_branch (Term-F.In t us)

  kinds_Case : (cs : List TermBranch) → kinds rows (Case cs) ≡ record { word = each (λ (b : Kinds × Kinds). b.0.truth && b.1.word) (map (branch_kinds rows) cs); truth = false }
  kinds_Case cs = ap (kinds rows) (sym (rolls-Case cs)) ∙ fold-roll-Term Kinds (Kinds × Kinds) (kinds_in_layer rows) kinds_of_branch (Term-F.Case cs)

  kinds_branch : (b : TermBranch) → branch_kinds rows b ≡ (kinds rows b.guard, kinds rows b.value)
  kinds_branch b = search (rules, bs.the_lemmas, bs.fold_out-TermBranch Kinds (Kinds × Kinds) (kinds_in_layer rows) kinds_of_branch b)

  ready_Num : (n : ℕ) → translatable es atoms (Num n) ≡ record { one = nat_eq n 1; truth = true; word = true; leaves = Number n ∷ [] }
  ready_Num n = ap (translatable es atoms) (sym (rolls-Num n)) ∙ fold-roll-Term Translatable (Translatable × Translatable) (ready_layer es atoms) ready_pair (Term-F.Num n)

  ready_Name : (id : ℕ) → translatable es atoms (Name id) ≡ record { one = false; truth = entry_truth (slice_get es id); word = entry_word (slice_get es id); leaves = entry_leaves (slice_get es id) }
  ready_Name id = ap (translatable es atoms) (sym (rolls-Name id)) ∙ fold-roll-Term Translatable (Translatable × Translatable) (ready_layer es atoms) ready_pair (Term-F.Name id)

  ready_Not : (t : Term) → translatable es atoms (Not t) ≡ record { one = false; truth = (translatable es atoms t).truth; word = false; leaves = [] }
  ready_Not t = ap (translatable es atoms) (sym (rolls-Not t)) ∙ fold-roll-Term Translatable (Translatable × Translatable) (ready_layer es atoms) ready_pair (Term-F.Not t)

  ready_And : (ts : List Term) → translatable es atoms (And ts) ≡ record { one = false; truth = truths (map (translatable es atoms) ts); word = false; leaves = [] }
  ready_And ts = ap (translatable es atoms) (sym (rolls-And ts)) ∙ fold-roll-Term Translatable (Translatable × Translatable) (ready_layer es atoms) ready_pair (Term-F.And ts)

  ready_Or : (ts : List Term) → translatable es atoms (Or ts) ≡ record { one = false; truth = truths (map (translatable es atoms) ts); word = false; leaves = [] }
  ready_Or ts = ap (translatable es atoms) (sym (rolls-Or ts)) ∙ fold-roll-Term Translatable (Translatable × Translatable) (ready_layer es atoms) ready_pair (Term-F.Or ts)

  ready_Cmp : (o : CmpOp) (t u : Term) → translatable es atoms (Cmp o t u) ≡ record {
    one = false;
    truth = (translatable es atoms t).word && ((translatable es atoms u).word && leaves_listed atoms o (translatable es atoms t).leaves (translatable es atoms u).leaves);
    word = false;
    leaves = [];
  }
  ready_Cmp o t u = ap (translatable es atoms) (sym (rolls-Cmp o t u)) ∙ fold-roll-Term Translatable (Translatable × Translatable) (ready_layer es atoms) ready_pair (Term-F.Cmp o t u)

  ready_In : (t : Term) (us : List Term) → translatable es atoms (In t us) ≡ record { one = false; truth = (translatable es atoms t).word && members atoms (translatable es atoms t).leaves (map (translatable es atoms) us); word = false; leaves = [] }
  ready_In t us = ap (translatable es atoms) (sym (rolls-In t us)) ∙ fold-roll-Term Translatable (Translatable × Translatable) (ready_layer es atoms) ready_pair (Term-F.In t us)

  ready_Case : (cs : List TermBranch) → translatable es atoms (Case cs) ≡ record { one = false; truth = false; word = branches (map (branch_ready es atoms) cs); leaves = case_leaves [] (map (branch_ready es atoms) cs) }
  ready_Case cs = ap (translatable es atoms) (sym (rolls-Case cs)) ∙ fold-roll-Term Translatable (Translatable × Translatable) (ready_layer es atoms) ready_pair (Term-F.Case cs)

  -- ---- lists

  -- the atoms of all pairs, tested pair by pair and as one list
  pairs_listed : (o : CmpOp) (xs ys : List Leaf) → Listed (pair_atoms o xs ys) → IsTrue (leaves_listed atoms o xs ys)
  pairs_listed o [] ys h = refl
  pairs_listed o (x ∷ xs) ys h =
      let parts = each_append (is_listed atoms) (map (open_atom o x) ys) (pair_atoms o xs ys) h in
      joins (each (λ (y : Leaf). is_listed atoms (open_atom o x y)) ys) (leaves_listed atoms o xs ys) (row ys parts.0) (pairs_listed o xs ys parts.1)
    where
      row : (zs : List Leaf) → IsTrue (each (is_listed atoms) (map (open_atom o x) zs)) → IsTrue (each (λ (y : Leaf). is_listed atoms (open_atom o x y)) zs)
      row [] k = refl
      row (z ∷ zs) k = let p = and_parts (is_listed atoms (open_atom o x z)) (each (is_listed atoms) (map (open_atom o x) zs)) k in joins (is_listed atoms (open_atom o x z)) (each (λ (y : Leaf). is_listed atoms (open_atom o x y)) zs) p.0 (row zs p.1)

  all_good : (ts : List Term) → AllByRecursion Good ts → AllByRecursion (λ t. AllByRecursion Stands (names t)) ts → Listed (atoms_of_all (map (term_atoms own) ts)) → AllByRecursion Readied ts
  all_good [] g s h = tt
  all_good (t ∷ ts) g s h =
      let parts = each_append (is_listed atoms) (term_atoms own t).asks (atoms_of_all (map (term_atoms own) ts)) h in
      (g.0 s.0 parts.0, all_good ts g.1 s.1 parts.1)

  all_true : (ts : List Term) → AllByRecursion Readied ts → IsTrue (each (λ (x : Kinds). x.truth) (map (kinds rows) ts)) → IsTrue (truths (map (translatable es atoms) ts))
  all_true [] r h = refl
  all_true (t ∷ ts) r h =
      let parts = and_parts (kinds rows t).truth (each (λ (x : Kinds). x.truth) (map (kinds rows) ts)) h in
      joins (translatable es atoms t).truth (truths (map (translatable es atoms) ts)) (r.0.truth parts.0) (all_true ts r.1 parts.1)

  members_good : (xs : List Leaf) (ts : List Term) → AllByRecursion Good ts → AllByRecursion (λ t. AllByRecursion Stands (names t)) ts → Listed (member_atoms xs (map (term_atoms own) ts)) →
      IsTrue (each (λ (y : Kinds). y.word) (map (kinds rows) ts)) → IsTrue (members atoms xs (map (translatable es atoms) ts))
  members_good xs [] g s h k = refl
  members_good xs (t ∷ ts) g s h k =
      let parts = each_append (is_listed atoms) ((term_atoms own t).asks ++ pair_atoms op.Eq xs (term_atoms own t).leaves) (member_atoms xs (map (term_atoms own) ts)) h in
      let here = each_append (is_listed atoms) (term_atoms own t).asks (pair_atoms op.Eq xs (term_atoms own t).leaves) parts.0 in
      let kind = and_parts (kinds rows t).word (each (λ (y : Kinds). y.word) (map (kinds rows) ts)) k in
      let done = g.0 s.0 here.0 in
      joins ((translatable es atoms t).word && leaves_listed atoms op.Eq xs (translatable es atoms t).leaves) (members atoms xs (map (translatable es atoms) ts))
      (joins (translatable es atoms t).word (leaves_listed atoms op.Eq xs (translatable es atoms t).leaves) (done.word kind.0)
      (subst (λ (ls : List Leaf). IsTrue (leaves_listed atoms op.Eq xs ls)) (sym done.leaves) (pairs_listed op.Eq xs (term_atoms own t).leaves here.1)))
      (members_good xs ts g.1 s.1 parts.1 kind.1)

  branches_good : (cs : List TermBranch) → AllByRecursion GoodBranch cs → AllByRecursion (λ c. AllByRecursion Stands (branch_names c)) cs → Listed (branch_atoms (map (branch_plan own) cs)) → AllByRecursion ReadiedBranch cs
  branches_good [] g s h = tt
  branches_good (c ∷ cs) g s h =
      let parts = each_append (is_listed atoms) ((branch_plan own c).0.asks ++ (branch_plan own c).1.asks) (branch_atoms (map (branch_plan own) cs)) h in
      (g.0 s.0 parts.0, branches_good cs g.1 s.1 parts.1)

  branches_true : (cs : List TermBranch) → AllByRecursion ReadiedBranch cs → IsTrue (each (λ (b : Kinds × Kinds). b.0.truth && b.1.word) (map (branch_kinds rows) cs)) → IsTrue (branches (map (branch_ready es atoms) cs))
  branches_true [] r h = refl
  branches_true (c ∷ cs) r h =
      let parts = and_parts ((branch_kinds rows c).0.truth && (branch_kinds rows c).1.word) (each (λ (b : Kinds × Kinds). b.0.truth && b.1.word) (map (branch_kinds rows) cs)) h in
      let kind = and_parts (kinds rows c.guard).truth (kinds rows c.value).word (subst (λ (b : Kinds × Kinds). IsTrue (b.0.truth && b.1.word)) (kinds_branch c) parts.0) in
      let here = joins (translatable es atoms c.guard).truth (translatable es atoms c.value).word (r.0.guard.truth kind.0) (r.0.value.word kind.1) in
      joins ((branch_ready es atoms c).0.truth && (branch_ready es atoms c).1.word) (branches (map (branch_ready es atoms) cs))
      (subst (λ (b : Translatable × Translatable). IsTrue (b.0.truth && b.1.word)) (sym (branch_ready_is es atoms c)) here) (branches_true cs r.1 parts.1)

  branches_leaves : (ls : List Leaf) (cs : List TermBranch) → AllByRecursion ReadiedBranch cs → case_leaves ls (map (branch_ready es atoms) cs) ≡ plans.case_leaves ls (map (branch_plan own) cs)
  branches_leaves ls [] r = refl
  branches_leaves ls (c ∷ cs) r =
      ap (λ (b : Translatable × Translatable). case_leaves ls (b ∷ map (branch_ready es atoms) cs)) (branch_ready_is es atoms c)
      ∙ (ap (λ o. if o then plans.joined ls (translatable es atoms c.value).leaves else case_leaves (plans.joined ls (translatable es atoms c.value).leaves) (map (branch_ready es atoms) cs)) r.0.guard.one
      ∙ (ap (λ (xs : List Leaf). if (term_atoms own c.guard).one then plans.joined ls xs else case_leaves (plans.joined ls xs) (map (branch_ready es atoms) cs)) r.0.value.leaves
      ∙ (ap (λ (rest : List Leaf). if (term_atoms own c.guard).one then plans.joined ls (term_atoms own c.value).leaves else rest) (branches_leaves (plans.joined ls (term_atoms own c.value).leaves) cs r.1)
      ∙ sym (ap (λ (b : TermAtoms × TermAtoms). plans.case_leaves ls (b ∷ map (branch_plan own) cs)) (plan_branch own c)))))

  -- ---- the induction

  pub readied : (t : Term) → AllByRecursion Stands (names t) → IsTrue (each (is_listed atoms) (term_atoms own t).asks) → Readied t
  readied = induct Good GoodBranch
      (λ n s h. record {
        one = ap (λ (r : Translatable). r.one) (ready_Num n) ∙ sym (ap (λ (p : TermAtoms). p.one) (plan_Num own n));
        truth = λ k. ap (λ (r : Translatable). r.truth) (ready_Num n);
        word = λ k. ap (λ (r : Translatable). r.word) (ready_Num n);
        leaves = ap (λ (r : Translatable). r.leaves) (ready_Num n) ∙ sym (ap (λ (p : TermAtoms). p.leaves) (plan_Num own n));
      })
      (λ id s h.
      let here = (subst (AllByRecursion Stands) (names_Name id) s).0 in
      record {
        one = ap (λ (r : Translatable). r.one) (ready_Name id) ∙ sym (ap (λ (p : TermAtoms). p.one) (plan_Name own id));
        truth = λ k. ap (λ (r : Translatable). r.truth) (ready_Name id) ∙ (here.truth ∙ (sym (ap (λ (x : Kinds). x.truth) (kinds_Name id)) ∙ k));
        word = λ k. ap (λ (r : Translatable). r.word) (ready_Name id) ∙ (here.word ∙ (sym (ap (λ (x : Kinds). x.word) (kinds_Name id)) ∙ k));
        leaves = ap (λ (r : Translatable). r.leaves) (ready_Name id) ∙ (here.leaves ∙ sym (ap (λ (p : TermAtoms). p.leaves) (plan_Name own id)));
      })
      (λ t g s h.
      let done = g (subst (AllByRecursion Stands) (names_Not t) s) (subst (λ (p : TermAtoms). Listed p.asks) (plan_Not own t) h) in
      record {
        one = ap (λ (r : Translatable). r.one) (ready_Not t) ∙ sym (ap (λ (p : TermAtoms). p.one) (plan_Not own t));
        truth = λ k. ap (λ (r : Translatable). r.truth) (ready_Not t) ∙ done.truth (sym (ap (λ (x : Kinds). x.truth) (kinds_Not t)) ∙ k);
        word = λ k. (let e : false ≡ true = sym (ap (λ (x : Kinds). x.word) (kinds_Not t)) ∙ k in cc);
        leaves = ap (λ (r : Translatable). r.leaves) (ready_Not t) ∙ sym (ap (λ (p : TermAtoms). p.leaves) (plan_Not own t));
      })
      (λ ts g s h.
      let done = all_good ts g (each_joined Stands names ts (subst (AllByRecursion Stands) (names_And ts) s)) (subst (λ (p : TermAtoms). Listed p.asks) (plan_And own ts) h) in
      record {
        one = ap (λ (r : Translatable). r.one) (ready_And ts) ∙ sym (ap (λ (p : TermAtoms). p.one) (plan_And own ts));
        truth = λ k. ap (λ (r : Translatable). r.truth) (ready_And ts) ∙ all_true ts done (sym (ap (λ (x : Kinds). x.truth) (kinds_And ts)) ∙ k);
        word = λ k. (let e : false ≡ true = sym (ap (λ (x : Kinds). x.word) (kinds_And ts)) ∙ k in cc);
        leaves = ap (λ (r : Translatable). r.leaves) (ready_And ts) ∙ sym (ap (λ (p : TermAtoms). p.leaves) (plan_And own ts));
      })
      (λ ts g s h.
      let done = all_good ts g (each_joined Stands names ts (subst (AllByRecursion Stands) (names_Or ts) s)) (subst (λ (p : TermAtoms). Listed p.asks) (plan_Or own ts) h) in
      record {
        one = ap (λ (r : Translatable). r.one) (ready_Or ts) ∙ sym (ap (λ (p : TermAtoms). p.one) (plan_Or own ts));
        truth = λ k. ap (λ (r : Translatable). r.truth) (ready_Or ts) ∙ all_true ts done (sym (ap (λ (x : Kinds). x.truth) (kinds_Or ts)) ∙ k);
        word = λ k. (let e : false ≡ true = sym (ap (λ (x : Kinds). x.word) (kinds_Or ts)) ∙ k in cc);
        leaves = ap (λ (r : Translatable). r.leaves) (ready_Or ts) ∙ sym (ap (λ (p : TermAtoms). p.leaves) (plan_Or own ts));
      })
      (λ o t u g g' s h.
      let stands = subst (AllByRecursion Stands) (names_Cmp o t u) s in
      let asks = each_append (is_listed atoms) (term_atoms own t).asks ((term_atoms own u).asks ++ pair_atoms o (term_atoms own t).leaves (term_atoms own u).leaves) (subst (λ (p : TermAtoms). Listed p.asks) (plan_Cmp own o t u) h) in
      let rest = each_append (is_listed atoms) (term_atoms own u).asks (pair_atoms o (term_atoms own t).leaves (term_atoms own u).leaves) asks.1 in
      let left = g (each_left Stands (names t) (names u) stands) asks.0 in
      let right = g' (each_right Stands (names t) (names u) stands) rest.0 in
      record {
        one = ap (λ (r : Translatable). r.one) (ready_Cmp o t u) ∙ sym (ap (λ (p : TermAtoms). p.one) (plan_Cmp own o t u));
        truth = λ k.
            let kind = and_parts (kinds rows t).word (kinds rows u).word (sym (ap (λ (x : Kinds). x.truth) (kinds_Cmp o t u)) ∙ k) in
            ap (λ (r : Translatable). r.truth) (ready_Cmp o t u)
            ∙ joins (translatable es atoms t).word ((translatable es atoms u).word && leaves_listed atoms o (translatable es atoms t).leaves (translatable es atoms u).leaves) (left.word kind.0)
            (joins (translatable es atoms u).word (leaves_listed atoms o (translatable es atoms t).leaves (translatable es atoms u).leaves) (right.word kind.1)
            (ap (λ (ls : List Leaf). leaves_listed atoms o ls (translatable es atoms u).leaves) left.leaves
            ∙ (ap (leaves_listed atoms o (term_atoms own t).leaves) right.leaves ∙ pairs_listed o (term_atoms own t).leaves (term_atoms own u).leaves rest.1)));
        word = λ k. (let e : false ≡ true = sym (ap (λ (x : Kinds). x.word) (kinds_Cmp o t u)) ∙ k in cc);
        leaves = ap (λ (r : Translatable). r.leaves) (ready_Cmp o t u) ∙ sym (ap (λ (p : TermAtoms). p.leaves) (plan_Cmp own o t u));
      })
      (λ t us g g' s h.
      let stands = subst (AllByRecursion Stands) (names_In t us) s in
      let asks = each_append (is_listed atoms) (term_atoms own t).asks (member_atoms (term_atoms own t).leaves (map (term_atoms own) us)) (subst (λ (p : TermAtoms). Listed p.asks) (plan_In own t us) h) in
      let left = g (each_left Stands (names t) (joined (map names us)) stands) asks.0 in
      record {
        one = ap (λ (r : Translatable). r.one) (ready_In t us) ∙ sym (ap (λ (p : TermAtoms). p.one) (plan_In own t us));
        truth = λ k.
            let kind = and_parts (kinds rows t).word (each (λ (y : Kinds). y.word) (map (kinds rows) us)) (sym (ap (λ (x : Kinds). x.truth) (kinds_In t us)) ∙ k) in
            ap (λ (r : Translatable). r.truth) (ready_In t us)
            ∙ joins (translatable es atoms t).word (members atoms (translatable es atoms t).leaves (map (translatable es atoms) us)) (left.word kind.0)
            (ap (λ (ls : List Leaf). members atoms ls (map (translatable es atoms) us)) left.leaves
            ∙ members_good (term_atoms own t).leaves us g' (each_joined Stands names us (each_right Stands (names t) (joined (map names us)) stands)) asks.1 kind.1);
        word = λ k. (let e : false ≡ true = sym (ap (λ (x : Kinds). x.word) (kinds_In t us)) ∙ k in cc);
        leaves = ap (λ (r : Translatable). r.leaves) (ready_In t us) ∙ sym (ap (λ (p : TermAtoms). p.leaves) (plan_In own t us));
      })
      (λ cs g s h.
      let done = branches_good cs g (each_joined Stands branch_names cs (subst (AllByRecursion Stands) (names_Case cs) s)) (subst (λ (p : TermAtoms). Listed p.asks) (plan_Case own cs) h) in
      record {
        one = ap (λ (r : Translatable). r.one) (ready_Case cs) ∙ sym (ap (λ (p : TermAtoms). p.one) (plan_Case own cs));
        truth = λ k. (let e : false ≡ true = sym (ap (λ (x : Kinds). x.truth) (kinds_Case cs)) ∙ k in cc);
        word = λ k. ap (λ (r : Translatable). r.word) (ready_Case cs) ∙ branches_true cs done (sym (ap (λ (x : Kinds). x.word) (kinds_Case cs)) ∙ k);
        leaves = ap (λ (r : Translatable). r.leaves) (ready_Case cs) ∙ (branches_leaves [] cs done ∙ sym (ap (λ (p : TermAtoms). p.leaves) (plan_Case own cs)));
      })
      (λ b g g' s h.
      let stands = subst (AllByRecursion Stands) (names_branch b) s in
      let asks = each_append (is_listed atoms) (term_atoms own b.guard).asks (term_atoms own b.value).asks (subst (λ (p : TermAtoms × TermAtoms). Listed (p.0.asks ++ p.1.asks)) (plan_branch own b) h) in
      record {
        guard = g (each_left Stands (names b.guard) (names b.value) stands) asks.0;
        value = g' (each_right Stands (names b.guard) (names b.value) stands) asks.1;
      })
