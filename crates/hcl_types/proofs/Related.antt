-- The values of a term under two meanings that agree on its names.
use Rattle.std.proofs.Common.{◌≡◌, ℕ, Bool, true, false, not, if◌then◌else◌, List, [], ◌∷◌, map, refl, ap, ◌∙◌, subst}
use Rattle.std.specs.List.{AllByRecursion}
use Rattle.hcl_tree.specs.declared.tree.CmpOp.{CmpOp}
use Rattle.hcl_tree.specs.declared.tree.CmpOp.TheVariants.{Eq}
use Rattle.hcl_types.specs.declared.term.Term.{Term}
use Rattle.hcl_types.specs.declared.term.TermBranch.{TermBranch}
use Rattle.hcl_types.specs.Lists.{each, some}
use Rattle.hcl_types.specs.Terms.{Interpretation, value, branch_value, picked, names, branch_names, joined}
use Rattle.hcl_types.proofs.Inductions.{induct}
use Rattle.hcl_types.proofs.Each.{each_left, each_right, each_joined}
use Rattle.hcl_types.proofs.Values.{value_Num, value_Name, value_Not, value_And, value_Or, value_Cmp, value_In, value_Case, value_branch, names_Name, names_Not, names_And, names_Or, names_Cmp, names_In, names_Case, names_branch}

-- numbers and truths of the two meanings are related; related values are alike true or false, and compare alike
pub record Alike {A B : Type 0} (m : Interpretation A) (k : Interpretation B) (R : A → B → Type 0) : Type 0 where
  pub nums : (n : ℕ) → R (m.num n) (k.num n)
  pub bools : (b : Bool) → R (m.bool b) (k.bool b)
  pub holds : (x : A) (y : B) → R x y → m.holds x ≡ k.holds y
  pub compares : (op : CmpOp) (x x' : A) (y y' : B) → R x y → R x' y' → m.cmp op x x' ≡ k.cmp op y y'

module _ {A B : Type 0} (m : Interpretation A) (k : Interpretation B) (R : A → B → Type 0) (alike : Alike m k R) (f : ℕ → A) (g : ℕ → B) where
  AtNames : List ℕ → Type 0
  AtNames ids = AllByRecursion (λ id. R (f id) (g id)) ids

  abbrev Good : Term → Type 0
  Good t = AllByRecursion (λ id. R (f id) (g id)) (names t) → R (value m f t) (value k g t)

  abbrev GoodBranch : TermBranch → Type 0
  GoodBranch b = AllByRecursion (λ id. R (f id) (g id)) (branch_names b) → R (value m f b.guard) (value k g b.guard) × R (value m f b.value) (value k g b.value)

  each_alike : (ts : List Term) → AllByRecursion Good ts → AllByRecursion (λ t. AllByRecursion (λ id. R (f id) (g id)) (names t)) ts → each m.holds (map (value m f) ts) ≡ each k.holds (map (value k g) ts)
  each_alike [] h n = refl
  each_alike (t ∷ ts) h n = rw (alike.holds (value m f t) (value k g t) (h.0 n.0), each_alike ts h.1 n.1) refl

  some_alike : (ts : List Term) → AllByRecursion Good ts → AllByRecursion (λ t. AllByRecursion (λ id. R (f id) (g id)) (names t)) ts → some m.holds (map (value m f) ts) ≡ some k.holds (map (value k g) ts)
  some_alike [] h n = refl
  some_alike (t ∷ ts) h n = rw (alike.holds (value m f t) (value k g t) (h.0 n.0), some_alike ts h.1 n.1) refl

  member_alike : (x : A) (y : B) → R x y → (ts : List Term) → AllByRecursion Good ts → AllByRecursion (λ t. AllByRecursion (λ id. R (f id) (g id)) (names t)) ts →
      some (m.cmp Eq x) (map (value m f) ts) ≡ some (k.cmp Eq y) (map (value k g) ts)
  member_alike x y r [] h n = refl
  member_alike x y r (t ∷ ts) h n = rw (alike.compares Eq x (value m f t) y (value k g t) r (h.0 n.0), member_alike x y r ts h.1 n.1) refl

  if_alike : (b c : Bool) → b ≡ c → (x x' : A) (y y' : B) → R x y → R x' y' → R (if b then x else x') (if c then y else y')
  if_alike true c e x x' y y' r r' = subst (λ z. R x (if z then y else y')) e r
  if_alike false c e x x' y y' r r' = subst (λ z. R x' (if z then y else y')) e r'

  picked_alike : (bs : List TermBranch) → AllByRecursion GoodBranch bs → AllByRecursion (λ b. AllByRecursion (λ id. R (f id) (g id)) (branch_names b)) bs →
      R (picked m.holds (m.num 0) (map (branch_value m f) bs)) (picked k.holds (k.num 0) (map (branch_value k g) bs))
  picked_alike [] h n = alike.nums 0
  picked_alike (b ∷ bs) h n =
      let both = h.0 n.0 in
      rw (value_branch m f b, value_branch k g b)
      (if_alike (m.holds (value m f b.guard)) (k.holds (value k g b.guard)) (alike.holds (value m f b.guard) (value k g b.guard) both.0)
      (value m f b.value) (picked m.holds (m.num 0) (map (branch_value m f) bs)) (value k g b.value) (picked k.holds (k.num 0) (map (branch_value k g) bs))
      both.1 (picked_alike bs h.1 n.1))

  truths : (b c : Bool) → b ≡ c → R (m.bool b) (k.bool c)
  truths b c e = subst (λ z. R (m.bool b) (k.bool z)) e (alike.bools b)

  N : ℕ → Type 0
  N id = R (f id) (g id)

  pub related : (t : Term) → AllByRecursion (λ id. R (f id) (g id)) (names t) → R (value m f t) (value k g t)
  related = induct Good GoodBranch
      (λ n h. rw (value_Num m f n, value_Num k g n) (alike.nums n))
      (λ id h. rw (value_Name m f id, value_Name k g id) ((subst (AllByRecursion (λ id. R (f id) (g id))) (names_Name id) h).0))
      (λ t p h. rw (value_Not m f t, value_Not k g t)
      (truths (not (m.holds (value m f t))) (not (k.holds (value k g t)))
      (ap not (alike.holds (value m f t) (value k g t) (p (subst (AllByRecursion (λ id. R (f id) (g id))) (names_Not t) h))))))
      (λ ts p h. rw (value_And m f ts, value_And k g ts)
      (truths (each m.holds (map (value m f) ts)) (each k.holds (map (value k g) ts))
      (each_alike ts p (each_joined (λ id. R (f id) (g id)) names ts (subst (AllByRecursion (λ id. R (f id) (g id))) (names_And ts) h)))))
      (λ ts p h. rw (value_Or m f ts, value_Or k g ts)
      (truths (some m.holds (map (value m f) ts)) (some k.holds (map (value k g) ts))
      (some_alike ts p (each_joined (λ id. R (f id) (g id)) names ts (subst (AllByRecursion (λ id. R (f id) (g id))) (names_Or ts) h)))))
      (λ op t u p q h.
      let both = subst (AllByRecursion (λ id. R (f id) (g id))) (names_Cmp op t u) h in
      rw (value_Cmp m f op t u, value_Cmp k g op t u)
      (truths (m.cmp op (value m f t) (value m f u)) (k.cmp op (value k g t) (value k g u))
      (alike.compares op (value m f t) (value m f u) (value k g t) (value k g u)
      (p (each_left (λ id. R (f id) (g id)) (names t) (names u) both)) (q (each_right (λ id. R (f id) (g id)) (names t) (names u) both)))))
      (λ t us p q h.
      let both = subst (AllByRecursion (λ id. R (f id) (g id))) (names_In t us) h in
      rw (value_In m f t us, value_In k g t us)
      (truths (some (m.cmp Eq (value m f t)) (map (value m f) us)) (some (k.cmp Eq (value k g t)) (map (value k g) us))
      (member_alike (value m f t) (value k g t) (p (each_left (λ id. R (f id) (g id)) (names t) (joined (map names us)) both)) us q
      (each_joined (λ id. R (f id) (g id)) names us (each_right (λ id. R (f id) (g id)) (names t) (joined (map names us)) both)))))
      (λ bs p h. rw (value_Case m f bs, value_Case k g bs)
      (picked_alike bs p (each_joined (λ id. R (f id) (g id)) branch_names bs (subst (AllByRecursion (λ id. R (f id) (g id))) (names_Case bs) h))))
      (λ b p q h.
      let both = subst (AllByRecursion (λ id. R (f id) (g id))) (names_branch b) h in
      (p (each_left (λ id. R (f id) (g id)) (names b.guard) (names b.value) both), q (each_right (λ id. R (f id) (g id)) (names b.guard) (names b.value) both)))

-- the value of a term depends only on the values of its names
pub local_value : {A : Type 0} (m : Interpretation A) (f g : ℕ → A) (t : Term) → AllByRecursion (λ id. f id ≡ g id) (names t) → value m f t ≡ value m g t
local_value m f g = related m m (λ x y. x ≡ y)
    (record { nums = λ n. refl; bools = λ b. refl; holds = λ x y e. ap m.holds e; compares = λ op x x' y y' e e'. ap (λ z. m.cmp op z x') e ∙ ap (m.cmp op y) e' })
    f g
