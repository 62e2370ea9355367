-- Names get their gates one after the other.
use Rattle.std.proofs.Common.{◌≡◌, ◌⊎◌, ℕ, ◌+◌, ◌<◌, ◌≤◌, Bool, true, false, not, ◌||◌, List, [], ◌∷◌, ◌++◌, length, take, get_or, nat_lt, Option, Some, None, slice_get, IsTrue, refl, sym, ap, ◌∙◌, subst, arith, inl, inr}
use Rattle.std.proofs.Math.ListN.{set}
use Rattle.std.proofs.lemmas.List.{length-set, length_push}
use Rattle.std.proofs.lemmas.Option.{slice_get_within, slice_get_past, slice_get-get_or}
use Rattle.std.proofs.lemmas.Bool.Decides.{nat_tests}
use Rattle.std.specs.List.{AllByRecursion}
use Rattle.y86_base.proofs.Lists.{element_at}
use Rattle.nets.specs.Nets.{Gates, ExtendsNet, truth}
use Rattle.hcl_types.specs.declared.term.Term.{Term}
use Rattle.hcl_types.specs.declared.term.Term.TheVariants.{Num}
use Rattle.hcl_types.specs.declared.table.Class.{Class}
use Rattle.hcl_types.specs.declared.table.Class.TheVariants as class
use Rattle.hcl_types.specs.declared.table.Role.{Role}
use Rattle.hcl_types.specs.declared.table.Role.TheVariants.{Constant, State, Hardware, Defined}
use Rattle.hcl_types.specs.declared.table.Row.{Row}
use Rattle.hcl_types.specs.Equations.{IsSolution, IsOrdered, is_known, needs_of}
use Rattle.hcl_types.specs.Kinds.{is_truth, kinds, kinds_of_row, has_class}
use Rattle.hcl_types.specs.Lists.{IsIn, each}
use Rattle.hcl_types.specs.Tables.{IsBound, IsOrderOf, defined, is_defined, is_given, known, needs, term_at}
use Rattle.hcl_types.specs.Terms.{names, value}
use Rattle.hcl_types.proofs.Each.{each_in}
use Rattle.ctl_atoms.specs.declared.leaf.Leaf.{Leaf}
use Rattle.ctl_atoms.specs.declared.leaf.Atom.{Atom}
use Rattle.ctl_atoms.specs.Atoms.{AreAtoms, atoms_of}
use Rattle.ctl_atoms.specs.Leaves.{Assignment, AtomsAre, leaf_holds, leaf_meaning, is_listed}
use Rattle.ctl_atoms.specs.TermAtoms.{term_atoms}
use Rattle.ctl_atoms.specs.Rows.{row_term, leaf_rule, leaves_by_role, leaves_of_row, defined_leaves}
use Rattle.ctl_atoms.proofs.Listed.{listed}
use Rattle.ctl_atoms.proofs.Solved.{leaves_exist, unknown_inside, known_row, needs_defined}
use Rattle.ctl_picks.specs.declared.controls.Entry.{Entry}
use Rattle.ctl_picks.specs.declared.controls.Entry.TheVariants.{Absent, Truth, Picks}
use Rattle.ctl_given.specs.declared.places.Place.{Place}
use Rattle.ctl_equations.specs.Controls.{AreControls, role_leaf}
use Rattle.ctl_picks.specs.Picks.{Covers, IsInside, EncodesControls, Within, entry_truth, entry_word, entry_gate, entry_picks, some_pick}
use Rattle.ctl_given.specs.Places.{Spells}
use Rattle.ctl_picks.specs.TakenPicks.{at}
use Rattle.ctl_picks.specs.Entries.{EntryEncodes, EntryWithin, IsEntryOf, entry_leaves}
use Rattle.ctl_terms.specs.Translatable.{HasScope, EncodesSoFar, translatable}
use Rattle.ctl_formula.specs.Encoding.{IsInputEncoding, IsPartialEncoding, IsEncoding, is_filled}
use Rattle.ctl_picks.proofs.Chosen.{chosen}
use Rattle.ctl_picks.proofs.Entries.{entry_within, entry_shows}
use Rattle.ctl_formula.proofs.Readied.{Readied, Stands, readied}
use Rattle.ctl_formula.proofs.Elements.{push_case, set_case, defined_at, defined_below, each_at}
use Rattle.ctl_equations.proofs.Rows.{given_undefined, rule_row, defined_leaf}

-- ---- another given row

pub given_none : (rows : List Row) (places : List Place) (net : Gates) → IsInputEncoding rows places 0 net []
given_none rows places net = record {
  size = refl;
  within = λ n e i. absurd (grind (arith, i));
  absent = λ n row e r i d. absurd (grind (arith, i));
  entries = λ n row e r i d. absurd (grind (arith, i));
  shows = λ w α field told s n row e r i. absurd (grind (arith, i));
}

pub given_next : {a b : Gates} → ExtendsNet a b → (rows : List Row) (places : List Place) (k : ℕ) (es : List Entry) (e : Entry) (row : Row) → slice_get rows k ≡ Some row → IsInputEncoding rows places k a es →
    EntryWithin (length b.gates) e → (is_defined row.role ≡ true → e ≡ Absent) → (is_defined row.role ≡ false → IsEntryOf row.class (leaves_by_role row.class k row.role []) e) →
    ((w : List Bool) (α : Assignment) (field : ℕ → ℕ) (told : Leaf) → Spells places w field → EntryEncodes (at b w) α e (role_leaf field k row.class row.role told)) →
    IsInputEncoding rows places (k + 1) b (es ++ e ∷ [])
given_next {a} {b} begins rows places k es e row r0 given within absent entry shows = record {
  size = length_push es e ∙ (let s = given.size in omega (arith, s));
  within = λ n x i. at_within n x (push_case es e n x i);
  absent = λ n row' x r i d. at_absent n row' x r d (push_case es e n x i);
  entries = λ n row' x r i d. at_entry n row' x r d (push_case es e n x i);
  shows = λ w α field told s n row' x r i. at_shows w α field told s n row' x r (push_case es e n x i);
}
  where
    place : (n : ℕ) → n ≡ length es → n ≡ k
    place n p = p ∙ given.size

    row_same : (n : ℕ) (row' : Row) → n ≡ length es → slice_get rows n ≡ Some row' → row ≡ row'
    row_same n row' p r = let q : Some row ≡ Some row' = sym r0 ∙ (ap (slice_get rows) (sym (place n p)) ∙ r) in grind (arith, q)

    at_within : (n : ℕ) (x : Entry) → (slice_get es n ≡ Some x) ⊎ ((n ≡ length es) × (x ≡ e)) → EntryWithin (length b.gates) x
    at_within n x (inl i) = entry_within (length a.gates) (length b.gates) x begins.more (given.within n x i)
    at_within n x (inr p) = subst (EntryWithin (length b.gates)) (sym p.1) within

    at_absent : (n : ℕ) (row' : Row) (x : Entry) → slice_get rows n ≡ Some row' → is_defined row'.role ≡ true → (slice_get es n ≡ Some x) ⊎ ((n ≡ length es) × (x ≡ e)) → x ≡ Absent
    at_absent n row' x r d (inl i) = given.absent n row' x r i d
    at_absent n row' x r d (inr p) = p.1 ∙ absent (ap (λ (z : Row). is_defined z.role) (row_same n row' p.0 r) ∙ d)

    at_entry : (n : ℕ) (row' : Row) (x : Entry) → slice_get rows n ≡ Some row' → is_defined row'.role ≡ false → (slice_get es n ≡ Some x) ⊎ ((n ≡ length es) × (x ≡ e)) →
        IsEntryOf row'.class (leaves_by_role row'.class n row'.role []) x
    at_entry n row' x r d (inl i) = given.entries n row' x r i d
    at_entry n row' x r d (inr p) =
        let same = row_same n row' p.0 r in
        let here = entry (ap (λ (z : Row). is_defined z.role) same ∙ d) in
        let at_n = subst (λ m. IsEntryOf row.class (leaves_by_role row.class m row.role []) e) (sym (place n p.0)) here in
        subst (λ (z : Row). IsEntryOf z.class (leaves_by_role z.class n z.role []) x) same (subst (IsEntryOf row.class (leaves_by_role row.class n row.role [])) (sym p.1) at_n)

    at_shows : (w : List Bool) (α : Assignment) (field : ℕ → ℕ) (told : Leaf) → Spells places w field → (n : ℕ) (row' : Row) (x : Entry) → slice_get rows n ≡ Some row' →
        (slice_get es n ≡ Some x) ⊎ ((n ≡ length es) × (x ≡ e)) → EntryEncodes (at b w) α x (role_leaf field n row'.class row'.role told)
    at_shows w α field told s n row' x r (inl i) = entry_shows begins w α x (role_leaf field n row'.class row'.role told) (given.within n x i) (given.shows w α field told s n row' x r i)
    at_shows w α field told s n row' x r (inr p) =
        let same = row_same n row' p.0 r in
        let here = subst (λ m. EntryEncodes (at b w) α e (role_leaf field m row.class row.role told)) (sym (place n p.0)) (shows w α field told s) in
        subst (λ (z : Row). EntryEncodes (at b w) α x (role_leaf field n z.class z.role told)) same (subst (λ (z : Entry). EntryEncodes (at b w) α z (role_leaf field n row.class row.role told)) (sym p.1) here)

-- ---- all names

or_not : (b : Bool) → IsTrue (b || not b)
or_not true = refl
or_not false = refl

pub filled_entry : (class : Class) (ls : List Leaf) (e : Entry) → IsEntryOf class ls e → IsTrue (is_filled (Some e))
filled_entry class ls e h = ap (λ b. b || entry_word (Some e)) h.truth ∙ (ap (λ b. is_truth class || b) h.word ∙ or_not (is_truth class))

given_leaves : (class : Class) (n : ℕ) (role : Role) (xs : List Leaf) → is_defined role ≡ false → leaves_by_role class n role [] ≡ leaves_by_role class n role xs
given_leaves class n (Constant k) xs d = refl
given_leaves class n State xs d = refl
given_leaves class n (Hardware ids) xs d = refl
given_leaves class n Defined xs d = absurd (grind (arith, d))

defined_role : (class : Class) (n : ℕ) (role : Role) (xs : List Leaf) → is_defined role ≡ true → leaves_by_role class n role xs ≡ defined_leaves class xs
defined_role class n (Constant k) xs d = absurd (grind (arith, d))
defined_role class n State xs d = absurd (grind (arith, d))
defined_role class n (Hardware ids) xs d = absurd (grind (arith, d))
defined_role class n Defined xs d = refl

module _ (rows : List Row) (terms : List Term) (places : List Place) (asks : List Atom) (first : ℕ) where
  own_leaves : (leaves : ℕ → List Leaf) → IsSolution (leaf_rule rows terms) leaves → (n : ℕ) (row : Row) → slice_get rows n ≡ Some row → leaves n ≡ leaves_by_role row.class n row.role (term_atoms leaves (row_term rows terms n)).leaves
  own_leaves leaves fixed n row r = fixed n ∙ ap (λ (o : Option Row). leaves_of_row o n (term_atoms leaves (row_term rows terms n)).leaves) r

  control_at : (field : ℕ → ℕ) (α : Assignment) (cv : ℕ → Leaf) → AreControls rows terms field α cv → (n : ℕ) (row : Row) → slice_get rows n ≡ Some row →
      cv n ≡ role_leaf field n row.class row.role (value (leaf_meaning α) cv (row_term rows terms n))
  control_at field α cv controls n row r = controls n ∙ rule_row rows terms field α n cv row r

  pub filling_start : (net : Gates) (es : List Entry) → IsInputEncoding rows places (length rows) net es → IsPartialEncoding rows terms places asks first net es
  filling_start net es given = record {
    size = given.size;
    within = given.within;
    kinds = λ leaves fixed n row e r i. kind leaves fixed n row e r i (is_defined row.role) refl;
    shows = λ w α field cv a s controls n e i.
        let lt : n < length rows = (let q = slice_get_within es n e i in let z = given.size in omega (arith, q, z)) in
        let found = element_at rows n lt in
        subst (EntryEncodes (at net w) α e) (sym (control_at field α cv controls n found.0 found.1)) (given.shows w α field (value (leaf_meaning α) cv (row_term rows terms n)) s n found.0 e found.1 i);
  }
    where
      kind : (leaves : ℕ → List Leaf) → IsSolution (leaf_rule rows terms) leaves → (n : ℕ) (row : Row) (e : Entry) → slice_get rows n ≡ Some row → slice_get es n ≡ Some e →
          (b : Bool) → is_defined row.role ≡ b → (e ≡ Absent) ⊎ IsEntryOf row.class (leaves n) e
      kind leaves fixed n row e r i true d = inl (given.absent n row e r i d)
      kind leaves fixed n row e r i false d =
          inr (subst (λ (ls : List Leaf). IsEntryOf row.class ls e) (given_leaves row.class n row.role (term_atoms leaves (row_term rows terms n)).leaves d ∙ sym (own_leaves leaves fixed n row r)) (given.entries n row e r i d))

  pub given_filled : (net : Gates) (es : List Entry) → IsInputEncoding rows places (length rows) net es → (n : ℕ) (row : Row) → slice_get rows n ≡ Some row → is_defined row.role ≡ false → IsTrue (is_filled (slice_get es n))
  given_filled net es given n row r d =
      let lt : n < length es = (let q = slice_get_within rows n row r in let z = given.size in omega (arith, q, z)) in
      let found = element_at es n lt in
      ap is_filled found.1 ∙ filled_entry row.class (leaves_by_role row.class n row.role []) found.0 (given.entries n row found.0 r found.1 d)

  pub filling_open : (net : Gates) (es : List Entry) → first + length asks ≤ net.vars → IsPartialEncoding rows terms places asks first net es → HasScope net es asks first
  filling_open net es vars h = record { vars = vars; entries = h.within }

  -- ---- another name

  module _ (leaves : ℕ → List Leaf) (fixed : IsSolution (leaf_rule rows terms) leaves) (net : Gates) (es : List Entry) (h : IsPartialEncoding rows terms places asks first net es) where
    stands_at : (n : ℕ) → n < length rows → IsTrue (is_filled (slice_get es n)) → Stands es asks rows leaves n
    stands_at n lt filled =
        let row = element_at rows n lt in
        let e = element_at es n (let z = h.size in omega (arith, lt, z)) in
        by row.0 row.1 e.0 e.1 (h.kinds leaves fixed n row.0 e.0 row.1 e.1)
      where
        by : (row : Row) → slice_get rows n ≡ Some row → (e : Entry) → slice_get es n ≡ Some e → (e ≡ Absent) ⊎ IsEntryOf row.class (leaves n) e → Stands es asks rows leaves n
        by row r e i (inl none) = (let no : false ≡ true = sym (ap is_filled (i ∙ ap Some none)) ∙ filled in absurd (grind (arith, no)))
        by row r e i (inr k) = record {
          truth = ap entry_truth i ∙ (k.truth ∙ sym (ap (λ (o : Option Row). (kinds_of_row o).truth) r));
          word = ap entry_word i ∙ (k.word ∙ sym (ap (λ (o : Option Row). (kinds_of_row o).word) r));
          leaves = ap entry_leaves i ∙ k.own;
        }

    all_stand : (ids : List ℕ) → AllByRecursion (λ n. n < length rows) ids → AllByRecursion (λ n. IsTrue (is_filled (slice_get es n))) ids → AllByRecursion (Stands es asks rows leaves) ids
    all_stand [] l f = tt
    all_stand (n ∷ ids) l f = (stands_at n l.0 f.0, all_stand ids l.1 f.1)

    -- the term of a defined row can be translated, if the names that it needs have their gates
    pub readied_at : IsBound rows terms → asks ≡ atoms_of leaves terms → (n : ℕ) (row : Row) → slice_get rows n ≡ Some row → is_defined row.role ≡ true →
        AllByRecursion (λ m. m < length rows → IsTrue (is_filled (slice_get es m))) (names (row_term rows terms n)) → Readied es asks rows leaves (row_term rows terms n)
    readied_at bound same n row r d filled =
        let k : ℕ = length (defined (take n rows)) in
        let lt : k < length terms = (let q = defined_below rows n row r d in let z = bound.whole in omega (arith, q, z)) in
        let read : slice_get terms k ≡ Some (term_at terms k) = slice_get-get_or terms k (Num 0) lt in
        let inside : AllByRecursion (λ m. m < length rows) (names (row_term rows terms n)) = each_at (λ (t : Term). AllByRecursion (λ m. m < length rows) (names t)) terms k (term_at terms k) read bound.inside in
        let asked : IsTrue (each (is_listed (atoms_of leaves terms)) (term_atoms leaves (row_term rows terms n)).asks) =
        each_at (λ (t : Term). IsTrue (each (is_listed (atoms_of leaves terms)) (term_atoms leaves t).asks)) terms k (term_at terms k) read (listed leaves terms) in
        readied es asks rows leaves (row_term rows terms n) (all_stand (names (row_term rows terms n)) inside (both (names (row_term rows terms n)) inside filled))
        (subst (λ (xs : List Atom). IsTrue (each (is_listed xs) (term_atoms leaves (row_term rows terms n)).asks)) (sym same) asked)
      where
        both : (ids : List ℕ) → AllByRecursion (λ m. m < length rows) ids → AllByRecursion (λ m. m < length rows → IsTrue (is_filled (slice_get es m))) ids → AllByRecursion (λ m. IsTrue (is_filled (slice_get es m))) ids
        both [] l f = tt
        both (m ∷ ids) l f = (f.0 l.0, both ids l.1 f.1)

  -- the kind of a bound term is its row's
  pub bound_class : IsBound rows terms → (n : ℕ) (row : Row) → slice_get rows n ≡ Some row → is_defined row.role ≡ true → IsTrue (has_class rows row.class (row_term rows terms n))
  bound_class bound n row r d = bound.classes (length (defined (take n rows))) row (defined_at rows n row r d)

  pub truth_class : (class : Class) (t : Term) → IsTrue (has_class rows class t) → is_truth class ≡ true → IsTrue (kinds rows t).truth
  truth_class class.Number t h e = absurd (grind (arith, e))
  truth_class class.Code t h e = absurd (grind (arith, e))
  truth_class class.Value t h e = absurd (grind (arith, e))
  truth_class class.Truth t h e = h

  pub word_class : (class : Class) (t : Term) → IsTrue (has_class rows class t) → is_truth class ≡ false → IsTrue (kinds rows t).word
  word_class class.Number t h e = h
  word_class class.Code t h e = h
  word_class class.Value t h e = h
  word_class class.Truth t h e = absurd (grind (arith, e))

  -- the net has grown by the gates of one name
  pub filling_next : {a b : Gates} → ExtendsNet a b → (es : List Entry) (k : ℕ) (row : Row) (e : Entry) → slice_get rows k ≡ Some row → is_defined row.role ≡ true → IsPartialEncoding rows terms places asks first a es →
      EntryWithin (length b.gates) e → ((leaves : ℕ → List Leaf) → IsSolution (leaf_rule rows terms) leaves → (translatable es asks (row_term rows terms k)).leaves ≡ (term_atoms leaves (row_term rows terms k)).leaves) →
      IsEntryOf row.class (defined_leaves row.class (translatable es asks (row_term rows terms k)).leaves) e →
      ((w : List Bool) (α : Assignment) (cv : ℕ → Leaf) → EncodesSoFar a es asks first w α cv → EntryEncodes (at b w) α e (value (leaf_meaning α) cv (row_term rows terms k))) →
      IsPartialEncoding rows terms places asks first b (set es k e)
  filling_next {a} {b} begins es k row e r0 d h within same entry shows = record {
    size = length-set es k e ∙ h.size;
    within = λ n x i. at_within n x (set_case es k e n x i);
    kinds = λ leaves fixed n row' x r i. at_kind leaves fixed n row' x r (set_case es k e n x i);
    shows = λ w α field cv atoms s controls n x i. at_shows w α field cv atoms s controls n x (set_case es k e n x i);
  }
    where
      at_within : (n : ℕ) (x : Entry) → ((n ≡ k) × (x ≡ e)) ⊎ (slice_get es n ≡ Some x) → EntryWithin (length b.gates) x
      at_within n x (inl p) = subst (EntryWithin (length b.gates)) (sym p.1) within
      at_within n x (inr i) = entry_within (length a.gates) (length b.gates) x begins.more (h.within n x i)

      at_kind : (leaves : ℕ → List Leaf) → IsSolution (leaf_rule rows terms) leaves → (n : ℕ) (row' : Row) (x : Entry) → slice_get rows n ≡ Some row' → ((n ≡ k) × (x ≡ e)) ⊎ (slice_get es n ≡ Some x) →
          (x ≡ Absent) ⊎ IsEntryOf row'.class (leaves n) x
      at_kind leaves fixed n row' x r (inr i) = h.kinds leaves fixed n row' x r i
      at_kind leaves fixed n row' x r (inl p) =
          let q : Some row ≡ Some row' = sym r0 ∙ (ap (slice_get rows) (sym p.0) ∙ r) in
          let rows_same : row ≡ row' = grind (arith, q) in
          let own : defined_leaves row.class (translatable es asks (row_term rows terms k)).leaves ≡ leaves k =
          ap (defined_leaves row.class) (same leaves fixed)
          ∙ (sym (defined_role row.class k row.role (term_atoms leaves (row_term rows terms k)).leaves d) ∙ sym (own_leaves leaves fixed k row r0)) in
          let here : IsEntryOf row.class (leaves k) e = subst (λ (ls : List Leaf). IsEntryOf row.class ls e) own entry in
          let at_n : IsEntryOf row.class (leaves n) e = subst (λ m. IsEntryOf row.class (leaves m) e) (sym p.0) here in
          inr (subst (λ (z : Row). IsEntryOf z.class (leaves n) x) rows_same (subst (IsEntryOf row.class (leaves n)) (sym p.1) at_n))

      at_shows : (w : List Bool) (α : Assignment) (field : ℕ → ℕ) (cv : ℕ → Leaf) → AtomsAre asks first w α → Spells places w field → AreControls rows terms field α cv →
          (n : ℕ) (x : Entry) → ((n ≡ k) × (x ≡ e)) ⊎ (slice_get es n ≡ Some x) → EntryEncodes (at b w) α x (cv n)
      at_shows w α field cv atoms s controls n x (inr i) = entry_shows begins w α x (cv n) (h.within n x i) (h.shows w α field cv atoms s controls n x i)
      at_shows w α field cv atoms s controls n x (inl p) =
          let told : Leaf = value (leaf_meaning α) cv (row_term rows terms k) in
          let open_now : EncodesSoFar a es asks first w α cv = record { atoms = atoms; entries = λ m y i. h.shows w α field cv atoms s controls m y i } in
          let is : told ≡ cv k = sym (control_at field α cv controls k row r0 ∙ defined_leaf field k row.class row.role told d) in
          let here : EntryEncodes (at b w) α e (cv k) = subst (EntryEncodes (at b w) α e) is (shows w α cv open_now) in
          let at_n : EntryEncodes (at b w) α e (cv n) = subst (λ m. EntryEncodes (at b w) α e (cv m)) (sym p.0) here in
          subst (λ (z : Entry). EntryEncodes (at b w) α z (cv n)) (sym p.1) at_n

  -- ---- the rows that are needed have their gates

  pub needs_filled : (es : List Entry) (done ids : List ℕ) → ((n : ℕ) (row : Row) → slice_get rows n ≡ Some row → is_defined row.role ≡ false → IsTrue (is_filled (slice_get es n))) →
      AllByRecursion (λ n. IsTrue (is_filled (slice_get es n))) done → AllByRecursion (λ m. (is_known (known rows) m ≡ true) ⊎ IsIn m done) ids → AllByRecursion (λ m. m < length rows → IsTrue (is_filled (slice_get es m))) ids
  needs_filled es done [] given f o = tt
  needs_filled es done (m ∷ ids) given f o = (here o.0, needs_filled es done ids given f o.1)
    where
      here : (is_known (known rows) m ≡ true) ⊎ IsIn m done → m < length rows → IsTrue (is_filled (slice_get es m))
      here (inl k) lt = let found = element_at rows m lt in given m found.0 found.1 (given_undefined found.0.role (sym (known_row rows m found.0 found.1) ∙ k))
      here (inr i) lt = each_in (λ n. IsTrue (is_filled (slice_get es n))) done m f i

  pub all_filled : (es : List Entry) (done ids : List ℕ) → IsOrderOf rows terms ids → ((n : ℕ) (row : Row) → slice_get rows n ≡ Some row → is_defined row.role ≡ false → IsTrue (is_filled (slice_get es n))) →
      AllByRecursion (λ n. IsTrue (is_filled (slice_get es n))) done → ((n : ℕ) → IsIn n ids → IsIn n done) → (n : ℕ) → n < length rows → IsTrue (is_filled (slice_get es n))
  all_filled es done ids o given f covers n lt = let found = element_at rows n lt in by found.0 found.1 (is_defined found.0.role) refl
    where
      undefined : (role : Role) → is_defined role ≡ true → is_given role ≡ false
      undefined (Constant k) d = absurd (grind (arith, d))
      undefined State d = absurd (grind (arith, d))
      undefined (Hardware ids) d = refl
      undefined Defined d = refl

      by : (row : Row) → slice_get rows n ≡ Some row → (b : Bool) → is_defined row.role ≡ b → IsTrue (is_filled (slice_get es n))
      by row r false d = given n row r d
      by row r true d = each_in (λ m. IsTrue (is_filled (slice_get es m))) done n f (covers n (o.whole n (known_row rows n row r ∙ undefined row.role d)))

  -- ---- along the order

  -- the rows of the order before the rest are done: they have their gates
  pub record IsAlong (ids rest : List ℕ) (es : List Entry) : Type 0 where
    pub done : List ℕ
    pub ordered : IsOrdered (needs rows terms) (known rows) done rest
    pub filled : AllByRecursion (λ n. IsTrue (is_filled (slice_get es n))) done
    pub covers : (n : ℕ) → IsIn n ids → IsIn n done ⊎ IsIn n rest

  pub along_start : (ids : List ℕ) (es : List Entry) → IsOrderOf rows terms ids → IsAlong ids ids es
  along_start ids es o = record { done = []; ordered = o.ordered; filled = tt; covers = λ n i. inr i }

  pub along_next : (ids : List ℕ) (k : ℕ) (rest : List ℕ) (es es' : List Entry) → IsAlong ids (k ∷ rest) es → IsTrue (is_filled (slice_get es' k)) →
      ((n : ℕ) → IsTrue (is_filled (slice_get es n)) → IsTrue (is_filled (slice_get es' n))) → IsAlong ids rest es'
  along_next ids k rest es es' h filled kept = record {
    done = k ∷ h.done;
    ordered = h.ordered.1;
    filled = (filled, more h.done h.filled);
    covers = λ n i. next n (h.covers n i);
  }
    where
      more : (xs : List ℕ) → AllByRecursion (λ n. IsTrue (is_filled (slice_get es n))) xs → AllByRecursion (λ n. IsTrue (is_filled (slice_get es' n))) xs
      more [] f = tt
      more (x ∷ xs) f = (kept x f.0, more xs f.1)

      next : (n : ℕ) → IsIn n h.done ⊎ ((n ≡ k) ⊎ IsIn n rest) → ((n ≡ k) ⊎ IsIn n h.done) ⊎ IsIn n rest
      next n (inl i) = inl (inr i)
      next n (inr (inl e)) = inl (inl e)
      next n (inr (inr i)) = inr i

  pub along_needs : (ids : List ℕ) (k : ℕ) (rest : List ℕ) (es : List Entry) → IsAlong ids (k ∷ rest) es →
      ((n : ℕ) (row : Row) → slice_get rows n ≡ Some row → is_defined row.role ≡ false → IsTrue (is_filled (slice_get es n))) →
      (row : Row) → slice_get rows k ≡ Some row → is_defined row.role ≡ true → AllByRecursion (λ m. m < length rows → IsTrue (is_filled (slice_get es m))) (names (row_term rows terms k))
  along_needs ids k rest es h given row r d =
      subst (AllByRecursion (λ m. m < length rows → IsTrue (is_filled (slice_get es m)))) (needs_defined rows terms k row r d)
      (needs_filled es h.done (needs_of (needs rows terms) k) given h.filled h.ordered.0)

  pub along_end : (ids : List ℕ) (es : List Entry) → IsAlong ids [] es → IsOrderOf rows terms ids →
      ((n : ℕ) (row : Row) → slice_get rows n ≡ Some row → is_defined row.role ≡ false → IsTrue (is_filled (slice_get es n))) → (n : ℕ) → n < length rows → IsTrue (is_filled (slice_get es n))
  along_end ids es h o given = all_filled es h.done ids o given h.filled (λ n i. all n (h.covers n i))
    where
      all : (n : ℕ) → IsIn n h.done ⊎ ⊥ → IsIn n h.done
      all n (inl i) = i
      all n (inr i) = absurd i

  pub along_inside : (ids : List ℕ) (i : ℕ) → i < length ids → IsOrderOf rows terms ids → get_or ids i 0 < length rows
  along_inside ids i lt o = unknown_inside rows (get_or ids i 0) (each_at (λ n. is_known (known rows) n ≡ false) ids i (get_or ids i 0) (slice_get-get_or ids i 0 lt) o.unknown)

  -- a row of the order has its gates once they are made
  pub put_filled : (es es' : List Entry) (k : ℕ) → k < length rows → ((n : ℕ) (row : Row) → slice_get rows n ≡ Some row → is_defined row.role ≡ false → IsTrue (is_filled (slice_get es n))) →
      ((row : Row) → slice_get rows k ≡ Some row → is_defined row.role ≡ true → IsTrue (is_filled (slice_get es' k))) →
      ((n : ℕ) → IsTrue (is_filled (slice_get es n)) → IsTrue (is_filled (slice_get es' n))) → IsTrue (is_filled (slice_get es' k))
  put_filled es es' k lt given filled kept = let found = element_at rows k lt in by found.0 found.1 (is_defined found.0.role) refl
    where
      by : (row : Row) → slice_get rows k ≡ Some row → (b : Bool) → is_defined row.role ≡ b → IsTrue (is_filled (slice_get es' k))
      by row r true d = filled row r d
      by row r false d = kept k (given k row r d)

  -- ---- what all entries say

  pub covers_all : (leaves : ℕ → List Leaf) → IsSolution (leaf_rule rows terms) leaves → (net : Gates) (es : List Entry) → IsEncoding rows terms places asks first net es → Covers rows es
  covers_all leaves fixed net es told = record {
    gates = λ n. (at_row n (nat_lt n (length rows)) refl).0;
    picks = λ n. (at_row n (nat_lt n (length rows)) refl).1;
  }
    where
      at_row : (n : ℕ) (b : Bool) → nat_lt n (length rows) ≡ b → (entry_truth (slice_get es n) ≡ (kinds_of_row (slice_get rows n)).truth) × (entry_word (slice_get es n) ≡ (kinds_of_row (slice_get rows n)).word)
      at_row n true e =
          let lt : n < length rows = grind (arith, nat_tests, e) in
          let here = stands_at leaves fixed net es told.filling n lt (told.filled n lt) in
          (here.truth, here.word)
      at_row n false e =
          let le : length rows ≤ n = grind (arith, nat_tests, e) in
          let none = slice_get_past rows n le in
          let no_entry = slice_get_past es n (let z = told.filling.size in omega (arith, le, z)) in (
            ap entry_truth no_entry ∙ sym (ap (λ (o : Option Row). (kinds_of_row o).truth) none),
            ap entry_word no_entry ∙ sym (ap (λ (o : Option Row). (kinds_of_row o).word) none),
          )

pub inside_all : (net : Gates) (es : List Entry) → ((n : ℕ) (e : Entry) → slice_get es n ≡ Some e → EntryWithin (length net.gates) e) → IsInside net es
inside_all net es h = record { gates_in = λ n has. gate n (slice_get es n) refl has; picks_in = λ n has. all n (slice_get es n) refl has }
  where
    gate : (n : ℕ) (o : Option Entry) → slice_get es n ≡ o → IsTrue (entry_truth o) → entry_gate o < length net.gates
    gate n None q t = absurd (grind (arith, t))
    gate n (Some Absent) q t = absurd (grind (arith, t))
    gate n (Some (Truth g)) q t = h n (Truth g) q
    gate n (Some (Picks ps)) q t = absurd (grind (arith, t))

    all : (n : ℕ) (o : Option Entry) → slice_get es n ≡ o → IsTrue (entry_word o) → Within (length net.gates) (entry_picks o)
    all n None q t = absurd (grind (arith, t))
    all n (Some Absent) q t = absurd (grind (arith, t))
    all n (Some (Truth g)) q t = absurd (grind (arith, t))
    all n (Some (Picks ps)) q t = h n (Picks ps) q

pub tells_all : (net : Gates) (es : List Entry) (w : List Bool) (α : Assignment) (cv : ℕ → Leaf) → ((n : ℕ) (e : Entry) → slice_get es n ≡ Some e → EntryEncodes (at net w) α e (cv n)) → EncodesControls net es w α cv
tells_all net es w α cv h = record { truths_are = λ n has. gate n (slice_get es n) refl has; picks_are = λ n has test. pick n test (slice_get es n) refl has }
  where
    gate : (n : ℕ) (o : Option Entry) → slice_get es n ≡ o → IsTrue (entry_truth o) → truth net (entry_gate o) w ≡ leaf_holds α (cv n)
    gate n None q t = absurd (grind (arith, t))
    gate n (Some Absent) q t = absurd (grind (arith, t))
    gate n (Some (Truth g)) q t = h n (Truth g) q
    gate n (Some (Picks ps)) q t = absurd (grind (arith, t))

    pick : (n : ℕ) (test : Leaf → Bool) (o : Option Entry) → slice_get es n ≡ o → IsTrue (entry_word o) → some_pick net w test (entry_picks o) ≡ test (cv n)
    pick n test None q t = absurd (grind (arith, t))
    pick n test (Some Absent) q t = absurd (grind (arith, t))
    pick n test (Some (Truth g)) q t = absurd (grind (arith, t))
    pick n test (Some (Picks ps)) q t = chosen (at net w) test (cv n) ps (h n (Picks ps) q)

-- a design has only one list of atoms
pub one_list : (rows : List Row) (terms : List Term) (ids : List ℕ) → IsOrderOf rows terms ids → (xs ys : List Atom) → AreAtoms rows terms xs → AreAtoms rows terms ys → xs ≡ ys
one_list rows terms ids o xs ys x y =
    let found = leaves_exist rows terms ids o in
    x.are found.0 found.1 ∙ sym (y.are found.0 found.1)
