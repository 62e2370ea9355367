-- Walks, step by step, and why they stay the same when nodes are appended.
use Rattle.std.proofs.Common.{◌≡◌, ◌≢◌, ◌+◌, ◌-◌, ◌<◌, ◌≤◌, ℕ, zero, suc, List, [], ◌∷◌, ◌++◌, length, get_or, refl, sym, ap, subst, ◌∙◌, arith}
use Rattle.std.proofs.lemmas.Bool.{le-leb, lt-leb}
use Rattle.std.proofs.lemmas.Option.{slice_get-get_or, slice_get_within}
use Rattle.std.specs.Prelude.{slice_get, Some}
use Rattle.std.proofs.lemmas.List.{get_or_default}
use Rattle.hcl_types.specs.declared.term.Term.{Term}
use Rattle.hcl_types.specs.declared.term.Term.TheVariants.{Num}
use Rattle.hcl_types.specs.Tables.{term_at}
use Rattle.hcl_types.specs.Terms.{at, value, word_meaning}
use Rattle.hcl_compile.specs.declared.node.TheConstants.{ROWS}
use Rattle.hcl_compile.specs.declared.node.Ask.{Ask}
use Rattle.hcl_compile.specs.declared.node.Ask.TheVariants.{Code, Same, Holds, Value}
use Rattle.hcl_compile.specs.declared.node.Node.{Node}
use Rattle.hcl_compile.specs.Walks.{Ends, at_row, at_value, at_node, HasAnswer, answer, steps, yes_or_no}

steps_row : (target : ℕ) → ROWS ≤ target → steps target ≡ 0
steps_row target h = rw (le-leb ROWS target h) refl

steps_node : (target : ℕ) → target < ROWS → steps target ≡ target + 1
steps_node target h = rw (lt-leb ROWS target h) refl

some_node : (x y : Node) → Some x ≡ Some y → x ≡ y
some_node x y e = cc

same_value : (j k : ℕ) → Value j ≡ Value k → j ≡ k
same_value j k e = cc

module _ (env : ℕ → ℕ) (rows : ℕ) (terms : List Term) (nodes : List Node) where
  pub inside : (target word : ℕ) → Ends env rows terms nodes target word → steps target ≤ length nodes
  inside target word (at_row _ _ low here is) = omega (arith, steps_row target low)
  inside target word (at_value _ _ k node low here asks within is) = omega (arith, steps_node target low, slice_get_within nodes target node here)
  inside target word (at_node _ _ node low here has near rest) = omega (arith, steps_node target low, slice_get_within nodes target node here)

  pub row_end : (target word : ℕ) → ROWS ≤ target → Ends env rows terms nodes target word → (target - ROWS < rows) × (word ≡ env (target - ROWS))
  row_end target word high (at_row _ _ low here is) = (here, is)
  row_end target word high (at_value _ _ k node low here asks within is) = absurd (omega arith)
  row_end target word high (at_node _ _ node low here has near rest) = absurd (omega arith)

  pub value_end : (target word k : ℕ) (node : Node) → target < ROWS → slice_get nodes target ≡ Some node → node.ask ≡ Value k → Ends env rows terms nodes target word
      → (k < length terms) × (word ≡ value word_meaning env (term_at terms k))
  value_end target word k node high found asked (at_row _ _ low here is) = absurd (omega arith)
  value_end target word k node high found asked (at_value _ _ j other low here asks within is) =
      let same : j ≡ k = same_value j k (sym asks ∙ ap (λ (n : Node). n.ask) (some_node other node (sym here ∙ found)) ∙ asked) in
      subst (λ x. (x < length terms) × (word ≡ value word_meaning env (term_at terms x))) same (within, is)
  value_end target word k node high found asked (at_node _ _ other low here has near rest) =
      absurd (subst (HasAnswer rows terms) (ap (λ (n : Node). n.ask) (some_node other node (sym here ∙ found)) ∙ asked) has)

  pub question_end : (target word : ℕ) (node : Node) → target < ROWS → slice_get nodes target ≡ Some node → ((k : ℕ) → node.ask ≢ Value k) → Ends env rows terms nodes target word
      → HasAnswer rows terms node.ask × (steps (at node.next (answer env terms node.ask)) ≤ target) × Ends env rows terms nodes (at node.next (answer env terms node.ask)) word
  question_end target word node high found asked (at_row _ _ low here is) = absurd (omega arith)
  question_end target word node high found asked (at_value _ _ j other low here asks within is) =
      absurd (asked j (sym (ap (λ (n : Node). n.ask) (some_node other node (sym here ∙ found))) ∙ asks))
  question_end target word node high found asked (at_node _ _ other low here has near rest) =
      subst (λ (n : Node). HasAnswer rows terms n.ask × (steps (at n.next (answer env terms n.ask)) ≤ target) × Ends env rows terms nodes (at n.next (answer env terms n.ask)) word)
      (some_node other node (sym here ∙ found)) (has, near, rest)

-- ---- as nodes and terms are appended

abbrev pub KeepsNodes : List Node → List Node → Type 0
KeepsNodes nodes more = (k : ℕ) (node : Node) → slice_get nodes k ≡ Some node → slice_get more k ≡ Some node

abbrev pub KeepsTerms : List Term → List Term → Type 0
KeepsTerms terms more = (k : ℕ) → k < length terms → (k < length more) × (term_at more k ≡ term_at terms k)

same_answer : (env : ℕ → ℕ) (rows : ℕ) (terms more : List Term) (ask : Ask) → KeepsTerms terms more → HasAnswer rows terms ask → answer env more ask ≡ answer env terms ask
same_answer env rows terms more (Code name) keeps has = refl
same_answer env rows terms more (Same left right) keeps has = refl
same_answer env rows terms more (Holds k) keeps has = ap (λ t. yes_or_no (word_meaning.holds (value word_meaning env t))) (keeps k has).1
same_answer env rows terms more (Value k) keeps has = refl

still_answers : (rows : ℕ) (terms more : List Term) (ask : Ask) → KeepsTerms terms more → HasAnswer rows terms ask → HasAnswer rows more ask
still_answers rows terms more (Code name) keeps has = has
still_answers rows terms more (Same left right) keeps has = has
still_answers rows terms more (Holds k) keeps has = (keeps k has).0
still_answers rows terms more (Value k) keeps has = has

pub kept : (env : ℕ → ℕ) (rows : ℕ) (terms more : List Term) (nodes longer : List Node) (target word : ℕ) → KeepsTerms terms more → KeepsNodes nodes longer
    → Ends env rows terms nodes target word → Ends env rows more longer target word
kept env rows terms more nodes longer target word t n (at_row _ _ low here is) = at_row target word low here is
kept env rows terms more nodes longer target word t n (at_value _ _ k node low here asks within is) =
    at_value target word k node low (n target node here) asks (t k within).0 (is ∙ ap (value word_meaning env) (sym (t k within).1))
kept env rows terms more nodes longer target word t n (at_node _ _ node low here has near rest) =
    let same : answer env more node.ask ≡ answer env terms node.ask = same_answer env rows terms more node.ask t has in
    at_node target word node low (n target node here) (still_answers rows terms more node.ask t has)
    (subst (λ x. steps (at node.next x) ≤ target) (sym same) near)
    (subst (λ x. Ends env rows more longer (at node.next x) word) (sym same)
    (kept env rows terms more nodes longer (at node.next (answer env terms node.ask)) word t n rest))

pub append_gets : {A : Type 0} (xs ys : List A) (k : ℕ) (x : A) → slice_get xs k ≡ Some x → slice_get (xs ++ ys) k ≡ Some x
append_gets [] ys k x e = absurd (cc)
append_gets (y ∷ xs) ys zero x e = e
append_gets (y ∷ xs) ys (suc k) x e = append_gets xs ys k x e

-- ---- a walk from a target that has reached a place: it ends, and with the same word as from its target

pub record IsUnderWay (env : ℕ → ℕ) (rows : ℕ) (terms : List Term) (nodes : List Node) (target place : ℕ) : Type 0 where
  pub ends : (word : ℕ) × Ends env rows terms nodes place word
  pub same : (word : ℕ) → Ends env rows terms nodes target word → Ends env rows terms nodes place word

-- the node that a read past the last one yields
abbrev pub other : Node
other = record { ask = Code 0; next = [] }

module _ (env : ℕ → ℕ) (rows : ℕ) (terms : List Term) (nodes : List Node) (place : ℕ) (low : place < ROWS) where
  pub here : (word : ℕ) × Ends env rows terms nodes place word → place < length nodes
  here ends = omega (arith, inside env rows terms nodes place ends.0 ends.1, steps_node place low)

  found : (word : ℕ) × Ends env rows terms nodes place word → slice_get nodes place ≡ Some (get_or nodes place other)
  found ends = slice_get-get_or nodes place other (here ends)

  pub walk_has : (word : ℕ) × Ends env rows terms nodes place word → ((k : ℕ) → (get_or nodes place other).ask ≢ Value k) → HasAnswer rows terms (get_or nodes place other).ask
  walk_has ends asks = (question_end env rows terms nodes place ends.0 (get_or nodes place other) low (found ends) asks ends.1).0

  pub walk_nearer : (word : ℕ) × Ends env rows terms nodes place word → ((k : ℕ) → (get_or nodes place other).ask ≢ Value k)
      → steps (at (get_or nodes place other).next (answer env terms (get_or nodes place other).ask)) < steps place
  walk_nearer ends asks = rw (steps_node place low) (omega (arith, (question_end env rows terms nodes place ends.0 (get_or nodes place other) low (found ends) asks ends.1).1))

  pub walk_next : (target : ℕ) → (word : ℕ) × Ends env rows terms nodes place word → ((word : ℕ) → Ends env rows terms nodes target word → Ends env rows terms nodes place word)
      → ((k : ℕ) → (get_or nodes place other).ask ≢ Value k)
      → IsUnderWay env rows terms nodes target (at (get_or nodes place other).next (answer env terms (get_or nodes place other).ask))
  walk_next target ends same asks = record {
    ends = (ends.0, (question_end env rows terms nodes place ends.0 (get_or nodes place other) low (found ends) asks ends.1).2);
    same = λ word e. (question_end env rows terms nodes place word (get_or nodes place other) low (found ends) asks (same word e)).2;
  }

  pub walk_value : (k word : ℕ) (t : Term) → (get_or nodes place other).ask ≡ Value k → t ≡ get_or terms k t → Ends env rows terms nodes place word → value word_meaning env t ≡ word
  walk_value k word t asks is ends =
      let last = value_end env rows terms nodes place word k (get_or nodes place other) low (found (word, ends)) asks ends in
      ap (value word_meaning env) (is ∙ get_or_default terms k t (Num 0) last.0) ∙ sym last.1
