-- Nodes that are appended: where they lead.
use Rattle.std.proofs.Common.{◌≡◌, ◌+◌, ◌<◌, ◌≤◌, nat_eq, nat_lt, ℕ, Bool, true, false, List, [], ◌∷◌, ◌++◌, inl, inr, length, set, refl, sym, ap, subst, ◌∙◌, arith}
use Rattle.std.proofs.lemmas.Bool.{cases_lt, cond_both, ltb-true, ltb-false, ne_eqb}
use Rattle.std.proofs.lemmas.List.{append-nil, get_or_append_left, get_or_at, get_or-set_same, get_or-set_other, length-append, length-set}
use Rattle.std.proofs.lemmas.Option.{slice_get-get_or}
use Rattle.std.specs.Prelude.{slice_get, Some}
use Rattle.hcl_types.specs.declared.term.Term.{Term}
use Rattle.hcl_types.specs.declared.term.Term.TheVariants.{Num}
use Rattle.hcl_types.specs.Tables.{term_at}
use Rattle.hcl_types.specs.Terms.{at, value, word_meaning}
use Rattle.hcl_compile.specs.declared.node.TheConstants.{ROWS}
use Rattle.hcl_compile.specs.declared.node.Ask.TheVariants.{Code, Same, Holds, Value}
use Rattle.hcl_compile.specs.declared.node.Node.{Node}
use Rattle.hcl_compile.specs.declared.decisions.Decisions.{Decisions}
use Rattle.hcl_compile.specs.declared.targets.Targets.{Targets}
use Rattle.hcl_compile.specs.Making.{Comes, Decides, IsAdded, IsTest, IsValue, Keeps, chosen}
use Rattle.hcl_compile.specs.Walks.{at_value, at_node, HasAnswer, answer, code_answer, yes_or_no}
use Rattle.hcl_compile.proofs.Walked.{append_gets, inside, kept, question_end}

-- ---- earlier walks end with the same words

pub keeps_all : (d : Decisions) → Keeps d d
keeps_all d env rows target word c = c

pub keeps_both : (a b c : Decisions) → Keeps a b → Keeps b c → Keeps a c
keeps_both a b c h i env rows target word w = i env rows target word (h env rows target word w)

pub keeps_appended : (old new : Decisions) (nodes : List Node) (terms : List Term) → new.nodes.items ≡ old.nodes.items ++ nodes → new.terms.items ≡ old.terms.items ++ terms → Keeps old new
keeps_appended old new nodes terms n t env rows target word c =
    kept env rows old.terms.items new.terms.items old.nodes.items new.nodes.items target word
    (λ k h. (omega (arith, ap length t, length-append old.terms.items terms), ap (λ xs. term_at xs k) t ∙ left old.terms.items terms k h))
    (λ k node e. subst (λ xs. slice_get xs k ≡ Some node) (sym n) (append_gets old.nodes.items nodes k node e)) c
  where
    left : (xs ys : List Term) (k : ℕ) → k < length xs → term_at (xs ++ ys) k ≡ term_at xs k
    left xs ys k h = get_or_append_left xs ys (Num 0) k h

pub keeps_same_terms : (old new : Decisions) (nodes : List Node) → new.nodes.items ≡ old.nodes.items ++ nodes → new.terms.items ≡ old.terms.items → Keeps old new
keeps_same_terms old new nodes n t = keeps_appended old new nodes [] n (t ∙ sym (append-nil old.terms.items))

pub keeps_same_nodes : (old new : Decisions) (terms : List Term) → new.nodes.items ≡ old.nodes.items → new.terms.items ≡ old.terms.items ++ terms → Keeps old new
keeps_same_nodes old new terms n t = keeps_appended old new [] terms (n ∙ sym (append-nil old.nodes.items)) t

-- ---- a node that is appended

module _ (node : Node) (old new : Decisions) (place : ℕ) (added : IsAdded node old new place) where
  pub added_keeps : Keeps old new
  added_keeps = keeps_same_terms old new (node ∷ []) added.2 added.3

  pub added_found : slice_get new.nodes.items place ≡ Some node
  added_found = subst (λ xs. slice_get xs place ≡ Some node) (sym added.2) (found (sym added.0))
    where
      found : length old.nodes.items ≡ place → slice_get (old.nodes.items ++ node ∷ []) place ≡ Some node
      found e = slice_get-get_or (old.nodes.items ++ node ∷ []) place node (omega (arith, length-append old.nodes.items (node ∷ []))) ∙ ap (λ x. Some x) (get_or_at old.nodes.items node [] node place e)

  -- a walk from it goes on to the target of its answer
  pub added_leads : (env : ℕ → ℕ) (rows word target : ℕ) → HasAnswer rows new.terms.items node.ask → at node.next (answer env new.terms.items node.ask) ≡ target
      → Comes env rows old target word → Comes env rows new place word
  added_leads env rows word target has is c =
      at_node place word node added.1 added_found has
      (rw is (omega (arith, added.0, inside env rows old.terms.items old.nodes.items target word c)))
      (rw is (added_keeps env rows target word c))

  pub added_value : (env : ℕ → ℕ) (rows k : ℕ) → node.ask ≡ Value k → k < length new.terms.items → Comes env rows new place (value word_meaning env (term_at new.terms.items k))
  added_value env rows k asks within = at_value place (value word_meaning env (term_at new.terms.items k)) k node added.1 added_found asks within refl

-- where a yes-no question leads
yes_no_target : (to : Targets) (next : List ℕ) (b : Bool) → at (to.hit ∷ to.miss ∷ next) (yes_or_no b) ≡ chosen to b
yes_no_target to next true = refl
yes_no_target to next false = refl

pub put_same_decides : (left right : ℕ) (to : Targets) (old new : Decisions) (place : ℕ) (next : List ℕ) → IsAdded (record { ask = Same left right; next = to.hit ∷ to.miss ∷ next }) old new place
    → (constants : List ℕ) → Decides constants (left ∷ right ∷ []) (λ env. nat_eq (env left) (env right)) old new to place
put_same_decides left right to old new place next added constants = record {
  keeps = added_keeps (record { ask = Same left right; next = to.hit ∷ to.miss ∷ next }) old new place added;
  leads = λ env rows word begins within c.
      added_leads (record { ask = Same left right; next = to.hit ∷ to.miss ∷ next }) old new place added env rows word (chosen to (nat_eq (env left) (env right))) (within.0, within.1.0)
      (yes_no_target to next (nat_eq (env left) (env right))) c;
}

-- ---- nodes that evaluate a whole term

term_added : (old new : List Term) (t : Term) (k : ℕ) → k ≡ length old → new ≡ old ++ t ∷ [] → (k < length new) × (term_at new k ≡ t)
term_added old new t k e n = (omega (arith, e, ap length n, length-append old (t ∷ [])), ap (λ xs. term_at xs k) n ∙ get_or_at old t [] (Num 0) k (sym e))

pub put_term_decides : (t : Term) (to : Targets) (old mid new : Decisions) (k place : ℕ) (next : List ℕ)
    → (k ≡ length old.terms.items) × (mid.terms.items ≡ old.terms.items ++ t ∷ []) × (mid.nodes.items ≡ old.nodes.items)
    → IsAdded (record { ask = Holds k; next = to.hit ∷ to.miss ∷ next }) mid new place → (constants : List ℕ) → IsTest constants t old new to place
put_term_decides t to old mid new k place next grown added constants = record {
  keeps = keeps_both old mid new before (added_keeps (record { ask = Holds k; next = to.hit ∷ to.miss ∷ next }) mid new place added);
  leads = λ env rows word begins within c.
      added_leads (record { ask = Holds k; next = to.hit ∷ to.miss ∷ next }) mid new place added env rows word (chosen to (word_meaning.holds (value word_meaning env t))) here.0
      (ap (λ x. at (to.hit ∷ to.miss ∷ next) (yes_or_no (word_meaning.holds (value word_meaning env x)))) here.1 ∙ yes_no_target to next (word_meaning.holds (value word_meaning env t)))
      (before env rows (chosen to (word_meaning.holds (value word_meaning env t))) word c);
}
  where
    before : Keeps old mid
    before = keeps_same_nodes old mid (t ∷ []) grown.2 grown.1

    here : (k < length new.terms.items) × (term_at new.terms.items k ≡ t)
    here = term_added old.terms.items new.terms.items t k grown.0 (added.3 ∙ grown.1)

pub put_term_ends : (t : Term) (old mid new : Decisions) (k place : ℕ) (next : List ℕ)
    → (k ≡ length old.terms.items) × (mid.terms.items ≡ old.terms.items ++ t ∷ []) × (mid.nodes.items ≡ old.nodes.items)
    → IsAdded (record { ask = Value k; next = next }) mid new place → (constants : List ℕ) → IsValue constants t old new place
put_term_ends t old mid new k place next grown added constants = record {
  keeps = keeps_both old mid new (keeps_same_nodes old mid (t ∷ []) grown.2 grown.1) (added_keeps (record { ask = Value k; next = next }) mid new place added);
  ends = λ env rows begins within.
      subst (λ x. Comes env rows new place (value word_meaning env x)) here.1
      (added_value (record { ask = Value k; next = next }) mid new place added env rows k refl here.0);
}
  where
    here : (k < length new.terms.items) × (term_at new.terms.items k ≡ t)
    here = term_added old.terms.items new.terms.items t k grown.0 (added.3 ∙ grown.1)

-- ---- nodes that ask for a code

-- if the row gives this answer, a walk from the place ends as one from the target does
abbrev pub Passes : Decisions → ℕ → ℕ → ℕ → ℕ → Type 0
Passes d name answer target place = (env : ℕ → ℕ) (rows word : ℕ) → code_answer (env name) ≡ answer → Comes env rows d target word → Comes env rows d place word

abbrev pub PassesAll : Decisions → ℕ → ℕ → Targets → List ℕ → ℕ → Type 0
PassesAll d name code to next upto = (length next ≡ 17) × ((k : ℕ) → k < upto → Passes d name k (chosen to (nat_eq k code)) (at next k))

pub passes_more : (d : Decisions) (name code : ℕ) (to : Targets) (next more : List ℕ) (k place : ℕ) → k < 17 → PassesAll d name code to next k → Passes d name k (chosen to (nat_eq k code)) place
    → more ≡ set next k place → PassesAll d name code to more (k + 1)
passes_more d name code to next more k place low all here is = subst (λ xs. PassesAll d name code to xs (k + 1)) (sym is) (length-set next k place ∙ all.0, each)
  where
    each : (j : ℕ) → j < k + 1 → Passes d name j (chosen to (nat_eq j code)) (at (set next k place) j)
    each j h = elim (cases_lt j k) [
      | inl lt ↦ subst (Passes d name j (chosen to (nat_eq j code))) (sym (get_or-set_other next k j place 0 (λ e. omega arith))) (all.1 j lt)
      | inr le ↦ at_last (omega arith)
    ]
      where
        at_last : k ≡ j → Passes d name j (chosen to (nat_eq j code)) (at (set next k place) j)
        at_last e = subst (λ x. Passes d name x (chosen to (nat_eq x code)) (at (set next k place) x)) e
            (subst (Passes d name k (chosen to (nat_eq k code))) (sym (get_or-set_same next k place 0 (omega (arith, all.0)))) here)

pub code_small : (code : ℕ) → code_answer code < 17
code_small code = cond_both (nat_lt code 16) code 16 (λ x. x < 17) (λ e. omega (arith, ltb-true code 16 e)) (λ _. omega arith)

same_code : (x code : ℕ) → code < 16 → nat_eq (code_answer x) code ≡ nat_eq x code
same_code x code low = cond_both (nat_lt x 16) x 16 (λ a. nat_eq a code ≡ nat_eq x code) (λ e. refl)
    (λ e. ne_eqb 16 code (λ f. omega arith) ∙ sym (ne_eqb x code (λ f. omega (arith, ltb-false x 16 e))))

pub put_code_decides : (name code : ℕ) (to : Targets) (old new : Decisions) (place : ℕ) (next : List ℕ) (upto : ℕ) → code < 16 → PassesAll old name code to next upto → 17 ≤ upto
    → IsAdded (record { ask = Code name; next = next }) old new place → (constants : List ℕ) → Decides constants (name ∷ []) (λ env. nat_eq (env name) code) old new to place
put_code_decides name code to old new place next upto low all whole added constants = record {
  keeps = added_keeps (record { ask = Code name; next = next }) old new place added;
  leads = λ env rows word begins within c.
      added_leads (record { ask = Code name; next = next }) old new place added env rows word (at next (code_answer (env name))) within.0 refl
      (all.1 (code_answer (env name)) (omega (arith, code_small (env name))) env rows word refl
      (subst (λ b. Comes env rows old (chosen to b) word) (sym (same_code (env name) code low)) c));
}

-- skipping a node that asks for the same code, whose answer is known
pub past_node : (d : Decisions) (name answer target : ℕ) (node : Node) → target < ROWS → slice_get d.nodes.items target ≡ Some node → node.ask ≡ Code name
    → Passes d name answer target (at node.next answer)
past_node d name answer' target node low found asks env rows word is c =
    let rest = question_end env rows d.terms.items d.nodes.items target word node low found (λ k e. not_value k (sym asks ∙ e)) c in
    subst (λ x. Comes env rows d (at node.next x) word) (ap (answer env d.terms.items) asks ∙ is) rest.2
  where
    not_value : (k : ℕ) → Code name ≡ Value k → ⊥
    not_value k e = cc
