-- One more gate of a graph.
use Rattle.std.proofs.Common.{◌≡◌, ◌⊎◌, inl, inr, ℕ, ◌+◌, ◌*◌, ◌/◌, ◌%◌, ◌<◌, ◌≤◌, Bool, true, false, not, ◌&&◌, ◌==◌, if◌then◌else◌, List, [], ◌∷◌, ◌++◌, length, get_or, take, slice_get, Some, refl, sym, ap, ◌∙◌, subst, arith}
use Rattle.std.proofs.lemmas.Bool.{cases_lt}
use Rattle.std.proofs.lemmas.Bool.Decides.{nat_tests}
use Rattle.std.proofs.lemmas.List.{get_or_append_left, get_or_push, length_push, length-take}
use Rattle.nets.specs.Nets.{values, gate_value, ReadsEarlier}
use Rattle.nets.specs.declared.net.Gate.{Gate}
use Rattle.nets.specs.declared.net.Gate.TheVariants.{Const, Var, Not, And}
use Rattle.nets.proofs.Truths.{values_more, values_length}
use Rattle.aiger_out.specs.declared.graph.And as code
use Rattle.aiger_out.specs.Values.{literal_value}
use Rattle.aiger_out.specs.Graphs.{and_at, IsGraphSolution, IsLiteralOf, IsGraphOf}

-- the literal of a variable that isn't negated
even_literal : (env : ℕ → Bool) (n : ℕ) → literal_value env (2 * n) ≡ env n
even_literal env n =
    let odd : ((2 * n) % 2 == 1) ≡ false = grind (arith, nat_tests) in
    ap (λ (b : Bool). if b then not (env (2 * n / 2)) else env (2 * n / 2)) odd ∙ ap env (omega arith)

-- earlier equations still hold
pub fewer : (vars : ℕ) (bits : List Bool) (ands : List code.And) (last : code.And) (env : ℕ → Bool) → IsGraphSolution vars bits (ands ++ last ∷ []) env → IsGraphSolution vars bits ands env
fewer vars bits ands last env s = record {
  constant = s.constant;
  inputs = s.inputs;
  joins = λ k h.
      let more : k < length (ands ++ last ∷ []) = omega (arith, h, length_push ands last) in
      s.joins k more
      ∙ ap (λ (x : code.And). literal_value env x.first && literal_value env x.second) (get_or_append_left ands (last ∷ []) (record { first = 0; second = 0 }) k h);
}

-- the truths of one more gate
module _ (vars : ℕ) (gates : List Gate) (i : ℕ) (gate : Gate) (is : slice_get gates i ≡ Some gate) (inside : i < length gates) where
  abbrev front : List Gate
  front = take i gates

  truths : List Bool → List Bool
  truths bits = values bits [] (take i gates)

  front_size : length (take i gates) ≡ i
  front_size = omega (arith, length-take i gates, inside)

  truths_size : (bits : List Bool) → length (values bits [] (take i gates)) ≡ i
  truths_size bits = omega (arith, values_length bits [] (take i gates), front_size)

  old_truth : (bits : List Bool) (g : ℕ) → g < i → get_or (values bits [] (take (i + 1) gates)) g false ≡ get_or (values bits [] (take i gates)) g false
  old_truth bits g h =
      ap (λ (xs : List Bool). get_or xs g false) (values_more bits gates i gate is inside)
      ∙ get_or_append_left (values bits [] (take i gates)) (gate_value bits (values bits [] (take i gates)) gate ∷ []) false g (omega (arith, h, truths_size bits))

  new_truth : (bits : List Bool) → get_or (values bits [] (take (i + 1) gates)) i false ≡ gate_value bits (values bits [] (take i gates)) gate
  new_truth bits =
      ap (λ (xs : List Bool). get_or xs i false) (values_more bits gates i gate is inside)
      ∙ get_or_push (values bits [] (take i gates)) (gate_value bits (values bits [] (take i gates)) gate) false i (truths_size bits)

  -- what a literal for the new gate has to be
  record Fits (literals : List ℕ) (old new : List code.And) (x : ℕ) : Type 0 where
    earlier : length old ≤ length new
    few : length new ≤ length old + 1
    kept : (k : ℕ) → k < length old → and_at new k ≡ and_at old k
    solves : (bits : List Bool) (env : ℕ → Bool) → IsGraphSolution vars bits new env → IsGraphSolution vars bits old env
    within : x / 2 ≤ vars + length new
    first : (k : ℕ) → length old ≤ k → k < length new → (and_at new k).first / 2 ≤ vars + k
    second : (k : ℕ) → length old ≤ k → k < length new → (and_at new k).second / 2 ≤ vars + k
    value : (bits : List Bool) (env : ℕ → Bool) → IsGraphSolution vars bits new env → literal_value env x ≡ gate_value bits (values bits [] (take i gates)) gate

  grown : (literals : List ℕ) (old new : List code.And) (x : ℕ) → IsGraphOf vars (take i gates) literals old → Fits literals old new x
      → IsGraphOf vars (take (i + 1) gates) (literals ++ x ∷ []) new
  grown literals old new x g f = record {
    size = omega (arith, length_push literals x, g.size, front_size, length-take (i + 1) gates, inside);
    few = omega (arith, f.few, g.few, front_size, length-take (i + 1) gates, inside);
    within = λ k h. within_by k h (cases_lt k (length literals));
    first = λ k h. first_by k h (cases_lt k (length old));
    second = λ k h. second_by k h (cases_lt k (length old));
    values_are = λ bits env s k h. value_by bits env s k h (cases_lt k (length literals));
  }
    where
      count : length literals ≡ i
      count = g.size ∙ front_size

      last : (k : ℕ) → k < length (literals ++ x ∷ []) → length literals ≤ k → k ≡ length literals
      last k h le = omega (arith, h, le, length_push literals x)

      within_by : (k : ℕ) → k < length (literals ++ x ∷ []) → (k < length literals) ⊎ (length literals ≤ k) → get_or (literals ++ x ∷ []) k 0 / 2 ≤ vars + length new
      within_by k h (inl low) = omega (arith, ap (λ n. n / 2) (get_or_append_left literals (x ∷ []) 0 k low), g.within k low, f.earlier)
      within_by k h (inr le) = omega (arith, ap (λ n. n / 2) (get_or_push literals x 0 k (sym (last k h le))), f.within)

      first_by : (k : ℕ) → k < length new → (k < length old) ⊎ (length old ≤ k) → (and_at new k).first / 2 ≤ vars + k
      first_by k h (inl low) = omega (arith, ap (λ (a : code.And). a.first / 2) (f.kept k low), g.first k low)
      first_by k h (inr le) = f.first k le h

      second_by : (k : ℕ) → k < length new → (k < length old) ⊎ (length old ≤ k) → (and_at new k).second / 2 ≤ vars + k
      second_by k h (inl low) = omega (arith, ap (λ (a : code.And). a.second / 2) (f.kept k low), g.second k low)
      second_by k h (inr le) = f.second k le h

      value_by : (bits : List Bool) (env : ℕ → Bool) → IsGraphSolution vars bits new env → (k : ℕ) → k < length (literals ++ x ∷ []) → (k < length literals) ⊎ (length literals ≤ k)
          → literal_value env (get_or (literals ++ x ∷ []) k 0) ≡ get_or (values bits [] (take (i + 1) gates)) k false
      value_by bits env s k h (inl low) =
          ap (literal_value env) (get_or_append_left literals (x ∷ []) 0 k low)
          ∙ (g.values_are bits env (f.solves bits env s) k low ∙ sym (old_truth bits k (omega (arith, low, count))))
      value_by bits env s k h (inr le) =
          let e : k ≡ i = last k h le ∙ count in
          ap (literal_value env) (get_or_push literals x 0 k (sym (last k h le)))
          ∙ (f.value bits env s ∙ (sym (new_truth bits) ∙ ap (λ (m : ℕ). get_or (values bits [] (take (i + 1) gates)) m false) (sym e)))

  -- a literal that needs no AND
  plain : (literals : List ℕ) (old new : List code.And) (x : ℕ) → new ≡ old → x / 2 ≤ vars + length old
      → ((bits : List Bool) (env : ℕ → Bool) → IsGraphSolution vars bits old env → literal_value env x ≡ gate_value bits (values bits [] (take i gates)) gate)
      → Fits literals old new x
  plain literals old new x e small v =
      subst (λ (xs : List code.And). Fits literals old xs x) (sym e)
      (record {
        earlier = omega arith;
        few = omega arith;
        kept = λ k h. refl;
        solves = λ bits env s. s;
        within = small;
        first = λ k le h. absurd (omega (arith, le, h));
        second = λ k le h. absurd (omega (arith, le, h));
        value = v;
      })

-- a conjunction has an AND of its own
joined : (vars : ℕ) (gates : List Gate) (i a b : ℕ) (is : slice_get gates i ≡ Some (And a b)) (inside : i < length gates) (literals : List ℕ) (old : List code.And)
    → IsGraphOf vars (take i gates) literals old → a < length literals → b < length literals
    → Fits vars gates i (And a b) is inside literals old (old ++ record { first = get_or literals a 0; second = get_or literals b 0 } ∷ []) (2 * (vars + (length old + 1)))
joined vars gates i a b is inside literals old g ha hb = record {
  earlier = omega (arith, more);
  few = omega (arith, more);
  kept = λ k h. get_or_append_left old (last ∷ []) (record { first = 0; second = 0 }) k h;
  solves = λ bits env s. fewer vars bits old last env s;
  within = omega (arith, more);
  first = λ k le h. omega (arith, ap (λ (x : code.And). x.first / 2) (there k (at k le h)), g.within a ha, le);
  second = λ k le h. omega (arith, ap (λ (x : code.And). x.second / 2) (there k (at k le h)), g.within b hb, le);
  value = λ bits env s.
      let e : IsGraphSolution vars bits old env = fewer vars bits old last env s in
      even_literal env (vars + (length old + 1))
      ∙ (s.joins (length old) (omega (arith, more))
      ∙ (ap (λ (x : code.And). literal_value env x.first && literal_value env x.second) (there (length old) refl)
      ∙ (ap (λ (t : Bool). t && literal_value env (get_or literals b 0)) (g.values_are bits env e a ha)
      ∙ ap (λ (t : Bool). get_or (values bits [] (take i gates)) a false && t) (g.values_are bits env e b hb))));
}
  where
    last : code.And
    last = record { first = get_or literals a 0; second = get_or literals b 0 }

    more : length (old ++ last ∷ []) ≡ length old + 1
    more = length_push old last

    at : (k : ℕ) → length old ≤ k → k < length (old ++ last ∷ []) → k ≡ length old
    at k le h = omega (arith, le, h, more)

    there : (k : ℕ) → k ≡ length old → and_at (old ++ last ∷ []) k ≡ last
    there k e = get_or_push old last (record { first = 0; second = 0 }) k (sym e)

pub graph_more : (vars : ℕ) (gates : List Gate) (i : ℕ) (gate : Gate) (literals : List ℕ) (old new : List code.And) (x : ℕ) → slice_get gates i ≡ Some gate → i < length gates
    → IsGraphOf vars (take i gates) literals old → ReadsEarlier vars (length literals) gate → IsLiteralOf vars gate literals old new x
    → IsGraphOf vars (take (i + 1) gates) (literals ++ x ∷ []) new
graph_more vars gates i (Const true) literals old new x is h g r l =
    grown vars gates i (Const true) is h literals old new x g
    (plain vars gates i (Const true) is h literals old new x l.1 (omega (arith, l.0)) (λ bits env s. ap (literal_value env) l.0 ∙ ap not s.constant))
graph_more vars gates i (Const false) literals old new x is h g r l =
    grown vars gates i (Const false) is h literals old new x g
    (plain vars gates i (Const false) is h literals old new x l.1 (omega (arith, l.0)) (λ bits env s. ap (literal_value env) l.0 ∙ s.constant))
graph_more vars gates i (Var v) literals old new x is h g r l =
    grown vars gates i (Var v) is h literals old new x g
    (plain vars gates i (Var v) is h literals old new x l.1 (omega (arith, l.0, r.variable v refl))
    (λ bits env s. ap (literal_value env) l.0 ∙ (even_literal env (v + 1) ∙ s.inputs v (r.variable v refl))))
graph_more vars gates i (Not a) literals old new x is h g r l =
    grown vars gates i (Not a) is h literals old new x g
    (plain vars gates i (Not a) is h literals old new x l.2 (omega (arith, l.1, g.within a (r.inverted a refl)))
    (λ bits env s. l.0 env ∙ ap not (g.values_are bits env s a (r.inverted a refl))))
graph_more vars gates i (And a b) literals old new x is h g r l =
    grown vars gates i (And a b) is h literals old new x g
    (subst (λ (xs : List code.And). Fits vars gates i (And a b) is h literals old xs x) (sym l.1)
    (subst (Fits vars gates i (And a b) is h literals old (old ++ record { first = get_or literals a 0; second = get_or literals b 0 } ∷ [])) (sym l.0)
    (joined vars gates i a b is h literals old g (r.left a b refl) (r.right a b refl))))
