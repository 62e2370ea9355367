-- A certificate is right at every pattern of bits: each claim holds, and each gate has the value of its term.
use Rattle.std.proofs.Common.{◌≡◌, ◌⊎◌, inl, inr, ⊎_elim, ℕ, zero, suc, ◌+◌, ◌-◌, ◌<◌, ◌≤◌, Bool, true, false, not, ◌&&◌, cond, eqb, ltb, List, [], ◌∷◌, ◌++◌, length, take, map, get_or, slice_get, Option, Some, None, refl, sym, ap, ◌∙◌, subst, arith}
use Rattle.std.proofs.Math.Bool.{and-true, and_self}
use Rattle.std.proofs.lemmas.Bool.{and_parts, or_cases, eqb-true, ltb-true, ltb-false, false≢true, and_right}
use Rattle.std.proofs.lemmas.List.{length_push, map_push, take_more, take_all, get_or-map}
use Rattle.std.proofs.lemmas.Option.{slice_get_cases, slice_get_within, get_or_from_slice_get, same_Some, none-some}
use Rattle.nets.specs.Nets.{Gates, gate_value, truth, truths, values}
use Rattle.nets.specs.declared.net.Gate.{Gate}
use Rattle.nets.specs.declared.net.Gate.TheVariants as gate
use Rattle.nets.proofs.Truths.{values_more, values_none}
use Rattle.cert_checker.specs.declared.fault.CertWhy.TheVariants as why
use Rattle.cert_checker.specs.declared.known.Claim.{Claim}
use Rattle.cert_checker.specs.declared.known.Claim.TheVariants as claim
use Rattle.cert_checker.specs.declared.known.TermDef.{TermDef}
use Rattle.cert_checker.specs.declared.line.CertLine.{CertLine}
use Rattle.cert_checker.specs.declared.line.CertLine.TheVariants.{Term, And, AndCases, Not, NotCases, Gate as GateLine, GateBy}
use Rattle.cert_checker.specs.CheckerFacts.{CheckerFacts, after, after_all, facts_of, nothing, with_term, with_claim, with_gate}
use Rattle.cert_checker.specs.Rules.{made_at, part_by, part, is_made, same_claim, claims, is_term, is_claim, names, is_plain_and, is_plain_not, is_justified, gate_matches_plainly, not_claims, and_claims, gate_matches_by, gate_matches, flaw}
use Rattle.cert_checker.specs.Certificates.{AreRight}
use Rattle.cert_checker.specs.Meaning.{ClaimHolds, CertificatesShow, cert_value}
use Rattle.cert_checker.proofs.Values.{AreMade, value_kept, value_made, value_one, value_zero}

-- ---- the rule's parts

chosen : (a b c : Bool) → cond (not a) (Some why.Number) (cond (not b) (Some why.Claim) (cond (not c) (Some why.Gate) None)) ≡ None →
    (a ≡ true) × (b ≡ true) × (c ≡ true)
chosen true true true e = (refl, refl, refl)
chosen true true false e = absurd (cc)
chosen true false c e = absurd (cc)
chosen false b c e = absurd (cc)

-- a line without a flaw names what exists, is justified and fits
pub right_line : (net : Gates) (k : CheckerFacts) (line : CertLine) → flaw net k line ≡ None →
    (names net.vars k line ≡ true) × (is_justified k line ≡ true) × (gate_matches net k line ≡ true)
unfolding flaw
right_line net k line e = chosen (names net.vars k line) (is_justified k line) (gate_matches net k line) e

same_is : (c wanted : Claim) → same_claim c wanted ≡ true → c ≡ wanted
same_is (claim.And a b c) (claim.And x y z) e =
    let p = and_parts (eqb a x) (eqb b y && eqb c z) e in
    let q = and_parts (eqb b y) (eqb c z) p.1 in
    let ea : a ≡ x = eqb-true a x p.0 in
    let eb : b ≡ y = eqb-true b y q.0 in
    let ec : c ≡ z = eqb-true c z q.1 in
    cc
same_is (claim.And a b c) (claim.Not x z) e = absurd (false≢true e)
same_is (claim.Not a c) (claim.And x y z) e = absurd (false≢true e)
same_is (claim.Not a c) (claim.Not x z) e =
    let p = and_parts (eqb a x) (eqb c z) e in
    let ea : a ≡ x = eqb-true a x p.0 in
    let ec : c ≡ z = eqb-true c z p.1 in
    cc

pub claims_is : (o : Option Claim) (wanted : Claim) → claims o wanted ≡ true → o ≡ Some wanted
claims_is None wanted e = absurd (false≢true e)
claims_is (Some c) wanted e = ap Some (same_is c wanted e)

-- ---- the part of a term where a variable has its value under a pattern

part_made : (terms : List TermDef) → AreMade terms → (t v : ℕ) (b : Bool) (w : List Bool) → get_or w v false ≡ b → 2 ≤ t → (o : Option TermDef) → slice_get terms (t - 2) ≡ o →
    cert_value terms (part_by o v b t) w ≡ cert_value terms t w
part_made terms made t v b w e two None is = refl
part_made terms made t v b w e two (Some m) is = at (eqb m.var v) refl
  where
    back : t - 2 + 2 ≡ t
    back = omega (arith, two)

    whole : cert_value terms t w ≡ cond (get_or w m.var false) (cert_value terms m.high w) (cert_value terms m.low w)
    whole = ap (λ (n : ℕ). cert_value terms n w) (sym back) ∙ value_made terms made (t - 2) m is w

    side : (b : Bool) → get_or w m.var false ≡ b → cert_value terms (cond b m.high m.low) w ≡ cert_value terms t w
    side true at_v = sym (whole ∙ ap (λ (x : Bool). cond x (cert_value terms m.high w) (cert_value terms m.low w)) at_v)
    side false at_v = sym (whole ∙ ap (λ (x : Bool). cond x (cert_value terms m.high w) (cert_value terms m.low w)) at_v)

    at : (same : Bool) → eqb m.var v ≡ same → cert_value terms (cond same (cond b m.high m.low) t) w ≡ cert_value terms t w
    at true same = side b (ap (λ (x : ℕ). get_or w x false) (eqb-true m.var v same) ∙ e)
    at false same = refl

pub part_value : (terms : List TermDef) → AreMade terms → (v : ℕ) (b : Bool) (t : ℕ) (w : List Bool) → get_or w v false ≡ b →
    cert_value terms (part terms v b t) w ≡ cert_value terms t w
part_value terms made v b t w e = at (ltb t 2) refl
  where
    at : (small : Bool) → ltb t 2 ≡ small → cert_value terms (part_by (cond small None (slice_get terms (t - 2))) v b t) w ≡ cert_value terms t w
    at true small = refl
    at false small = part_made terms made t v b w e (ltb-false t 2 small) (slice_get terms (t - 2)) refl

-- ---- what holds for the facts that lines make

abbrev ClaimIn : ℕ → Claim → Type 0
ClaimIn n (claim.And a b c) = (a < n) × (b < n) × (c < n)
ClaimIn n (claim.Not a c) = (a < n) × (c < n)

pub record IsSound (net : Gates) (k : CheckerFacts) : Type 0 where
  pub made : AreMade k.terms
  pub claims_in : (p : ℕ) (c : Claim) → slice_get k.claims p ≡ Some c → ClaimIn (length k.terms + 2) c
  pub claims : (p : ℕ) (c : Claim) → slice_get k.claims p ≡ Some c → (w : List Bool) → ClaimHolds k.terms w c
  pub gates_in : (i t : ℕ) → slice_get k.gates i ≡ Some t → t < length k.terms + 2
  pub few : length k.gates ≤ length net.gates
  pub gates : (w : List Bool) → map (λ t. cert_value k.terms t w) k.gates ≡ values w [] (take (length k.gates) net.gates)

-- an element of a list with one more is one of the list, or the last
pub pushed : {A : Type 0} (xs : List A) (y x : A) (i : ℕ) → slice_get (xs ++ y ∷ []) i ≡ Some x → (slice_get xs i ≡ Some x) ⊎ ((i ≡ length xs) × (x ≡ y))
pushed [] y x zero e = inr (refl, sym (same_Some y x e))
pushed [] y x (suc i) e = absurd (none-some x e)
pushed (z ∷ xs) y x zero e = inl e
pushed (z ∷ xs) y x (suc i) e = ⊎_elim (λ r. inl r) (λ r. inr (ap suc r.0, r.1)) (pushed xs y x i e)

holds_later : (terms more : List TermDef) (w : List Bool) (c : Claim) → ClaimIn (length terms + 2) c → ClaimHolds terms w c → ClaimHolds (terms ++ more) w c
holds_later terms more w (claim.And a b c) i h =
    value_kept terms more c w i.2 ∙ h ∙ (λ x. sym (value_kept terms more a w i.0) x && sym (value_kept terms more b w i.1) x)
holds_later terms more w (claim.Not a c) i h = value_kept terms more c w i.1 ∙ h ∙ ap not (sym (value_kept terms more a w i.0))

in_later : (n m : ℕ) (c : Claim) → n ≤ m → ClaimIn n c → ClaimIn m c
in_later n m (claim.And a b c) h i = (let x = i.0 in omega arith, let x = i.1 in omega arith, let x = i.2 in omega arith)
in_later n m (claim.Not a c) h i = (let x = i.0 in omega arith, let x = i.1 in omega arith)

same_values : (terms more : List TermDef) (w : List Bool) (gates : List ℕ) → ((i t : ℕ) → slice_get gates i ≡ Some t → t < length terms + 2) →
    map (λ t. cert_value (terms ++ more) t w) gates ≡ map (λ t. cert_value terms t w) gates
same_values terms more w [] h = refl
same_values terms more w (t ∷ gates) h =
    let first : cert_value (terms ++ more) t w ≡ cert_value terms t w = value_kept terms more t w (h 0 t refl) in
    let rest : map (λ t. cert_value (terms ++ more) t w) gates ≡ map (λ t. cert_value terms t w) gates = same_values terms more w gates (λ i u e. h (suc i) u e) in
    λ x. first x ∷ rest x

-- ---- one more line

sound_term : (net : Gates) (k : CheckerFacts) (m : TermDef) → IsSound net k → m.low < length k.terms + 2 → m.high < length k.terms + 2 →
    IsSound net (with_term k m)
sound_term net k m s low high =
    let size : length (k.terms ++ m ∷ []) ≡ length k.terms + 1 = length_push k.terms m in
    record {
      made = record {
        low = λ i x e. ⊎_elim (λ old. s.made.low i x old) (λ new. rw (new.0, new.1) low) (pushed k.terms m x i e);
        high = λ i x e. ⊎_elim (λ old. s.made.high i x old) (λ new. rw (new.0, new.1) high) (pushed k.terms m x i e);
      };
      claims_in = λ p c e. in_later (length k.terms + 2) (length (k.terms ++ m ∷ []) + 2) c (omega (arith, size)) (s.claims_in p c e);
      claims = λ p c e w. holds_later k.terms (m ∷ []) w c (s.claims_in p c e) (s.claims p c e w);
      gates_in = λ i t e. (let h = s.gates_in i t e in omega (arith, size));
      few = s.few;
      gates = λ w. same_values k.terms (m ∷ []) w k.gates s.gates_in ∙ s.gates w;
    }

sound_claim : (net : Gates) (k : CheckerFacts) (c : Claim) → IsSound net k → ClaimIn (length k.terms + 2) c → ((w : List Bool) → ClaimHolds k.terms w c) →
    IsSound net (with_claim k c)
sound_claim net k c s inside holds = record {
  made = s.made;
  claims_in = λ p x e. ⊎_elim (λ old. s.claims_in p x old) (λ new. subst (ClaimIn (length k.terms + 2)) (sym new.1) inside) (pushed k.claims c x p e);
  claims = λ p x e w. ⊎_elim (λ old. s.claims p x old w) (λ new. subst (ClaimHolds k.terms w) (sym new.1) (holds w)) (pushed k.claims c x p e);
  gates_in = s.gates_in;
  few = s.few;
  gates = s.gates;
}

sound_gate : (net : Gates) (k : CheckerFacts) (t : ℕ) (g : Gate) → IsSound net k → t < length k.terms + 2 → slice_get net.gates (length k.gates) ≡ Some g →
    ((w : List Bool) → cert_value k.terms t w ≡ gate_value w (map (λ x. cert_value k.terms x w) k.gates) g) →
    IsSound net (with_gate k t)
sound_gate net k t g s inside is holds =
    let within : length k.gates < length net.gates = slice_get_within net.gates (length k.gates) g is in
    let size : length (k.gates ++ t ∷ []) ≡ length k.gates + 1 = length_push k.gates t in
    record {
      made = s.made;
      claims_in = s.claims_in;
      claims = s.claims;
      gates_in = λ i x e. ⊎_elim (λ old. s.gates_in i x old) (λ new. subst (λ n. n < length k.terms + 2) (sym new.1) inside) (pushed k.gates t x i e);
      few = omega (arith, size);
      gates = λ w.
          map_push (λ x. cert_value k.terms x w) k.gates t
          ∙ ap (λ (b : Bool). map (λ x. cert_value k.terms x w) k.gates ++ b ∷ []) (holds w)
          ∙ ap (λ (e : List Bool). e ++ gate_value w e g ∷ []) (s.gates w)
          ∙ sym (values_more w net.gates (length k.gates) g is within)
          ∙ ap (λ (n : ℕ). values w [] (take n net.gates)) (sym size);
    }

-- ---- the rule's tests are sound

plain_and : (terms : List TermDef) (w : List Bool) (a b c : ℕ) → is_plain_and a b c ≡ true → cert_value terms c w ≡ cert_value terms a w && cert_value terms b w
plain_and terms w a b c e =
    ⊎_elim (λ h. both_zero h)
    (λ h. ⊎_elim (λ i. right_zero i)
    (λ i. ⊎_elim (λ j. left_one j)
    (λ j. ⊎_elim (λ l. right_one l) (λ l. all_same l) (or_cases _ _ j)) (or_cases _ _ i)) (or_cases _ _ h)) (or_cases _ _ e)
  where
    zero_is : cert_value terms 0 w ≡ false
    zero_is = value_zero terms w

    one_is : cert_value terms 1 w ≡ true
    one_is = value_one terms w

    both_zero : (eqb a 0 && eqb c 0) ≡ true → cert_value terms c w ≡ cert_value terms a w && cert_value terms b w
    both_zero h =
        let p = and_parts (eqb a 0) (eqb c 0) h in
        rw (eqb-true a 0 p.0, eqb-true c 0 p.1, zero_is) refl

    right_zero : (eqb b 0 && eqb c 0) ≡ true → cert_value terms c w ≡ cert_value terms a w && cert_value terms b w
    right_zero h =
        let p = and_parts (eqb b 0) (eqb c 0) h in
        rw (eqb-true b 0 p.0, eqb-true c 0 p.1, zero_is) (sym (and_right (cert_value terms a w) false refl))

    left_one : (eqb a 1 && eqb c b) ≡ true → cert_value terms c w ≡ cert_value terms a w && cert_value terms b w
    left_one h =
        let p = and_parts (eqb a 1) (eqb c b) h in
        rw (eqb-true a 1 p.0, eqb-true c b p.1, one_is) refl

    right_one : (eqb b 1 && eqb c a) ≡ true → cert_value terms c w ≡ cert_value terms a w && cert_value terms b w
    right_one h =
        let p = and_parts (eqb b 1) (eqb c a) h in
        rw (eqb-true b 1 p.0, eqb-true c a p.1, one_is) (sym (and-true (cert_value terms a w)))

    all_same : (eqb a b && eqb b c) ≡ true → cert_value terms c w ≡ cert_value terms a w && cert_value terms b w
    all_same h =
        let p = and_parts (eqb a b) (eqb b c) h in
        rw (eqb-true a b p.0, eqb-true b c p.1) (sym (and_self (cert_value terms c w)))

plain_not : (terms : List TermDef) (w : List Bool) (a c : ℕ) → is_plain_not a c ≡ true → cert_value terms c w ≡ not (cert_value terms a w)
plain_not terms w a c e = ⊎_elim (λ h. zero_one h) (λ h. one_zero h) (or_cases _ _ e)
  where
    zero_one : (eqb a 0 && eqb c 1) ≡ true → cert_value terms c w ≡ not (cert_value terms a w)
    zero_one h =
        let p = and_parts (eqb a 0) (eqb c 1) h in
        rw (eqb-true a 0 p.0, eqb-true c 1 p.1, value_zero terms w, value_one terms w) refl

    one_zero : (eqb a 1 && eqb c 0) ≡ true → cert_value terms c w ≡ not (cert_value terms a w)
    one_zero h =
        let p = and_parts (eqb a 1) (eqb c 0) h in
        rw (eqb-true a 1 p.0, eqb-true c 0 p.1, value_zero terms w, value_one terms w) refl

module _ (net : Gates) (k : CheckerFacts) (s : IsSound net k) (w : List Bool) where
  -- a claim about the parts of terms at a variable's value holds for the terms
  and_whole : (v a b c : ℕ) (x : Bool) → get_or w v false ≡ x → ClaimHolds k.terms w (claim.And (part k.terms v x a) (part k.terms v x b) (part k.terms v x c)) → ClaimHolds k.terms w (claim.And a b c)
  and_whole v a b c x e h =
      sym (part_value k.terms s.made v x c w e) ∙ h
      ∙ (λ i. part_value k.terms s.made v x a w e i && part_value k.terms s.made v x b w e i)

  not_whole : (v a c : ℕ) (x : Bool) → get_or w v false ≡ x → ClaimHolds k.terms w (claim.Not (part k.terms v x a) (part k.terms v x c)) → ClaimHolds k.terms w (claim.Not a c)
  not_whole v a c x e h = sym (part_value k.terms s.made v x c w e) ∙ h ∙ ap not (part_value k.terms s.made v x a w e)

  there : (p : ℕ) (wanted : Claim) → claims (slice_get k.claims p) wanted ≡ true → ClaimHolds k.terms w wanted
  there p wanted e = s.claims p wanted (claims_is (slice_get k.claims p) wanted e) w

  and_cases : (a b c v p q : ℕ) → is_justified k (AndCases a b c v p q) ≡ true → ClaimHolds k.terms w (claim.And a b c)
  and_cases a b c v p q e = at (get_or w v false) refl
    where
      both : (claims (slice_get k.claims p) (claim.And (part k.terms v false a) (part k.terms v false b) (part k.terms v false c)) ≡ true)
          × (claims (slice_get k.claims q) (claim.And (part k.terms v true a) (part k.terms v true b) (part k.terms v true c)) ≡ true)
      both = and_parts _ _ e

      at : (x : Bool) → get_or w v false ≡ x → ClaimHolds k.terms w (claim.And a b c)
      at true is = and_whole v a b c true is (there q _ both.1)
      at false is = and_whole v a b c false is (there p _ both.0)

  not_cases : (a c v p q : ℕ) → is_justified k (NotCases a c v p q) ≡ true → ClaimHolds k.terms w (claim.Not a c)
  not_cases a c v p q e = at (get_or w v false) refl
    where
      both : (claims (slice_get k.claims p) (claim.Not (part k.terms v false a) (part k.terms v false c)) ≡ true)
          × (claims (slice_get k.claims q) (claim.Not (part k.terms v true a) (part k.terms v true c)) ≡ true)
      both = and_parts _ _ e

      at : (x : Bool) → get_or w v false ≡ x → ClaimHolds k.terms w (claim.Not a c)
      at true is = not_whole v a c true is (there q _ both.1)
      at false is = not_whole v a c false is (there p _ both.0)

  -- the value of an earlier gate
  earlier : (i t : ℕ) → slice_get k.gates i ≡ Some t → get_or (map (λ x. cert_value k.terms x w) k.gates) i false ≡ cert_value k.terms t w
  earlier i t e =
      get_or-map (λ x. cert_value k.terms x w) k.gates i t false (slice_get_within k.gates i t e)
      ∙ ap (λ x. cert_value k.terms x w) (get_or_from_slice_get k.gates i t t e)

  by_claim : (t : ℕ) (p : ℕ) (g : Gate) → gate_matches_by k t (slice_get k.claims p) (Some g) ≡ true → cert_value k.terms t w ≡ gate_value w (map (λ x. cert_value k.terms x w) k.gates) g
  by_claim t p (gate.Const b) e = absurd (false≢true e)
  by_claim t p (gate.Var v) e = absurd (false≢true e)
  by_claim t p (gate.Not a) e = at (slice_get k.gates a) refl e
    where
      at : (o : Option ℕ) → slice_get k.gates a ≡ o → not_claims (slice_get k.claims p) o t ≡ true → cert_value k.terms t w ≡ not (get_or (map (λ x. cert_value k.terms x w) k.gates) a false)
      at None is f = absurd (false≢true f)
      at (Some ta) is f = there p (claim.Not ta t) f ∙ ap not (sym (earlier a ta is))
  by_claim t p (gate.And a b) e = at (slice_get k.gates a) (slice_get k.gates b) refl refl e
    where
      at : (o q : Option ℕ) → slice_get k.gates a ≡ o → slice_get k.gates b ≡ q → and_claims (slice_get k.claims p) o q t ≡ true →
          cert_value k.terms t w ≡ get_or (map (λ x. cert_value k.terms x w) k.gates) a false && get_or (map (λ x. cert_value k.terms x w) k.gates) b false
      at None q is js f = absurd (false≢true f)
      at (Some ta) None is js f = absurd (false≢true f)
      at (Some ta) (Some tb) is js f = there p (claim.And ta tb t) f ∙ (λ i. sym (earlier a ta is) i && sym (earlier b tb js) i)

made_is : (terms : List TermDef) (t v low high : ℕ) → is_made (made_at terms t) v low high ≡ true →
    (m : TermDef) × (2 ≤ t) × (slice_get terms (t - 2) ≡ Some m) × (m.var ≡ v) × (m.low ≡ low) × (m.high ≡ high)
made_is terms t v low high e = at (ltb t 2) refl e
  where
    parts : (o : Option TermDef) → slice_get terms (t - 2) ≡ o → ltb t 2 ≡ false → is_made o v low high ≡ true →
        (m : TermDef) × (2 ≤ t) × (slice_get terms (t - 2) ≡ Some m) × (m.var ≡ v) × (m.low ≡ low) × (m.high ≡ high)
    parts None is small f = absurd (false≢true f)
    parts (Some m) is small f =
        let p = and_parts (eqb m.var v) (eqb m.low low && eqb m.high high) f in
        let q = and_parts (eqb m.low low) (eqb m.high high) p.1 in
        (m, ltb-false t 2 small, is, eqb-true m.var v p.0, eqb-true m.low low q.0, eqb-true m.high high q.1)

    at : (small : Bool) → ltb t 2 ≡ small → is_made (cond small None (slice_get terms (t - 2))) v low high ≡ true →
        (m : TermDef) × (2 ≤ t) × (slice_get terms (t - 2) ≡ Some m) × (m.var ≡ v) × (m.low ≡ low) × (m.high ≡ high)
    at true small f = absurd (false≢true f)
    at false small f = parts (slice_get terms (t - 2)) refl small f

plainly : (net : Gates) (k : CheckerFacts) → IsSound net k → (t : ℕ) (g : Gate) → gate_matches_plainly k t (Some g) ≡ true → (w : List Bool) →
    cert_value k.terms t w ≡ gate_value w (map (λ x. cert_value k.terms x w) k.gates) g
plainly net k s t (gate.Const true) e w = ap (λ n. cert_value k.terms n w) (eqb-true t 1 e) ∙ value_one k.terms w
plainly net k s t (gate.Const false) e w = ap (λ n. cert_value k.terms n w) (eqb-true t 0 e) ∙ value_zero k.terms w
plainly net k s t (gate.Var v) e w = at (get_or w m.0.var false) refl
  where
    m : (m : TermDef) × (2 ≤ t) × (slice_get k.terms (t - 2) ≡ Some m) × (m.var ≡ v) × (m.low ≡ 0) × (m.high ≡ 1)
    m = made_is k.terms t v 0 1 e

    back : t - 2 + 2 ≡ t
    back = let two = m.1 in omega arith

    whole : cert_value k.terms t w ≡ cond (get_or w m.0.var false) (cert_value k.terms m.0.high w) (cert_value k.terms m.0.low w)
    whole = ap (λ (n : ℕ). cert_value k.terms n w) (sym back) ∙ value_made k.terms s.made (t - 2) m.0 m.2 w

    high : cert_value k.terms m.0.high w ≡ true
    high = ap (λ n. cert_value k.terms n w) m.5 ∙ value_one k.terms w

    low : cert_value k.terms m.0.low w ≡ false
    low = ap (λ n. cert_value k.terms n w) m.4 ∙ value_zero k.terms w

    at : (b : Bool) → get_or w m.0.var false ≡ b → cert_value k.terms t w ≡ get_or w v false
    at true is = whole ∙ ap (λ (x : Bool). cond x (cert_value k.terms m.0.high w) (cert_value k.terms m.0.low w)) is ∙ high ∙ sym is ∙ ap (λ x. get_or w x false) m.3
    at false is = whole ∙ ap (λ (x : Bool). cond x (cert_value k.terms m.0.high w) (cert_value k.terms m.0.low w)) is ∙ low ∙ sym is ∙ ap (λ x. get_or w x false) m.3
plainly net k s t (gate.Not a) e w = absurd (false≢true e)
plainly net k s t (gate.And a b) e w = absurd (false≢true e)

-- ---- each line

term_in : (k : CheckerFacts) (t : ℕ) → is_term k t ≡ true → t < length k.terms + 2
term_in k t e = ltb-true t (length k.terms + 2) e

sound_line : (net : Gates) (k : CheckerFacts) (line : CertLine) → IsSound net k → names net.vars k line ≡ true → is_justified k line ≡ true → gate_matches net k line ≡ true →
    IsSound net (after k line)
sound_line net k (Term v l h) s n j f =
    let p = and_parts (ltb v net.vars) (is_term k l && is_term k h) n in
    let q = and_parts (is_term k l) (is_term k h) p.1 in
    (sound_term net k (record { var = v; low = l; high = h }) s (term_in k l q.0) (term_in k h q.1))
sound_line net k (And a b c) s n j f =
    let p = and_parts (is_term k a) (is_term k b && is_term k c) n in
    let q = and_parts (is_term k b) (is_term k c) p.1 in
    (sound_claim net k (claim.And a b c) s (term_in k a p.0, term_in k b q.0, term_in k c q.1) (λ w. plain_and k.terms w a b c j))
sound_line net k (AndCases a b c v p q) s n j f =
    let n1 = and_parts (is_term k a && (is_term k b && is_term k c)) _ n in
    let n2 = and_parts (is_term k a) (is_term k b && is_term k c) n1.0 in
    let n3 = and_parts (is_term k b) (is_term k c) n2.1 in
    (sound_claim net k (claim.And a b c) s (term_in k a n2.0, term_in k b n3.0, term_in k c n3.1) (λ w. and_cases net k s w a b c v p q j))
sound_line net k (Not a c) s n j f =
    let p = and_parts (is_term k a) (is_term k c) n in
    (sound_claim net k (claim.Not a c) s (term_in k a p.0, term_in k c p.1) (λ w. plain_not k.terms w a c j))
sound_line net k (NotCases a c v p q) s n j f =
    let n1 = and_parts (is_term k a && is_term k c) _ n in
    let n2 = and_parts (is_term k a) (is_term k c) n1.0 in
    (sound_claim net k (claim.Not a c) s (term_in k a n2.0, term_in k c n2.1) (λ w. not_cases net k s w a c v p q j))
sound_line net k (GateLine t) s n j f = at (slice_get net.gates (length k.gates)) refl f
  where
    at : (o : Option Gate) → slice_get net.gates (length k.gates) ≡ o → gate_matches_plainly k t o ≡ true → IsSound net (after k (GateLine t))
    at None is e = absurd (false≢true e)
    at (Some g) is e = (sound_gate net k t g s (term_in k t n) is (λ w. plainly net k s t g e w))
sound_line net k (GateBy t p) s n j f = at (slice_get net.gates (length k.gates)) refl f
  where
    at : (o : Option Gate) → slice_get net.gates (length k.gates) ≡ o → gate_matches_by k t (slice_get k.claims p) o ≡ true → IsSound net (after k (GateBy t p))
    at None is e = absurd (false≢true e)
    at (Some g) is e = (sound_gate net k t g s (term_in k t (and_parts (is_term k t) (is_claim k p) n).0) is (λ w. by_claim net k s w t p g e))

-- ---- all lines

after_push : (k : CheckerFacts) (lines : List CertLine) (line : CertLine) → after_all k (lines ++ line ∷ []) ≡ after (after_all k lines) line
unfolding after_all
after_push k [] line = refl
after_push k (first ∷ lines) line = after_push (after k first) lines line

-- the facts of some lines and one more
pub facts_push : (lines : List CertLine) (line : CertLine) → facts_of (lines ++ line ∷ []) ≡ after (facts_of lines) line
facts_push lines line = after_push nothing lines line

sound_none : (net : Gates) → IsSound net (facts_of [])
unfolding after_all
sound_none net = record {
  made = record { low = λ i m e. absurd (none-some m e); high = λ i m e. absurd (none-some m e) };
  claims_in = λ p c e. absurd (none-some c e);
  claims = λ p c e w. absurd (none-some c e);
  gates_in = λ i t e. absurd (none-some t e);
  few = omega arith;
  gates = λ w. values_none w [] refl;
}

next_sound : (net : Gates) (lines : List CertLine) → AreRight net lines → (k : ℕ) → k < length lines → IsSound net (facts_of (take k lines)) →
    ((x : CertLine) × (k < length lines) × (slice_get lines k ≡ Some x) × (get_or lines k x ≡ x)) ⊎ ((length lines ≤ k) × (slice_get lines k ≡ None)) →
    IsSound net (facts_of (take (suc k) lines))
next_sound net lines right k h s (inr past) = absurd (let b = past.0 in omega (arith, h))
next_sound net lines right k h s (inl found) =
    let line : CertLine = found.0 in
    let ok = right_line net (facts_of (take k lines)) line (right k line found.2) in
    let next : IsSound net (after (facts_of (take k lines)) line) = sound_line net (facts_of (take k lines)) line s ok.0 ok.1 ok.2 in
    let one : suc k ≡ k + 1 = omega arith in
    let whole : take (suc k) lines ≡ take k lines ++ line ∷ [] =
    ap (λ (n : ℕ). take n lines) one ∙ take_more lines k line found.1 ∙ ap (λ (x : CertLine). take k lines ++ x ∷ []) found.3 in
    subst (IsSound net) (sym (ap facts_of whole ∙ facts_push (take k lines) line)) next

pub sound_lines : (net : Gates) (lines : List CertLine) → AreRight net lines → (k : ℕ) → k ≤ length lines → IsSound net (facts_of (take k lines))
sound_lines net lines right zero h = sound_none net
sound_lines net lines right (suc k) h = next_sound net lines right k (omega (arith, h)) (sound_lines net lines right k (omega (arith, h))) (slice_get_cases lines k).1

pub certificates_show : CertificatesShow
unfolding truth truths
certificates_show g text ok k gate is w =
    let lines : List CertLine = ok.lines in
    let all : take (length lines) lines ≡ lines = take_all (length lines) lines (omega arith) in
    let s : IsSound g.net (facts_of lines) = subst (λ (ls : List CertLine). IsSound g.net (facts_of ls)) all (sound_lines g.net lines ok.goes_on.right (length lines) (omega arith)) in
    let f : CheckerFacts = facts_of lines in
    let one : slice_get f.gates gate ≡ Some 1 = ok.ends.demanded k gate is in
    let whole : take (length f.gates) g.net.gates ≡ g.net.gates = take_all (length f.gates) g.net.gates (let e = ok.ends.all in omega arith) in
    let values_are : map (λ t. cert_value f.terms t w) f.gates ≡ values w [] g.net.gates = s.gates w ∙ ap (values w []) whole in
    ap (λ (xs : List Bool). get_or xs gate false) (sym values_are) ∙ earlier g.net f s w gate 1 one ∙ value_one f.terms w
