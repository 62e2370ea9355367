-- One more claim, and what its line requires.
use Rattle.std.proofs.Common.{◌≡◌, ◌⊎◌, inl, inr, ⊎_elim, ℕ, zero, suc, ◌+◌, ◌-◌, ◌<◌, ◌≤◌, Bool, true, false, not, ◌&&◌, ◌||◌, ◌==◌, cond, ltb, List, [], ◌∷◌, ◌++◌, length, map, take, get_or, slice_get, Option, Some, None, refl, sym, ap, ◌∙◌, subst, arith}
use Rattle.std.proofs.Math.ListN.{set}
use Rattle.std.proofs.lemmas.Bool.{and_from, or_left, or_right, cases_lt, eq-eqb, lt-ltb, false≢true}
use Rattle.std.proofs.lemmas.List.{length_push, length-set, length-map, map_push, take-append-le, take_all, take-map, take-take, get_or-take, get_or_push}
use Rattle.std.proofs.lemmas.Option.{none-some, slice_get-get_or, slice_get_within, get_or_from_slice_get}
use Rattle.cert_checker.specs.declared.known.Claim.{Claim}
use Rattle.cert_checker.specs.declared.known.Claim.TheVariants as claim
use Rattle.cert_checker.specs.declared.known.TermDef.{TermDef}
use Rattle.cert_checker.specs.declared.line.CertLine.{CertLine}
use Rattle.cert_checker.specs.declared.line.CertLine.TheVariants.{And, AndCases, Not, NotCases}
use Rattle.cert_checker.specs.Meaning.{cert_value}
use Rattle.cert_checker.specs.Rules.{claims, is_plain_and, is_plain_not, made_at, part, part_by, same_claim}
use Rattle.cert_checker.proofs.Sound.{pushed}
use Rattle.cert_checker.proofs.Values.{value_one, value_zero}
use Rattle.cert_writer.specs.Proofs.{AreProved, IsProved, KeepsClaims, HasClaim, Proof, claim_of, facts_behind}
use Rattle.cert_writer.specs.Terms.{AreOrdered, AreRanks, IsAnd, IsFirst, IsNot, rank_by, rank_of, variable_by, variable_of}
use Rattle.cert_writer.proofs.Ordered.{Kinds, falsehood, truth, made, constant, free, kind_of, part_set, rank_from, rank_is}

-- ---- one more claim

pub proved_none : (vars : ℕ) (terms : List TermDef) (steps : List CertLine) → steps ≡ [] → AreProved vars terms steps
proved_none vars terms steps e = record { each = λ k line at. absurd (none-some line (sym (slice_get_none k) ∙ ap (λ (xs : List CertLine). slice_get xs k) (sym e) ∙ at)) }
  where
    none : List CertLine
    none = []

    slice_get_none : (k : ℕ) → slice_get none k ≡ None
    slice_get_none zero = refl
    slice_get_none (suc k) = refl

pub proved_push : (vars : ℕ) (terms : List TermDef) (steps : List CertLine) (line : CertLine) → AreProved vars terms steps → IsProved vars terms steps line → AreProved vars terms (steps ++ line ∷ [])
proved_push vars terms steps line all one = record { each = each }
  where
    old : (k : ℕ) (x : CertLine) → slice_get steps k ≡ Some x → IsProved vars terms (take k (steps ++ line ∷ [])) x
    old k x e =
        let h = slice_get_within steps k x e in
        subst (λ (front : List CertLine). IsProved vars terms front x) (sym (take-append-le k steps (line ∷ []) (omega (arith, h)))) (all.each k x e)

    new : (k : ℕ) (x : CertLine) → (k ≡ length steps) × (x ≡ line) → IsProved vars terms (take k (steps ++ line ∷ [])) x
    new k x e =
        let h : k ≤ length steps = (let a = e.0 in omega arith) in
        let front : take k (steps ++ line ∷ []) ≡ steps = take-append-le k steps (line ∷ []) h ∙ take_all k steps (let a = e.0 in omega arith) in
        subst (λ (y : CertLine). IsProved vars terms (take k (steps ++ line ∷ [])) y) (sym e.1) (subst (λ (xs : List CertLine). IsProved vars terms xs line) (sym front) one)

    each : (k : ℕ) (x : CertLine) → slice_get (steps ++ line ∷ []) k ≡ Some x → IsProved vars terms (take k (steps ++ line ∷ [])) x
    each k x e = ⊎_elim (old k x) (new k x) (pushed steps line x k e)

pub keeps_self : (s : Proof) → KeepsClaims s s
keeps_self s = record { terms = refl; ranks = refl; more = omega arith; steps = take_all (length s.steps) s.steps (omega arith) }

pub keeps_push : (s t : Proof) (line : CertLine) → t.terms ≡ s.terms → t.ranks ≡ s.ranks → t.steps ≡ s.steps ++ line ∷ [] → KeepsClaims s t
keeps_push s t line terms ranks steps = record {
  terms = terms;
  ranks = ranks;
  more = omega (arith, ap length steps, length_push s.steps line);
  steps = ap (take (length s.steps)) steps ∙ take-append-le (length s.steps) s.steps (line ∷ []) (omega arith) ∙ take_all (length s.steps) s.steps (omega arith);
}

pub keeps_more : (a b c : Proof) → KeepsClaims a b → KeepsClaims b c → KeepsClaims a c
keeps_more a b c p q = record {
  terms = q.terms ∙ p.terms;
  ranks = q.ranks ∙ p.ranks;
  more = (let x = p.more in let y = q.more in omega arith);
  steps = sym (take-take (length a.steps) (length b.steps) c.steps p.more) ∙ ap (take (length a.steps)) q.steps ∙ p.steps;
}

pub makes_last : (s : Proof) (steps : List CertLine) (line : CertLine) (p : ℕ) → s.steps ≡ steps ++ line ∷ [] → p ≡ length steps → HasClaim s (claim_of line) p
makes_last s steps line p e at =
    let claims_are : map claim_of s.steps ≡ map claim_of steps ++ claim_of line ∷ [] = ap (map claim_of) e ∙ map_push claim_of steps line in
    let size : length (map claim_of steps) ≡ p = length-map steps claim_of ∙ sym at in
    let within : p < length (map claim_of steps ++ claim_of line ∷ []) = omega (arith, size, length_push (map claim_of steps) (claim_of line)) in
    ap (λ (xs : List Claim). slice_get xs p) claims_are
    ∙ slice_get-get_or (map claim_of steps ++ claim_of line ∷ []) p (claim_of line) within
    ∙ ap Some (get_or_push (map claim_of steps) (claim_of line) (claim_of line) p size)

-- ---- the first variable of two terms

variable_rank : (ranks : List ℕ) (terms : List TermDef) → AreOrdered ranks terms → (t : ℕ) → t < length terms + 2 → 2 ≤ t →
    (variable_of terms t < length ranks) × (get_or ranks (variable_of terms t) 0 ≡ rank_of ranks terms t)
variable_rank ranks terms o t h two = by (kind_of terms t h)
  where
    by : Kinds terms t → (variable_of terms t < length ranks) × (get_or ranks (variable_of terms t) 0 ≡ rank_of ranks terms t)
    by (falsehood e) = absurd (omega (arith, e, two))
    by (truth e) = absurd (omega (arith, e, two))
    by (made k m e is at) = (
      subst (λ n. n < length ranks) (sym (ap variable_by at)) (o.within k m is),
      ap (λ n. get_or ranks n 0) (ap variable_by at) ∙ sym (rank_is ranks terms o t m at),
    )

-- terms 0 and 1 come after all variables
pub rank_none : (ranks : List ℕ) (terms : List TermDef) (t : ℕ) → t < 2 → rank_of ranks terms t ≡ length ranks
rank_none ranks terms t small = ap (λ (x : Bool). rank_by ranks (cond x None (slice_get terms (t - 2)))) (lt-ltb t 2 small)

-- a term is 0 or 1, or its rank is that of a variable
made_from : (ranks : List ℕ) (terms : List TermDef) → AreOrdered ranks terms → AreRanks ranks → (a b : ℕ) → a < length terms + 2 → b < length terms + 2 → 2 ≤ b → rank_of ranks terms a ≤ rank_of ranks terms b → 2 ≤ a
made_from ranks terms o r a b ha hb two less = ⊎_elim
    (λ small. (let v = variable_rank ranks terms o b hb two in
    let below = r.below (variable_of terms b) v.0 in
    let none = rank_none ranks terms a small in
    absurd (omega (arith, v.1, below, none, less))))
    (λ more. more) (cases_lt a 2)

pub first_left : (ranks : List ℕ) (terms : List TermDef) → AreOrdered ranks terms → AreRanks ranks → (a b : ℕ) → a < length terms + 2 → b < length terms + 2 → (2 ≤ a) ⊎ (2 ≤ b) →
    rank_of ranks terms a ≤ rank_of ranks terms b → IsFirst ranks terms a b (variable_of terms a)
first_left ranks terms o r a b ha hb large less =
    let two : 2 ≤ a = ⊎_elim (λ x. x) (λ x. made_from ranks terms o r a b ha hb x less) large in
    let v = variable_rank ranks terms o a ha two in
    record { within = v.0; left = omega (arith, v.1); right = omega (arith, v.1, less); one = inl v.1 }

pub first_right : (ranks : List ℕ) (terms : List TermDef) → AreOrdered ranks terms → AreRanks ranks → (a b : ℕ) → a < length terms + 2 → b < length terms + 2 → (2 ≤ a) ⊎ (2 ≤ b) →
    rank_of ranks terms b < rank_of ranks terms a → IsFirst ranks terms a b (variable_of terms b)
first_right ranks terms o r a b ha hb large less =
    let two : 2 ≤ b = ⊎_elim (λ x. made_from ranks terms o r b a hb ha x (omega (arith, less))) (λ x. x) large in
    let v = variable_rank ranks terms o b hb two in
    record { within = v.0; left = omega (arith, v.1, less); right = omega (arith, v.1); one = inr v.1 }

-- ---- parts

same_claim_self : (c : Claim) → same_claim c c ≡ true
same_claim_self (claim.And a b c) = and_from (a == a) (b == b && c == c) (eq-eqb a a refl) (and_from (b == b) (c == c) (eq-eqb b b refl) (eq-eqb c c refl))
same_claim_self (claim.Not a c) = and_from (a == a) (c == c) (eq-eqb a a refl) (eq-eqb c c refl)

pub claims_from : (o : Option Claim) (wanted : Claim) → o ≡ Some wanted → claims o wanted ≡ true
claims_from o wanted e = ap (λ x. claims x wanted) e ∙ same_claim_self wanted

part_is : (terms : List TermDef) (v : ℕ) (b : Bool) (t : ℕ) (m : TermDef) → made_at terms t ≡ Some m → part terms v b t ≡ cond (m.var == v) (cond b m.high m.low) t
part_is terms v b t m at = ap (λ (q : Option TermDef). part_by q v b t) at

part_none : (terms : List TermDef) (v : ℕ) (b : Bool) (t : ℕ) → t < 2 → part terms v b t ≡ t
part_none terms v b t small = ap (λ (x : Bool). part_by (cond x None (slice_get terms (t - 2))) v b t) (lt-ltb t 2 small)

-- a part isn't a later term, and it is an earlier one if the term has the variable
pub part_most : (ranks : List ℕ) (terms : List TermDef) → AreOrdered ranks terms → (v : ℕ) (b : Bool) (t : ℕ) → t < length terms + 2 → part terms v b t ≤ t
part_most ranks terms o v b t h = by (kind_of terms t h)
  where
    cases : (x b : Bool) (m : TermDef) (k : ℕ) → t ≡ k + 2 → slice_get terms k ≡ Some m → cond x (cond b m.high m.low) t ≤ t
    cases true true m k e is = (let y = o.high k m is in omega (arith, e, y))
    cases true false m k e is = (let y = o.low k m is in omega (arith, e, y))
    cases false b m k e is = omega arith

    by : Kinds terms t → part terms v b t ≤ t
    by (falsehood e) = (let x = part_none terms v b t (omega (arith, e)) in omega (arith, x))
    by (truth e) = (let x = part_none terms v b t (omega (arith, e)) in omega (arith, x))
    by (made k m e is at) = subst (λ n. n ≤ t) (sym (part_is terms v b t m at)) (cases (m.var == v) b m k e is)

pub part_less : (ranks : List ℕ) (terms : List TermDef) → AreOrdered ranks terms → AreRanks ranks → (v : ℕ) (b : Bool) (t : ℕ) → t < length terms + 2 → v < length ranks →
    get_or ranks v 0 ≡ rank_of ranks terms t → part terms v b t < t
part_less ranks terms o r v b t h inside same = by (kind_of terms t h)
  where
    late : t < 2 → part terms v b t < t
    late small = (let x = rank_none ranks terms t small in let y = r.below v inside in absurd (omega (arith, same, x, y)))

    cases : (b : Bool) (m : TermDef) (k : ℕ) → t ≡ k + 2 → slice_get terms k ≡ Some m → cond b m.high m.low < t
    cases true m k e is = (let y = o.high k m is in omega (arith, e, y))
    cases false m k e is = (let y = o.low k m is in omega (arith, e, y))

    by : Kinds terms t → part terms v b t < t
    by (falsehood e) = late (omega (arith, e))
    by (truth e) = late (omega (arith, e))
    by (made k m e is at) =
        let ranks_are : get_or ranks m.var 0 ≡ get_or ranks v 0 = sym (rank_is ranks terms o t m at) ∙ sym same in
        let own : m.var ≡ v = r.own m.var v (o.within k m is) inside ranks_are in
        subst (λ n. n < t) (sym (part_is terms v b t m at ∙ ap (λ (x : Bool). cond x (cond b m.high m.low) t) (eq-eqb m.var v own))) (cases b m k e is)

pub parts_less : (ranks : List ℕ) (terms : List TermDef) → AreOrdered ranks terms → AreRanks ranks → (a b v : ℕ) (x : Bool) → a < length terms + 2 → b < length terms + 2 →
    IsFirst ranks terms a b v → part terms v x a + part terms v x b < a + b
parts_less ranks terms o r a b v x ha hb first = ⊎_elim
    (λ e. (let l = part_less ranks terms o r v x a ha first.within e in let m = part_most ranks terms o v x b hb in omega (arith, l, m)))
    (λ e. (let l = part_less ranks terms o r v x b hb first.within e in let m = part_most ranks terms o v x a ha in omega (arith, l, m)))
    first.one

-- ---- conjunctions of two terms, evident ones and by cases

-- unless the conjunction is evident, one of the two terms was made
pub and_open : (ranks : List ℕ) (terms : List TermDef) → AreOrdered ranks terms → (a b c : ℕ) → IsAnd ranks terms a b c → is_plain_and a b c ≡ false → (2 ≤ a) ⊎ (2 ≤ b)
and_open ranks terms o a b c i large = by (cases_lt a 2) (cases_lt b 2)
  where
    zero_is : (t : ℕ) → t ≡ 0 → (w : List Bool) → cert_value terms t w ≡ false
    zero_is t e w = ap (λ n. cert_value terms n w) e ∙ value_zero terms w

    one_is : (t : ℕ) → t ≡ 1 → (w : List Bool) → cert_value terms t w ≡ true
    one_is t e w = ap (λ n. cert_value terms n w) e ∙ value_one terms w

    left_zero : a ≡ 0 → c ≡ 0
    left_zero e = constant ranks terms o c false i.both (λ w size. i.is w size ∙ ap (λ x. x && cert_value terms b w) (zero_is a e w))

    right_zero : (x : Bool) (w : List Bool) → b ≡ 0 → x && cert_value terms b w ≡ false
    right_zero true w e = zero_is b e w
    right_zero false w e = refl

    right : b ≡ 0 → c ≡ 0
    right e = constant ranks terms o c false i.both (λ w size. i.is w size ∙ right_zero (cert_value terms a w) w e)

    ones : a ≡ 1 → b ≡ 1 → c ≡ 1
    ones e f = constant ranks terms o c true i.both (λ w size. i.is w size ∙ ap (λ x. x && cert_value terms b w) (one_is a e w) ∙ one_is b f w)

    plain : (a b c : ℕ) → ((a ≡ 0) × (c ≡ 0)) ⊎ (((b ≡ 0) × (c ≡ 0)) ⊎ ((a ≡ 1) × (b ≡ 1) × (c ≡ 1))) → is_plain_and a b c ≡ true
    plain a b c (inl e) = ap (λ (x : Bool). x || (b == 0 && c == 0 || (a == 1 && c == b || (b == 1 && c == a || a == b && b == c)))) (and_from (a == 0) (c == 0) (eq-eqb a 0 e.0) (eq-eqb c 0 e.1))
    plain a b c (inr (inl e)) =
        or_right (a == 0 && c == 0) (b == 0 && c == 0 || (a == 1 && c == b || (b == 1 && c == a || a == b && b == c)))
        (or_left (b == 0 && c == 0) (a == 1 && c == b || (b == 1 && c == a || a == b && b == c)) (and_from (b == 0) (c == 0) (eq-eqb b 0 e.0) (eq-eqb c 0 e.1)))
    plain a b c (inr (inr e)) = (λ i. is_plain_and (e.0 i) (e.1 i) (e.2 i))

    small : (a < 2) → (b < 2) → ((a ≡ 0) × (c ≡ 0)) ⊎ (((b ≡ 0) × (c ≡ 0)) ⊎ ((a ≡ 1) × (b ≡ 1) × (c ≡ 1)))
    small ha hb = ⊎_elim (λ x. (let e : a ≡ 0 = omega (arith, x) in inl (e, left_zero e)))
        (λ x. ⊎_elim (λ y. (let e : b ≡ 0 = omega (arith, y) in inr (inl (e, right e))))
        (λ y. (let e : a ≡ 1 = omega (arith, x, ha) in let f : b ≡ 1 = omega (arith, y, hb) in inr (inr (e, f, ones e f))))
        (cases_lt b 1))
        (cases_lt a 1)

    by : (a < 2) ⊎ (2 ≤ a) → (b < 2) ⊎ (2 ≤ b) → (2 ≤ a) ⊎ (2 ≤ b)
    by (inr x) y = inl x
    by (inl x) (inr y) = inr y
    by (inl x) (inl y) = absurd (false≢true (sym large ∙ plain a b c (small x y)))

pub not_open : (ranks : List ℕ) (terms : List TermDef) → AreOrdered ranks terms → (a c : ℕ) → IsNot ranks terms a c → is_plain_not a c ≡ false → 2 ≤ a
not_open ranks terms o a c i large = ⊎_elim (λ x. absurd (false≢true (sym large ∙ plain a c (small x)))) (λ more. more) (cases_lt a 2)
  where
    zero_is : a ≡ 0 → c ≡ 1
    zero_is e = constant ranks terms o c true i.negation (λ w size. i.is w size ∙ ap not (ap (λ n. cert_value terms n w) e ∙ value_zero terms w))

    one_is : a ≡ 1 → c ≡ 0
    one_is e = constant ranks terms o c false i.negation (λ w size. i.is w size ∙ ap not (ap (λ n. cert_value terms n w) e ∙ value_one terms w))

    plain : (a c : ℕ) → ((a ≡ 0) × (c ≡ 1)) ⊎ ((a ≡ 1) × (c ≡ 0)) → is_plain_not a c ≡ true
    plain a c (inl e) = (λ i. is_plain_not (e.0 i) (e.1 i))
    plain a c (inr e) = (λ i. is_plain_not (e.0 i) (e.1 i))

    small : a < 2 → ((a ≡ 0) × (c ≡ 1)) ⊎ ((a ≡ 1) × (c ≡ 0))
    small h = ⊎_elim (λ x. (let e : a ≡ 0 = omega (arith, x) in inl (e, zero_is e))) (λ x. (let e : a ≡ 1 = omega (arith, x, h) in inr (e, one_is e))) (cases_lt a 1)

-- a variable with the first rank of two terms has no later rank than their conjunction
and_first : (ranks : List ℕ) (terms : List TermDef) → AreOrdered ranks terms → (a b c v : ℕ) → AreRanks ranks → IsAnd ranks terms a b c → IsFirst ranks terms a b v →
    get_or ranks v 0 ≤ rank_of ranks terms c
and_first ranks terms o a b c v r i first =
    rank_from ranks terms o c (get_or ranks v 0) i.both (let x = r.below v first.within in omega (arith, x))
    (λ y x w inside less size. (let l = first.left in let m = first.right in
    i.is (set w y x) (length-set w y x ∙ size)
    ∙ (λ j. free ranks terms o a y x w i.left (omega (arith, less, l)) j && free ranks terms o b y x w i.right (omega (arith, less, m)) j)
    ∙ sym (i.is w size)))

pub and_parts : (ranks : List ℕ) (terms : List TermDef) → AreOrdered ranks terms → AreRanks ranks → (a b c v : ℕ) (x : Bool) → IsAnd ranks terms a b c → IsFirst ranks terms a b v →
    IsAnd ranks terms (part terms v x a) (part terms v x b) (part terms v x c)
and_parts ranks terms o r a b c v x i first = record {
  left = (let m = part_most ranks terms o v x a i.left in let l = i.left in omega (arith, m, l));
  right = (let m = part_most ranks terms o v x b i.right in let l = i.right in omega (arith, m, l));
  both = (let m = part_most ranks terms o v x c i.both in let l = i.both in omega (arith, m, l));
  is = λ w size.
      part_set ranks terms o r c v x w i.both first.within size (and_first ranks terms o a b c v r i first)
      ∙ i.is (set w v x) (length-set w v x ∙ size)
      ∙ (λ j. sym (part_set ranks terms o r a v x w i.left first.within size first.left) j && sym (part_set ranks terms o r b v x w i.right first.within size first.right) j);
}

pub not_parts : (ranks : List ℕ) (terms : List TermDef) → AreOrdered ranks terms → AreRanks ranks → (a c v : ℕ) (x : Bool) → IsNot ranks terms a c → v < length ranks → get_or ranks v 0 ≡ rank_of ranks terms a →
    IsNot ranks terms (part terms v x a) (part terms v x c)
not_parts ranks terms o r a c v x i inside same = record {
  of = (let m = part_most ranks terms o v x a i.of in let l = i.of in omega (arith, m, l));
  negation = (let m = part_most ranks terms o v x c i.negation in let l = i.negation in omega (arith, m, l));
  is = λ w size.
      part_set ranks terms o r c v x w i.negation inside size first
      ∙ i.is (set w v x) (length-set w v x ∙ size)
      ∙ ap not (sym (part_set ranks terms o r a v x w i.of inside size (omega (arith, same))));
}
  where
    first : get_or ranks v 0 ≤ rank_of ranks terms c
    first =
        rank_from ranks terms o c (get_or ranks v 0) i.negation (let y = r.below v inside in omega (arith, y))
        (λ y b w within less size. i.is (set w y b) (length-set w y b ∙ size) ∙ ap not (free ranks terms o a y b w i.of (omega (arith, less, same))) ∙ sym (i.is w size))

-- ---- the lines

pub makes_kept : (s t : Proof) (c : Claim) (p : ℕ) → KeepsClaims s t → HasClaim s c p → HasClaim t c p
makes_kept s t c p k m =
    let front : take (length s.steps) (map claim_of t.steps) ≡ map claim_of s.steps = take-map claim_of (length s.steps) t.steps ∙ ap (map claim_of) k.steps in
    let inside = slice_get_within (map claim_of s.steps) p c m in
    let less : p < length s.steps = (let l = length-map s.steps claim_of in omega (arith, inside, l)) in
    let within : p < length (map claim_of t.steps) = (let l = length-map t.steps claim_of in let x = k.more in omega (arith, less, l, x)) in
    let cert_value : get_or (map claim_of t.steps) p c ≡ c =
    sym (get_or-take (length s.steps) (map claim_of t.steps) p c less) ∙ ap (λ (xs : List Claim). get_or xs p c) front ∙ get_or_from_slice_get (map claim_of s.steps) p c c m in
    slice_get-get_or (map claim_of t.steps) p c within ∙ ap Some cert_value

claim_within : (s : Proof) (c : Claim) (p : ℕ) → HasClaim s c p → ltb p (length (facts_behind s.terms s.steps).claims) ≡ true
claim_within s c p m = lt-ltb p (length (map claim_of s.steps)) (slice_get_within (map claim_of s.steps) p c m)

terms_within : (terms : List TermDef) (a b c : ℕ) → a < length terms + 2 → b < length terms + 2 → c < length terms + 2 →
    (ltb a (length terms + 2) && (ltb b (length terms + 2) && ltb c (length terms + 2))) ≡ true
terms_within terms a b c h i j =
    and_from (ltb a (length terms + 2)) (ltb b (length terms + 2) && ltb c (length terms + 2)) (lt-ltb a (length terms + 2) h)
    (and_from (ltb b (length terms + 2)) (ltb c (length terms + 2)) (lt-ltb b (length terms + 2) i) (lt-ltb c (length terms + 2) j))

pub and_plain : (s : Proof) (a b c : ℕ) → IsAnd s.ranks s.terms a b c → is_plain_and a b c ≡ true → IsProved (length s.ranks) s.terms s.steps (And a b c)
and_plain s a b c i plain = record { makes = refl; names = terms_within s.terms a b c i.left i.right i.both; justified = plain }

pub not_plain : (s : Proof) (a c : ℕ) → IsNot s.ranks s.terms a c → is_plain_not a c ≡ true → IsProved (length s.ranks) s.terms s.steps (Not a c)
not_plain s a c i plain = record {
  makes = refl;
  names = and_from (ltb a (length s.terms + 2)) (ltb c (length s.terms + 2)) (lt-ltb a (length s.terms + 2) i.of) (lt-ltb c (length s.terms + 2) i.negation);
  justified = plain;
}

cases_within : (s : Proof) (v low high : ℕ) (c d : Claim) → v < length s.ranks → HasClaim s c low → HasClaim s d high →
    (ltb v (length s.ranks) && (ltb low (length (map claim_of s.steps)) && ltb high (length (map claim_of s.steps)))) ≡ true
cases_within s v low high c d inside l h =
    and_from (ltb v (length s.ranks)) (ltb low (length (map claim_of s.steps)) && ltb high (length (map claim_of s.steps))) (lt-ltb v (length s.ranks) inside)
    (and_from (ltb low (length (map claim_of s.steps))) (ltb high (length (map claim_of s.steps))) (claim_within s c low l) (claim_within s d high h))

pub and_cases : (s : Proof) (a b c v low high : ℕ) → IsAnd s.ranks s.terms a b c → v < length s.ranks →
    HasClaim s (claim.And (part s.terms v false a) (part s.terms v false b) (part s.terms v false c)) low →
    HasClaim s (claim.And (part s.terms v true a) (part s.terms v true b) (part s.terms v true c)) high →
    IsProved (length s.ranks) s.terms s.steps (AndCases a b c v low high)
and_cases s a b c v low high i inside l h = record {
  makes = refl;
  names = and_from (ltb a (length s.terms + 2) && (ltb b (length s.terms + 2) && ltb c (length s.terms + 2)))
      (ltb v (length s.ranks) && (ltb low (length (map claim_of s.steps)) && ltb high (length (map claim_of s.steps))))
      (terms_within s.terms a b c i.left i.right i.both)
      (cases_within s v low high (claim.And (part s.terms v false a) (part s.terms v false b) (part s.terms v false c)) (claim.And (part s.terms v true a) (part s.terms v true b) (part s.terms v true c)) inside l h);
  justified = and_from
      (claims (slice_get (map claim_of s.steps) low) (claim.And (part s.terms v false a) (part s.terms v false b) (part s.terms v false c)))
      (claims (slice_get (map claim_of s.steps) high) (claim.And (part s.terms v true a) (part s.terms v true b) (part s.terms v true c)))
      (claims_from (slice_get (map claim_of s.steps) low) (claim.And (part s.terms v false a) (part s.terms v false b) (part s.terms v false c)) l)
      (claims_from (slice_get (map claim_of s.steps) high) (claim.And (part s.terms v true a) (part s.terms v true b) (part s.terms v true c)) h);
}

pub not_cases : (s : Proof) (a c v low high : ℕ) → IsNot s.ranks s.terms a c → v < length s.ranks →
    HasClaim s (claim.Not (part s.terms v false a) (part s.terms v false c)) low →
    HasClaim s (claim.Not (part s.terms v true a) (part s.terms v true c)) high →
    IsProved (length s.ranks) s.terms s.steps (NotCases a c v low high)
not_cases s a c v low high i inside l h = record {
  makes = refl;
  names = and_from (ltb a (length s.terms + 2) && ltb c (length s.terms + 2))
      (ltb v (length s.ranks) && (ltb low (length (map claim_of s.steps)) && ltb high (length (map claim_of s.steps))))
      (and_from (ltb a (length s.terms + 2)) (ltb c (length s.terms + 2)) (lt-ltb a (length s.terms + 2) i.of) (lt-ltb c (length s.terms + 2) i.negation))
      (cases_within s v low high (claim.Not (part s.terms v false a) (part s.terms v false c)) (claim.Not (part s.terms v true a) (part s.terms v true c)) inside l h);
  justified = and_from
      (claims (slice_get (map claim_of s.steps) low) (claim.Not (part s.terms v false a) (part s.terms v false c)))
      (claims (slice_get (map claim_of s.steps) high) (claim.Not (part s.terms v true a) (part s.terms v true c)))
      (claims_from (slice_get (map claim_of s.steps) low) (claim.Not (part s.terms v false a) (part s.terms v false c)) l)
      (claims_from (slice_get (map claim_of s.steps) high) (claim.Not (part s.terms v true a) (part s.terms v true c)) h);
}

-- ---- the calls of `and`

pub and_call : (s : Proof) (a b c v : ℕ) (x : Bool) (left right both : ℕ) → AreRanks s.ranks → AreOrdered s.ranks s.terms → IsAnd s.ranks s.terms a b c → IsFirst s.ranks s.terms a b v →
    left ≡ part s.terms v x a → right ≡ part s.terms v x b → both ≡ part s.terms v x c →
    (left + right < a + b) × (AreRanks s.ranks × (AreOrdered s.ranks s.terms × IsAnd s.ranks s.terms left right both))
and_call s a b c v x left right both r o i first l m n =
    let less = parts_less s.ranks s.terms o r a b v x i.left i.right first in
    let is : IsAnd s.ranks s.terms left right both =
    subst (λ y. IsAnd s.ranks s.terms left right y) (sym n) (subst (λ y. IsAnd s.ranks s.terms left y (part s.terms v x c)) (sym m)
    (subst (λ y. IsAnd s.ranks s.terms y (part s.terms v x b) (part s.terms v x c)) (sym l) (and_parts s.ranks s.terms o r a b c v x i first))) in
    (omega (arith, less, l, m), (r, (o, is)))

-- the same, after more claims
pub and_next : (s t : Proof) (a b c v : ℕ) (x : Bool) (left right both : ℕ) → KeepsClaims s t → AreRanks s.ranks → AreOrdered s.ranks s.terms → IsAnd s.ranks s.terms a b c → IsFirst s.ranks s.terms a b v →
    left ≡ part t.terms v x a → right ≡ part t.terms v x b → both ≡ part t.terms v x c →
    (left + right < a + b) × (AreRanks t.ranks × (AreOrdered t.ranks t.terms × IsAnd t.ranks t.terms left right both))
and_next s t a b c v x left right both k r o i first l m n =
    and_call t a b c v x left right both
    (subst AreRanks (sym k.ranks) r)
    (subst (λ (l : List ℕ). AreOrdered l t.terms) (sym k.ranks) (subst (λ (m : List TermDef). AreOrdered s.ranks m) (sym k.terms) o))
    (subst (λ (l : List ℕ). IsAnd l t.terms a b c) (sym k.ranks) (subst (λ (m : List TermDef). IsAnd s.ranks m a b c) (sym k.terms) i))
    (subst (λ (l : List ℕ). IsFirst l t.terms a b v) (sym k.ranks) (subst (λ (m : List TermDef). IsFirst s.ranks m a b v) (sym k.terms) first))
    l m n

-- the line by cases, after the claims for both
pub cases_next : (s t u : Proof) (a b c v low high : ℕ) (al bl cl ah bh ch : ℕ) → KeepsClaims s t → KeepsClaims t u → IsAnd s.ranks s.terms a b c → IsFirst s.ranks s.terms a b v →
    al ≡ part s.terms v false a → bl ≡ part s.terms v false b → cl ≡ part s.terms v false c → ah ≡ part t.terms v true a → bh ≡ part t.terms v true b → ch ≡ part t.terms v true c →
    HasClaim t (claim.And al bl cl) low → HasClaim u (claim.And ah bh ch) high → IsProved (length u.ranks) u.terms u.steps (AndCases a b c v low high)
cases_next s t u a b c v low high al bl cl ah bh ch k k2 i first l1 l2 l3 h1 h2 h3 low_is high_is =
    let terms : u.terms ≡ s.terms = k2.terms ∙ k.terms in
    let ranks : u.ranks ≡ s.ranks = k2.ranks ∙ k.ranks in
    and_cases u a b c v low high
    (subst (λ (l : List ℕ). IsAnd l u.terms a b c) (sym ranks) (subst (λ (m : List TermDef). IsAnd s.ranks m a b c) (sym terms) i))
    (subst (λ (l : List ℕ). v < length l) (sym ranks) first.within)
    (makes_kept t u (claim.And (part u.terms v false a) (part u.terms v false b) (part u.terms v false c)) low k2
    (low_is ∙ ap Some (λ j. claim.And ((l1 ∙ ap (λ (m : List TermDef). part m v false a) (sym terms)) j) ((l2 ∙ ap (λ (m : List TermDef). part m v false b) (sym terms)) j) ((l3 ∙ ap (λ (m : List TermDef). part m v false c) (sym terms)) j))))
    (high_is ∙ ap Some (λ j. claim.And ((h1 ∙ ap (λ (m : List TermDef). part m v true a) (sym k2.terms)) j) ((h2 ∙ ap (λ (m : List TermDef). part m v true b) (sym k2.terms)) j) ((h3 ∙ ap (λ (m : List TermDef). part m v true c) (sym k2.terms)) j)))

-- ---- the calls of `not`

pub not_call : (s : Proof) (a c : ℕ) (x : Bool) (of negation : ℕ) → AreRanks s.ranks → AreOrdered s.ranks s.terms → IsNot s.ranks s.terms a c → 2 ≤ a →
    of ≡ part s.terms (variable_of s.terms a) x a → negation ≡ part s.terms (variable_of s.terms a) x c →
    (of < a) × (AreRanks s.ranks × (AreOrdered s.ranks s.terms × IsNot s.ranks s.terms of negation))
not_call s a c x of negation r o i large l n =
    let v = variable_rank s.ranks s.terms o a i.of large in
    let less = part_less s.ranks s.terms o r (variable_of s.terms a) x a i.of v.0 v.1 in
    let is : IsNot s.ranks s.terms of negation =
    subst (λ y. IsNot s.ranks s.terms of y) (sym n) (subst (λ y. IsNot s.ranks s.terms y (part s.terms (variable_of s.terms a) x c)) (sym l)
    (not_parts s.ranks s.terms o r a c (variable_of s.terms a) x i v.0 v.1)) in
    (omega (arith, less, l), (r, (o, is)))

pub not_next : (s t : Proof) (a c v : ℕ) (x : Bool) (of negation : ℕ) → KeepsClaims s t → AreRanks s.ranks → AreOrdered s.ranks s.terms → IsNot s.ranks s.terms a c → 2 ≤ a → v ≡ variable_of s.terms a →
    of ≡ part t.terms v x a → negation ≡ part t.terms v x c →
    (of < a) × (AreRanks t.ranks × (AreOrdered t.ranks t.terms × IsNot t.ranks t.terms of negation))
not_next s t a c v x of negation k r o i large var l n =
    let same : v ≡ variable_of t.terms a = var ∙ ap (λ (m : List TermDef). variable_of m a) (sym k.terms) in
    not_call t a c x of negation
    (subst AreRanks (sym k.ranks) r)
    (subst (λ (l : List ℕ). AreOrdered l t.terms) (sym k.ranks) (subst (λ (m : List TermDef). AreOrdered s.ranks m) (sym k.terms) o))
    (subst (λ (l : List ℕ). IsNot l t.terms a c) (sym k.ranks) (subst (λ (m : List TermDef). IsNot s.ranks m a c) (sym k.terms) i))
    large
    (l ∙ ap (λ y. part t.terms y x a) same)
    (n ∙ ap (λ y. part t.terms y x c) same)

pub not_cases_next : (s t u : Proof) (a c v low high : ℕ) (al cl ah ch : ℕ) → AreOrdered s.ranks s.terms → KeepsClaims s t → KeepsClaims t u → IsNot s.ranks s.terms a c → 2 ≤ a → v ≡ variable_of s.terms a →
    al ≡ part s.terms v false a → cl ≡ part s.terms v false c → ah ≡ part t.terms v true a → ch ≡ part t.terms v true c →
    HasClaim t (claim.Not al cl) low → HasClaim u (claim.Not ah ch) high → IsProved (length u.ranks) u.terms u.steps (NotCases a c v low high)
not_cases_next s t u a c v low high al cl ah ch o k k2 i large var l1 l3 h1 h3 low_is high_is =
    let terms : u.terms ≡ s.terms = k2.terms ∙ k.terms in
    let ranks : u.ranks ≡ s.ranks = k2.ranks ∙ k.ranks in
    let inside : v < length s.ranks = (let x = variable_rank s.ranks s.terms o a i.of large in let y = x.0 in omega (arith, var, y)) in
    not_cases u a c v low high
    (subst (λ (l : List ℕ). IsNot l u.terms a c) (sym ranks) (subst (λ (m : List TermDef). IsNot s.ranks m a c) (sym terms) i))
    (subst (λ (l : List ℕ). v < length l) (sym ranks) inside)
    (makes_kept t u (claim.Not (part u.terms v false a) (part u.terms v false c)) low k2
    (low_is ∙ ap Some (λ j. claim.Not ((l1 ∙ ap (λ (m : List TermDef). part m v false a) (sym terms)) j) ((l3 ∙ ap (λ (m : List TermDef). part m v false c) (sym terms)) j))))
    (high_is ∙ ap Some (λ j. claim.Not ((h1 ∙ ap (λ (m : List TermDef). part m v true a) (sym k2.terms)) j) ((h3 ∙ ap (λ (m : List TermDef). part m v true c) (sym k2.terms)) j)))
