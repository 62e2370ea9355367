-- Terms and claims of gates.
use Rattle.std.proofs.Common.{◌≡◌, ◌⊎◌, inl, inr, ℕ, ◌+◌, ◌-◌, ◌<◌, ◌≤◌, Bool, true, false, ◌&&◌, ◌==◌, cond, ltb, List, [], ◌∷◌, ◌++◌, length, drop, get_or, replicate, slice_get, Option, Some, None, refl, sym, ap, ◌∙◌, subst, arith}
use Rattle.std.proofs.lemmas.Bool.{and_from, and_parts, cases_lt, eq-eqb, eqb-true, false≢true, le-ltb, lt-ltb}
use Rattle.std.proofs.lemmas.List.{get_or_append_left, get_or_push, length-append, length-replicate, take-append-drop, length_push}
use Rattle.std.proofs.lemmas.Option.{same_Some, slice_get-get_or}
use Rattle.nets.specs.Nets.{Gates, truth}
use Rattle.nets.specs.declared.net.Gate.{Gate}
use Rattle.nets.specs.declared.net.Gate.TheVariants as gate
use Rattle.bdd_core.specs.Diagrams.{Diagrams}
use Rattle.bdd_core.specs.Meaning.{Depends}
use Rattle.bdd_core.specs.declared.store.Dia.{Dia}
use Rattle.cert_checker.specs.Meaning.{cert_value}
use Rattle.cert_checker.specs.Rules.{is_made, made_at}
use Rattle.cert_checker.specs.declared.known.TermDef.{TermDef}
use Rattle.cert_checker.proofs.Values.{value_kept, value_made, value_one, value_zero}
use Rattle.cert_writer.specs.Nodes.{ExtendsTerms, IsDrawn, IsTermOf, IsTermTable, TermTable, no_dia}
use Rattle.cert_writer.specs.Terms.{AreOrdered}
use Rattle.cert_writer.specs.Writing.{AreGateTerms, MatchesPlainly, IsGateTerm}
use Rattle.cert_writer.proofs.Nodes.{made_kept, ordered_push}
use Rattle.cert_writer.proofs.Ordered.{Kinds, falsehood, truth as is_truth, made, kind_of}
use Rattle.cert_writer.proofs.Steps.{rank_none}

pub no_least : (s : Diagrams) (d : Dia) → (y : ℕ) → y < 0 → Depends s d y → ⊥
no_least s d y h = absurd (omega (arith, h))

-- ---- the term of a variable

variable_ordered : (ranks : List ℕ) (terms : List TermDef) (v : ℕ) → AreOrdered ranks terms → v < length ranks → get_or ranks v 0 < length ranks → AreOrdered ranks (terms ++ record { var = v; low = 0; high = 1 } ∷ [])
variable_ordered ranks terms v o h below =
    ordered_push ranks terms (record { var = v; low = 0; high = 1 }) o h (omega arith) (omega arith)
    (let r = rank_none ranks terms 0 (omega arith) in omega (arith, below, r))
    (let r = rank_none ranks terms 1 (omega arith) in omega (arith, below, r))
    (λ same. false≢true (sym (value_zero terms (replicate (length ranks) false)) ∙ same (replicate (length ranks) false) (length-replicate (length ranks) false) ∙ value_one terms (replicate (length ranks) false)))

pub variable_push : (w : TermTable) (v : ℕ) → IsTermTable w → v < length w.order → AreOrdered w.ranks (w.terms ++ record { var = v; low = 0; high = 1 } ∷ [])
variable_push w v i h =
    let size = (i.order).size in
    let below = (i.order).below v h in
    variable_ordered w.ranks w.terms v i.ordered (omega (arith, h, size)) (omega (arith, below, size))

made_last : (terms : List TermDef) (m : TermDef) → made_at (terms ++ m ∷ []) (length terms + 2) ≡ Some m
made_last terms m =
    let large : ltb (length terms + 2) 2 ≡ false = le-ltb (length terms + 2) 2 (omega arith) in
    let back : length terms + 2 - 2 ≡ length terms = omega arith in
    ap (λ b. cond b None (slice_get (terms ++ m ∷ []) (length terms + 2 - 2))) large
    ∙ ap (slice_get (terms ++ m ∷ [])) back
    ∙ slice_get-get_or (terms ++ m ∷ []) (length terms) m (omega (arith, length_push terms m))
    ∙ ap Some (get_or_push terms m m (length terms) refl)

made_self : (v low high : ℕ) → is_made (Some (record { var = v; low = low; high = high })) v low high ≡ true
made_self v low high = and_from (v == v) (low == low && high == high) (eq-eqb v v refl) (and_from (low == low) (high == high) (eq-eqb low low refl) (eq-eqb high high refl))

pub variable_pushed : (old new : List TermDef) (v t : ℕ) → t ≡ length old + 2 → new ≡ old ++ record { var = v; low = 0; high = 1 } ∷ [] → (t < length new + 2) × (is_made (made_at new t) v 0 1 ≡ true)
variable_pushed old new v t at e = (
  (let l = ap length e in let p = length_push old (record { var = v; low = 0; high = 1 }) in omega (arith, at, l, p)),
  (λ i. is_made (made_at (e i) (at i)) v 0 1) ∙ ap (λ (o : Option TermDef). is_made o v 0 1) (made_last old (record { var = v; low = 0; high = 1 })) ∙ made_self v 0 1,
)

-- a term that was made of a variable has its bit
variable_value : (ranks : List ℕ) (terms : List TermDef) (v t : ℕ) → AreOrdered ranks terms → t < length terms + 2 → is_made (made_at terms t) v 0 1 ≡ true → (w : List Bool) → cert_value terms t w ≡ get_or w v false
variable_value ranks terms v t o h is w = by (kind_of terms t h)
  where
    bit : (b : Bool) → cond b true false ≡ b
    bit true = refl
    bit false = refl

    none : t < 2 → ⊥
    none small = false≢true (ap (λ (x : Bool). is_made (cond x None (slice_get terms (t - 2))) v 0 1) (sym (lt-ltb t 2 small)) ∙ is)

    by : Kinds terms t → cert_value terms t w ≡ get_or w v false
    by (falsehood e) = absurd (none (omega (arith, e)))
    by (is_truth e) = absurd (none (omega (arith, e)))
    by (made k m e at made_is) =
        let parts = and_parts (m.var == v) (m.low == 0 && m.high == 1) (ap (λ (q : Option TermDef). is_made q v 0 1) (sym made_is) ∙ is) in
        let ends = and_parts (m.low == 0) (m.high == 1) parts.1 in
        let var : m.var ≡ v = eqb-true m.var v parts.0 in
        let low : m.low ≡ 0 = eqb-true m.low 0 ends.0 in
        let high : m.high ≡ 1 = eqb-true m.high 1 ends.1 in
        ap (λ n. cert_value terms n w) e
        ∙ value_made terms (record { low = o.low; high = o.high }) k m at w
        ∙ (λ i. cond (get_or w (var i) false) ((ap (λ n. cert_value terms n w) high ∙ value_one terms w) i) ((ap (λ n. cert_value terms n w) low ∙ value_zero terms w) i))
        ∙ bit (get_or w v false)

-- ---- the terms of gates

pub constant_term : (n : Gates) (vars : ℕ) (terms : List TermDef) (i : ℕ) (b : Bool) → slice_get n.gates i ≡ Some (gate.Const b) → ((w : List Bool) → truth n i w ≡ b) → IsGateTerm n vars terms i (cond b 1 0)
constant_term n vars terms i b is means = record {
  within = inside b;
  is = λ w size. known b w ∙ sym (means w);
  plain = λ g e. subst (MatchesPlainly terms (cond b 1 0)) (same_Some (gate.Const b) g (sym is ∙ e)) refl;
}
  where
    inside : (b : Bool) → cond b 1 0 < length terms + 2
    inside true = omega arith
    inside false = omega arith

    known : (b : Bool) (w : List Bool) → cert_value terms (cond b 1 0) w ≡ b
    known true w = value_one terms w
    known false w = value_zero terms w

pub variable_gate : (n : Gates) (w : TermTable) (i v t : ℕ) → IsTermTable w → slice_get n.gates i ≡ Some (gate.Var v) → ((u : List Bool) → truth n i u ≡ get_or u v false) → t < length w.terms + 2 →
    is_made (made_at w.terms t) v 0 1 ≡ true → IsGateTerm n (length w.order) w.terms i t
variable_gate n w i v t holds is means h made_is = record {
  within = h;
  is = λ u size. variable_value w.ranks w.terms v t holds.ordered h made_is u ∙ sym (means u);
  plain = λ g e. subst (MatchesPlainly w.terms t) (same_Some (gate.Var v) g (sym is ∙ e)) made_is;
}

pub other_term : (n : Gates) (w : TermTable) (dias : List Dia) (i t : ℕ) (g : Gate) → IsDrawn n w.order w.store dias → i < length n.gates → slice_get n.gates i ≡ Some g → MatchesPlainly w.terms t g →
    IsTermOf w.store w.order w.terms (get_or dias i no_dia) t → IsGateTerm n (length w.order) w.terms i t
other_term n w dias i t g d h is fits term = record {
  within = term.within;
  is = λ u size. term.is u size ∙ d.is i h u size;
  plain = λ x e. subst (MatchesPlainly w.terms t) (same_Some g x (sym is ∙ e)) fits;
}

-- the same after more terms
pub drawn_stays : (n : Gates) (a b : TermTable) (dias : List Dia) → ExtendsTerms a b → IsDrawn n a.order a.store dias → IsDrawn n b.order b.store dias
drawn_stays n a b dias g d = subst (λ (s : Diagrams). IsDrawn n b.order s dias) (sym g.store) (subst (λ (o : List ℕ). IsDrawn n o a.store dias) (sym g.order) d)

pub gates_none : (n : Gates) (vars : ℕ) (terms : List TermDef) (ts : List ℕ) → ts ≡ [] → AreGateTerms n vars terms ts 0
gates_none n vars terms ts e = record { size = ap length e; each = λ i h. absurd (omega (arith, h)) }

made_stays : (n : Gates) (a b : TermTable) (i t : ℕ) → ExtendsTerms a b → IsGateTerm n (length a.order) a.terms i t → IsGateTerm n (length b.order) b.terms i t
made_stays n a b i t g m =
    let more : List TermDef = drop (length a.terms) b.terms in
    let terms : b.terms ≡ a.terms ++ more = sym (take-append-drop (length a.terms) b.terms) ∙ ap (λ (xs : List TermDef). xs ++ drop (length a.terms) b.terms) g.terms in
    subst (λ k. IsGateTerm n k b.terms i t) (ap length (sym g.order)) (subst (λ (xs : List TermDef). IsGateTerm n (length a.order) xs i t) (sym terms) (kept more))
  where
    fits : (more : List TermDef) (g : Gate) → MatchesPlainly a.terms t g → MatchesPlainly (a.terms ++ more) t g
    fits more (gate.Const b) f = f
    fits more (gate.Var v) f = ap (λ (o : Option TermDef). is_made o v 0 1) (made_kept a.terms more t m.within) ∙ f
    fits more (gate.Not x) f = f
    fits more (gate.And x y) f = f

    kept : (more : List TermDef) → IsGateTerm n (length a.order) (a.terms ++ more) i t
    kept more = record {
      within = (let w = m.within in omega (arith, w, length-append a.terms more));
      is = λ u size. value_kept a.terms more t u m.within ∙ m.is u size;
      plain = λ g e. fits more g (m.plain g e);
    }

pub gates_more : (n : Gates) (a b : TermTable) (old new : List ℕ) (i t : ℕ) → ExtendsTerms a b → AreGateTerms n (length a.order) a.terms old i → IsGateTerm n (length b.order) b.terms i t → new ≡ old ++ t ∷ [] →
    AreGateTerms n (length b.order) b.terms new (i + 1)
gates_more n a b old new i t g all one e = subst (λ (xs : List ℕ). AreGateTerms n (length b.order) b.terms xs (i + 1)) (sym e) (record {
  size = (let s = all.size in let l = length_push old t in omega (arith, s, l));
  each = λ j h. by j h (cases_lt j i);
})
  where
    by : (j : ℕ) → j < i + 1 → (j < i) ⊎ (i ≤ j) → IsGateTerm n (length b.order) b.terms j (get_or (old ++ t ∷ []) j 0)
    by j h (inl less) =
        subst (λ k. IsGateTerm n (length b.order) b.terms j k) (sym (get_or_append_left old (t ∷ []) 0 j (let s = all.size in omega (arith, less, s))))
        (made_stays n a b j (get_or old j 0) g (all.each j less))
    by j h (inr past) =
        let same : i ≡ j = omega (arith, h, past) in
        subst (λ k. IsGateTerm n (length b.order) b.terms j k) (sym (get_or_push old t 0 j (all.size ∙ same))) (subst (λ k. IsGateTerm n (length b.order) b.terms k t) same one)
