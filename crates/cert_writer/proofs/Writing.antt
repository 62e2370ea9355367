-- One more right line.
use Rattle.std.proofs.Common.{◌≡◌, ℕ, ◌+◌, ◌<◌, ◌≤◌, true, not, ◌&&◌, cond, ltb, List, [], ◌∷◌, ◌++◌, length, map, take, get_or, slice_get, Option, Some, None, refl, sym, ap, ◌∙◌, subst, append_assoc, arith}
use Rattle.std.proofs.lemmas.Bool.{and_from, eq-eqb, false≢true, lt-ltb}
use Rattle.std.proofs.lemmas.List.{append-nil, get_or_default, get_or-take, length-take-le, map_more, take_all, take_more}
use Rattle.std.proofs.lemmas.Option.{slice_get-get_or, slice_get_within}
use Rattle.nets.specs.Nets.{Gates, ReadsEarlier}
use Rattle.nets.specs.declared.net.Gate.{Gate}
use Rattle.nets.specs.declared.net.Gate.TheVariants as gate
use Rattle.cert_checker.specs.Certificates.{AreSeven, CertOk, HasRightLines, head_text, last_line}
use Rattle.cert_checker.specs.CheckerFacts.{CheckerFacts, after, facts_of, nothing}
use Rattle.cert_checker.specs.CheckerFacts as spec
use Rattle.cert_checker.specs.Lines.{IsLine, line_text, lines_text}
use Rattle.cert_checker.specs.Rules.{and_claims, gate_matches, gate_matches_by, gate_matches_plainly, flaw, is_justified, names, not_claims}
use Rattle.cert_checker.specs.declared.demands.Demands.{Demands}
use Rattle.cert_checker.specs.declared.fault.CertWhy.TheVariants as why
use Rattle.cert_checker.specs.declared.known.Claim.{Claim}
use Rattle.cert_checker.specs.declared.known.Claim.TheVariants as claim
use Rattle.cert_checker.specs.declared.known.TermDef.{TermDef}
use Rattle.cert_checker.specs.declared.line.CertLine.{CertLine}
use Rattle.cert_checker.specs.declared.line.CertLine.TheVariants as line
use Rattle.cert_checker.proofs.Going.{goes_further}
use Rattle.cert_checker.proofs.Sound.{facts_push}
use Rattle.cert_writer.specs.Proofs.{AreProved, HasClaim, Proof, claim_of, is_claim_line}
use Rattle.cert_writer.specs.Writing.{AreGates, AreNamed, IsCertificatePrefix, facts_with, gate_line}
use Rattle.cert_writer.proofs.Steps.{claims_from}

no_flaw : (net : Gates) (k : CheckerFacts) (l : CertLine) → names net.vars k l ≡ true → is_justified k l ≡ true → gate_matches net k l ≡ true → flaw net k l ≡ None
unfolding flaw
no_flaw net k l n j f =
    (λ i. cond (not (n i)) (Some why.Number) (cond (not (is_justified k l)) (Some why.Claim) (cond (not (gate_matches net k l)) (Some why.Gate) None)))
    ∙ (λ i. cond (not (j i)) (Some why.Claim) (cond (not (gate_matches net k l)) (Some why.Gate) None))
    ∙ (λ i. cond (not (f i)) (Some why.Gate) None)

pub wrote_start : (g : Demands) (text : List ℕ) → AreSeven g.settings → text ≡ head_text g.settings → IsCertificatePrefix g text nothing
unfolding lines_text spec.after_all
wrote_start g text seven e = record {
  lines = [];
  goes_on = record {
    seven = seven;
    each = λ k l is. absurd (none_at k l is);
    right = λ k l is. absurd (none_at k l is);
    whole = e ∙ sym (append-nil (head_text g.settings));
  };
  facts_are = refl;
}
  where
    none : List CertLine
    none = []

    none_at : (k : ℕ) (l : CertLine) → slice_get none k ≡ Some l → ⊥
    none_at k l is = (let h = slice_get_within none k l is in omega (arith, h))

pub wrote_more : (g : Demands) (text new : List ℕ) (facts : CheckerFacts) (l : CertLine) → IsCertificatePrefix g text facts → IsLine l → names g.net.vars facts l ≡ true → is_justified facts l ≡ true → gate_matches g.net facts l ≡ true →
    new ≡ text ++ line_text l → IsCertificatePrefix g new (after facts l)
wrote_more g text new facts l w is n j f e = record {
  lines = w.lines ++ l ∷ [];
  goes_on = goes_further g new w.lines (line_text l ++ []) [] l here is (ap (λ (k : CheckerFacts). flaw g.net k l) w.facts_are ∙ no_flaw g.net facts l n j f) refl;
  facts_are = facts_push w.lines l ∙ ap (λ (k : CheckerFacts). after k l) w.facts_are;
}
  where
    here : HasRightLines g new w.lines (line_text l ++ [])
    here = record {
      seven = w.goes_on.seven;
      each = w.goes_on.each;
      right = w.goes_on.right;
      whole =
          e ∙ ap (λ (xs : List ℕ). xs ++ line_text l) (w.goes_on.whole ∙ ap (λ (xs : List ℕ). head_text g.settings ++ xs) (append-nil (lines_text w.lines)))
          ∙ append_assoc (head_text g.settings) (lines_text w.lines) (line_text l)
          ∙ ap (λ (xs : List ℕ). head_text g.settings ++ (lines_text w.lines ++ xs)) (sym (append-nil (line_text l)));
    }

pub wrote_end : (g : Demands) (text new : List ℕ) (facts : CheckerFacts) → IsCertificatePrefix g text facts → length facts.gates ≡ length g.net.gates →
    ((k w : ℕ) → slice_get g.want k ≡ Some w → slice_get facts.gates w ≡ Some 1) → new ≡ text ++ last_line → CertOk g new
wrote_end g text new facts w all demanded e = record {
  lines = w.lines;
  goes_on = record {
    seven = w.goes_on.seven;
    each = w.goes_on.each;
    right = w.goes_on.right;
    whole =
        e ∙ ap (λ (xs : List ℕ). xs ++ last_line) (w.goes_on.whole ∙ ap (λ (xs : List ℕ). head_text g.settings ++ xs) (append-nil (lines_text w.lines)))
        ∙ append_assoc (head_text g.settings) (lines_text w.lines) last_line;
  };
  ends = record {
    all = ap (λ (k : CheckerFacts). length k.gates) w.facts_are ∙ all;
    demanded = λ k x is. ap (λ (f : CheckerFacts). slice_get f.gates x) w.facts_are ∙ demanded k x is;
  };
}

-- ---- terms

pub terms_start : (g : Demands) (text : List ℕ) (terms : List TermDef) → IsCertificatePrefix g text nothing → IsCertificatePrefix g text (facts_with (take 0 terms) [] [])
terms_start g text terms w = w

pub terms_end : (g : Demands) (text : List ℕ) (terms : List TermDef) (i : ℕ) → length terms ≤ i → IsCertificatePrefix g text (facts_with (take i terms) [] []) → IsCertificatePrefix g text (facts_with terms [] [])
terms_end g text terms i h w = subst (λ (xs : List TermDef). IsCertificatePrefix g text (facts_with xs [] [])) (take_all i terms h) w

pub term_more : (g : Demands) (text new : List ℕ) (terms : List TermDef) (i : ℕ) (m : TermDef) → AreNamed g.net.vars terms → i < length terms → m ≡ get_or terms i m → IsLine (line.Term m.var m.low m.high) →
    IsCertificatePrefix g text (facts_with (take i terms) [] []) → new ≡ text ++ line_text (line.Term m.var m.low m.high) → IsCertificatePrefix g new (facts_with (take (i + 1) terms) [] [])
term_more g text new terms i m named h at small w e =
    subst (λ (xs : List TermDef). IsCertificatePrefix g new (facts_with xs [] [])) (sym (take_more terms i m h ∙ ap (λ (x : TermDef). take i terms ++ x ∷ []) (sym at)))
    (wrote_more g text new (facts_with (take i terms) [] []) (line.Term m.var m.low m.high) w small names_are refl refl e)
  where
    is : slice_get terms i ≡ Some m
    is = slice_get-get_or terms i m h ∙ ap Some (sym at)

    size : length (take i terms) ≡ i
    size = length-take-le i terms (omega (arith, h))

    names_are : names g.net.vars (facts_with (take i terms) [] []) (line.Term m.var m.low m.high) ≡ true
    names_are =
        and_from (ltb m.var g.net.vars) (ltb m.low (length (take i terms) + 2) && ltb m.high (length (take i terms) + 2)) (lt-ltb m.var g.net.vars (named.var i m is))
        (and_from (ltb m.low (length (take i terms) + 2)) (ltb m.high (length (take i terms) + 2))
        (lt-ltb m.low (length (take i terms) + 2) (let x = named.low i m is in omega (arith, x, size)))
        (lt-ltb m.high (length (take i terms) + 2) (let x = named.high i m is in omega (arith, x, size))))

-- ---- claims

pub steps_start : (g : Demands) (text : List ℕ) (terms : List TermDef) (steps : List CertLine) → IsCertificatePrefix g text (facts_with terms [] []) → IsCertificatePrefix g text (facts_with terms (take 0 steps) [])
steps_start g text terms steps w = w

pub steps_end : (g : Demands) (text : List ℕ) (terms : List TermDef) (steps : List CertLine) (i : ℕ) → length steps ≤ i → IsCertificatePrefix g text (facts_with terms (take i steps) []) → IsCertificatePrefix g text (facts_with terms steps [])
steps_end g text terms steps i h w = subst (λ (xs : List CertLine). IsCertificatePrefix g text (facts_with terms xs [])) (take_all i steps h) w

-- a line that makes a claim matches every net, and leaves its claim
claim_fits : (net : Gates) (k : CheckerFacts) (l : CertLine) → is_claim_line l ≡ true → gate_matches net k l ≡ true
claim_fits net k (line.Term v l h) e = absurd (false≢true e)
claim_fits net k (line.And a b c) e = refl
claim_fits net k (line.AndCases a b c v p q) e = refl
claim_fits net k (line.Not a c) e = refl
claim_fits net k (line.NotCases a c v p q) e = refl
claim_fits net k (line.Gate t) e = absurd (false≢true e)
claim_fits net k (line.GateBy t p) e = absurd (false≢true e)

claim_after : (terms : List TermDef) (steps : List CertLine) (l : CertLine) → is_claim_line l ≡ true →
    after (facts_with terms steps []) l ≡ record { terms = terms; claims = map claim_of steps ++ claim_of l ∷ []; gates = [] }
claim_after terms steps (line.Term v l h) e = absurd (false≢true e)
claim_after terms steps (line.And a b c) e = refl
claim_after terms steps (line.AndCases a b c v p q) e = refl
claim_after terms steps (line.Not a c) e = refl
claim_after terms steps (line.NotCases a c v p q) e = refl
claim_after terms steps (line.Gate t) e = absurd (false≢true e)
claim_after terms steps (line.GateBy t p) e = absurd (false≢true e)

pub step_more : (g : Demands) (text new : List ℕ) (vars : ℕ) (terms : List TermDef) (steps : List CertLine) (i : ℕ) (l : CertLine) → vars ≡ g.net.vars → AreProved vars terms steps → i < length steps → l ≡ get_or steps i l → IsLine l →
    IsCertificatePrefix g text (facts_with terms (take i steps) []) → new ≡ text ++ line_text l → IsCertificatePrefix g new (facts_with terms (take (i + 1) steps) [])
step_more g text new vars terms steps i l same proved h at small w e =
    let is : slice_get steps i ≡ Some l = slice_get-get_or steps i l h ∙ ap Some (sym at) in
    let p = proved.each i l is in
    let behind : after (facts_with terms (take i steps) []) l ≡ facts_with terms (take (i + 1) steps) [] =
    claim_after terms (take i steps) l p.makes
    ∙ (λ j. record { terms = terms; claims = sym (map_more claim_of steps i l h ∙ ap (λ (x : CertLine). map claim_of (take i steps) ++ claim_of x ∷ []) (sym at)) j; gates = [] }) in
    subst (IsCertificatePrefix g new) behind
    (wrote_more g text new (facts_with terms (take i steps) []) l w small (ap (λ n. names n (facts_with terms (take i steps) []) l) (sym same) ∙ p.names) p.justified
    (claim_fits g.net (facts_with terms (take i steps) []) l p.makes) e)

-- ---- gates

pub gates_start : (g : Demands) (text : List ℕ) (terms : List TermDef) (steps : List CertLine) (gates : List ℕ) → IsCertificatePrefix g text (facts_with terms steps []) → IsCertificatePrefix g text (facts_with terms steps (take 0 gates))
gates_start g text terms steps gates w = w

pub gates_end : (g : Demands) (text : List ℕ) (terms : List TermDef) (steps : List CertLine) (gates : List ℕ) (i : ℕ) → length gates ≤ i → IsCertificatePrefix g text (facts_with terms steps (take i gates)) → IsCertificatePrefix g text (facts_with terms steps gates)
gates_end g text terms steps gates i h w = subst (λ (xs : List ℕ). IsCertificatePrefix g text (facts_with terms steps xs)) (take_all i gates h) w

module _ (g : Demands) (s : Proof) (gates by : List ℕ) (a : AreGates g.net s gates by) (i : ℕ) (h : i < length gates) where
  size : length (take i gates) ≡ i
  size = length-take-le i gates (omega (arith, h))

  within : get_or gates i 0 < length s.terms + 2
  within = a.within i (let e = a.size in omega (arith, h, e))

  earlier : (x : ℕ) → x < i → slice_get (take i gates) x ≡ Some (get_or gates x 0)
  earlier x l = slice_get-get_or (take i gates) x 0 (omega (arith, l, size)) ∙ ap Some (get_or-take i gates x 0 l)

  next : (gt : Gate) → slice_get g.net.gates i ≡ Some gt → slice_get g.net.gates (length (take i gates)) ≡ Some gt
  next gt is = ap (slice_get g.net.gates) size ∙ is

  term_named : ltb (get_or gates i 0) (length s.terms + 2) ≡ true
  term_named = lt-ltb (get_or gates i 0) (length s.terms + 2) within

  claim_named : (c : Claim) → HasClaim s c (get_or by i 0) → ltb (get_or by i 0) (length (map claim_of s.steps)) ≡ true
  claim_named c m = lt-ltb (get_or by i 0) (length (map claim_of s.steps)) (slice_get_within (map claim_of s.steps) (get_or by i 0) c m)

  both_named : (c : Claim) → HasClaim s c (get_or by i 0) → (ltb (get_or gates i 0) (length s.terms + 2) && ltb (get_or by i 0) (length (map claim_of s.steps))) ≡ true
  both_named c m = and_from (ltb (get_or gates i 0) (length s.terms + 2)) (ltb (get_or by i 0) (length (map claim_of s.steps))) term_named (claim_named c m)

  named : (gt : Gate) → slice_get g.net.gates i ≡ Some gt → names g.net.vars (facts_with s.terms s.steps (take i gates)) (gate_line gt (get_or gates i 0) (get_or by i 0)) ≡ true
  named (gate.Const b) is = term_named
  named (gate.Var v) is = term_named
  named (gate.Not x) is = both_named (claim.Not (get_or gates x 0) (get_or gates i 0)) (a.by i (gate.Not x) is)
  named (gate.And x y) is = both_named (claim.And (get_or gates x 0) (get_or gates y 0) (get_or gates i 0)) (a.by i (gate.And x y) is)

  justified : (gt : Gate) → is_justified (facts_with s.terms s.steps (take i gates)) (gate_line gt (get_or gates i 0) (get_or by i 0)) ≡ true
  justified (gate.Const b) = refl
  justified (gate.Var v) = refl
  justified (gate.Not x) = refl
  justified (gate.And x y) = refl

  fit : (gt : Gate) → slice_get g.net.gates i ≡ Some gt → ReadsEarlier g.net.vars i gt → gate_matches g.net (facts_with s.terms s.steps (take i gates)) (gate_line gt (get_or gates i 0) (get_or by i 0)) ≡ true
  fit (gate.Const b) is r =
      ap (gate_matches_plainly (facts_with s.terms s.steps (take i gates)) (get_or gates i 0)) (next (gate.Const b) is)
      ∙ eq-eqb (get_or gates i 0) (cond b 1 0) (a.plain i (gate.Const b) is)
  fit (gate.Var v) is r =
      ap (gate_matches_plainly (facts_with s.terms s.steps (take i gates)) (get_or gates i 0)) (next (gate.Var v) is)
      ∙ a.plain i (gate.Var v) is
  fit (gate.Not x) is r =
      ap (gate_matches_by (facts_with s.terms s.steps (take i gates)) (get_or gates i 0) (slice_get (map claim_of s.steps) (get_or by i 0))) (next (gate.Not x) is)
      ∙ ap (λ (o : Option ℕ). not_claims (slice_get (map claim_of s.steps) (get_or by i 0)) o (get_or gates i 0)) (earlier x (r.inverted x refl))
      ∙ claims_from (slice_get (map claim_of s.steps) (get_or by i 0)) (claim.Not (get_or gates x 0) (get_or gates i 0)) (a.by i (gate.Not x) is)
  fit (gate.And x y) is r =
      ap (gate_matches_by (facts_with s.terms s.steps (take i gates)) (get_or gates i 0) (slice_get (map claim_of s.steps) (get_or by i 0))) (next (gate.And x y) is)
      ∙ (λ j. and_claims (slice_get (map claim_of s.steps) (get_or by i 0)) (earlier x (r.left x y refl) j) (earlier y (r.right x y refl) j) (get_or gates i 0))
      ∙ claims_from (slice_get (map claim_of s.steps) (get_or by i 0)) (claim.And (get_or gates x 0) (get_or gates y 0) (get_or gates i 0)) (a.by i (gate.And x y) is)

  behind : (gt : Gate) → after (facts_with s.terms s.steps (take i gates)) (gate_line gt (get_or gates i 0) (get_or by i 0)) ≡ facts_with s.terms s.steps (take i gates ++ get_or gates i 0 ∷ [])
  behind (gate.Const b) = refl
  behind (gate.Var v) = refl
  behind (gate.Not x) = refl
  behind (gate.And x y) = refl

pub gate_more : (g : Demands) (text new : List ℕ) (s : Proof) (gates by : List ℕ) (i : ℕ) (gt : Gate) → AreGates g.net s gates by → i < length gates → slice_get g.net.gates i ≡ Some gt → ReadsEarlier g.net.vars i gt →
    IsLine (gate_line gt (get_or gates i 0) (get_or by i 0)) → IsCertificatePrefix g text (facts_with s.terms s.steps (take i gates)) → new ≡ text ++ line_text (gate_line gt (get_or gates i 0) (get_or by i 0)) →
    IsCertificatePrefix g new (facts_with s.terms s.steps (take (i + 1) gates))
gate_more g text new s gates by i gt a h is r small w e =
    subst (λ (k : CheckerFacts). IsCertificatePrefix g new k) (behind g s gates by a i h gt ∙ ap (facts_with s.terms s.steps) (sym (take_more gates i 0 h)))
    (wrote_more g text new (facts_with s.terms s.steps (take i gates)) (gate_line gt (get_or gates i 0) (get_or by i 0)) w small (named g s gates by a i h gt is)
    (justified g s gates by a i h gt) (fit g s gates by a i h gt is r) e)

-- an element that is read from a list is there
pub read_at : {A : Type 0} (xs : List A) (i : ℕ) (d : A) → i < length xs → get_or xs i d ≡ get_or xs i (get_or xs i d)
read_at xs i d h = get_or_default xs i d (get_or xs i d) h
