-- A text that continues with right lines: one more of them, and its end.
use Rattle.std.proofs.Common.{◌≡◌, ◌≢◌, ◌⊎◌, ℕ, ◌+◌, ◌-◌, ◌*◌, ◌<◌, ◌≤◌, Bool, true, false, not, cond, List, [], ◌∷◌, ◌++◌, length, take, drop, slice_get, Some, None, refl, sym, ap, ◌∙◌, subst, inl, inr, ⊎_elim, append_assoc, length-append, arith}
use Rattle.std.proofs.lemmas.List.{append-nil, length-drop, take-append-le, take_all, take_rest, length_push}
use Rattle.std.proofs.lemmas.Option.{none-some, same_Some, slice_get_within}
use Rattle.nets.specs.Nets.{Gates}
use Rattle.pipe_motion.specs.declared.settings.Settings.{Settings}
use Rattle.cert_checker.specs.declared.demands.Demands.{Demands}
use Rattle.cert_checker.specs.declared.fault.CertWhy.{CertWhy}
use Rattle.cert_checker.specs.declared.fault.CertWhy.TheVariants as why
use Rattle.cert_checker.specs.declared.line.CertLine.{CertLine}
use Rattle.cert_checker.specs.declared.line.CertLine.TheVariants.{Term, And, AndCases, Not, NotCases, Gate, GateBy}
use Rattle.std.specs.Fmt.{decimal}
use Rattle.cert_checker.specs.CheckerFacts.{CheckerFacts, after, after_all, facts_of, nothing}
use Rattle.cert_checker.specs.Lines.{IsLine, line_text, lines_text, numbers_of, numbers_text}
use Rattle.cert_checker.specs.Rules.{gate_matches, flaw, is_justified, names}
use Rattle.cert_checker.specs.Certificates.{AreRight, AreSeven, BeginsWith, HasRightLines, IsRefusal, StatesSettings, IsEndFault, fault_at, head_text, syntax_at}
use Rattle.cert_checker.proofs.Sound.{facts_push, pushed}
use Rattle.cert_checker.proofs.Lines.{line_begins}

-- the checker's position: after some right lines, with the facts that they make
pub record IsAt (g : Demands) (text : List ℕ) (known : CheckerFacts) (rest : List ℕ) (line : ℕ) : Type 0 where
  pub lines : List CertLine
  pub goes_on : HasRightLines g text lines rest
  pub facts : known ≡ facts_of lines
  pub number : line ≡ length lines + 3
  pub few : 3 * length lines + length rest ≤ length text

text_push : (lines : List CertLine) (line : CertLine) → lines_text (lines ++ line ∷ []) ≡ lines_text lines ++ line_text line
unfolding lines_text
text_push [] line = append-nil (line_text line)
text_push (first ∷ lines) line = ap (λ (xs : List ℕ). line_text first ++ xs) (text_push lines line) ∙ sym (append_assoc (line_text first) (lines_text lines) (line_text line))

right_push : (net : Gates) (lines : List CertLine) (line : CertLine) → AreRight net lines → flaw net (facts_of lines) line ≡ None → AreRight net (lines ++ line ∷ [])
right_push net lines line right one k x is = ⊎_elim old new (pushed lines line x k is)
  where
    old : slice_get lines k ≡ Some x → flaw net (facts_of (take k (lines ++ line ∷ []))) x ≡ None
    old e =
        let h : k < length lines = slice_get_within lines k x e in
        ap (λ (ls : List CertLine). flaw net (facts_of ls) x) (take-append-le k lines (line ∷ []) (omega arith)) ∙ right k x e

    new : (k ≡ length lines) × (x ≡ line) → flaw net (facts_of (take k (lines ++ line ∷ []))) x ≡ None
    new e =
        let h : k ≤ length lines = (let a = e.0 in omega arith) in
        let front : take k (lines ++ line ∷ []) ≡ lines = take-append-le k lines (line ∷ []) h ∙ take_all k lines (let a = e.0 in omega arith) in
        (λ i. flaw net (facts_of (front i)) (e.1 i)) ∙ one

-- one more right line
pub goes_further : (g : Demands) (text : List ℕ) (lines : List CertLine) (rest behind : List ℕ) (line : CertLine) → HasRightLines g text lines rest → IsLine line →
    flaw g.net (facts_of lines) line ≡ None → rest ≡ line_text line ++ behind → HasRightLines g text (lines ++ line ∷ []) behind
goes_further g text lines rest behind line o is one whole = record {
  seven = o.seven;
  each = λ k x e. ⊎_elim (λ old. o.each k x old) (λ new. subst IsLine (sym new.1) is) (pushed lines line x k e);
  right = right_push g.net lines line o.right one;
  whole =
      o.whole
      ∙ ap (λ (xs : List ℕ). head_text g.settings ++ xs)
      (ap (λ (xs : List ℕ). lines_text lines ++ xs) whole ∙ sym (append_assoc (lines_text lines) (line_text line) behind)
      ∙ ap (λ (xs : List ℕ). xs ++ behind) (sym (text_push lines line)));
}

one_byte : (ns : List ℕ) → 1 ≤ length (numbers_text ns)
one_byte [] = omega arith
one_byte (n ∷ ns) = omega arith

two_bytes : (n : ℕ) (ns : List ℕ) → 2 ≤ length (numbers_text (n ∷ ns))
two_bytes n ns = omega (arith, length-append (decimal n) (numbers_text ns), one_byte ns)

some_bytes : (line : CertLine) → 2 ≤ length (numbers_text (numbers_of line))
some_bytes (Term v l h) = two_bytes v (l ∷ h ∷ [])
some_bytes (And a b c) = two_bytes a (b ∷ c ∷ [])
some_bytes (AndCases a b c v p q) = two_bytes a (b ∷ c ∷ v ∷ p ∷ q ∷ [])
some_bytes (Not a c) = two_bytes a (c ∷ [])
some_bytes (NotCases a c v p q) = two_bytes a (c ∷ v ∷ p ∷ q ∷ [])
some_bytes (Gate t) = two_bytes t []
some_bytes (GateBy t p) = two_bytes t (p ∷ [])

-- a line has at least three bytes
pub line_length : (line : CertLine) (rest behind : List ℕ) → rest ≡ line_text line ++ behind → length behind + 3 ≤ length rest
line_length line rest behind e =
    omega (arith, ap length (line_begins rest behind line e), length-append (numbers_text (numbers_of line)) behind, some_bytes line)

pub at_next : (g : Demands) (text : List ℕ) (known : CheckerFacts) (rest behind : List ℕ) (number : ℕ) (line : CertLine) (next : CheckerFacts) → IsAt g text known rest number → IsLine line →
    flaw g.net known line ≡ None → next ≡ after known line → rest ≡ line_text line ++ behind → IsAt g text next behind (number + 1)
at_next g text known rest behind number line next at is one taken whole =
    let size = length_push at.lines line in
    let shorter = line_length line rest behind whole in
    record {
      lines = at.lines ++ line ∷ [];
      goes_on = goes_further g text at.lines rest behind line at.goes_on is (ap (λ (k : CheckerFacts). flaw g.net k line) (sym at.facts) ∙ one) whole;
      facts = taken ∙ ap (λ (k : CheckerFacts). after k line) at.facts ∙ sym (facts_push at.lines line);
      number = (let n = at.number in omega (arith, n, size));
      few = (let f = at.few in omega (arith, f, size, shorter));
    }

-- where the head ends
pub at_first : (g : Demands) (text : List ℕ) (settings : Settings) → StatesSettings text settings (drop 56 text) → settings ≡ g.settings → 56 ≤ length text →
    IsAt g text nothing (take (length text - 56) (drop 56 text)) 3
unfolding after_all lines_text
at_first g text settings states same long =
    let behind : take (length text - 56) (drop 56 text) ≡ drop 56 text = take_rest text 56 in
    record {
      lines = [];
      goes_on = record {
        seven = subst AreSeven same states.seven;
        each = λ k line e. absurd (none-some line e);
        right = λ k line e. absurd (none-some line e);
        whole = states.whole ∙ (λ i. head_text (same i) ++ sym behind i);
      };
      facts = refl;
      number = refl;
      few = omega (arith, ap length behind, length-drop 56 text);
    }

-- the head states other settings
pub states_others : (g : Demands) (text : List ℕ) (settings : Settings) (rest : List ℕ) → StatesSettings text settings rest → settings ≢ g.settings → IsRefusal g text (syntax_at 2)
states_others g text settings rest states others = inr (inl (record { is = refl; settings = settings; rest = rest; states = states; others = others }))

-- the error in a line is in its numbers, its claim or its gate
of_three : (a b c : Bool) (w : CertWhy) → cond (not a) (Some why.Number) (cond (not b) (Some why.Claim) (cond (not c) (Some why.Gate) None)) ≡ Some w →
    (w ≡ why.Number) ⊎ ((w ≡ why.Claim) ⊎ (w ≡ why.Gate))
of_three true true true w e = absurd (none-some w e)
of_three true true false w e = inr (inr (sym (same_Some why.Gate w e)))
of_three true false c w e = inr (inl (sym (same_Some why.Claim w e)))
of_three false b c w e = inl (sym (same_Some why.Number w e))

three : (net : Gates) (k : CheckerFacts) (line : CertLine) (w : CertWhy) → flaw net k line ≡ Some w → (w ≡ why.Number) ⊎ ((w ≡ why.Claim) ⊎ (w ≡ why.Gate))
unfolding flaw
three net k line w e = of_three (names net.vars k line) (is_justified k line) (gate_matches net k line) w e

-- a line that is wrong
pub stops_at : (g : Demands) (text : List ℕ) (known : CheckerFacts) (rest behind : List ℕ) (number : ℕ) (line : CertLine) (w : CertWhy) → IsAt g text known rest number → IsLine line →
    rest ≡ line_text line ++ behind → flaw g.net known line ≡ Some w → IsRefusal g text (fault_at number w)
stops_at g text known rest behind number line w at is whole wrong =
    inr (inr (inl (record { lines = at.lines; rest = rest; goes_on = at.goes_on; stops = by (three g.net (facts_of at.lines) line w told); line = at.number })))
  where
    told : flaw g.net (facts_of at.lines) line ≡ Some w
    told = ap (λ (k : CheckerFacts). flaw g.net k line) (sym at.facts) ∙ wrong

    begins : BeginsWith rest line
    begins = record { rest = behind; is = is; whole = whole }

    by : (w ≡ why.Number) ⊎ ((w ≡ why.Claim) ⊎ (w ≡ why.Gate)) → IsEndFault g at.lines rest w
    by (inl e) = subst (IsEndFault g at.lines rest) (sym e) (line, begins, told ∙ ap Some e)
    by (inr (inl e)) = subst (IsEndFault g at.lines rest) (sym e) (line, begins, told ∙ ap Some e)
    by (inr (inr e)) = subst (IsEndFault g at.lines rest) (sym e) (line, begins, told ∙ ap Some e)
