-- Lines and their kinds, and the one line that a text begins with.
use Rattle.std.proofs.Common.{◌≡◌, ℕ, ◌-◌, ◌<◌, false, cond, eqb, List, [], ◌∷◌, ◌++◌, length, take, drop, get_or, Option, Some, None, refl, sym, ap, ◌∙◌, subst, arith}
use Rattle.std.proofs.lemmas.Bool.{false≢true}
use Rattle.std.proofs.lemmas.List.{get_or-take, take_rest}
use Rattle.std.proofs.lemmas.Option.{same_Some}
use Rattle.cert_checker.specs.declared.line.LineKind.{LineKind}
use Rattle.cert_checker.specs.declared.line.LineKind.TheVariants as kind
use Rattle.cert_checker.specs.declared.line.CertLine.{CertLine}
use Rattle.cert_checker.specs.declared.line.CertLine.TheVariants.{Term, And, AndCases, Not, NotCases, Gate, GateBy}
use Rattle.cert_checker.specs.Lines.{AreWords, IsLine, count, kind_of, letter, line_text, line_with, numbers_of, numbers_text}

pub no_letter : (l : ℕ) → (l ≡ 116 → ⊥) → (l ≡ 97 → ⊥) → (l ≡ 115 → ⊥) → (l ≡ 110 → ⊥) → (l ≡ 109 → ⊥) → (l ≡ 103 → ⊥) → (l ≡ 104 → ⊥) → (k : LineKind) → letter k ≡ l → ⊥
no_letter l a b c d e f g kind.Term h = a (sym h)
no_letter l a b c d e f g kind.And h = b (sym h)
no_letter l a b c d e f g kind.AndCases h = c (sym h)
no_letter l a b c d e f g kind.Not h = d (sym h)
no_letter l a b c d e f g kind.NotCases h = e (sym h)
no_letter l a b c d e f g kind.Gate h = f (sym h)
no_letter l a b c d e f g kind.GateBy h = g (sym h)

kind_at : ℕ → Option LineKind
kind_at l =
    cond (eqb l 116) (Some kind.Term)
    (cond (eqb l 97) (Some kind.And)
    (cond (eqb l 115) (Some kind.AndCases)
    (cond (eqb l 110) (Some kind.Not)
    (cond (eqb l 109) (Some kind.NotCases)
    (cond (eqb l 103) (Some kind.Gate)
    (cond (eqb l 104) (Some kind.GateBy) None))))))

at_letter : (k : LineKind) → kind_at (letter k) ≡ Some k
unfolding kind_at
at_letter kind.Term = refl
at_letter kind.And = refl
at_letter kind.AndCases = refl
at_letter kind.Not = refl
at_letter kind.NotCases = refl
at_letter kind.Gate = refl
at_letter kind.GateBy = refl

-- each kind has a letter of its own
same_kind : (j k : LineKind) → letter j ≡ letter k → j ≡ k
same_kind j k e = same_Some j k (sym (at_letter j) ∙ ap kind_at e ∙ at_letter k)

pub count_is : (line : CertLine) → length (numbers_of line) ≡ count (kind_of line)
count_is (Term v l h) = refl
count_is (And a b c) = refl
count_is (AndCases a b c v p q) = refl
count_is (Not a c) = refl
count_is (NotCases a c v p q) = refl
count_is (Gate t) = refl
count_is (GateBy t p) = refl

-- a number among the first ones
at : (n : List ℕ) (k i : ℕ) (all : List ℕ) → take k n ≡ all → i < k → get_or n i 0 ≡ get_or all i 0
at n k i all e h = sym (get_or-take k n i 0 h) ∙ ap (λ (xs : List ℕ). get_or xs i 0) e

-- the line with the numbers of a line is that line
with_numbers : (line : CertLine) (n : List ℕ) → take (count (kind_of line)) n ≡ numbers_of line → line_with (kind_of line) n ≡ line
with_numbers (Term v l h) n e = λ i. Term (at n 3 0 (v ∷ l ∷ h ∷ []) e (omega arith) i) (at n 3 1 (v ∷ l ∷ h ∷ []) e (omega arith) i) (at n 3 2 (v ∷ l ∷ h ∷ []) e (omega arith) i)
with_numbers (And a b c) n e = λ i. And (at n 3 0 (a ∷ b ∷ c ∷ []) e (omega arith) i) (at n 3 1 (a ∷ b ∷ c ∷ []) e (omega arith) i) (at n 3 2 (a ∷ b ∷ c ∷ []) e (omega arith) i)
with_numbers (AndCases a b c v p q) n e =
    let all = a ∷ b ∷ c ∷ v ∷ p ∷ q ∷ [] in
    λ i. AndCases (at n 6 0 all e (omega arith) i) (at n 6 1 all e (omega arith) i) (at n 6 2 all e (omega arith) i) (at n 6 3 all e (omega arith) i)
    (at n 6 4 all e (omega arith) i) (at n 6 5 all e (omega arith) i)
with_numbers (Not a c) n e = λ i. Not (at n 2 0 (a ∷ c ∷ []) e (omega arith) i) (at n 2 1 (a ∷ c ∷ []) e (omega arith) i)
with_numbers (NotCases a c v p q) n e =
    let all = a ∷ c ∷ v ∷ p ∷ q ∷ [] in
    λ i. NotCases (at n 5 0 all e (omega arith) i) (at n 5 1 all e (omega arith) i) (at n 5 2 all e (omega arith) i) (at n 5 3 all e (omega arith) i)
    (at n 5 4 all e (omega arith) i)
with_numbers (Gate t) n e = λ i. Gate (at n 1 0 (t ∷ []) e (omega arith) i)
with_numbers (GateBy t p) n e = λ i. GateBy (at n 2 0 (t ∷ p ∷ []) e (omega arith) i) (at n 2 1 (t ∷ p ∷ []) e (omega arith) i)

-- six numbers
six : (n : List ℕ) → length n ≡ 6 → (k : LineKind) → (numbers_of (line_with k n) ≡ take (count k) n) × (kind_of (line_with k n) ≡ k)
six (a ∷ b ∷ c ∷ d ∷ e ∷ f ∷ []) size kind.Term = (refl, refl)
six (a ∷ b ∷ c ∷ d ∷ e ∷ f ∷ []) size kind.And = (refl, refl)
six (a ∷ b ∷ c ∷ d ∷ e ∷ f ∷ []) size kind.AndCases = (refl, refl)
six (a ∷ b ∷ c ∷ d ∷ e ∷ f ∷ []) size kind.Not = (refl, refl)
six (a ∷ b ∷ c ∷ d ∷ e ∷ f ∷ []) size kind.NotCases = (refl, refl)
six (a ∷ b ∷ c ∷ d ∷ e ∷ f ∷ []) size kind.Gate = (refl, refl)
six (a ∷ b ∷ c ∷ d ∷ e ∷ f ∷ []) size kind.GateBy = (refl, refl)
six _ size k = absurd (omega arith)

-- ---- what a line is read from

pub line_found : (bytes behind rest n : List ℕ) (letter_is : ℕ) (k : LineKind) → length n ≡ 6 → letter k ≡ letter_is → bytes ≡ letter_is ∷ behind →
    behind ≡ numbers_text (take (count k) n) ++ rest → AreWords (take (count k) n) →
    IsLine (line_with k n) × (bytes ≡ line_text (line_with k n) ++ rest)
unfolding line_text
line_found bytes behind rest n l k size is first text words =
    let s = six n size k in (
      subst AreWords (sym s.0) words,
      first ∙ (λ i. sym is i ∷ text i) ∙ (λ i. letter (sym s.1 i) ∷ (numbers_text (sym s.0 i) ++ rest)),
    )

-- a line begins with its letter
pub line_begins : (bytes rest : List ℕ) (line : CertLine) → bytes ≡ line_text line ++ rest → bytes ≡ letter (kind_of line) ∷ (numbers_text (numbers_of line) ++ rest)
unfolding line_text
line_begins bytes rest line e = e

-- the first letter is that of the line's kind
pub kind_only : (bytes behind rest : List ℕ) (l : ℕ) (k : LineKind) (line : CertLine) → letter k ≡ l → bytes ≡ l ∷ behind → bytes ≡ line_text line ++ rest →
    (k ≡ kind_of line) × (behind ≡ numbers_text (numbers_of line) ++ rest)
kind_only bytes behind rest l k line is first e =
    let both : l ∷ behind ≡ letter (kind_of line) ∷ (numbers_text (numbers_of line) ++ rest) = sym first ∙ line_begins bytes rest line e in
    let head : l ≡ letter (kind_of line) = ap (λ (xs : List ℕ). get_or xs 0 0) both in
    (same_kind k (kind_of line) (is ∙ head), ap (drop 1) both)

pub no_line : (bytes rest : List ℕ) (line : CertLine) → length bytes ≡ 0 → bytes ≡ line_text line ++ rest → ⊥
no_line bytes rest line none e = omega (arith, none, ap length (line_begins bytes rest line e))

-- no line begins with a letter that no kind has
pub letter_only : (bytes behind rest : List ℕ) (l : ℕ) (line : CertLine) → ((k : LineKind) → letter k ≡ l → ⊥) → bytes ≡ l ∷ behind → bytes ≡ line_text line ++ rest → ⊥
letter_only bytes behind rest l line none first e =
    none (kind_of line) (ap (λ (xs : List ℕ). get_or xs 0 0) (sym (line_begins bytes rest line e) ∙ first))

pub line_only : (k : LineKind) (n : List ℕ) (line : CertLine) → k ≡ kind_of line → take (count k) n ≡ numbers_of line → line_with k n ≡ line
line_only k n line same e =
    ap (λ (j : LineKind). line_with j n) same ∙ with_numbers line n (ap (λ (j : LineKind). take (count j) n) (sym same) ∙ e)

-- a text that isn't empty is its first byte, followed by the rest
pub first_byte : (bytes : List ℕ) → eqb (length bytes) 0 ≡ false → bytes ≡ get_or bytes 0 0 ∷ take (length bytes - 1) (drop 1 bytes)
first_byte [] e = absurd (false≢true (sym e))
first_byte (b ∷ bytes) e = ap (λ (xs : List ℕ). b ∷ xs) (sym (take_rest (b ∷ bytes) 1))
