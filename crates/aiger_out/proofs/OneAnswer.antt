-- A text has the form or one fault, and its equations one solution.
use Rattle.std.proofs.Common.{◌≡◌, ◌⊎◌, inl, inr, ℕ, zero, suc, ◌+◌, ◌-◌, ◌<◌, ◌≤◌, Bool, true, false, ◌&&◌, ◌==◌, nat_lt, if◌then◌else◌, List, length, slice_get, Option, Some, None, refl, sym, ap, ◌∙◌, subst, arith}
use Rattle.std.proofs.lemmas.Bool.{cases_lt, and_left}
use Rattle.std.proofs.lemmas.Bool.Decides.{nat_tests}
use Rattle.std.proofs.lemmas.Option.{slice_get_past}
use Rattle.aiger_out.specs.declared.fault.AagWhy.{AagWhy}
use Rattle.aiger_out.specs.declared.fault.AagWhy.TheVariants.{Syntax}
use Rattle.aiger_out.specs.declared.form.Header.{Header}
use Rattle.aiger_out.specs.Lines.{ended}
use Rattle.aiger_out.specs.Form.{IsAag, IsFault, IsFaultBehind, comment_within, fault_at, has_more, header_fault, line_at, line_fault, rest_from, tail_fault, text_fault, text_header}
use Rattle.aiger_out.specs.Rows.{IsFine}
use Rattle.aiger_out.specs.Solution.{solution}
use Rattle.aiger_out.specs.Values.{HaveOneSolution}
use Rattle.aiger_out.proofs.FromRows.{line_behind, line_first}
use Rattle.aiger_out.proofs.Solutions.{agrees, solved}

-- ---- the first of some faults

record IsFirst (fault : ℕ → Option AagWhy) (j : ℕ) (why : AagWhy) : Type 0 where
  from : 1 ≤ j
  has : fault j ≡ Some why
  before : (i : ℕ) → 1 ≤ i → i < j → fault i ≡ None

abbrev NoneBefore : (ℕ → Option AagWhy) → ℕ → Type 0
NoneBefore fault n = (j : ℕ) → 1 ≤ j → j < n → fault j ≡ None

one_more : (fault : ℕ → Option AagWhy) (n : ℕ) (x : Option AagWhy) → fault n ≡ x → NoneBefore fault n → 1 ≤ n → NoneBefore fault (suc n) ⊎ ((j : ℕ) × (why : AagWhy) × IsFirst fault j why)
one_more fault n (Some why) e so_far some = inr (n, why, record { from = some; has = e; before = so_far })
one_more fault n None e so_far some = inl (λ j from l. by j from l (cases_lt j n))
  where
    by : (j : ℕ) → 1 ≤ j → j < suc n → (j < n) ⊎ (n ≤ j) → fault j ≡ None
    by j from l (inl low) = so_far j from low
    by j from l (inr le) = let s : j ≡ n = omega (arith, l, le) in ap fault s ∙ e

next : (fault : ℕ → Option AagWhy) (n : ℕ) → NoneBefore fault n ⊎ ((j : ℕ) × (why : AagWhy) × IsFirst fault j why) → (0 < n) ⊎ (n ≤ 0) → NoneBefore fault (suc n) ⊎ ((j : ℕ) × (why : AagWhy) × IsFirst fault j why)
next fault n (inr found) some = inr found
next fault n (inl none) (inl some) = one_more fault n (fault n) refl none (omega (arith, some))
next fault n (inl none) (inr zero_n) = inl (λ j from l. absurd (omega (arith, from, l, zero_n)))

search_to : (fault : ℕ → Option AagWhy) (n : ℕ) → NoneBefore fault n ⊎ ((j : ℕ) × (why : AagWhy) × IsFirst fault j why)
search_to fault zero = inl (λ j from l. absurd (omega (arith, l)))
search_to fault (suc n) = next fault n (search_to fault n) (cases_lt 0 n)

-- ---- there is no fault after the end

-- if the second test fails too, there is no fault
pub no_fault : (b t : Bool) → t ≡ false → (if b then None else (if t then Some Syntax else None)) ≡ None
no_fault true t e = refl
no_fault false t e = ap (λ (s : Bool). if s then Some Syntax else None) e

behind_end : (text : List ℕ) (h : Header) (j : ℕ) → rest_from h + length (ended text) + 1 ≤ j → text_fault text h j ≡ None
unfolding fault_at
behind_end text h j past =
    let a : nat_lt j (rest_from h) ≡ false = grind (arith, nat_tests) in
    let b : (j == length (ended text)) ≡ false = grind (arith, nat_tests) in
    ap (λ (t : Bool). if t then line_fault h (line_at h (ended text)) j (line_at h (ended text) j)
    else (if comment_within (ended text) (rest_from h) (j - rest_from h) then None
    else tail_fault h (slice_get (ended text) j) (j == length (ended text) && has_more text))) a
    ∙ (ap (λ (x : Option (List ℕ)). if comment_within (ended text) (rest_from h) (j - rest_from h) then None else tail_fault h x (j == length (ended text) && has_more text)) (slice_get_past (ended text) j (omega (arith, past)))
    ∙ no_fault (comment_within (ended text) (rest_from h) (j - rest_from h)) (j == length (ended text) && has_more text) (and_left (j == length (ended text)) (has_more text) b))

all_none : (text : List ℕ) (h : Header) → NoneBefore (text_fault text h) (rest_from h + length (ended text) + 1) → (j : ℕ) → 1 ≤ j → text_fault text h j ≡ None
all_none text h none j from = by (cases_lt j (rest_from h + length (ended text) + 1))
  where
    by : (j < rest_from h + length (ended text) + 1) ⊎ (rest_from h + length (ended text) + 1 ≤ j) → text_fault text h j ≡ None
    by (inl low) = none j from low
    by (inr past) = behind_end text h j past

-- ---- the form, or a fault

abbrev OneOf : ℕ → List ℕ → Type 0
OneOf limit text = ((h : Header) × IsAag limit text h) ⊎ ((line : ℕ) × (why : AagWhy) × IsFault limit text line why)

of_lines : (limit : ℕ) (text : List ℕ) (h : Header) → text_header text ≡ Some h → header_fault limit h ≡ None
    → NoneBefore (text_fault text h) (rest_from h + length (ended text) + 1) ⊎ ((j : ℕ) × (why : AagWhy) × IsFirst (text_fault text h) j why) → OneOf limit text
of_lines limit text h is good (inl none) = inl (h, record { header = is; fine = good; lines = all_none text h none })
of_lines limit text h is good (inr found) =
    let e : found.0 + 1 - 1 ≡ found.0 = omega arith in
    inr (
      found.0 + 1,
      found.1,
      subst (IsFaultBehind limit text (found.0 + 1) found.1) (sym is)
          (inr (good, omega (arith, found.2.from), ap (text_fault text h) e ∙ found.2.has, λ j from l. found.2.before j from (omega (arith, l)))),
    )

of_header : (limit : ℕ) (text : List ℕ) (h : Header) (x : Option AagWhy) → text_header text ≡ Some h → header_fault limit h ≡ x → OneOf limit text
of_header limit text h (Some why) is e = inr (1, why, subst (IsFaultBehind limit text 1 why) (sym is) (inl (refl, e)))
of_header limit text h None is e = of_lines limit text h is e (search_to (text_fault text h) (rest_from h + length (ended text) + 1))

of_text : (limit : ℕ) (text : List ℕ) (x : Option Header) → text_header text ≡ x → OneOf limit text
of_text limit text None e = inr (1, Syntax, subst (IsFaultBehind limit text 1 Syntax) (sym e) (refl, refl))
of_text limit text (Some h) e = of_header limit text h (header_fault limit h) e refl

pub one_of : (limit : ℕ) (text : List ℕ) → OneOf limit text
one_of limit text = of_text limit text (text_header text) refl

not_both_by : (limit : ℕ) (text : List ℕ) (h : Header) (line : ℕ) (why : AagWhy) → IsAag limit text h → IsFaultBehind limit text line why (Some h) → ⊥
not_both_by limit text h line why a (inl f) = let e : Some why ≡ None = sym f.1 ∙ a.fine in cc
not_both_by limit text h line why a (inr f) = let e : Some why ≡ None = sym f.2 ∙ a.lines (line - 1) (omega (arith, f.1)) in cc

pub not_both : (limit : ℕ) (text : List ℕ) (h : Header) (line : ℕ) (why : AagWhy) → IsAag limit text h → IsFault limit text line why → ⊥
not_both limit text h line why a f = not_both_by limit text h line why a (subst (IsFaultBehind limit text line why) a.header f)

same_some : (a b : AagWhy) (x : Option AagWhy) → x ≡ Some a → x ≡ Some b → a ≡ b
same_some a b x e f = cc

earlier : (fault : ℕ → Option AagWhy) (i j : ℕ) (a : AagWhy) → 1 ≤ i → i < j → fault i ≡ Some a → ((k : ℕ) → 1 ≤ k → k < j → fault k ≡ None) → ⊥
earlier fault i j a from low has before = let e : Some a ≡ None = sym has ∙ before i from low in cc

same_place : (fault : ℕ → Option AagWhy) (i j : ℕ) (a b : AagWhy) → 1 ≤ i → 1 ≤ j → fault i ≡ Some a → fault j ≡ Some b → ((k : ℕ) → 1 ≤ k → k < i → fault k ≡ None)
    → ((k : ℕ) → 1 ≤ k → k < j → fault k ≡ None) → (i < j) ⊎ (j ≤ i) → (j < i) ⊎ (i ≤ j) → i ≡ j
same_place fault i j a b x y p q m n (inl l) r = absurd (earlier fault i j a x l p n)
same_place fault i j a b x y p q m n (inr l) (inl r) = absurd (earlier fault j i b y r q m)
same_place fault i j a b x y p q m n (inr l) (inr r) = omega (arith, l, r)

one_by : (limit : ℕ) (text : List ℕ) (line other : ℕ) (why because : AagWhy) (x : Option Header) → IsFaultBehind limit text line why x → IsFaultBehind limit text other because x
    → (line ≡ other) × (why ≡ because)
one_by limit text line other why because None f g = (f.0 ∙ sym g.0, f.1 ∙ sym g.1)
one_by limit text line other why because (Some h) (inl f) (inl g) = (f.0 ∙ sym g.0, same_some why because (header_fault limit h) f.1 g.1)
one_by limit text line other why because (Some h) (inl f) (inr g) = let e : Some why ≡ None = sym f.1 ∙ g.0 in absurd (cc)
one_by limit text line other why because (Some h) (inr f) (inl g) = let e : Some because ≡ None = sym g.1 ∙ f.0 in absurd (cc)
one_by limit text line other why because (Some h) (inr f) (inr g) =
    let s : line - 1 ≡ other - 1 = same_place (text_fault text h) (line - 1) (other - 1) why because (omega (arith, f.1)) (omega (arith, g.1)) f.2 g.2 f.3 g.3 (cases_lt (line - 1) (other - 1)) (cases_lt (other - 1) (line - 1)) in
    (omega (arith, s, f.1, g.1), same_some why because (text_fault text h (line - 1)) f.2 (ap (text_fault text h) s ∙ g.2))

pub one_fault : (limit : ℕ) (text : List ℕ) (line other : ℕ) (why because : AagWhy) → IsFault limit text line why → IsFault limit text other because → (line ≡ other) × (why ≡ because)
one_fault limit text line other why because f g = one_by limit text line other why because (text_header text) f g

-- ---- values

fine_lines : (limit : ℕ) (text : List ℕ) (h : Header) → IsAag limit text h → IsFine h (line_at h (ended text)) (rest_from h)
unfolding fault_at
fine_lines limit text h a j from low =
    let e : nat_lt j (rest_from h) ≡ true = grind (arith, nat_tests) in
    sym (ap (λ (t : Bool). if t then line_fault h (line_at h (ended text)) j (line_at h (ended text) j)
    else (if comment_within (ended text) (rest_from h) (j - rest_from h) then None
    else tail_fault h (slice_get (ended text) j) (j == length (ended text) && has_more text))) e) ∙ a.lines j from

pub one_solution : (limit : ℕ) (text : List ℕ) (h : Header) (bits : List Bool) → IsAag limit text h → HaveOneSolution h (line_at h (ended text)) bits
one_solution limit text h bits a =
    let fine = fine_lines limit text h a in
    let first = line_first h (ended text) in
    record {
      some = (solution h (line_at h (ended text)) bits (rest_from h), solved h (line_at h (ended text)) bits (rest_from h) fine first (λ j past. line_behind h (ended text) j past));
      one = λ env other v w x d.
          agrees h (line_at h (ended text)) bits (rest_from h) fine first env v (rest_from h) x (omega arith) d
          ∙ sym (agrees h (line_at h (ended text)) bits (rest_from h) fine first other w (rest_from h) x (omega arith) d);
    }
