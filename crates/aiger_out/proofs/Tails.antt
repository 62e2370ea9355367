-- The lines after the AND lines, one after another.
use Rattle.std.proofs.Common.{◌≡◌, ◌⊎◌, inl, inr, ℕ, zero, suc, ◌+◌, ◌-◌, ◌<◌, ◌≤◌, Bool, true, false, ◌&&◌, ◌||◌, ◌==◌, nat_lt, if◌then◌else◌, List, [], ◌∷◌, length, drop, slice_get, Option, Some, None, refl, sym, ap, ◌∙◌, arith, add-one, length-drop}
use Rattle.std.specs.Option.{option_map_or}
use Rattle.std.proofs.lemmas.Bool.{cases_lt, or_left}
use Rattle.std.proofs.lemmas.Bool.Decides.{nat_tests}
use Rattle.std.proofs.lemmas.Option.{slice_get_past}
use Rattle.std.proofs.lemmas.List.{drop-drop}
use Rattle.aiger_out.specs.declared.fault.AagWhy.TheVariants.{Syntax}
use Rattle.aiger_out.specs.declared.form.Header.{Header}
use Rattle.y86_base.specs.Text.{with_line_feeds}
use Rattle.aiger_out.specs.Lines.{ended, unended}
use Rattle.aiger_out.specs.Form.{comment_within, tail_fault, is_symbol, is_comment, has_more}
use Rattle.aiger_out.specs.Tail.{tail_fault_at, IsTail, IsTailFault}
use Rattle.aiger_out.proofs.RowSteps.{slice_get_drop}

-- the first k lines are symbols
pub record TailTo (h : Header) (lines : List (List ℕ)) (more : Bool) (k : ℕ) : Type 0 where
  pub inside : k ≤ length lines
  pub plain : comment_within lines 0 k ≡ false
  pub before : (i : ℕ) → i < k → tail_fault_at h lines more i ≡ None

comment_next : (lines : List (List ℕ)) (k : ℕ) → comment_within lines 0 (k + 1) ≡ (comment_within lines 0 k || option_map_or is_comment (slice_get lines k) false)
unfolding comment_within
comment_next lines k = rw add-one (ap (λ (i : ℕ). comment_within lines 0 k || option_map_or is_comment (slice_get lines i) false) (omega arith))

comment_later : (lines : List (List ℕ)) (k d : ℕ) → comment_within lines 0 k ≡ true → comment_within lines 0 (k + d) ≡ true
comment_later lines k zero e = ap (comment_within lines 0) (omega arith) ∙ e
comment_later lines k (suc d) e =
    let s : k + suc d ≡ (k + d) + 1 = omega arith in
    ap (comment_within lines 0) s ∙ (comment_next lines (k + d) ∙ or_left (comment_within lines 0 (k + d)) (option_map_or is_comment (slice_get lines (k + d)) false) (comment_later lines k d e))

-- the fault of a line that exists, if no comment comes before it
there : (h : Header) (lines : List (List ℕ)) (more : Bool) (k : ℕ) (line : List ℕ) → comment_within lines 0 k ≡ false → slice_get lines k ≡ Some line
    → tail_fault_at h lines more k ≡ (if is_symbol h line || is_comment line then None else Some Syntax)
there h lines more k line plain is =
    ap (λ (b : Bool). if b then None else tail_fault h (slice_get lines k) (k == length lines && more)) plain
    ∙ ap (λ (x : Option (List ℕ)). tail_fault h x (k == length lines && more)) is

behind_all : (h : Header) (lines : List (List ℕ)) (more : Bool) (k : ℕ) → length lines ≤ k → comment_within lines 0 k ≡ false
    → tail_fault_at h lines more k ≡ (if k == length lines && more then Some Syntax else None)
behind_all h lines more k past plain =
    ap (λ (b : Bool). if b then None else tail_fault h (slice_get lines k) (k == length lines && more)) plain
    ∙ ap (λ (x : Option (List ℕ)). tail_fault h x (k == length lines && more)) (slice_get_past lines k past)

pub tail_none : (h : Header) (lines : List (List ℕ)) (more : Bool) → TailTo h lines more 0
unfolding comment_within
tail_none h lines more = record { inside = omega arith; plain = refl; before = λ i l. absurd (omega (arith, l)) }

inside_line : {X : Type 0} (xs : List X) (k : ℕ) (x : X) → slice_get xs k ≡ Some x → k < length xs
inside_line [] k x e = absurd (cc)
inside_line (y ∷ ys) zero x e = omega arith
inside_line (y ∷ ys) (suc k) x e = omega (arith, inside_line ys k x e)

symbol_fine : (s c : Bool) → s ≡ true → (if s || c then None else Some Syntax) ≡ None
symbol_fine true c e = refl
symbol_fine false c e = absurd (cc)

comment_fine : (s c : Bool) → c ≡ true → (if s || c then None else Some Syntax) ≡ None
comment_fine true c e = refl
comment_fine false true e = refl
comment_fine false false e = absurd (cc)

neither : (s c : Bool) → s ≡ false → c ≡ false → (if s || c then None else Some Syntax) ≡ Some Syntax
neither false false e f = refl
neither true c e f = absurd (cc)
neither false true e f = absurd (cc)

more_before : (h : Header) (lines : List (List ℕ)) (more : Bool) (k : ℕ) → TailTo h lines more k → tail_fault_at h lines more k ≡ None
    → (i : ℕ) → i < k + 1 → tail_fault_at h lines more i ≡ None
more_before h lines more k t here i l = by (cases_lt i k)
  where
    by : (i < k) ⊎ (k ≤ i) → tail_fault_at h lines more i ≡ None
    by (inl low) = t.before i low
    by (inr le) = let e : i ≡ k = omega (arith, l, le) in ap (tail_fault_at h lines more) e ∙ here

pub tail_more : (h : Header) (lines : List (List ℕ)) (more : Bool) (k : ℕ) (line : List ℕ) → TailTo h lines more k → slice_get lines k ≡ Some line
    → is_comment line ≡ false → is_symbol h line ≡ true → TailTo h lines more (k + 1)
tail_more h lines more k line t is isnt is_so = record {
  inside = omega (arith, inside_line lines k line is);
  plain = comment_next lines k ∙ (ap (λ (b : Bool). b || option_map_or is_comment (slice_get lines k) false) t.plain ∙ (ap (λ (x : Option (List ℕ)). option_map_or is_comment x false) is ∙ isnt));
  before = more_before h lines more k t (there h lines more k line t.plain is ∙ symbol_fine (is_symbol h line) (is_comment line) is_so);
}

pub tail_comment : (h : Header) (lines : List (List ℕ)) (more : Bool) (k : ℕ) (line : List ℕ) → TailTo h lines more k → slice_get lines k ≡ Some line
    → is_comment line ≡ true → IsTail h lines more
tail_comment h lines more k line t is is_so i = by (cases_lt i (k + 1))
  where
    found : comment_within lines 0 (k + 1) ≡ true
    found = comment_next lines k ∙ (ap (λ (b : Bool). b || option_map_or is_comment (slice_get lines k) false) t.plain ∙ (ap (λ (x : Option (List ℕ)). option_map_or is_comment x false) is ∙ is_so))

    by : (i < k + 1) ⊎ (k + 1 ≤ i) → tail_fault_at h lines more i ≡ None
    by (inl low) = more_before h lines more k t (there h lines more k line t.plain is ∙ comment_fine (is_symbol h line) (is_comment line) is_so) i low
    by (inr le) =
        let e : i ≡ (k + 1) + (i - (k + 1)) = omega (arith, le) in
        ap (λ (b : Bool). if b then None else tail_fault h (slice_get lines i) (i == length lines && more))
        (ap (comment_within lines 0) e ∙ comment_later lines (k + 1) (i - (k + 1)) found)

pub tail_bad : (h : Header) (lines : List (List ℕ)) (more : Bool) (k : ℕ) (line : List ℕ) → TailTo h lines more k → slice_get lines k ≡ Some line
    → is_comment line ≡ false → is_symbol h line ≡ false → IsTailFault h lines more k
tail_bad h lines more k line t is isnt none = record {
  has = there h lines more k line t.plain is ∙ neither (is_symbol h line) (is_comment line) none isnt;
  before = t.before;
}

no_more : (a m : Bool) → m ≡ false → (if a && m then Some Syntax else None) ≡ None
no_more true true e = absurd (cc)
no_more true false e = refl
no_more false m e = refl

past : (k n : ℕ) (m : Bool) → n < k → (if k == n && m then Some Syntax else None) ≡ None
past k n m l = let e : (k == n) ≡ false = grind (arith, nat_tests) in ap (λ (b : Bool). if b && m then Some Syntax else None) e

same_place : (k n : ℕ) (m : Bool) → k ≡ n → m ≡ true → (if k == n && m then Some Syntax else None) ≡ Some Syntax
same_place k n m e f = let t : (k == n) ≡ true = grind (arith, nat_tests) in ap (λ (b : Bool). if b && m then Some Syntax else None) t ∙ ap (λ (b : Bool). if b then Some Syntax else None) f

none_after : (lines : List (List ℕ)) (k d : ℕ) → length lines ≤ k → comment_within lines 0 k ≡ false → comment_within lines 0 (k + d) ≡ false
none_after lines k zero past e = ap (comment_within lines 0) (omega arith) ∙ e
none_after lines k (suc d) past e =
    let s : k + suc d ≡ (k + d) + 1 = omega arith in
    ap (comment_within lines 0) s ∙ (comment_next lines (k + d)
    ∙ (ap (λ (b : Bool). b || option_map_or is_comment (slice_get lines (k + d)) false) (none_after lines k d past e)
    ∙ ap (λ (x : Option (List ℕ)). option_map_or is_comment x false) (slice_get_past lines (k + d) (omega (arith, past)))))

pub tail_end : (h : Header) (lines : List (List ℕ)) (more : Bool) (k : ℕ) → TailTo h lines more k → length lines ≤ k → more ≡ false → IsTail h lines more
tail_end h lines more k t le isnt i = by (cases_lt i k)
  where
    by : (i < k) ⊎ (k ≤ i) → tail_fault_at h lines more i ≡ None
    by (inl low) = t.before i low
    by (inr high) =
        let e : i ≡ k + (i - k) = omega (arith, high) in
        behind_all h lines more i (omega (arith, le, high)) (ap (comment_within lines 0) e ∙ none_after lines k (i - k) le t.plain)
        ∙ no_more (i == length lines) more isnt

pub tail_rest : (h : Header) (lines : List (List ℕ)) (more : Bool) (k : ℕ) → TailTo h lines more k → length lines ≤ k → more ≡ true → IsTailFault h lines more k
tail_rest h lines more k t le is_so = record {
  has = behind_all h lines more k le t.plain ∙ same_place k (length lines) more (omega (arith, le, t.inside)) is_so;
  before = t.before;
}

-- the same for a text of which k lines are read
pub record TailRead (h : Header) (text : List ℕ) (k : ℕ) (left : List ℕ) : Type 0 where
  pub to : TailTo h (ended text) (has_more text) k
  pub rest : ended left ≡ drop k (ended text)
  pub more : unended left ≡ unended text
  pub size : k + length left ≤ length text

at_first : (h : Header) (text : List ℕ) (k : ℕ) (left line behind : List ℕ) → TailRead h text k left → ended left ≡ line ∷ ended behind → slice_get (ended text) k ≡ Some line
at_first h text k left line behind r is =
    let e : k ≡ k + 0 = omega arith in
    ap (slice_get (ended text)) e ∙ (sym (slice_get_drop k (ended text) 0) ∙ ap (λ (xs : List (List ℕ)). slice_get xs 0) (sym r.rest ∙ is))

at_end : (h : Header) (text : List ℕ) (k : ℕ) (left : List ℕ) → TailRead h text k left → ended left ≡ [] → length (ended text) ≤ k
at_end h text k left r none = omega (arith, length-drop k (ended text), ap length (sym r.rest ∙ none))

-- what is left is what follows the last line feed
left_over : (h : Header) (text : List ℕ) (k : ℕ) (left : List ℕ) → TailRead h text k left → ended left ≡ [] → has_more text ≡ nat_lt 0 (length left)
left_over h text k left r none = ap (λ (xs : List ℕ). nat_lt 0 (length xs)) (sym r.more ∙ ap (λ (xs : List (List ℕ)). drop (length (with_line_feeds xs)) left) none)

pub read_none : (h : Header) (text : List ℕ) → TailRead h text 0 text
read_none h text = record { to = tail_none h (ended text) (has_more text); rest = refl; more = refl; size = omega arith }

pub read_more : (h : Header) (text : List ℕ) (k : ℕ) (left line behind : List ℕ) → TailRead h text k left → ended left ≡ line ∷ ended behind → unended left ≡ unended behind
    → length behind < length left → is_comment line ≡ false → is_symbol h line ≡ true → TailRead h text (k + 1) behind
read_more h text k left line behind r is same shorter isnt is_so = record {
  to = tail_more h (ended text) (has_more text) k line r.to (at_first h text k left line behind r is) isnt is_so;
  rest = sym (ap (drop 1) is) ∙ (ap (drop 1) r.rest ∙ drop-drop 1 k (ended text));
  more = sym same ∙ r.more;
  size = omega (arith, r.size, shorter);
}

pub read_comment : (h : Header) (text : List ℕ) (k : ℕ) (left line behind : List ℕ) → TailRead h text k left → ended left ≡ line ∷ ended behind → is_comment line ≡ true
    → IsTail h (ended text) (has_more text)
read_comment h text k left line behind r is is_so = tail_comment h (ended text) (has_more text) k line r.to (at_first h text k left line behind r is) is_so

pub read_bad : (h : Header) (text : List ℕ) (k : ℕ) (left line behind : List ℕ) → TailRead h text k left → ended left ≡ line ∷ ended behind → is_comment line ≡ false
    → is_symbol h line ≡ false → IsTailFault h (ended text) (has_more text) k
read_bad h text k left line behind r is isnt none = tail_bad h (ended text) (has_more text) k line r.to (at_first h text k left line behind r is) isnt none

pub read_end : (h : Header) (text : List ℕ) (k : ℕ) (left : List ℕ) → TailRead h text k left → ended left ≡ [] → length left ≡ 0 → IsTail h (ended text) (has_more text)
read_end h text k left r none empty =
    tail_end h (ended text) (has_more text) k r.to (at_end h text k left r none) (left_over h text k left r none ∙ ap (nat_lt 0) empty)

some_over : (n : ℕ) → 0 < n → nat_lt 0 n ≡ true
some_over n h = grind (arith, nat_tests)

pub read_rest : (h : Header) (text : List ℕ) (k : ℕ) (left : List ℕ) → TailRead h text k left → ended left ≡ [] → 0 < length left → IsTailFault h (ended text) (has_more text) k
read_rest h text k left r none some =
    tail_rest h (ended text) (has_more text) k r.to (at_end h text k left r none) (left_over h text k left r none ∙ some_over (length left) some)

-- an empty text has no lines left
no_bytes : (left : List ℕ) → length left ≡ 0 → ended left ≡ []
no_bytes [] e = refl
no_bytes (x ∷ xs) e = absurd (omega (arith, e))

pub read_all : (h : Header) (text : List ℕ) (k : ℕ) (left : List ℕ) → TailRead h text k left → length text ≤ k → IsTail h (ended text) (has_more text)
read_all h text k left r le =
    let empty : length left ≡ 0 = omega (arith, r.size, le) in
    read_end h text k left r (no_bytes left empty) empty
