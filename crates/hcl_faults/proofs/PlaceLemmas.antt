-- A line and column determine a place, and the tokens that begin before the place of a fault are those in front of it.
use Rattle.std.proofs.Common.{◌≡◌, ℕ, zero, suc, ◌+◌, ◌-◌, ◌<◌, ◌≤◌, ap, sym, ◌∙◌, refl, subst, Bool, true, false, not, cond, List, [], ◌∷◌, ◌++◌, length, map, take, drop, reverse, count_by, nat_lt, nat_le, arith, append-nil, append_assoc, length-append, ◌⊎◌, inl, inr}
use Rattle.std.specs.List.{position_or_len, prefix_len}
use Rattle.std.proofs.lemmas.Bool.Decides.{nat_tests}
use Rattle.std.proofs.lemmas.List.{take-append-drop, take-append-le, take_at, length-take-le, reverse-append, length-reverse}
use Rattle.std.proofs.lemmas.List.Sums.{sum_by-append, sum_by-cons}
use Rattle.y86_base.specs.Cursor.{line_behind, column_behind}
use Rattle.y86_base.specs.Text.{is_line_feed}
use Rattle.hcl_read.specs.declared.tokens.Token.{Token}
use Rattle.hcl_read.specs.Tokens.{items, skipped, token}
use Rattle.hcl_read.specs.Read.{bytes_from}
use Rattle.hcl_read.proofs.Items.{ends_shorter, skipped_ends, token_ends, items_ended, items_first}
use Rattle.hcl_faults.specs.declared.tokens.TokenAt.{TokenAt}
use Rattle.hcl_faults.specs.declared.stop.Stopped.{Stopped}
use Rattle.hcl_faults.specs.Places.{token_at, token_list}
use Rattle.hcl_faults.specs.Stops.{IsStopped, IndexIsOfFront}

abbrev one_if : Bool → ℕ
one_if b = cond b 1 0

-- ---- a line and a column determine one place

no_feeds_reverse : (xs : List ℕ) → count_by is_line_feed xs ≡ 0 → count_by is_line_feed (reverse xs) ≡ 0
no_feeds_reverse [] h = refl
no_feeds_reverse (x ∷ xs) h =
    let s = sum_by-cons (λ b. cond (is_line_feed b) 1 0) x xs in
    let rest : count_by is_line_feed xs ≡ 0 = omega (arith, s, h) in
    let here : one_if (is_line_feed x) ≡ 0 = omega (arith, s, h) in
    ap (count_by is_line_feed) (reverse-append (x ∷ []) xs)
    ∙ sum_by-append (λ b. cond (is_line_feed b) 1 0) (reverse xs) (x ∷ [])
    ∙ omega (arith, no_feeds_reverse xs rest, here, sum_by-cons (λ b. cond (is_line_feed b) 1 0) x [])

past_none : (xs ys : List ℕ) → count_by is_line_feed xs ≡ 0 → position_or_len is_line_feed (xs ++ ys) ≡ length xs + position_or_len is_line_feed ys
past_none [] ys h = omega arith
past_none (x ∷ xs) ys h =
    let s = sum_by-cons (λ b. cond (is_line_feed b) 1 0) x xs in
    by (is_line_feed x) (omega (arith, s, h)) (past_none xs ys (omega (arith, s, h)))
  where
    by : (b : Bool) → one_if b ≡ 0 → position_or_len is_line_feed (xs ++ ys) ≡ length xs + position_or_len is_line_feed ys →
        cond (not b) (1 + position_or_len is_line_feed (xs ++ ys)) 0 ≡ length (x ∷ xs) + position_or_len is_line_feed ys
    by true e r = absurd (omega (arith, e))
    by false e r = omega (arith, r)

nothing_more : (a c : List ℕ) → line_behind (a ++ c) ≡ line_behind a → column_behind (a ++ c) ≡ column_behind a → length c ≡ 0
nothing_more a c l k =
    let none : count_by is_line_feed c ≡ 0 = omega (arith, l, sum_by-append (λ b. cond (is_line_feed b) 1 0) a c) in
    let turned : position_or_len is_line_feed (reverse (a ++ c)) ≡ length (reverse c) + position_or_len is_line_feed (reverse a) =
    ap (position_or_len is_line_feed) (reverse-append a c) ∙ past_none (reverse c) (reverse a) (no_feeds_reverse c none) in
    omega (arith, k, turned, length-reverse c)

one_place_le : (a x b y : List ℕ) → a ++ x ≡ b ++ y → line_behind a ≡ line_behind b → column_behind a ≡ column_behind b → length a ≤ length b → length a ≡ length b
one_place_le a x b y e l k h =
    let front : take (length a) b ≡ a = sym (take-append-le (length a) b y h) ∙ ap (take (length a)) (sym e) ∙ take_at a x (length a) refl in
    let whole : b ≡ a ++ drop (length a) b = sym (take-append-drop (length a) b) ∙ ap (λ some. some ++ drop (length a) b) front in
    let none : length (drop (length a) b) ≡ 0 = nothing_more a (drop (length a) b) (sym (ap line_behind whole) ∙ sym l) (sym (ap column_behind whole) ∙ sym k) in
    omega (arith, none, ap length whole, length-append a (drop (length a) b))

pub one_place : (a x b y : List ℕ) → a ++ x ≡ b ++ y → line_behind a ≡ line_behind b → column_behind a ≡ column_behind b → length a ≡ length b
one_place a x b y e l k = by (either (length a) (length b))
  where
    either : (m n : ℕ) → (m ≤ n) ⊎ (n ≤ m)
    either m n = at (nat_le m n) refl
      where
        at : (b : Bool) → nat_le m n ≡ b → (m ≤ n) ⊎ (n ≤ m)
        at true e = inl (grind (arith, nat_tests, e))
        at false e = inr (grind (arith, nat_tests, e))

    by : (length a ≤ length b) ⊎ (length b ≤ length a) → length a ≡ length b
    by (inl h) = one_place_le a x b y e l k h
    by (inr h) = sym (one_place_le b y a x (sym e) (sym l) (sym k) h)

-- ---- the tokens in front

first_short : (t : List ℕ) → length (bytes_from (items t)) ≤ length t
first_short t = by (skipped false t) refl
  where
    by : (here : List ℕ) → skipped false t ≡ here → length (bytes_from (items t)) ≤ length t
    by [] gap = subst (λ some. length (bytes_from some) ≤ length t) (sym (items_ended t gap)) (omega arith)
    by (byte ∷ bytes) gap =
        subst (λ some. length (bytes_from some) ≤ length t) (sym (items_first t byte bytes gap))
        (subst (λ x. length x ≤ length t) gap (ends_shorter t (skipped false t) (skipped_ends false t)))

abbrev before : ℕ → TokenAt → Bool
before at token = nat_lt token.from at

-- the tokens in front of a rest begin before it
front_passes : (text : List ℕ) (at : ℕ) (rest front : List (Token × List ℕ)) (t : List ℕ) → items t ≡ front ++ rest → length t ≤ length text → at ≡ length text - length (bytes_from rest) →
    (length (bytes_from rest) ≤ length t) × (prefix_len (before at) (map (token_at text) (front ++ rest)) ≡ length front + prefix_len (before at) (map (token_at text) rest))
front_passes text at rest [] t e h a = (subst (λ some. length (bytes_from some) ≤ length t) e (first_short t), omega arith)
front_passes text at rest (f ∷ fs) t e h a = by (λ behind q w. front_passes text at rest fs behind q w a) (skipped false t) refl
  where
    step : (x : TokenAt) (n : ℕ) → before at x ≡ true → prefix_len (before at) (map (token_at text) (fs ++ rest)) ≡ length fs + n →
        cond (before at x) (1 + prefix_len (before at) (map (token_at text) (fs ++ rest))) 0 ≡ length (f ∷ fs) + n
    step x n p q = rw p (omega (arith, q))

    by : ((behind : List ℕ) → items behind ≡ fs ++ rest → length behind ≤ length text →
        (length (bytes_from rest) ≤ length behind) × (prefix_len (before at) (map (token_at text) (fs ++ rest)) ≡ length fs + prefix_len (before at) (map (token_at text) rest))) →
        (here : List ℕ) → skipped false t ≡ here →
        (length (bytes_from rest) ≤ length t) × (prefix_len (before at) (map (token_at text) (f ∷ (fs ++ rest))) ≡ length (f ∷ fs) + prefix_len (before at) (map (token_at text) rest))
    by more [] gap = let none = items_ended t gap in absurd (grind (arith, e, none))
    by more (byte ∷ bytes) gap =
        let i = items_first t byte bytes gap in
        let same : f ∷ (fs ++ rest) ≡ ((token byte bytes).0, byte ∷ bytes) ∷ items (token byte bytes).1 = sym e ∙ i in
        let left : items (token byte bytes).1 ≡ fs ++ rest = cc in
        let is : f.1 ≡ byte ∷ bytes = ap (λ (x : List (Token × List ℕ)). bytes_from x) same in
        let short_here : length (byte ∷ bytes) ≤ length t = subst (λ x. length x ≤ length t) gap (ends_shorter t (skipped false t) (skipped_ends false t)) in
        let short : length (token byte bytes).1 ≤ length bytes = ends_shorter bytes (token byte bytes).1 (token_ends byte bytes) in
        let m = more (token byte bytes).1 left (omega arith) in
        let long : length f.1 ≡ length (byte ∷ bytes) = ap length is in
        let least = m.0 in
        let lt : length text - length f.1 < at = omega arith in
        let passes : before at (token_at text f) ≡ true = grind (arith, nat_tests, lt) in
        (omega arith, step (token_at text f) (prefix_len (before at) (map (token_at text) rest)) passes m.1)

stops_there : (text : List ℕ) (at : ℕ) (rest : List (Token × List ℕ)) → at ≡ length text - length (bytes_from rest) → prefix_len (before at) (map (token_at text) rest) ≡ 0
stops_there text at [] a = refl
stops_there text at (r ∷ rest) a = by (before at (token_at text r)) refl
  where
    by : (b : Bool) → before at (token_at text r) ≡ b → cond b (1 + prefix_len (before at) (map (token_at text) rest)) 0 ≡ 0
    by true e = absurd (grind (arith, nat_tests, e, a))
    by false e = refl

pub index_is_of_front : IndexIsOfFront
unfolding token_list
index_is_of_front text s stopped =
    let f = stopped.is_fault in
    let p = stopped.place in
    let e : take s.at text ++ drop s.at text ≡ f.before ++ bytes_from f.rest = take-append-drop s.at text ∙ f.place in
    let far = one_place (take s.at text) (drop s.at text) f.before (bytes_from f.rest) e (p.line_is ∙ f.line) (p.column_is ∙ f.column) in
    let taken : length (take s.at text) ≡ s.at = length-take-le s.at text p.within in
    let all : length text ≡ length f.before + length (bytes_from f.rest) = ap length f.place ∙ length-append f.before (bytes_from f.rest) in
    let at : s.at ≡ length text - length (bytes_from f.rest) = omega arith in
    let whole : length text ≤ length text = omega arith in
    let passes = front_passes text s.at f.rest f.front text f.whole whole at in
    stopped.there.in_front ∙ ap (λ some. prefix_len (before s.at) (map (token_at text) some)) f.whole ∙ passes.1
    ∙ omega (arith, stops_there text s.at f.rest at)
