-- Values that begin with given words keep them while later rows are written.
use Rattle.std.proofs.Common.{◌≡◌, ℕ, zero, suc, ◌+◌, ◌-◌, ◌<◌, ◌≤◌, get_or, List, [], ◌∷◌, ◌++◌, length, map, take, drop, slice_set, refl, sym, ap, ◌∙◌, arith, length-append, length-set, length-drop}
use Rattle.std.proofs.lemmas.List.{append_assoc, set-append_right, take-append-drop, length-take-le}
use Rattle.std.specs.List.{AllByRecursion}
use Rattle.hcl_types.specs.Signals.{Starts}
use Rattle.hcl_types.specs.Terms.{at}
use Rattle.hcl_types.specs.declared.term.Term.{Term}
use Rattle.dp_signals.specs.Equations.{IsComputed, IsOver, MayAssume, values_along}

pub starts_more : (words xs ys : List ℕ) → Starts words xs → Starts words (xs ++ ys)
starts_more words xs ys h = (h.0 ++ ys, ap (λ zs. zs ++ ys) h.1 ∙ append_assoc words h.0 ys)

starts_short : (words xs : List ℕ) → Starts words xs → length words ≤ length xs
starts_short words xs h = let sizes = ap length h.1 ∙ length-append words h.0 in omega (arith, sizes)

-- the words stay while rows after them are written
pub starts_set : (words xs : List ℕ) (n w : ℕ) → Starts words xs → length words ≤ n → Starts words (slice_set xs n w)
starts_set words xs n w h le =
    (slice_set h.0 (n - length words) w, ap (λ ys. slice_set ys n w) h.1 ∙ set-append_right words h.0 (length words) n w refl le)

-- words with which the constants begin may be assumed for all values that begin with the given ones
pub may_assume : (words constants state given rest values : List ℕ) → Starts words constants → given ≡ constants ++ state → values ≡ given ++ rest → MayAssume words given values
may_assume words constants state given rest values h e k =
    let first : Starts words given = rw e (starts_more words constants state h) in
    (rw k (starts_more words given rest first), starts_short words given first)

-- ---- the given values stay while rows are computed

pub over_set : (given : List ℕ) (rows : ℕ) (xs : List ℕ) (n w : ℕ) → IsOver given rows xs → length given ≤ n → IsOver given rows (slice_set xs n w)
over_set given rows xs n w h le = (
  slice_set h.0 (n - length given) w,
  length-set h.0 (n - length given) w ∙ h.1,
  ap (λ ys. slice_set ys n w) h.2 ∙ set-append_right given h.0 (length given) n w refl le,
)

pub over_along : (given : List ℕ) (first : ℕ) (terms : List Term) (rows size : ℕ) (rule : ℕ → (ℕ → ℕ) → ℕ) (ids xs : List ℕ) →
    AllByRecursion (λ id. IsComputed (length given) first terms size id) ids → IsOver given rows xs → IsOver given rows (values_along rule xs ids)
over_along given first terms rows size rule [] xs computed h = h
over_along given first terms rows size rule (n ∷ ids) xs computed h =
    over_along given first terms rows size rule ids (slice_set xs n (rule n (at xs))) computed.1 (over_set given rows xs n (rule n (at xs)) h computed.0.behind)

-- ---- words that are put into rows, one after the other

abbrev pub put_words : ℕ → List ℕ → List ℕ → List ℕ
put_words n [] xs = xs
put_words n (w ∷ ws) xs = put_words (n + 1) ws (slice_set xs n w)

none_left : (n : ℕ) → n - n ≡ 0
none_left n = omega arith

-- words put after a front, over a middle of the same length
put_behind : (front ws middle rest : List ℕ) → length middle ≡ length ws → put_words (length front) ws (front ++ (middle ++ rest)) ≡ front ++ (ws ++ rest)
put_behind front [] [] rest e = refl
put_behind front [] (m ∷ middle) rest e = absurd (omega (arith, e))
put_behind front (w ∷ ws) [] rest e = absurd (omega (arith, e))
put_behind front (w ∷ ws) (m ∷ middle) rest e =
    let here : slice_set (front ++ (m ∷ (middle ++ rest))) (length front) w ≡ (front ++ (w ∷ [])) ++ (middle ++ rest) =
    set-append_right front (m ∷ (middle ++ rest)) (length front) (length front) w refl (omega arith)
    ∙ ap (λ k. front ++ slice_set (m ∷ (middle ++ rest)) k w) (none_left (length front)) ∙ sym (append_assoc front (w ∷ []) (middle ++ rest)) in
    let more : length (front ++ (w ∷ [])) ≡ length front + 1 = length-append front (w ∷ []) in
    ap (λ xs. put_words (length front + 1) ws xs) here
    ∙ ap (λ n. put_words n ws ((front ++ (w ∷ [])) ++ (middle ++ rest))) (sym more)
    ∙ put_behind (front ++ (w ∷ [])) ws middle rest (omega (arith, e))
    ∙ append_assoc front (w ∷ []) (ws ++ rest)

-- the words of a state, put after the constants
pub put_given : (first ws xs : List ℕ) (rows : ℕ) → Starts first xs → length xs ≡ length first + length ws + rows → IsOver (first ++ ws) rows (put_words (length first) ws xs)
put_given first ws xs rows h size =
    let sizes = ap length h.1 ∙ length-append first h.0 in
    let k = length ws in
    let split : xs ≡ first ++ (take k h.0 ++ drop k h.0) = h.1 ∙ ap (λ ys. first ++ ys) (sym (take-append-drop k h.0)) in
    let middle : length (take k h.0) ≡ k = length-take-le k h.0 (omega (arith, sizes, size)) in (
      drop k h.0,
      rw (length-drop k h.0) (omega (arith, sizes, size)),
      ap (put_words (length first) ws) split ∙ put_behind first ws (take k h.0) (drop k h.0) middle ∙ sym (append_assoc first ws (drop k h.0)),
    )

-- ---- a row that is computed comes after the given ones

pub computed_behind : (given first : ℕ) (terms : List Term) (rows : ℕ) (ids : List ℕ) (n : ℕ) → n < length ids →
    AllByRecursion (λ id. IsComputed given first terms rows id) ids → given ≤ get_or ids n 0
computed_behind given first terms rows [] n lt h = absurd (omega (arith, lt))
computed_behind given first terms rows (id ∷ ids) zero lt h = h.0.behind
computed_behind given first terms rows (id ∷ ids) (suc n) lt h = computed_behind given first terms rows ids n (omega (arith, lt)) h.1

-- ---- words that are put into the first rows, one after the other

pub words_put : {A : Type 0} (f : A → ℕ) (xs : List A) (v : List ℕ) (i : ℕ) (d : A) → i < length xs → length xs ≤ length v →
    slice_set (map f (take i xs) ++ drop i v) i (f (get_or xs i d)) ≡ map f (take (i + 1) xs) ++ drop (i + 1) v
words_put f [] v i d lt le = absurd (omega (arith, lt))
words_put f (x ∷ xs) [] i d lt le = absurd (omega (arith, le))
words_put f (x ∷ xs) (y ∷ v) zero d lt le = refl
words_put f (x ∷ xs) (y ∷ v) (suc i) d lt le =
    let more : suc i + 1 ≡ suc (i + 1) = omega arith in
    rw more (ap (λ ys. f x ∷ ys) (words_put f xs v i d (omega (arith, lt)) (omega (arith, le))))
