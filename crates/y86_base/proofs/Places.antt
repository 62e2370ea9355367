-- The line and the column after a text, from its last line feed.
use Rattle.std.proofs.Common.{◌≡◌, ℕ, ◌+◌, ◌-◌, ◌<◌, Bool, false, cond, not, List, [], ◌∷◌, ◌++◌, length, reverse, count_by, append_assoc, refl, sym, ap, subst, ◌∙◌, arith}
use Rattle.std.specs.List.{position_or_len}
use Rattle.std.proofs.lemmas.List.{get_or-reverse, length-reverse, reverse-append}
use Rattle.std.proofs.lemmas.List.Elements.{All-head, All-tail}
use Rattle.std.proofs.lemmas.List.Sums.{sum_by-append, sum_by-cons}
use Rattle.y86_base.specs.Cursor.{column_behind, line_behind}
use Rattle.y86_base.specs.Text.{HasNoLineFeed, is_line_feed}

HasNoLineFeed-reverse : (text : List ℕ) → HasNoLineFeed text → HasNoLineFeed (reverse text)
HasNoLineFeed-reverse text h k d lt =
    let within : k < length text = omega (arith, length-reverse text) in
    subst (λ byte. is_line_feed byte ≡ false) (sym (get_or-reverse text k d within)) (h (length text - 1 - k) d (omega arith))

-- one byte in front
one_more : (ends : Bool) (n : ℕ) → ends ≡ false → cond (not ends) (1 + n) 0 ≡ n + 1
one_more ends n e = rw e (omega arith)

-- the first line feed comes after the bytes that are none
front : (text rest : List ℕ) → HasNoLineFeed text → position_or_len is_line_feed (text ++ 10 ∷ rest) ≡ length text
front [] rest h = refl
front (byte ∷ text) rest h =
    one_more (is_line_feed byte) (position_or_len is_line_feed (text ++ 10 ∷ rest)) (All-head (λ b. is_line_feed b ≡ false) byte text h)
    ∙ omega (arith, front text rest (All-tail (λ b. is_line_feed b ≡ false) byte text h))

whole : (text : List ℕ) → HasNoLineFeed text → position_or_len is_line_feed text ≡ length text
whole [] h = refl
whole (byte ∷ text) h =
    one_more (is_line_feed byte) (position_or_len is_line_feed text) (All-head (λ b. is_line_feed b ≡ false) byte text h)
    ∙ omega (arith, whole text (All-tail (λ b. is_line_feed b ≡ false) byte text h))

none : (text : List ℕ) → HasNoLineFeed text → count_by is_line_feed text ≡ 0
none [] h = refl
none (byte ∷ text) h =
    let e = All-head (λ b. is_line_feed b ≡ false) byte text h in
    sum_by-cons (λ b. cond (is_line_feed b) 1 0) byte text
    ∙ rw e (omega (arith, none text (All-tail (λ b. is_line_feed b ≡ false) byte text h)))

pub first_line : (done : List ℕ) → HasNoLineFeed done → (line_behind done ≡ 1) × (column_behind done ≡ length done + 1)
first_line done h = (
  ap (λ n. n + 1) (none done h),
  ap (λ n. n + 1) (whole (reverse done) (HasNoLineFeed-reverse done h) ∙ length-reverse done),
)

later_count : (before since : List ℕ) → HasNoLineFeed since → count_by is_line_feed (before ++ 10 ∷ since) ≡ count_by is_line_feed before + 1
later_count before since h =
    sum_by-append (λ b. cond (is_line_feed b) 1 0) before (10 ∷ since)
    ∙ ap (λ n. count_by is_line_feed before + n) (sum_by-cons (λ b. cond (is_line_feed b) 1 0) 10 since ∙ ap (λ n. 1 + n) (none since h))

turned : (before since : List ℕ) → reverse (before ++ 10 ∷ since) ≡ reverse since ++ 10 ∷ reverse before
turned before since =
    ap reverse (sym (append_assoc before (10 ∷ []) since)) ∙ reverse-append (before ++ 10 ∷ []) since
    ∙ ap (λ back. reverse since ++ back) (reverse-append before (10 ∷ []))

pub later_line : (before since : List ℕ) → HasNoLineFeed since →
    (line_behind (before ++ 10 ∷ since) ≡ line_behind before + 1) × (column_behind (before ++ 10 ∷ since) ≡ length since + 1)
later_line before since h = (
  ap (λ n. n + 1) (later_count before since h),
  ap (λ n. n + 1) (ap (position_or_len is_line_feed) (turned before since)
      ∙ front (reverse since) (reverse before) (HasNoLineFeed-reverse since h) ∙ length-reverse since),
)
