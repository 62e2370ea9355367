-- Every reader of tokens gives the same result for a line and for the squeezed line.
use Rattle.std.proofs.Common.{◌≡◌, ◌+◌, ap, sym, subst, ◌∙◌, ℕ, suc, Bool, true, false, cond, List, [], ◌∷◌, length, take, drop, Option, None, Some, refl, arith}
use Rattle.std.proofs.Math.Seq.{drop-length}
use Rattle.std.specs.Prelude.{nat_eq, not, ◌&&◌, ◌||◌, ◌==◌, codes, take_while, unwrap_or}
use Rattle.std.specs.List.{list_all, starts_with, prefix_len}
use Rattle.std.proofs.Math.Numerals.{one-add}
use Rattle.std.proofs.lemmas.Bool.{false≢true, not-true, or_parts, eqb-true, and_parts}
use Rattle.std.proofs.lemmas.Bool.Decides.{nat_tests}
use Rattle.std.specs.Str.Parse.{digits_value}
use Rattle.y86_base.specs.Text.{after_byte, begins, behind, below_word, is_blank, is_decimal, is_hex, is_name_byte}
use Rattle.y86_base.specs.declared.number.Number.{Number}
use Rattle.y86_base.specs.Keyword.{keyword_at}
use Rattle.y86_base.specs.Number.{decimal_at, digits_at, unsigned_at}
use Rattle.y86_base.specs.Registers.{register_names}
use Rattle.yas_asm.specs.Tokens.{is_name_start, sign, name_at, name, is_hex_number, number_at, number, next_is}
use Rattle.yas_asm.specs.Comments.{comment_length, close_length, ends_at, ends}
use Rattle.yas_asm.specs.Tables.{register, directives, directive}
use Rattle.yas_asm.specs.Spacing.{is_sign, squeezed}

-- a byte that ends each token: a blank, a sign, `#` or `/`
abbrev pub stops : ℕ → Bool
stops byte = is_blank byte || is_sign byte || byte == 35 || byte == 47

-- a byte that stops no token is none of these
pub record IsPlain (byte : ℕ) : Type 0 where
  pub blank : is_blank byte ≡ false
  pub sign : is_sign byte ≡ false
  pub hash : (byte == 35) ≡ false
  pub slash : (byte == 47) ≡ false

plain : (byte : ℕ) → stops byte ≡ false → IsPlain byte
plain byte e =
    let slash = or_parts (is_blank byte || is_sign byte || byte == 35) (byte == 47) e in
    let hash = or_parts (is_blank byte || is_sign byte) (byte == 35) slash.0 in
    let sign = or_parts (is_blank byte) (is_sign byte) hash.0 in
    record { blank = sign.0; sign = sign.1; hash = hash.1; slash = slash.1 }

starts_more : (byte c : ℕ) (bytes w : List ℕ) → starts_with nat_eq (byte ∷ bytes) (c ∷ w) ≡ (nat_eq c byte && starts_with nat_eq bytes w)
starts_more byte c bytes w = refl

eq_turned : (a b : ℕ) → nat_eq a b ≡ false → nat_eq b a ≡ false
eq_turned a b e = grind (arith, nat_tests)

starts_other : (byte c : ℕ) (bytes w : List ℕ) → nat_eq byte c ≡ false → starts_with nat_eq (byte ∷ bytes) (c ∷ w) ≡ false
starts_other byte c bytes w e = starts_more byte c bytes w ∙ ap (λ b. b && starts_with nat_eq bytes w) (eq_turned byte c e)

-- no comment begins at a byte other than `#` and `/`
pub no_comment : (byte : ℕ) (bytes : List ℕ) → (byte == 35) ≡ false → (byte == 47) ≡ false → comment_length (byte ∷ bytes) ≡ 0
unfolding comment_length
no_comment byte bytes h s =
    by (byte == 35) (starts_with nat_eq (byte ∷ bytes) (codes "//")) (starts_with nat_eq (byte ∷ bytes) (codes "/*")) h
    (starts_other byte 47 bytes (codes "/") s) (starts_other byte 47 bytes (codes "*") s)
  where
    by : (a b c : Bool) → a ≡ false → b ≡ false → c ≡ false
        → cond (a || b) (length (byte ∷ bytes)) (cond (c && not (close_length (drop 2 (byte ∷ bytes)) == 0)) (2 + close_length (drop 2 (byte ∷ bytes))) 0) ≡ 0
    by true b c h s t = absurd (false≢true (sym h))
    by false true c h s t = absurd (false≢true (sym s))
    by false false true h s t = absurd (false≢true (sym t))
    by false false false h s t = refl

pub after_blanks-other : (byte : ℕ) (bytes : List ℕ) → is_blank byte ≡ false → behind is_blank (byte ∷ bytes) ≡ byte ∷ bytes
after_blanks-other byte bytes e = by (is_blank byte) e
  where
    by : (b : Bool) → b ≡ false → drop (cond b (1 + prefix_len is_blank bytes) 0) (byte ∷ bytes) ≡ byte ∷ bytes
    by true e = absurd (false≢true (sym e))
    by false e = refl

pub after_blanks-blank : (byte : ℕ) (bytes : List ℕ) → is_blank byte ≡ true → behind is_blank (byte ∷ bytes) ≡ behind is_blank bytes
after_blanks-blank byte bytes e = by (is_blank byte) e
  where
    by : (b : Bool) → b ≡ true → drop (cond b (1 + prefix_len is_blank bytes) 0) (byte ∷ bytes) ≡ drop (prefix_len is_blank bytes) bytes
    by true e = rw one-add refl
    by false e = absurd (false≢true e)

-- what follows blanks doesn't begin with a blank
no_blank : (bytes : List ℕ) → begins is_blank (behind is_blank bytes) ≡ false
no_blank [] = refl
no_blank (byte ∷ bytes) = by (is_blank byte) refl (no_blank bytes)
  where
    by : (b : Bool) → is_blank byte ≡ b → begins is_blank (behind is_blank bytes) ≡ false → begins is_blank (behind is_blank (byte ∷ bytes)) ≡ false
    by true e rest = ap (begins is_blank) (after_blanks-blank byte bytes e) ∙ rest
    by false e rest = ap (begins is_blank) (after_blanks-other byte bytes e) ∙ e

ends-blank : (byte : ℕ) (bytes : List ℕ) → is_blank byte ≡ true → ends (byte ∷ bytes) ≡ ends bytes
unfolding ends
ends-blank byte bytes e = ap ends_at (after_blanks-blank byte bytes e)

pub ends-other : (byte : ℕ) (bytes : List ℕ) → is_blank byte ≡ false → ends (byte ∷ bytes) ≡ ends_at (byte ∷ bytes)
unfolding ends
ends-other byte bytes e = ap ends_at (after_blanks-other byte bytes e)

-- a line doesn't end at a byte that is no blank and begins no comment
not_end_at : (byte : ℕ) (bytes : List ℕ) → is_blank byte ≡ false → (byte == 35) ≡ false → (byte == 47) ≡ false → ends_at (byte ∷ bytes) ≡ false
not_end_at byte bytes b h s =
    ap (λ n. list_all is_blank (drop n (byte ∷ bytes))) (no_comment byte bytes h s) ∙ ap (λ x. x && list_all is_blank bytes) b

not_end : (byte : ℕ) (bytes : List ℕ) → is_blank byte ≡ false → (byte == 35) ≡ false → (byte == 47) ≡ false → ends (byte ∷ bytes) ≡ false
not_end byte bytes b h s = ends-other byte bytes b ∙ not_end_at byte bytes b h s

-- a line ends at `#`
pub hash_ends : (byte : ℕ) (bytes : List ℕ) → (byte == 35) ≡ true → ends_at (byte ∷ bytes) ≡ true
unfolding comment_length
hash_ends byte bytes h = by (byte == 35) h
  where
    by : (a : Bool) → a ≡ true
        → list_all is_blank (drop (cond (a || starts_with nat_eq (byte ∷ bytes) (codes "//")) (length (byte ∷ bytes))
        (cond (starts_with nat_eq (byte ∷ bytes) (codes "/*") && not (close_length (drop 2 (byte ∷ bytes)) == 0)) (2 + close_length (drop 2 (byte ∷ bytes))) 0)) (byte ∷ bytes)) ≡ true
    by true h = ap (list_all is_blank) (drop-length (byte ∷ bytes))
    by false h = absurd (false≢true h)

-- squeezing a line, case by case
pub squeezed-end : (close : Bool) (byte : ℕ) (bytes : List ℕ) → ends (byte ∷ bytes) ≡ true → squeezed close (byte ∷ bytes) ≡ []
unfolding squeezed
squeezed-end close byte bytes e = by (ends (byte ∷ bytes)) e _
  where
    by : (b : Bool) → b ≡ true → (x : List ℕ) → cond b [] x ≡ []
    by true e x = refl
    by false e x = absurd (false≢true e)

second : (a b : Bool) (x y z : List ℕ) → a ≡ false → b ≡ true → cond a x (cond b y z) ≡ y
second true b x y z e f = absurd (false≢true (sym e))
second false true x y z e f = refl
second false false x y z e f = absurd (false≢true f)

third : (a b c : Bool) (w x y z : List ℕ) → a ≡ false → b ≡ false → c ≡ true → cond a w (cond b x (cond c y z)) ≡ y
third true b c w x y z e f g = absurd (false≢true (sym e))
third false true c w x y z e f g = absurd (false≢true (sym f))
third false false true w x y z e f g = refl
third false false false w x y z e f g = absurd (false≢true g)

last : (a b c : Bool) (w x y z : List ℕ) → a ≡ false → b ≡ false → c ≡ false → cond a w (cond b x (cond c y z)) ≡ z
last true b c w x y z e f g = absurd (false≢true (sym e))
last false true c w x y z e f g = absurd (false≢true (sym f))
last false false true w x y z e f g = absurd (false≢true (sym g))
last false false false w x y z e f g = refl

abbrev pub skips : ℕ → Bool
skips next = is_blank next || is_sign next

pub squeezed-blank : (close : Bool) (byte : ℕ) (bytes : List ℕ) → ends (byte ∷ bytes) ≡ false → is_blank byte ≡ true
    → squeezed close (byte ∷ bytes) ≡ cond (close || begins skips bytes) (squeezed close bytes) (32 ∷ squeezed close bytes)
unfolding squeezed
squeezed-blank close byte bytes e b = second (ends (byte ∷ bytes)) (is_blank byte) _ _ _ e b

pub squeezed-slash : (close : Bool) (byte : ℕ) (bytes : List ℕ) → ends (byte ∷ bytes) ≡ false → is_blank byte ≡ false → (byte == 47) ≡ true → squeezed close (byte ∷ bytes) ≡ byte ∷ bytes
unfolding squeezed
squeezed-slash close byte bytes e b s = third (ends (byte ∷ bytes)) (is_blank byte) (byte == 47) _ _ _ _ e b s

pub squeezed-other : (close : Bool) (byte : ℕ) (bytes : List ℕ) → ends (byte ∷ bytes) ≡ false → is_blank byte ≡ false → (byte == 47) ≡ false → squeezed close (byte ∷ bytes) ≡ byte ∷ squeezed (is_sign byte) bytes
unfolding squeezed
squeezed-other close byte bytes e b s = last (ends (byte ∷ bytes)) (is_blank byte) (byte == 47) _ _ _ _ e b s

squeezed-plain : (close : Bool) (byte : ℕ) (bytes : List ℕ) → stops byte ≡ false → squeezed close (byte ∷ bytes) ≡ byte ∷ squeezed false bytes
squeezed-plain close byte bytes e =
    let p = plain byte e in
    squeezed-other close byte bytes (not_end byte bytes p.blank p.hash p.slash) p.blank p.slash ∙ ap (λ s. byte ∷ squeezed s bytes) p.sign

pub squeezed-none : (close : Bool) → squeezed close [] ≡ []
unfolding squeezed
squeezed-none close = refl

-- for a byte that is no blank, it doesn't matter what is in front of it
squeezed-head : (f g : Bool) (byte : ℕ) (bytes : List ℕ) → is_blank byte ≡ false → squeezed f (byte ∷ bytes) ≡ squeezed g (byte ∷ bytes)
squeezed-head f g byte bytes b = by (ends (byte ∷ bytes)) (byte == 47) refl refl
  where
    by : (e s : Bool) → ends (byte ∷ bytes) ≡ e → (byte == 47) ≡ s → squeezed f (byte ∷ bytes) ≡ squeezed g (byte ∷ bytes)
    by true s e t = squeezed-end f byte bytes e ∙ sym (squeezed-end g byte bytes e)
    by false true e t = squeezed-slash f byte bytes e b t ∙ sym (squeezed-slash g byte bytes e b t)
    by false false e t = squeezed-other f byte bytes e b t ∙ sym (squeezed-other g byte bytes e b t)

after_blanks-none : behind is_blank [] ≡ []
after_blanks-none = refl

squeezed-ended : (g : Bool) (bytes : List ℕ) → ends bytes ≡ true → squeezed g (behind is_blank bytes) ≡ []
squeezed-ended g [] e = ap (squeezed g) after_blanks-none ∙ squeezed-none g
squeezed-ended g (byte ∷ bytes) e = by (is_blank byte) refl (squeezed-ended g bytes)
  where
    by : (b : Bool) → is_blank byte ≡ b → (ends bytes ≡ true → squeezed g (behind is_blank bytes) ≡ []) → squeezed g (behind is_blank (byte ∷ bytes)) ≡ []
    by true b rest = ap (squeezed g) (after_blanks-blank byte bytes b) ∙ rest (sym (ends-blank byte bytes b) ∙ e)
    by false b rest = ap (squeezed g) (after_blanks-other byte bytes b) ∙ squeezed-end g byte bytes e

-- blanks in front of a line are skipped alike before and after it is squeezed
pub after_blanks-squeezed : (f g : Bool) (bytes : List ℕ) → behind is_blank (squeezed f bytes) ≡ squeezed g (behind is_blank bytes)
after_blanks-squeezed f g [] = ap (behind is_blank) (squeezed-none f) ∙ after_blanks-none ∙ sym (squeezed-none g) ∙ sym (ap (squeezed g) after_blanks-none)
after_blanks-squeezed f g (byte ∷ bytes) = by (ends (byte ∷ bytes)) (is_blank byte) refl refl (after_blanks-squeezed f g bytes)
  where
    skip : (c : Bool) → behind is_blank (squeezed f bytes) ≡ squeezed g (behind is_blank bytes)
        → behind is_blank (cond c (squeezed f bytes) (32 ∷ squeezed f bytes)) ≡ squeezed g (behind is_blank bytes)
    skip true rest = rest
    skip false rest = after_blanks-blank 32 (squeezed f bytes) refl ∙ rest

    kept : (s : Bool) → ends (byte ∷ bytes) ≡ false → is_blank byte ≡ false → (byte == 47) ≡ s → behind is_blank (squeezed f (byte ∷ bytes)) ≡ squeezed f (byte ∷ bytes)
    kept true e b t = ap (behind is_blank) (squeezed-slash f byte bytes e b t) ∙ after_blanks-other byte bytes b ∙ sym (squeezed-slash f byte bytes e b t)
    kept false e b t = ap (behind is_blank) (squeezed-other f byte bytes e b t) ∙ after_blanks-other byte _ b ∙ sym (squeezed-other f byte bytes e b t)

    by : (e b : Bool) → ends (byte ∷ bytes) ≡ e → is_blank byte ≡ b → behind is_blank (squeezed f bytes) ≡ squeezed g (behind is_blank bytes)
        → behind is_blank (squeezed f (byte ∷ bytes)) ≡ squeezed g (behind is_blank (byte ∷ bytes))
    by true b e t rest = ap (behind is_blank) (squeezed-end f byte bytes e) ∙ after_blanks-none ∙ sym (squeezed-ended g (byte ∷ bytes) e)
    by false true e t rest =
        ap (behind is_blank) (squeezed-blank f byte bytes e t) ∙ skip (f || begins skips bytes) rest ∙ sym (ap (squeezed g) (after_blanks-blank byte bytes t))
    by false false e t rest =
        kept (byte == 47) e t refl ∙ squeezed-head f g byte bytes t ∙ sym (ap (squeezed g) (after_blanks-other byte bytes t))

-- a test that no stop passes, such as that of the bytes of a name
pub IsInner : (ℕ → Bool) → Type 0
IsInner test = (byte : ℕ) → test byte ≡ true → stops byte ≡ false

-- a test that no blank and no sign passes
pub IsOuter : (ℕ → Bool) → Type 0
IsOuter test = (byte : ℕ) → skips byte ≡ true → test byte ≡ false

outer : (test : ℕ → Bool) → IsInner test → IsOuter test
unfolding IsInner IsOuter
outer test inner byte s = by (test byte) refl
  where
    by : (b : Bool) → test byte ≡ b → test byte ≡ false
    by false e = e
    by true e =
        let two = or_parts (skips byte || byte == 35) (byte == 47) (inner byte e) in
        absurd (false≢true (sym (or_parts (skips byte) (byte == 35) two.0).0 ∙ s))

begins_skip : (test : ℕ → Bool) → IsOuter test → (bytes : List ℕ) → begins skips bytes ≡ true → begins test bytes ≡ false
unfolding IsOuter
begins_skip test outer [] e = absurd (false≢true e)
begins_skip test outer (byte ∷ bytes) e = outer byte e

-- if the first byte fails the test, so does the first byte of the squeezed line
begins-squeezed : (test : ℕ → Bool) → IsOuter test → (bytes : List ℕ) → begins test bytes ≡ false → begins test (squeezed false bytes) ≡ false
unfolding IsOuter
begins-squeezed test outer [] e = ap (begins test) (squeezed-none false)
begins-squeezed test outer (byte ∷ bytes) e = by (ends (byte ∷ bytes)) (is_blank byte) (byte == 47) refl refl refl (begins-squeezed test outer bytes)
  where
    drops : (c : Bool) → begins skips bytes ≡ c → (begins test bytes ≡ false → begins test (squeezed false bytes) ≡ false)
        → begins test (cond c (squeezed false bytes) (32 ∷ squeezed false bytes)) ≡ false
    drops true c rest = rest (begins_skip test outer bytes c)
    drops false c rest = at_space test outer
      where
        at_space : (test : ℕ → Bool) → IsOuter test → test 32 ≡ false
        at_space test outer = outer 32 refl

    by : (e b s : Bool) → ends (byte ∷ bytes) ≡ e → is_blank byte ≡ b → (byte == 47) ≡ s → (begins test bytes ≡ false → begins test (squeezed false bytes) ≡ false)
        → begins test (squeezed false (byte ∷ bytes)) ≡ false
    by true b s t u v rest = ap (begins test) (squeezed-end false byte bytes t)
    by false true s t u v rest = ap (begins test) (squeezed-blank false byte bytes t u) ∙ drops (begins skips bytes) refl rest
    by false false true t u v rest = ap (begins test) (squeezed-slash false byte bytes t u v) ∙ e
    by false false false t u v rest = ap (begins test) (squeezed-other false byte bytes t u v) ∙ e

-- the bytes in front that pass a test, and those after them
abbrev pub split : (ℕ → Bool) → List ℕ → List ℕ × List ℕ
split test bytes = (take_while test bytes, behind test bytes)

split_none : (test : ℕ → Bool) (bytes : List ℕ) → begins test bytes ≡ false → split test bytes ≡ ([], bytes)
split_none test [] e = refl
split_none test (byte ∷ bytes) e = ap (λ n. (take n (byte ∷ bytes), drop n (byte ∷ bytes))) (by (test byte) e)
  where
    by : (b : Bool) → b ≡ false → cond b (1 + prefix_len test bytes) 0 ≡ 0
    by true e = absurd (false≢true (sym e))
    by false e = refl

split_more : (test : ℕ → Bool) (byte : ℕ) (bytes : List ℕ) → test byte ≡ true → split test (byte ∷ bytes) ≡ (byte ∷ (split test bytes).0, (split test bytes).1)
split_more test byte bytes e = ap (λ n. (take n (byte ∷ bytes), drop n (byte ∷ bytes))) (by (test byte) e)
  where
    by : (b : Bool) → b ≡ true → cond b (1 + prefix_len test bytes) 0 ≡ suc (prefix_len test bytes)
    by true e = one-add (prefix_len test bytes)
    by false e = absurd (false≢true e)

split-squeezed : (test : ℕ → Bool) → IsInner test → (bytes : List ℕ) → split test (squeezed false bytes) ≡ ((split test bytes).0, squeezed false (split test bytes).1)
unfolding IsInner
split-squeezed test inner [] = ap (split test) (squeezed-none false) ∙ ap (λ (xs : List ℕ). (let front : List ℕ = [] in front, xs)) (sym (squeezed-none false))
split-squeezed test inner (byte ∷ bytes) = by (test byte) refl (split-squeezed test inner bytes)
  where
    by : (b : Bool) → test byte ≡ b → split test (squeezed false bytes) ≡ ((split test bytes).0, squeezed false (split test bytes).1)
        → split test (squeezed false (byte ∷ bytes)) ≡ ((split test (byte ∷ bytes)).0, squeezed false (split test (byte ∷ bytes)).1)
    by true e rest =
        ap (split test) (squeezed-plain false byte bytes (inner byte e)) ∙ split_more test byte (squeezed false bytes) e
        ∙ ap (λ (p : List ℕ × List ℕ). (byte ∷ p.0, p.1)) rest
        ∙ sym (ap (λ (p : List ℕ × List ℕ). (p.0, squeezed false p.1)) (split_more test byte bytes e))
    by false e rest =
        split_none test (squeezed false (byte ∷ bytes)) (begins-squeezed test (outer test inner) (byte ∷ bytes) e)
        ∙ sym (ap (λ (p : List ℕ × List ℕ). (p.0, squeezed false p.1)) (split_none test (byte ∷ bytes) e))

begins_inner : (test : ℕ → Bool) → IsInner test → (bytes : List ℕ) → begins test (squeezed false bytes) ≡ begins test bytes
unfolding IsInner
begins_inner test inner [] = ap (begins test) (squeezed-none false)
begins_inner test inner (byte ∷ bytes) = by (test byte) refl
  where
    by : (b : Bool) → test byte ≡ b → begins test (squeezed false (byte ∷ bytes)) ≡ test byte
    by true e = ap (begins test) (squeezed-plain false byte bytes (inner byte e))
    by false e = begins-squeezed test (outer test inner) (byte ∷ bytes) e ∙ sym e

-- a reading of a squeezed line gives the same thing, and what is left is squeezed
abbrev pub Moved : {A : Type 0} → Option (A × List ℕ) → Option (A × List ℕ) → Type 0
Moved None None = Unit {0}
Moved None (Some y) = ⊥
Moved (Some x) None = ⊥
Moved (Some x) (Some y) = (x.0 ≡ y.0) × ((close : Bool) × (x.1 ≡ squeezed close y.1))

-- the same for a sign
abbrev pub Passed : Option (List ℕ) → Option (List ℕ) → Type 0
Passed None None = Unit {0}
Passed None (Some y) = ⊥
Passed (Some x) None = ⊥
Passed (Some x) (Some y) = (close : Bool) × (x ≡ squeezed close y)

chosen : {A : Type 0} (a b : Bool) (x y : A × List ℕ) → a ≡ b → (b ≡ true → (x.0 ≡ y.0) × ((close : Bool) × (x.1 ≡ squeezed close y.1))) → Moved (cond a (Some x) None) (cond b (Some y) None)
chosen true true x y e h = h refl
chosen true false x y e h = absurd (false≢true (sym e))
chosen false true x y e h = absurd (false≢true e)
chosen false false x y e h = tt

-- the tests of the tokens are inner
inner_letter : IsInner is_name_start
unfolding IsInner
inner_letter byte e = grind (arith, nat_tests)

inner_decimal : IsInner is_decimal
unfolding IsInner
inner_decimal byte e = grind (arith, nat_tests)

inner_name : IsInner is_name_byte
unfolding IsInner
inner_name byte e = by (is_name_start byte) (is_decimal byte) refl refl e
  where
    by : (a b : Bool) → is_name_start byte ≡ a → is_decimal byte ≡ b → (a || b) ≡ true → stops byte ≡ false
    by true b s t e = inner_letter byte s
    by false true s t e = inner_decimal byte t
    by false false s t e = absurd (false≢true e)

inner_hex : IsInner is_hex
unfolding IsInner
inner_hex byte e = grind (arith, nat_tests)

-- each reader reads after the blanks in front
module _ {A : Type 0} (read : List ℕ → Option (A × List ℕ)) (at : (text : List ℕ) → Moved (read (squeezed false text)) (read text)) where
  behind_blanks : (close : Bool) (bytes : List ℕ) → Moved (read (behind is_blank (squeezed close bytes))) (read (behind is_blank bytes))
  behind_blanks close bytes =
      subst (λ (text : List ℕ). Moved (read text) (read (behind is_blank bytes))) (sym (after_blanks-squeezed close false bytes)) (at (behind is_blank bytes))

name_at-moved : (text : List ℕ) → Moved (name_at (squeezed false text)) (name_at text)
name_at-moved text =
    let parts = split-squeezed is_name_byte inner_name text in
    chosen (begins is_name_start (squeezed false text)) (begins is_name_start text) (split is_name_byte (squeezed false text)) (split is_name_byte text)
    (begins_inner is_name_start inner_letter text)
    (λ _. (ap (λ (p : List ℕ × List ℕ). p.0) parts, (false, ap (λ (p : List ℕ × List ℕ). p.1) parts)))

pub name-moved : (close : Bool) (bytes : List ℕ) → Moved (name (squeezed close bytes)) (name bytes)
unfolding name
name-moved close bytes = behind_blanks name_at name_at-moved close bytes

-- a fixed text whose bytes are no stops
abbrev pub is_plain_text : List ℕ → Bool
is_plain_text text = list_all (λ byte. not (stops byte)) text

eq_outer : (c : ℕ) → stops c ≡ false → IsOuter (λ byte. nat_eq c byte)
unfolding IsOuter
eq_outer c p byte s = by (nat_eq c byte) refl
  where
    by : (b : Bool) → nat_eq c byte ≡ b → nat_eq c byte ≡ false
    by false e = e
    by true e =
        let two = or_parts (skips c || c == 35) (c == 47) p in
        absurd (false≢true (sym (or_parts (skips c) (c == 35) two.0).0 ∙ ap skips (eqb-true c byte e) ∙ s))

starts_none : (c : ℕ) (w text : List ℕ) → begins (λ byte. nat_eq c byte) text ≡ false → starts_with nat_eq text (c ∷ w) ≡ false
starts_none c w [] e = refl
starts_none c w (byte ∷ text) e = starts_more byte c text w ∙ ap (λ b. b && starts_with nat_eq text w) e

starts-squeezed : (word text : List ℕ) → is_plain_text word ≡ true → starts_with nat_eq (squeezed false text) word ≡ starts_with nat_eq text word
starts-squeezed [] text p = refl
starts-squeezed (c ∷ word) [] p = ap (λ xs. starts_with nat_eq xs (c ∷ word)) (squeezed-none false)
starts-squeezed (c ∷ word) (byte ∷ text) p = by (nat_eq c byte) refl (starts-squeezed word text (and_parts (not (stops c)) (is_plain_text word) p).1)
  where
    here : stops c ≡ false
    here = not-true (stops c) (and_parts (not (stops c)) (is_plain_text word) p).0

    by : (b : Bool) → nat_eq c byte ≡ b → starts_with nat_eq (squeezed false text) word ≡ starts_with nat_eq text word
        → starts_with nat_eq (squeezed false (byte ∷ text)) (c ∷ word) ≡ starts_with nat_eq (byte ∷ text) (c ∷ word)
    by true e rest =
        ap (λ xs. starts_with nat_eq xs (c ∷ word)) (squeezed-plain false byte text (sym (ap stops (eqb-true c byte e)) ∙ here))
        ∙ starts_more byte c (squeezed false text) word ∙ ap (λ b. nat_eq c byte && b) rest ∙ sym (starts_more byte c text word)
    by false e rest =
        starts_none c word (squeezed false (byte ∷ text)) (begins-squeezed (λ b. nat_eq c b) (eq_outer c here) (byte ∷ text) e)
        ∙ sym (starts_none c word (byte ∷ text) e)

drop-squeezed : (word text : List ℕ) → is_plain_text word ≡ true → starts_with nat_eq text word ≡ true → drop (length word) (squeezed false text) ≡ squeezed false (drop (length word) text)
drop-squeezed [] text p s = refl
drop-squeezed (c ∷ word) [] p s = absurd (false≢true s)
drop-squeezed (c ∷ word) (byte ∷ text) p s =
    let two = and_parts (nat_eq c byte) (starts_with nat_eq text word) (sym (starts_more byte c text word) ∙ s) in
    let parts = and_parts (not (stops c)) (is_plain_text word) p in
    ap (drop (length (c ∷ word))) (squeezed-plain false byte text (sym (ap stops (eqb-true c byte two.0)) ∙ not-true (stops c) parts.0))
    ∙ drop-squeezed word text parts.1 two.1

module _ {A : Type 0} where
  keyword-step : (a b : Bool) (row : List ℕ × A) (text : List ℕ) (rest rest' : Option (A × List ℕ)) → a ≡ b
      → (b ≡ true → drop (length row.0) (squeezed false text) ≡ squeezed false (drop (length row.0) text)) → Moved rest' rest
      → Moved (cond a (Some (row.1, drop (length row.0) (squeezed false text))) rest') (cond b (Some (row.1, drop (length row.0) text)) rest)
  keyword-step true true row text rest rest' e d m = (refl, (false, d refl))
  keyword-step true false row text rest rest' e d m = absurd (false≢true (sym e))
  keyword-step false true row text rest rest' e d m = absurd (false≢true e)
  keyword-step false false row text rest rest' e d m = m

  keyword_at-moved : (rows : List (List ℕ × A)) (text : List ℕ) → list_all (λ row. is_plain_text row.0) rows ≡ true → Moved (keyword_at rows (squeezed false text)) (keyword_at rows text)
  unfolding keyword_at
  keyword_at-moved [] text p = tt
  keyword_at-moved (row ∷ rows) text p =
      let parts = and_parts (is_plain_text row.0) (list_all (λ row. is_plain_text row.0) rows) p in
      keyword-step (starts_with nat_eq (squeezed false text) row.0) (starts_with nat_eq text row.0) row text (keyword_at rows text) (keyword_at rows (squeezed false text))
      (starts-squeezed row.0 text parts.0) (drop-squeezed row.0 text parts.0) (keyword_at-moved rows text parts.1)

pub register-moved : (close : Bool) (bytes : List ℕ) → Moved (register (squeezed close bytes)) (register bytes)
unfolding register register_names
register-moved close bytes = behind_blanks (keyword_at register_names) (λ text. keyword_at-moved register_names text refl) close bytes

pub directive-moved : (close : Bool) (bytes : List ℕ) → Moved (directive (squeezed close bytes)) (directive bytes)
unfolding directive directives
directive-moved close bytes = behind_blanks (keyword_at directives) (λ text. keyword_at-moved directives text refl) close bytes

-- numbers
digits_of : Bool → ℕ → List ℕ × List ℕ → Number × List ℕ
digits_of negative base parts = (record { negative = negative; magnitude = below_word (digits_value base parts.0) }, parts.1)

digits-squeezed : (negative : Bool) (base : ℕ) (test : ℕ → Bool) → IsInner test → (text text' : List ℕ) → text' ≡ squeezed false text
    → ((digits_at negative base test text').0 ≡ (digits_at negative base test text).0) × ((close : Bool) × ((digits_at negative base test text').1 ≡ squeezed close (digits_at negative base test text).1))
unfolding digits_of
digits-squeezed negative base test inner text text' e =
    let parts = ap (split test) e ∙ split-squeezed test inner text in
    (ap (λ (p : List ℕ × List ℕ). (digits_of negative base p).0) parts, (false, ap (λ (p : List ℕ × List ℕ). p.1) parts))

unsigned_at-moved : (negative negative' : Bool) (text text' : List ℕ) → negative' ≡ negative → text' ≡ squeezed false text → Moved (unsigned_at negative' text') (unsigned_at negative text)
unsigned_at-moved negative negative' text text' n e =
    subst (λ (m : Bool). Moved (unsigned_at m text') (unsigned_at negative text)) (sym n)
    (chosen (begins is_decimal text') (begins is_decimal text) (digits_at negative 10 is_decimal text') (digits_at negative 10 is_decimal text)
    (ap (begins is_decimal) e ∙ begins_inner is_decimal inner_decimal text) (λ _. digits-squeezed negative 10 is_decimal inner_decimal text text' e))

is_minus : ℕ → Bool
is_minus byte = byte == 45

inner_minus : IsInner (λ byte. byte == 45)
unfolding IsInner
inner_minus byte e = ap stops (eqb-true byte 45 e)

-- what follows a byte, by a test of it
after_byte_is : (w : ℕ) (text : List ℕ) → after_byte w text ≡ cond (begins (λ byte. byte == w) text) (Some (drop 1 text)) None
after_byte_is w [] = refl
after_byte_is w (byte ∷ text) = refl

minus-squeezed : (text : List ℕ) → unwrap_or (after_byte 45 (squeezed false text)) (squeezed false text) ≡ squeezed false (unwrap_or (after_byte 45 text) text)
minus-squeezed [] = ap (λ xs. unwrap_or (after_byte 45 xs) xs) (squeezed-none false) ∙ sym (squeezed-none false)
minus-squeezed (byte ∷ text) = by (byte == 45) refl
  where
    body : (b : Bool) (xs : List ℕ) → begins (λ byte. byte == 45) xs ≡ b → unwrap_or (after_byte 45 xs) xs ≡ cond b (drop 1 xs) xs
    body b xs e = ap (λ o. unwrap_or o xs) (after_byte_is 45 xs) ∙ ap (λ c. unwrap_or (cond c (Some (drop 1 xs)) None) xs) e ∙ pick b
      where
        pick : (b : Bool) → unwrap_or (cond b (Some (drop 1 xs)) None) xs ≡ cond b (drop 1 xs) xs
        pick true = refl
        pick false = refl

    by : (b : Bool) → (byte == 45) ≡ b → unwrap_or (after_byte 45 (squeezed false (byte ∷ text))) (squeezed false (byte ∷ text)) ≡ squeezed false (unwrap_or (after_byte 45 (byte ∷ text)) (byte ∷ text))
    by true e =
        body true (squeezed false (byte ∷ text)) (begins_inner (λ byte. byte == 45) inner_minus (byte ∷ text) ∙ e)
        ∙ ap (drop 1) (squeezed-plain false byte text (ap stops (eqb-true byte 45 e)))
        ∙ ap (squeezed false) (sym (body true (byte ∷ text) e))
    by false e =
        body false (squeezed false (byte ∷ text)) (begins_inner (λ byte. byte == 45) inner_minus (byte ∷ text) ∙ e)
        ∙ ap (squeezed false) (sym (body false (byte ∷ text) e))

hex_step : (a b : Bool) (x y : Number × List ℕ) (rest rest' : Option (Number × List ℕ)) → a ≡ b → (b ≡ true → (x.0 ≡ y.0) × ((close : Bool) × (x.1 ≡ squeezed close y.1)))
    → Moved rest' rest → Moved (cond a (Some x) rest') (cond b (Some y) rest)
hex_step true true x y rest rest' e h m = h refl
hex_step true false x y rest rest' e h m = absurd (false≢true (sym e))
hex_step false true x y rest rest' e h m = absurd (false≢true e)
hex_step false false x y rest rest' e h m = m

is_hex_number-squeezed : (text : List ℕ) → is_hex_number (squeezed false text) ≡ is_hex_number text
is_hex_number-squeezed text = by (starts_with nat_eq text (codes "0x")) refl
  where
    by : (b : Bool) → starts_with nat_eq text (codes "0x") ≡ b → is_hex_number (squeezed false text) ≡ is_hex_number text
    by true e =
        ap (λ b. b && begins is_hex (drop 2 (squeezed false text))) (starts-squeezed (codes "0x") text refl)
        ∙ ap (λ b. starts_with nat_eq text (codes "0x") && b) (ap (begins is_hex) (drop-squeezed (codes "0x") text refl e) ∙ begins_inner is_hex inner_hex (drop 2 text))
    by false e =
        ap (λ b. b && begins is_hex (drop 2 (squeezed false text))) (starts-squeezed (codes "0x") text refl ∙ e)
        ∙ sym (ap (λ b. b && begins is_hex (drop 2 text)) e)

number_at-moved : (text : List ℕ) → Moved (number_at (squeezed false text)) (number_at text)
unfolding decimal_at
number_at-moved text =
    hex_step (is_hex_number (squeezed false text)) (is_hex_number text) (digits_at false 16 is_hex (drop 2 (squeezed false text))) (digits_at false 16 is_hex (drop 2 text)) _ _
    (is_hex_number-squeezed text)
    (λ h. digits-squeezed false 16 is_hex inner_hex (drop 2 text) (drop 2 (squeezed false text))
    (drop-squeezed (codes "0x") text refl (and_parts (starts_with nat_eq text (codes "0x")) (begins is_hex (drop 2 text)) h).0))
    (unsigned_at-moved (begins (λ byte. byte == 45) text) (begins (λ byte. byte == 45) (squeezed false text)) (unwrap_or (after_byte 45 text) text) _
    (begins_inner (λ byte. byte == 45) inner_minus text) (minus-squeezed text))

pub number-moved : (close : Bool) (bytes : List ℕ) → Moved (number (squeezed close bytes)) (number bytes)
unfolding number
number-moved close bytes = behind_blanks number_at number_at-moved close bytes

-- signs
head_sign : (w : ℕ) → is_blank w ≡ false → (w == 35) ≡ false → (w == 47) ≡ false → is_sign w ≡ true → (byte : ℕ) (text : List ℕ) → (byte == w) ≡ true
    → squeezed false (byte ∷ text) ≡ byte ∷ squeezed true text
head_sign w b h s i byte text e =
    let same = eqb-true byte w e in
    squeezed-other false byte text (not_end byte text (ap is_blank same ∙ b) (ap (λ x. x == 35) same ∙ h) (ap (λ x. x == 47) same ∙ s)) (ap is_blank same ∙ b) (ap (λ x. x == 47) same ∙ s)
    ∙ ap (λ x. byte ∷ squeezed x text) (ap is_sign same ∙ i)

head_kept : (w byte : ℕ) (text : List ℕ) → is_blank byte ≡ false → (byte == w) ≡ false → begins (λ b. b == w) (squeezed false (byte ∷ text)) ≡ false
head_kept w byte text b n = by (ends (byte ∷ text)) (byte == 47) refl refl
  where
    by : (e s : Bool) → ends (byte ∷ text) ≡ e → (byte == 47) ≡ s → begins (λ b. b == w) (squeezed false (byte ∷ text)) ≡ false
    by true s e t = ap (begins (λ b. b == w)) (squeezed-end false byte text e)
    by false true e t = ap (begins (λ b. b == w)) (squeezed-slash false byte text e b t) ∙ n
    by false false e t = ap (begins (λ b. b == w)) (squeezed-other false byte text e b t) ∙ n

module _ (w : ℕ) (b : is_blank w ≡ false) (h : (w == 35) ≡ false) (s : (w == 47) ≡ false) (i : is_sign w ≡ true) where
  sign_begins : (text : List ℕ) → begins is_blank text ≡ false → begins (λ b. b == w) (squeezed false text) ≡ begins (λ b. b == w) text
  sign_begins [] n = ap (begins (λ b. b == w)) (squeezed-none false)
  sign_begins (byte ∷ text) n = by (byte == w) refl
    where
      by : (c : Bool) → (byte == w) ≡ c → begins (λ b. b == w) (squeezed false (byte ∷ text)) ≡ (byte == w)
      by true e = ap (begins (λ b. b == w)) (head_sign w b h s i byte text e)
      by false e = head_kept w byte text n e ∙ sym e

  sign_behind : (text : List ℕ) → begins (λ b. b == w) text ≡ true → drop 1 (squeezed false text) ≡ squeezed true (drop 1 text)
  sign_behind [] e = absurd (false≢true e)
  sign_behind (byte ∷ text) e = ap (drop 1) (head_sign w b h s i byte text e)

  pass : (a c : Bool) (x y : List ℕ) → a ≡ c → (c ≡ true → x ≡ squeezed true y) → Passed (cond a (Some x) None) (cond c (Some y) None)
  pass true true x y e d = (true, d refl)
  pass true false x y e d = absurd (false≢true (sym e))
  pass false true x y e d = absurd (false≢true e)
  pass false false x y e d = tt

  after_byte-passed : (text : List ℕ) → begins is_blank text ≡ false → Passed (after_byte w (squeezed false text)) (after_byte w text)
  after_byte-passed text n = rw (after_byte_is w (squeezed false text), after_byte_is w text) (pass _ _ _ _ (sign_begins text n) (sign_behind text))

  pub sign-passed : (close : Bool) (bytes : List ℕ) → Passed (sign w (squeezed close bytes)) (sign w bytes)
  unfolding sign
  sign-passed close bytes =
      subst (λ (text : List ℕ). Passed (after_byte w text) (after_byte w (behind is_blank bytes))) (sym (after_blanks-squeezed close false bytes)) (after_byte-passed (behind is_blank bytes) (no_blank bytes))

  pub next_is-squeezed : (close : Bool) (bytes : List ℕ) → next_is w (squeezed close bytes) ≡ next_is w bytes
  unfolding next_is
  next_is-squeezed close bytes = ap (begins (λ b. b == w)) (after_blanks-squeezed close false bytes) ∙ sign_begins (behind is_blank bytes) (no_blank bytes)

-- the end of a line
pub ends_at-none : ends_at [] ≡ true
unfolding comment_length
ends_at-none = refl

ends_at-squeezed : (text : List ℕ) → begins is_blank text ≡ false → ends_at (squeezed false text) ≡ ends_at text
ends_at-squeezed [] n = ap ends_at (squeezed-none false)
ends_at-squeezed (byte ∷ text) n = by (ends_at (byte ∷ text)) (byte == 35) (byte == 47) refl refl refl
  where
    by : (e h s : Bool) → ends_at (byte ∷ text) ≡ e → (byte == 35) ≡ h → (byte == 47) ≡ s → ends_at (squeezed false (byte ∷ text)) ≡ ends_at (byte ∷ text)
    by true h s e t u = ap ends_at (squeezed-end false byte text (ends-other byte text n ∙ e)) ∙ ends_at-none ∙ sym e
    by false true s e t u = absurd (false≢true (sym e ∙ hash_ends byte text t))
    by false false true e t u = ap ends_at (squeezed-slash false byte text (ends-other byte text n ∙ e) n u)
    by false false false e t u =
        ap ends_at (squeezed-other false byte text (ends-other byte text n ∙ e) n u) ∙ not_end_at byte (squeezed (is_sign byte) text) n t u ∙ sym e

pub ends-squeezed : (close : Bool) (bytes : List ℕ) → ends (squeezed close bytes) ≡ ends bytes
unfolding ends
ends-squeezed close bytes = ap ends_at (after_blanks-squeezed close false bytes) ∙ ends_at-squeezed (behind is_blank bytes) (no_blank bytes)
