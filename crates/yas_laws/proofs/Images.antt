-- The image of a listing, address by address.
use Rattle.std.proofs.Common.{◌≡◌, ◌⊎◌, ℕ, ◌+◌, ◌-◌, ◌<◌, ◌≤◌, List, [], ◌∷◌, ◌++◌, length, take, fold, get_or, replicate, All, IfSome, Option, Some, None, refl, ap, sym, subst, ◌∙◌, inl, inr, arith, length-append, length-take}
use Rattle.std.proofs.lemmas.Bool.{cases_lt}
use Rattle.std.proofs.lemmas.List.{get_or_append_left, get_or-append-add, get_or-append_right, get_or-take, get_or-drop, get_or-replicate, get_or_past, length-replicate}
use Rattle.std.proofs.lemmas.List.Elements.{All-head, All-tail}
use Rattle.yas_asm.specs.declared.listing.Line.{Line}
use Rattle.yas_asm.specs.Laws.{put_at}
use Rattle.y86_base.specs.Image.{with_bytes}
use Rattle.yo_object.specs.ReadBack.{IsInside, HasNoByteAt, IsZeroElsewhere}
use Rattle.yas_laws.proofs.ListingImage.{with_line, image_same}
use Rattle.yo_object.proofs.Bytes.{grouped, put_nothing}
use Rattle.yas_laws.proofs.PrintedLines.{size_kept}

-- memory with bytes stored at an address: at their places, before them and after them

pub put_inside : (memory bytes : List ℕ) (first k : ℕ) → first + length bytes ≤ length memory → k < length bytes →
    get_or (with_bytes memory first bytes) (first + k) 0 ≡ get_or bytes k 0
put_inside memory bytes first k fits lt =
    let front : length (take first memory) ≡ first = omega (arith, length-take first memory) in
    let inside : first + k < length (take first memory ++ bytes) = omega (arith, front, length-append (take first memory) bytes) in
    ap (λ m. get_or m (first + k) 0) (grouped memory bytes first) ∙ get_or_append_left (take first memory ++ bytes) _ 0 (first + k) inside
    ∙ (ap (λ n. get_or (take first memory ++ bytes) (n + k) 0) (sym front) ∙ get_or-append-add (take first memory) bytes k 0)

put_before : (memory bytes : List ℕ) (first a : ℕ) → first + length bytes ≤ length memory → a < first →
    get_or (with_bytes memory first bytes) a 0 ≡ get_or memory a 0
put_before memory bytes first a fits lt =
    let front : length (take first memory) ≡ first = omega (arith, length-take first memory) in
    let inside : a < length (take first memory ++ bytes) = omega (arith, front, length-append (take first memory) bytes) in
    let near : a < length (take first memory) = omega (arith, front) in
    ap (λ m. get_or m a 0) (grouped memory bytes first) ∙ get_or_append_left (take first memory ++ bytes) _ 0 a inside ∙ (get_or_append_left (take first memory) bytes 0 a near ∙ get_or-take first memory a 0 lt)

put_behind : (memory bytes : List ℕ) (first a : ℕ) → first + length bytes ≤ length memory → first + length bytes ≤ a →
    get_or (with_bytes memory first bytes) a 0 ≡ get_or memory a 0
put_behind memory bytes first a fits le =
    let n : ℕ = first + length bytes in
    let front : length (take first memory) ≡ first = omega (arith, length-take first memory) in
    let wide : length (take first memory ++ bytes) ≡ n = omega (arith, front, length-append (take first memory) bytes) in
    let back : n + (a - n) ≡ a = omega arith in
    ap (λ m. get_or m a 0) (grouped memory bytes first) ∙ get_or-append_right (take first memory ++ bytes) _ n a 0 wide le ∙ (get_or-drop n memory (a - n) 0 ∙ ap (λ i. get_or memory i 0) back)

-- an address that a line misses keeps its byte
pub missed_at : (memory bytes : List ℕ) (addr : Option ℕ) (a : ℕ) → IfSome addr (λ first. 0 < length bytes → first + length bytes ≤ length memory) →
    IfSome addr (λ first. (a < first) ⊎ (first + length bytes ≤ a)) → get_or (put_at addr bytes memory) a 0 ≡ get_or memory a 0
missed_at memory bytes None a inside misses = refl
missed_at memory [] (Some first) a inside misses = ap (λ m. get_or m a 0) (put_nothing memory first)
missed_at memory (byte ∷ bytes) (Some first) a inside misses =
    let fits : first + length (byte ∷ bytes) ≤ length memory = inside (omega arith) in
    elim misses [ inl lt ↦ put_before memory (byte ∷ bytes) first a fits lt | inr le ↦ put_behind memory (byte ∷ bytes) first a fits le ]

pub next_inside : (memory : List ℕ) (line : Line) (listing : List Line) → All (IsInside (length memory)) (line ∷ listing) →
    All (IsInside (length (with_line memory line))) listing
next_inside memory line listing inside =
    subst (λ n. All (IsInside n) listing) (sym (size_kept memory line.bytes.items line.addr (All-head (IsInside (length memory)) line listing inside)))
    (All-tail (IsInside (length memory)) line listing inside)

pub all_missed : (memory : List ℕ) (listing : List Line) (a : ℕ) → All (IsInside (length memory)) listing → All (HasNoByteAt a) listing →
    get_or (fold with_line memory listing) a 0 ≡ get_or memory a 0
all_missed memory [] a inside misses = refl
all_missed memory (line ∷ listing) a inside misses =
    all_missed (with_line memory line) listing a (next_inside memory line listing inside) (All-tail (HasNoByteAt a) line listing misses)
    ∙ missed_at memory line.bytes.items line.addr a (All-head (IsInside (length memory)) line listing inside) (All-head (HasNoByteAt a) line listing misses)

pub zeros_are_zero : (size a : ℕ) → get_or (replicate {A = ℕ} size 0) a 0 ≡ 0
zeros_are_zero size a =
    elim (cases_lt a size) [
      | inl lt ↦ get_or-replicate {A = ℕ} size a 0 0 lt
      | inr le ↦ get_or_past (replicate {A = ℕ} size 0) a 0 (omega (arith, length-replicate {A = ℕ} size 0))
    ]

pub zeros_inside : (size : ℕ) (listing : List Line) → All (IsInside size) listing → All (IsInside (length (replicate {A = ℕ} size 0))) listing
zeros_inside size listing inside = subst (λ n. All (IsInside n) listing) (sym (length-replicate {A = ℕ} size 0)) inside

pub is_zero_elsewhere : IsZeroElsewhere
is_zero_elsewhere listing size a inside misses =
    ap (λ memory. get_or memory a 0) (sym (image_same listing size))
    ∙ all_missed (replicate size 0) listing a (zeros_inside size listing inside) misses ∙ zeros_are_zero size a

-- the bytes of a line, if the lines after it miss them
pub byte_kept : (memory : List ℕ) (before after : List Line) (line : Line) (first k : ℕ) → All (IsInside (length memory)) (before ++ (line ∷ after)) →
    line.addr ≡ Some first → k < length line.bytes.items → All (HasNoByteAt (first + k)) after →
    get_or (fold with_line memory (before ++ (line ∷ after))) (first + k) 0 ≡ get_or line.bytes.items k 0
byte_kept memory [] after line first k inside at lt misses =
    let here : first + length line.bytes.items ≤ length memory =
    (subst (λ (addr : Option ℕ). IfSome addr (λ a. 0 < length line.bytes.items → a + length line.bytes.items ≤ length memory)) at
    (All-head (IsInside (length memory)) line after inside)) (omega arith) in
    all_missed (with_line memory line) after (first + k) (next_inside memory line after inside) misses
    ∙ (ap (λ addr. get_or (put_at addr line.bytes.items memory) (first + k) 0) at ∙ put_inside memory line.bytes.items first k here lt)
byte_kept memory (other ∷ before) after line first k inside at lt misses =
    byte_kept (with_line memory other) before after line first k (next_inside memory other (before ++ (line ∷ after)) inside) at lt misses
