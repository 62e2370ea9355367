-- The bits of fields that follow one another.
use Rattle.std.proofs.Common.{◌≡◌, ℕ, zero, suc, ◌+◌, ◌-◌, ◌/◌, ◌%◌, ◌<◌, ◌≤◌, Bool, true, ◌==◌, nat_le, List, [], ◌∷◌, ◌++◌, length, take, drop, set, get_or, refl, sym, ap, ◌∙◌, arith, add-one, add-zero, append_assoc, append-nil, length-append, None}
use Rattle.std.specs.List.{list_all}
use Rattle.std.proofs.lemmas.List.{take-set-le, drop-set, take-append-drop, take_more_set, take_all, take-append-le, drop-append-le, drop_all, drop-drop, take-set, get_or-set_same, length-set, length-take, length_push}
use Rattle.std.proofs.lemmas.Bool.{leb-true}
use Rattle.y86_base.specs.declared.parts.Variant.{Variant}
use Rattle.y86_base.proofs.Booleans.{and_second, and_first}
use Rattle.net_fields.specs.Spelling.{spell}
use Rattle.net_fields.specs.declared.field_specs.FieldSpec.{FieldSpec}
use Rattle.net_fields.specs.FieldSpecs.{pattern, total}
use Rattle.net_fields.proofs.Patterns.{length_spell}
use Rattle.pipe_fields.specs.Layout.{field_specs, bit_count, field_count}
use Rattle.prog_gen.specs.Choices.{with_field, width, numbers_drawn, word_behind, truths_drawn, chosen, choices, valuation_from}
use Rattle.prog_gen.specs.Draws.{lcg_next, lcg_output}

-- one more bit of a field is written, from its end on
pub field_step : (out : List Bool) (first k n : ℕ) → first + k < length out
    → with_field (set out (first + k) (n % 2 == 1)) first k (n / 2) ≡ with_field out first (k + 1) n
unfolding spell
field_step out first k n h =
    let b : Bool = n % 2 == 1 in
    let one : k + 1 ≡ suc k = add-one k in
    ap (λ (xs : List Bool). xs ++ (spell k (n / 2) ++ drop (first + k) (set out (first + k) b))) (take-set-le first out (first + k) b (omega arith))
    ∙ (ap (λ (xs : List Bool). take first out ++ (spell k (n / 2) ++ xs)) (drop-set out (first + k) b h)
    ∙ (ap (λ (xs : List Bool). take first out ++ xs) (sym (append_assoc (spell k (n / 2)) (b ∷ []) (drop (first + k + 1) out)))
    ∙ (ap (λ (m : ℕ). take first out ++ ((spell k (n / 2) ++ b ∷ []) ++ drop m out)) (omega arith)
    ∙ ap (λ (m : ℕ). take first out ++ (spell m n ++ drop (first + (k + 1)) out)) (sym one))))

-- no field is written
pub field_none : (out : List Bool) (first n : ℕ) → with_field out first 0 n ≡ out
unfolding spell
field_none out first n = ap (λ (m : ℕ). take first out ++ drop m out) (add-zero first) ∙ take-append-drop first out

-- the field at a place past the table
any_spot : FieldSpec
any_spot = record { bits = 0; name = None }

narrow : (ss : List FieldSpec) (j : ℕ) → list_all (λ s. nat_le s.bits 4) ss ≡ true → (get_or ss j (record { bits = 0; name = None })).bits ≤ 4
narrow [] j h = omega arith
narrow (s ∷ ss) zero h = leb-true s.bits 4 (and_first (nat_le s.bits 4) (list_all (λ t. nat_le t.bits 4) ss) h)
narrow (s ∷ ss) (suc j) h = narrow ss j (and_second (nat_le s.bits 4) (list_all (λ t. nat_le t.bits 4) ss) h)

pub width_small : (j : ℕ) → width j ≤ 4
width_small j = narrow field_specs j refl

pub pattern_more : (ss : List FieldSpec) (xs : List ℕ) (j : ℕ) (d : FieldSpec) → j < length ss → j < length xs
    → pattern (take (j + 1) ss) (take (j + 1) xs) [] ≡ pattern (take j ss) (take j xs) [] ++ spell (get_or ss j d).bits (get_or xs j 0)
pattern_more [] xs j d h k = absurd (omega (arith, h))
pattern_more (s ∷ ss) [] j d h k = absurd (omega (arith, k))
pattern_more (s ∷ ss) (x ∷ xs) zero d h k = append-nil (spell s.bits x)
pattern_more (s ∷ ss) (x ∷ xs) (suc j) d h k =
    let e : suc j + 1 ≡ suc (j + 1) = omega arith in
    ap (λ (m : ℕ). pattern (take m (s ∷ ss)) (take m (x ∷ xs)) []) e
    ∙ (ap (λ (bits : List Bool). spell s.bits x ++ bits) (pattern_more ss xs j d (omega (arith, h)) (omega (arith, k)))
    ∙ sym (append_assoc (spell s.bits x) (pattern (take j ss) (take j xs) []) (spell (get_or ss j d).bits (get_or xs j 0))))

pub total_more : (ss : List FieldSpec) (j : ℕ) (d : FieldSpec) → j < length ss → total (take (j + 1) ss) ≡ total (take j ss) + (get_or ss j d).bits
total_more [] j d h = absurd (omega (arith, h))
total_more (s ∷ ss) zero d h = omega arith
total_more (s ∷ ss) (suc j) d h =
    let e : suc j + 1 ≡ suc (j + 1) = omega arith in
    ap (λ (m : ℕ). total (take m (s ∷ ss))) e ∙ omega (arith, total_more ss j d (omega (arith, h)))

pub total_within : (ss : List FieldSpec) (j : ℕ) → total (take j ss) ≤ total ss
total_within [] zero = omega arith
total_within [] (suc j) = omega arith
total_within (s ∷ ss) zero = omega arith
total_within (s ∷ ss) (suc j) = omega (arith, total_within ss j)

pub pattern_behind : (ss : List FieldSpec) (xs : List ℕ) (rest : List Bool) → length ss ≡ length xs → pattern ss xs rest ≡ pattern ss xs [] ++ rest
pattern_behind [] xs rest h = refl
pattern_behind (s ∷ ss) [] rest h = absurd (omega (arith, h))
pattern_behind (s ∷ ss) (x ∷ xs) rest h =
    ap (λ (bits : List Bool). spell s.bits x ++ bits) (pattern_behind ss xs rest (omega (arith, h))) ∙ sym (append_assoc (spell s.bits x) (pattern ss xs []) rest)

-- ---- draws

pub truth_more : (out : List Bool) (k n word after : ℕ) (b : Bool) → k < length out → k < n → after ≡ lcg_next word → b ≡ (lcg_output after % 2 == 1)
    → take (k + 1) (set out k b) ++ truths_drawn (n - (k + 1)) after ≡ take k out ++ truths_drawn (n - k) word
unfolding truths_drawn
truth_more out k n word after b h within e is =
    let left : n - k ≡ suc (n - (k + 1)) = omega arith in
    ap (λ (xs : List Bool). xs ++ truths_drawn (n - (k + 1)) after) (take_more_set out k b h)
    ∙ (append_assoc (take k out) (b ∷ []) (truths_drawn (n - (k + 1)) after)
    ∙ (ap (λ (x : Bool). take k out ++ (x ∷ truths_drawn (n - (k + 1)) after)) is
    ∙ (ap (λ (w : ℕ). take k out ++ ((lcg_output w % 2 == 1) ∷ truths_drawn (n - (k + 1)) w)) e
    ∙ ap (λ (m : ℕ). take k out ++ truths_drawn m word) (sym left))))

pub truths_end : (out : List Bool) (k n word : ℕ) → length out ≤ k → n ≤ k → take k out ++ truths_drawn (n - k) word ≡ out
unfolding truths_drawn
truths_end out k n word h none =
    let zero_left : n - k ≡ 0 = omega arith in
    ap (λ (m : ℕ). take k out ++ truths_drawn m word) zero_left ∙ (append-nil (take k out) ∙ take_all k out h)

-- one more field is drawn
pub number_more : (v : Variant) (numbers : List ℕ) (j word after n : ℕ) → j < field_count → j < length numbers → after ≡ lcg_next word
    → n ≡ chosen (choices v (take j numbers)) (lcg_output after)
    → numbers_drawn v (field_count - (j + 1)) (take (j + 1) (set numbers j n)) after ≡ numbers_drawn v (field_count - j) (take j numbers) word
unfolding numbers_drawn
number_more v numbers j word after n within h e is =
    let left : field_count - j ≡ suc (field_count - (j + 1)) = omega arith in
    ap (λ (xs : List ℕ). numbers_drawn v (field_count - (j + 1)) xs after) (take_more_set numbers j n h)
    ∙ (ap (λ (x : ℕ). numbers_drawn v (field_count - (j + 1)) (take j numbers ++ x ∷ []) after) is
    ∙ (ap (λ (w : ℕ). numbers_drawn v (field_count - (j + 1)) (take j numbers ++ chosen (choices v (take j numbers)) (lcg_output w) ∷ []) w) e
    ∙ ap (λ (m : ℕ). numbers_drawn v m (take j numbers) word) (sym left)))

pub word_more : (j word after : ℕ) → j < field_count → after ≡ lcg_next word → word_behind (field_count - (j + 1)) after ≡ word_behind (field_count - j) word
unfolding word_behind
word_more j word after within e =
    let left : field_count - j ≡ suc (field_count - (j + 1)) = omega arith in
    ap (word_behind (field_count - (j + 1))) e ∙ ap (λ (m : ℕ). word_behind m word) (sym left)

-- the bits of one more field
pub bits_more : (out : List Bool) (ss : List FieldSpec) (xs : List ℕ) (j first k n : ℕ) → j < length ss → j < length xs → k ≡ (get_or ss j (record { bits = 0; name = None })).bits
    → first + k ≤ length out → take first out ≡ pattern (take j ss) (take j xs) []
    → take (first + k) (with_field out first k n) ≡ pattern (take (j + 1) ss) (take (j + 1) (set xs j n)) []
bits_more out ss xs j first k n hs hx is room told =
    let front : List Bool = take first out ++ spell k n in
    let size : length front ≡ first + k = omega (arith, length-append (take first out) (spell k n), length-take first out, length_spell k n) in
    ap (take (first + k)) (sym (append_assoc (take first out) (spell k n) (drop (first + k) out)))
    ∙ (take-append-le (first + k) front (drop (first + k) out) (omega (arith, size))
    ∙ (take_all (first + k) front (omega (arith, size))
    ∙ (ap (λ (bits : List Bool). bits ++ spell k n) (told ∙ ap (λ (ys : List ℕ). pattern (take j ss) ys []) (sym (take-set xs j n)))
    ∙ (ap (λ (m : ℕ). pattern (take j ss) (take j (set xs j n)) [] ++ spell m n) is
    ∙ (ap (λ (m : ℕ). pattern (take j ss) (take j (set xs j n)) [] ++ spell (get_or ss j (record { bits = 0; name = None })).bits m) (sym (get_or-set_same xs j n 0 hx))
    ∙ sym (pattern_more ss (set xs j n) j (record { bits = 0; name = None }) hs (omega (arith, hx, length-set xs j n))))))))

-- the bits after a field stay
pub field_behind : (out : List Bool) (first k n m : ℕ) → first + k ≤ m → first + k ≤ length out → drop m (with_field out first k n) ≡ drop m out
field_behind out first k n m h room =
    let front : List Bool = take first out ++ spell k n in
    let size : length front ≡ first + k = omega (arith, length-append (take first out) (spell k n), length-take first out, length_spell k n) in
    let rest : List Bool = drop (first + k) out in
    let e : (first + k) + (m - (first + k)) ≡ m = omega arith in
    ap (drop m) (sym (append_assoc (take first out) (spell k n) rest))
    ∙ (ap (λ (i : ℕ). drop i (front ++ rest)) (sym e)
    ∙ (sym (drop-drop (m - (first + k)) (first + k) (front ++ rest))
    ∙ (ap (drop (m - (first + k))) (drop-append-le (first + k) front rest (omega (arith, size)) ∙ ap (λ (xs : List Bool). xs ++ rest) (drop_all (first + k) front (omega (arith, size))))
    ∙ (drop-drop (m - (first + k)) (first + k) out ∙ ap (λ (i : ℕ). drop i out) e))))

pub all_words : (j word last : ℕ) → field_count ≤ j → word_behind (field_count - j) word ≡ last → word ≡ last
unfolding word_behind
all_words j word last h e =
    let none_left : field_count - j ≡ 0 = omega arith in
    sym (ap (λ (m : ℕ). word_behind m word) none_left) ∙ e

pub all_numbers : (v : Variant) (j word : ℕ) (numbers last : List ℕ) → field_count ≤ j → numbers_drawn v (field_count - j) numbers word ≡ last → numbers ≡ last
unfolding numbers_drawn
all_numbers v j word numbers last h e =
    let none_left : field_count - j ≡ 0 = omega arith in
    sym (ap (λ (m : ℕ). numbers_drawn v m numbers word) none_left) ∙ e

length_pattern : (ss : List FieldSpec) (xs : List ℕ) → length ss ≡ length xs → length (pattern ss xs []) ≡ total ss
length_pattern [] xs h = refl
length_pattern (s ∷ ss) [] h = absurd (omega (arith, h))
length_pattern (s ∷ ss) (x ∷ xs) h =
    omega (arith, length-append (spell s.bits x) (pattern ss xs []), length_spell s.bits x, length_pattern ss xs (omega (arith, h)))

length_drawn : (v : Variant) (k : ℕ) (before : List ℕ) (word : ℕ) → length (numbers_drawn v k before word) ≡ k + length before
unfolding numbers_drawn
length_drawn v zero before word = omega arith
length_drawn v (suc k) before word =
    let n : ℕ = chosen (choices v before) (lcg_output (lcg_next word)) in
    omega (arith, length_drawn v k (before ++ n ∷ []) (lcg_next word), length_push before n)

-- the fields are drawn, and truths after them
pub drawn_whole : (v : Variant) (word after atoms : ℕ) (fields old out : List Bool) → fields ≡ pattern field_specs (numbers_drawn v field_count [] word) [] ++ drop bit_count old
    → after ≡ word_behind field_count word → out ≡ take bit_count fields ++ truths_drawn atoms after → out ≡ valuation_from v atoms word
unfolding valuation_from
drawn_whole v word after atoms fields old out front e whole =
    let numbers : List ℕ = numbers_drawn v field_count [] word in
    let bits : List Bool = pattern field_specs numbers [] in
    let count : length field_specs ≡ length numbers = omega (arith, length_drawn v field_count [] word) in
    let size : length bits ≡ bit_count = length_pattern field_specs numbers count in
    let kept : take bit_count fields ≡ bits = ap (take bit_count) front ∙ (take-append-le bit_count bits (drop bit_count old) (omega (arith, size)) ∙ take_all bit_count bits (omega (arith, size))) in
    whole ∙ (ap (λ (xs : List Bool). xs ++ truths_drawn atoms after) kept ∙ (ap (λ (w : ℕ). bits ++ truths_drawn atoms w) e ∙ sym (pattern_behind field_specs numbers (truths_drawn atoms (word_behind field_count word)) count)))
