-- A line of numbers has a pattern of bits that spells it.
use Rattle.std.proofs.Common.{◌≡◌, ℕ, zero, suc, ◌+◌, ◌*◌, ◌/◌, ◌%◌, ◌^◌, ◌<◌, ◌≤◌, Bool, true, false, ◌==◌, List, [], ◌∷◌, ◌++◌, length, get_or, refl, ◌∙◌, arith, length-append, append_assoc}
use Rattle.std.proofs.lemmas.List.{get_or-append-add}
use Rattle.std.proofs.Math.ListN.{get_or-append}
use Rattle.std.proofs.Math.Seq.{get_or-append_seam}
use Rattle.std.proofs.lemmas.Bool.Decides.{nat_tests}
use Rattle.net_fields.specs.declared.field_specs.FieldSpec.{FieldSpec}
use Rattle.net_fields.specs.FieldSpecs.{total, decoded, pattern, InRange}
use Rattle.net_fields.specs.Laws.{IsPatternOf}
use Rattle.net_fields.specs.Spelling.{spelt, spell, bit}

pub length_spell : (k n : ℕ) → length (spell k n) ≡ k
unfolding spell
length_spell zero n = refl
length_spell (suc k) n = omega (arith, length-append (spell k (n / 2)) ((n % 2 == 1) ∷ []), length_spell k (n / 2))

-- bits after others
pub spelt_behind : (xs ys : List Bool) (first k at : ℕ) → at ≡ length xs + first → spelt (xs ++ ys) at k ≡ spelt ys first k
unfolding spelt
spelt_behind xs ys first zero at e = refl
spelt_behind xs ys first (suc k) at e =
    let p : at + k ≡ length xs + (first + k) = omega (arith, e) in
    rw (spelt_behind xs ys first k at e, p, get_or-append-add xs ys (first + k) false) refl

-- bits before others
pub spelt_before : (xs ys : List Bool) (first k : ℕ) → first + k ≤ length xs → spelt (xs ++ ys) first k ≡ spelt xs first k
unfolding spelt
spelt_before xs ys first zero le = refl
spelt_before xs ys first (suc k) le =
    let lt : first + k < length xs = omega (arith, le) in
    rw (spelt_before xs ys first k (omega (arith, le)), get_or-append xs ys false (first + k) lt) refl

half_lt : (k n : ℕ) → n < 2 ^ suc k → n / 2 < 2 ^ k
half_lt k n lt = omega (arith, lt, pow_suc k)
  where
    pow_suc : (k : ℕ) → 2 ^ suc k ≡ 2 * 2 ^ k
    pow_suc k = omega arith

last_bit : (n : ℕ) → 2 * (n / 2) + bit (n % 2 == 1) ≡ n
last_bit n = grind (arith, nat_tests)

seam : (xs : List Bool) (b : Bool) (k : ℕ) → length xs ≡ k → get_or (xs ++ b ∷ []) (0 + k) false ≡ b
seam xs b k e = let p : 0 + k ≡ length xs = omega (arith, e) in rw p (get_or-append_seam xs b [] false)

pub spelt_spell : (k n : ℕ) → n < 2 ^ k → spelt (spell k n) 0 k ≡ n
unfolding spelt spell
spelt_spell zero n lt = omega (arith, lt)
spelt_spell (suc k) n lt =
    rw (
      spelt_before (spell k (n / 2)) ((n % 2 == 1) ∷ []) 0 k (omega (arith, length_spell k (n / 2))),
      spelt_spell k (n / 2) (half_lt k n lt),
      seam (spell k (n / 2)) (n % 2 == 1) k (length_spell k (n / 2)),
    ) (last_bit n)

pub spelt_here : (k n : ℕ) (ys : List Bool) → n < 2 ^ k → spelt (spell k n ++ ys) 0 k ≡ n
spelt_here k n ys lt = spelt_before (spell k n) ys 0 k (omega (arith, length_spell k n)) ∙ spelt_spell k n lt

-- ---- all fields by one induction
pub decoded_pattern : (ss : List FieldSpec) (xs : List ℕ) (before rest : List Bool) (first : ℕ) → first ≡ length before → InRange ss xs → decoded ss first (before ++ pattern ss xs rest) ≡ xs
decoded_pattern [] [] before rest first e h = refl
decoded_pattern [] (x ∷ xs) before rest first e h = absurd h
decoded_pattern (s ∷ ss) [] before rest first e h = absurd h
decoded_pattern (s ∷ ss) (x ∷ xs) before rest first e h =
    let here : spelt (before ++ (spell s.bits x ++ pattern ss xs rest)) first s.bits ≡ x =
    spelt_behind before (spell s.bits x ++ pattern ss xs rest) 0 s.bits first (omega (arith, e)) ∙ spelt_here s.bits x (pattern ss xs rest) h.0 in
    let next : first + s.bits ≡ length (before ++ spell s.bits x) = omega (arith, e, length-append before (spell s.bits x), length_spell s.bits x) in
    let there = decoded_pattern ss xs (before ++ spell s.bits x) rest (first + s.bits) next h.1 in
    rw (here, rw (append_assoc before (spell s.bits x) (pattern ss xs rest)) at there) refl

-- the numbers that bits spell are in range
pub bit_lt : (b : Bool) → bit b < 2
bit_lt true = omega arith
bit_lt false = omega arith

pub spelt_lt : (w : List Bool) (first bits : ℕ) → spelt w first bits < 2 ^ bits
unfolding spelt
spelt_lt w first zero = omega arith
spelt_lt w first (suc k) = let e : 2 ^ suc k ≡ 2 * 2 ^ k = omega arith in omega (arith, e, spelt_lt w first k, bit_lt (get_or w (first + k) false))

pub decoded_range : (ss : List FieldSpec) (first : ℕ) (w : List Bool) → InRange ss (decoded ss first w)
decoded_range [] first w = tt
decoded_range (s ∷ ss) first w = (spelt_lt w first s.bits, decoded_range ss (first + s.bits) w)

-- the atoms come after the fields
pub length_pattern : (ss : List FieldSpec) (xs : List ℕ) (rest : List Bool) → InRange ss xs → length (pattern ss xs rest) ≡ total ss + length rest
length_pattern [] [] rest h = omega arith
length_pattern [] (x ∷ xs) rest h = absurd h
length_pattern (s ∷ ss) [] rest h = absurd h
length_pattern (s ∷ ss) (x ∷ xs) rest h = omega (arith, length-append (spell s.bits x) (pattern ss xs rest), length_spell s.bits x, length_pattern ss xs rest h.1)

pub behind_pattern : (ss : List FieldSpec) (xs : List ℕ) (rest : List Bool) (k at : ℕ) → InRange ss xs → at ≡ total ss + k → get_or (pattern ss xs rest) at false ≡ get_or rest k false
behind_pattern [] [] rest k at h e = let n : at ≡ k = omega (arith, e) in rw n refl
behind_pattern [] (x ∷ xs) rest k at h e = absurd h
behind_pattern (s ∷ ss) [] rest k at h e = absurd h
behind_pattern (s ∷ ss) (x ∷ xs) rest k at h e =
    let n : at ≡ length (spell s.bits x) + (total ss + k) = omega (arith, e, length_spell s.bits x) in
    rw (n, get_or-append-add (spell s.bits x) (pattern ss xs rest) (total ss + k) false) (behind_pattern ss xs rest k (total ss + k) h.1 refl)

-- both laws
pub pattern_of : (ss : List FieldSpec) (xs : List ℕ) (rest : List Bool) → InRange ss xs → IsPatternOf ss xs rest
pattern_of ss xs rest h = record {
  spells = decoded_pattern ss xs [] rest 0 refl h;
  size = length_pattern ss xs rest h;
  behind = λ k. behind_pattern ss xs rest k (total ss + k) h refl;
}
