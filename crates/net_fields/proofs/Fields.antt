-- The number of a field, bit by bit.
use Rattle.std.proofs.Common.{◌≡◌, ℕ, suc, ◌+◌, ◌-◌, ◌*◌, ◌/◌, ◌%◌, ◌<◌, Bool, true, false, ◌&&◌, ◌||◌, ◌==◌, nat_lt, nat_le, List, get_or, refl, ◌∙◌, arith}
use Rattle.nets.specs.Nets.{Gates, ExtendsNet, IsGate, agree, truth}
use Rattle.std.proofs.lemmas.Bool.Decides.{nat_tests}
use Rattle.net_fields.specs.Spelling.{spelt, bit}

pub spelt_zero : (w : List Bool) (first bits : ℕ) → bits ≡ 0 → spelt w first bits ≡ 0
unfolding spelt
spelt_zero w first bits e = rw e refl

-- the number that bits spell, by the last one of them
pub spelt_suc : (w : List Bool) (first bits k : ℕ) → bits ≡ suc k → spelt w first bits ≡ 2 * spelt w first k + bit (get_or w (first + k) false)
unfolding spelt
spelt_suc w first bits k e = rw e refl

pub spelt_step : (w : List Bool) (first bits : ℕ) → 0 < bits → spelt w first bits ≡ 2 * spelt w first (bits - 1) + bit (get_or w (first + (bits - 1)) false)
spelt_step w first bits lt = spelt_suc w first bits (bits - 1) (omega arith)

last_by : (x : Bool) (s t n : ℕ) → t ≡ 2 * s + bit x → (t == n) ≡ (agree (n % 2 == 1) x && (s == n / 2))
last_by true s t n e = grind (arith, nat_tests)
last_by false s t n e = grind (arith, nat_tests)

pub spells_step : (w : List Bool) (first bits n : ℕ) → 0 < bits → (spelt w first bits == n) ≡ (agree (n % 2 == 1) (get_or w (first + (bits - 1)) false) && (spelt w first (bits - 1) == n / 2))
spells_step w first bits n lt = last_by (get_or w (first + (bits - 1)) false) (spelt w first (bits - 1)) (spelt w first bits) n (spelt_step w first bits lt)

both_by : (x y : Bool) (s t a b : ℕ) → a ≡ 2 * s + bit x → b ≡ 2 * t + bit y → (a == b) ≡ (agree x y && (s == t))
both_by true true s t a b e f = grind (arith, nat_tests)
both_by true false s t a b e f = grind (arith, nat_tests)
both_by false true s t a b e f = grind (arith, nat_tests)
both_by false false s t a b e f = grind (arith, nat_tests)

pub same_step : (w : List Bool) (first bits first' bits' : ℕ) → 0 < bits → 0 < bits' → (spelt w first bits == spelt w first' bits')
    ≡ (agree (get_or w (first + (bits - 1)) false) (get_or w (first' + (bits' - 1)) false) && (spelt w first (bits - 1) == spelt w first' (bits' - 1)))
same_step w first bits first' bits' lt lt' = both_by _ _ _ _ _ _ (spelt_step w first bits lt) (spelt_step w first' bits' lt')

pub below_step : (s n : ℕ) → 0 < n → nat_lt s n ≡ ((s == n - 1) || nat_lt s (n - 1))
below_step s n lt = grind (arith, nat_tests)

-- a join of two gates, the second one made after the first
pub joined_and : (x x' a y b : Bool) → x' ≡ x → x ≡ a → y ≡ b → (x' && y) ≡ (a && b)
joined_and x x' a y b h k l = grind arith

pub joined_or : (x x' a y b : Bool) → x' ≡ x → x ≡ a → y ≡ b → (x' || y) ≡ (a || b)
joined_or x x' a y b h k l = grind arith

pub most_step : (may : Bool) (s n : ℕ) → may ≡ true → nat_lt s (n + 1) ≡ (may && nat_le s n)
most_step may s n h = rw h (grind (arith, nat_tests))

-- a gate of one truth is also one of any equal truth
pub gate_as : {n : Gates} {g : ℕ} {f h : List Bool → Bool} → IsGate n g f → ((w : List Bool) → f w ≡ h w) → IsGate n g h
gate_as {n} {g} {f} {h} made e = record { within = made.within; is = λ w. made.is w ∙ e w }

-- the join of two gates, the second one made after the first
pub joined : {first second last : Gates} {x y g : ℕ} {p q : List Bool → Bool} → IsGate first x p → ExtendsNet first second → IsGate second y q
    → IsGate last g (λ w. truth second x w && truth second y w) → IsGate last g (λ w. p w && q w)
joined {first} {second} {last} {x} {y} {g} {p} {q} a b c made = gate_as made (λ w. joined_and _ _ _ _ _ (b.same x w a.within) (a.is w) (c.is w))

pub spells_zero : (w : List Bool) (first bits n : ℕ) → bits ≡ 0 → (n == 0) ≡ (spelt w first bits == n)
spells_zero w first bits n e = zero_is (spelt w first bits) n (spelt_zero w first bits e)
  where
    zero_is : (s n : ℕ) → s ≡ 0 → (n == 0) ≡ (s == n)
    zero_is s n e = grind (arith, nat_tests)

pub equals_zero : (w : List Bool) (first bits n : ℕ) → bits ≡ 0 → (n == 0) ≡ (n == spelt w first bits)
equals_zero w first bits n e = zero_is (spelt w first bits) n (spelt_zero w first bits e)
  where
    zero_is : (s n : ℕ) → s ≡ 0 → (n == 0) ≡ (n == s)
    zero_is s n e = grind (arith, nat_tests)
