-- The sixteen picks of a code, one by one.
use Rattle.std.proofs.Common.{◌≡◌, ℕ, zero, suc, ◌+◌, ◌-◌, ◌<◌, ◌≤◌, ◌^◌, ◌==◌, Bool, false, ◌&&◌, ◌||◌, List, [], ◌∷◌, ◌++◌, nat_lt, refl, sym, ap, ◌∙◌, arith}
use Rattle.std.proofs.lemmas.Bool.Decides.{nat_tests}
use Rattle.std.proofs.lemmas.List.{append_assoc}
use Rattle.net_fields.specs.Spelling.{spelt}
use Rattle.net_fields.proofs.Patterns.{spelt_lt}
use Rattle.ctl_atoms.specs.declared.leaf.Leaf.{Leaf}
use Rattle.ctl_atoms.specs.declared.leaf.Leaf.TheVariants.{Name, Number}
use Rattle.ctl_atoms.specs.Leaves.{leaf_eq}
use Rattle.ctl_picks.specs.declared.controls.Pick.{Pick}
use Rattle.ctl_picks.specs.Picks.{leaves_of}
use Rattle.ctl_picks.proofs.Taken.{leaves_push}

-- n numbers as leaves, from k on
abbrev pub numbers : ℕ → ℕ → List Leaf
numbers k zero = []
numbers k (suc n) = Number k ∷ numbers (k + 1) n

-- a number below another
abbrev pub below : ℕ → Leaf → Bool
below k (Name x) = false
below k (Number n) = nat_lt n k

pub numbers_next : (k m : ℕ) → k < m → numbers k (m - k) ≡ Number k ∷ numbers (k + 1) (m - (k + 1))
numbers_next k m h = ap (numbers k) (let e : m - k ≡ suc (m - (k + 1)) = omega (arith, h) in e)

pub numbers_end : (k m : ℕ) → m ≤ k → numbers k (m - k) ≡ []
numbers_end k m h = ap (numbers k) (let e : m - k ≡ 0 = omega (arith, h) in e)

pub leaves_next : (ps : List Pick) (q : Pick) (k m : ℕ) → q.leaf ≡ Number k → k < m → leaves_of (ps ++ q ∷ []) ++ numbers (k + 1) (m - (k + 1)) ≡ leaves_of ps ++ numbers k (m - k)
leaves_next ps q k m e h =
    ap (λ (xs : List Leaf). xs ++ numbers (k + 1) (m - (k + 1))) (leaves_push ps q)
    ∙ (append_assoc (leaves_of ps) (q.leaf ∷ []) (numbers (k + 1) (m - (k + 1)))
    ∙ (ap (λ (x : Leaf). leaves_of ps ++ (x ∷ numbers (k + 1) (m - (k + 1)))) e ∙ ap (λ (xs : List Leaf). leaves_of ps ++ xs) (sym (numbers_next k m h))))

-- the next number
pub below_next : (k s : ℕ) (y : Leaf) → (below k y && leaf_eq (Number s) y) || (leaf_eq (Number k) y && (s == k)) ≡ below (k + 1) y && leaf_eq (Number s) y
below_next k s (Name x) = refl
below_next k s (Number n) = grind (arith, nat_tests)

-- all numbers that 4 bits spell are below 16
pub below_all : (k s : ℕ) (y : Leaf) → s < k → below k y && leaf_eq (Number s) y ≡ leaf_eq (Number s) y
below_all k s (Name x) h = refl
below_all k s (Number n) h = grind (arith, nat_tests)

pub spelt_below : (w : List Bool) (first bits : ℕ) → bits ≤ 4 → spelt w first bits < 16
spelt_below w first bits h = by bits h (spelt_lt w first bits)
  where
    by : (b : ℕ) → b ≤ 4 → spelt w first bits < 2 ^ b → spelt w first bits < 16
    by zero h l = omega (arith, l)
    by (suc zero) h l = omega (arith, l)
    by (suc (suc zero)) h l = omega (arith, l)
    by (suc (suc (suc zero))) h l = omega (arith, l)
    by (suc (suc (suc (suc zero)))) h l = omega (arith, l)
    by (suc (suc (suc (suc (suc n))))) h l = absurd (omega (arith, h))
