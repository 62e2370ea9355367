-- The addresses in use: for one more address, and for one more byte.
use Rattle.std.proofs.Common.{◌≡◌, ◌<◌, sym, ap, ◌∙◌, ℕ, zero, suc, ◌+◌, ◌-◌, false, List, [], ◌∷◌, ◌++◌, refl, arith}
use Rattle.std.specs.Prelude.{nat_eq, ◌||◌}
use Rattle.std.specs.List.{list_any, range_with_len}
use Rattle.std.proofs.lemmas.Bool.Decides.{nat_tests}
use Rattle.std.proofs.lemmas.List.{append-nil, append_assoc}
use Rattle.std.proofs.lemmas.Bool.{or_parts}
use Rattle.yas_asm.specs.Assembly.{overlaps}

pub overlaps_none : (used : List ℕ) (address n : ℕ) → n ≡ 0 → overlaps used address n ≡ false
unfolding overlaps
overlaps_none used address n e = rw e refl

pub overlaps_more : (used : List ℕ) (address n : ℕ) → 0 < n → overlaps used address n ≡ (list_any (nat_eq address) used || overlaps used (address + 1) (n - 1))
unfolding overlaps
overlaps_more used address zero h = absurd (omega arith)
overlaps_more used address (suc n) h = let m : suc n - 1 ≡ n = omega arith in rw m refl

-- an emitted byte is at an address that has none yet, and so are the bytes after it
pub free_here : (used : List ℕ) (address n : ℕ) → 0 < n → overlaps used address n ≡ false → list_any (nat_eq address) used ≡ false
free_here used address n h e = (or_parts _ _ (sym (overlaps_more used address n h) ∙ e)).0

free_behind : (used : List ℕ) (address n : ℕ) → 0 < n → overlaps used address n ≡ false → overlaps used (address + 1) (n - 1) ≡ false
free_behind used address n h e = (or_parts _ _ (sym (overlaps_more used address n h) ∙ e)).1

has_other : (used : List ℕ) (a b : ℕ) → a < b → list_any (nat_eq b) (used ++ a ∷ []) ≡ list_any (nat_eq b) used
has_other [] a b h = grind (arith, nat_tests)
has_other (x ∷ used) a b h = ap (λ rest. nat_eq b x || rest) (has_other used a b h)

overlaps_other : (used : List ℕ) (a b n : ℕ) → a < b → overlaps (used ++ a ∷ []) b n ≡ overlaps used b n
unfolding overlaps
overlaps_other used a b zero h = refl
overlaps_other used a b (suc n) h = rw (has_other used a b h) (ap (λ rest. list_any (nat_eq b) used || rest) (overlaps_other used a (b + 1) n (omega arith)))

pub free_after : (old new : List ℕ) (address n : ℕ) → 0 < n → overlaps old address n ≡ false → new ≡ old ++ address ∷ [] → overlaps new (address + 1) (n - 1) ≡ false
free_after old new address n h e f = rw f (overlaps_other old address (address + 1) (n - 1) (omega arith) ∙ free_behind old address n h e)

pub range_none : (used : List ℕ) (address n : ℕ) → n ≡ 0 → used ++ range_with_len address n ≡ used
range_none used address n e = rw e (append-nil used)

pub range_more : (old new : List ℕ) (address n : ℕ) → 0 < n → new ≡ old ++ address ∷ [] → new ++ range_with_len (address + 1) (n - 1) ≡ old ++ range_with_len address n
range_more old new address zero h e = absurd (omega arith)
range_more old new address (suc n) h e = let m : suc n - 1 ≡ n = omega arith in rw (e, m) (append_assoc old (address ∷ []) (range_with_len (address + 1) n))

pub ruleset overlapping = (overlaps_none, overlaps_more)

pub ruleset adding = (free_here, free_after, range_none, range_more)
