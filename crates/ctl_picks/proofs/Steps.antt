-- One step of a loop over picks that joins truths.
use Rattle.std.proofs.Common.{◌≡◌, Bool, ◌||◌, ◌&&◌, refl, sym, ap, ◌∙◌, subst, List, [], ◌∷◌, ℕ, zero, suc, ◌<◌, ◌+◌, length, get_or, drop, map, arith, IsTrue}
use Rattle.std.proofs.lemmas.List.{drop_more}
use Rattle.std.proofs.lemmas.Bool.{and_parts}
use Rattle.std.proofs.Math.Bool.{or_assoc, and_assoc}
use Rattle.ctl_picks.specs.declared.controls.Pick.{Pick}
use Rattle.ctl_atoms.specs.declared.leaf.Leaf.TheVariants.{Name}
use Rattle.ctl_picks.specs.Picks.{Within}
use Rattle.hcl_types.specs.Lists.{each, some}

-- the pick that a read past the end returns
abbrev pub none : Pick
none = record { leaf = Name 0; gate = 0 }

pub or_more : (g' a x r r' whole : Bool) → g' ≡ a || x → r ≡ x || r' → a || r ≡ whole → g' || r' ≡ whole
or_more g' a x r r' whole p q h = ap (λ b. b || r') p ∙ (or_assoc a x r' ∙ (ap (λ b. a || b) (sym q) ∙ h))

pub and_more : (g' a x r r' whole : Bool) → g' ≡ a && x → r ≡ x && r' → a && r ≡ whole → g' && r' ≡ whole
and_more g' a x r r' whole p q h = ap (λ b. b && r') p ∙ (and_assoc a x r' ∙ (ap (λ b. a && b) (sym q) ∙ h))

pub within_next : (n : ℕ) (ps : List Pick) (i : ℕ) → i < length ps → Within n (drop i ps) → ((get_or ps i none).gate < n) × Within n (drop (i + 1) ps)
within_next n ps i h w = subst (λ (xs : List Pick). Within n xs) (drop_more ps i none h) w

pub some_next : {A : Type 0} (f : A → Bool) (xs : List A) (i : ℕ) (d : A) → i < length xs → some f (drop i xs) ≡ f (get_or xs i d) || some f (drop (i + 1) xs)
some_next {A} f xs i d h = ap (λ (ys : List A). some f ys) (drop_more xs i d h)

pub each_next : {A : Type 0} (f : A → Bool) (xs : List A) (i : ℕ) (d : A) → i < length xs → IsTrue (each f (drop i xs)) → IsTrue (f (get_or xs i d)) × IsTrue (each f (drop (i + 1) xs))
each_next {A} f xs i d h t = and_parts (f (get_or xs i d)) (each f (drop (i + 1) xs)) (subst (λ (ys : List A). IsTrue (each f ys)) (drop_more xs i d h) t)

pub each_map : {A B : Type 0} (f : B → Bool) (g : A → B) (xs : List A) → each f (map g xs) ≡ each (λ x. f (g x)) xs
each_map f g [] = refl
each_map f g (x ∷ xs) = ap (λ b. f (g x) && b) (each_map f g xs)

pub or_same : (a a' b b' : Bool) → a ≡ a' → b ≡ b' → a || b ≡ a' || b'
or_same a a' b b' p q = ap (λ x. x || b) p ∙ ap (λ x. a' || x) q

pub and_same : (a a' b b' : Bool) → a ≡ a' → b ≡ b' → a && b ≡ a' && b'
and_same a a' b b' p q = ap (λ x. x && b) p ∙ ap (λ x. a' && x) q

pub within_at : (n : ℕ) (ps : List Pick) (i : ℕ) → Within n ps → i < length ps → (get_or ps i none).gate < n
within_at n [] i w h = absurd (omega arith)
within_at n (p ∷ ps) zero w h = w.0
within_at n (p ∷ ps) (suc i) w h = within_at n ps i w.1 (omega arith)
