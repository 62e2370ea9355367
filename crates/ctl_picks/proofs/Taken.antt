-- Which leaves are taken once a pick is added.
use Rattle.std.proofs.Common.{◌≡◌, Bool, true, false, ◌||◌, ◌&&◌, refl, sym, ap, ◌∙◌, List, [], ◌∷◌, ◌++◌, ℕ, zero, suc, ◌<◌, length, get_or, arith}
use Rattle.std.proofs.Math.Bool.{or-false}
use Rattle.std.proofs.lemmas.Bool.{or_right}
use Rattle.std.proofs.Math.ListN.{set}
use Rattle.ctl_atoms.specs.declared.leaf.Leaf.{Leaf}
use Rattle.ctl_picks.specs.declared.controls.Pick.{Pick}
use Rattle.nets.specs.Nets.{Gates, ExtendsNet, truth}
use Rattle.ctl_atoms.specs.Leaves.{leaf_eq}
use Rattle.ctl_picks.specs.TakenPicks.{at, leaf_taken}
use Rattle.ctl_picks.specs.Picks.{Within, leaves_of}
use Rattle.ctl_picks.proofs.Chosen.{taken_kept}
use Rattle.ctl_picks.proofs.Steps.{none, or_same, and_same}

grown : (k g t m : Bool) → (k && (g || m)) || t ≡ ((k && g) || t) || (k && m)
grown true true t m = refl
grown true false t true = sym (or_right t true refl)
grown true false t false = sym (or-false t)
grown false g t m = sym (or-false t)

assoc : (a x r : Bool) → a || (x || r) ≡ (a || x) || r
assoc true x r = refl
assoc false x r = refl

module _ {a b : Gates} (keeps : ExtendsNet a b) (w : List Bool) where
  pub taken_set : (ps : List Pick) (k g : ℕ) (leaf : Leaf) (m : Bool) → Within (length a.gates) ps → k < length ps → (get_or ps k none).leaf ≡ leaf
      → truth b g w ≡ truth a (get_or ps k none).gate w || m → (y : Leaf)
      → leaf_taken (at b w) (set ps k (record { leaf = leaf; gate = g })) y ≡ leaf_taken (at a w) ps y || (leaf_eq leaf y && m)
  taken_set [] k g leaf m i h l e y = absurd (omega arith)
  taken_set (p ∷ ps) zero g leaf m i h l e y =
      or_same _ _ _ _ (and_same _ _ _ _ refl e) (taken_kept keeps w ps i.1 y)
      ∙ (grown (leaf_eq leaf y) (truth a p.gate w) (leaf_taken (at a w) ps y) m
      ∙ ap (λ (x : Leaf). ((leaf_eq x y && truth a p.gate w) || leaf_taken (at a w) ps y) || (leaf_eq leaf y && m)) (sym l))
  taken_set (p ∷ ps) (suc k) g leaf m i h l e y =
      or_same _ _ _ _ (and_same _ _ _ _ refl (keeps.same p.gate w i.0)) (taken_set ps k g leaf m i.1 (omega arith) l e y)
      ∙ assoc (leaf_eq p.leaf y && truth a p.gate w) (leaf_taken (at a w) ps y) (leaf_eq leaf y && m)

pub leaves_set : (ps : List Pick) (k g : ℕ) (leaf : Leaf) → k < length ps → (get_or ps k none).leaf ≡ leaf → leaves_of (set ps k (record { leaf = leaf; gate = g })) ≡ leaves_of ps
leaves_set [] k g leaf h l = absurd (omega arith)
leaves_set (p ∷ ps) zero g leaf h l = ap (λ (x : Leaf). x ∷ leaves_of ps) (sym l)
leaves_set (p ∷ ps) (suc k) g leaf h l = ap (λ (xs : List Leaf). p.leaf ∷ xs) (leaves_set ps k g leaf (omega arith) l)

pub within_set : (n : ℕ) (ps : List Pick) (k : ℕ) (q : Pick) → Within n ps → q.gate < n → Within n (set ps k q)
within_set n [] k q i h = tt
within_set n (p ∷ ps) zero q i h = (h, i.1)
within_set n (p ∷ ps) (suc k) q i h = (i.0, within_set n ps k q i.1 h)

pub within_push : (n : ℕ) (ps : List Pick) (q : Pick) → Within n ps → q.gate < n → Within n (ps ++ q ∷ [])
within_push n [] q i h = (h, tt)
within_push n (p ∷ ps) q i h = (i.0, within_push n ps q i.1 h)

pub taken_push : (tr : ℕ → Bool) (ps : List Pick) (q : Pick) (y : Leaf) → leaf_taken tr (ps ++ q ∷ []) y ≡ leaf_taken tr ps y || (leaf_eq q.leaf y && tr q.gate)
taken_push tr [] q y = or-false (leaf_eq q.leaf y && tr q.gate)
taken_push tr (p ∷ ps) q y = or_same _ _ _ _ refl (taken_push tr ps q y) ∙ assoc (leaf_eq p.leaf y && tr p.gate) (leaf_taken tr ps y) (leaf_eq q.leaf y && tr q.gate)

pub leaves_push : (ps : List Pick) (q : Pick) → leaves_of (ps ++ q ∷ []) ≡ leaves_of ps ++ q.leaf ∷ []
leaves_push [] q = refl
leaves_push (p ∷ ps) q = ap (λ (xs : List Leaf). p.leaf ∷ xs) (leaves_push ps q)

-- the next pick of a list, under a further truth
pub one_more : (t h k g r t' g' : Bool) → t' ≡ t → g' ≡ h && g → (t' || (k && g')) || (h && r) ≡ t || (h && ((k && g) || r))
one_more t h k g r t' g' p q = or_same _ _ _ _ (or_same _ _ _ _ p (and_same _ _ _ _ refl q)) refl ∙ plain t h k g r
  where
    plain : (t h k g r : Bool) → (t || (k && (h && g))) || (h && r) ≡ t || (h && ((k && g) || r))
    plain true h k g r = refl
    plain false true true g r = refl
    plain false true false g r = refl
    plain false false true g r = refl
    plain false false false g r = refl
