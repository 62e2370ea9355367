-- Walks by their rows and by their steps; rows that lead to one another; rows of an order.
use Rattle.std.proofs.Common.{◌≡◌, ◌<◌, ◌⊎◌, inl, inr, ℕ, zero, suc, Bool, true, false, List, [], ◌∷◌, ◌++◌, length, refl, ap, subst, arith}
use Rattle.hcl_types.specs.Lists.{IsIn}
use Rattle.hcl_types.specs.Equations.{IsOrdered, is_known, needs_of}
use Rattle.hcl_types.proofs.Each.{each_in}
use Rattle.hcl_order.specs.Dependence.{IsDependencePath, Depends}
use Rattle.hcl_order.specs.Layers.{Steps}
use Rattle.hcl_order.proofs.Members.{last_or}

pub steps_of : (needs : ℕ → List ℕ) (a : ℕ) (between : List ℕ) (b : ℕ) → IsDependencePath needs a between b → Steps needs (suc (length between)) a b
steps_of needs a [] b h = (b, h, refl)
steps_of needs a (c ∷ between) b h = (c, h.0, steps_of needs c between b h.1)

pub walks_of : (needs : ℕ → List ℕ) (k a b : ℕ) → Steps needs (suc k) a b → (between : List ℕ) × (length between ≡ k) × IsDependencePath needs a between b
walks_of needs zero a b h = ([], refl, subst (λ x. IsIn x (needs a)) h.2 h.1)
walks_of needs (suc k) a b h = let w = walks_of needs k h.0 b h.2 in (h.0 ∷ w.0, ap suc w.1, (h.1, w.2))

pub depends_of : (needs : ℕ → List ℕ) (k a b : ℕ) → Steps needs (suc k) a b → Depends needs a b
depends_of needs k a b h = let w = walks_of needs k a b h in (w.0, w.2)

joined : (needs : ℕ → List ℕ) (a : ℕ) (xs : List ℕ) (b : ℕ) (ys : List ℕ) (c : ℕ) → IsDependencePath needs a xs b → IsDependencePath needs b ys c → IsDependencePath needs a (xs ++ b ∷ ys) c
joined needs a [] b ys c h i = (h, i)
joined needs a (x ∷ xs) b ys c h i = (h.0, joined needs x xs b ys c h.1 i)

pub both : (needs : ℕ → List ℕ) (a b c : ℕ) → Depends needs a b → Depends needs b c → Depends needs a c
both needs a b c h i = (h.0 ++ b ∷ i.0, joined needs a h.0 b i.0 c h.1 i.1)

-- if each row of a kind, below n, leads to another such row, then some row leads to itself
abbrev pub Leads : (ℕ → List ℕ) → (ℕ → Bool) → ℕ → Type 0
Leads needs kind n = (x : ℕ) → x < n → kind x ≡ true → (y : ℕ) × (y < n) × (kind y ≡ true) × Depends needs x y

fewer : (needs : ℕ → List ℕ) (kind : ℕ → Bool) (n : ℕ) (last : Bool) → kind n ≡ last → Leads needs kind (suc n) → ((r : ℕ) × Depends needs r r) ⊎ Leads needs kind n
fewer needs kind n false e leads = inr (λ x h k. let w = leads x (omega arith) k in elim (last_or w.0 n w.1) [
  | inl i ↦ (w.0, i, w.2, w.3)
  | inr s ↦ let t : kind n ≡ true = subst (λ y. kind y ≡ true) s w.2 in absurd (cc)
])
fewer needs kind n true e leads = let l = leads n (omega arith) e in elim (last_or l.0 n l.1) [
  | inr s ↦ inl (n, subst (λ y. Depends needs n y) s l.3)
  | inl i ↦ inr (λ x h k. let w = leads x (omega arith) k in elim (last_or w.0 n w.1) [
    | inl j ↦ (w.0, j, w.2, w.3)
    | inr s ↦ (l.0, i, l.2, both needs x n l.0 (subst (λ y. Depends needs x y) s w.3) l.3)
  ])
]

pub loops : (needs : ℕ → List ℕ) (kind : ℕ → Bool) (n : ℕ) → Leads needs kind n → (x : ℕ) → x < n → kind x ≡ true → (r : ℕ) × Depends needs r r
loops needs kind zero leads x h k = absurd (omega arith)
loops needs kind (suc n) leads x h k = elim (fewer needs kind n (kind n) refl leads) [
  | inl r ↦ r
  | inr rest ↦ elim (last_or x n h) [
    | inl i ↦ loops needs kind n rest x i k
    | inr s ↦ elim (last_or (leads x h k).0 n (leads x h k).1) [
      | inl j ↦ loops needs kind n rest (leads x h k).0 j (leads x h k).2
      | inr t ↦ (n, subst (λ y. Depends needs n y) t (subst (λ z. Depends needs z (leads x h k).0) s (leads x h k).3))
    ]
  ]
]

rest_here : (known : ℕ → Bool) (needs : ℕ → List ℕ) (before : List ℕ) (n : ℕ)
    → ((m : ℕ) → IsIn m (needs n) → (known m ≡ true) ⊎ IsIn m before) → ((a m : ℕ) → known a ≡ true → IsIn m (needs a) → ⊥) → ((m : ℕ) → IsIn m before → Depends needs m m → ⊥)
    → (between : List ℕ) → IsDependencePath needs n between n → ⊥
rest_here known needs before n after knows rests [] h = elim (after n h) [ inl k ↦ knows n n k h | inr i ↦ rests n i ([], h) ]
rest_here known needs before n after knows rests (c ∷ []) h = elim (after c h.0) [ inl k ↦ knows c n k h.1 | inr i ↦ rests c i (both needs c n c ([], h.1) ([], h.0)) ]
rest_here known needs before n after knows rests (c ∷ d ∷ between) h = elim (after c h.0) [ inl k ↦ knows c d k h.1.0 | inr i ↦ rests c i (both needs c n c (d ∷ between, h.1) ([], h.0)) ]

-- a row of an order does not depend on itself
pub at_rest : (needs : List (List ℕ)) (known : List Bool) (before ids : List ℕ) → IsOrdered needs known before ids
    → ((a m : ℕ) → is_known known a ≡ true → IsIn m (needs_of needs a) → ⊥) → ((m : ℕ) → IsIn m before → Depends (needs_of needs) m m → ⊥)
    → (n : ℕ) → IsIn n ids → Depends (needs_of needs) n n → ⊥
at_rest needs known before [] o knows rests n h d = absurd h
at_rest needs known before (i ∷ ids) o knows rests n h d = elim h [
  | inl e ↦ here n e d
  | inr j ↦ at_rest needs known (i ∷ before) ids o.1 knows (λ m k e. elim k [ inl s ↦ here m s e | inr l ↦ rests m l e ]) n j d
]
  where
    here : (m : ℕ) → m ≡ i → Depends (needs_of needs) m m → ⊥
    here m e d = let c = subst (λ x. Depends (needs_of needs) x x) e d in
        rest_here (is_known known) (needs_of needs) before i (λ m j. each_in (λ m. (is_known known m ≡ true) ⊎ IsIn m before) (needs_of needs i) m o.0 j) knows rests c.0 c.1
