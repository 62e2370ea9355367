-- Where the walk of each definition begins.
use Rattle.std.proofs.Common.{◌≡◌, ◌+◌, ◌<◌, ◌≤◌, ℕ, zero, suc, List, [], ◌∷◌, ◌++◌, length, take, get_or, sym, ap, subst, ◌∙◌, arith}
use Rattle.std.proofs.lemmas.List.{get_or_append_left, length-append, take_all, take_more}
use Rattle.std.specs.Prelude.{slice_get, Some}
use Rattle.hcl_types.specs.declared.term.Term.{Term}
use Rattle.hcl_types.specs.Signals.{Starts}
use Rattle.hcl_types.specs.Terms.{at, names, value, word_meaning}
use Rattle.hcl_compile.specs.declared.decisions.Decisions.{Decisions}
use Rattle.hcl_compile.specs.declared.node.Node.{Node}
use Rattle.hcl_compile.specs.Making.{IsValue, Keeps}
use Rattle.hcl_compile.specs.Walks.{AreRoots, Begins, IsRoot, Ends, Within}

abbrev pub Rooted : List ℕ → Decisions → List Term → List ℕ → Type 0
Rooted constants d ts roots = AreRoots constants d.terms.items d.nodes.items ts roots

rooted_still : (constants : List ℕ) (old new : Decisions) (ts : List Term) (roots : List ℕ) → Keeps old new → Rooted constants old ts roots → Rooted constants new ts roots
rooted_still constants old new [] [] k r = tt
rooted_still constants old new [] (root ∷ roots) k r = absurd r
rooted_still constants old new (t ∷ ts) [] k r = absurd r
rooted_still constants old new (t ∷ ts) (root ∷ roots) k r =
    (λ env rows begins within. k env rows root (value word_meaning env t) (r.0 env rows begins within), rooted_still constants old new ts roots k r.1)

rooted_push : (constants : List ℕ) (d : Decisions) (ts : List Term) (roots : List ℕ) (t : Term) (root : ℕ) → Rooted constants d ts roots → IsRoot constants d.terms.items d.nodes.items t root
    → Rooted constants d (ts ++ t ∷ []) (roots ++ root ∷ [])
rooted_push constants d [] [] t root r h = (h, tt)
rooted_push constants d [] (other ∷ roots) t root r h = absurd r
rooted_push constants d (u ∷ ts) [] t root r h = absurd r
rooted_push constants d (u ∷ ts) (other ∷ roots) t root r h = (r.0, rooted_push constants d ts roots t root r.1 h)

pub rooted_more : (constants : List ℕ) (old new : Decisions) (ts : List Term) (t : Term) (index root : ℕ) (roots more : List ℕ) → index < length ts → t ≡ get_or ts index t
    → Rooted constants old (take index ts) roots → IsValue constants t old new root → more ≡ roots ++ root ∷ [] → Rooted constants new (take (index + 1) ts) more
rooted_more constants old new ts t index root roots more h s r v e =
    let split : take index ts ++ t ∷ [] ≡ take (index + 1) ts = sym (take_more ts index t h ∙ ap (λ x. take index ts ++ x ∷ []) (sym s)) in
    rw (e, ← split) (rooted_push constants new (take index ts) roots t root (rooted_still constants old new (take index ts) roots v.keeps r) v.ends)

pub rooted_end : (constants : List ℕ) (d : Decisions) (ts : List Term) (index : ℕ) (roots : List ℕ) → length ts ≤ index → Rooted constants d (take index ts) roots → Rooted constants d ts roots
rooted_end constants d ts index roots h r = subst (λ xs. Rooted constants d xs roots) (take_all index ts h) r

-- ---- the root of a definition, and how its walk ends

some_of : (t u : Term) → Some t ≡ Some u → t ≡ u
some_of t u e = cc

pub root_at : (constants : List ℕ) (terms : List Term) (nodes : List Node) (ts : List Term) (roots : List ℕ) (k : ℕ) (t : Term) → AreRoots constants terms nodes ts roots → slice_get ts k ≡ Some t
    → (k < length roots) × IsRoot constants terms nodes t (get_or roots k 0)
root_at constants terms nodes [] roots k t r e = absurd (cc)
root_at constants terms nodes (u ∷ ts) [] k t r e = absurd r
root_at constants terms nodes (u ∷ ts) (root ∷ roots) zero t r e = (omega arith, subst (λ x. IsRoot constants terms nodes x root) (some_of u t e) r.0)
root_at constants terms nodes (u ∷ ts) (root ∷ roots) (suc k) t r e = let w = root_at constants terms nodes ts roots k t r.1 e in (omega (arith, w.0), w.1)

pub begins_with : (constants vals : List ℕ) → Starts constants vals → Begins constants (at vals) (length vals)
begins_with constants vals s = record {
  constant = λ k h. ap (λ xs. at xs k) s.1 ∙ get_or_append_left constants s.0 0 k h;
  room = omega (arith, ap length s.1, length-append constants s.0);
}

pub root_ends : (constants : List ℕ) (terms : List Term) (nodes : List Node) (ts : List Term) (roots vals : List ℕ) (k : ℕ) (t : Term) → AreRoots constants terms nodes ts roots → Starts constants vals
    → slice_get ts k ≡ Some t → Within (length vals) (names t) → Ends (at vals) (length vals) terms nodes (get_or roots k 0) (value word_meaning (at vals) t)
root_ends constants terms nodes ts roots vals k t r s e w = (root_at constants terms nodes ts roots k t r e).1 (at vals) (length vals) (begins_with constants vals s) w
