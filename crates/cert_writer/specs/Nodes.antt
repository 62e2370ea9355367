-- Terms that represent diagrams; the variables of the diagrams have another order.
use Rattle.std.specs.Prelude.{ℕ, ◌≡◌, ◌+◌, ◌^◌, ◌<◌, ◌≤◌, Bool, false, List, length, map, take, get_or}
use Rattle.nets.specs.Nets.{Gates, truth}
use Rattle.bdd_core.specs.Diagrams.{Diagrams}
use Rattle.bdd_core.specs.Meaning.{IsDia, truth_of}
use Rattle.bdd_core.specs.declared.store.Dia.{Dia}
use Rattle.cert_checker.specs.Meaning.{cert_value}
use Rattle.cert_checker.specs.declared.known.TermDef.{TermDef}
use Rattle.cert_writer.specs.Terms.{AreOrdered}

-- variable order[x] of the net is variable x of the diagrams: its rank
pub record IsVariableOrder (order ranks : List ℕ) : Type 0 where
  pub size : length ranks ≡ length order
  pub there : (x : ℕ) → x < length order → get_or order x 0 < length order
  pub back : (x : ℕ) → x < length order → get_or ranks (get_or order x 0) 0 ≡ x
  pub below : (v : ℕ) → v < length order → get_or ranks v 0 < length order
  pub forth : (v : ℕ) → v < length order → get_or order (get_or ranks v 0) 0 ≡ v

-- the bits of the diagrams' variables under a pattern of bits of the net's
abbrev pub places_of : List ℕ → List Bool → List Bool
places_of order w = map (λ v. get_or w v false) order

-- a term has the truth of a diagram
pub record IsTermOf (s : Diagrams) (order : List ℕ) (terms : List TermDef) (d : Dia) (t : ℕ) : Type 0 where
  pub within : t < length terms + 2
  pub is : (w : List Bool) → length w ≡ length order → cert_value terms t w ≡ truth_of s d (places_of order w)

-- the terms so far, and which diagrams have one
pub record TermTable : Type 0 where
  pub store : Diagrams
  pub order : List ℕ
  pub ranks : List ℕ
  pub terms : List TermDef
  pub found : List ℕ

pub record IsTermTable (w : TermTable) : Type 0 where
  pub vars : w.store.vars ≡ length w.order
  pub small : length w.order < 2 ^ 32
  pub order : IsVariableOrder w.order w.ranks
  pub ordered : AreOrdered w.ranks w.terms
  pub few : length w.terms ≤ 4000000000
  pub found : (d : Dia) → IsDia w.store d → 2 ≤ get_or w.found d.id 0 → IsTermOf w.store w.order w.terms d (get_or w.found d.id 0)

-- there may be more terms, and the earlier ones stay
pub record ExtendsTerms (old new : TermTable) : Type 0 where
  pub store : new.store ≡ old.store
  pub order : new.order ≡ old.order
  pub ranks : new.ranks ≡ old.ranks
  pub more : length old.terms ≤ length new.terms
  pub terms : take (length old.terms) new.terms ≡ old.terms

abbrev pub no_dia : Dia
no_dia = record { id = 0 }

-- for each gate of a net its diagram, over the variables in their order
pub record IsDrawn (n : Gates) (order : List ℕ) (s : Diagrams) (dias : List Dia) : Type 0 where
  pub vars : s.vars ≡ length order
  pub size : length dias ≡ length n.gates
  pub within : (i : ℕ) → i < length n.gates → IsDia s (get_or dias i no_dia)
  pub is : (i : ℕ) → i < length n.gates → (w : List Bool) → length w ≡ length order → truth_of s (get_or dias i no_dia) (places_of order w) ≡ truth n i w
