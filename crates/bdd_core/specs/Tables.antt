-- The hash table that finds a node: each place holds the number of a node, or 0 or 1 if it is free.
use Rattle.std.specs.Prelude.{ℕ, ◌+◌, ◌-◌, ◌*◌, ◌/◌, ◌%◌, ◌^◌, ◌<◌, ◌≤◌, Bool, false, cond, ◌&&◌, List, [], ◌∷◌, ◌≡◌, length, take, drop, get_or, nat_eq, nat_lt, slice_get, Some, None, Option, bit_and}
use Rattle.std.specs.List.{count_by}
use Rattle.bdd_core.specs.Diagrams.{IsReduced}
use Rattle.bdd_core.specs.declared.nodes.ChoiceNode.{ChoiceNode}
use Rattle.bdd_core.specs.declared.table.Lookup.{Lookup}
use Rattle.bdd_core.specs.declared.table.Lookup.TheVariants.{Present, Vacant, Full}

-- two nodes are the same
abbrev pub same_node : ChoiceNode → ChoiceNode → Bool
same_node a b = nat_eq a.var b.var && nat_eq a.low b.low && nat_eq a.high b.high

-- number p names the node c
abbrev pub same_at : Option ChoiceNode → ChoiceNode → Bool
same_at None c = false
same_at (Some b) c = same_node b c

abbrev pub names : List ChoiceNode → ℕ → ChoiceNode → Bool
names list p c = same_at (slice_get list (p - 2)) c

-- the outcome of a search that began n places earlier
abbrev pub further : ℕ → Lookup → Lookup
further n (Present p) = Present p
further n (Vacant i) = Vacant (n + i)
further n Full = Full

-- a search through places in order, for the first that is free or names the node
unfoldable pub look_through : List ChoiceNode → ChoiceNode → List ℕ → Lookup
look_through list c [] = Full
look_through list c (p ∷ ps) = cond (nat_lt p 2) (Vacant 0) (cond (names list p c) (Present p) (further 1 (look_through list c ps)))

-- a free place is one of the n places
abbrev pub Inside : ℕ → Lookup → Type 0
Inside n (Present p) = Unit {0}
Inside n (Vacant i) = i < n
Inside n Full = Unit {0}

-- the outcome of a first search, begun at place home, or of a second if the first found neither node nor free place
abbrev pub joined : ℕ → Lookup → Lookup → Lookup
joined home (Present p) second = Present p
joined home (Vacant i) second = Vacant (home + i)
joined home Full second = second

-- the upper half of a product, by Knuth's multiplicative hashing
unfoldable pub hash_of : ChoiceNode → ℕ
hash_of c =
    let var = c.var * 11400714819323198485 % 2 ^ 64 in
    let low = c.low * 14029467366897019727 % 2 ^ 64 in
    let high = c.high * 1609587929392839161 % 2 ^ 64 in
    ((var + low) % 2 ^ 64 + high) % 2 ^ 64 / 2 ^ 32

-- where the search for a node begins: below the size, which is a power of 2
unfoldable pub home_of : ChoiceNode → ℕ → ℕ
home_of c size = bit_and (hash_of c) (size - 1)

-- the search for a node, from its home to the end and on from the beginning
unfoldable pub searched : List ChoiceNode → ChoiceNode → List ℕ → Lookup
searched list c places =
    let home = home_of c (length places) in
    joined home (look_through list c (drop home places)) (look_through list c (take home places))

abbrev pub is_used : ℕ → Bool
is_used p = nat_lt 1 p

-- the table finds each node of the list
pub record IsTable (list : List ChoiceNode) (places : List ℕ) : Type 0 where
  pub below : (i : ℕ) → get_or places i 0 < length list + 2
  pub complete : (i : ℕ) (c : ChoiceNode) → slice_get list i ≡ Some c → searched list c places ≡ Present (i + 2)
  pub used : count_by is_used places ≡ length list

-- no node occurs twice
abbrev pub IsUnique : List ChoiceNode → Type 0
IsUnique list = (i j : ℕ) (c : ChoiceNode) → slice_get list i ≡ Some c → slice_get list j ≡ Some c → i ≡ j

abbrev pub IsNewIn : List ChoiceNode → ChoiceNode → Type 0
IsNewIn list c = (i : ℕ) → slice_get list i ≡ Some c → ⊥

-- the result of a search for a node: its number, or that there is none
abbrev pub find_result : List ChoiceNode → ChoiceNode → Option ℕ → Type 0
find_result list c None = IsNewIn list c
find_result list c (Some d) = (2 ≤ d) × (slice_get list (d - 2) ≡ Some c)

-- nodes with their table
pub record AreNodes (vars : ℕ) (list : List ChoiceNode) (places : List ℕ) : Type 0 where
  pub well : IsReduced record { vars = vars; nodes = list }
  pub table : IsTable list places
  pub few : length list < 2 ^ 32 - 2
