-- What decision nodes answer, the word with which a walk over them ends, and when compiled definitions evaluate a design.
use Rattle.std.specs.Prelude.{ℕ, ◌≡◌, ◌+◌, ◌-◌, ◌<◌, ◌≤◌, nat_eq, nat_le, nat_lt, Bool, if◌then◌else◌, List, [], ◌∷◌, length, slice_get, Some}
use Rattle.std.specs.List.{AllByRecursion}
use Rattle.hcl_types.specs.declared.term.Term.{Term}
use Rattle.hcl_types.specs.Tables.{term_at}
use Rattle.hcl_types.specs.Terms.{at, names, value, word_meaning}
use Rattle.hcl_compile.specs.declared.node.TheConstants.{ROWS}
use Rattle.hcl_compile.specs.declared.node.Ask.{Ask}
use Rattle.hcl_compile.specs.declared.node.Ask.TheVariants.{Code, Same, Holds, Value}
use Rattle.hcl_compile.specs.declared.node.Node.{Node}

-- the answer to a code
abbrev pub code_answer : ℕ → ℕ
code_answer code = if nat_lt code 16 then code else 16

-- the answer to a yes-no question
abbrev pub yes_or_no : Bool → ℕ
yes_or_no holds = if holds then 0 else 1

-- the answer to a node's question, under the values of names; terms: those that nodes evaluate as a whole
abbrev pub answer : (ℕ → ℕ) → List Term → Ask → ℕ
answer env terms (Code name) = code_answer (env name)
answer env terms (Same left right) = yes_or_no (nat_eq (env left) (env right))
answer env terms (Holds k) = yes_or_no (word_meaning.holds (value word_meaning env (term_at terms k)))
answer env terms (Value k) = 0

-- the rows that a question reads exist, or its term does; a node that asks nothing has no answer
abbrev pub HasAnswer : ℕ → List Term → Ask → Type 0
HasAnswer rows terms (Code name) = name < rows
HasAnswer rows terms (Same left right) = (left < rows) × (right < rows)
HasAnswer rows terms (Holds k) = k < length terms
HasAnswer rows terms (Value k) = ⊥

-- the most nodes that a walk from a target can pass
abbrev pub steps : ℕ → ℕ
steps target = if nat_le ROWS target then 0 else target + 1

-- Under the values of this number of rows the walk from a target ends with a word: at a row, with its value; at a node
-- that asks nothing, with the value of its term; at any other node, with the word of the target that its answer leads
-- to, which is nearer to the end.
pub data Ends (env : ℕ → ℕ) (rows : ℕ) (terms : List Term) (nodes : List Node) : ℕ → ℕ → Type 0 where
  at_row : (target word : ℕ) → ROWS ≤ target → target - ROWS < rows → word ≡ env (target - ROWS) → Ends env rows terms nodes target word
  at_value : (target word k : ℕ) (node : Node) → target < ROWS → slice_get nodes target ≡ Some node → node.ask ≡ Value k → k < length terms
      → word ≡ value word_meaning env (term_at terms k) → Ends env rows terms nodes target word
  at_node : (target word : ℕ) (node : Node) → target < ROWS → slice_get nodes target ≡ Some node → HasAnswer rows terms node.ask
      → steps (at node.next (answer env terms node.ask)) ≤ target → Ends env rows terms nodes (at node.next (answer env terms node.ask)) word
      → Ends env rows terms nodes target word

-- the first rows hold the constants, and there are at least as many rows as constants
pub record Begins (constants : List ℕ) (env : ℕ → ℕ) (rows : ℕ) : Type 0 where
  pub constant : (k : ℕ) → k < length constants → env k ≡ at constants k
  pub room : length constants ≤ rows

-- each id is below the number of rows
abbrev pub Within : ℕ → List ℕ → Type 0
Within rows ids = AllByRecursion (λ id. id < rows) ids

-- wherever the first rows are the constants, the walk from the root ends with the value of the term
abbrev pub IsRoot : List ℕ → List Term → List Node → Term → ℕ → Type 0
IsRoot constants terms nodes t root =
    (env : ℕ → ℕ) (rows : ℕ) → Begins constants env rows → Within rows (names t) → Ends env rows terms nodes root (value word_meaning env t)

-- a root for each definition, in order
abbrev pub AreRoots : List ℕ → List Term → List Node → List Term → List ℕ → Type 0
AreRoots constants terms nodes [] [] = Unit {0}
AreRoots constants terms nodes [] (root ∷ roots) = ⊥
AreRoots constants terms nodes (t ∷ ts) [] = ⊥
AreRoots constants terms nodes (t ∷ ts) (root ∷ roots) = IsRoot constants terms nodes t root × AreRoots constants terms nodes ts roots
