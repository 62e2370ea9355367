-- Appending decision nodes: earlier walks keep their words, and a new target leads where it should.
use Rattle.std.specs.Prelude.{ℕ, ◌≡◌, ◌<◌, nat_eq, nat_lt, Bool, if◌then◌else◌, List, [], ◌∷◌, ◌++◌, length, MatchOption, Option}
use Rattle.hcl_types.specs.declared.term.Term.{Term}
use Rattle.hcl_types.specs.Lists.{each, some}
use Rattle.hcl_types.specs.Terms.{names, value, word_meaning}
use Rattle.hcl_compile.specs.declared.node.TheConstants.{ROWS}
use Rattle.hcl_compile.specs.declared.node.Node.{Node}
use Rattle.hcl_compile.specs.declared.decisions.Decisions.{Decisions}
use Rattle.hcl_compile.specs.declared.equality.Equality.{Equality}
use Rattle.hcl_compile.specs.declared.equality.Equality.TheVariants as equality
use Rattle.hcl_compile.specs.declared.numbers.Operand.{Operand}
use Rattle.hcl_compile.specs.declared.numbers.Operand.TheVariants as operand
use Rattle.hcl_compile.specs.declared.targets.Quantifier.{Quantifier}
use Rattle.hcl_compile.specs.declared.targets.Quantifier.TheVariants.{All, Any}
use Rattle.hcl_compile.specs.declared.targets.Targets.{Targets}
use Rattle.hcl_compile.specs.Walks.{Begins, Ends, Within}

-- the target of a test whose answer is known
abbrev pub chosen : Targets → Bool → ℕ
chosen to test = if test then to.hit else to.miss

-- the targets exchanged, as for the negated test
abbrev pub swapped : Targets → Targets
swapped to = record { hit = to.miss; miss = to.hit }

-- whether all elements of a list pass a test, or any of them
abbrev pub quantified : {A : Type 0} → Quantifier → (A → Bool) → List A → Bool
quantified All p xs = each p xs
quantified Any p xs = some p xs

-- where an empty list leads
abbrev pub of_none : Quantifier → Targets → ℕ
of_none All to = to.hit
of_none Any to = to.miss

-- where an element leads, if the decision of the elements after it begins at the target `rest`
abbrev pub ahead_of : Quantifier → ℕ → Targets → Targets
ahead_of All rest to = record { hit = rest; miss = to.miss }
ahead_of Any rest to = record { hit = to.hit; miss = rest }

-- over the nodes made so far the walk from a target ends with a word
abbrev pub Comes : (ℕ → ℕ) → ℕ → Decisions → ℕ → ℕ → Type 0
Comes env rows d target word = Ends env rows d.terms.items d.nodes.items target word

-- each walk that ended before ends with the same word
abbrev pub Keeps : Decisions → Decisions → Type 0
Keeps old new = (env : ℕ → ℕ) (rows target word : ℕ) → Comes env rows old target word → Comes env rows new target word

-- a node is appended at a place
abbrev pub IsAdded : Node → Decisions → Decisions → ℕ → Type 0
IsAdded node old new place = (place ≡ length old.nodes.items) × (place < ROWS) × (new.nodes.items ≡ old.nodes.items ++ node ∷ []) × (new.terms.items ≡ old.terms.items)

-- a walk from the place goes on to the target that a test of the values chooses; the test needs the rows of ids
pub record Decides (constants ids : List ℕ) (test : (ℕ → ℕ) → Bool) (old new : Decisions) (to : Targets) (place : ℕ) : Type 0 where
  pub keeps : Keeps old new
  pub leads : (env : ℕ → ℕ) (rows word : ℕ) → Begins constants env rows → Within rows ids → Comes env rows old (chosen to (test env)) word → Comes env rows new place word

-- either there is a place that decides the test, or there is none and earlier walks keep their words
abbrev pub MayDecide : List ℕ → List ℕ → ((ℕ → ℕ) → Bool) → Decisions → Decisions → Targets → Option ℕ → Type 0
MayDecide constants ids test old new to found = MatchOption found (Keeps old new) (Decides constants ids test old new to)

-- the place leads to hit if the term holds, and otherwise to miss
abbrev pub IsTest : List ℕ → Term → Decisions → Decisions → Targets → ℕ → Type 0
IsTest constants t = Decides constants (names t) (λ env. word_meaning.holds (value word_meaning env t))

-- either there is a place that tests the term, or there is none and earlier walks keep their words
abbrev pub MayTest : List ℕ → Term → Decisions → Decisions → Targets → Option ℕ → Type 0
MayTest constants t = MayDecide constants (names t) (λ env. word_meaning.holds (value word_meaning env t))

-- the walk from the place ends with the value of f, which needs the rows of ids
pub record IsValued (constants ids : List ℕ) (f : (ℕ → ℕ) → ℕ) (old new : Decisions) (place : ℕ) : Type 0 where
  pub keeps : Keeps old new
  pub ends : (env : ℕ → ℕ) (rows : ℕ) → Begins constants env rows → Within rows ids → Comes env rows new place (f env)

-- the walk from the place ends with the value of the term
abbrev pub IsValue : List ℕ → Term → Decisions → Decisions → ℕ → Type 0
IsValue constants t = IsValued constants (names t) (λ env. value word_meaning env t)

-- the target is that of a constant with this value
abbrev pub IsNumber : List ℕ → ℕ → ℕ → Type 0
IsNumber constants n target = (terms : List Term) (nodes : List Node) (env : ℕ → ℕ) (rows : ℕ) → Begins constants env rows → Ends env rows terms nodes target n

-- an operand has the value of its term
abbrev pub IsOperand : List ℕ → Term → Operand → Type 0
IsOperand constants t (operand.Number n) = (env : ℕ → ℕ) (rows : ℕ) → Begins constants env rows → value word_meaning env t ≡ n
IsOperand constants t (operand.Row id) = (env : ℕ → ℕ) (rows : ℕ) → Begins constants env rows → Within rows (names t) → (id < rows) × (value word_meaning env t ≡ env id)
IsOperand constants t operand.Other = Unit {0}

-- the equality of two words is the answer to this question, unless it is one that no node can ask
abbrev pub Says : (ℕ → ℕ) → ℕ → Bool → Equality → Type 0
Says env rows equal (equality.Known truth) = equal ≡ truth
Says env rows equal (equality.Rows left right) = (left < rows) × (right < rows) × (equal ≡ nat_eq (env left) (env right))
Says env rows equal (equality.Code name code) = (name < rows) × (equal ≡ nat_eq (env name) code)
Says env rows equal equality.Other = Unit {0}

-- the equality of two terms is the answer to this question, unless it is one that no node can ask
abbrev pub IsEquality : List ℕ → Term → Term → Equality → Type 0
IsEquality constants x y e = (env : ℕ → ℕ) (rows : ℕ) → Begins constants env rows → Within rows (names x) → Within rows (names y)
    → Says env rows (nat_eq (value word_meaning env x) (value word_meaning env y)) e

-- the equality of a row and a number
abbrev pub code_equality : ℕ → ℕ → Equality
code_equality id n = if nat_lt n 16 then equality.Code id n else equality.Other

-- a code that a node can ask for is below 16
abbrev pub IsSmall : Equality → Type 0
IsSmall (equality.Known truth) = Unit {0}
IsSmall (equality.Rows left right) = Unit {0}
IsSmall (equality.Code name code) = code < 16
IsSmall equality.Other = Unit {0}

-- a term that is worth 1 or 0
abbrev pub IsTruth : Term → Type 0
IsTruth t = (env : ℕ → ℕ) → (b : Bool) × (value word_meaning env t ≡ word_meaning.bool b)
