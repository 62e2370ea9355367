-- Ordered decision diagrams over shared nodes, and their truth (Bryant, Graph-based algorithms for Boolean function
-- manipulation, 1986). Number 0 is the diagram of falsehood, number 1 that of truth; node k of the list has the number
-- k + 2. Both ends come after all variables, and lead to themselves.
use Rattle.std.specs.Prelude.{ℕ, zero, suc, ◌+◌, ◌<◌, ◌≤◌, Bool, false, cond, List, ◌∷◌, ◌≡◌, length, get_or, nat_eq}
use Rattle.bdd_core.specs.declared.nodes.ChoiceNode.{ChoiceNode}

pub record Diagrams : Type 0 where
  pub vars : ℕ
  pub nodes : List ChoiceNode

abbrev pub end : ℕ → ℕ → ChoiceNode
end vars d = record { var = vars; low = d; high = d }

-- the node of diagram d
unfoldable pub at : Diagrams → ℕ → ChoiceNode
at s d = get_or (end s.vars 0 ∷ end s.vars 1 ∷ s.nodes) d (end s.vars 0)

-- the number of diagrams: each smaller number is a diagram's
abbrev pub count : Diagrams → ℕ
count s = length s.nodes + 2

-- the part of a node where its variable is b
abbrev pub child : ChoiceNode → Bool → ℕ
child c b = cond b c.high c.low

-- the truth of diagram d by walking the given number of steps down, each to the side that the valuation has: whether
-- the walk ends at number 1
unfoldable pub reach : (ℕ → ChoiceNode) → ℕ → ℕ → List Bool → Bool
reach node zero d v = nat_eq d 1
reach node (suc steps) d v = reach node steps (child (node d) (get_or v (node d).var false)) v

-- the truth of diagram d. Each step leads to a smaller number, so d steps reach an end.
unfoldable pub dia_truth : Diagrams → ℕ → List Bool → Bool
dia_truth s d v = reach (at s) d d v

-- the diagrams are ordered, reduced, and none occurs twice
pub record IsOrdered (vars n : ℕ) (node : ℕ → ChoiceNode) : Type 0 where
  pub two : 2 ≤ n
  pub first : node 0 ≡ end vars 0
  pub second : node 1 ≡ end vars 1
  pub within : (d : ℕ) → 2 ≤ d → d < n → (node d).var < vars
  pub low_below : (d : ℕ) → 2 ≤ d → d < n → (node d).low < d
  pub high_below : (d : ℕ) → 2 ≤ d → d < n → (node d).high < d
  pub low_rises : (d : ℕ) → 2 ≤ d → d < n → (node d).var < (node (node d).low).var
  pub high_rises : (d : ℕ) → 2 ≤ d → d < n → (node d).var < (node (node d).high).var
  pub reduced : (d : ℕ) → 2 ≤ d → d < n → (node d).low ≡ (node d).high → ⊥
  pub alone : (d e : ℕ) → 2 ≤ d → 2 ≤ e → d < n → e < n → node d ≡ node e → d ≡ e

abbrev pub IsReduced : Diagrams → Type 0
IsReduced s = IsOrdered s.vars (count s) (at s)

-- earlier diagrams stay as they are
pub record Keeps (old new : Diagrams) : Type 0 where
  pub vars : new.vars ≡ old.vars
  pub more : count old ≤ count new
  pub nodes : (d : ℕ) → d < count old → at new d ≡ at old d

-- the part of diagram d where variable x is b, if no variable before x decides it
abbrev pub cofactor_of : (ℕ → ChoiceNode) → ℕ → Bool → ℕ → ℕ
cofactor_of node x b d = cond (nat_eq (node d).var x) (child (node d) b) d

-- a node whose parts are diagrams of later variables, and differ
pub record IsBranch (s : Diagrams) (c : ChoiceNode) : Type 0 where
  pub var : c.var < s.vars
  pub low : c.low < count s
  pub high : c.high < count s
  pub low_later : c.var < (at s c.low).var
  pub high_later : c.var < (at s c.high).var
  pub differ : c.low ≡ c.high → ⊥
