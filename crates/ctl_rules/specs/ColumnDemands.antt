-- What a rule says about one signal, by a column of the instruction table (CS:APP 3e, figures 4.18 to 4.21). The
-- signals that are the source of an operand, an address or a PC are arguments.
use Rattle.std.specs.Prelude.{ℕ, ◌-◌, ◌^◌, Bool, true, Option, Some, None, if◌then◌else◌}
use Rattle.nets.specs.Nets.{agree}
use Rattle.ctl_atoms.specs.declared.leaf.Leaf.{Leaf}
use Rattle.ctl_atoms.specs.declared.leaf.Leaf.TheVariants.{Name, Number}
use Rattle.ctl_atoms.specs.Leaves.{Assignment, leaf_eq, leaf_holds}
use Rattle.y86_isa.specs.declared.columns.AluAColumn.{AluAColumn}
use Rattle.y86_isa.specs.declared.columns.AluAColumn.TheVariants.{NoA, ValA, ValC, Minus8, Plus8}
use Rattle.y86_isa.specs.declared.columns.AluBColumn.{AluBColumn}
use Rattle.y86_isa.specs.declared.columns.AluBColumn.TheVariants.{NoB, Zero, ValB}
use Rattle.y86_isa.specs.declared.columns.MemoryColumn.{MemoryColumn}
use Rattle.y86_isa.specs.declared.columns.MemoryColumn.TheVariants.{NoMem, StoreA, StoreP, LoadE, LoadA}
use Rattle.y86_isa.specs.declared.columns.NextPcColumn.{NextPcColumn}
use Rattle.y86_isa.specs.declared.columns.NextPcColumn.TheVariants.{Itself, Fall, Branch, Target, Loaded}

-- ---- one signal, under its control values

-- the signal picks this leaf; it picks the leaf, if one is demanded; it is this number
abbrev pub picks_leaf : (ℕ → Leaf) → ℕ → Leaf → Bool
picks_leaf cv name leaf = leaf_eq (cv name) leaf

abbrev pub picks_some_leaf : (ℕ → Leaf) → ℕ → Option Leaf → Bool
picks_some_leaf cv name None = true
picks_some_leaf cv name (Some leaf) = picks_leaf cv name leaf

abbrev pub is_number : (ℕ → Leaf) → ℕ → ℕ → Bool
is_number cv name n = picks_leaf cv name (Number n)

-- the signal, a truth, has this value
abbrev pub is_truth : Assignment → (ℕ → Leaf) → ℕ → Bool → Bool
is_truth α cv name want = agree want (leaf_holds α (cv name))

-- ---- the leaf that a column demands; a dash demands none

-- aluA and aluB, from valA, valC and valB
abbrev pub operand_leaf_a : AluAColumn → ℕ → ℕ → Option Leaf
operand_leaf_a NoA val_a val_c = None
operand_leaf_a ValA val_a val_c = Some (Name val_a)
operand_leaf_a ValC val_a val_c = Some (Name val_c)
operand_leaf_a Minus8 val_a val_c = Some (Number (2 ^ 64 - 8))
operand_leaf_a Plus8 val_a val_c = Some (Number 8)

abbrev pub operand_leaf_b : AluBColumn → ℕ → Option Leaf
operand_leaf_b NoB val_b = None
operand_leaf_b Zero val_b = Some (Number 0)
operand_leaf_b ValB val_b = Some (Name val_b)

-- the address of the data, from valA and valE, and the word that is stored, from valA and valP
abbrev pub address_leaf : MemoryColumn → ℕ → ℕ → Option Leaf
address_leaf NoMem val_a val_e = None
address_leaf StoreA val_a val_e = Some (Name val_e)
address_leaf StoreP val_a val_e = Some (Name val_e)
address_leaf LoadE val_a val_e = Some (Name val_e)
address_leaf LoadA val_a val_e = Some (Name val_a)

abbrev pub word_leaf : MemoryColumn → ℕ → ℕ → Option Leaf
word_leaf NoMem val_a val_p = None
word_leaf StoreA val_a val_p = Some (Name val_a)
word_leaf StoreP val_a val_p = Some (Name val_p)
word_leaf LoadE val_a val_p = None
word_leaf LoadA val_a val_p = None

-- the next PC, from valP, valC, valM and the condition
abbrev pub next_leaf : NextPcColumn → ℕ → ℕ → ℕ → Bool → Option Leaf
next_leaf Itself val_p val_c val_m cnd = None
next_leaf Fall val_p val_c val_m cnd = Some (Name val_p)
next_leaf Branch val_p val_c val_m cnd = Some (if cnd then Name val_c else Name val_p)
next_leaf Target val_p val_c val_m cnd = Some (Name val_c)
next_leaf Loaded val_p val_c val_m cnd = Some (Name val_m)
