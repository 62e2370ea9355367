-- The parts of a line: what the grammar requires, one after the other.
use Rattle.std.specs.Prelude.{List, [], ◌∷◌}
use Rattle.yas_asm.specs.declared.statement.Shape.{Shape}
use Rattle.yas_asm.specs.declared.statement.Shape.TheVariants as shapes
use Rattle.yas_asm.specs.declared.statement.Directive.{Directive}
use Rattle.yas_asm.specs.declared.statement.Directive.TheVariants as directives
use Rattle.asm_faults.specs.declared.parts.Part.{Part}
use Rattle.asm_faults.specs.declared.parts.Part.TheVariants.{Register, Value, Displacement, Comma, OpenParenthesis, CloseParenthesis, Natural, Positive, LineEnd}

-- the parts after a mnemonic
abbrev pub parts_of_shape : Shape → List Part
parts_of_shape shapes.Alone = LineEnd ∷ []
parts_of_shape shapes.Registers = Register ∷ Comma ∷ Register ∷ LineEnd ∷ []
parts_of_shape shapes.Immediate = Value ∷ Comma ∷ Register ∷ LineEnd ∷ []
parts_of_shape shapes.Store = Register ∷ Comma ∷ Displacement ∷ OpenParenthesis ∷ Register ∷ CloseParenthesis ∷ LineEnd ∷ []
parts_of_shape shapes.Load = Displacement ∷ OpenParenthesis ∷ Register ∷ CloseParenthesis ∷ Comma ∷ Register ∷ LineEnd ∷ []
parts_of_shape shapes.Target = Value ∷ LineEnd ∷ []
parts_of_shape shapes.Single = Register ∷ LineEnd ∷ []

-- the parts after a directive
abbrev pub parts_of_directive : Directive → List Part
parts_of_directive directives.Position = Natural ∷ LineEnd ∷ []
parts_of_directive directives.Align = Positive ∷ LineEnd ∷ []
parts_of_directive (directives.Data width) = Value ∷ LineEnd ∷ []
