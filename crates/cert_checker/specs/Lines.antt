-- The lines of a certificate, and their texts.
use Rattle.std.specs.Prelude.{ℕ, ◌^◌, ◌<◌, List, [], ◌∷◌, ◌++◌, get_or}
use Rattle.std.specs.Fmt.{decimal}
use Rattle.cert_checker.specs.declared.line.LineKind.{LineKind}
use Rattle.cert_checker.specs.declared.line.LineKind.TheVariants as kind
use Rattle.cert_checker.specs.declared.line.CertLine.{CertLine}
use Rattle.cert_checker.specs.declared.line.CertLine.TheVariants.{Term, And, AndCases, Not, NotCases, Gate, GateBy}

-- the letter of a kind of lines: t, a, s, n, m, g or h
abbrev pub letter : LineKind → ℕ
letter kind.Term = 116
letter kind.And = 97
letter kind.AndCases = 115
letter kind.Not = 110
letter kind.NotCases = 109
letter kind.Gate = 103
letter kind.GateBy = 104

abbrev pub kind_of : CertLine → LineKind
kind_of (Term var low high) = kind.Term
kind_of (And left right both) = kind.And
kind_of (AndCases left right both var low high) = kind.AndCases
kind_of (Not of not) = kind.Not
kind_of (NotCases of not var low high) = kind.NotCases
kind_of (Gate term) = kind.Gate
kind_of (GateBy term claim) = kind.GateBy

abbrev pub numbers_of : CertLine → List ℕ
numbers_of (Term var low high) = var ∷ low ∷ high ∷ []
numbers_of (And left right both) = left ∷ right ∷ both ∷ []
numbers_of (AndCases left right both var low high) = left ∷ right ∷ both ∷ var ∷ low ∷ high ∷ []
numbers_of (Not of not) = of ∷ not ∷ []
numbers_of (NotCases of not var low high) = of ∷ not ∷ var ∷ low ∷ high ∷ []
numbers_of (Gate term) = term ∷ []
numbers_of (GateBy term claim) = term ∷ claim ∷ []

-- numbers in decimal, each after a blank, and the end of the line
abbrev pub numbers_text : List ℕ → List ℕ
numbers_text [] = 10 ∷ []
numbers_text (n ∷ more) = 32 ∷ (decimal n ++ numbers_text more)

unfoldable pub line_text : CertLine → List ℕ
line_text line = letter (kind_of line) ∷ numbers_text (numbers_of line)

-- each number is below 2^64
abbrev pub AreWords : List ℕ → Type 0
AreWords [] = Unit {0}
AreWords (n ∷ more) = (n < 2 ^ 64) × AreWords more

abbrev pub IsLine : CertLine → Type 0
IsLine line = AreWords (numbers_of line)

unfoldable pub lines_text : List CertLine → List ℕ
lines_text [] = []
lines_text (line ∷ more) = line_text line ++ lines_text more

-- how many numbers a line of a kind has, and the line with these numbers
abbrev pub count : LineKind → ℕ
count kind.Term = 3
count kind.And = 3
count kind.AndCases = 6
count kind.Not = 2
count kind.NotCases = 5
count kind.Gate = 1
count kind.GateBy = 2

abbrev pub line_with : LineKind → List ℕ → CertLine
line_with kind.Term n = Term (get_or n 0 0) (get_or n 1 0) (get_or n 2 0)
line_with kind.And n = And (get_or n 0 0) (get_or n 1 0) (get_or n 2 0)
line_with kind.AndCases n = AndCases (get_or n 0 0) (get_or n 1 0) (get_or n 2 0) (get_or n 3 0) (get_or n 4 0) (get_or n 5 0)
line_with kind.Not n = Not (get_or n 0 0) (get_or n 1 0)
line_with kind.NotCases n = NotCases (get_or n 0 0) (get_or n 1 0) (get_or n 2 0) (get_or n 3 0) (get_or n 4 0)
line_with kind.Gate n = Gate (get_or n 0 0)
line_with kind.GateBy n = GateBy (get_or n 0 0) (get_or n 1 0)
