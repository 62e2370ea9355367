-- What the lines of a certificate have made: terms, claims, and the terms of the first gates.
use Rattle.std.specs.Prelude.{ℕ, List, [], ◌∷◌, ◌++◌}
use Rattle.cert_checker.specs.declared.known.Claim.{Claim}
use Rattle.cert_checker.specs.declared.known.Claim.TheVariants as claim
use Rattle.cert_checker.specs.declared.known.TermDef.{TermDef}
use Rattle.cert_checker.specs.declared.line.CertLine.{CertLine}
use Rattle.cert_checker.specs.declared.line.CertLine.TheVariants.{Term, And, AndCases, Not, NotCases, Gate, GateBy}

pub record CheckerFacts : Type 0 where
  pub terms : List TermDef
  pub claims : List Claim
  pub gates : List ℕ

abbrev pub with_term : CheckerFacts → TermDef → CheckerFacts
with_term k m = record { terms = k.terms ++ m ∷ []; claims = k.claims; gates = k.gates }

abbrev pub with_claim : CheckerFacts → Claim → CheckerFacts
with_claim k c = record { terms = k.terms; claims = k.claims ++ c ∷ []; gates = k.gates }

abbrev pub with_gate : CheckerFacts → ℕ → CheckerFacts
with_gate k t = record { terms = k.terms; claims = k.claims; gates = k.gates ++ t ∷ [] }

-- the facts after one more line
abbrev pub after : CheckerFacts → CertLine → CheckerFacts
after k (Term var low high) = with_term k (record { var = var; low = low; high = high })
after k (And left right both) = with_claim k (claim.And left right both)
after k (AndCases left right both var low high) = with_claim k (claim.And left right both)
after k (Not of not) = with_claim k (claim.Not of not)
after k (NotCases of not var low high) = with_claim k (claim.Not of not)
after k (Gate term) = with_gate k term
after k (GateBy term by) = with_gate k term

unfoldable pub after_all : CheckerFacts → List CertLine → CheckerFacts
after_all k [] = k
after_all k (line ∷ more) = after_all (after k line) more

abbrev pub nothing : CheckerFacts
nothing = record { terms = []; claims = []; gates = [] }

-- the facts that lines make
abbrev pub facts_of : List CertLine → CheckerFacts
facts_of lines = after_all nothing lines
