-- What a line has to be after the lines before it: the checker's rule.
use Rattle.std.specs.Prelude.{ℕ, ◌+◌, ◌-◌, Bool, true, false, ◌&&◌, ◌||◌, ◌==◌, nat_lt, not, cond, List, length, slice_get, Option, Some, None, if◌then◌else◌}
use Rattle.nets.specs.Nets.{Gates}
use Rattle.nets.specs.declared.net.Gate.{Gate}
use Rattle.nets.specs.declared.net.Gate.TheVariants as gate
use Rattle.cert_checker.specs.CheckerFacts.{CheckerFacts}
use Rattle.cert_checker.specs.declared.fault.CertWhy.{CertWhy}
use Rattle.cert_checker.specs.declared.fault.CertWhy.TheVariants as why
use Rattle.cert_checker.specs.declared.known.Claim.{Claim}
use Rattle.cert_checker.specs.declared.known.Claim.TheVariants as claim
use Rattle.cert_checker.specs.declared.known.TermDef.{TermDef}
use Rattle.cert_checker.specs.declared.line.CertLine.{CertLine}
use Rattle.cert_checker.specs.declared.line.CertLine.TheVariants.{Term, And, AndCases, Not, NotCases, Gate as GateIs, GateBy}

-- ---- terms. No line defines terms 0 and 1: they are falsehood and truth.

abbrev pub made_at : List TermDef → ℕ → Option TermDef
made_at terms t = if nat_lt t 2 then None else slice_get terms (t - 2)

-- the part of a term where variable v is b: one of its two terms, if it was made on this variable, else the term itself
abbrev pub part_by : Option TermDef → ℕ → Bool → ℕ → ℕ
part_by None v b t = t
part_by (Some m) v b t = if m.var == v then cond b m.high m.low else t

abbrev pub part : List TermDef → ℕ → Bool → ℕ → ℕ
part terms v b t = part_by (made_at terms t) v b t

abbrev pub is_made : Option TermDef → ℕ → ℕ → ℕ → Bool
is_made None v low high = false
is_made (Some m) v low high = m.var == v && (m.low == low && m.high == high)

-- ---- claims

abbrev pub same_claim : Claim → Claim → Bool
same_claim (claim.And a b c) (claim.And x y z) = a == x && (b == y && c == z)
same_claim (claim.And a b c) (claim.Not x z) = false
same_claim (claim.Not a c) (claim.And x y z) = false
same_claim (claim.Not a c) (claim.Not x z) = a == x && c == z

abbrev pub claims : Option Claim → Claim → Bool
claims None wanted = false
claims (Some c) wanted = same_claim c wanted

abbrev pub is_term : CheckerFacts → ℕ → Bool
is_term k t = nat_lt t (length k.terms + 2)

abbrev pub is_claim : CheckerFacts → ℕ → Bool
is_claim k p = nat_lt p (length k.claims)

-- each number names an earlier term, an earlier claim or a variable, as its place requires
abbrev pub names : ℕ → CheckerFacts → CertLine → Bool
names vars k (Term var low high) = nat_lt var vars && (is_term k low && is_term k high)
names vars k (And left right both) = is_term k left && (is_term k right && is_term k both)
names vars k (AndCases left right both var low high) =
    (is_term k left && (is_term k right && is_term k both)) && (nat_lt var vars && (is_claim k low && is_claim k high))
names vars k (Not of not) = is_term k of && is_term k not
names vars k (NotCases of not var low high) = (is_term k of && is_term k not) && (nat_lt var vars && (is_claim k low && is_claim k high))
names vars k (GateIs term) = is_term k term
names vars k (GateBy term by) = is_term k term && is_claim k by

-- an evident conjunction of two terms: one is falsehood, one is truth, or both are the same
abbrev pub is_plain_and : ℕ → ℕ → ℕ → Bool
is_plain_and a b c = (a == 0 && c == 0) || ((b == 0 && c == 0) || ((a == 1 && c == b) || ((b == 1 && c == a) || (a == b && b == c))))

abbrev pub is_plain_not : ℕ → ℕ → Bool
is_plain_not a c = (a == 0 && c == 1) || (a == 1 && c == 0)

-- the claims named are those on both cases of a variable
abbrev pub and_by_cases : List TermDef → List Claim → ℕ → ℕ → ℕ → ℕ → ℕ → ℕ → Bool
and_by_cases terms found a b c v low high =
    claims (slice_get found low) (claim.And (part terms v false a) (part terms v false b) (part terms v false c))
    && claims (slice_get found high) (claim.And (part terms v true a) (part terms v true b) (part terms v true c))

abbrev pub not_by_cases : List TermDef → List Claim → ℕ → ℕ → ℕ → ℕ → ℕ → Bool
not_by_cases terms found a c v low high =
    claims (slice_get found low) (claim.Not (part terms v false a) (part terms v false c))
    && claims (slice_get found high) (claim.Not (part terms v true a) (part terms v true c))

-- a claim is plain, or by cases
abbrev pub is_justified : CheckerFacts → CertLine → Bool
is_justified k (And left right both) = is_plain_and left right both
is_justified k (AndCases left right both var low high) = and_by_cases k.terms k.claims left right both var low high
is_justified k (Not of not) = is_plain_not of not
is_justified k (NotCases of not var low high) = not_by_cases k.terms k.claims of not var low high
is_justified k (Term var low high) = true
is_justified k (GateIs term) = true
is_justified k (GateBy term by) = true

-- ---- gates

-- a term is that of a constant, or of a variable
abbrev pub gate_matches_plainly : CheckerFacts → ℕ → Option Gate → Bool
gate_matches_plainly k term (Some (gate.Const b)) = term == cond b 1 0
gate_matches_plainly k term (Some (gate.Var v)) = is_made (made_at k.terms term) v 0 1
gate_matches_plainly k term _ = false

-- a claim says about the terms of earlier gates what the gate requires
abbrev pub not_claims : Option Claim → Option ℕ → ℕ → Bool
not_claims c (Some a) term = claims c (claim.Not a term)
not_claims c None term = false

abbrev pub and_claims : Option Claim → Option ℕ → Option ℕ → ℕ → Bool
and_claims c (Some a) (Some b) term = claims c (claim.And a b term)
and_claims c (Some a) None term = false
and_claims c None b term = false

abbrev pub gate_matches_by : CheckerFacts → ℕ → Option Claim → Option Gate → Bool
gate_matches_by k term c (Some (gate.Not a)) = not_claims c (slice_get k.gates a) term
gate_matches_by k term c (Some (gate.And a b)) = and_claims c (slice_get k.gates a) (slice_get k.gates b) term
gate_matches_by k term c _ = false

-- the next gate is the one after those that have their terms
abbrev pub gate_matches : Gates → CheckerFacts → CertLine → Bool
gate_matches net k (GateIs term) = gate_matches_plainly k term (slice_get net.gates (length k.gates))
gate_matches net k (GateBy term by) = gate_matches_by k term (slice_get k.claims by) (slice_get net.gates (length k.gates))
gate_matches net k _ = true

-- ---- the rule

-- the error in a line, if it has one
unfoldable pub flaw : Gates → CheckerFacts → CertLine → Option CertWhy
flaw net k line =
    if not (names net.vars k line) then Some why.Number
    else (if not (is_justified k line) then Some why.Claim else (if not (gate_matches net k line) then Some why.Gate else None))
