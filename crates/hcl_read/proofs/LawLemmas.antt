-- Proofs of the laws of texts, files and faults.
use Rattle.std.proofs.Common.{◌≡◌, ℕ, List, [], ◌++◌, Ok, Err, inl, inr}
use Rattle.std.specs.Prelude.{◌⊎◌}
use Rattle.hcl_tree.specs.declared.tree.File.{File}
use Rattle.hcl_read.specs.declared.fault.HclWhy.{HclWhy}
use Rattle.hcl_read.specs.declared.tokens.Token.{Token}
use Rattle.hcl_read.specs.Fault.{Accepts, FaultAt}
use Rattle.hcl_read.specs.Read.{ReadsAs}
use Rattle.hcl_read.specs.Tokens.{tokens}
use Rattle.hcl_read.specs.Machine.{Outcome, outcome, start}
use Rattle.hcl_read.proofs.Exact.{Answers, answers, one_file}

pub at_most_one_file : (text : List ℕ) (f g : File) → ReadsAs text f → ReadsAs text g → f ≡ g
at_most_one_file text f g a b = one_file (tokens text) f g a.0 b.0

pub file_or_fault : (ts : List Token)
    → ((f : File) × Accepts ts f) ⊎ ((front : List Token) × (rest : List Token) × (why : HclWhy) × (ts ≡ front ++ rest) × FaultAt front rest why)
file_or_fault ts = go (outcome [] start ts) (answers ts)
  where
    go : (o : Outcome) → Answers ts o → ((f : File) × Accepts ts f) ⊎ ((front : List Token) × (rest : List Token) × (why : HclWhy) × (ts ≡ front ++ rest) × FaultAt front rest why)
    go (Ok f) a = inl (f, a)
    go (Err (rest, why)) a = inr (a.0, rest, why, a.1, a.2)
