-- Where the reader stops, in terms of its machine.
use Rattle.std.specs.Prelude.{◌≡◌, ◌⊎◌, ℕ, true, nat_le, List, [], ◌++◌, length, Ok, Err}
use Rattle.hcl_read.specs.declared.fault.HclWhy.{HclWhy}
use Rattle.hcl_read.specs.declared.fault.HclWhy.TheVariants as whys
use Rattle.hcl_read.specs.declared.tokens.Token.{Token}
use Rattle.hcl_read.specs.declared.state.ReaderState.{ReaderState}
use Rattle.hcl_read.specs.declared.reading.ReadStop.{ReadStop}
use Rattle.hcl_read.specs.Fault.{noted}
use Rattle.hcl_read.specs.Machine.{Outcome, outcome, outcome_at, start, step}
use Rattle.hcl_read.specs.Read.{bytes_from, kinds}
use Rattle.hcl_read.specs.Tokens.{items, tokens}

-- a token is accepted: the next state and the next names
pub record TakesToken (names : List (List ℕ)) (state : ReaderState) (token : Token) (names_next : List (List ℕ)) (next : ReaderState) : Type 0 where
  pub stepped : step true state token ≡ Ok next
  pub known : names_next ≡ noted names token
  pub few : nat_le (length names_next) 256 ≡ true

-- a token is refused, whatever follows
abbrev pub Refused : List (List ℕ) → ReaderState → Token → HclWhy → Type 0
Refused names state token why =
    (why ≡ whys.Memory) ⊎ ((ts : List Token) (behind : ReaderState → Outcome) → outcome_at (noted names token) ts (step true state token) behind ≡ Err (ts, why))

-- the reader stops at a token or at the end, after `stop.at` bytes
pub record HaltsAt (text : List ℕ) (stop : ReadStop) : Type 0 where
  pub front : List (Token × List ℕ)
  pub rest : List (Token × List ℕ)
  pub whole : items text ≡ front ++ rest
  pub refused : outcome [] start (tokens text) ≡ Err (kinds rest, stop.why)
  pub before : List ℕ
  pub place : text ≡ before ++ bytes_from rest
  pub at : length before ≡ stop.at

abbrev pub Stopped : List ℕ → ReadStop → Type 0
Stopped text stop = (stop.why ≡ whys.Memory) ⊎ HaltsAt text stop
