-- What is printed about a text: how often each output is 1.
use Rattle.std.specs.Prelude.{◌≡◌, ℕ, ◌<◌, Bool, List, ◌∷◌, ◌++◌, length, get_or}
use Rattle.y86_base.specs.Text.{with_line_feeds}
use Rattle.aiger_out.specs.declared.form.Header.{Header}
use Rattle.aiger_out.specs.Form.{IsAag}
use Rattle.aiger_out.specs.Values.{Out}
use Rattle.aiger_out.specs.Written.{decimal, each}
use Rattle.aiger_run.specs.Counts.{count_below}
use Rattle.aiger_run.specs.Vectors.{vector}

-- `oN COUNT`
abbrev pub count_line : ℕ → ℕ → List ℕ
count_line i n = 111 ∷ (decimal i ++ (32 ∷ decimal n))

abbrev pub counts_text : List ℕ → List ℕ
counts_text counts = with_line_feeds (each (λ i. count_line i (get_or counts i 0)) (length counts))

-- output i is 1 at n of the vectors 0 to 511
pub record IsCount (h : Header) (text : List ℕ) (seed i n : ℕ) : Type 0 where
  pub value : ℕ → Bool
  pub outs : (p : ℕ) → p < 512 → Out h text i (vector seed p h.inputs) (value p)
  pub count : n ≡ count_below value 512

-- the text has the form, and these are the counts of its outputs
pub record PrintsCounts (text : List ℕ) (seed : ℕ) (told : List ℕ) : Type 0 where
  pub header : Header
  pub form : IsAag 1000000 text header
  pub counts : List ℕ
  pub size : length counts ≡ header.outputs
  pub are : (i : ℕ) → i < header.outputs → IsCount header text seed i (get_or counts i 0)
  pub lines : told ≡ counts_text counts
