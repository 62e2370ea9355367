-- Spans: consecutive numbers of four bits. What a field may be is a span for most fields.
use Rattle.std.specs.Prelude.{ℕ, ◌≡◌, ◌<◌, Bool, ◌&&◌, ◌||◌, ◌==◌, nat_le, nat_lt}
use Rattle.y86_isa.specs.RowTests.{accesses}
use Rattle.y86_isa.specs.Table.{row, inop, no_register}
use Rattle.prog_gen.specs.declared.spans.Span.{Span}
use Rattle.prog_gen.specs.declared.choices.Selection.{Selection}
use Rattle.prog_gen.specs.declared.choices.Selection.TheVariants.{Among, OrNone, Faulted}

abbrev pub is_in : Span → ℕ → Bool
is_in s n = nat_le s.first n && nat_lt n s.end

-- the numbers that pass a test are those from the span's first one on, below its end
abbrev pub IsSpanOf : Span → (ℕ → Bool) → Type 0
IsSpanOf s may = (n : ℕ) → n < 16 → is_in s n ≡ may n

abbrev pub is_selected : Selection → ℕ → Bool
is_selected (Among s) n = is_in s n
is_selected (OrNone s) n = is_in s n || n == no_register
is_selected (Faulted v) n = n == inop || accesses (row v n).memory

abbrev pub IsSelectionOf : Selection → (ℕ → Bool) → Type 0
IsSelectionOf x may = (n : ℕ) → n < 16 → is_selected x n ≡ may n
