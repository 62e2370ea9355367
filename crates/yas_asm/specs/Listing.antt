-- How contracts see a listing: its lines over a copy of the source.
use Rattle.std.specs.Prelude.{ℕ, List}
use Rattle.yas_asm.specs.declared.listing.Line.{Line}

pub record Listed : Type 0 where
  pub lines : List Line
  pub source : List ℕ

abbrev pub lines_of : Listed → List Line
lines_of listed = listed.lines
