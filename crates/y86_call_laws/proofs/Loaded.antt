-- Loading an object text gives an image.
use Rattle.std.proofs.Common.{◌≡◌, ℕ, ◌+◌, ◌*◌, ◌<◌, List, [], ◌∷◌, ◌++◌, length, take, drop, refl, sym, subst, inl, inr, Result, Ok, Err, lit≤, arith}
use Rattle.std.proofs.lemmas.Bool.Decides.{nat_tests}
use Rattle.std.proofs.lemmas.List.Elements.{All-append, All-cons, All-drop, All-nil, All-replicate, All-take}
use Rattle.y86_base.specs.Image.{AreBytes, IsImage, IsSize}
use Rattle.y86_base.specs.Text.{hex_value, lines}
use Rattle.yas_laws.proofs.LoadedLines.{IsPut, is_put}
use Rattle.yas_laws.proofs.LoadedText.{has_its_size}
use Rattle.yo_object.specs.ObjectText.{after_line, bytes_of_pairs, object_of, put_line, put_lines}
use Rattle.yo_object.specs.declared.object.YoWhy.{YoWhy}

abbrev IsByte : ℕ → Type 0
IsByte byte = byte < 256

hex_small : (digit : ℕ) → hex_value digit < 16
hex_small digit = grind (arith, nat_tests)

pairs_bytes : (pairs : List ℕ) → AreBytes (bytes_of_pairs pairs)
pairs_bytes [] = All-nil IsByte
pairs_bytes (high ∷ []) = All-nil IsByte
pairs_bytes (high ∷ low ∷ rest) =
    All-cons IsByte (16 * hex_value high + hex_value low) (bytes_of_pairs rest) (omega (arith, hex_small high, hex_small low)) (pairs_bytes rest)

put_bytes : (memory line after : List ℕ) → AreBytes memory → IsPut (length memory) memory line after → AreBytes after
put_bytes memory line after bytes (inl skipped) = subst AreBytes (sym skipped.1) bytes
put_bytes memory line after bytes (inr (p, is)) =
    subst AreBytes (sym is)
    (All-append IsByte (take p.address memory) (p.bytes ++ drop (p.address + length p.bytes) memory) (All-take IsByte p.address memory bytes)
    (All-append IsByte p.bytes (drop (p.address + length p.bytes) memory) (subst AreBytes p.written (pairs_bytes p.pairs))
    (All-drop IsByte (p.address + length p.bytes) memory bytes)))

lines_bytes : (number : ℕ) (memory image : List ℕ) (texts : List (List ℕ)) → AreBytes memory → put_lines number memory texts ≡ Ok image → AreBytes image
unfolding put_lines
lines_bytes number memory image [] bytes e = let same : memory ≡ image = cc (e) in subst AreBytes same bytes
lines_bytes number memory image (line ∷ rest) bytes e = at (put_line memory line) refl (λ after. lines_bytes (number + 1) after image rest) e
  where
    at : (put : Result (List ℕ) YoWhy) → put_line memory line ≡ put →
        ((after : List ℕ) → AreBytes after → put_lines (number + 1) after rest ≡ Ok image → AreBytes image) →
        after_line number (λ after. put_lines (number + 1) after rest) put ≡ Ok image → AreBytes image
    at (Ok after) here more e = more after (put_bytes memory line after bytes (is_put (length memory) memory line after refl here)) e
    at (Err why) here more e = absurd (cc (e))

pub loaded_is_image : (text : List ℕ) (size : ℕ) (image : List ℕ) → IsSize size → object_of text size ≡ Ok image → IsImage image
unfolding object_of
loaded_is_image text size image sized e = record {
  sized = subst IsSize (sym (has_its_size text size image e)) sized;
  bytes = lines_bytes 1 _ image (lines text) (All-replicate IsByte size 0 (lit≤ tt)) e;
}
