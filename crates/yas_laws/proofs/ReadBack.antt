-- The printed object text of an accepted source, read back, gives the source's image.
use Rattle.std.proofs.Common.{ℕ, ◌^◌, ◌<◌, ◌≤◌, List, replicate, All, IfSome, Option, Some, None, Ok, ap, sym, subst, ◌∙◌, arith}
use Rattle.std.proofs.lemmas.List.{length-replicate}
use Rattle.yas_asm.specs.declared.listing.Line.{Line}
use Rattle.yo_object.specs.Printed.{printed}
use Rattle.yo_object.specs.ReadBack.{IsInside, IsReadBack}
use Rattle.yo_object.proofs.Texts.{text_start}
use Rattle.yas_laws.proofs.ListingImage.{image_same}
use Rattle.yas_laws.proofs.PrintedLines.{IsPrintable, all_put}
use Rattle.yas_laws.proofs.ListedLines.{IsListed, assembled_lines}

narrow : (size : ℕ) (addr : Option ℕ) → size < 2 ^ 64 → IfSome addr (λ a. a ≤ size) → IfSome addr (λ a. a < 16 ^ 16)
narrow size None small h = tt
narrow size (Some a) small h = omega arith

printable : (source : List ℕ) (assembled_size size : ℕ) (line : Line) → assembled_size < 2 ^ 64 → IsListed source assembled_size line → IsInside size line →
    IsPrintable source size line
printable source assembled_size size line small h inside =
    record { plain = h.plain; bytes = h.bytes; narrow = narrow assembled_size line.addr small h.within; inside = inside }

pub is_read_back : IsReadBack
unfolding printed
is_read_back variant source assembled_size size listing e small is_size inside =
    let all = assembled_lines variant source assembled_size listing e in
    let each : All (IsPrintable source size) listing = λ k d lt. printable source assembled_size size _ small (all k d lt) (inside k d lt) in
    sym (text_start _ size)
    ∙ all_put source 1 (replicate size 0) listing (subst (λ n. All (IsPrintable source n) listing) (sym (length-replicate size 0)) each)
    ∙ ap (λ memory. Ok memory) (image_same listing size)
