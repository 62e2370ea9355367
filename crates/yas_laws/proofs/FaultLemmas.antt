-- The lines of a source at their addresses, and the first line with a fault.
use Rattle.std.proofs.Common.{◌≡◌, ◌+◌, ap, sym, subst, ◌∙◌, ℕ, true, List, [], ◌∷◌, ◌++◌, length, map, Option, None, Some, Result, Ok, Err, refl}
use Rattle.std.specs.Prelude.{is_ok}
use Rattle.std.proofs.lemmas.List.{append-nil, append_assoc}
use Rattle.std.proofs.lemmas.Option.{none-some, same_Some}
use Rattle.y86_base.specs.declared.parts.Variant.{Variant}
use Rattle.y86_base.specs.Text.{lines}
use Rattle.yas_asm.specs.declared.fault.AsmWhy.{AsmWhy}
use Rattle.yas_asm.specs.declared.fault.AsmFault.{AsmFault}
use Rattle.yas_asm.specs.declared.listing.Line.{Line}
use Rattle.yas_asm.specs.Grammar.{read_line}
use Rattle.yas_asm.specs.Assembly.{Placed, placed, source_lines, address_after, labels, assembled, assembled_with, first_fault, fault_behind, fault_or, listing, listing_unless}
use Rattle.yas_asm.specs.Laws.{LinesFollow, IsFaultless, AcceptedWithoutFault, FirstFaultIsReported}
use Rattle.yas_asm.proofs.Parts.{head_is, tail_is, no_cons}
use Rattle.yas_laws.proofs.LawLemmas.{fault_at, accepted}

module _ (variant : Variant) (size : ℕ) where
  placed-texts : (address : ℕ) (texts : List (List ℕ)) → map (λ line. line.text) (placed variant size address texts) ≡ texts
  unfolding placed
  placed-texts address [] = refl
  placed-texts address (text ∷ texts) = ap (λ others. text ∷ others) (placed-texts (address_after variant size address (read_line variant text)) texts)

  placed-reads : (address : ℕ) (texts : List (List ℕ)) (before after : List Placed) (line : Placed) → placed variant size address texts ≡ before ++ line ∷ after
      → line.read ≡ read_line variant line.text
  unfolding placed
  placed-reads address [] [] after line e = absurd (no_cons _ _ e)
  placed-reads address [] (other ∷ before) after line e = absurd (no_cons _ _ e)
  placed-reads address (text ∷ texts) [] after line e = subst (λ (x : Placed). x.read ≡ read_line variant x.text) (head_is _ _ _ _ e) refl
  placed-reads address (text ∷ texts) (other ∷ before) after line e =
      placed-reads (address_after variant size address (read_line variant text)) texts before after line (tail_is _ _ _ _ e)

  placed-first : (address : ℕ) (texts : List (List ℕ)) (after : List Placed) (line : Placed) → placed variant size address texts ≡ line ∷ after → line.address ≡ address
  unfolding placed
  placed-first address [] after line e = absurd (no_cons _ _ e)
  placed-first address (text ∷ texts) after line e = sym (ap (λ (x : Placed). x.address) (head_is _ _ _ _ e))

  placed-next : (address : ℕ) (texts : List (List ℕ)) (before after : List Placed) (line other : Placed) → placed variant size address texts ≡ before ++ line ∷ other ∷ after
      → other.address ≡ address_after variant size line.address line.read
  unfolding placed
  placed-next address [] [] after line other e = absurd (no_cons _ _ e)
  placed-next address [] (x ∷ before) after line other e = absurd (no_cons _ _ e)
  placed-next address (text ∷ texts) [] after line other e =
      placed-first (address_after variant size address (read_line variant text)) texts after other (tail_is _ _ _ _ e)
      ∙ ap (λ (x : Placed). address_after variant size x.address x.read) (head_is _ _ _ _ e)
  placed-next address (text ∷ texts) (x ∷ before) after line other e =
      placed-next (address_after variant size address (read_line variant text)) texts before after line other (tail_is _ _ _ _ e)

pub lines_follow : LinesFollow
unfolding source_lines
lines_follow = record {
  texts = λ variant source size. placed-texts variant size 0 (lines source);
  reads = λ variant source size before after line e. placed-reads variant size 0 (lines source) before after line e;
  first = λ variant source size after line e. placed-first variant size 0 (lines source) after line e;
  next = λ variant source size before after line other e. placed-next variant size 0 (lines source) before after line other e;
}

-- the line with the first fault of these lines; `before` is the lines before these
pub record IsFoundAt (variant : Variant) (size : ℕ) (table : List (List ℕ × ℕ)) (before rest : List Placed) (fault : AsmFault) : Type 0 where
  pub front : List Placed
  pub line : Placed
  pub after : List Placed
  pub parts : rest ≡ front ++ line ∷ after
  pub number : fault.line ≡ length (before ++ front) + 1
  pub reason : fault_behind variant size table (before ++ front) line ≡ Some fault.why
  pub none_before : (first last : List Placed) (other : Placed) → front ≡ first ++ other ∷ last → fault_behind variant size table (before ++ first) other ≡ None

module _ (variant : Variant) (size : ℕ) (table : List (List ℕ × ℕ)) where
  found : (before rest : List Placed) (fault : AsmFault) → first_fault variant size table before rest ≡ Some fault → IsFoundAt variant size table before rest fault
  unfolding first_fault
  found before [] fault e = absurd (none-some fault e)
  found before (line ∷ rest) fault e = by (fault_behind variant size table before line) refl e (found (before ++ line ∷ []) rest fault)
    where
      by : (here : Option AsmWhy) → fault_behind variant size table before line ≡ here
          → fault_or here (length before + 1) (first_fault variant size table (before ++ line ∷ []) rest) ≡ Some fault
          → (first_fault variant size table (before ++ line ∷ []) rest ≡ Some fault → IsFoundAt variant size table (before ++ line ∷ []) rest fault)
          → IsFoundAt variant size table before (line ∷ rest) fault
      by (Some why) h e later =
          let same = same_Some _ _ e in
          record {
            front = [];
            line = line;
            after = rest;
            parts = refl;
            number = sym (ap (λ (f : AsmFault). f.line) same) ∙ ap (λ (xs : List Placed). length xs + 1) (sym (append-nil before));
            reason =
                ap (λ (xs : List Placed). fault_behind variant size table xs line) (append-nil before) ∙ h ∙ ap (λ (f : AsmFault). Some f.why) same;
            none_before = λ first last other e. absurd (no_front first last other e);
          }
        where
          no_front : (first last : List Placed) (other : Placed) → [] ≡ first ++ other ∷ last → ⊥
          no_front [] last other e = no_cons _ _ e
          no_front (x ∷ first) last other e = no_cons _ _ e
      by None h e later =
          let found = later e in
          record {
            front = line ∷ found.front;
            line = found.line;
            after = found.after;
            parts = ap (λ xs. line ∷ xs) found.parts;
            number = found.number ∙ ap (λ (xs : List Placed). length xs + 1) (append_assoc before (line ∷ []) found.front);
            reason = sym (ap (λ (xs : List Placed). fault_behind variant size table xs found.line) (append_assoc before (line ∷ []) found.front)) ∙ found.reason;
            none_before = λ first last other e. none found.front found.none_before first last other e;
          }
        where
          none : (front : List Placed)
              → ((first last : List Placed) (other : Placed) → front ≡ first ++ other ∷ last → fault_behind variant size table ((before ++ line ∷ []) ++ first) other ≡ None)
              → (first last : List Placed) (other : Placed) → line ∷ front ≡ first ++ other ∷ last → fault_behind variant size table (before ++ first) other ≡ None
          none front later [] last other e =
              subst (λ (x : Placed). fault_behind variant size table (before ++ []) x ≡ None) (head_is _ _ _ _ e)
              (ap (λ (xs : List Placed). fault_behind variant size table xs line) (append-nil before) ∙ h)
          none front later (x ∷ first) last other e =
              subst (λ (y : Placed). fault_behind variant size table (before ++ y ∷ first) other ≡ None) (head_is _ _ _ _ e)
              (sym (ap (λ (xs : List Placed). fault_behind variant size table xs other) (append_assoc before (line ∷ []) first)) ∙ later first last other (tail_is _ _ _ _ e))

told_fault : Result (List Line) AsmFault → Option AsmFault
told_fault (Ok lines) = None
told_fault (Err fault) = Some fault

listing_err : (fault : Option AsmFault) (lines : List Line) (told : AsmFault) → listing_unless fault lines ≡ Err told → fault ≡ Some told
unfolding told_fault
listing_err None lines told e = absurd (none-some told (ap told_fault e))
listing_err (Some fault) lines told e = ap told_fault e

pub first_fault_is_told : FirstFaultIsReported
unfolding assembled assembled_with
first_fault_is_told variant source size fault e =
    let table = labels (source_lines variant size source) in
    let found = found variant size table [] (source_lines variant size source) fault (listing_err _ _ fault e) in
    record {
      before = found.front;
      line = found.line;
      after = found.after;
      parts = found.parts;
      number = found.number;
      reason = found.reason;
      none_before = λ first rest other e. found.none_before first rest other e;
    }

is_accepted : (variant : Variant) (source : List ℕ) (size : ℕ) → IsFaultless variant size source → is_ok (assembled variant source size) ≡ true
unfolding assembled assembled_with
is_accepted variant source size none = by (first_fault variant size (labels (source_lines variant size source)) [] (source_lines variant size source)) refl
  where
    by : (fault : Option AsmFault) → first_fault variant size (labels (source_lines variant size source)) [] (source_lines variant size source) ≡ fault
        → is_ok (listing_unless fault (listing variant size (labels (source_lines variant size source)) 0 (source_lines variant size source))) ≡ true
    by None e = refl
    by (Some fault) e =
        let found = found variant size (labels (source_lines variant size source)) [] (source_lines variant size source) fault e in
        absurd (none-some fault.why (sym (none found.front found.after found.line found.parts) ∙ found.reason))

pub accepted_without_fault : AcceptedWithoutFault
accepted_without_fault = record {
  none = λ variant source size listing e before after line split.
      fault_at variant size (labels (source_lines variant size source)) [] before after line
      (subst (λ (xs : List Placed). first_fault variant size (labels (source_lines variant size source)) [] xs ≡ None) split (accepted variant source size listing e).0);
  accepted = is_accepted;
}
