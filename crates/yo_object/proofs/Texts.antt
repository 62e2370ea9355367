-- The lines of an object text, one by one.
use Rattle.std.proofs.Common.{◌≡◌, ℕ, ◌+◌, List, [], ◌∷◌, refl, replicate, Ok, Err}
use Rattle.y86_base.specs.Text.{lines}
use Rattle.yo_object.specs.ObjectText.{put_line, put_lines, object_of, after_line}
use Rattle.yo_object.specs.declared.object.YoWhy.{YoWhy}

pub text_start : (text : List ℕ) (size : ℕ) → put_lines 1 (replicate size 0) (lines text) ≡ object_of text size
unfolding object_of
text_start text size = refl

pub text_end : (number : ℕ) (memory : List ℕ) (left : List (List ℕ)) → left ≡ [] → put_lines number memory left ≡ Ok memory
unfolding put_lines
text_end number memory left none = rw none refl

pub text_more : (number : ℕ) (memory after line : List ℕ) (left rest : List (List ℕ)) → left ≡ line ∷ rest → put_line memory line ≡ Ok after →
    put_lines number memory left ≡ put_lines (number + 1) after rest
unfolding put_lines
text_more number memory after line left rest first step = rw (first, after_line, step) refl

pub text_fault : (number : ℕ) (memory line : List ℕ) (left rest : List (List ℕ)) (why : YoWhy) → left ≡ line ∷ rest → put_line memory line ≡ Err why →
    put_lines number memory left ≡ Err (record { line = number; why = why })
unfolding put_lines
text_fault number memory line left rest why first step = rw (first, after_line, step) refl
