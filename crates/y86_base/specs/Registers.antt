-- The register file as a list of 15 numbers. Number 15 means no register (CS:APP 3e, figure 4.4).
use Rattle.std.specs.Prelude.{ℕ, List, [], ◌∷◌, codes, map, slice_index, slice_index_or, slice_set, nat_lt, if◌then◌else◌}

-- the word of a register, by its number; 0 for a number over 14
unfoldable pub register : List ℕ → ℕ → ℕ
register registers number = if nat_lt number 15 then slice_index registers number else 0

-- the registers with a word written to one of them; a number over 14 writes nothing
unfoldable pub with_register : List ℕ → ℕ → ℕ → List ℕ
with_register registers number word = if nat_lt number 15 then slice_set registers number word else registers

-- the names of the registers with their numbers, in order of number (CS:APP 3e, figure 4.4)
unfoldable pub register_names : List (List ℕ × ℕ)
register_names =
    (codes "%rax", 0) ∷ (codes "%rcx", 1) ∷ (codes "%rdx", 2) ∷ (codes "%rbx", 3) ∷ (codes "%rsp", 4) ∷ (codes "%rbp", 5)
    ∷ (codes "%rsi", 6) ∷ (codes "%rdi", 7) ∷ (codes "%r8", 8) ∷ (codes "%r9", 9) ∷ (codes "%r10", 10) ∷ (codes "%r11", 11)
    ∷ (codes "%r12", 12) ∷ (codes "%r13", 13) ∷ (codes "%r14", 14) ∷ []

-- the name of a register; a number over 14 has none
unfoldable pub register_name : ℕ → List ℕ
register_name number = slice_index_or (map (λ row. row.0) register_names) number []
