-- Drawn control valuations of PIPE: field by field, each number one of those that may follow the earlier ones.
use Rattle.std.specs.Prelude.{ℕ, zero, suc, ◌+◌, ◌-◌, ◌%◌, ◌^◌, ◌≡◌, ◌<◌, Bool, true, false, not, ◌&&◌, ◌||◌, ◌==◌, nat_lt, nat_le, if◌then◌else◌, List, [], ◌∷◌, ◌++◌, length, take, drop, get_or, slice_get, unwrap_or, None, filter}
use Rattle.std.specs.List.{range_with_len}
use Rattle.y86_base.specs.declared.parts.Variant.{Variant}
use Rattle.y86_isa.specs.declared.columns.Row.{Row}
use Rattle.y86_isa.specs.RowTests.{accesses, next_is_branch}
use Rattle.y86_isa.specs.Table.{rows, row, inop, no_register}
use Rattle.net_fields.specs.AllowedNumbers.{icode_allowed, register_field_allowed, register_allowed, shares_register, destination_allowed, cnd_allowed, cnd_allowed_where, zero_unless, stat_allowed}
use Rattle.y86_base.specs.Words.{set}
use Rattle.net_fields.specs.Spelling.{spell}
use Rattle.pipe_fields.specs.Layout.{FetchLine, DecodeLine, ExecuteLine, MemoryLine, WriteLine, Fields, bubble, fields_by, field_specs, field_count, f_first, d_first, e_first, m_first, w_first}
use Rattle.pipe_fields.specs.Allowed.{is_good_aok}
use Rattle.net_fields.specs.FieldSpecs as table
use Rattle.prog_gen.specs.Draws.{lcg_next, lcg_output}

-- ---- what a field may be: for each line a list of tests, in the order of its fields (`fetch_fields` ..), by the row of
-- the line's icode; a test reads no later field

abbrev pub kind_tests : List (ℕ → Bool)
kind_tests = (λ n. nat_lt n 3) ∷ (λ n. nat_lt n 3) ∷ (λ n. nat_lt n 2) ∷ (λ n. nat_lt n 2) ∷ []

abbrev pub fetch_tests : ℕ → Row → FetchLine → List (ℕ → Bool)
fetch_tests count r x =
    (λ n. true)
    ∷ (λ n. if set x.error then n == inop else icode_allowed count n)
    ∷ (λ n. nat_le n r.ifun_top && (not (set x.error) || n == 0))
    ∷ (λ n. cnd_allowed_where (next_is_branch r.next) x.ifun n)
    ∷ (λ n. zero_unless (accesses r.memory) n)
    ∷ (λ n. zero_unless (next_is_branch r.next) n)
    ∷ []

-- status, icode and ifun of what a stage holds; `faulted` allows an icode that may have an error at memory
abbrev pub stat_choice_allowed : ℕ → ℕ → Bool
stat_choice_allowed kind n = if kind == bubble then n == 0 else nat_le 1 n && nat_le n 4

abbrev pub icode_choice_allowed : ℕ → ℕ → Bool → ℕ → ℕ → Bool
icode_choice_allowed count kind faulted stat n = if kind == bubble then n == inop else stat_allowed count faulted stat n

abbrev pub ifun_choice_allowed : Row → ℕ → ℕ → ℕ → Bool
ifun_choice_allowed r kind stat n = if kind == bubble then n == 0 else nat_le n r.ifun_top && (not (stat == 3) || n == 0)

abbrev pub decode_tests : ℕ → Row → DecodeLine → List (ℕ → Bool)
decode_tests count r x =
    (λ n. stat_choice_allowed x.kind n)
    ∷ (λ n. icode_choice_allowed count x.kind false x.stat n)
    ∷ (λ n. ifun_choice_allowed r x.kind x.stat n)
    ∷ (λ n. register_field_allowed r.has_byte r.uses_a n)
    ∷ (λ n. register_field_allowed r.has_byte r.uses_b n)
    ∷ (λ n. cnd_allowed_where (is_good_aok x.kind x.stat && next_is_branch r.next) x.ifun n)
    ∷ (λ n. zero_unless (is_good_aok x.kind x.stat && accesses r.memory) n)
    ∷ (λ n. zero_unless (is_good_aok x.kind x.stat && next_is_branch r.next) n)
    ∷ []

abbrev pub execute_tests : ℕ → Row → ExecuteLine → List (ℕ → Bool)
execute_tests count r x =
    (λ n. stat_choice_allowed x.kind n)
    ∷ (λ n. icode_choice_allowed count x.kind false x.stat n)
    ∷ (λ n. ifun_choice_allowed r x.kind x.stat n)
    ∷ (λ n. register_allowed r.dst_e n)
    ∷ (λ n. register_allowed r.dst_m n)
    ∷ (λ n. register_allowed r.src_a n)
    ∷ (λ n. register_allowed r.src_b n && shares_register r n x.dst_e)
    ∷ (λ n. cnd_allowed x.ifun n)
    ∷ (λ n. zero_unless (is_good_aok x.kind x.stat && accesses r.memory) n)
    ∷ (λ n. zero_unless (is_good_aok x.kind x.stat && next_is_branch r.next) n)
    ∷ []

-- in M a conditional move may have lost its destination if its condition can fail; then the condition has failed
abbrev pub memory_tests : ℕ → Row → MemoryLine → List (ℕ → Bool)
memory_tests count r x =
    (λ n. stat_choice_allowed x.kind n)
    ∷ (λ n. icode_choice_allowed count x.kind false x.stat n)
    ∷ (λ n. ifun_choice_allowed r x.kind x.stat n)
    ∷ (λ n. register_allowed r.dst_e n || (r.conditional && (n == no_register && not (x.ifun == 0))))
    ∷ (λ n. register_allowed r.dst_m n)
    ∷ (λ n. if x.kind == bubble then true else cnd_allowed x.ifun n && destination_allowed r n x.dst_e)
    ∷ (λ n. zero_unless (is_good_aok x.kind x.stat && accesses r.memory) n)
    ∷ (λ n. zero_unless (is_good_aok x.kind x.stat && next_is_branch r.next) n)
    ∷ []

abbrev pub write_tests : Variant → Row → WriteLine → List (ℕ → Bool)
write_tests v r x =
    (λ n. stat_choice_allowed x.kind n)
    ∷ (λ n. icode_choice_allowed (length (rows v)) x.kind (accesses (row v n).memory) x.stat n)
    ∷ (λ n. (r.conditional && n == no_register) || register_allowed r.dst_e n)
    ∷ (λ n. register_allowed r.dst_m n)
    ∷ []

-- the test at a place of a list; behind the list no number passes
abbrev pub test_at : List (ℕ → Bool) → ℕ → ℕ → Bool
test_at tests i = get_or tests i (λ n. false)

-- ---- by the place in the order of the variables: the kinds, then the lines F, D, E, M and W
unfoldable pub choice_allowed : Variant → ℕ → Fields → ℕ → Bool
choice_allowed v j c =
    if nat_lt j f_first then test_at kind_tests j
    else (if nat_lt j d_first then test_at (fetch_tests (length (rows v)) (row v c.f.icode) c.f) (j - f_first)
    else (if nat_lt j e_first then test_at (decode_tests (length (rows v)) (row v c.d.icode) c.d) (j - d_first)
    else (if nat_lt j m_first then test_at (execute_tests (length (rows v)) (row v c.e.icode) c.e) (j - e_first)
    else (if nat_lt j w_first then test_at (memory_tests (length (rows v)) (row v c.m.icode) c.m) (j - m_first)
    else test_at (write_tests v (row v c.w.icode) c.w) (j - w_first)))))

-- the number of bits of the field at a place
abbrev pub width : ℕ → ℕ
width j = (get_or field_specs j (record { bits = 0; name = None })).bits

-- the numbers that may follow others, in rising order
abbrev pub choices : Variant → List ℕ → List ℕ
choices v before = filter (choice_allowed v (length before) (fields_by before)) (range_with_len 0 (2 ^ width (length before)))

-- the one at a position modulo how many there are; 0 if there is none (`law_of_draws`: there is one)
abbrev pub chosen : List ℕ → ℕ → ℕ
chosen some position = unwrap_or (slice_get some (position % length some)) 0

-- bits with those of a number in the place of others
abbrev pub with_field : List Bool → ℕ → ℕ → ℕ → List Bool
with_field out first bits n = take first out ++ (spell bits n ++ drop (first + bits) out)

-- ---- a drawn valuation

-- the given number of fields is drawn after these numbers
unfoldable pub numbers_drawn : Variant → ℕ → List ℕ → ℕ → List ℕ
numbers_drawn v zero before word = before
numbers_drawn v (suc k) before word = numbers_drawn v k (before ++ chosen (choices v before) (lcg_output (lcg_next word)) ∷ []) (lcg_next word)

-- the word after the given number of draws
unfoldable pub word_behind : ℕ → ℕ → ℕ
word_behind zero word = word
word_behind (suc k) word = word_behind k (lcg_next word)

-- the given number of truths is drawn
unfoldable pub truths_drawn : ℕ → ℕ → List Bool
truths_drawn zero word = []
truths_drawn (suc k) word = (lcg_output (lcg_next word) % 2 == 1) ∷ truths_drawn k (lcg_next word)

-- the bits of the valuation that a generator with this word draws, for the given number of atoms
unfoldable pub valuation_from : Variant → ℕ → ℕ → List Bool
valuation_from v atoms word = table.pattern field_specs (numbers_drawn v field_count [] word) (truths_drawn atoms (word_behind field_count word))

-- valuation i of a seed
abbrev pub valuation : Variant → ℕ → ℕ → ℕ → List Bool
valuation v atoms seed i = valuation_from v atoms ((seed + i) % 2 ^ 64)

-- each number is one that may follow those before it
abbrev pub AreChosen : Variant → List ℕ → Type 0
AreChosen v xs = (j : ℕ) → j < length xs → choice_allowed v j (fields_by (take j xs)) (get_or xs j 0) ≡ true
