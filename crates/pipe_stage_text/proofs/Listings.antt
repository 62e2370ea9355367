-- The table of the texts that an object text lists, built line by line.
use Rattle.std.proofs.Common.{◌≡◌, ℕ, Bool, true, false, cond, List, [], ◌∷◌, Option, None, Some, refl, sym, ap, ◌∙◌}
use Rattle.std.specs.Prelude.{Vec, nat_eq, option_and_then}
use Rattle.std.specs.Map.{lookup}
use Rattle.std.specs.Option.{option_map, option_or}
use Rattle.y86_base.specs.Text.{lines}
use Rattle.pipe_stage_text.specs.Listed.{LastLineCounts, NoneIsListed, address_of, listed, listed_in, some_text, text_at, text_in, text_of}

-- ---- a line

-- a line without an address lists nothing
pub lists_nothing : (address : ℕ) (line : List ℕ) → address_of line ≡ None → text_at address line ≡ None
unfolding text_at
lists_nothing address line e = rw e refl

neither : (b : Bool) → ◌≡◌ {A = Option (List ℕ)} (cond b None None) None
neither true = refl
neither false = refl

without_text : (address : ℕ) (found : Option ℕ) → ◌≡◌ {A = Option (List ℕ)} (option_and_then (λ own. cond (nat_eq own address) None None) found) None
without_text address None = refl
without_text address (Some own) = neither (nat_eq own address)

-- nor does one without a text
pub lists_no_text : (address : ℕ) (line : List ℕ) → some_text (text_of line) ≡ None → text_at address line ≡ None
unfolding text_at
lists_no_text address line e = rw e (without_text address (address_of line))

pub lists_text : (address own : ℕ) (line text : List ℕ) → address_of line ≡ Some own → some_text (text_of line) ≡ Some text →
    text_at address line ≡ cond (nat_eq own address) (Some text) None
unfolding text_at
lists_text address own line text e f = rw (e, f) refl

-- ---- the table after a line

or_if : (b : Bool) (text : List ℕ) (before : Option (List ℕ)) → cond b (Some text) before ≡ option_or (cond b (Some text) None) before
or_if true text before = refl
or_if false text before = refl

pub stays : (address : ℕ) (line : List ℕ) (before : Option (List ℕ)) → text_at address line ≡ None → before ≡ option_or (text_at address line) before
stays address line before e = rw e refl

changes : (address own : ℕ) (line text : List ℕ) (before after : Option (List ℕ)) → address_of line ≡ Some own → some_text (text_of line) ≡ Some text →
    after ≡ cond (nat_eq own address) (Some text) before → after ≡ option_or (text_at address line) before
changes address own line text before after e f put = put ∙ or_if (nat_eq own address) text before ∙ ap (λ x. option_or x before) (sym (lists_text address own line text e f))

pub changes_all : (before after : ℕ → Option (List ℕ)) (own : ℕ) (line text : List ℕ) → address_of line ≡ Some own → some_text (text_of line) ≡ Some text →
    ((address : ℕ) → after address ≡ cond (nat_eq own address) (Some text) (before address)) →
    (address : ℕ) → after address ≡ option_or (text_at address line) (before address)
changes_all before after own line text e f put address = changes address own line text (before address) (after address) e f (put address)

module _ {A : Type 0} where
  items_if : (b : Bool) (text : Vec ℕ A) (before : Option (Vec ℕ A)) →
      option_map (λ (x : Vec ℕ A). x.items) (cond b (Some text) before) ≡ cond b (Some text.items) (option_map (λ (x : Vec ℕ A). x.items) before)
  items_if true text before = refl
  items_if false text before = refl

  -- after an entry was put
  pub put_one : (before after : List (ℕ × Vec ℕ A)) (own : ℕ) (copy : Vec ℕ A) (text : List ℕ) →
      ((address : ℕ) → lookup (nat_eq address) after ≡ cond (nat_eq own address) (Some copy) (lookup (nat_eq address) before)) → copy.items ≡ text →
      (address : ℕ) → text_in after address ≡ cond (nat_eq own address) (Some text) (text_in before address)
  unfolding text_in
  put_one before after own copy text put is address =
      ap (option_map (λ (x : Vec ℕ A). x.items)) (put address)
      ∙ items_if (nat_eq own address) copy (lookup (nat_eq address) before)
      ∙ ap (λ t. cond (nat_eq own address) (Some t) (text_in before address)) is

  pub none_in : (entries : List (ℕ × Vec ℕ A)) → entries ≡ [] → (address : ℕ) → text_in entries address ≡ None
  unfolding text_in
  none_in entries e address = rw e refl

-- ---- all lines

or_none : (x : Option (List ℕ)) → option_or x None ≡ x
or_none None = refl
or_none (Some text) = refl

or_or : (x y z : Option (List ℕ)) → option_or x (option_or y z) ≡ option_or (option_or x y) z
or_or None y z = refl
or_or (Some text) y z = refl

listed_more : (address : ℕ) (line : List ℕ) (rest : List (List ℕ)) → listed_in address (line ∷ rest) ≡ option_or (listed_in address rest) (text_at address line)
unfolding listed_in
listed_more address line rest = refl

listed_none : (address : ℕ) → listed_in address [] ≡ None
unfolding listed_in
listed_none address = refl

-- what the rest of an object text lists, or else what was listed before it, is all that is listed
pub record Over (rest : List ℕ) (before all : ℕ → Option (List ℕ)) : Type 0 where
  pub told : (address : ℕ) → option_or (listed_in address (lines rest)) (before address) ≡ all address

pub over_begins : (object : List ℕ) (before : ℕ → Option (List ℕ)) → ((address : ℕ) → before address ≡ None) → Over object before (listed object)
over_begins object before none =
    record { told = λ address. ap (option_or (listed_in address (lines object))) (none address) ∙ or_none (listed_in address (lines object)) }

pub over_more : (rest line behind : List ℕ) (before after all : ℕ → Option (List ℕ)) → lines rest ≡ line ∷ lines behind →
    ((address : ℕ) → after address ≡ option_or (text_at address line) (before address)) → Over rest before all → Over behind after all
over_more rest line behind before after all parts put over =
    record {
      told = λ address. ap (option_or (listed_in address (lines behind))) (put address)
          ∙ or_or (listed_in address (lines behind)) (text_at address line) (before address)
          ∙ ap (λ x. option_or x (before address)) (sym (listed_more address line (lines behind)))
          ∙ ap (λ ls. option_or (listed_in address ls) (before address)) (sym parts)
          ∙ over.told address;
    }

pub over_ends : (rest : List ℕ) (before all : ℕ → Option (List ℕ)) → rest ≡ [] → Over rest before all → (address : ℕ) → before address ≡ all address
over_ends rest before all none over address =
    ap (λ x. option_or x (before address)) (sym (listed_none address))
    ∙ ap (λ (text : List ℕ). option_or (listed_in address (lines text)) (before address)) (sym none)
    ∙ over.told address

-- ---- which line it is

pub none_is_listed : NoneIsListed
unfolding listed_in
none_is_listed address [] none = refl
none_is_listed address (line ∷ rest) none = rw (none_is_listed address rest none.1) none.0

pub last_line_counts : LastLineCounts
unfolding listed_in
last_line_counts address [] after line text lists none = rw (none_is_listed address after none) lists
last_line_counts address (first ∷ before) after line text lists none = rw (last_line_counts address before after line text lists none) refl
