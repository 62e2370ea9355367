-- The list of tokens, one after another.
use Rattle.std.proofs.Common.{◌≡◌, ℕ, ◌+◌, ◌-◌, ◌<◌, ◌≤◌, ap, sym, ◌∙◌, refl, subst, false, List, [], ◌∷◌, ◌++◌, length, map, arith, append-nil, append_assoc, le_refl}
use Rattle.std.specs.Prelude.{Option, Some, None}
use Rattle.hcl_read.specs.declared.tokens.Token.{Token}
use Rattle.hcl_read.specs.Tokens.{items, skipped, token, front, tokens}
use Rattle.hcl_read.proofs.Items.{ends_shorter, skipped_ends, token_ends, items_ended, items_first}
use Rattle.hcl_faults.specs.declared.kinds.TokenKind.{TokenKind}
use Rattle.hcl_faults.specs.declared.tokens.TokenAt.{TokenAt}
use Rattle.hcl_faults.specs.Kinds.{kind_of}
use Rattle.hcl_faults.specs.Places.{IsNext, behind_token, token_at, token_list}

-- the first token of a rest, after its gap
pub record IsToken (rest here : List ℕ) (t : Token) (behind : List ℕ) : Type 0 where
  pub items_are : items rest ≡ (t, here) ∷ items behind
  pub after : behind_token here ≡ behind
  pub short_here : length here ≤ length rest
  pub shorter : length behind < length here

pub is_token : (rest here : List ℕ) (t : Token) (behind : List ℕ) → here ≡ skipped false rest → front here ≡ Some (t, behind) → IsToken rest here t behind
is_token rest [] t behind gap e = absurd (grind (arith, e))
is_token rest (byte ∷ bytes) t behind gap e =
    let same : token byte bytes ≡ (t, behind) = cc in
    let short_gap : length (byte ∷ bytes) ≤ length rest = subst (λ x. length x ≤ length rest) (sym gap) (ends_shorter rest (skipped false rest) (skipped_ends false rest)) in
    let short_token : length (token byte bytes).1 ≤ length bytes = ends_shorter bytes (token byte bytes).1 (token_ends byte bytes) in
    let short : length (token byte bytes).1 < length (byte ∷ bytes) = omega arith in
    record {
      items_are = items_first rest byte bytes (sym gap) ∙ ap (λ (x : Token × List ℕ). (x.0, byte ∷ bytes) ∷ items x.1) same;
      after = ap (λ (x : Token × List ℕ). x.1) same;
      short_here = short_gap;
      shorter = subst (λ (x : Token × List ℕ). length x.1 < length (byte ∷ bytes)) same short;
    }

pub next_of : (rest here : List ℕ) (t : Token) (behind : List ℕ) → here ≡ skipped false rest → front here ≡ Some (t, behind) → IsNext rest (kind_of t) here behind
next_of rest here t behind gap e =
    let n = is_token rest here t behind gap e in
    record { token = t; kind_is = refl; items_are = n.items_are; after = n.after; short_here = n.short_here; shorter = n.shorter }

pub none_next : (rest here : List ℕ) → here ≡ skipped false rest → here ≡ [] → items rest ≡ []
none_next rest here gap e = items_ended rest (sym gap ∙ e)

-- the loop invariant: the tokens so far, and those of the rest
pub record Listed (text : List ℕ) (list : List TokenAt) (rest : List ℕ) : Type 0 where
  pub within : length rest ≤ length text
  pub same : token_list text ≡ list ++ map (token_at text) (items rest)

pub listed_first : (text : List ℕ) → Listed text [] text
unfolding token_list
listed_first text = record { within = le_refl _; same = refl }

pub listed_end : (text rest : List ℕ) (list : List TokenAt) → Listed text list rest → items rest ≡ [] → list ≡ token_list text
listed_end text rest list l none = sym (l.same ∙ ap (λ some. list ++ map (token_at text) some) none ∙ append-nil list)

pub listed_step : (text rest here behind : List ℕ) (kind : TokenKind) (list : List TokenAt) → Listed text list rest → IsNext rest kind here behind →
    Listed text (list ++ (record { kind = kind; from = length text - length here; to = length text - length behind }) ∷ []) behind
listed_step text rest here behind kind list l n =
    let w = l.within in
    let a = n.short_here in
    let b = n.shorter in
    record {
      within = omega arith;
      same = l.same ∙ ap (λ some. list ++ map (token_at text) some) n.items_are
          ∙ ap (λ x. list ++ ((record { kind = kind_of n.token; from = length text - length here; to = length text - length x }) ∷ map (token_at text) (items behind))) n.after
          ∙ ap (λ k. list ++ ((record { kind = k; from = length text - length here; to = length text - length behind }) ∷ map (token_at text) (items behind))) (sym n.kind_is)
          ∙ sym (append_assoc list _ _);
    }
