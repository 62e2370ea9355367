-- The assembler reads a line with a content exactly if the language has it with this content.
use Rattle.std.proofs.Common.{◌≡◌, ap, subst, ◌∙◌, ℕ, Bool, true, false, cond, List, [], ◌∷◌, Option, Some, None, refl}
use Rattle.std.proofs.lemmas.Option.{none-some, same_Some}
use Rattle.y86_base.specs.declared.parts.Variant.{Variant}
use Rattle.yas_asm.specs.declared.statement.Statement.{Statement}
use Rattle.yas_asm.specs.declared.statement.Statement.TheVariants as statements
use Rattle.yas_asm.specs.declared.statement.Parsed.{Parsed}
use Rattle.yas_asm.specs.Comments.{ends}
use Rattle.yas_asm.specs.Grammar as grammar
use Rattle.yas_asm.specs.Grammar.{◌>>=◌}
use Rattle.yas_asm.specs.Tokens as readers
use Rattle.yas_asm.proofs.SoundGrammar.{then_some}
use Rattle.yas_language.specs.Tokens.{Token, word, colon, HasTokens, IsEnd}
use Rattle.yas_language.specs.Statements.{IsStatement, IsLine, nothing, alone, label, labelled}
use Rattle.yas_language.specs.Language.{IsLineOfLanguage, ReadsTheLanguage}
use Rattle.yas_language.proofs.Comments.{end_found, end_read}
use Rattle.yas_language.proofs.Found.{statement_found}
use Rattle.yas_language.proofs.Read.{end_no_label, label_read, no_label, statement_not_end, statement_read}
use Rattle.yas_language.proofs.Readers.{sign_found, word_found}

-- an optional statement
data IsBody (v : Variant) : List Token → Statement → Type 0 where
  empty : IsBody v [] statements.Nothing
  full : (ts : List Token) (s : Statement) → IsStatement v ts s → IsBody v ts s

body_found : (v : Variant) (text : List ℕ) (s : Statement) → grammar.last_statement v text ≡ Some s → (ts : List Token) × HasTokens text ts × IsBody v ts s
unfolding grammar.last_statement
body_found v text s e = by (ends text) refl e
  where
    kept : (x : Statement × List ℕ) (b : Bool) → ends x.1 ≡ b → grammar.statement v text ≡ Some x → cond b (Some x.0) None ≡ Some s → (ts : List Token) × HasTokens text ts × IsBody v ts s
    kept x true p q e =
        let f = statement_found v text x q (end_found x.1 p) in
        subst (λ s. (ts : List Token) × HasTokens text ts × IsBody v ts s) (same_Some _ _ e) (f.0, f.1, full f.0 x.0 f.2)
    kept x false p q e = absurd (none-some _ e)

    by : (b : Bool) → ends text ≡ b → cond b (Some statements.Nothing) (grammar.statement v text >>= (λ x. cond (ends x.1) (Some x.0) None)) ≡ Some s
        → (ts : List Token) × HasTokens text ts × IsBody v ts s
    by true p e = subst (λ s. (ts : List Token) × HasTokens text ts × IsBody v ts s) (same_Some _ _ e) ([], end_found text p, empty)
    by false p e = let x = then_some (grammar.statement v text) (λ x. cond (ends x.1) (Some x.0) None) s e in kept x.0 (ends x.0.1) refl x.1 x.2

plain_line : (v : Variant) (ts : List Token) (s : Statement) → IsBody v ts s → IsLine v ts (record { label = None; statement = s })
plain_line v _ _ empty = nothing
plain_line v _ _ (full ts s h) = alone ts s h

labelled_line : (v : Variant) (name : List ℕ) (ts : List Token) (s : Statement) → IsBody v ts s → IsLine v (word name ∷ colon ∷ ts) (record { label = Some name; statement = s })
labelled_line v name _ _ empty = label name
labelled_line v name _ _ (full ts s h) = labelled name ts s h

line_found : (v : Variant) (text : List ℕ) (parsed : Parsed) → grammar.line v text ≡ Some parsed → IsLineOfLanguage v text parsed
unfolding grammar.line grammar.label
line_found v text parsed e =
    let s = then_some (grammar.last_statement v (grammar.label_from text (readers.name text)).1) _ parsed e in
    subst (IsLineOfLanguage v text) (same_Some _ _ s.2) (by (readers.name text) refl s.0 (body_found v (grammar.label_from text (readers.name text)).1 s.0 s.1))
  where
    at : (name : List ℕ × List ℕ) (o : Option (List ℕ)) → readers.name text ≡ Some name → readers.sign 58 name.1 ≡ o → (s : Statement)
        → ((ts : List Token) × HasTokens (grammar.label_with text name.0 o).1 ts × IsBody v ts s) → IsLineOfLanguage v text (record { label = (grammar.label_with text name.0 o).0; statement = s })
    at name None p q s b = record { tokens = b.0; has = b.1; line_is = plain_line v b.0 s b.2 }
    at name (Some rest) p q s b = record {
      tokens = word name.0 ∷ colon ∷ b.0;
      has = (name.1, word_found text name.0 name.1 p, (rest, sign_found 58 name.1 rest refl q, b.1));
      line_is = labelled_line v name.0 b.0 s b.2;
    }

    by : (n : Option (List ℕ × List ℕ)) → readers.name text ≡ n → (s : Statement)
        → ((ts : List Token) × HasTokens (grammar.label_from text n).1 ts × IsBody v ts s) → IsLineOfLanguage v text (record { label = (grammar.label_from text n).0; statement = s })
    by None p s b = record { tokens = b.0; has = b.1; line_is = plain_line v b.0 s b.2 }
    by (Some name) p s b = at name (readers.sign 58 name.1) p refl s b

body_read : (v : Variant) (ts : List Token) (s : Statement) → IsStatement v ts s → (text : List ℕ) → HasTokens text ts → grammar.last_statement v text ≡ Some s
unfolding grammar.last_statement
body_read v ts s i text h =
    let r = statement_read v ts s i text h in
    ap (λ b. cond b (Some statements.Nothing) (grammar.statement v text >>= (λ x. cond (ends x.1) (Some x.0) None))) (statement_not_end v ts s i text h)
    ∙ ap (λ o. o >>= (λ x. cond (ends x.1) (Some x.0) None)) r.1 ∙ ap (λ b. cond b (Some s) None) (end_read r.0 r.2)

empty_read : (v : Variant) (text : List ℕ) → IsEnd text → grammar.last_statement v text ≡ Some statements.Nothing
unfolding grammar.last_statement
empty_read v text end = ap (λ b. cond b (Some statements.Nothing) (grammar.statement v text >>= (λ x. cond (ends x.1) (Some x.0) None))) (end_read text end)

abbrev said : Option (List ℕ) → Statement → Parsed
said name s = record { label = name; statement = s }

-- a line from its label and its statement
line_of : (v : Variant) (text : List ℕ) (name : Option (List ℕ)) (rest : List ℕ) (s : Statement) → grammar.label text ≡ (name, rest) → grammar.last_statement v rest ≡ Some s
    → grammar.line v text ≡ Some (record { label = name; statement = s })
unfolding grammar.line
line_of v text name rest s e h =
    ap (λ (p : Option (List ℕ) × List ℕ). grammar.last_statement v p.1 >>= (λ s. Some (said p.0 s))) e
    ∙ ap (λ o. o >>= (λ s. Some (said name s))) h

line_read : (v : Variant) (ts : List Token) (parsed : Parsed) → IsLine v ts parsed → (text : List ℕ) → HasTokens text ts → grammar.line v text ≡ Some parsed
line_read v _ _ nothing text h = line_of v text None text statements.Nothing (end_no_label text h) (empty_read v text h)
line_read v _ _ (alone ts s i) text h = line_of v text None text s (no_label v ts s i text h) (body_read v ts s i text h)
line_read v _ _ (label name) text h = line_of v text (Some name) h.2.0 statements.Nothing (label_read name [] text h) (empty_read v h.2.0 h.2.2)
line_read v _ _ (labelled name ts s i) text h = line_of v text (Some name) h.2.0 s (label_read name ts text h) (body_read v ts s i h.2.0 h.2.2)

pub reads_the_language : ReadsTheLanguage
reads_the_language v text parsed = (line_found v text parsed, λ says. line_read v says.tokens parsed says.line_is text says.has)
