-- Where a signal's value comes from, as far as a definition picks it by name (CS:APP 3e, section 4.5.5: Sel+Fwd A, Fwd
-- B and Select PC): each of f_pc, d_valA and d_valB is mostly a case list of names.
use Rattle.std.specs.Prelude.{◌≡◌, ℕ, ◌-◌, if◌then◌else◌, List, [], ◌∷◌, codes, slice_get, Option, Some, None, option_and_then}
use Rattle.std.specs.Option.{option_map_or}
use Rattle.hcl_tree.specs.declared.tree.CmpOp.{CmpOp}
use Rattle.hcl_types.specs.Terms.{Interpretation, value, word_meaning}
use Rattle.hcl_types.specs.declared.table.Row.{Row}
use Rattle.hcl_types.specs.declared.term.Term.{Term}
use Rattle.hcl_types.specs.declared.term.Term.TheVariants.{Num, Name, Not, And, Or, Cmp, In, Case}
use Rattle.hcl_types.specs.declared.term.TermBranch.{TermBranch}
use Rattle.y86_base.specs.declared.parts.Variant.{Variant}
use Rattle.dp_signals.specs.PipeEquations.{Solves}
use Rattle.dp_signals.specs.PipeNames as row
use Rattle.dp_signals.specs.declared.pipe_state.PipeState.{PipeState}
use Rattle.pipe_stage_text.specs.declared.picked.SourceNames as code

-- a word, and the name by which it was picked, if any
pub record NamedWord : Type 0 where
  pub word : ℕ
  pub name : Option ℕ

abbrev pub unnamed : ℕ → NamedWord
unnamed n = record { word = n; name = None }

-- numbers and truths have no name
abbrev pub picks : Interpretation NamedWord
picks = record {
  num = λ n. unnamed (word_meaning.num n);
  bool = λ b. unnamed (word_meaning.bool b);
  holds = λ x. word_meaning.holds x.word;
  cmp = λ op x y. word_meaning.cmp op x.word y.word;
}

-- a name picks itself
abbrev pub by_name : (ℕ → ℕ) → ℕ → NamedWord
by_name f id = record { word = f id; name = Some id }

-- the name that a term picks; f has the values of names. A name picks itself, a case list picks what the value of its
-- first branch whose guard holds picks, and anything else picks nothing (`law_of_picks`)
unfoldable pub picked_name : (ℕ → ℕ) → Term → Option ℕ
picked_name f t = (value picks (by_name f) t).name

-- ---- the same, term by term; and the picked name has the term's value

pub record PicksByTerms (f : ℕ → ℕ) : Type 0 where
  pub names : (id : ℕ) → picked_name f (Name id) ≡ Some id
  pub no_branches : picked_name f (Case []) ≡ None
  pub branches : (b : TermBranch) (bs : List TermBranch) →
      picked_name f (Case (b ∷ bs)) ≡ (if word_meaning.holds (value word_meaning f b.guard) then picked_name f b.value else picked_name f (Case bs))
  pub numbers : (n : ℕ) → picked_name f (Num n) ≡ None
  pub negations : (t : Term) → picked_name f (Not t) ≡ None
  pub conjunctions : (ts : List Term) → picked_name f (And ts) ≡ None
  pub disjunctions : (ts : List Term) → picked_name f (Or ts) ≡ None
  pub comparisons : (op : CmpOp) (t u : Term) → picked_name f (Cmp op t u) ≡ None
  pub memberships : (t : Term) (ts : List Term) → picked_name f (In t ts) ≡ None

abbrev pub PicksTheValue : Type 0
PicksTheValue = (f : ℕ → ℕ) (t : Term) (id : ℕ) → picked_name f t ≡ Some id → value word_meaning f t ≡ f id

-- ---- the picked names of a cycle, as they are printed

-- the name that the definition of a row picks, if the file has one; `first` is the first row that a file defines
abbrev pub name_picked : ℕ → List Term → (ℕ → ℕ) → ℕ → Option ℕ
name_picked first terms f id = option_and_then (picked_name f) (slice_get terms (id - first))

-- where f_pc, d_valA and d_valB come from, as it is printed
pub record SourceNames : Type 0 where
  pub pc : List ℕ
  pub val_a : List ℕ
  pub val_b : List ℕ

-- the name of a row, and `-` if there is none
abbrev pub name_text : List Row → Option ℕ → List ℕ
name_text rows None = codes "-"
name_text rows (Some id) = option_map_or (λ (it : Row). it.name) (slice_get rows id) (codes "-")

abbrev pub source : ℕ → List Row → List Term → (ℕ → ℕ) → ℕ → List ℕ
source first rows terms f id = name_text rows (name_picked first terms f id)

unfoldable pub sources : List Row → List Term → (ℕ → ℕ) → SourceNames
sources rows terms f =
    record {
      pc = source row.f_pc rows terms f row.f_pc;
      val_a = source row.f_pc rows terms f row.d_valA;
      val_b = source row.f_pc rows terms f row.d_valB;
    }

abbrev pub sources_in : code.SourceNames → SourceNames
sources_in s = record { pc = s.pc.now; val_a = s.val_a.now; val_b = s.val_b.now }

-- in a cycle of the machine a signal has the value of the row that its definition picks
abbrev pub HasItsSource : ℕ → Type 0
HasItsSource signal =
    (v : Variant) (terms : List Term) (p : PipeState) (f : ℕ → ℕ) (id : ℕ) → Solves v terms p f → name_picked row.f_pc terms f signal ≡ Some id → f signal ≡ f id
