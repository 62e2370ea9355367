-- A watched run has exactly one outcome.
use Rattle.std.proofs.Common.{◌≡◌, ◌≢◌, ◌⊎◌, inl, inr, ℕ, ◌+◌, ◌-◌, ◌<◌, ◌≤◌, Bool, true, false, List, length, Option, refl, sym, ap, ◌∙◌, subst, arith}
use Rattle.std.proofs.lemmas.Bool.{cases_lt, false≢true}
use Rattle.yis_pure_runs.proofs.Near.{apart_near}
use Rattle.yis_pure_runs.specs.Near.{NearPure}
use Rattle.y86_base.specs.declared.parts.Stat.TheVariants.{Aok}
use Rattle.y86_base.specs.declared.parts.Variant.{Variant}
use Rattle.std.proofs.lemmas.Option.{same_Some}
use Rattle.y86_isa.proofs.Runs.{is_aok-from_not, run_stays, records_stay}
use Rattle.y86_isa.specs.Machine.{is_aok}
use Rattle.y86_isa.specs.Run.{records, run}
use Rattle.y86_isa.specs.Step.{retired}
use Rattle.y86_isa.specs.declared.machine.Machine.{Machine}
use Rattle.y86_isa.specs.declared.machine.Rec.{Rec}
use Rattle.y86_isa.specs.declared.machine.Store.{Store}
use Rattle.program_check.specs.Near.{IsApart, IsFirstNear, IsWatched, StoredApart, StoredInto}
use Rattle.program_check.specs.declared.recent.NearFetch.{NearFetch}
use Rattle.program_check.specs.declared.watching.Watched.{Watched}
use Rattle.program_check.specs.declared.watching.Watched.TheVariants.{Apart, Meets}

-- a program with such a fetch isn't nearly pure for more steps
pub not_near : (v : Variant) (image : List ℕ) (f : NearFetch) → IsFirstNear v image f → (k : ℕ) → f.steps < k → NearPure v image k → ⊥
not_near v image f is k lt pure =
    let i = is.into in
    i.meets (apart_near v image k pure f.steps (f.steps - f.distance) i.by i.word lt (omega (arith, is.some, is.inside)) (omega (arith, is.at_most)) is.goes_on i.told_by i.stored)

not_both : (v : Variant) (m : Machine) (told : Option Rec) (storer store : ℕ) → StoredApart v m told → StoredInto v m told storer store → ⊥
not_both v m told storer store apart into = into.meets (apart into.by into.word into.told_by into.stored)

same_into : (v : Variant) (m : Machine) (told : Option Rec) (a b c d : ℕ) → StoredInto v m told a b → StoredInto v m told c d → (a ≡ c) × (b ≡ d)
same_into v m told a b c d x y =
    let rec : x.by ≡ y.by = same_Some x.by y.by (sym x.told_by ∙ y.told_by) in
    let word : x.word ≡ y.word = same_Some x.word y.word (sym x.stored ∙ (ap (λ (r : Rec). r.store) rec ∙ y.stored)) in
    (x.storer_is ∙ (ap (λ (r : Rec). r.pc) rec ∙ sym y.storer_is), x.store_is ∙ (ap (λ (s : Store). s.addr) word ∙ sym y.store_is))

same_fields : (f g : NearFetch) → f.steps ≡ g.steps → f.pc ≡ g.pc → f.distance ≡ g.distance → f.storer ≡ g.storer → f.store ≡ g.store → f ≡ g
same_fields f g a b c d e =
    let same : record { steps = f.steps; pc = f.pc; distance = f.distance; storer = f.storer; store = f.store }
    ≡ record { steps = g.steps; pc = g.pc; distance = g.distance; storer = g.storer; store = g.store } = rw (a, b, c, d, e) refl in
    same

-- no step after the nearest stored into the instruction
not_nearer : (v : Variant) (image : List ℕ) (n d e a b : ℕ) → d < e → 1 ≤ d → d ≤ n → StoredInto v (run v image n) (retired v (run v image (n - d))) a b →
    ((j : ℕ) → n < j + e → j < n → StoredApart v (run v image n) (retired v (run v image j))) → ⊥
not_nearer v image n d e a b lt some inside into apart =
    not_both v (run v image n) (retired v (run v image (n - d))) a b (apart (n - d) (omega (arith, lt, inside)) (omega (arith, some, inside))) into

same_first : (v : Variant) (image : List ℕ) (f g : NearFetch) → IsFirstNear v image f → IsFirstNear v image g → f ≡ g
same_first v image f g x y =
    let steps = the_steps (cases_lt f.steps g.steps) (cases_lt g.steps f.steps) in
    let distance = the_distance steps (cases_lt f.distance g.distance) (cases_lt g.distance f.distance) in
    let into = same_into v (run v image g.steps) (retired v (run v image (g.steps - g.distance))) f.storer f.store g.storer g.store (moved steps distance) y.into in
    same_fields f g steps (x.pc ∙ (ap (λ k. (run v image k).pc) steps ∙ sym y.pc)) distance into.0 into.1
  where
    the_steps : (f.steps < g.steps) ⊎ (g.steps ≤ f.steps) → (g.steps < f.steps) ⊎ (f.steps ≤ g.steps) → f.steps ≡ g.steps
    the_steps (inl lt) o = absurd (not_near v image f x g.steps lt y.earlier)
    the_steps (inr le) (inl lt) = absurd (not_near v image g y f.steps lt x.earlier)
    the_steps (inr le) (inr ge) = omega (arith, le, ge)

    f_nearest : f.steps ≡ g.steps → (j : ℕ) → g.steps < j + f.distance → j < g.steps → StoredApart v (run v image g.steps) (retired v (run v image j))
    f_nearest e j a b = subst (λ k. StoredApart v (run v image k) (retired v (run v image j))) e (x.nearest j (omega (arith, e, a)) (omega (arith, e, b)))

    f_into : f.steps ≡ g.steps → StoredInto v (run v image g.steps) (retired v (run v image (g.steps - f.distance))) f.storer f.store
    f_into e = subst (λ k. StoredInto v (run v image k) (retired v (run v image (k - f.distance))) f.storer f.store) e x.into

    the_distance : f.steps ≡ g.steps → (f.distance < g.distance) ⊎ (g.distance ≤ f.distance) → (g.distance < f.distance) ⊎ (f.distance ≤ g.distance) → f.distance ≡ g.distance
    the_distance e (inl lt) o =
        absurd (not_nearer v image g.steps f.distance g.distance f.storer f.store lt x.some (omega (arith, x.inside, e)) (f_into e) y.nearest)
    the_distance e (inr le) (inl lt) =
        absurd (not_nearer v image g.steps g.distance f.distance g.storer g.store lt y.some y.inside y.into (f_nearest e))
    the_distance e (inr le) (inr ge) = omega (arith, le, ge)

    moved : f.steps ≡ g.steps → f.distance ≡ g.distance → StoredInto v (run v image g.steps) (retired v (run v image (g.steps - g.distance))) f.storer f.store
    moved e d = subst (λ k. StoredInto v (run v image g.steps) (retired v (run v image (g.steps - k))) f.storer f.store) d (f_into e)

-- ---- a program that stops, or doesn't by the limit
off : (v : Variant) (image : List ℕ) (limit steps : ℕ) → IsApart v image limit steps true → is_aok (run v image steps).stat ≡ false
off v image limit steps is = is_aok-from_not (run v image steps).stat (is.end.0 refl)

still_off : (v : Variant) (image : List ℕ) (limit steps more : ℕ) → IsApart v image limit steps true → steps ≤ more → (run v image more).stat ≢ Aok
still_off v image limit steps more is le e =
    let sum : steps + (more - steps) ≡ more = omega (arith, le) in
    let same : run v image more ≡ run v image steps = ap (run v image) (sym sum) ∙ run_stays v image steps (more - steps) (off v image limit steps is) in
    is.end.0 refl (sym (ap (λ (m : Machine). m.stat) same) ∙ e)

not_apart : (v : Variant) (image : List ℕ) (limit steps : ℕ) (stopped : Bool) (f : NearFetch) → IsApart v image limit steps stopped → f.steps < limit → IsFirstNear v image f → ⊥
not_apart v image limit steps true f is lt first = not_near v image f first (f.steps + 1) (omega arith) (is.near_on refl (f.steps + 1))
not_apart v image limit steps false f is lt first = not_near v image f first steps (omega (arith, lt, is.whole refl)) is.near

not_later : (v : Variant) (image : List ℕ) (limit s t : ℕ) (b : Bool) → IsApart v image limit s true → IsApart v image limit t b → s < t → ⊥
not_later v image limit s t b x y lt =
    let sum : s + (t - s) ≡ t = omega (arith, lt) in
    let same : length (records v image t) ≡ length (records v image s) = ap (λ k. length (records v image k)) (sym sum) ∙ ap length (records_stay v image s (t - s) (off v image limit s x)) in
    omega (arith, same, x.count, y.count, lt)

same_apart : (v : Variant) (image : List ℕ) (limit s t : ℕ) (b c : Bool) → IsApart v image limit s b → IsApart v image limit t c → Apart s b ≡ Apart t c
same_apart v image limit s t true true x y = by (cases_lt s t) (cases_lt t s)
  where
    by : (s < t) ⊎ (t ≤ s) → (t < s) ⊎ (s ≤ t) → Apart s true ≡ Apart t true
    by (inl lt) o = absurd (not_later v image limit s t true x y lt)
    by (inr le) (inl lt) = absurd (not_later v image limit t s true y x lt)
    by (inr le) (inr ge) = let e : s ≡ t = omega (arith, le, ge) in ap (λ k. Apart k true) e
same_apart v image limit s t true false x y =
    absurd (false≢true (y.end.1 (still_off v image limit s t x (omega (arith, x.within, y.whole refl)))))
same_apart v image limit s t false true x y =
    absurd (false≢true (x.end.1 (still_off v image limit t s y (omega (arith, y.within, x.whole refl)))))
same_apart v image limit s t false false x y = let e : s ≡ t = omega (arith, x.whole refl, y.whole refl) in ap (λ k. Apart k false) e

pub one_outcome : (v : Variant) (image : List ℕ) (limit : ℕ) (a b : Watched) → IsWatched v image limit a → IsWatched v image limit b → a ≡ b
one_outcome v image limit (Apart s b) (Apart t c) x y = same_apart v image limit s t b c x y
one_outcome v image limit (Apart s b) (Meets f) x y = absurd (not_apart v image limit s b f x y.0 y.1)
one_outcome v image limit (Meets f) (Apart s b) x y = absurd (not_apart v image limit s b f y x.0 x.1)
one_outcome v image limit (Meets f) (Meets g) x y = ap Meets (same_first v image f g x.1 y.1)
