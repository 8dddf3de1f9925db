-- What Prepare promises (document 01, "The table"): what it writes is accepted; its answer is determined, and is 3
-- exactly where its tests pass and M takes a non-zero column to zeros.
-- Assumes nothing.
use Prim.Native.Nat.{ℕ}
use mathlib.Core.Path.{◌≡◌, refl, sym, ap, ◌∙◌}
use mathlib.Core.Bool.{Bool, true, false}
use mathlib.Core.Logic.{◌↔◌, ⊎_elim}
use mathlib.Core.List.{List}
use native.Mathlib.Decide.{ℕ_discrete}
use native.Mathlib.Omega.{arith}
use lib.Dec.{eqb}
use lib.ListN.{length}
use Rattle.std.specs.Prelude.{Ok, Err}
use Rattle.lists.specs.Lists.{choose}
use Rattle.field_words.specs.Words.{AllCanonical, first_bad}
use Rattle.field_words.proofs.Laws.{good_all}
use Rattle.matrix.specs.Matrix.{Inverse, Kernel, entry}
use Rattle.matrix.proofs.Dichotomy.{Invertible, dichotomy, not_both}
use Rattle.matrix_inverse.proofs.Inversion.{inverse_only, listed, listed_inverse}
use Rattle.refusals.specs.declared.Refusal.{Refusal}
use Rattle.refusals.specs.declared.Refusal.TheVariants.{TableLength, TableWord, NoInverse}
use Rattle.refusals.specs.declared.Refusal.TheVariants.{WrongInverse, DestinationLength}
use Rattle.table.specs.Table.{raw_words, table_words, raw_matrix, matrix_of, inverse_of, table_test, IsTable}
use Rattle.table.specs.Table.{RawInverse}
use Rattle.table.specs.Table.{prepared, raw_test, Prepares, accepts, no_inverse, refuses}
use Rattle.refusals.proofs.Laws.{not_accepted}
use Rattle.table.proofs.Theorems.{test_complete}
use Rattle.table_prepare.proofs.Prepared as prep
use Rattle.refusals.specs.Answers.{Answer}

-- its tests give no other answers than these
raw_answers : (raw : List ℕ) (room : ℕ) (Q : Answer → Type 0) → Q (Ok tt) → Q (Err TableLength)
    → Q (Err DestinationLength) → ((b : ℕ) → Q (Err (TableWord b))) → Q (raw_test raw room)
unfolding raw_test
raw_answers raw room Q q1 q2 q3 q4 = go (eqb (length raw) raw_words) (eqb room table_words) (eqb (first_bad raw) raw_words)
  where
    go : (x y z : Bool)
        → Q (choose x (choose y (choose z (Ok tt) (Err (TableWord (first_bad raw)))) (Err DestinationLength))
        (Err TableLength))
    go false y z = q2
    go true false z = q3
    go true true false = q4 (first_bad raw)
    go true true true = q1

raw_not_3 : (raw : List ℕ) (room : ℕ) → raw_test raw room ≡ Err NoInverse → ⊥
raw_not_3 raw room =
    raw_answers raw room (λ a. a ≡ Err NoInverse → ⊥) (λ e. let z : ◌≡◌ {A = ℕ} 0 1 = cc in omega arith)
    (λ e. let z : ◌≡◌ {A = ℕ} 0 1 = cc in omega arith) (λ e. let z : ◌≡◌ {A = ℕ} 0 1 = cc in omega arith)
    (λ b e. let z : ◌≡◌ {A = ℕ} 0 1 = cc in omega arith)

raw_not_4 : (raw : List ℕ) (room c : ℕ) → raw_test raw room ≡ Err (WrongInverse c) → ⊥
raw_not_4 raw room c =
    raw_answers raw room (λ a. a ≡ Err (WrongInverse c) → ⊥) (λ e. let z : ◌≡◌ {A = ℕ} 0 1 = cc in omega arith)
    (λ e. let z : ◌≡◌ {A = ℕ} 0 1 = cc in omega arith) (λ e. let z : ◌≡◌ {A = ℕ} 0 1 = cc in omega arith)
    (λ b e. let z : ◌≡◌ {A = ℕ} 0 1 = cc in omega arith)

-- what they let through
pub record RawTable (raw : List ℕ) (room : ℕ) : Type 0 where
  pub size : length raw ≡ raw_words
  pub room_fits : room ≡ table_words
  pub canonical : AllCanonical raw

pub raw_sound : (raw : List ℕ) (room : ℕ) → raw_test raw room ≡ Ok tt → RawTable raw room
raw_sound raw room e = with_size (ℕ_discrete (length raw) raw_words)
  where
    with_words : length raw ≡ raw_words → room ≡ table_words → Dec (first_bad raw ≡ raw_words) → RawTable raw room
    with_words size fits (yes b) = record { size = size; room_fits = fits; canonical = good_all raw (b ∙ sym size) }
    with_words size fits (no b) = absurd (not_accepted _ (sym (prep.wrong_word raw room size fits _ refl b) ∙ e))

    with_room : length raw ≡ raw_words → Dec (room ≡ table_words) → RawTable raw room
    with_room size (yes f) = with_words size f (ℕ_discrete (first_bad raw) raw_words)
    with_room size (no f) = absurd (not_accepted _ (sym (prep.wrong_room raw room size f) ∙ e))

    with_size : Dec (length raw ≡ raw_words) → RawTable raw room
    with_size (yes s) = with_room s (ℕ_discrete room table_words)
    with_size (no s) = absurd (not_accepted _ (sym (prep.wrong_length raw room s) ∙ e))

prepared_table : (raw n : List ℕ) (room : ℕ) → RawTable raw room → RawInverse raw n → IsTable (prepared raw n)
prepared_table raw n room r h =
    record {
      size = prep.length_prepared raw n r.size h.size;
      canonical = prep.prepared_canonical raw n r.size h.size r.canonical h.canonical;
      inverse = inverse;
    }
  where
    inverse : Inverse 12 (entry (matrix_of (prepared raw n))) (entry (inverse_of (prepared raw n)))
    inverse =
        rw (prep.matrix_prepared raw n r.size h.size, prep.inverse_prepared raw n r.size h.size)
        h.inverse

-- a table that Prepare wrote is accepted
pub prepared_accepted : (raw old new : List ℕ) → Prepares raw old (Ok tt) new → table_test new ≡ Ok tt
prepared_accepted raw old new h = go (Ok tt) new h refl
  where
    go : (a : Answer) (s : List ℕ) → Prepares raw old a s → a ≡ Ok tt → table_test s ≡ Ok tt
    go a s (accepts n t i) e =
        test_complete (prepared raw n) (prepared_table raw n (length old) (raw_sound raw (length old) t) i)
    go a s (no_inverse t k) e = absurd (not_accepted _ e)
    go a s (refuses r t) e = absurd (not_accepted _ e)

-- there is an answer for any raw table and destination
pub prepares_some : (raw old : List ℕ) → (a : Answer) × ((s : List ℕ) × Prepares raw old a s)
prepares_some raw old = go (raw_test raw (length old)) refl
  where
    found : raw_test raw (length old) ≡ Ok tt → Invertible 12 (entry (raw_matrix raw))
        → (a : Answer) × ((s : List ℕ) × Prepares raw old a s)
    found e h = (
      (Ok tt),
      (prepared raw (listed h.matrix), accepts (listed h.matrix) e (listed_inverse (raw_matrix raw) h)),
    )

    go : (a : Answer) → raw_test raw (length old) ≡ a → (b : Answer) × ((s : List ℕ) × Prepares raw old b s)
    go (Err r) e = (Err r, (old, refuses r e))
    go (Ok _) e =
        ⊎_elim (found e) (λ (k : Kernel 12 (entry (raw_matrix raw))). (Err NoInverse, (old, no_inverse e k)))
        (dichotomy 12 (entry (raw_matrix raw)))

-- a refusal leaves the destination as it was
pub refused_kept : (raw old new : List ℕ) (r : Refusal) → Prepares raw old (Err r) new → new ≡ old
refused_kept raw old new r h = go (Err r) new h refl
  where
    go : (a : Answer) (s : List ℕ) → Prepares raw old a s → a ≡ Err r → s ≡ old
    go a s (accepts n t i) e = absurd (not_accepted _ (sym e))
    go a s (no_inverse t k) e = refl
    go a s (refuses q t) e = refl

-- answer and content are determined
pub prepares_unique : (raw old : List ℕ) (a b : Answer) (s t : List ℕ) → Prepares raw old a s → Prepares raw old b t
    → (a ≡ b) × (s ≡ t)
prepares_unique raw old a b s t (accepts n e h) (accepts m f g) =
    (refl, ap (prepared raw) (inverse_only (raw_matrix raw) n m h g))
prepares_unique raw old a b s t (accepts n e h) (no_inverse f k) =
    absurd (not_both 12 (entry (raw_matrix raw)) (entry n) h.inverse k)
prepares_unique raw old a b s t (accepts n e h) (refuses r f) = absurd (not_accepted r (sym f ∙ e))
prepares_unique raw old a b s t (no_inverse e k) (accepts n f h) =
    absurd (not_both 12 (entry (raw_matrix raw)) (entry n) h.inverse k)
prepares_unique raw old a b s t (no_inverse e k) (no_inverse f l) = (refl, refl)
prepares_unique raw old a b s t (no_inverse e k) (refuses r f) = absurd (not_accepted r (sym f ∙ e))
prepares_unique raw old a b s t (refuses r e) (accepts n f h) = absurd (not_accepted r (sym e ∙ f))
prepares_unique raw old a b s t (refuses r e) (no_inverse f k) = absurd (not_accepted r (sym e ∙ f))
prepares_unique raw old a b s t (refuses r e) (refuses q f) = (sym e ∙ f, refl)

-- 3 exactly where the tests accept and M takes some non-zero column to all zeros
pub no_inverse_exact : (raw old new : List ℕ) (a : Answer) → Prepares raw old a new
    → (a ≡ Err NoInverse) ↔ ((raw_test raw (length old) ≡ Ok tt) × Kernel 12 (entry (raw_matrix raw)))
no_inverse_exact raw old new a h =
    (to a new h, λ g. (prepares_unique raw old a (Err NoInverse) new old h (no_inverse g.0 g.1)).0)
  where
    to : (b : Answer) (s : List ℕ) → Prepares raw old b s → b ≡ Err NoInverse
        → (raw_test raw (length old) ≡ Ok tt) × Kernel 12 (entry (raw_matrix raw))
    to b s (accepts n t i) e = absurd (not_accepted _ (sym e))
    to b s (no_inverse t k) e = (t, k)
    to b s (refuses r t) e = absurd (raw_not_3 raw (length old) (t ∙ e))

-- which is where it has no inverse
pub none_exactly : (raw : List ℕ) → ((n : List ℕ) → RawInverse raw n → ⊥) ↔ Kernel 12 (entry (raw_matrix raw))
none_exactly raw =
    let m = raw_matrix raw in (
      λ none.
          ⊎_elim (λ (i : Invertible 12 (entry m)). absurd (none (listed i.matrix) (listed_inverse m i)))
          (λ (k : Kernel 12 (entry m)). k) (dichotomy 12 (entry m)),
      λ k n i. not_both 12 (entry m) (entry n) i.inverse k,
    )

-- Prepare never returns 4
pub never_4 : (raw old new : List ℕ) (c : ℕ) → Prepares raw old (Err (WrongInverse c)) new → ⊥
never_4 raw old new c h = go (Err (WrongInverse c)) new h refl
  where
    go : (a : Answer) (s : List ℕ) → Prepares raw old a s → a ≡ Err (WrongInverse c) → ⊥
    go a s (accepts n t i) e = not_accepted _ (sym e)
    go a s (no_inverse t k) e = let z : ◌≡◌ {A = ℕ} 0 1 = cc in omega arith
    go a s (refuses r t) e = raw_not_4 raw (length old) c (t ∙ e)
