-- Request 1 (document 02, U1, and U6 for c): a tap corrected at the cash desk. The lent trace becomes that of the
-- altered list, and the output of its first 3c + 1 taps is returned; earlier rows keep their cells; the trace is that
-- of a fresh build, and with c = k the output too. The same of the call.
-- Assumes nothing.
use Rattle.std.specs.Prelude.{◌≡◌, List, ◌↔◌, ℕ, ◌*◌, ◌≤◌, ◌<◌, length, Ok, Err}
use Rattle.field_words.specs.Words.{AllCanonical, IsFirstBad}
use Rattle.numbers.specs.Numbers.{tap_words, trace_words, IsPermitted, trace_word_batches}
use Rattle.refusals.specs.Refusals.{told}
use Rattle.refusals.specs.declared.Refusal.{Refusal}
use Rattle.refusals.specs.declared.Refusal.TheVariants.{TapWord, NoSuchTap}
use Rattle.table.specs.Table.{table_test}
use Rattle.hash.specs.Hash.{chain, first_taps, tap}
use Rattle.trace.specs.Trace.{trace, row}
use Rattle.trace.specs.Answers.{build_answer, build_leaves}
use Rattle.check_trace.specs.Answers.{check_answer}
use Rattle.trace_read_off.specs.Answers.{read_off_answer, read_off_leaves}
use Rattle.check_exact.specs.Exact.{IsListFor}
use Rattle.trace_rewrite.specs.Edit.{altered, first_touched}
use Rattle.trace_edit.specs.Answers.{edit_answer, edit_leaves}
use Rattle.call_results.specs.Code.{Says}
use Rattle.call_answers.specs.Calls.{EditCall}

-- what is promised of an accepted edit of tap n to new: t is the lent trace, of k batches, t' what it is afterwards, d
-- the output that is returned, w the list that t stands for
pub record Edited (T t claim : List ℕ) (c n : ℕ) (new t' d : List ℕ) (k : ℕ) (w : List ℕ) : Type 0 where
  pub permitted : IsPermitted k
  pub claimed : (1 ≤ c) × (c ≤ k)
  pub size : length t ≡ trace_words k
  -- the one list of demand 3
  pub stands_for : IsListFor T t claim c k w
  pub no_other : (u : List ℕ) → IsListFor T t claim c k u → u ≡ w
  -- the trace is that of the altered list, and the output of its first 3c + 1 taps is returned
  pub trace_is : t' ≡ trace T (altered w n new) k
  pub output_is : d ≡ (chain T (first_taps c (altered w n new)) c)
  -- a fresh build of the altered list writes the same, and where c = k it returns the same
  pub as_built : (old : List ℕ) → length old ≡ trace_words k
      → (build_answer T (altered w n new) (length old) ≡ Ok (chain T (altered w n new) k))
      × (build_leaves T (altered w n new) old ≡ t')
  pub as_returned : (old : List ℕ) → length old ≡ trace_words k → c ≡ k
      → build_answer T (altered w n new) (length old) ≡ Ok d
  -- under that output and the same c the checker accepts it, and reading off yields the altered list
  pub checks : check_answer T t' d c ≡ Ok (372 * k)
  pub reads_off : (room : List ℕ) → length room ≡ tap_words k
      → (read_off_answer T t' d c (length room) ≡ Ok (372 * k))
      × (read_off_leaves T t' d c room ≡ altered w n new)
  -- earlier rows keep their cells, and where the new tap differs from the old the first row touched does change
  pub earlier_rows : (i : ℕ) → i < first_touched n → row t' i ≡ row t i
  pub touches : (new ≡ tap w n → ⊥) → row t' (first_touched n) ≡ row t (first_touched n) → ⊥
  -- a tap that the claim is not about leaves the output equal to the claim
  pub after_claim : 3 * c < n → d ≡ claim
  -- where it does not differ, nothing changes, and the claim is returned
  pub same_tap : new ≡ tap w n → (t' ≡ t) × (d ≡ claim)

-- an accepted table, a trace of k batches, k permitted, and c from 1 to k: what 1, 2, 4, 7 and 17 let pass
pub record InRange (T t : List ℕ) (c k : ℕ) : Type 0 where
  pub table : table_test T ≡ Ok tt
  pub permitted : IsPermitted k
  pub size : length t ≡ trace_words k
  pub claimed : (1 ≤ c) × (c ≤ k)

-- there is no such tap
abbrev pub IsAbove : List ℕ → List ℕ → ℕ → ℕ → Type 0
IsAbove T t c n = (k : ℕ) × InRange T t c k × (3 * k < n)

-- there is, claim and trace are canonical, and word i of the new tap is its lowest that is not
abbrev pub IsBadTap : List ℕ → List ℕ → List ℕ → ℕ → ℕ → List ℕ → ℕ → Type 0
IsBadTap T t claim c n new i =
    (k : ℕ) × InRange T t c k × (n ≤ 3 * k) × AllCanonical claim × AllCanonical t × IsFirstBad new i

pub record Request1 : Type 0 where
  -- an edit is accepted exactly when the checker accepts the trace and tap number and new tap are in range
  pub accepts_exactly : (T t claim : List ℕ) (c n : ℕ) (new : List ℕ)
      → ((d : List ℕ) × (edit_answer T t claim c n new ≡ Ok d))
      ↔ (((m : ℕ) × (check_answer T t claim c ≡ Ok m))
      × (n ≤ 3 * trace_word_batches (length t)) × AllCanonical new)
  -- for every table, trace, claim of four words, c, tap number and new tap
  pub edits : (T t claim : List ℕ) (c n : ℕ) (new d : List ℕ) → length claim ≡ 4 → length new ≡ 4
      → edit_answer T t claim c n new ≡ Ok d
      → (k : ℕ) × (w : List ℕ) × Edited T t claim c n new (edit_leaves T t claim c n new) d k w
  -- 15 exactly where the tap number is above 3k, after 1, 2, 4, 7 and 17
  pub fifteen_exactly : (T t claim : List ℕ) (c n : ℕ) (new : List ℕ)
      → (edit_answer T t claim c n new ≡ Err NoSuchTap) ↔ IsAbove T t c n
  -- 6 exactly where all before it passes, with the lowest index of a word of the new tap that is not canonical
  pub six_exactly : (T t claim : List ℕ) (c n : ℕ) (new : List ℕ) (i : ℕ)
      → (edit_answer T t claim c n new ≡ Err (TapWord i)) ↔ IsBadTap T t claim c n new i
  -- a refusal alters nothing
  pub keeps : (T t claim : List ℕ) (c n : ℕ) (new : List ℕ) (r : Refusal) → edit_answer T t claim c n new ≡ Err r
      → edit_leaves T t claim c n new ≡ t
  -- ---- from another language, with `'` on what a buffer holds afterwards: a call that returns 0 had room for the
  -- output, and is such an edit, of the one list
  pub call_accepts_exactly : (T t claim : List ℕ) (c n : ℕ) (new t' output output' : List ℕ) (code : ℕ)
      → length claim ≡ 4 → length new ≡ 4 → EditCall T t claim c n new code t' output output'
      → (code ≡ 0)
      ↔ ((length output ≡ 4) × ((m : ℕ) × (check_answer T t claim c ≡ Ok m))
      × (n ≤ 3 * trace_word_batches (length t)) × AllCanonical new)
  pub call_edits : (T t claim : List ℕ) (c n : ℕ) (new t' output output' : List ℕ) → length claim ≡ 4 → length new ≡ 4
      → EditCall T t claim c n new 0 t' output output'
      → (k : ℕ) × (w : List ℕ) × (d : List ℕ) × Edited T t claim c n new t' d k w × (output' ≡ d)
  -- and its word says 15 and 6 where Edit does; 8 comes between them
  pub call_15 : (T t claim : List ℕ) (c n : ℕ) (new t' output output' : List ℕ) (code : ℕ) → length claim ≡ 4
      → length new ≡ 4 → EditCall T t claim c n new code t' output output'
      → Says code (told NoSuchTap) ↔ IsAbove T t c n
  pub call_6 : (T t claim : List ℕ) (c n : ℕ) (new t' output output' : List ℕ) (code i : ℕ) → length claim ≡ 4
      → length new ≡ 4 → EditCall T t claim c n new code t' output output'
      → Says code (told (TapWord i)) ↔ ((length output ≡ 4) × IsBadTap T t claim c n new i)
