-- What the test of a file's edition says where it accepts, and what it is refused for.
-- Assumes nothing.
use mathlib.Core.Path.{◌≡◌, refl, sym, ap, ◌∙◌}
use mathlib.Core.List.{List}
use Prim.Native.Nat.{ℕ, ◌≤◌, ◌<◌}
use native.Mathlib.Decide.{dec_lt, ℕ_discrete}
use native.Mathlib.Omega.{arith}
use borrow.Author.Tests.{eq-eqb, ne_eqb, eqb-true, le-leb, lt-leb, leb-true}
use lib.ListN.{length}
use Rattle.std.specs.Prelude.{Ok, Err}
use Rattle.refusals.specs.Answers.{Answer}
use Rattle.refusals.specs.declared.Refusal.{Refusal}
use Rattle.refusals.specs.declared.Refusal.TheVariants.{FileLength, WrongKind, SameEdition}
use Rattle.refusals.proofs.Laws.{not_accepted, refused_same, passed}
use Rattle.board_words.specs.Words.{kind_of, word_at}
use Rattle.board_short.specs.ShortBoard.{mark_in}
use Rattle.board_edition.specs.Edition.{full_mark, short_mark, edition_test, HasMark}

-- there are two marks
pub not_full : (w : ℕ) → (mark_in w ≡ full_mark → ⊥) → mark_in w ≡ short_mark
not_full w n = omega (arith, n)

pub not_short : (w : ℕ) → (mark_in w ≡ short_mark → ⊥) → mark_in w ≡ full_mark
not_short w n = omega (arith, n)

-- what the test by a mark answered is the definition's of the edition that has it
pub tested : (file : List ℕ) {mark m : ℕ} {a b : Answer} → a ≡ edition_test file m → m ≡ mark → a ≡ b
    → edition_test file mark ≡ b
tested file e f q = sym (ap (edition_test file) f) ∙ sym e ∙ q

-- ---- it accepts exactly the files with the mark
pub accepted : (file : List ℕ) (mark : ℕ) → edition_test file mark ≡ Ok tt → HasMark file mark
unfolding edition_test
accepted file mark e =
    let a = passed _ _ _ e in
    let b = passed _ _ _ a.1 in
    let c = passed _ _ _ b.1 in
    record { four = leb-true _ _ a.0; kind = eqb-true _ _ b.0; mark_is = eqb-true _ _ c.0 }

pub accepts : (file : List ℕ) (mark : ℕ) → HasMark file mark → edition_test file mark ≡ Ok tt
unfolding edition_test
accepts file mark h = rw (le-leb _ _ h.four, eq-eqb _ _ h.kind, eq-eqb _ _ h.mark_is)

-- ---- and refuses any other
pub data EditionFault (file : List ℕ) (mark : ℕ) (r : Refusal) : Type 0 where
  no_count : length file < 4 → r ≡ FileLength → EditionFault file mark r
  count_kind : 4 ≤ length file → (kind_of (word_at file 0) ≡ 0 → ⊥) → r ≡ WrongKind 0 → EditionFault file mark r
  other_mark : 4 ≤ length file → kind_of (word_at file 0) ≡ 0 → (mark_in (word_at file 0) ≡ mark → ⊥) → r ≡ SameEdition
      → EditionFault file mark r

pub fault_refused : (file : List ℕ) (mark : ℕ) (r : Refusal) → EditionFault file mark r
    → edition_test file mark ≡ Err r
unfolding edition_test
fault_refused file mark r (no_count h e) = rw (lt-leb _ _ h, e)
fault_refused file mark r (count_kind h n e) = rw (le-leb _ _ h, ne_eqb _ _ n, e)
fault_refused file mark r (other_mark h z n e) = rw (le-leb _ _ h, eq-eqb _ _ z, ne_eqb _ _ n, e)

pub faulty : (file : List ℕ) (mark : ℕ) (r : Refusal) → edition_test file mark ≡ Err r → EditionFault file mark r
faulty file mark r e = counted (dec_lt (length file) 4)
  where
    same : (s : Refusal) → EditionFault file mark s → r ≡ s
    same s f = refused_same (sym e ∙ fault_refused file mark s f)

    marked : 4 ≤ length file → kind_of (word_at file 0) ≡ 0 → Dec (mark_in (word_at file 0) ≡ mark)
        → EditionFault file mark r
    marked h z (yes m) =
        absurd (not_accepted r (sym e ∙ accepts file mark (record { four = h; kind = z; mark_is = m })))
    marked h z (no n) = other_mark h z n (same SameEdition (other_mark h z n refl))

    kinded : 4 ≤ length file → Dec (kind_of (word_at file 0) ≡ 0) → EditionFault file mark r
    kinded h (yes z) = marked h z (ℕ_discrete (mark_in (word_at file 0)) mark)
    kinded h (no n) = count_kind h n (same (WrongKind 0) (count_kind h n refl))

    counted : Dec (length file < 4) → EditionFault file mark r
    counted (yes h) = no_count h (same FileLength (no_count h refl))
    counted (no h) = kinded (omega arith) (ℕ_discrete (kind_of (word_at file 0)) 0)
