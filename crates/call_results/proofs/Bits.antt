-- The parts of a code: each is read back where it is within its bits, and so is every refusal whose values are; no code
-- tells two refusals.
-- Assumes nothing.
use mathlib.Core.Path.{◌≡◌, refl, sym, ap, subst, ◌∙◌}
use mathlib.Core.Bool.{false}
use mathlib.Core.Logic.{◌↔◌}
use Prim.Native.Nat.{ℕ, ◌^◌, ◌<◌}
use native.Mathlib.Omega.{arith}
use borrow.Author.Tests.{eqb-false}
use lib.Dec.{eqb, lit<}
use Rattle.std.specs.Prelude.{List, Ok, Err}
use Rattle.lists.specs.Lists.{choose}
use Rattle.refusals.specs.Refusals.{told, indexed, row_of, constraint_of, value_of}
use Rattle.refusals.specs.declared.Particulars.{Particulars}
use Rattle.refusals.specs.declared.Refusal.{Refusal}
use Rattle.refusals.specs.declared.Refusal.TheVariants.{TableLength, TableWord, NoInverse, WrongInverse, TapLength}
use Rattle.refusals.specs.declared.Refusal.TheVariants.{TapWord, TraceLength, DestinationLength, ClaimWord, TraceWord}
use Rattle.refusals.specs.declared.Refusal.TheVariants.{Constraint, FileLength, WrongKind, WrongValue, NoSuchTap}
use Rattle.refusals.specs.declared.Refusal.TheVariants.{NoPair, ClaimBatches, LongElement, SameEdition}
use Rattle.refusals.specs.Answers.{Answer, with_value}
use Rattle.refusals.proofs.Laws.{not_accepted, refused_same, AnswerEnds}
use Rattle.call_results.specs.Code.{code, particulars_code, refusal_code, answer_code, words_code, tests_code}
use Rattle.call_results.specs.Code.{number_in, constraint_in, row_in, value_in, Says}

-- ---- what is told, within the bits
pub record InBits (p : Particulars) : Type 0 where
  pub number : p.number < 2 ^ 6
  pub constraint : constraint_of p.place < 2 ^ 6
  pub row : row_of p.place < 2 ^ 24
  pub value : value_of p.place < 2 ^ 28

-- a refusal of which that is told
abbrev pub RefusalInBits : Refusal → Type 0
RefusalInBits r = InBits (told r)

pub says : (p : Particulars) → InBits p → Says (particulars_code p) p
unfolding particulars_code code
says p h = record {
  number = omega (arith, h.number, h.constraint, h.row, h.value);
  constraint = omega (arith, h.number, h.constraint, h.row, h.value);
  row = omega (arith, h.number, h.constraint, h.row, h.value);
  value = omega (arith, h.number, h.constraint, h.row, h.value);
}

-- acceptance, with the tests where they are counted
pub says_accepted : (n : ℕ) → n < 2 ^ 28 → Says (code 0 0 0 n) (indexed 0 n)
unfolding particulars_code
says_accepted n h = says (indexed 0 n) (record { number = lit< tt; constraint = lit< tt; row = lit< tt; value = h })

-- no refusal has number 0, so that a call which returns 0 has accepted
numbered : (r : Refusal) → eqb (told r).number 0 ≡ false
numbered TableLength = refl
numbered (TableWord i) = refl
numbered NoInverse = refl
numbered (WrongInverse i) = refl
numbered TapLength = refl
numbered (TapWord i) = refl
numbered TraceLength = refl
numbered DestinationLength = refl
numbered (ClaimWord i) = refl
numbered (TraceWord i) = refl
numbered (Constraint row constraint tests) = refl
numbered FileLength = refl
numbered (WrongKind i) = refl
numbered (WrongValue i) = refl
numbered NoSuchTap = refl
numbered NoPair = refl
numbered ClaimBatches = refl
numbered (LongElement i) = refl
numbered SameEdition = refl

pub some_number : (r : Refusal) → (told r).number ≡ 0 → ⊥
some_number r = eqb-false (told r).number 0 (numbered r)

refusal_some : (r : Refusal) → RefusalInBits r → refusal_code r ≡ 0 → ⊥
refusal_some r b e = some_number r (sym (says (told r) b).number ∙ ap number_in e)

pub zero_accepts : (t : Answer) → AnswerEnds RefusalInBits t → answer_code t ≡ 0 → t ≡ Ok tt
unfolding answer_code
zero_accepts (Ok _) b e = refl
zero_accepts (Err r) b e = absurd (refusal_some r b e)

pub zero_returns : (t : Answer) (d : List ℕ) → AnswerEnds RefusalInBits t → words_code (with_value t d) ≡ 0
    → t ≡ Ok tt
unfolding words_code
zero_returns (Ok _) d b e = refl
zero_returns (Err r) d b e = absurd (refusal_some r b e)

-- ---- a code tells one refusal

-- the refusal that has this number, with its values; 1 for a number that no refusal has
abbrev refusal_of : ℕ → ℕ → ℕ → ℕ → Refusal
refusal_of number constraint row value =
    choose (eqb number 2) (TableWord value)
    (choose (eqb number 3) NoInverse
    (choose (eqb number 4) (WrongInverse value)
    (choose (eqb number 5) TapLength
    (choose (eqb number 6) (TapWord value)
    (choose (eqb number 7) TraceLength
    (choose (eqb number 8) DestinationLength
    (choose (eqb number 9) (ClaimWord value)
    (choose (eqb number 10) (TraceWord value)
    (choose (eqb number 11) (Constraint (record { 0 = row }) constraint value)
    (choose (eqb number 12) FileLength
    (choose (eqb number 13) (WrongKind value)
    (choose (eqb number 14) (WrongValue value)
    (choose (eqb number 15) NoSuchTap
    (choose (eqb number 16) NoPair
    (choose (eqb number 17) ClaimBatches
    (choose (eqb number 18) (LongElement value)
    (choose (eqb number 19) SameEdition TableLength)))))))))))))))))

of_told : (r : Refusal)
    → refusal_of (told r).number (constraint_of (told r).place) (row_of (told r).place) (value_of (told r).place) ≡ r
of_told TableLength = refl
of_told (TableWord i) = refl
of_told NoInverse = refl
of_told (WrongInverse i) = refl
of_told TapLength = refl
of_told (TapWord i) = refl
of_told TraceLength = refl
of_told DestinationLength = refl
of_told (ClaimWord i) = refl
of_told (TraceWord i) = refl
of_told (Constraint row constraint tests) = refl
of_told FileLength = refl
of_told (WrongKind i) = refl
of_told (WrongValue i) = refl
of_told NoSuchTap = refl
of_told NoPair = refl
of_told ClaimBatches = refl
of_told (LongElement i) = refl
of_told SameEdition = refl

module _ (c : ℕ) where
  told_by : (r : Refusal) → Says c (told r) → refusal_of (number_in c) (constraint_in c) (row_in c) (value_in c) ≡ r
  told_by r h = rw (h.number, h.constraint, h.row, h.value) (of_told r)

  pub tells_one : (r s : Refusal) → Says c (told r) → Says c (told s) → r ≡ s
  tells_one r s h g = sym (told_by r h) ∙ told_by s g

  -- and none where it tells acceptance
  pub tells_apart : (n : ℕ) (r : Refusal) → Says c (indexed 0 n) → Says c (told r) → ⊥
  tells_apart n r h g = some_number r (sym g.number ∙ h.number)

-- so the code of an answer within the bits tells a refusal exactly where it is that one, and number 0 exactly where it
-- is acceptance
pub told_exactly : (t : Answer) (n c : ℕ) (r : Refusal) → c ≡ tests_code (with_value t n)
    → AnswerEnds RefusalInBits t → (t ≡ Ok tt → n < 2 ^ 28) → Says c (told r) ↔ (t ≡ Err r)
unfolding tests_code
told_exactly (Ok _) n c r e b l = (
  λ s. absurd (tells_apart c n r (rw e (says_accepted n (l refl))) s),
  λ a. absurd (not_accepted r (sym a)),
)
told_exactly (Err q) n c r e b l =
    let said : Says c (told q) = rw e (says (told q) b) in
    (λ s. ap Err (tells_one c q r said s), λ a. subst (λ x. Says c (told x)) (refused_same a) said)

pub accepted_exactly : (t : Answer) (n c : ℕ) → c ≡ tests_code (with_value t n)
    → AnswerEnds RefusalInBits t → (t ≡ Ok tt → n < 2 ^ 28) → (number_in c ≡ 0) ↔ (t ≡ Ok tt)
unfolding tests_code
accepted_exactly (Ok _) n c e b l =
    let said : Says c (indexed 0 n) = rw e (says_accepted n (l refl)) in
    (λ z. refl, λ a. said.number)
accepted_exactly (Err q) n c e b l =
    let said : Says c (told q) = rw e (says (told q) b) in
    (λ z. absurd (some_number q (sym said.number ∙ z)), λ a. absurd (not_accepted q a))
