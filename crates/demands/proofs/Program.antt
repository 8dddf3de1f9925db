-- The program: from what its answers mean (crate `clear_answer`, proofs/Theorems.antt), where the tests of Prepare
-- and of Unpack end (crate `call_answers`, proofs/Endings), and what reads back from a line (crate `clear_line`,
-- proofs/Lines.antt).
-- Assumes nothing.
use mathlib.Core.Path.{◌≡◌, refl, sym, ap, ◌∙◌, subst}
use mathlib.Core.Bool.{false}
use mathlib.Core.List.{List, [], ◌∷◌}
use mathlib.Core.Logic.{◌↔◌}
use Prim.Native.Nat.{ℕ, ◌+◌, ◌*◌, ◌-◌, ◌/◌, ◌^◌, ◌<◌}
use native.Mathlib.Omega.{arith}
use lib.Dec.{eqb, lit<}
use lib.ListN.{length}
use Rattle.std.specs.Prelude.{Ok, Err}
use Rattle.lists.specs.Lists.{choose}
use Rattle.lists.proofs.Tab.{length_tab}
use Rattle.table.specs.Table.{raw_words}
use Rattle.refusals.specs.Refusals.{told, row_of, constraint_of, value_of}
use Rattle.refusals.specs.declared.Refusal.{Refusal}
use Rattle.refusals.specs.declared.Refusal.TheVariants.{TableLength, TableWord, NoInverse, Constraint, FileLength}
use Rattle.refusals.specs.declared.Refusal.TheVariants.{WrongKind, WrongValue}
use Rattle.refusals.specs.declared.Particulars.{Particulars}
use Rattle.refusals.proofs.Laws.{value_refused, ends_refusal}
use Rattle.board.specs.Board.{batches_in, unpack_test, unpack_answer}
use Rattle.clear_answer.specs.declared.Unclear.TheVariants.{Refused, TooLong}
use Rattle.clear_answer.specs.Clearing.{Outcome, raw_word, raw_in, file_in, unprepared, Clears, IsUnlike, InputFault}
use Rattle.clear_answer.specs.Clearing.{no_table}
use Rattle.clear_answer.specs.Clearing.{table_fault, file_fault, other_claim}
use Rattle.clear_answer.proofs.Theorems as clearing
use Rattle.clear_answer.proofs.Theorems.{Means, means_cleared, means_fault, means_long}
use Rattle.clear_line.specs.Line.{ascii, fields, line, numbers_of, text_of}
use Rattle.clear_line.proofs.Lines as lines
use Rattle.clear_line.proofs.Lines.{read, numbers_in, Fit, line_reads_back}
use Rattle.call_answers.proofs.Endings.Prepare.{prepare_ends}
use Rattle.call_answers.proofs.Endings.Unpack.{unpack_ends}
use Rattle.demands.specs.Demand1.{OneOf}
use Rattle.demands.specs.Program.{Program}
use Rattle.demands.proofs.Demand1.Numbers.{one_of}
use Rattle.demands.proofs.OneNumber as one
use Rattle.demands.proofs.ProgramDays.{zero_day, other_day}

-- ---- what is true of every refusal that the program answers

-- 11, for word j of the claim
abbrev eleven : ℕ → ℕ → Refusal
eleven k j = Constraint (record { 0 = 32 * k - 1 }) (49 + j) (372 * k - 3 + j)

module _ (input : List ℕ) (Q : Refusal → Type 0) (q1 : length input < 3168 → Q TableLength)
    (q2 : (i : ℕ) → i < raw_words → Q (TableWord i)) (q3 : Q NoInverse) (q12 : Q FileLength)
    (q13 : (i : ℕ) → i < 2 ^ 22 → Q (WrongKind i)) (q14 : (i : ℕ) → i < 2 ^ 22 → Q (WrongValue i))
    (q11 : (k j : ℕ) → IsUnlike input k j → Q (eleven k j)) where
  raw_length : length (raw_in input) ≡ raw_words
  unfolding raw_in
  raw_length = length_tab raw_words (raw_word input)

  few : (i : ℕ) → i < 36 * batches_in (file_in input) + 25 → i < 2 ^ 22
  unfolding batches_in
  few i h = omega arith

  fault_ends : (r : Refusal) → InputFault input r → Q r
  unfolding unpack_answer
  fault_ends r (no_table l e) = subst Q (sym e) (q1 l)
  fault_ends r (table_fault l h p) =
      prepare_ends Q (raw_in input) unprepared (λ n. absurd (n raw_length)) (λ n. absurd (n refl)) q2 q3 unprepared
      (Err r) p
  fault_ends r (file_fault l h T p e) =
      let file = file_in input in
      let room = 12 * batches_in file + 4 in
      ends_refusal Q (unpack_test file room) r
      (unpack_ends Q file
      (record { by_length = q12; by_kind = λ i b. q13 i (few i b); by_value = λ i b. q14 i (few i b) }) room
      (λ n. absurd (n refl)))
      (value_refused (unpack_test file room) _ r e)
  fault_ends r (other_claim k j u e) = subst Q (sym e) (q11 k j u)

-- ---- the numbers of its refusals
module _ (input : List ℕ) (o : Outcome) (c : Clears input o) where
  refuses_only : (r : Refusal) → o ≡ Err (Refused r) → OneOf (1 ∷ 2 ∷ 3 ∷ 12 ∷ 13 ∷ 14 ∷ 11 ∷ []) r
  refuses_only r e =
      let ns : List ℕ = 1 ∷ 2 ∷ 3 ∷ 12 ∷ 13 ∷ 14 ∷ 11 ∷ [] in
      fault_ends input (OneOf ns) (λ l. one_of 1 ns refl) (λ i h. one_of 2 ns refl) (one_of 3 ns refl)
      (one_of 12 ns refl) (λ i h. one_of 13 ns refl) (λ i h. one_of 14 ns refl) (λ k j u. one_of 11 ns refl) r
      ((clearing.refuses_exactly input o c r).0 e)

  abbrev Of1 : Refusal → Type 0
  Of1 = one.Of 1 (length input < 3168)

  other : (r : Refusal) → eqb (told r).number 1 ≡ false → Of1 r
  other = one.other 1 (length input < 3168)

  one_exactly : (o ≡ Err (Refused TableLength)) ↔ (length input < 3168)
  one_exactly = (
    λ e. fault_ends input Of1 (λ l n. l) (λ i h. other (TableWord i) refl) (other NoInverse refl)
        (other FileLength refl) (λ i h. other (WrongKind i) refl) (λ i h. other (WrongValue i) refl)
        (λ k j u z. absurd (omega arith)) TableLength ((clearing.refuses_exactly input o c TableLength).0 e) refl,
    λ l. (clearing.refuses_exactly input o c TableLength).1 (no_table l refl),
  )

  -- what is told of an 11
  abbrev Told11 : Particulars → Type 0
  Told11 p =
      (k : ℕ) × (j : ℕ) × IsUnlike input k j
      × (row_of p.place ≡ 32 * k - 1) × (constraint_of p.place ≡ 49 + j) × (value_of p.place ≡ 372 * k - 3 + j)

  unlike_refused : (i q n : ℕ) → let r = Constraint (record { 0 = i }) q n in (o ≡ Err (Refused r)) ↔ Told11 (told r)
  unlike_refused i q n = (
    λ e. fault_ends input (λ r. (told r).number ≡ 11 → Told11 (told r)) (λ l z. absurd (omega arith))
        (λ i h z. absurd (omega arith)) (λ z. absurd (omega arith)) (λ z. absurd (omega arith))
        (λ i h z. absurd (omega arith)) (λ i h z. absurd (omega arith)) (λ k j u z. (k, j, u, refl, refl, refl))
        (Constraint (record { 0 = i }) q n) ((clearing.refuses_exactly input o c _).0 e) refl,
    from,
  )
    where
      from : Told11 (told (Constraint (record { 0 = i }) q n)) → o ≡ Err (Refused (Constraint (record { 0 = i }) q n))
      from (k, j, u, at, number, place) =
          (clearing.refuses_exactly input o c _).1 (other_claim k j u (rw (at, number, place) refl))

-- ---- the line, read back to the answer
abbrev refusal_in : List ℕ → Refusal
refusal_in [] = TableLength
refusal_in (n ∷ []) = choose (eqb n 1) TableLength (choose (eqb n 3) NoInverse FileLength)
refusal_in (n ∷ i ∷ []) = choose (eqb n 2) (TableWord i) (choose (eqb n 13) (WrongKind i) (WrongValue i))
refusal_in (n ∷ i ∷ q ∷ s) = Constraint (record { 0 = i }) q (372 * ((i + 1) / 32) - 3 + (q - 49))

abbrev accepted_in : List ℕ → Outcome
accepted_in [] = Err TooLong
accepted_in (k ∷ []) = Err TooLong
accepted_in (k ∷ tests ∷ s) = Ok (record { batches = k; tests = tests })

-- the first number stands for the word
answer_in : List ℕ → Outcome
unfolding read
answer_in [] = Err TooLong
answer_in (n ∷ s) =
    choose (eqb n (read 0 (ascii "accepted"))) (accepted_in s)
    (choose (eqb n (read 0 (ascii "refused"))) (Err (Refused (refusal_in s))) (Err TooLong))

abbrev IsRead : Refusal → Type 0
IsRead r = Fit (numbers_of (told r)) × (refusal_in (numbers_of (told r)) ≡ r)

fault_read : (input : List ℕ) (r : Refusal) → InputFault input r → IsRead r
fault_read input =
    fault_ends input IsRead (λ l. ((lit< tt, tt), refl)) (λ i h. ((lit< tt, (omega arith, tt)), refl))
    ((lit< tt, tt), refl) ((lit< tt, tt), refl) (λ i h. ((lit< tt, (omega arith, tt)), refl))
    (λ i h. ((lit< tt, (omega arith, tt)), refl)) claimed
  where
    claimed : (k j : ℕ) → IsUnlike input k j → IsRead (eleven k j)
    claimed k j u =
        let most = clearing.at_most_16 input u.table k u.accepted in
        let least = u.accepted.board.permitted.low in
        let count : 372 * ((32 * k - 1 + 1) / 32) - 3 + (49 + j - 49) ≡ 372 * k - 3 + j = omega arith in (
          (lit< tt, (omega arith, (omega (arith, u.word), tt))),
          ap (Constraint (record { 0 = 32 * k - 1 }) (49 + j)) count,
        )

line_read : (input : List ℕ) (o : Outcome) → Means input o → answer_in (numbers_in 0 (text_of o)) ≡ o
unfolding read numbers_in fields line text_of answer_in
line_read input o (means_cleared k s) =
    let most = clearing.at_most_16 input s.table k s.accepted in
    ap answer_in (line_reads_back (ascii "accepted") (k ∷ 372 * k ∷ []) refl (omega arith, (omega arith, tt)))
line_read input o (means_fault r f) =
    let s = fault_read input r f in
    ap answer_in (line_reads_back (ascii "refused") (numbers_of (told r)) refl s.0) ∙ ap (λ q. Err (Refused q)) s.1
line_read input o (means_long l) = refl

line_tells : (input other : List ℕ) (a b : Outcome) → Clears input a → Clears other b → text_of a ≡ text_of b → a ≡ b
line_tells input other a b c d e =
    sym (line_read input a (clearing.clears_means input a c))
    ∙ ap (λ s. answer_in (numbers_in 0 s)) e
    ∙ line_read other b (clearing.clears_means other b d)

pub program : Program
program = record {
  answers = clearing.clears_some;
  answers_once = clearing.clears_unique;
  accepts_exactly = λ input o k tests c. clearing.accepts_exactly input o c k tests;
  at_most_16 = clearing.at_most_16;
  checks_built = clearing.checks_built;
  refuses_exactly = λ input o r c. clearing.refuses_exactly input o c r;
  refuses_only = λ input r c. refuses_only input (Err (Refused r)) c r refl;
  one_exactly = one_exactly;
  unlike_refused = λ input o i q n c. unlike_refused input o c i q n;
  long_exactly = clearing.long_exactly;
  line_tells = line_tells;
  accepted_line = lines.accepted_line;
  alone_line = lines.alone_line;
  index_line = lines.index_line;
  refused_line = lines.refused_line;
  long_line = lines.long_line;
  zero_day = zero_day;
  other_day = other_day;
}
