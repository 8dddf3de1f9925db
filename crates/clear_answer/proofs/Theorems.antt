-- What the program promises (document 01, "The board file"): every input has one answer, `accepted` and `refused` mean
-- what they say.
-- Assumes nothing.
use mathlib.Core.Path.{◌≡◌, refl, sym, ap, ap₂, ◌∙◌, subst}
use mathlib.Core.Logic.{◌↔◌, ◌⊎◌, inl, inr}
use mathlib.Core.List.{List}
use Prim.Native.Nat.{ℕ, ◌+◌, ◌*◌, ◌≤◌, ◌<◌}
use native.Mathlib.Decide.{dec_lt}
use native.Mathlib.Omega.{arith}
use lib.ListN.{length, length-drop}
use Rattle.std.specs.Prelude.{Ok, Err}
use Rattle.field_words.specs.Words.{AllCanonical}
use Rattle.numbers.specs.Numbers.{trace_words, tap_word_batches}
use Rattle.refusals.specs.Answers.{Answer, with_value, leaves}
use Rattle.refusals.specs.declared.Refusal.{Refusal}
use Rattle.refusals.specs.declared.Refusal.TheVariants.{TableLength}
use Rattle.refusals.proofs.Laws.{not_accepted, value_refused}
use Rattle.table.specs.Table.{Prepares}
use Rattle.table_prepare.proofs.Theorems.{prepares_some, prepares_unique}
use Rattle.hash.specs.Hash.{chain}
use Rattle.trace.specs.Answers.{build_leaves}
use Rattle.check_trace.specs.Answers.{check_answer}
use Rattle.board.specs.Board.{batches_in, claim_in, taps_in, unpack_test, unpack_answer, unpack_leaves}
use Rattle.board.proofs.Answers.{unpack_refuses, returned}
use Rattle.board.proofs.Round.{board_canonical}
use Rattle.board.proofs.Theorems.{accepted_board}
use Rattle.clear_answer.specs.declared.Report.{Report}
use Rattle.clear_answer.specs.declared.Unclear.TheVariants.{Refused, TooLong}
use Rattle.clear_answer.specs.Clearing.{table_bytes, longest, raw_in, file_in, checked_taps, cleared, unprepared}
use Rattle.clear_answer.specs.Clearing.{Outcome, outcome_of, reported, Clears, short, long, turned_back, judged}
use Rattle.clear_answer.specs.Clearing.{IsJudged, IsCleared, IsUnlike}
use Rattle.clear_answer.specs.Clearing.{InputFault, no_table, table_fault, file_fault, other_claim}
use Rattle.clear_answer.proofs.BuiltTraces.{FirstUnlike}
use Rattle.clear_answer.proofs.JudgedFiles.{judged_answer, judged_table, chains_or_unlike, chains_answer}
use Rattle.clear_answer.proofs.JudgedFiles.{unlike_answer, file_refused_answer, judged_cases}
use Rattle.clear_answer.proofs.Stages.{constraints_left, batches_are, file_taps, table_turned_back}

-- ---- every input has one answer and no other
pub clears_some : (input : List ℕ) → (o : Outcome) × Clears input o
clears_some input = go (dec_lt (length input) table_bytes) (dec_lt longest (length input))
  where
    prepared : (a : Answer) (T : List ℕ) → table_bytes ≤ length input → length input ≤ longest
        → Prepares (raw_in input) unprepared a T → (o : Outcome) × Clears input o
    prepared (Ok _) T low high p = (outcome_of (cleared T (file_in input)), judged low high T p)
    prepared (Err r) T low high p =
        (Err (Refused r), table_turned_back input unprepared T (Err r) low high refl p r refl)

    go : Dec (length input < table_bytes) → Dec (longest < length input) → (o : Outcome) × Clears input o
    go (yes l) h = (_, short l)
    go (no l) (yes h) = (Err TooLong, long h)
    go (no l) (no h) =
        let p = prepares_some (raw_in input) unprepared in
        prepared p.0 p.1.0 (omega arith) (omega arith) p.1.1

-- one raw table is prepared in one way
one_way : (input S T : List ℕ) (a b : Answer) → Prepares (raw_in input) unprepared a S
    → Prepares (raw_in input) unprepared b T → (a ≡ b) × (S ≡ T)
one_way input S T a b = prepares_unique (raw_in input) unprepared a b S T

pub clears_unique : (input : List ℕ) (a b : Outcome) → Clears input a → Clears input b → a ≡ b
clears_unique input a b (short l) (short m) = refl
clears_unique input a b (short l) (long m) = absurd (omega arith)
clears_unique input a b (short l) (turned_back m n r p) = absurd (omega arith)
clears_unique input a b (short l) (judged m n T p) = absurd (omega arith)
clears_unique input a b (long l) (short m) = absurd (omega arith)
clears_unique input a b (long l) (long m) = refl
clears_unique input a b (long l) (turned_back m n r p) = absurd (omega arith)
clears_unique input a b (long l) (judged m n T p) = absurd (omega arith)
clears_unique input a b (turned_back l h s q) (short m) = absurd (omega arith)
clears_unique input a b (turned_back l h s q) (long m) = absurd (omega arith)
clears_unique input a b (turned_back l h s q) (turned_back m n r p) =
    let e = (one_way input unprepared unprepared (Err s) (Err r) q p).0 in
    let same : s ≡ r = cc in
    ap (λ q. Err (Refused q)) same
clears_unique input a b (turned_back l h s q) (judged m n T p) =
    absurd (not_accepted s (one_way input unprepared T (Err s) (Ok tt) q p).0)
clears_unique input a b (judged l h S q) (short m) = absurd (omega arith)
clears_unique input a b (judged l h S q) (long m) = absurd (omega arith)
clears_unique input a b (judged l h S q) (turned_back m n r p) =
    absurd (not_accepted r (one_way input unprepared S (Err r) (Ok tt) p q).0)
clears_unique input a b (judged l h S q) (judged m n T p) =
    ap (λ s. outcome_of (cleared s (file_in input))) (one_way input S T (Ok tt) (Ok tt) q p).1

-- an accepted file has at most 16 batches
pub at_most_16 : (input T : List ℕ) (k : ℕ) → IsJudged input T k → k ≤ 16
unfolding file_in
at_most_16 input T k h = omega (arith, h.board.size, h.high, length-drop table_bytes input)

-- an answer of Check, by its tests
reported_tests : (k n : ℕ) (t : Answer)
    → outcome_of (with_value t (record { batches = k; tests = n })) ≡ reported k (with_value t n)
reported_tests k n (Ok _) = refl
reported_tests k n (Err r) = refl

-- ---- it prepares, unpacks, builds, checks: where Prepare wrote T, and Unpack accepts the file with the claim d, the
-- answer is Check's on what Build leaves of the taps that Unpack left in `room`
pub checks_built : (input T room rows d : List ℕ) (o : Outcome) → Clears input o
    → table_bytes ≤ length input → length input ≤ longest → Prepares (raw_in input) unprepared (Ok tt) T
    → unpack_answer (file_in input) (length room) ≡ Ok d
    → let w = unpack_leaves (file_in input) room in
    let k = tap_word_batches (length w) in
    length rows ≡ trace_words k → o ≡ reported k (check_answer T (build_leaves T w rows) d k)
unfolding unpack_leaves checked_taps
checks_built input T room rows d o c low high p e size =
    let file = file_in input in
    let b = accepted_board file (length room) d e in
    let h : IsJudged input T (batches_in file) =
    record { low = low; high = high; prepared = p; board = b.0 } in
    let left : unpack_leaves file room ≡ taps_in file =
    ap (λ a. leaves a (taps_in file) room) (returned file (length room) d e).0 in
    let k-is = batches_are file b.0 in
    let taps = file_taps file b.0 (omega (arith, b.0.size, at_most_16 input T (batches_in file) h)) in
    let claim = subst AllCanonical b.2 (board_canonical file b.0).0 in
    let room_is = size ∙ ap (λ s. 384 * tap_word_batches (length s)) left in
    let k : ℕ = tap_word_batches (length (taps_in file)) in
    let checked = constraints_left T (taps_in file) (judged_table input T (batches_in file) h) taps d rows _ _
    claim room_is refl refl in
    clears_unique input o _ c (judged low high T p)
    ∙ ap outcome_of (judged_answer input T (batches_in file) h ∙ ap₂ (checked_taps T (taps_in file)) b.2 (sym k-is))
    ∙ reported_tests k _ _
    ∙ ap (reported k) (sym checked)
    ∙ ap (λ s. reported (tap_word_batches (length s))
    (check_answer T (build_leaves T s rows) d (tap_word_batches (length s)))) (sym left)

-- ---- what the answers mean, all of them
pub data Means (input : List ℕ) : Outcome → Type 0 where
  means_cleared : (k : ℕ) → IsCleared input k → Means input (Ok (record { batches = k; tests = 372 * k }))
  means_fault : (r : Refusal) → InputFault input r → Means input (Err (Refused r))
  means_long : longest < length input → Means input (Err TooLong)

pub clears_means : (input : List ℕ) (o : Outcome) → Clears input o → Means input o
clears_means input o (short l) = means_fault TableLength (no_table l refl)
clears_means input o (long l) = means_long l
clears_means input o (turned_back l h r p) = means_fault r (table_fault l h p)
clears_means input o (judged l h T p) = go (judged_cases input T l h p)
  where
    file : List ℕ
    file = file_in input

    both : (k : ℕ) → IsJudged input T k
        → (chain T (taps_in file) k ≡ claim_in file) ⊎ ((j : ℕ) × FirstUnlike (chain T (taps_in file) k) (claim_in file) 4 j)
        → Means input (outcome_of (cleared T file))
    both k i (inl e) =
        subst (Means input) (sym (ap outcome_of (chains_answer input T k i e)))
        (means_cleared k (record { table = T; accepted = i; chains = e }))
    both k i (inr (j, u)) =
        let unlike : IsUnlike input k j = record {
          table = T;
          accepted = i;
          word = u.word;
          other = u.other;
          before = u.before;
        } in
        subst (Means input) (sym (ap outcome_of (unlike_answer input T k i j u)))
        (means_fault _ (other_claim k j unlike refl))

    go : ((r : Refusal) × (unpack_test file (12 * batches_in file + 4) ≡ Err r))
        ⊎ IsJudged input T (batches_in file)
        → Means input (outcome_of (cleared T file))
    go (inl (r, e)) =
        subst (Means input) (sym (ap outcome_of (file_refused_answer input T r e)))
        (means_fault r (file_fault l h T p (unpack_refuses file _ r e)))
    go (inr i) = both (batches_in file) i (chains_or_unlike input T (batches_in file) i)

pub means_clears : (input : List ℕ) (o : Outcome) → Means input o → Clears input o
unfolding unpack_answer
means_clears input o (means_cleared k s) =
    let h = s.accepted in
    subst (Clears input) (ap outcome_of (chains_answer input s.table k h s.chains))
    (judged h.low h.high s.table h.prepared)
means_clears input o (means_fault r (no_table l e)) = subst (λ q. Clears input (Err (Refused q))) (sym e) (short l)
means_clears input o (means_fault r (table_fault l h p)) = turned_back l h r p
means_clears input o (means_fault r (file_fault l h T p e)) =
    subst (Clears input) (ap outcome_of (file_refused_answer input T r (value_refused _ _ r e))) (judged l h T p)
means_clears input o (means_fault r (other_claim k j u e)) =
    let h = u.accepted in
    let unlike : FirstUnlike (chain u.table (taps_in (file_in input)) k) (claim_in (file_in input)) 4 j = record {
      word = u.word;
      other = u.other;
      before = u.before;
    } in
    subst (Clears input)
    (ap outcome_of (unlike_answer input u.table k h j unlike) ∙ ap (λ q. Err (Refused q)) (sym e))
    (judged h.low h.high u.table h.prepared)
means_clears input o (means_long l) = long l

-- ---- so each is given exactly where it means that
module _ (input : List ℕ) (o : Outcome) (c : Clears input o) where
  one_answer : (a : Outcome) → Means input a → o ≡ a
  one_answer a m = clears_unique input o a c (means_clears input a m)

  -- accepted where table and file are accepted and the taps chain to the claim, with all tests of the order
  pub accepts_exactly : (k tests : ℕ)
      → (o ≡ Ok (record { batches = k; tests = tests })) ↔ (IsCleared input k × (tests ≡ 372 * k))
  accepts_exactly k tests = (to o (clears_means input o c), from)
    where
      to : (a : Outcome) → Means input a → a ≡ Ok (record { batches = k; tests = tests })
          → IsCleared input k × (tests ≡ 372 * k)
      to a (means_cleared n s) e =
          let r : ◌≡◌ {A = Report} (record { batches = n; tests = 372 * n }) (record { batches = k; tests = tests }) =
          cc in
          let same = ap (λ s. s.batches) r in
          let all = ap (λ s. s.tests) r in
          (subst (IsCleared input) same s, omega arith)
      to a (means_fault r f) e = absurd (let z : ◌≡◌ {A = ℕ} 0 1 = cc in omega arith)
      to a (means_long l) e = absurd (let z : ◌≡◌ {A = ℕ} 0 1 = cc in omega arith)

      from : IsCleared input k × (tests ≡ 372 * k) → o ≡ Ok (record { batches = k; tests = tests })
      from s = one_answer _ (means_cleared k s.0) ∙ ap (λ n. Ok (record { batches = k; tests = n })) (sym s.1)

  -- refused with r where the input has the fault of r
  pub refuses_exactly : (r : Refusal) → (o ≡ Err (Refused r)) ↔ InputFault input r
  refuses_exactly r = (to o (clears_means input o c), λ f. one_answer _ (means_fault r f))
    where
      to : (a : Outcome) → Means input a → a ≡ Err (Refused r) → InputFault input r
      to a (means_cleared n s) e = absurd (let z : ◌≡◌ {A = ℕ} 0 1 = cc in omega arith)
      to a (means_fault q f) e =
          let same : q ≡ r = cc in
          subst (InputFault input) same f
      to a (means_long l) e = absurd (let z : ◌≡◌ {A = ℕ} 0 1 = cc in omega arith)

  -- too long from 5573 bytes on
  pub long_exactly : (o ≡ Err TooLong) ↔ (longest < length input)
  long_exactly = (to o (clears_means input o c), λ l. one_answer (Err TooLong) (means_long l))
    where
      to : (a : Outcome) → Means input a → a ≡ Err TooLong → longest < length input
      to a (means_cleared n s) e = absurd (let z : ◌≡◌ {A = ℕ} 0 1 = cc in omega arith)
      to a (means_fault q f) e = absurd (let z : ◌≡◌ {A = ℕ} 0 1 = cc in omega arith)
      to a (means_long l) e = l
