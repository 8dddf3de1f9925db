-- The starred days of document 01, "Known days", as one list, and its tables through Prepare.
-- Assumes nothing.
use Rattle.std.specs.Prelude.{◌≡◌, List, [], ◌∷◌, ◌++◌, ℕ, ◌+◌, ◌*◌, ◌/◌, ◌%◌, ◌-◌, eqb, length, replicate, set, Ok}
use Rattle.std.specs.Prelude.{Err}
use Rattle.lists.specs.Lists.{choose, tab}
use Rattle.field_words.specs.Words.{AllCanonical}
use Rattle.field.specs.Field.{P, mul, root}
use Rattle.numbers.specs.Numbers.{width}
use Rattle.refusals.specs.declared.Refusal.TheVariants.{NoInverse, Constraint}
use Rattle.table.specs.Table.{raw_words, table_words, table_test, Prepares}
use Rattle.hash.specs.Hash.{tap}
use Rattle.hash.specs.Answers.{hash_answer}
use Rattle.hash_chain.specs.Answers.{chain_answer}
use Rattle.check_constraints.specs.FirstFailing.{place_of}
use Rattle.check_trace.specs.Answers.{check_answer}
use Rattle.trace_read_off.specs.Answers.{read_off_answer, read_off_leaves}

-- ---- the raw tables: M row by row, then K_0 to K_20

-- M[i,j] = 1 when j = (i + shift) mod 12, else 0
unfoldable pub shifted : ℕ → List ℕ
shifted shift = tab 144 (λ n. choose (eqb (n % width) ((n / width + shift) % 12)) 1 0)

-- M identity, K zero
unfoldable pub raw_z : List ℕ
raw_z = shifted 0 ++ replicate 252 0

-- Z with K_0[0] = 1
unfoldable pub raw_a : List ℕ
raw_a = set raw_z 144 1

-- M[i,j] = 1 when j = (i + 11) mod 12, else 0; K zero
unfoldable pub raw_s : List ℕ
raw_s = shifted 11 ++ replicate 252 0

-- zero M, K zero
unfoldable pub raw_zeros : List ℕ
raw_zeros = replicate raw_words 0

-- ---- Z, A and S as Prepare writes them: M, its inverse, K

unfoldable pub Z : List ℕ
Z = shifted 0 ++ shifted 0 ++ replicate 252 0

unfoldable pub A : List ℕ
A = set Z 288 1

-- M moves each cell one place on, its inverse one place back
unfoldable pub S : List ℕ
S = shifted 11 ++ shifted 1 ++ replicate 252 0

-- what Prepare answers for each raw table and leaves in any destination of 540 words, and no other (`prepares_unique`);
-- with what it wrote the later operations go on
pub record KnownTables : Type 0 where
  pub prepare_Z : (old : List ℕ) → length old ≡ table_words → Prepares raw_z old (Ok tt) Z
  pub prepare_A : (old : List ℕ) → length old ≡ table_words → Prepares raw_a old (Ok tt) A
  pub prepare_S : (old : List ℕ) → length old ≡ table_words → Prepares raw_s old (Ok tt) S
  pub prepare_zeros : (old : List ℕ) → length old ≡ table_words → Prepares raw_zeros old (Err NoInverse) old
  pub accepted_Z : table_test Z ≡ Ok tt
  pub accepted_A : table_test A ≡ Ok tt
  pub accepted_S : table_test S ≡ Ok tt

-- ---- traces of one batch

unfoldable pub zero_trace : List ℕ
zero_trace = replicate 384 0

-- the zero trace with the cell at row and column set to 1
unfoldable pub with_one : ℕ → ℕ → List ℕ
with_one row column = set zero_trace (width * row + column) 1

-- column 5 of rows 11 to 20 all 1
unfoldable pub tapped : List ℕ
tapped = tab 384 (λ n. choose (eqb (n % width) 5) (choose (eqb ((n / width - 1) / 10) 1) 1 0) 0)

unfoldable pub four_zeros : List ℕ
four_zeros = replicate 4 0

-- the list, over what the operations answer. The counts of refusal 11 are the failing tests' places: 362 stands in
-- document 02, U4, the others follow from document 01's order
pub record KnownDays : Type 0 where
  pub product_of_negatives : mul (P - 1) (P - 1) ≡ 1
  pub product_of_powers : mul 2147483648 2147483648 ≡ 2305842923314348031
  pub root_of_0 : root 0 ≡ 0
  pub root_of_8 : root 8 ≡ 2
  pub root_of_negative : root (P - 1) ≡ P - 1
  -- Hash, all twelve cells (document 02, U3)
  pub hash_Z : hash_answer Z ((8 ∷ 27 ∷ 1 ∷ 0 ∷ []) ++ four_zeros)
      ≡ Ok ((8 ∷ 27 ∷ 1 ∷ 0 ∷ []) ++ four_zeros ++ four_zeros)
  pub hash_A : hash_answer A (four_zeros ++ four_zeros)
      ≡ Ok ((1 ∷ 0 ∷ 0 ∷ 0 ∷ []) ++ four_zeros ++ four_zeros)
  pub hash_S : (a : List ℕ) → length a ≡ 4 → AllCanonical a
      → hash_answer S (a ++ (5 ∷ 6 ∷ 7 ∷ 9 ∷ [])) ≡ Ok ((5 ∷ 6 ∷ 7 ∷ 9 ∷ []) ++ four_zeros ++ a)
  pub chain_A : chain_answer A (replicate 16 0) ≡ Ok (3 ∷ 0 ∷ 0 ∷ 0 ∷ [])
  pub zero_accepted : check_answer Z zero_trace four_zeros 1 ≡ Ok 372
  pub zero_claim : check_answer Z zero_trace (1 ∷ 0 ∷ 0 ∷ 0 ∷ []) 1
      ≡ Err (Constraint (record { 0 = 31 }) 49 369)
  pub one_at_0_8 : check_answer Z (with_one 0 8) four_zeros 1 ≡ Err (Constraint (record { 0 = 0 }) 1 1)
  pub one_at_31_5 : check_answer Z (with_one 31 5) four_zeros 1 ≡ Err (Constraint (record { 0 = 30 }) 38 362)
  pub one_at_11_5 : check_answer Z (with_one 11 5) four_zeros 1 ≡ Err (Constraint (record { 0 = 11 }) 26 138)
  -- the places of the four tests that fail there, counted by themselves
  pub places : (place_of 1 1 31 49 ≡ 369) × (place_of 1 1 0 1 ≡ 1) × (place_of 1 1 30 38 ≡ 362)
      × (place_of 1 1 11 26 ≡ 138)
  pub tapped_accepted : check_answer Z tapped four_zeros 1 ≡ Ok 372
  pub tapped_read_off : read_off_answer Z tapped four_zeros 1 16 ≡ Ok 372
  pub tapped_read : (old : List ℕ) → length old ≡ 16
      → tap (read_off_leaves Z tapped four_zeros 1 old) 2 ≡ 0 ∷ 1 ∷ 0 ∷ 0 ∷ []
