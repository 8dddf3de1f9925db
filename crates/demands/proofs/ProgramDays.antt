-- The program's known days (document 01, "Known days"): the input is the raw table Z and a file of zero taps, which
-- chain to zeros; the rest follows from what its answers mean.
-- Assumes nothing.
use mathlib.Core.Path.{◌≡◌, refl, sym, ap, ◌∙◌}
use mathlib.Core.List.{List, [], ◌∷◌, ◌++◌}
use Prim.Native.Nat.{ℕ, ◌+◌, ◌*◌, ◌^◌, ◌<◌}
use native.Mathlib.Omega.{arith}
use lib.Count.{ones}
use lib.ListN.{length, length-append, get_or-append, replicate, set}
use lib.Seq.{drop_at}
use Rattle.std.specs.Prelude.{Ok, Err}
use Rattle.lists.specs.Lists.{cell, tab, sum, each}
use Rattle.lists.proofs.Each.{length_each, cell_each}
use Rattle.lists.proofs.Sum.{sum_ext}
use Rattle.lists.proofs.Tab.{tab_ext, tab_cell}
use Rattle.field.specs.Field.{halving, power, root}
use Rattle.refusals.specs.declared.Refusal.TheVariants.{Constraint}
use Rattle.matrix.specs.Matrix.{times_column, times}
use Rattle.table.specs.Table.{raw_words}
use Rattle.table.specs.Table.{matrix_of, constant, initial_constant, first_step_constant, second_step_constant}
use Rattle.hash.specs.Hash.{roots, cubes, plus, mix, first_step, second_step, state_at, final_state, input, hash, tap}
use Rattle.hash.specs.Hash.{output_at, chain}
use Rattle.board_words.specs.Words.{word_at}
use Rattle.board_words.specs.Elements.{element_at, elements_at, element_test, elements_test}
use Rattle.board.specs.Board.{batches_in, claim_in, taps_in, count_test, unpack_test}
use Rattle.board.proofs.Answers.{unpack_accepted}
use Rattle.clear_answer.specs.declared.Unclear.TheVariants.{Refused}
use Rattle.clear_answer.specs.Clearing.{raw_word, raw_in, file_in, unprepared, Clears, IsJudged, other_claim}
use Rattle.clear_answer.proofs.Theorems.{means_cleared, means_fault, means_clears}
use Rattle.known_days.specs.Days.{shifted, raw_z, Z}
use Rattle.known_days.specs.Files.{zero_file}
use Rattle.known_days.proofs.Tables.{known_tables}
use Rattle.demands.specs.Program.{raw_bytes, with_z}

-- ---- a raw table of words below 2^8, as bytes
low : (w : ℕ) → sum 8 (λ b. cell (raw_bytes w) b * 2 ^ (8 * b)) ≡ w
unfolding sum
low w = omega arith

raw_bytes_lem : (raw file : List ℕ) (j : ℕ) → j < length raw → raw_word (each raw_bytes raw ++ file) j ≡ cell raw j
unfolding raw_word
raw_bytes_lem raw file j h =
    sum_ext 8 _ (λ b. cell (raw_bytes (cell raw j)) b * 2 ^ (8 * b)) (λ b l. ap (λ x. x * 2 ^ (8 * b)) (at b l))
    ∙ low (cell raw j)
  where
    size : length (each raw_bytes raw) ≡ 8 * length raw
    size = length_each 8 raw_bytes (λ w. refl) raw

    at : (b : ℕ) → b < 8 → cell (each raw_bytes raw ++ file) (8 * j + b) ≡ cell (raw_bytes (cell raw j)) b
    at b l =
        get_or-append (each raw_bytes raw) file 0 (8 * j + b) (omega (arith, size))
        ∙ cell_each 8 raw_bytes (λ w. refl) raw j b h l

module _ (file : List ℕ) where
  raw_is : raw_in (with_z file) ≡ raw_z
  unfolding raw_in with_z tab shifted raw_z
  raw_is = tab_ext raw_words _ (cell raw_z) (raw_bytes_lem raw_z file) ∙ tab_cell raw_words raw_z refl

  table_size : length (each raw_bytes raw_z) ≡ 3168
  unfolding tab shifted raw_z
  table_size = length_each 8 raw_bytes (λ w. refl) raw_z

  file_is : file_in (with_z file) ≡ file
  unfolding file_in with_z
  file_is = drop_at (each raw_bytes raw_z) file 3168 table_size

  -- ---- a file of one batch of zero taps
  module _ (passes : unpack_test file 16 ≡ Ok tt) (one_batch : batches_in file ≡ 1)
      (zeros : taps_in file ≡ replicate 16 0) where
    is_judged : IsJudged (with_z file) Z 1
    unfolding with_z
    is_judged =
        let size = length-append (each raw_bytes raw_z) file in
        let b = rw one_batch at (unpack_accepted file 16 passes).0 in
        record {
          low = omega (arith, size, table_size);
          high = omega (arith, size, table_size, b.size);
          prepared = rw raw_is (known_tables.prepare_Z unprepared refl);
          board = rw file_is b;
        }

    zero_output : chain Z (taps_in (file_in (with_z file))) 1 ≡ replicate 4 0
    unfolding tab sum halving power root times_column times matrix_of constant initial_constant first_step_constant
        second_step_constant roots cubes plus mix first_step second_step state_at final_state input hash tap output_at chain
        shifted Z
    zero_output = ap (λ f. chain Z (taps_in f) 1) file_is ∙ ap (λ w. chain Z w 1) zeros

  -- its claim
  claim_is : (claim : List ℕ) → claim_in file ≡ claim → claim_in (file_in (with_z file)) ≡ claim
  claim_is claim e = ap claim_in file_is ∙ e

-- ---- the two days
pub zero_day : Clears (with_z zero_file) (Ok (record { batches = 1; tests = 372 }))
unfolding ones tab word_at element_at elements_at element_test elements_test batches_in claim_in taps_in count_test unpack_test
    zero_file
zero_day =
    means_clears (with_z zero_file) _
    (means_cleared 1 (record {
      table = Z;
      accepted = is_judged zero_file refl refl refl;
      chains = zero_output zero_file refl refl refl ∙ sym (claim_is zero_file (replicate 4 0) refl);
    }))

pub other_day : Clears (with_z (set zero_file 12 1)) (Err (Refused (Constraint (record { 0 = 31 }) 49 369)))
unfolding ones tab word_at element_at elements_at element_test elements_test batches_in claim_in taps_in count_test unpack_test
    zero_file
other_day =
    let file = set zero_file 12 1 in
    let output = ap (λ s. cell s 0) (zero_output file refl refl refl) in
    let claim = ap (λ s. cell s 0) (claim_is file (1 ∷ 0 ∷ 0 ∷ 0 ∷ []) refl) in
    means_clears (with_z file) _
    (means_fault _ (other_claim 1 0 (record {
      table = Z;
      accepted = is_judged file refl refl refl;
      word = omega arith;
      other = λ e. (let z : ◌≡◌ {A = ℕ} 0 1 = sym output ∙ e ∙ claim in omega arith);
      before = λ m h. absurd (omega arith);
    }) refl))
