-- The board file's promises (demand 2): a packed file unpacks to its taps and claim, an accepted file packs to the same
-- bytes, so that no claim and list have two files; and no element from p on, or from 2^64 on, is taken for another.
-- Assumes nothing.
use mathlib.Core.Path.{◌≡◌, sym, ap, ◌∙◌}
use mathlib.Core.List.{List}
use Prim.Native.Nat.{ℕ, ◌+◌, ◌*◌, ◌≤◌}
use native.Mathlib.Omega.{arith}
use lib.ListN.{length}
use Rattle.std.specs.Prelude.{Ok, Err}
use Rattle.field.specs.Field.{P}
use Rattle.field_words.specs.Words.{AllCanonical}
use Rattle.numbers.specs.Numbers.{IsPermittedTo, tap_word_batches}
use Rattle.refusals.specs.declared.Refusal.TheVariants.{WrongValue}
use Rattle.board_words.specs.Words.{AllBytes}
use Rattle.board_words.specs.Elements.{element_at}
use Rattle.board_words.proofs.Tests.{too_large, first_refused}
use Rattle.board.specs.Board.{most_file_batches, file_of, pack_test, packed, batches_in, claim_in, taps_in}
use Rattle.board.specs.Board.{unpack_answer}
use Rattle.board.specs.Board.{IsBoard, ReadTo}
use Rattle.board.proofs.Answers.{pack_accepted, pack_complete, unpack_accepted, unpack_complete}
use Rattle.board.proofs.Answers.{unpack_elements, unpack_returns, unpack_refuses, returned}
use Rattle.board.proofs.Files as files
use Rattle.board.proofs.Round.{packed_board, packed_claim, packed_taps, board_packs}
use Rattle.board.proofs.Round.{board_canonical, taps_length}

-- the file has 144k + 100 bytes
pub file_length : (taps claim : List ℕ) (k : ℕ) → length claim ≡ 4 → length taps ≡ 12 * k + 4
    → length (file_of taps claim k) ≡ 144 * k + 100
file_length taps claim k c t = files.file_length taps claim k c t

-- a packed board file unpacks to its taps and claim
pub unpack_pack : (taps claim : List ℕ) (k : ℕ) → IsPermittedTo most_file_batches k → length taps ≡ 12 * k + 4
    → AllCanonical taps → length claim ≡ 4 → AllCanonical claim
    → (unpack_answer (file_of taps claim k) (length taps) ≡ Ok claim)
    × (taps_in (file_of taps claim k) ≡ taps)
unpack_pack taps claim k p t ts c cs =
    let file : List ℕ = file_of taps claim k in
    let board = packed_board taps claim k p t ts c cs in (
      ap (unpack_answer file) t
          ∙ unpack_returns file (12 * k + 4) (unpack_complete file k board)
          ∙ ap (λ s. Ok s) (packed_claim taps claim k p t ts c cs),
      packed_taps taps claim k p t ts c cs,
    )

-- the same of whatever Pack accepts
pub unpack_packed : (taps claim : List ℕ) (size : ℕ) → length claim ≡ 4 → pack_test taps claim size ≡ Ok tt
    → (unpack_answer (packed taps claim) (length taps) ≡ Ok claim) × (taps_in (packed taps claim) ≡ taps)
unfolding packed
unpack_packed taps claim size c e =
    let h = pack_accepted taps claim size e in
    let k = tap_word_batches (length taps) in
    unpack_pack taps claim k h.permitted h.taps_size h.taps_canonical c h.claim_canonical

-- an accepted file packs to the same bytes
pub pack_unpack : (file : List ℕ) (size : ℕ) (d : List ℕ) → AllBytes file → unpack_answer file size ≡ Ok d
    → (pack_test (taps_in file) d (length file) ≡ Ok tt)
    × (packed (taps_in file) d ≡ file)
unfolding packed
pack_unpack file size d bytes e =
    let r = returned file size d e in
    let h = (unpack_accepted file size r.0).0 in
    let canonical = board_canonical file h in
    let k-is : tap_word_batches (length (taps_in file)) ≡ batches_in file = omega (arith, taps_length file) in (
      pack_complete (taps_in file) d (length file) (batches_in file) (record {
        permitted = h.permitted;
        taps_size = taps_length file;
        size_is = h.size;
        claim_canonical = rw r.1 at canonical.0;
        taps_canonical = canonical.1;
      }),
      rw (sym r.1, k-is) (board_packs file bytes h),
    )

-- so two accepted files that hold the same claim and taps are equal
pub one_meaning : (f g : List ℕ) (m n : ℕ) (d : List ℕ) → AllBytes f → AllBytes g → unpack_answer f m ≡ Ok d
    → unpack_answer g n ≡ Ok d → taps_in f ≡ taps_in g → f ≡ g
one_meaning f g m n d bf bg ef eg t =
    sym (pack_unpack f m d bf ef).1 ∙ ap (λ s. packed s d) t ∙ (pack_unpack g n d bg eg).1

-- what is accepted are the board files, into a destination of their 12k + 4 words
pub accepted_board : (file : List ℕ) (size : ℕ) (d : List ℕ) → unpack_answer file size ≡ Ok d
    → IsBoard file (batches_in file) × (size ≡ 12 * batches_in file + 4) × (claim_in file ≡ d)
accepted_board file size d e =
    let r = returned file size d e in
    let h = unpack_accepted file size r.0 in
    (h.0, h.1, r.1)

-- an element from p on is refused at its first word, however large the number that its payloads spell
pub no_wrap : (file : List ℕ) (size i : ℕ) → ReadTo file size i → P ≤ element_at file (1 + 3 * i)
    → unpack_answer file size ≡ Err (WrongValue (1 + 3 * i))
no_wrap file size i h large =
    unpack_refuses file size (WrongValue (1 + 3 * i))
    (unpack_elements file size h.four h.count h.bytes h.room
    ∙ first_refused file 1 (12 * batches_in file + 8) i (WrongValue (1 + 3 * i)) h.within h.before
    (too_large file (1 + 3 * i) h.high h.middle h.low large))
