-- `board_to_short::write`: word 0, then the elements.
-- Assumes nothing.
use mathlib.Core.Path.{◌≡◌, sym, ap, ap₂, ◌∙◌}
use mathlib.Core.List.{List, ◌∷◌}
use Prim.Native.Nat.{ℕ, ◌+◌, ◌*◌}
use native.Mathlib.Omega.{arith}
use lib.ListN.{length}
use Rattle.numbers.specs.Numbers.{tap_word_batches}
use Rattle.board_words.specs.Words.{bytes_of}
use Rattle.board_words.specs.Elements.{elements_at}
use Rattle.board_words.proofs.Laws.{write_file}
use Rattle.board.specs.Board.{element_count, batches_in, taps_in}
use Rattle.board.proofs.Answers.{word_counts}
use Rattle.board.proofs.Round.{board_elements, taps_length}
use Rattle.board_short_words.specs.Short.{short_words_of, all_bytes_needed}
use Rattle.board_short_words.proofs.Words.{all_needed}
use Rattle.board_short.specs.ShortBoard.{short_count_word, short_file_of, packed_short}
use Rattle.board_to_short.proofs.Answers.{size_is}
use Rattle.board_to_short.proofs.write.Goals as goal

pub read-requires : goal.read-requires
read-requires c = omega (arith, c.requires.0.size)

pub count_word-requires : goal.count_word-requires
count_word-requires c =
    let k = word_counts c.args.file.now c.read.ensures c.count_in-k.ensures in
    omega (arith, k, c.requires.0.permitted.high)

pub write-requires : goal.write-requires
write-requires c = omega (arith, c.requires.1, sym (size_is c.args.file.now))

pub overflow_mul-k : goal.overflow_mul-k
overflow_mul-k c =
    let k = word_counts c.args.file.now c.read.ensures c.count_in-k.ensures in
    omega (arith, k, c.requires.0.permitted.high)

pub write_elements-requires : goal.write_elements-requires
write_elements-requires c =
    let h = c.requires.0 in
    let k = word_counts c.args.file.now c.read.ensures c.count_in-k.ensures in
    let kept = c.write.auto.destination in (
      omega (arith, k, h.size),
      (λ i l. (h.elements i (omega (arith, k))).value),
      rw (← k) (omega (arith, kept, c.requires.1, sym (size_is c.args.file.now))),
    )

pub returns : goal.returns
unfolding packed_short short_file_of
returns c =
    let f = c.args.file.now in
    let k = c.count_in-k.result in
    let same = sym (word_counts f c.read.ensures c.count_in-k.ensures) in
    let xs : List ℕ = elements_at f 1 (element_count k) in
    let size : length c.args.destination.now ≡ 4 * (1 + length (short_words_of xs)) =
    c.requires.1 ∙ sym (size_is f)
    ∙ ap (λ b. 4 + all_bytes_needed (elements_at f 1 (element_count b))) (sym same)
    ∙ omega (arith, all_needed xs) in
    let batches : batches_in f ≡ tap_word_batches (length (taps_in f)) = omega (arith, taps_length f) in
    write_file c.args.destination.now _ _ (short_words_of xs) _ (short_count_word k) size
    c.count_word.ensures c.write.ensures c.write_elements.ensures
    ∙ ap (λ b. bytes_of (short_count_word b ∷ short_words_of (elements_at f 1 (element_count b)))) same
    ∙ ap₂ (λ b s. bytes_of (short_count_word b ∷ short_words_of s)) batches (sym (board_elements f))
