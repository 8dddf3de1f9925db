-- `board_to_full::write`: word 0, then the elements.
-- Assumes nothing.
use mathlib.Core.Path.{◌≡◌, sym, ap, ap₂, ◌∙◌}
use mathlib.Core.List.{List, ◌∷◌}
use Prim.Native.Nat.{ℕ, ◌+◌, ◌*◌}
use native.Mathlib.Omega.{arith}
use lib.ListN.{length}
use Rattle.numbers.specs.Numbers.{tap_word_batches}
use Rattle.board_words.specs.Words.{bytes_of}
use Rattle.board_words.specs.Elements.{words_of}
use Rattle.board_words.proofs.Laws.{length_words, write_file}
use Rattle.board.specs.Board.{element_count, count_word, file_of, packed}
use Rattle.board_short_read.specs.Reading.{shorts_at}
use Rattle.board_short_read.proofs.Tests.{accepts}
use Rattle.board_short_read.proofs.Round.{length_shorts}
use Rattle.board_short.specs.ShortBoard.{short_taps_in, short_batches_in}
use Rattle.board_short.proofs.Answers.{word_counts}
use Rattle.board_short.proofs.Round.{board_elements, taps_length}
use Rattle.board_to_full.proofs.write.Goals as goal

pub read-requires : goal.read-requires
read-requires c = c.requires.0.four

pub count_word-requires : goal.count_word-requires
count_word-requires c =
    let k = word_counts c.args.file.now c.read.ensures c.count_in-k.ensures in
    omega (arith, k, c.requires.1)

pub write-requires : goal.write-requires
write-requires c = omega (arith, c.requires.2)

pub write_elements-requires : goal.write_elements-requires
write_elements-requires c =
    let h = c.requires in
    let k = word_counts c.args.file.now c.read.ensures c.count_in-k.ensures in (
      (λ i l. accepts _ _ (h.0.elements i (omega (arith, k)))),
      omega (arith, c.write.auto.destination, h.2, k),
    )

pub returns : goal.returns
unfolding packed file_of
returns c =
    let f = c.args.file.now in
    let k = c.count_in-k.result in
    let same = sym (word_counts f c.read.ensures c.count_in-k.ensures) in
    let xs : List ℕ = shorts_at f 1 (element_count k) in
    let size : length c.args.destination.now ≡ 4 * (1 + length (words_of xs)) =
    omega (arith, c.requires.2, same, length_words xs, length_shorts f 1 (element_count k)) in
    let batches : short_batches_in f ≡ tap_word_batches (length (short_taps_in f)) = omega (arith, taps_length f) in
    write_file c.args.destination.now _ _ (words_of xs) _ (count_word k) size c.count_word.ensures
    c.write.ensures c.write_elements.ensures
    ∙ ap (λ b. bytes_of (count_word b ∷ words_of (shorts_at f 1 (element_count b)))) same
    ∙ ap₂ (λ b s. bytes_of (count_word b ∷ words_of s)) batches (sym (board_elements f c.requires.0))
