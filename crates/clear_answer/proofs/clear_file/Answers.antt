-- `clear_answer::clear_file`: Unpack leaves an accepted file's taps in the part of the room that it was lent, and the check
-- of those taps is the answer.
-- Assumes nothing.
use mathlib.Core.Path.{◌≡◌, sym, ap, ◌∙◌, subst}
use mathlib.Core.List.{List}
use Prim.Native.Nat.{ℕ, ◌-◌, ◌/◌, ◌≤◌}
use native.Mathlib.Omega.{arith}
use lib.ListN.{length}
use lib.Seq.{length-take-le}
use Rattle.std.proofs.lemmas.Result.{err_from_is_err_and}
use Rattle.std.specs.Prelude.{Result, Ok}
use Rattle.field_words.specs.Words.{AllCanonical}
use Rattle.refusals.specs.Answers.{leaves}
use Rattle.refusals.specs.declared.Refusal.{Refusal}
use Rattle.board.specs.Board.{taps_in, unpack_answer, unpack_leaves}
use Rattle.board.proofs.Answers.{returned}
use Rattle.board.proofs.Round.{board_canonical}
use Rattle.clear_answer.specs.Clearing.{Taps}
use Rattle.clear_answer.proofs.Stages.{file_taps, file_board, file_cleared, file_refused}
use Rattle.clear_answer.proofs.clear_file.Goals as goal

fits : (file room : List ℕ) (size : ℕ) → length file ≤ 2404 → size ≡ length file / 12 - 4 → length room ≡ 196
    → size ≤ length room
fits file room size h e r = omega (arith, h, e, r)

-- the file's taps
taps_there : (file room last : List ℕ) (a : Result (List ℕ) Refusal) (d : List ℕ) → a ≡ unpack_answer file (length room)
    → a ≡ Ok d → last ≡ unpack_leaves file room → last ≡ taps_in file
unfolding unpack_leaves
taps_there file room last a d e q w =
    w ∙ ap (λ a. leaves a (taps_in file) room) (returned file _ d (sym e ∙ q)).0

pub clear_taps-requires : goal.clear_taps-requires
clear_taps-requires c =
    let file = c.args.file.now in
    let room = c.tap_room-room.result in
    let size = c.tap_words-size.result in
    let h = fits file room size c.requires.1 c.tap_words-size.ensures c.tap_room-room.ensures in
    let answered = c.unpack.ensures.value ∙ ap (unpack_answer file) (length-take-le size room h) in
    let there = taps_there file _ _ _ _ c.unpack.ensures.value c.in_ok-claim.was c.unpack.ensures.destination_after in
    let b = file_board c.args.table.now file size c.tap_words-size.ensures _ answered _ c.in_ok-claim.was in (
      c.requires.0,
      subst Taps (sym there) (file_taps file b.0 c.requires.1),
      subst AllCanonical b.1 (board_canonical file b.0).0,
    )

pub returns-in_err-claim : goal.returns-in_err-claim
returns-in_err-claim c =
    let file = c.args.file.now in
    let room = c.tap_room-room.result in
    let size = c.tap_words-size.result in
    let h = fits file room size c.requires.1 c.tap_words-size.ensures c.tap_room-room.ensures in
    let answered = c.unpack.ensures.value ∙ ap (unpack_answer file) (length-take-le size room h) in
    let p = err_from_is_err_and c.from_residual.result c.from_residual.ensures.1 in
    rw (p.1, p.2) (file_refused c.args.table.now file size c.tap_words-size.ensures _ answered _ c.in_err-claim.was)

pub returns : goal.returns
returns c =
    let file = c.args.file.now in
    let room = c.tap_room-room.result in
    let size = c.tap_words-size.result in
    let h = fits file room size c.requires.1 c.tap_words-size.ensures c.tap_room-room.ensures in
    let answered = c.unpack.ensures.value ∙ ap (unpack_answer file) (length-take-le size room h) in
    let there = taps_there file _ _ _ _ c.unpack.ensures.value c.in_ok-claim.was c.unpack.ensures.destination_after in
    file_cleared c.args.table.now file size c.tap_words-size.ensures _ answered _ c.in_ok-claim.was _ _ there
    c.clear_taps.ensures
