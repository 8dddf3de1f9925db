-- A tap, word by word: columns 0 to 3 of the first row 0, or columns 4 to 7 of the input of the hash that takes it in.
-- Assumes nothing.
use native.Mathlib.Omega.{arith}
use Rattle.trace_read_off.proofs.ReadLaws.{four, first_word, next_word_lem}
use Rattle.trace_read_off.proofs.read_tap.Goals as goal

pub returns-then-tap-eq0 : goal.returns-then-tap-eq0
returns-then-tap-eq0 c =
    let T = c.args.back.table.now in
    let t = c.args.trace.now in
    let n = c.args.tap.0 in
    let z = c.if-tap-eq0.true in
    let e = c.cells-first.ensures.0 in
    four _
    (first_word T t n 0 (omega arith) z e)
    (first_word T t n 1 (omega arith) z e)
    (first_word T t n 2 (omega arith) z e)
    (first_word T t n 3 (omega arith) z e)

pub returns : goal.returns
returns c =
    let T = c.args.back.table.now in
    let t = c.args.trace.now in
    let n = c.args.tap.0 in
    let z = c.hash.ensures in
    let e = c.read_input-input.ensures in
    four _
    (next_word_lem T t n 0 (omega arith) (omega arith) z e)
    (next_word_lem T t n 1 (omega arith) (omega arith) z e)
    (next_word_lem T t n 2 (omega arith) (omega arith) z e)
    (next_word_lem T t n 3 (omega arith) (omega arith) z e)
