-- `table_prepare::prepared_word`: one case for each part of the prepared table, M, its inverse and the constants.
-- Assumes nothing.
use Prim.Native.Nat.{◌-◌}
use native.Mathlib.Omega.{arith}
use Rattle.table_prepare.proofs.Prepared.{word_matrix, word_inverse, word_constant}
use Rattle.table_prepare.proofs.prepared_word.Goals as goal

pub returns-then-t-lt-MATRIX_WORDS : goal.returns-then-t-lt-MATRIX_WORDS
returns-then-t-lt-MATRIX_WORDS c =
    word_matrix c.args.raw.now c.args.n.now c.requires.0 c.requires.1 c.args.t (omega arith)

pub returns-then-u-lt-MATRIX_WORDS : goal.returns-then-u-lt-MATRIX_WORDS
returns-then-u-lt-MATRIX_WORDS c =
    word_inverse c.args.raw.now c.args.n.now c.requires.0 c.requires.1 c.args.t (c.args.t - 144)
    (omega arith) (omega arith)

pub returns-else-u-lt-MATRIX_WORDS : goal.returns-else-u-lt-MATRIX_WORDS
returns-else-u-lt-MATRIX_WORDS c =
    word_constant c.args.raw.now c.args.n.now c.requires.0 c.requires.1 c.args.t (c.args.t - 144)
    (omega arith) (omega arith)
