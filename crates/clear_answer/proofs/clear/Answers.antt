-- `clear_answer::clear`: each way through the code is one of the four cases of `Clears`, in the same order.
-- Assumes nothing.
use mathlib.Core.Path.{sym, ap, ◌∙◌}
use Prim.Native.Nat.{◌-◌}
use native.Mathlib.Omega.{arith}
use lib.ListN.{length, drop, length-take}
use Rattle.std.proofs.lemmas.Result.{err_from_is_err_and}
use Rattle.clear_answer.specs.Clearing.{table_bytes, outcome_of, short, long}
use Rattle.clear_answer.proofs.Stages.{rest_file, is_table, file_judged, table_turned_back}
use Rattle.clear_answer.proofs.clear.Goals as goal

pub returns-then-input-lt-TABLE_BYTES : goal.returns-then-input-lt-TABLE_BYTES
returns-then-input-lt-TABLE_BYTES c = short c.if-input-lt-TABLE_BYTES.true

pub returns-then-input-gt-LONGEST : goal.returns-then-input-gt-LONGEST
returns-then-input-gt-LONGEST c = long c.if-input-gt-LONGEST.true

pub returns-in_err-prepare : goal.returns-in_err-prepare
returns-in_err-prepare c =
    let p = err_from_is_err_and c.from_residual.result c.from_residual.ensures.1 in
    rw (p.1, p.2)
    (table_turned_back c.args.input.now _ _ _ c.if-input-lt-TABLE_BYTES.false c.if-input-gt-LONGEST.false
    c.table_room-table.ensures c.prepare.ensures _ c.in_err-prepare.was)

pub clear_file-requires : goal.clear_file-requires
clear_file-requires c =
    let input = c.args.input.now in
    let high = c.if-input-gt-LONGEST.false in (
      is_table input _ _ _ c.if-input-lt-TABLE_BYTES.false high c.table_room-table.ensures c.prepare.ensures
          c.in_ok-prepare.was,
      omega (arith, length-take (length input - table_bytes) (drop table_bytes input), high),
    )

pub returns-in_err-clear_file : goal.returns-in_err-clear_file
returns-in_err-clear_file c =
    let input = c.args.input.now in
    let p = err_from_is_err_and c.from_residual-in_err-clear_file.result c.from_residual-in_err-clear_file.ensures.1 in
    rw (p.1, p.2)
    (file_judged input _ _ _ c.if-input-lt-TABLE_BYTES.false c.if-input-gt-LONGEST.false c.table_room-table.ensures
    c.prepare.ensures _ _ c.in_ok-prepare.was (rest_file input)
    (ap outcome_of (sym c.in_err-clear_file.was ∙ c.clear_file.ensures)))

pub returns : goal.returns
returns c =
    let input = c.args.input.now in
    file_judged input _ _ _ c.if-input-lt-TABLE_BYTES.false c.if-input-gt-LONGEST.false c.table_room-table.ensures
    c.prepare.ensures _ _ c.in_ok-prepare.was (rest_file input)
    (ap outcome_of (sym c.in_ok-clear_file.was ∙ c.clear_file.ensures))
