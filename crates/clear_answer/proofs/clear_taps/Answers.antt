-- `clear_answer::clear_taps`: Build accepts such taps and leaves their trace, so that Check has only the walk left to do.
-- Assumes nothing.
use Rattle.std.proofs.Common.{◌≡◌, arith}
use Rattle.std.proofs.lemmas.Result.{err_from_is_err_and}
use Prim.Native.Nat.{ℕ, ◌*◌, ◌/◌, ◌≤◌}
use mathlib.Core.List.{List}
use lib.ListN.{length}
use lib.Seq.{length-take-le}
use Rattle.clear_answer.specs.Clearing.{Taps}
use Rattle.clear_answer.proofs.Stages.{never_refused, taps_accepted, taps_refused}
use Rattle.clear_answer.proofs.clear_taps.Goals as goal

-- there is room for the trace
fits : (w room : List ℕ) → Taps w → length room ≡ 6144 → 384 * (length w / 12) ≤ length room
fits w room taps size = omega (arith, taps.few, size)

pub returns-in_err-build : goal.returns-in_err-build
returns-in_err-build c =
    let room = c.trace_room-room.result in
    let taps = c.args.taps.now in
    absurd
    (never_refused c.args.table.now taps c.requires.0 c.requires.1 c.build.result _ _
    (length-take-le _ room (fits taps room c.requires.1 c.trace_room-room.ensures)) c.build.ensures.0 c.in_err-build.was)

pub returns-in_err-tests : goal.returns-in_err-tests
returns-in_err-tests c =
    let room = c.trace_room-room.result in
    let taps = c.args.taps.now in
    let p = err_from_is_err_and c.from_residual-in_err-tests.result c.from_residual-in_err-tests.ensures.1 in
    let size = length-take-le _ room (fits taps room c.requires.1 c.trace_room-room.ensures) in
    rw (p.1, p.2)
    (taps_refused c.args.table.now taps c.requires.0 c.requires.1 c.args.claim _ c.build.new.destination c.check.result
    c.requires.2 size c.build.ensures.1 c.check.ensures _ c.in_err-tests.was)

pub returns : goal.returns
returns c =
    let room = c.trace_room-room.result in
    let taps = c.args.taps.now in
    let size = length-take-le _ room (fits taps room c.requires.1 c.trace_room-room.ensures) in
    taps_accepted c.args.table.now taps c.requires.0 c.requires.1 c.args.claim _ c.build.new.destination c.check.result
    c.requires.2 size c.build.ensures.1 c.check.ensures _ c.in_ok-tests.was
