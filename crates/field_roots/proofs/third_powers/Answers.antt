-- `field_roots::third_powers`: each link of the chain is one power more, and the last is to the exponent (2p − 1)/3.
-- Assumes nothing.
use native.Mathlib.Omega.{arith}
use Rattle.field_roots.specs.PowerHelpers.{elements}
use Rattle.field_roots.proofs.Powers.{first_link, linked}
use Rattle.field_roots.proofs.third_powers.Goals as goal

pub returns : goal.returns
returns c =
    let x = c.args.x.words in
    let one = first_link x in
    let two = linked (elements x) _ _ _ 1 1 4 (omega arith) (omega arith) (omega arith) (omega arith) one one
    c.joined-two.ensures in
    let four = linked (elements x) _ _ _ 5 5 16 (omega arith) (omega arith) (omega arith) (omega arith) two two
    c.joined-four.ensures in
    let eight = linked (elements x) _ _ _ 85 85 256 (omega arith) (omega arith) (omega arith) (omega arith) four four
    c.joined-eight.ensures in
    let twelve = linked (elements x) _ _ _ 85 21845 256 (omega arith) (omega arith) (omega arith) (omega arith)
    four eight
    c.joined-twelve.ensures in
    let upper = linked (elements x) _ _ _ 1 5592405 2 (omega arith) (omega arith) (omega arith) (omega arith) one twelve
    c.joined-upper.ensures in
    let middle = linked (elements x) _ _ _ 21845 11184811 262144 (omega arith) (omega arith) (omega arith) (omega arith)
    eight upper
    c.joined-middle.ensures in
    let lower = linked (elements x) _ _ _ 21845 2932031116629 65536 (omega arith) (omega arith) (omega arith)
    (omega arith) eight middle
    c.joined-lower.ensures in
    let last = linked (elements x) _ _ _ 1 192153591259419989 4 (omega arith) (omega arith) (omega arith) (omega arith)
    one lower
    c.joined-last.ensures in
    linked (elements x) _ _ _ 1 768614365037679957 2 (omega arith) (omega arith) (omega arith) (omega arith) one last
    c.joined.ensures
