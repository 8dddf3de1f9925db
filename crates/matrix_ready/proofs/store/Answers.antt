-- `matrix_ready::store`: the part that is written anew is as if its words were stored one by one.
-- Assumes nothing.
use Rattle.std.proofs.Common.{rules, append_assoc, ◌≡◌, sym, ap, ◌∙◌, ℕ, ◌+◌, ◌≤◌, List, length, arith}
use borrow.Rule.Slice.PartMut.{put_mid}
use lib.Seq.{sets, sets-eq, drop-drop}
use lib.ListN.{take, drop}
use mathlib.Core.List.{◌++◌}
use Rattle.lists.specs.Lists.{cell, tab}
use Rattle.lists.proofs.Tab.{tab_cell}
use Rattle.matrix_ready.proofs.store.Goals as goal

written : (out words copied : List ℕ) (start k : ℕ) → copied ≡ words → length words ≡ 12 → k ≡ 12
    → start + 12 ≤ length out → put_mid start k out copied ≡ sets out start (tab 12 (cell words))
written out words copied start k c e p h =
    ap (put_mid start k out) c
    ∙ ap (λ rest. take start out ++ (words ++ rest)) (drop-drop k start out ∙ ap (λ n. drop n out) place)
    ∙ sym (append_assoc (take start out) words _)
    ∙ sym (sets-eq words out start (omega arith))
    ∙ ap (sets out start) (sym (tab_cell 12 words e))
  where
    place : start + k ≡ start + length words
    place = omega arith

pub returns : goal.returns
returns c =
    let e : length c.args.words ≡ 12 = search rules in
    written _ c.args.words _ c.args.start _ c.copy_from_slice.ensures.after e (omega arith) (omega (arith, c.requires))
