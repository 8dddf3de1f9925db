-- A call's bytes come after those that were read before, in the buffer as in the input.
-- Assumes nothing.
use Rattle.std.proofs.Common.{◌≡◌, ℕ, ◌+◌, List, ◌++◌, take, drop, sym, ap, ◌∙◌, subst}
use Rattle.std.specs.Prelude.{Option}
use Rattle.std.proofs.Math.Seq.{take-add}
use Rattle.std.proofs.KnownBytes.{Consumes-trans}
use Rattle.std.specs.Io.KnownBytes.{Consumes}

pub more_read : (a b c : Option (List ℕ)) (buf new : List ℕ) (done more : ℕ) → Consumes a b (take done buf)
    → take done new ≡ take done buf → Consumes b c (take more (drop done new)) → Consumes a c (take (done + more) new)
more_read a b c buf new done more before kept read =
    let joined : take done buf ++ take more (drop done new) ≡ take (done + more) new =
    ap (λ s. s ++ take more (drop done new)) (sym kept) ∙ sym (take-add done more new) in
    subst (Consumes a c) joined (Consumes-trans a b c _ _ before read)
