-- `clear_line::put_unclear`: the line of a refusal is that of what is told of it.
-- Assumes nothing.
use mathlib.Core.Path.{◌≡◌, refl, sym, ap, ◌∙◌}
use mathlib.Core.List.{List}
use Prim.Native.Nat.{ℕ}
use native.Mathlib.Omega.{arith}
use lib.ListN.{length}
use lib.Seq.{sets}
use Rattle.std.specs.Prelude.{Err}
use Rattle.lists.specs.Lists.{each}
use Rattle.clear_answer.specs.declared.Unclear.{Unclear}
use Rattle.clear_line.specs.Line.{ascii, fields, line, numbers_of, text_of}
use Rattle.clear_line.proofs.put_unclear.Goals as goal

-- the line of v, where u is v
told_line : (u v : Unclear) (out new s : List ℕ) (r : ℕ) → u ≡ v → text_of (Err v) ≡ s → r ≡ length s
    → new ≡ sets out 0 s → (r ≡ length (text_of (Err u))) × (new ≡ sets out 0 (text_of (Err u)))
told_line u v out new s r e t q w =
    let same : s ≡ text_of (Err u) = sym t ∙ sym (ap (λ x. text_of (Err x)) e) in
    (q ∙ ap length same, w ∙ ap (sets out 0) same)

pub returns-in-Refused : goal.returns-in-Refused
unfolding text_of
returns-in-Refused c =
    let line_is = ap (λ p. line (ascii "refused") (numbers_of p)) (sym c.told.ensures) in
    let wrote = c.put_refused.ensures in
    let told = told_line _ _ _ _ _ _ c.in-Refused.is line_is wrote.0 wrote.1 in
    (told.0, told.1, wrote.2)

pub returns-in-TooLong : goal.returns-in-TooLong
unfolding text_of line fields each
returns-in-TooLong c =
    let wrote = c.put_word.ensures in
    let told = told_line _ _ _ _ _ _ c.in-TooLong.is refl wrote.0 wrote.1 in
    (told.0, told.1, omega (arith, wrote.0, c.requires))
