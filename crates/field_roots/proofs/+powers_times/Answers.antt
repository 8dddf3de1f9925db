-- `field_roots::powers_times`: the exponent is halved while the bases are squared, and at an odd one the bases go into
-- the accumulators first; at 1 that is all. `Passed` is what the test for an odd one leaves, either way.
-- Assumes nothing.
use mathlib.Core.Path.{◌≡◌, sym, ap, ◌∙◌}
use mathlib.Core.List.{List}
use Prim.Native.Nat.{ℕ, ◌/◌, ◌%◌, ◌^◌, ◌<◌}
use native.Mathlib.Omega.{arith}
use Rattle.field_products.specs.CellHelpers.{word_products}
use Rattle.field_roots.specs.PowerHelpers.{elements, products, powers}
use Rattle.field_roots.proofs.Powers.{elements_of_products, powers_done, powers_even, powers_odd}
use Rattle.field_roots.proofs.+powers_times.Goals as goal
use Rattle.field_roots.proofs.+powers_times.Goals.{then-e-eq1, else-e-eq1}

-- what is left to do where the accumulator is b is what was to do where it was a
abbrev Passed : List ℕ → List ℕ → ℕ → List ℕ → Type 0
Passed a x e b =
    products (elements b) (powers (products (elements x) (elements x)) (e / 2))
    ≡ products (elements a) (powers (elements x) e)

odd_passed : (a x : List ℕ) (e : ℕ) (b : List ℕ) → e < 2 ^ 64 → e % 2 ≡ 1 → b ≡ word_products a x → Passed a x e b
odd_passed a x e b h z q =
    ap (λ p. products p (powers (products (elements x) (elements x)) (e / 2)))
    (ap elements q ∙ elements_of_products a x)
    ∙ powers_odd (elements a) (elements x) e h z

even_passed : (a x : List ℕ) (e : ℕ) (b : List ℕ) → e < 2 ^ 64 → e % 2 ≡ 0 → b ≡ a → Passed a x e b
even_passed a x e b h z q =
    ap (λ b. products (elements b) (powers (products (elements x) (elements x)) (e / 2))) q
    ∙ powers_even (elements a) (elements x) e h z

pub returns-then-e-eq0 : goal.returns-then-e-eq0
returns-then-e-eq0 t c =
    let x = elements c.args.x.now.words in
    powers_done c.args.acc.now.words x
    ∙ ap (λ e. products (elements c.args.acc.now.words) (powers x e)) (sym c.if-e-eq0.true)

pub returns-then-e-eq1-2 : goal.returns-then-e-eq1-2
returns-then-e-eq1-2 t c =
    let a = c.args.acc.now.words in
    let v = c.args.x.now.words in
    let x = elements v in
    let b = c.if-e-eq1.acc.words in
    let q : Passed a v c.args.e b =
    elim c.if-e-eq1.branch [
      | then-e-eq1 w ↦ odd_passed a v c.args.e b (omega arith) w.if-e-eq1.true
          (ap (λ s. s.words) w.acc-is ∙ w.multiply.ensures)
      | else-e-eq1 w ↦ even_passed a v c.args.e b (omega arith) (omega arith) (ap (λ s. s.words) w.acc-is)
    ] in
    let half : 0 ≡ c.args.e / 2 = omega (arith, c.if-e-eq1-2.true) in
    powers_done b (products x x) ∙ ap (λ e. products (elements b) (powers (products x x) e)) half ∙ q

pub returns : goal.returns
returns t c =
    let a = c.args.acc.now.words in
    let v = c.args.x.now.words in
    let b = c.if-e-eq1.acc.words in
    let q : Passed a v c.args.e b =
    elim c.if-e-eq1.branch [
      | then-e-eq1 w ↦ odd_passed a v c.args.e b (omega arith) w.if-e-eq1.true
          (ap (λ s. s.words) w.acc-is ∙ w.multiply.ensures)
      | else-e-eq1 w ↦ even_passed a v c.args.e b (omega arith) (omega arith) (ap (λ s. s.words) w.acc-is)
    ] in
    c.powers_times.ensures
    ∙ ap (λ y. products (elements b) (powers y (c.args.e / 2)))
    (ap elements c.square.ensures ∙ elements_of_products v v)
    ∙ q
