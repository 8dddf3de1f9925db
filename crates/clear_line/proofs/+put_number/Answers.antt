-- `clear_line::put_number`: all digits but the last by the call, whose number is smaller, and then the last.
-- Assumes nothing.
use mathlib.Core.Path.{◌≡◌, refl, ap, ◌∙◌}
use mathlib.Core.List.{List, [], ◌∷◌}
use Prim.Native.Nat.{ℕ, ◌+◌, ◌/◌, ◌%◌, ◌^◌, ◌<◌, ◌≤◌}
use native.Mathlib.Omega.{arith}
use lib.ListN.{length, set, length-append}
use lib.Seq.{sets}
use Rattle.std.specs.Fmt.{decimal}
use Rattle.std.proofs.lemmas.Fmt.{decimal_digit, decimal_step}
use Rattle.lists.proofs.Stores.{sets_append}
use Rattle.clear_line.proofs.Fields.{length_small}
use Rattle.clear_line.proofs.+put_number.Goals as goal

-- one digit is written, or one more
module _ (l : List ℕ) (at n : ℕ) where
  one_digit : n < 10 → (at + 1 ≡ at + length (decimal n)) × (set l at (48 + n) ≡ sets l at (decimal n))
  one_digit h = rw (decimal_digit n h) (refl, refl)

  length_more : 10 ≤ n → n < 2 ^ 64 → length (decimal n) ≡ length (decimal (n / 10)) + 1
  length_more h fits = ap length (decimal_step n h fits) ∙ length-append (decimal (n / 10)) ((48 + n % 10) ∷ [])

  one_more : 10 ≤ n → n < 2 ^ 64 → (end : ℕ) (m : List ℕ)
      → end ≡ at + length (decimal (n / 10)) → m ≡ sets l at (decimal (n / 10))
      → (end + 1 ≡ at + length (decimal n)) × (set m end (48 + n % 10) ≡ sets l at (decimal n))
  one_more h fits end m e q = (
    omega (arith, length_more h fits),
    rw (q, e, decimal_step n h fits) (sets_append l at (decimal (n / 10)) ((48 + n % 10) ∷ [])),
  )

pub bounds-out-at : goal.bounds-out-at
bounds-out-at t c = omega (arith, (one_digit c.args.out.now c.args.at c.args.n c.if-n-lt10.true).0, c.requires)

pub returns-then-n-lt10 : goal.returns-then-n-lt10
returns-then-n-lt10 t c =
    let one = one_digit c.args.out.now c.args.at c.args.n c.if-n-lt10.true in
    (one.0, one.1, omega arith)

pub put_number-end-requires : goal.put_number-end-requires
put_number-end-requires t c =
    let l = length_more c.args.out.now c.args.at c.args.n c.if-n-lt10.false c.ranges.n.fits in
    (omega arith, omega (arith, l, c.requires))

pub bounds-out-end : goal.bounds-out-end
bounds-out-end t c =
    let l = length_more c.args.out.now c.args.at c.args.n c.if-n-lt10.false c.ranges.n.fits in
    omega (arith, l, c.put_number-end.ensures.0, c.put_number-end.auto.out, c.requires)

pub overflow_add-result-2 : goal.overflow_add-result-2
overflow_add-result-2 t c =
    let l = length_more c.args.out.now c.args.at c.args.n c.if-n-lt10.false c.ranges.n.fits in
    omega (arith, l, c.put_number-end.ensures.0, c.requires)

pub returns : goal.returns
returns t c =
    let call = c.put_number-end in
    let more = one_more c.args.out.now c.args.at c.args.n c.if-n-lt10.false c.ranges.n.fits call.result call.new.out
    call.ensures.0 call.ensures.1 in
    (more.0, more.1, omega (arith, more.0, length_small c.args.n c.ranges.n.fits))
