-- The permitted counts are the powers of two up to the most, where that is one, and a length stands for k batches
-- exactly where document 01 says so.
-- Assumes nothing.
use mathlib.Core.Path.{◌≡◌, refl, ap, sym, ◌∙◌}
use mathlib.Core.Bool.{Bool, true, false, ◌&&◌}
use mathlib.Core.Logic.{◌⊎◌, inl, inr}
use Prim.Native.Nat.{ℕ, zero, suc, ◌+◌, ◌*◌, ◌/◌, ◌%◌, ◌^◌, ◌≤◌, ◌<◌}
use native.Mathlib.Nat.{pow-suc, mod-lt}
use native.Mathlib.Omega.{arith}
use borrow.Author.Tests.{le-leb, leb-true, eq-eqb, eqb-true}
use lib.Count.{ones, ones_step, ones_cat}
use lib.Dec.{leb, eqb}
use lib.Pow.{pow_pos, pow_mono}
use Rattle.std.specs.Prelude.{Option, Some, None}
use Rattle.lists.proofs.Bools.{and_both, and_intro}
use Rattle.numbers.specs.Numbers.{IsPermittedTo, permitted, tap_word_batches, is_tap_length}
use Rattle.numbers.specs.Numbers.{trace_word_batches, is_trace_length, batches_if}

-- ---- one set bit
ones_zero : ones 0 ≡ 0
unfolding ones
ones_zero = refl

none : (d k : ℕ) → k < 2 ^ d → ones k ≡ 0 → k ≡ 0
none zero k h e = omega arith
none (suc d) k h e =
    let s = ones_step k in
    let q : k / 2 < 2 ^ d = omega (arith, pow-suc 2 d) in
    omega (arith, none d (k / 2) q (omega arith))

power_step : (d k : ℕ) → ones k ≡ 1 → k < 2 ^ suc d → (ones (k / 2) ≡ 1 → (j : ℕ) × (j < d) × (k / 2 ≡ 2 ^ j))
    → (k % 2 ≡ 0) ⊎ (k % 2 ≡ 1) → (j : ℕ) × (j < suc d) × (k ≡ 2 ^ j)
power_step d k e h ih (inl z) =
    let s = ones_step k in
    let t = ih (omega arith) in
    (suc t.0, (omega arith), omega (arith, pow-suc 2 t.0, t.2))
power_step d k e h ih (inr o) =
    let s = ones_step k in
    let q : k / 2 < 2 ^ d = omega (arith, pow-suc 2 d) in
    let n = none d (k / 2) q (omega arith) in
    (0, (omega arith), (omega arith))

odd_even : (k : ℕ) → (k % 2 ≡ 0) ⊎ (k % 2 ≡ 1)
odd_even k = go (k % 2) (mod-lt k (omega arith))
  where
    go : (r : ℕ) → r < 2 → (r ≡ 0) ⊎ (r ≡ 1)
    go zero h = inl refl
    go (suc zero) h = inr refl
    go (suc (suc r)) h = absurd (omega arith)

power : (d k : ℕ) → k < 2 ^ d → ones k ≡ 1 → (j : ℕ) × (j < d) × (k ≡ 2 ^ j)
power zero k h e =
    let z : k ≡ 0 = omega arith in
    absurd (omega (arith, sym (ap ones z) ∙ e, ones_zero))
power (suc d) k h e = power_step d k e h (λ f. power d (k / 2) (omega (arith, pow-suc 2 d)) f) (odd_even k)

power_ones : (j : ℕ) → ones (2 ^ j) ≡ 1
unfolding ones
power_ones j =
    let e : 2 ^ j ≡ 1 * 2 ^ j + 0 = omega arith in
    ap ones e ∙ ones_cat j 1 0 (pow_pos j)

-- the counts permitted up to 2^n are the powers of two up to it
module _ (n : ℕ) where
  pub permitted_power : (k : ℕ) → IsPermittedTo (2 ^ n) k → (j : ℕ) × (j ≤ n) × (k ≡ 2 ^ j)
  permitted_power k p =
      let below : k < 2 ^ suc n = omega (arith, p.high, pow-suc 2 n, pow_pos n) in
      let t = power (suc n) k below p.one_bit in
      (t.0, omega (arith, t.1), t.2)

  pub power_permitted : (j : ℕ) → j ≤ n → IsPermittedTo (2 ^ n) (2 ^ j)
  power_permitted j h = record { low = pow_pos j; high = pow_mono {i = j} {j = n} h; one_bit = power_ones j }

-- a permitted count is so up to any most that it is not above
pub permitted_to : {m : ℕ} (n k : ℕ) → IsPermittedTo m k → k ≤ n → IsPermittedTo n k
permitted_to n k p h = record { low = p.low; high = h; one_bit = p.one_bit }

-- ---- the tests decide
module _ (most : ℕ) where
  pub permitted_sound : (k : ℕ) → permitted most k ≡ true → IsPermittedTo most k
  permitted_sound k e =
      let s = and_both (leb 1 k) (leb k most && eqb (ones k) 1) e in
      let t = and_both (leb k most) (eqb (ones k) 1) s.1 in
      record { low = leb-true 1 k s.0; high = leb-true k most t.0; one_bit = eqb-true (ones k) 1 t.1 }

  pub permitted_complete : (k : ℕ) → IsPermittedTo most k → permitted most k ≡ true
  permitted_complete k p = simp (le-leb 1 k p.low, le-leb k most p.high, eq-eqb (ones k) 1 p.one_bit)

  -- a list of 12k + 4 words, k permitted, and no other, passes
  pub tap_length_sound : (n : ℕ) → is_tap_length most n ≡ true
      → (n ≡ 12 * tap_word_batches n + 4) × IsPermittedTo most (tap_word_batches n)
  tap_length_sound n e =
      let s = and_both (eqb (n % 12) 4) (permitted most (n / 12)) e in
      (omega (arith, eqb-true (n % 12) 4 s.0), permitted_sound (n / 12) s.1)

  pub tap_length_complete : (n k : ℕ) → n ≡ 12 * k + 4 → IsPermittedTo most k
      → (is_tap_length most n ≡ true) × (tap_word_batches n ≡ k)
  tap_length_complete n k e p =
      let r : n % 12 ≡ 4 = omega arith in
      let q : n / 12 ≡ k = omega arith in (
        and_intro (eqb (n % 12) 4) (permitted most (n / 12)) (eq-eqb _ _ r)
            (ap (permitted most) q ∙ permitted_complete k p),
        q,
      )

  -- a trace of 384k words, k permitted, and no other, passes
  pub trace_length_sound : (n : ℕ) → is_trace_length most n ≡ true
      → (n ≡ 384 * trace_word_batches n) × IsPermittedTo most (trace_word_batches n)
  trace_length_sound n e =
      let s = and_both (eqb (n % 384) 0) (permitted most (n / 384)) e in
      (omega (arith, eqb-true (n % 384) 0 s.0), permitted_sound (n / 384) s.1)

  pub trace_length_complete : (n k : ℕ) → n ≡ 384 * k → IsPermittedTo most k
      → (is_trace_length most n ≡ true) × (trace_word_batches n ≡ k)
  trace_length_complete n k e p =
      let r : n % 384 ≡ 0 = omega arith in
      let q : n / 384 ≡ k = omega arith in (
        and_intro (eqb (n % 384) 0) (permitted most (n / 384)) (eq-eqb _ _ r)
            (ap (permitted most) q ∙ permitted_complete k p),
        q,
      )

-- ---- what a count says of the test that it was made by
pub count_permitted : (ok : Bool) (n k : ℕ) → batches_if ok n ≡ Some k → (ok ≡ true) × (n ≡ k)
count_permitted true n k e = (refl, cc)
count_permitted false n k e = absurd (let z : ◌≡◌ {A = ℕ} 0 1 = cc in omega arith)

pub count_refused : (ok : Bool) (n : ℕ) → batches_if ok n ≡ None → ok ≡ false
count_refused true n e = absurd (let z : ◌≡◌ {A = ℕ} 0 1 = cc in omega arith)
count_refused false n e = refl

-- a count b of so many words
module _ (most words : ℕ) {b : Option ℕ} where
  pub tap_refused : b ≡ batches_if (is_tap_length most words) (tap_word_batches words) → b ≡ None
      → is_tap_length most words ≡ false
  tap_refused e q = count_refused (is_tap_length most words) (tap_word_batches words) (sym e ∙ q)

  pub tap_permitted : {k : ℕ} → b ≡ batches_if (is_tap_length most words) (tap_word_batches words) → b ≡ Some k
      → (is_tap_length most words ≡ true) × (tap_word_batches words ≡ k)
  tap_permitted {k} e q = count_permitted (is_tap_length most words) (tap_word_batches words) k (sym e ∙ q)

  pub trace_refused : b ≡ batches_if (is_trace_length most words) (trace_word_batches words) → b ≡ None
      → is_trace_length most words ≡ false
  trace_refused e q = count_refused (is_trace_length most words) (trace_word_batches words) (sym e ∙ q)

  pub trace_permitted : {k : ℕ} → b ≡ batches_if (is_trace_length most words) (trace_word_batches words) → b ≡ Some k
      → (is_trace_length most words ≡ true) × (trace_word_batches words ≡ k)
  trace_permitted {k} e q = count_permitted (is_trace_length most words) (trace_word_batches words) k (sym e ∙ q)
