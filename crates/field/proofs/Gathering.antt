-- A product by digits of 32 bits, from below, each step divided by 2^32: the bounds of a step, and the part that it has
-- gathered.
-- Assumes nothing.
use Prim.Native.Nat.{ℕ, zero, suc, ◌+◌, ◌*◌, ◌/◌, ◌%◌, ◌^◌, ◌<◌, ◌≤◌}
use mathlib.Core.Path.{◌≡◌, refl, sym, ap, ◌∙◌}
use native.Mathlib.Nat.{zero-add, mod-add-mod, mod-lt, mod-eq_of_lt, mod-one, div-one, mul-le-mul, mul-le-mul_right}
use native.Mathlib.Omega.{arith}
use Rattle.field.specs.Field.{P, Canonical}
use Rattle.field.specs.Gathering.{half_inverse, lowered, gathered, form_word, form_part}
use Rattle.field.specs.MontgomeryHelpers.{divided, half, unit_inverse, times_word}
use Rattle.field.proofs.Modular.{mul_mod_l, mul_mod_r}
use Rattle.field.proofs.Steps.{same, halves}

-- ---- a canonical word times a digit: its two products, and that the sum of their upper parts stays below p
pub record Digit (word a d : ℕ) : Type 0 where
  pub low : a % half * d ≤ 4294967295 * 4294967295
  pub high : a / half * d ≤ 536870932 * 4294967295
  pub whole : a * d ≡ half * (a / half * d) + a % half * d
  pub fits : half * d + word < 2 ^ 64 → a % half * d + word < 2 ^ 64
  pub small : (a % half * d + word) / half + a / half * d < P

pub digit : (word a d : ℕ) → Canonical word → Canonical a → d < half → Digit word a d
digit word a d hw ha hd = record { low = low; high = high; whole = halves a d; fits = fits; small = small }
  where
    low : a % half * d ≤ 4294967295 * 4294967295
    low = mul-le-mul {n₂ = 4294967295} {m₂ = 4294967295} (omega arith) (omega arith)

    high : a / half * d ≤ 536870932 * 4294967295
    high = mul-le-mul {n₂ = 536870932} {m₂ = 4294967295} (omega arith) (omega arith)

    fits : half * d + word < 2 ^ 64 → a % half * d + word < 2 ^ 64
    fits h = let below : a % half ≤ half = omega arith in omega (arith, mul-le-mul_right d below)

    bound : a * d ≤ 2305843095113039872 * 4294967295
    bound = mul-le-mul {n₂ = 2305843095113039872} {m₂ = 4294967295} (omega arith) (omega arith)

    small : (a % half * d + word) / half + a / half * d < P
    small = go (a % half * d) (a / half * d) (a * d) (halves a d) bound
      where
        go : (x y n : ℕ) → n ≡ half * y + x → n ≤ 2305843095113039872 * 4294967295 → (x + word) / half + y < P
        go x y n e h = omega arith

pub gather_law : (word a d : ℕ) → Digit word a d
    → lowered (a % half * d + word + half * (a / half * d)) ≡ gathered word a d
gather_law word a d g = ap lowered e
  where
    e : a % half * d + word + half * (a / half * d) ≡ word + a * d
    e = omega (arith, g.whole)

-- ---- a k with an inverse j modulo m
module _ (m j k c : ℕ) (inv : k * j ≡ 1 + m * c) where
  -- what was divided by k, times k
  restored : (x : ℕ) → (k * ((x * j) % m)) % m ≡ x % m
  restored x = mul_mod_r m k (x * j) ∙ same m (k * (x * j)) x 0 (c * x) e
    where
      s : k * j * x ≡ (1 + m * c) * x
      s = ap (λ z. z * x) inv

      e : k * (x * j) + m * 0 ≡ x + m * (c * x)
      e = omega (arith, s)

  -- x divided by k twice, and y, which joins it in between, once
  twice : (x y : ℕ) → (((x * j) % m + y) * j) % m ≡ ((x + k * y) * (j * j)) % m
  twice x y =
      sym (mul_mod_l m ((x * j) % m + y) j)
      ∙ ap (λ z. (z * j) % m) (mod-add-mod (x * j) m y)
      ∙ mul_mod_l m (x * j + y) j
      ∙ same m ((x * j + y) * j) ((x + k * y) * (j * j)) (c * (y * j)) 0 e
    where
      s : k * j * (y * j) ≡ (1 + m * c) * (y * j)
      s = ap (λ z. z * (y * j)) inv

      e : (x * j + y) * j + m * (c * (y * j)) ≡ (x + k * y) * (j * j) + m * 0
      e = omega (arith, s)

pub restore_half : (v : ℕ) → (half * lowered v) % P ≡ v % P
restore_half v = restored P half_inverse half 4294967295 refl v

restore_unit : (v : ℕ) → (2 ^ 64 * divided v) % P ≡ v % P
restore_unit v = restored P unit_inverse (2 ^ 64) 2305843095113039871 refl v

-- no two words below p stand for one element
pub divided_unique : (u v : ℕ) → Canonical u → Canonical v → divided u ≡ divided v → u ≡ v
divided_unique u v hu hv e =
    sym (mod-eq_of_lt hu)
    ∙ sym (restore_unit u)
    ∙ ap (λ z. (2 ^ 64 * z) % P) e
    ∙ restore_unit v
    ∙ mod-eq_of_lt hv

-- two divisions by 2^32 are one by 2^64
pub lowered_twice : (x y : ℕ) → lowered (lowered x + y) ≡ divided (x + half * y)
lowered_twice x y =
    twice P half_inverse half 4294967295 refl x y ∙ sym (mul_mod_r P (x + half * y) (half_inverse * half_inverse))

module _ (a b : ℕ) (small : b < 2 ^ 64) where
  -- the words that the two calls leave; the top digit needs no remainder
  pub first_word : (r : ℕ) → r ≡ gathered 0 a (b % half) → r ≡ form_word a b 1
  unfolding form_word
  first_word r e = e ∙ ap (λ z. gathered 0 a (z % half)) (sym (div-one b))

  pub second_word : (u r : ℕ) → u ≡ form_word a b 1 → r ≡ gathered u a (b / half) → r ≡ form_word a b 2
  unfolding form_word
  second_word u r eu e =
      e ∙ ap (λ z. gathered z a (b / half)) eu ∙ ap (gathered (form_word a b 1) a) (sym (mod-eq_of_lt top))
    where
      top : b / half < half
      top = omega arith

  first : form_word a b 1 ≡ gathered 0 a (b % half)
  first = sym (first_word (gathered 0 a (b % half)) refl)

  -- two steps gather the whole
  pub whole_form : form_word a b 2 ≡ times_word a b
  unfolding times_word
  whole_form =
      sym (second_word (gathered 0 a (b % half)) (gathered (gathered 0 a (b % half)) a (b / half)) (sym first) refl)
      ∙ lowered_twice (0 + a * (b % half)) (a * (b / half))
      ∙ ap divided (joined (b % half) (b / half) (omega arith))
    where
      joined : (b₀ b₁ : ℕ) → b ≡ half * b₁ + b₀ → 0 + a * b₀ + half * (a * b₁) ≡ a * b
      joined b₀ b₁ e = sym (ap (λ z. a * z) e ∙ omega arith)

  -- after each step the word is the part gathered so far, at its scale
  pub form_is_part : (i : ℕ) → i ≤ 2 → (2 ^ (32 * i) * form_word a b i) % P ≡ form_part a b i % P
  unfolding form_word times_word
  form_is_part zero h = start ∙ ap (λ z. (a * z) % P) (sym (mod-one b))
    where
      start : 0 ≡ (a * 0) % P
      start = omega arith
  form_is_part (suc zero) h =
      ap (λ z. (half * z) % P) first ∙ restore_half (0 + a * (b % half)) ∙ ap (λ z. z % P) (zero-add (a * (b % half)))
  form_is_part (suc (suc zero)) h =
      ap (λ z. (2 ^ 64 * z) % P) whole_form ∙ restore_unit (a * b) ∙ ap (λ z. (a * z) % P) (sym (mod-eq_of_lt small))
  form_is_part (suc (suc (suc i))) h = absurd (omega arith)

pub form_canonical : (a b i : ℕ) → Canonical (form_word a b i)
unfolding form_word
form_canonical a b zero = omega arith
form_canonical a b (suc i) =
    mod-lt ((form_word a b i + a * (b / 2 ^ (32 * i) % 2 ^ 32)) * half_inverse) (omega arith)
