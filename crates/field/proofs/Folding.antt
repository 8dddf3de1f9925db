-- A product by digits of 21 bits, from the top: what lies above 2^61 is folded, since 2^61 is -(20 * 2^32 + 1).
-- Assumes nothing.
use Prim.Native.Nat.{ℕ, zero, suc, ◌+◌, ◌*◌, ◌-◌, ◌/◌, ◌%◌, ◌^◌, ◌<◌, ◌≤◌}
use mathlib.Core.Path.{◌≡◌, sym, ap, ◌∙◌}
use native.Mathlib.Nat.{mod-add-mod, mod-lt, mod-eq_of_lt, div-one, mul-le-mul}
use native.Mathlib.Omega.{arith}
use Rattle.field.specs.Field.{P, Canonical, sub, mul}
use Rattle.field.specs.Gathering.{appended, product_word, product_part}
use Rattle.field.specs.MontgomeryHelpers.{half}
use Rattle.field.proofs.Modular.{mul_mod_r}
use Rattle.field.proofs.Steps.{same, halves}

-- ---- a canonical word times a digit: its two products
pub record Digit (a d : ℕ) : Type 0 where
  pub low : a % half * d ≤ 4294967295 * 2097151
  pub high : a / half * d ≤ 536870932 * 2097151
  pub whole : a * d ≡ half * (a / half * d) + a % half * d

pub digit : (a d : ℕ) → Canonical a → d < 2 ^ 21 → Digit a d
digit a d ha hd = record { low = low; high = high; whole = halves a d }
  where
    low : a % half * d ≤ 4294967295 * 2097151
    low = mul-le-mul {n₂ = 4294967295} {m₂ = 2097151} (omega arith) (omega arith)

    high : a / half * d ≤ 536870932 * 2097151
    high = mul-le-mul {n₂ = 536870932} {m₂ = 2097151} (omega arith) (omega arith)

-- what is kept below 2^61, and what is folded
pub kept_low : (u l : ℕ) → u % 1099511627776 * 2097152 + l % 2097152 < 2 ^ 61
kept_low u l = omega arith

pub upper_low : (word l h : ℕ) → word < P → l ≤ 4294967295 * 2097151 → h ≤ 536870932 * 2097151
    → h * 2048 + l / 2097152 + word < 2 ^ 63
upper_low word l h hw hl hh = omega arith

pub fold_low : (u : ℕ) → u < 2 ^ 63 → u / 1099511627776 * 85899345921 < P
fold_low u h = omega arith

balance : (word l h n u : ℕ) → u ≡ h * 2048 + l / 2097152 + word → n ≡ half * h + l
    → u / 1099511627776 * 85899345921 < P
    → u % 1099511627776 * 2097152 + l % 2097152 + (P - u / 1099511627776 * 85899345921) + P * (u / 1099511627776)
    ≡ 2 ^ 21 * word + n + P * 1
balance word l h n u eu en f = omega arith

pub append_law : (word l h n u : ℕ) → u ≡ h * 2048 + l / 2097152 + word → n ≡ half * h + l
    → u / 1099511627776 * 85899345921 < P
    → sub (u % 1099511627776 * 2097152 + l % 2097152) (u / 1099511627776 * 85899345921) ≡ (2 ^ 21 * word + n) % P
append_law word l h n u eu en f = same P _ (2 ^ 21 * word + n) (u / 1099511627776) 1 (balance word l h n u eu en f)

-- ---- the part gathered, with one digit more
next : (a n word : ℕ) → word ≡ mul a (n / 2097152) → appended word a (n % 2097152) ≡ mul a n
next a n word e =
    ap (λ z. appended z a (n % 2097152)) e
    ∙ sym (mod-add-mod (2 ^ 21 * mul a (n / 2097152)) P (a * (n % 2097152)))
    ∙ ap (λ z. (z + a * (n % 2097152)) % P) (mul_mod_r P (2 ^ 21) (a * (n / 2097152)))
    ∙ mod-add-mod (2 ^ 21 * (a * (n / 2097152))) P (a * (n % 2097152))
    ∙ ap (λ z. z % P) (joined (n % 2097152) (n / 2097152) (omega arith))
  where
    joined : (n₀ n₁ : ℕ) → n ≡ 2 ^ 21 * n₁ + n₀ → 2 ^ 21 * (a * n₁) + a * n₀ ≡ a * n
    joined n₀ n₁ e' = sym (ap (λ z. a * z) e' ∙ omega arith)

module _ (a b : ℕ) (small : b < 2 ^ 63) where
  none : product_word a b 0 ≡ mul a (b / 4398046511104 / 2097152)
  unfolding product_word
  none = start ∙ ap (mul a) z
    where
      start : 0 ≡ mul a 0
      start = omega arith

      z : 0 ≡ b / 4398046511104 / 2097152
      z = omega arith

  first : product_word a b 1 ≡ mul a (b / 4398046511104)
  unfolding product_word
  first = next a (b / 4398046511104) 0 none

  second : product_word a b 2 ≡ mul a (b / 2097152)
  unfolding product_word
  second = next a (b / 2097152) (product_word a b 1) (first ∙ ap (mul a) e)
    where
      e : b / 4398046511104 ≡ b / 2097152 / 2097152
      e = omega arith

  -- three steps gather the whole
  pub whole_product : product_word a b 3 ≡ mul a b
  unfolding product_word
  whole_product =
      ap (λ z. appended (product_word a b 2) a (z % 2097152)) (div-one b) ∙ next a b (product_word a b 2) second

  -- after each step the word is the part gathered so far
  pub word_is_part : (i : ℕ) → i ≤ 3 → product_word a b i ≡ product_part a b i % P
  word_is_part zero h = none ∙ ap (mul a) e
    where
      e : b / 4398046511104 / 2097152 ≡ b / 2 ^ 63
      e = omega arith
  word_is_part (suc zero) h = first
  word_is_part (suc (suc zero)) h = second
  word_is_part (suc (suc (suc zero))) h = whole_product ∙ ap (mul a) (sym (div-one b))
  word_is_part (suc (suc (suc (suc i)))) h = absurd (omega arith)

  -- the words that the three calls leave; the top digit needs no remainder
  pub first_word : (r : ℕ) → r ≡ appended 0 a (b / 4398046511104) → r ≡ product_word a b 1
  unfolding product_word
  first_word r e = e ∙ ap (appended 0 a) (sym (mod-eq_of_lt top))
    where
      top : b / 4398046511104 < 2097152
      top = omega arith

  pub second_word : (u r : ℕ) → u ≡ product_word a b 1 → r ≡ appended u a (b / 2097152 % 2097152) → r ≡ product_word a b 2
  unfolding product_word
  second_word u r eu e = e ∙ ap (λ z. appended z a (b / 2097152 % 2097152)) eu

  pub third_word : (u r : ℕ) → u ≡ product_word a b 2 → r ≡ appended u a (b % 2097152) → r ≡ product_word a b 3
  unfolding product_word
  third_word u r eu e =
      e
      ∙ ap (λ z. appended z a (b % 2097152)) eu
      ∙ ap (λ z. appended (product_word a b 2) a (z % 2097152)) (sym (div-one b))

pub word_canonical : (a b i : ℕ) → Canonical (product_word a b i)
unfolding product_word
word_canonical a b zero = omega arith
word_canonical a b (suc i) = mod-lt (2 ^ 21 * product_word a b i + a * (b / 2 ^ (21 * (2 - i)) % 2 ^ 21)) (omega arith)
