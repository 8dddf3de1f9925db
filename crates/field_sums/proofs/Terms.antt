-- A term of a sum of products: the bounds of its four products, and what they make up.
-- Assumes nothing.
use Rattle.std.proofs.Common.{◌≡◌, ℕ, ◌+◌, ◌-◌, ◌*◌, ◌/◌, ◌%◌, ◌^◌, ◌<◌, ◌≤◌, sym, ap, ◌∙◌, ap₂, add-zero, mul-le-mul}
use Rattle.std.proofs.Common.{arith}
use native.Mathlib.Nat.{mod-add-mod, mod-add-div}
use Rattle.field.specs.Field.{P, Canonical}
use Rattle.field.specs.Gathering.{lowered, gathered}
use Rattle.field.specs.MontgomeryHelpers.{half}
use Rattle.field.proofs.Steps.{same, halves, lowered_same, step_law}
use Rattle.field_sums.specs.TermHelpers.{Term, Loose, added, lowered_loose, loose_word}

-- the digits of x
abbrev pub lower_of : ℕ → ℕ
lower_of x = x % 2147483648

abbrev pub upper_of : ℕ → ℕ
upper_of x = x / 2147483648 % half

-- what is added below 2^64, and above it at 2^32
abbrev pub below_of : ℕ → ℕ → ℕ → ℕ → ℕ
below_of word low high x = word + low % half * lower_of x + high % half * upper_of x

abbrev pub above_of : ℕ → ℕ → ℕ → ℕ
above_of low high x = low / half * lower_of x + high / half * upper_of x

pub record Bounds (word low high x : ℕ) : Type 0 where
  pub lower_lower : low % half * lower_of x ≤ 4294967295 * 2147483647
  pub upper_lower : high % half * upper_of x ≤ 4294967295 * 1073741864
  pub lower_upper : low / half * lower_of x ≤ 536870932 * 2147483647
  pub upper_upper : high / half * upper_of x ≤ 536870932 * 1073741864
  pub close : below_of word low high x / half + above_of low high x ≤ 1729382343346488011
  pub whole : added word low x ≡ below_of word low high x + half * above_of low high x

-- the digits of x put together
digits : (word low x : ℕ) → added word low x % P ≡ (word + low * x) % P
digits word low x =
    go P (x % 2 ^ 31) (x / 2 ^ 31) (2 ^ 31 * low % P) (2 ^ 31 * low / P) (omega arith)
    (sym (mod-add-div (2 ^ 31 * low) P))
  where
    go : (p d₀ d₁ high k : ℕ) → x ≡ d₀ + 2 ^ 31 * d₁ → 2 ^ 31 * low ≡ high + p * k
        → (word + low * d₀ + high * d₁) % p ≡ (word + low * x) % p
    go p d₀ d₁ high k ex el = same p (word + low * d₀ + high * d₁) (word + low * x) (k * d₁) 0 w
      where
        f : 2 ^ 31 * low * d₁ ≡ (high + p * k) * d₁
        f = ap (λ z. z * d₁) el

        g : low * x ≡ low * (d₀ + 2 ^ 31 * d₁)
        g = ap (λ z. low * z) ex

        w : word + low * d₀ + high * d₁ + p * (k * d₁) ≡ word + low * x + p * 0
        w = omega (arith, f, g)

module _ (word low high x : ℕ) (t : Term word low high x) where
  high_canonical : Canonical high
  high_canonical = omega (arith, t.raised)

  products_low : low * lower_of x + high * upper_of x ≤ 2305843095113039872 * 3221225511
  products_low = omega (arith, u, v)
    where
      u : low * lower_of x ≤ 2305843095113039872 * 2147483647
      u = mul-le-mul {n₂ = 2305843095113039872} {m₂ = 2147483647} (omega (arith, t.first)) (omega arith)

      v : high * upper_of x ≤ 2305843095113039872 * 1073741864
      v =
          mul-le-mul {n₂ = 2305843095113039872} {m₂ = 1073741864} (omega (arith, high_canonical))
          (omega (arith, t.second))

  joined : below_of word low high x + half * above_of low high x ≡ word + (low * lower_of x + high * upper_of x)
  joined = omega (arith, halves low (lower_of x), halves high (upper_of x))

  whole : added word low x ≡ below_of word low high x + half * above_of low high x
  whole = ap₂ (λ h d. word + low * lower_of x + h * d) (sym t.raised) top ∙ turned (low * lower_of x) _ ∙ sym joined
    where
      top : x / 2 ^ 31 ≡ upper_of x
      top = omega (arith, t.second)

      turned : (a b : ℕ) → word + a + b ≡ word + (a + b)
      turned a b = omega arith

  pub bounds : Bounds word low high x
  bounds = record {
    lower_lower = mul-le-mul {n₂ = 4294967295} {m₂ = 2147483647} (omega arith) (omega arith);
    upper_lower = mul-le-mul {n₂ = 4294967295} {m₂ = 1073741864} (omega arith) (omega (arith, t.second));
    lower_upper = mul-le-mul {n₂ = 536870932} {m₂ = 2147483647} (omega (arith, t.first)) (omega arith);
    upper_upper =
        mul-le-mul {n₂ = 536870932} {m₂ = 1073741864} (omega (arith, high_canonical)) (omega (arith, t.second));
    close = below (low % half * lower_of x) (high % half * upper_of x) _ _ t.so_far joined products_low;
    whole = whole;
  }
    where
      below : (a b z n : ℕ) → Loose word → word + a + b + half * z ≡ word + n → n ≤ 2305843095113039872 * 3221225511
          → (word + a + b) / half + z ≤ 1729382343346488011
      below a b z n h e l = omega arith

-- ---- the word between the two terms of a step
pub canonical_loose : (v : ℕ) → Canonical v → Loose v
canonical_loose v h = omega arith

pub loose_low : (y l : ℕ) → y ≤ 1729382343346488011 → Loose (y + P - l * 536870932)
loose_low y l h = omega arith

-- v by its parts above and below 2^32
loose_parts : (v y l : ℕ) → l < half → v ≡ half * y + l → y + P - l * 536870932 ≡ lowered_loose v
loose_parts v y l h e = below ∙ sym (ap (λ d. (v + P * (half - d)) / half) rest ∙ ap (λ n. n / half) whole ∙ quotient _)
  where
    rest : v % half ≡ l
    rest = omega arith

    below : y + P - l * 536870932 ≡ y + 536870932 * (half - l) + 1
    below = omega arith

    whole : v + P * (half - l) ≡ half * (y + 536870932 * (half - l) + 1)
    whole = omega arith

    quotient : (n : ℕ) → half * n / half ≡ n
    quotient n = omega arith

-- the word that the code makes
pub loose_is : (word low high x : ℕ) → Bounds word low high x
    → below_of word low high x / half + above_of low high x + P - below_of word low high x % half * 536870932
    ≡ loose_word word low x
unfolding loose_word
loose_is word low high x b =
    go (below_of word low high x) (above_of low high x) (added word low x) b.whole
  where
    go : (t more v : ℕ) → v ≡ t + half * more → t / half + more + P - t % half * 536870932 ≡ lowered_loose v
    go t more v e = loose_parts v (t / half + more) (t % half) (omega arith) (omega arith)

-- it is that after the first term but for a multiple of p
loose_lowered : (v : ℕ) → lowered_loose v % P ≡ lowered v
loose_lowered v =
    ap (λ z. z % P) (sym (loose_parts v (v / half + 0) (v % half) (omega arith) (omega arith)))
    ∙ ap (λ z. z % P) (turned (v / half + 0) (v % half) (omega arith))
    ∙ step_law v 0
    ∙ ap lowered (add-zero v)
  where
    turned : (y l : ℕ) → l < half → y + P - l * 536870932 ≡ y + (P - l * 536870932)
    turned y l h = omega arith

pub loose_same : (word low x : ℕ) → loose_word word low x % P ≡ gathered word low x
unfolding loose_word
loose_same word low x =
    loose_lowered (added word low x) ∙ lowered_same (added word low x) (word + low * x) (digits word low x)

-- and the second term takes it as that
pub gathered_loose : (u v low x : ℕ) → u % P ≡ v → gathered u low x ≡ gathered v low x
gathered_loose u v low x e =
    lowered_same (u + low * x) (v + low * x)
    (sym (mod-add-mod u P (low * x)) ∙ ap (λ z. (z + low * x) % P) e)
