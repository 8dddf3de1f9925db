-- Finite sums, by induction: they add, take factors out, swap and split, and terms that are 0 may be left out.
-- Assumes nothing.
use Prim.Native.Nat.{ℕ, zero, suc, ◌+◌, ◌*◌, ◌<◌, ◌≤◌}
use mathlib.Core.Path.{◌≡◌, refl, sym, ap, ap₂, ◌∙◌}
use native.Mathlib.Nat.{add-zero, add-suc}
use native.Mathlib.Decide.{ℕ_discrete}
use native.Mathlib.Omega.{arith}
use Rattle.lists.specs.Lists.{sum}

pub sum_zero : (f : ℕ → ℕ) → sum 0 f ≡ 0
unfolding sum
sum_zero f = refl

pub sum_suc : (n : ℕ) (f : ℕ → ℕ) → sum (suc n) f ≡ sum n f + f n
unfolding sum
sum_suc n f = refl

pub sum_ext : (n : ℕ) (f g : ℕ → ℕ) → ((i : ℕ) → i < n → f i ≡ g i) → sum n f ≡ sum n g
unfolding sum
sum_ext zero f g h = refl
sum_ext (suc n) f g h = ap₂ ◌+◌ (sum_ext n f g (λ i l. h i (omega arith))) (h n (omega arith))

pub sum_0 : (n : ℕ) → sum n (λ i. 0) ≡ 0
unfolding sum
sum_0 zero = refl
sum_0 (suc n) = omega (arith, sum_0 n)

pub all_0 : (n : ℕ) (f : ℕ → ℕ) → ((i : ℕ) → i < n → f i ≡ 0) → sum n f ≡ 0
all_0 n f h = sum_ext n f (λ i. 0) h ∙ sum_0 n

pub each_0 : (n : ℕ) (f : ℕ → ℕ) → sum n f ≡ 0 → (i : ℕ) → i < n → f i ≡ 0
unfolding sum
each_0 zero f e i h = absurd (omega arith)
each_0 (suc n) f e i h = go (λ z l. each_0 n f z i l) (ℕ_discrete i n)
  where
    go : (sum n f ≡ 0 → i < n → f i ≡ 0) → Dec (i ≡ n) → f i ≡ 0
    go before (yes q) = ap f q ∙ omega arith
    go before (no q) = before (omega arith) (omega arith)

pub sum_add : (n : ℕ) (f g : ℕ → ℕ) → sum n (λ i. f i + g i) ≡ sum n f + sum n g
unfolding sum
sum_add zero f g = refl
sum_add (suc n) f g = omega (arith, sum_add n f g)

pub sum_mul : (n c : ℕ) (f : ℕ → ℕ) → sum n (λ i. c * f i) ≡ c * sum n f
unfolding sum
sum_mul zero c f = omega arith
sum_mul (suc n) c f = omega (arith, sum_mul n c f)

pub sum_mul_r : (n c : ℕ) (f : ℕ → ℕ) → sum n (λ i. f i * c) ≡ sum n f * c
unfolding sum
sum_mul_r zero c f = omega arith
sum_mul_r (suc n) c f = omega (arith, sum_mul_r n c f)

pub sum_swap : (n k : ℕ) (f : ℕ → ℕ → ℕ) → sum n (λ i. sum k (λ j. f i j)) ≡ sum k (λ j. sum n (λ i. f i j))
unfolding sum
sum_swap zero k f = sym (sum_0 k)
sum_swap (suc n) k f =
    ap (λ y. y + sum k (λ j. f n j)) (sum_swap n k f) ∙ sym (sum_add k (λ j. sum n (λ i. f i j)) (λ j. f n j))

-- the sum over n + k splits
pub sum_split : (n k : ℕ) (f : ℕ → ℕ) → sum (n + k) f ≡ sum n f + sum k (λ i. f (n + i))
unfolding sum
sum_split n zero f = ap (λ y. sum y f) (add-zero n) ∙ e
  where
    e : sum n f ≡ sum n f + 0
    e = omega arith
sum_split n (suc k) f = ap (λ y. sum y f) (add-suc n k) ∙ ap (λ y. y + f (n + k)) (sum_split n k f) ∙ e
  where
    e : sum n f + sum k (λ i. f (n + i)) + f (n + k) ≡ sum n f + (sum k (λ i. f (n + i)) + f (n + k))
    e = omega arith

-- where all terms but the one at c are 0
pub sum_one : (n c : ℕ) (f : ℕ → ℕ) → c < n → ((i : ℕ) → i < n → (i ≡ c → ⊥) → f i ≡ 0) → sum n f ≡ f c
unfolding sum
sum_one zero c f l h = absurd (omega arith)
sum_one (suc n) c f l h = go (ℕ_discrete n c) (λ (b : c < n). sum_one n c f b (λ i g. h i (omega arith)))
  where
    go : Dec (n ≡ c) → (c < n → sum n f ≡ f c) → sum n f + f n ≡ f c
    go (yes e) rec = omega (arith, all_0 n f (λ i b. h i (omega arith) (λ q. omega arith)), ap f e)
    go (no e) rec = omega (arith, rec (omega arith), h n (omega arith) e)

-- where the terms from k on are 0
pub sum_short : (n k : ℕ) (f : ℕ → ℕ) → k ≤ n → ((i : ℕ) → k ≤ i → i < n → f i ≡ 0) → sum n f ≡ sum k f
unfolding sum
sum_short zero zero f l h = refl
sum_short zero (suc k) f l h = absurd (omega arith)
sum_short (suc n) k f l h = go (ℕ_discrete k (suc n)) (λ (b : k ≤ n). sum_short n k f b (λ i c d. h i c (omega arith)))
  where
    go : Dec (k ≡ suc n) → (k ≤ n → sum n f ≡ sum k f) → sum n f + f n ≡ sum k f
    go (yes e) rec = ap (λ y. sum y f) (sym e)
    go (no e) rec = omega (arith, rec (omega arith), h n (omega arith) (omega arith))
