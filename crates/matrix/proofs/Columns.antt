-- Columns of n numbers below m are finitely many, so a matrix that takes no two to the same one reaches all of them.
-- Assumes nothing.
use Prim.Native.Nat.{ℕ, zero, suc, ◌+◌, ◌*◌, ◌/◌, ◌%◌, ◌^◌, ◌<◌}
use mathlib.Core.Path.{◌≡◌, refl, sym, ap, ap₂, ◌∙◌, subst}
use mathlib.Core.Logic.{◌⊎◌, inl, inr, ⊎_elim}
use native.Mathlib.Nat.{le-suc_iff, mod-lt, mul-zero, mod-eq_of_lt, pow-zero, pow-suc, pow-succ'}
use native.Mathlib.Nat.{mod-add-div, add-mul-mod_self_left, add-mul-div_left, div-eq_of_lt}
use native.Mathlib.Nat.{zero-mod, zero-add, zero-div, mul-le-mul_left, div-lt_iff_lt-mul}
use native.Mathlib.Decide.{ℕ_discrete}
use native.Mathlib.Omega.{arith}
use Rattle.field.proofs.Pigeon.{pigeon, put, Inj}
use Rattle.matrix.proofs.Linear.{row, Same}

-- ---- an injection of the numbers below n reaches each of them
pub find : (F : ℕ → ℕ) (t n : ℕ) → ((v : ℕ) × (v < n) × (F v ≡ t)) ⊎ ((v : ℕ) → v < n → F v ≡ t → ⊥)
find F t zero = inr (λ k h e. absurd (omega arith))
find F t (suc n) = go (ℕ_discrete (F n) t) (find F t n)
  where
    go : Dec (F n ≡ t) → ((v : ℕ) × (v < n) × (F v ≡ t)) ⊎ ((v : ℕ) → v < n → F v ≡ t → ⊥)
        → ((v : ℕ) × (v < suc n) × (F v ≡ t)) ⊎ ((v : ℕ) → v < suc n → F v ≡ t → ⊥)
    go (yes e) r = inl (n, omega arith, e)
    go (no e) (inl r) = inl (r.0, omega arith, r.2)
    go (no e) (inr f) =
        inr
        (λ k h q. ⊎_elim (λ (l : k < n). f k l q) (λ (l : suc k ≡ suc n). e (ap F (omega arith) ∙ q)) (le-suc_iff.0 h))

onto : (n : ℕ) (F : ℕ → ℕ) → ((i : ℕ) → i < n → F i < n) → Inj n F → (t : ℕ) → t < n → (v : ℕ) × (v < n) × (F v ≡ t)
onto n F low inj t ht =
    ⊎_elim (λ (r : (v : ℕ) × (v < n) × (F v ≡ t)). r)
    (λ (f : (v : ℕ) → v < n → F v ≡ t → ⊥). absurd (pigeon n h h_low (h_inj f))) (find F t n)
  where
    h : ℕ → ℕ
    h i = put (ℕ_discrete i n) t (F i)

    h_low : (i : ℕ) → i < suc n → h i < n
    h_low i a = go (ℕ_discrete i n)
      where
        go : (d : Dec (i ≡ n)) → put d t (F i) < n
        go (yes e) = ht
        go (no e) = low i (omega arith)

    h_inj : ((v : ℕ) → v < n → F v ≡ t → ⊥) → Inj (suc n) h
    h_inj f i j hi hj = go (ℕ_discrete i n) (ℕ_discrete j n)
      where
        go : (d : Dec (i ≡ n)) (e : Dec (j ≡ n)) → put d t (F i) ≡ put e t (F j) → i ≡ j
        go (yes a) (yes b) q = omega arith
        go (yes a) (no b) q = absurd (f j (omega arith) (sym q))
        go (no a) (yes b) q = absurd (f i (omega arith) q)
        go (no a) (no b) q = inj i j (omega arith) (omega arith) q

-- ---- a column as the digits of a number

-- the number whose n digits to the base m are x 0, x 1, .., lowest first
pub enc : ℕ → ℕ → (ℕ → ℕ) → ℕ
enc m zero x = 0
enc m (suc n) x = x 0 + m * enc m n (λ i. x (suc i))

-- digit i of v
pub dec : ℕ → ℕ → ℕ → ℕ
dec m v zero = v % m
dec m v (suc i) = dec m (v / m) i

pub enc_zeros : (m n : ℕ) (x : ℕ → ℕ) → ((i : ℕ) → i < n → x i ≡ 0) → enc m n x ≡ 0
unfolding enc
enc_zeros m zero x h = refl
enc_zeros m (suc n) x h =
    ap₂ (λ a b. a + m * b) (h 0 (omega arith)) (enc_zeros m n (λ i. x (suc i)) (λ i l. h (suc i) (omega arith)))
    ∙ ap (λ y. 0 + y) (mul-zero m)

pub dec_zero : (m i : ℕ) → dec m 0 i ≡ 0
unfolding dec
dec_zero m zero = zero-mod m
dec_zero m (suc i) = ap (λ v. dec m v i) (zero-div m) ∙ dec_zero m i

module _ (m : ℕ) (big : 1 < m) where
  pub enc_lt : (n : ℕ) (x : ℕ → ℕ) → ((i : ℕ) → i < n → x i < m) → enc m n x < m ^ n
  unfolding enc
  enc_lt zero x h = omega (arith, pow-zero m)
  enc_lt (suc n) x h =
      grow (enc m n (λ i. x (suc i))) (m ^ n) (enc_lt n (λ i. x (suc i)) (λ i l. h (suc i) (omega arith)))
      (pow-succ' m n)
    where
      grow : (e p : ℕ) → e < p → m ^ suc n ≡ m * p → x 0 + m * e < m ^ suc n
      grow e p l q = omega (arith, q, h 0 (omega arith), mul-le-mul_left m l)

  pub dec_lt : (v i : ℕ) → dec m v i < m
  unfolding dec
  dec_lt v zero = mod-lt v (omega arith)
  dec_lt v (suc i) = dec_lt (v / m) i

  pub dec_enc : (n : ℕ) (x : ℕ → ℕ) → ((i : ℕ) → i < n → x i < m) → (i : ℕ) → i < n → dec m (enc m n x) i ≡ x i
  unfolding enc dec
  dec_enc zero x h i l = absurd (omega arith)
  dec_enc (suc n) x h zero l =
      add-mul-mod_self_left (x 0) m (enc m n (λ i. x (suc i))) ∙ mod-eq_of_lt (h 0 (omega arith))
  dec_enc (suc n) x h (suc i) l =
      ap (λ v. dec m v i) q ∙ dec_enc n (λ i. x (suc i)) (λ i l. h (suc i) (omega arith)) i (omega arith)
    where
      e : ℕ
      e = enc m n (λ k. x (suc k))

      q : (x 0 + m * e) / m ≡ e
      q = add-mul-div_left (x 0) e (omega arith) ∙ ap (λ y. y + e) (div-eq_of_lt (h 0 (omega arith))) ∙ zero-add e

  -- two numbers with the same digits are equal
  pub dec_inj : (n v w : ℕ) → v < m ^ n → w < m ^ n → ((i : ℕ) → i < n → dec m v i ≡ dec m w i) → v ≡ w
  unfolding dec
  dec_inj zero v w a b h = omega (arith, pow-zero m)
  dec_inj (suc n) v w a b h =
      sym (mod-add-div v m)
      ∙ ap₂ (λ r q. r + m * q) (h 0 (omega arith))
      (dec_inj n (v / m) (w / m) (low v a) (low w b) (λ i l. h (suc i) (omega arith)))
      ∙ mod-add-div w m
    where
      low : (u : ℕ) → u < m ^ suc n → u / m < m ^ n
      low u g = (div-lt_iff_lt-mul {k = m} {x = u} {y = m ^ n} (omega arith)).1 (subst (λ y. u < y) (pow-suc m n) g)

  -- what a matrix makes of the column of digits of v
  module _ (n : ℕ) (b : ℕ → ℕ → ℕ) where
    abbrev pub image : ℕ → ℕ → ℕ
    image v i = row n b (dec m v) i % m

    pub image_lt : (v i : ℕ) → i < n → image v i < m
    image_lt v i l = mod-lt (row n b (dec m v) i) (omega arith)

  -- a matrix that takes no two columns to the same one takes some column to each
  module _ (n : ℕ) (b : ℕ → ℕ → ℕ) (inj : (x y : ℕ → ℕ) → Same m n (row n b x) (row n b y) → Same m n x y) where
    F : ℕ → ℕ
    F v = enc m n (image n b v)

    F_inj : Inj (m ^ n) F
    unfolding F
    F_inj v w hv hw e =
        dec_inj n v w hv hw
        (λ i l. sym (mod-eq_of_lt (dec_lt v i)) ∙ inj (dec m v) (dec m w) same i l ∙ mod-eq_of_lt (dec_lt w i))
      where
        same : Same m n (row n b (dec m v)) (row n b (dec m w))
        same i l =
            sym (dec_enc n (image n b v) (image_lt n b v) i l)
            ∙ ap (λ u. dec m u i) e
            ∙ dec_enc n (image n b w) (image_lt n b w) i l

    -- its cells are below m
    pub reach : (y : ℕ → ℕ) → (x : ℕ → ℕ) × Same m n (row n b x) y × ((i : ℕ) → x i < m)
    unfolding F
    reach y = (
      dec m r.0,
      (λ i l. sym (dec_enc n (image n b r.0) (image_lt n b r.0) i l)
          ∙ ap (λ u. dec m u i) r.2
          ∙ dec_enc n (λ k. y k % m) (λ k g. mod-lt (y k) (omega arith)) i l),
      dec_lt r.0,
    )
      where
        r : (v : ℕ) × (v < m ^ n) × (F v ≡ enc m n (λ k. y k % m))
        r =
            onto (m ^ n) F (λ v h. enc_lt n (image n b v) (image_lt n b v)) F_inj (enc m n (λ k. y k % m))
            (enc_lt n (λ k. y k % m) (λ k g. mod-lt (y k) (omega arith)))
