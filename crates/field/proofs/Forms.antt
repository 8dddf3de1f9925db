-- Montgomery's form: a product divided by 2^64 is the product of the elements that its factors stand for.
-- Assumes nothing.
use Prim.Native.Nat.{ℕ, ◌*◌, ◌%◌, ◌^◌, ◌<◌}
use mathlib.Core.Path.{◌≡◌, refl, sym, ap, ◌∙◌}
use native.Mathlib.Nat.{mod-lt, mod-eq_of_lt, mul-one, mul_comm, mul_assoc}
use native.Mathlib.Omega.{arith}
use Rattle.field.specs.Field.{P, mul}
use Rattle.field.specs.MontgomeryHelpers.{divided, times_word, enter_word, unit_inverse, unit_square}
use Rattle.field.proofs.Modular.{mul_mod_l, mul_mod_r}

-- 2^64 and its inverse
inverse_of_unit : (2 ^ 64 * unit_inverse) % P ≡ 1
inverse_of_unit = refl

pub divided_lt : (v : ℕ) → divided v < P
divided_lt v = mod-lt (v * unit_inverse) (omega arith)

-- the word of a product stands for the product of the elements
pub divided_times : (a b : ℕ) → divided (times_word a b) ≡ mul (divided a) (divided b)
unfolding times_word
divided_times a b = go unit_inverse
  where
    go : (i : ℕ) → ((a * b * i) % P * i) % P ≡ ((a * i) % P * ((b * i) % P)) % P
    go i =
        mul_mod_l P (a * b * i) i
        ∙ ap (λ z. z % P) s
        ∙ sym (mul_mod_l P (a * i) (b * i))
        ∙ sym (mul_mod_r P ((a * i) % P) (b * i))
      where
        s : a * b * i * i ≡ a * i * (b * i)
        s = omega arith

pub times_divided : (a b r : ℕ) → r ≡ times_word a b → divided r ≡ mul (divided a) (divided b)
times_divided a b r e = ap divided e ∙ divided_times a b

pub times_lt : (a b : ℕ) → times_word a b < P
unfolding times_word
times_lt a b = divided_lt (a * b)

pub times_comm : (a b : ℕ) → times_word a b ≡ times_word b a
unfolding times_word
times_comm a b = ap divided (mul_comm a b)

-- ---- into the form and out of it
pub divided_enter : (x : ℕ) → x < P → divided (enter_word x) ≡ x
divided_enter x h =
    divided_times x unit_square
    ∙ mul_mod_l P (x * unit_inverse) 2305842407918272505
    ∙ ap (λ z. z % P) (mul_assoc x unit_inverse 2305842407918272505)
    ∙ sym (mul_mod_r P x (unit_inverse * 2305842407918272505))
    ∙ ap (λ z. z % P) (mul-one x)
    ∙ mod-eq_of_lt h

pub times_one_word : (v : ℕ) → times_word v 1 ≡ divided v
unfolding times_word
times_one_word v = ap divided (mul-one v)

-- a product in the form, of which one factor is taken as the element that it stands for
pub times_scaled : (x v : ℕ) → times_word x v ≡ mul x (divided v)
unfolding times_word
times_scaled x v = ap (λ z. z % P) (mul_assoc x v unit_inverse) ∙ sym (mul_mod_r P x (v * unit_inverse))

-- a product in the form, of which one factor was brought into it
pub times_entered : (x c : ℕ) → c < P → times_word x (enter_word c) ≡ mul c x
times_entered x c h =
    times_scaled x (enter_word c)
    ∙ ap (mul x) (divided_enter c h)
    ∙ ap (λ z. z % P) (mul_comm x c)
