-- The list of tests is in document 01's order: rows of the whole trace rising, constraint numbers rising within a row.
-- Assumes nothing.
use mathlib.Core.Path.{◌≡◌, refl, sym}
use mathlib.Core.Bool.{Bool, true, false}
use mathlib.Core.Logic.{⊎_elim}
use mathlib.Core.List.Memᴰ
use mathlib.Core.List.{List, [], ◌∷◌, ◌++◌, Memᴰ}
use Prim.Native.Nat.{ℕ, zero, suc, ◌+◌, ◌*◌, ◌<◌}
use native.Mathlib.Omega.{arith}
use Rattle.check_constraints.specs.Constraints.{Test, keep, applies, row_tests, tests_from, tests}
use Rattle.check_constraints.proofs.TestList.{in_row, in_rows}

-- a test that comes before another: at an earlier row, or at the same row with a lower constraint number
pub data Earlier (x y : Test) : Type 0 where
  by_row : x.at < y.at → Earlier x y
  by_number : x.at ≡ y.at → x.number < y.number → Earlier x y

-- a list in which each test comes before all that follow it
pub data Rising : List Test → Type 0 where
  none : Rising []
  more : {x : Test} {xs : List Test} → ((y : Test) → Memᴰ y xs → Earlier x y) → Rising xs → Rising (x ∷ xs)

joined : {xs : List Test} (ys : List Test) → Rising xs → Rising ys
    → ((x y : Test) → Memᴰ x xs → Memᴰ y ys → Earlier x y) → Rising (xs ++ ys)
joined ys none r h = r
joined ys (more {x = x} {xs = xs} f p) r h =
    more (λ y m. ⊎_elim (f y) (h x y (Memᴰ.head refl)) (Memᴰ.append_cases xs m))
    (joined ys p r (λ z y a b. h z y (Memᴰ.tail a) b))

row_rising : (k c i q n : ℕ) → Rising (row_tests k c i q n)
unfolding row_tests
row_rising k c i q zero = none
row_rising k c i q (suc n) = go (applies k c i q) (row_rising k c i (q + 1) n)
  where
    go : (b : Bool) → Rising (row_tests k c i (q + 1) n)
        → Rising (keep b (record { at = i; number = q }) (row_tests k c i (q + 1) n))
    go true r =
        more {x = record { at = i; number = q }}
        (λ y m. (let s = in_row k c i (q + 1) n y m in by_number (sym s.0) (omega (arith, s.1)))) r
    go false r = r

rows_rising : (k c i n : ℕ) → Rising (tests_from k c i n)
unfolding tests_from
rows_rising k c i zero = none
rows_rising k c i (suc n) =
    joined (tests_from k c (i + 1) n) (row_rising k c i 1 52) (rows_rising k c (i + 1) n)
    (λ x y a b. by_row (omega (arith, (in_row k c i 1 52 x a).0, (in_rows k c (i + 1) n y b).0)))

pub in_order_lem : (k c : ℕ) → Rising (tests k c)
unfolding tests
in_order_lem k c = rows_rising k c 0 (32 * k)
