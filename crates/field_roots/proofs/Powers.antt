-- Products and powers cell by cell: their cells, the words that stand for them, the step of the recursion that halves
-- the exponent, and the links of the chain by which cells are rooted.
-- Assumes nothing.
use mathlib.Core.Path.{◌≡◌, sym, ap, ap₂, ◌∙◌}
use mathlib.Core.List.{List}
use Prim.Native.Nat.{ℕ, ◌+◌, ◌*◌, ◌/◌, ◌%◌, ◌^◌, ◌<◌}
use native.Mathlib.Nat.{mul-one, mod-eq_of_lt}
use native.Mathlib.Omega.{arith}
use lib.ListN.{replicate, get_or-replicate}
use Rattle.lists.specs.Lists.{cell, tab}
use Rattle.lists.proofs.Tab.{cell_tab, tab_ext}
use Rattle.field.specs.Field.{P, mul, power, third, root}
use Rattle.field.specs.MontgomeryHelpers.{divided, times_word}
use Rattle.field.proofs.Forms.{divided_lt, divided_times, times_comm, times_scaled}
use Rattle.field.proofs.Modular.{pw_zero, pw_suc}
use Rattle.field.proofs.Power.{power_pw, power_add, power_mul, times_one, times_even, times_odd}
use Rattle.field_products.specs.CellHelpers.{word_products}
use Rattle.field_products.proofs.Products as word_products
use Rattle.field_roots.specs.PowerHelpers.{elements, products, powers}

cell_products : (a b : List ℕ) (j : ℕ) → j < 12 → cell (products a b) j ≡ mul (cell a j) (cell b j)
unfolding products
cell_products a b j h = cell_tab 12 (λ i. mul (cell a i) (cell b i)) j h

cell_powers : (x : List ℕ) (e j : ℕ) → j < 12 → cell (powers x e) j ≡ power (cell x j) e
unfolding powers
cell_powers x e j h = cell_tab 12 (λ i. power (cell x i) e) j h

cell_elements : (v : List ℕ) (j : ℕ) → j < 12 → cell (elements v) j ≡ divided (cell v j)
unfolding elements
cell_elements v j h = cell_tab 12 (λ i. divided (cell v i)) j h

-- ---- words that stand for cells
-- products stand for the products of the elements
pub elements_of_products : (a b : List ℕ) → elements (word_products a b) ≡ products (elements a) (elements b)
unfolding elements products
elements_of_products a b =
    tab_ext 12 (λ j. divided (cell (word_products a b) j)) (λ j. mul (cell (elements a) j) (cell (elements b) j))
    (λ j h. ap divided (word_products.cell_products a b j h)
    ∙ divided_times (cell a j) (cell b j)
    ∙ sym (ap₂ mul (cell_elements a j h) (cell_elements b j h)))

-- products with one word are the elements times it
pub left : (v : List ℕ) (f : ℕ) → word_products v (replicate 12 f) ≡ tab 12 (λ j. mul f (cell (elements v) j))
unfolding word_products
left v f =
    tab_ext 12 (λ j. times_word (cell v j) (cell (replicate 12 f) j)) (λ j. mul f (cell (elements v) j))
    (λ j h. ap (times_word (cell v j)) (get_or-replicate 12 j f 0 h)
    ∙ times_comm (cell v j) f
    ∙ times_scaled f (cell v j)
    ∙ ap (mul f) (sym (cell_elements v j h)))

-- ---- the recursion
pub powers_done : (v x : List ℕ) → elements v ≡ products (elements v) (powers x 0)
unfolding products elements
powers_done v x =
    tab_ext 12 (λ j. divided (cell v j)) (λ j. mul (cell (elements v) j) (cell (powers x 0) j))
    (λ j h. sym
    (ap₂ mul (cell_elements v j h) (cell_powers x 0 j h)
    ∙ times_one (divided (cell v j)) (cell x j) (divided_lt (cell v j))))

pub powers_even : (a x : List ℕ) (e : ℕ) → e < 2 ^ 64 → e % 2 ≡ 0
    → products a (powers (products x x) (e / 2)) ≡ products a (powers x e)
unfolding products
powers_even a x e h z =
    tab_ext 12 (λ j. mul (cell a j) (cell (powers (products x x) (e / 2)) j))
    (λ j. mul (cell a j) (cell (powers x e) j))
    (λ j l. times_even (cell a j) (cell x j) e _ _ h z (cell_products x x j l)
    (ap (mul (cell a j)) (cell_powers (products x x) (e / 2) j l))
    ∙ sym (ap (mul (cell a j)) (cell_powers x e j l)))

pub powers_odd : (a x : List ℕ) (e : ℕ) → e < 2 ^ 64 → e % 2 ≡ 1
    → products (products a x) (powers (products x x) (e / 2)) ≡ products a (powers x e)
unfolding products
powers_odd a x e h z =
    tab_ext 12 (λ j. mul (cell (products a x) j) (cell (powers (products x x) (e / 2)) j))
    (λ j. mul (cell a j) (cell (powers x e) j))
    (λ j l. times_odd (cell a j) (cell x j) e _ _ _ h z (cell_products a x j l) (cell_products x x j l)
    (ap (mul (cell (products a x) j)) (cell_powers (products x x) (e / 2) j l))
    ∙ sym (ap (mul (cell a j)) (cell_powers x e j l)))

-- ---- the chain
power_one : (x : ℕ) → x < P → power x 1 ≡ x
power_one x h =
    power_pw x 1 (omega arith)
    ∙ pw_suc P x 0
    ∙ ap (λ y. (x * y) % P) (pw_zero P x)
    ∙ ap (λ y. y % P) (mul-one x)
    ∙ mod-eq_of_lt h

pub first_link : (v : List ℕ) → elements v ≡ powers (elements v) 1
unfolding elements powers
first_link v =
    tab_ext 12 (λ j. divided (cell v j)) (λ j. power (cell (elements v) j) 1)
    (λ j h. sym
    (ap (λ y. power y 1) (cell_elements v j h) ∙ power_one (divided (cell v j)) (divided_lt (cell v j))))

link : (x : List ℕ) (a b e : ℕ) → b < 2 ^ 64 → e < 2 ^ 64 → b * e < 2 ^ 64 → a + b * e < 2 ^ 64
    → products (powers x a) (powers (powers x b) e) ≡ powers x (a + b * e)
unfolding products powers
link x a b e hb he hm h =
    tab_ext 12 (λ j. mul (cell (powers x a) j) (cell (powers (powers x b) e) j)) (λ j. power (cell x j) (a + b * e))
    (λ j l. ap₂ mul (cell_powers x a j l)
    (cell_powers (powers x b) e j l
    ∙ ap (λ y. power y e) (cell_powers x b j l)
    ∙ sym (power_mul (cell x j) b e hb he hm))
    ∙ sym (power_add (cell x j) a (b * e) h))

-- one link more: x^a times x^b raised to e
pub linked : (x by base r : List ℕ) (a b e : ℕ) → b < 2 ^ 64 → e < 2 ^ 64 → b * e < 2 ^ 64 → a + b * e < 2 ^ 64
    → by ≡ powers x a → base ≡ powers x b → r ≡ products by (powers base e) → r ≡ powers x (a + b * e)
linked x by base r a b e hb he hm h p q t =
    t ∙ ap₂ (λ u v. products u (powers v e)) p q ∙ link x a b e hb he hm h

-- from the powers, the roots
pub roots_of_powers : (s : List ℕ) (f : ℕ)
    → tab 12 (λ j. mul f (cell (powers (elements s) third) j)) ≡ tab 12 (λ j. mul f (root (divided (cell s j))))
unfolding root
roots_of_powers s f =
    tab_ext 12 (λ j. mul f (cell (powers (elements s) third) j)) (λ j. mul f (root (divided (cell s j))))
    (λ j h. ap (mul f)
    (cell_powers (elements s) third j h ∙ ap (λ x. power x third) (cell_elements s j h)))
