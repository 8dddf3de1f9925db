-- The inverse made ready, as the code has it: a root, times a constant, makes up for its scale.
-- Assumes nothing.
use mathlib.Core.Path.{◌≡◌, refl, sym, ap, ◌∙◌}
use mathlib.Core.List.{List}
use Prim.Native.Nat.{ℕ, ◌*◌, ◌%◌, ◌<◌}
use native.Mathlib.Nat.{mul_comm}
use native.Mathlib.Omega.{arith}
use Rattle.lists.specs.Lists.{cell, tab}
use Rattle.lists.proofs.Tab.{cell_tab, tab_ext}
use Rattle.field.specs.Field.{P, mul, root}
use Rattle.field.specs.MontgomeryHelpers.{unit_inverse, divided}
use Rattle.field.proofs.Forms.{divided_lt}
use Rattle.field.proofs.Modular.{mul_mod_l, mul_undone}
use Rattle.field_roots.proofs.Scaled.{root_scaled}
use Rattle.matrix.specs.Matrix.{entry, times_column, times}
use Rattle.matrix.proofs.Linear.{times_lt}
use Rattle.matrix.proofs.States.{cell_times}
use Rattle.matrix_ready.specs.MixingHelpers.{ready_entry}
use Rattle.matrix_ready.proofs.Scaled.{column_scaled}
use Rattle.table.specs.Table.{inverse_of}
use Rattle.hash.specs.Hash.{roots}
use Rattle.check_steps.specs.StepHelpers.{back_scale, back_ready}

-- modulo p: d is the scale and j the inverse of 2^64, and f^3 undoes both
restored : (p d j f y : ℕ) → (d * j * (f * f * f)) % p ≡ 1 → y < p → (((y * d) % p * j) % p * (f * f * f)) % p ≡ y
restored p d j f y one h =
    ap (λ z. (z * (f * f * f)) % p) (mul_mod_l p (y * d) j ∙ ap (λ z. z % p) turned)
    ∙ mul_undone p (d * j) (f * f * f) y one h
  where
    turned : y * d * j ≡ y * (d * j)
    turned = omega arith

-- the factor of the roots
abbrev pub root_factor : ℕ
root_factor = 1320274735724748368

root_term : (y : ℕ) → y < P → mul root_factor (root (divided ((y * divided back_scale) % P))) ≡ root y
root_term y h =
    ap (λ z. z % P) (mul_comm root_factor (root (divided ((y * divided back_scale) % P))))
    ∙ root_scaled (divided ((y * divided back_scale) % P)) root_factor y
    (divided_lt ((y * divided back_scale) % P))
    (restored P (divided back_scale) unit_inverse root_factor y refl h)

pub undone_roots : (T ready less mixed r : List ℕ) → ready ≡ back_ready T
    → mixed ≡ tab 12 (times_column 12 (ready_entry ready) (cell less))
    → r ≡ tab 12 (λ j. mul root_factor (root (divided (cell mixed j)))) → r ≡ roots (times (inverse_of T) less)
unfolding roots back_ready
undone_roots T ready less mixed r e em er =
    er
    ∙ tab_ext 12 (λ j. mul root_factor (root (divided (cell mixed j))))
    (λ j. root (cell (times (inverse_of T) less) j)) same
  where
    same : (i : ℕ) → i < 12
        → mul root_factor (root (divided (cell mixed i))) ≡ root (cell (times (inverse_of T) less) i)
    same i h =
        ap (λ v. mul root_factor (root (divided v)))
        (ap (λ l. cell l i) em
        ∙ cell_tab 12 (times_column 12 (ready_entry ready) (cell less)) i h
        ∙ column_scaled (inverse_of T) ready back_scale e (cell less) i h)
        ∙ root_term (times_column 12 (entry (inverse_of T)) (cell less) i)
        (times_lt 12 (entry (inverse_of T)) (cell less) i)
        ∙ ap root (sym (cell_times (inverse_of T) less i h))
