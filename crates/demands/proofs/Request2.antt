-- Request U2: the words after each step are the parts gathered so far, and the last one is the product or the sum.
-- Assumes nothing.
use mathlib.Core.Path.{ap, ◌∙◌}
use Prim.Native.Nat.{◌%◌, ◌*◌}
use native.Mathlib.Nat.{mod-eq_of_lt}
use native.Mathlib.Omega.{arith}
use Rattle.field.specs.Field.{P}
use Rattle.field.proofs.Folding as products
use Rattle.field.proofs.Gathering as forms
use Rattle.field_sums.proofs.Words as sums
use Rattle.matrix.specs.Matrix.{times_column}
use Rattle.demands.specs.Request2.{Request2}

pub request_2 : Request2
unfolding times_column
request_2 = record {
  product_gathers = λ a b i ha hb h. (products.word_canonical a b i, products.word_is_part a b (omega arith) i h);
  product_means = λ a b ha hb. products.whole_product a b (omega arith);
  form_gathers = λ a b i ha hb h. (forms.form_canonical a b i, forms.form_is_part a b (omega arith) i h);
  form_means = λ a b ha hb. forms.form_is_part a b (omega arith) 2 (omega arith)
      ∙ ap (λ z. (a * z) % P) (mod-eq_of_lt (omega arith));
  sum_gathers = λ x y j h. (sums.word_canonical x y j, sums.word_is_part x y j h);
  sum_means = λ a y i. sums.whole_sum (a i) y;
}
