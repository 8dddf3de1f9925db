-- `call_results::refusal_code`: the code of what is told of a refusal, whichever place that has.
-- Assumes nothing.
use Rattle.std.specs.Prelude.{◌≡◌, ℕ}
use mathlib.Core.Path.{sym, ap, ap₂, ◌∙◌}
use Rattle.refusals.specs.Refusals.{row_of, constraint_of, value_of}
use Rattle.refusals.specs.declared.Particulars.{Particulars}
use Rattle.refusals.specs.declared.Place.{Place}
use Rattle.call_results.specs.Code.{code, particulars_code}
use Rattle.call_results.proofs.refusal_code.Goals as goal

coded : {told p : Particulars} {place : Place} → told ≡ p → told.place ≡ place
    → code told.number (constraint_of place) (row_of place) (value_of place) ≡ particulars_code p
unfolding particulars_code
coded {told} e f =
    ap (λ l. code told.number (constraint_of l) (row_of l) (value_of l)) (sym f) ∙ ap particulars_code e

pub returns-in-Nowhere : goal.returns-in-Nowhere
returns-in-Nowhere c = c.code.ensures ∙ coded c.told-number.ensures c.in-Nowhere.is

pub returns-in-Index : goal.returns-in-Index
returns-in-Index c = c.code-in-Index.ensures ∙ coded c.told-number.ensures c.in-Index.is

pub returns-in-Test : goal.returns-in-Test
returns-in-Test c = c.code-in-Test.ensures ∙ coded c.told-number.ensures c.in-Test.is
