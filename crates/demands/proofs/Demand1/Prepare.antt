-- Demand 1 of Prepare.
-- Assumes nothing.
use mathlib.Core.Path.{◌≡◌, refl, subst}
use mathlib.Core.List.{List}
use Prim.Native.Nat.{ℕ}
use Rattle.refusals.proofs.Laws.{AnswerEnds}
use Rattle.table.specs.Table.{Prepares}
use Rattle.table_prepare.proofs.Theorems.{refused_kept}
use Rattle.call_answers.specs.Calls.{PrepareCall}
use Rattle.call_answers.proofs.Theorems as bits
use Rattle.demands.specs.Demand1.{prepare, numbers, call_numbers, OneOf, Answered, PrepareResult}
use Rattle.demands.proofs.Demand1.Numbers.{one_of}
use Rattle.demands.proofs.Demand1.Words.{answer_says}
use Rattle.call_answers.proofs.Endings.Prepare.{prepare_ends}
use Rattle.refusals.specs.Answers.{Answer}

pub prepare_numbers : (raw old new : List ℕ) (a : Answer) → Prepares raw old a new
    → AnswerEnds (OneOf (numbers prepare)) a
prepare_numbers raw old =
    let ns = numbers prepare in
    prepare_ends (OneOf ns) raw old (λ n. one_of 1 ns refl) (λ n. one_of 8 ns refl) (λ i l. one_of 2 ns refl)
    (one_of 3 ns refl)

pub prepare_called : (raw table table' : List ℕ) (code : ℕ) → PrepareCall raw table code table'
    → Answered code (call_numbers prepare) (λ a. Prepares raw table a table')
    (PrepareResult raw table table') (table' ≡ table)
prepare_called raw table table' code h =
    answer_says code (call_numbers prepare) (λ a. Prepares raw table a table') (PrepareResult raw table table')
    (table' ≡ table) h.answer h.prepares h.coded
    (bits.prepare_bits raw table table' h.answer h.prepares)
    (prepare_numbers raw table table' h.answer h.prepares)
    (λ e. record { none = refl; prepares = subst (λ a. Prepares raw table a table') e h.prepares })
    (λ r. refused_kept raw table table' r.0 (subst (λ a. Prepares raw table a table') r.1 h.prepares))
