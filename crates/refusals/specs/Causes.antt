-- Why tests refuse: causes in an order, of which the first that holds gives the refusal (document 01, "What is turned
-- back").
-- Assumes nothing.
use Rattle.std.specs.Prelude.{◌≡◌, ◌⊎◌, ◌↔◌, ℕ, Ok, Err}
use Rattle.refusals.specs.declared.Refusal.{Refusal}
use Rattle.refusals.specs.Answers.{Answer}

-- causes, as which refusals they give: this one, where the cause holds
abbrev pub by : Refusal → Type 0 → Refusal → Type 0
by refusal cause r = cause × (r ≡ refusal)

-- the one with this index, where the cause holds at it
abbrev pub by_index : (ℕ → Refusal) → (ℕ → Type 0) → Refusal → Type 0
by_index refusal cause r = (i : ℕ) × cause i × (r ≡ refusal i)

-- those of the first causes, and those of the next where none of the first holds
abbrev pub in_order : (Refusal → Type 0) → (Refusal → Type 0) → Refusal → Type 0
in_order first next r = first r ⊎ (((q : Refusal) → first q → ⊥) × next r)

-- the answer is what these causes give, and acceptance where they give nothing
pub record DecidedBy (causes : Refusal → Type 0) (a : Answer) : Type 0 where
  pub refuses_exactly : (r : Refusal) → (a ≡ Err r) ↔ causes r
  pub accepts_exactly : (a ≡ Ok tt) ↔ ((r : Refusal) → causes r → ⊥)
