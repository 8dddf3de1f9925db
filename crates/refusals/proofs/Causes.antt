-- Tests one after the other are decided by their causes in that order, whatever these are: the law of one test, and of
-- tests after which more come. A refusal that some causes never give is one of the next ones'.
-- Assumes nothing.
use mathlib.Core.Path.{◌≡◌, refl, sym, ap, subst, ◌∙◌}
use mathlib.Core.Bool.{Bool, true, false}
use mathlib.Core.Logic.{inl, inr, ⊎_elim, ◌↔◌}
use Prim.Native.Nat.{ℕ}
use borrow.Author.Tests.{eqb-false}
use lib.Dec.{eqb}
use Rattle.std.specs.Prelude.{Ok, Err}
use Rattle.refusals.specs.Refusals.{told}
use Rattle.refusals.specs.declared.Refusal.{Refusal}
use Rattle.refusals.specs.Answers.{Answer, unless, after}
use Rattle.refusals.specs.Causes.{by, by_index, in_order, DecidedBy}
use Rattle.refusals.proofs.Laws.{not_accepted, refused_same, after_unless}

-- refusals tell acceptance too
pub decided : (causes : Refusal → Type 0) (a : Answer) → ((r : Refusal) → (a ≡ Err r) ↔ causes r)
    → DecidedBy causes a
decided causes a h = record {
  refuses_exactly = h;
  accepts_exactly = (λ e r c. not_accepted r (sym ((h r).1 c) ∙ e), λ none. go a (λ r e. none r ((h r).0 e)));
}
  where
    go : (b : Answer) → ((r : Refusal) → b ≡ Err r → ⊥) → b ≡ Ok tt
    go (Ok _) n = refl
    go (Err r) n = absurd (n r refl)

-- ---- one test
pub one : (b : Bool) (q : Refusal) (cause : Type 0) → (b ≡ false → cause) → (b ≡ true → cause → ⊥)
    → DecidedBy (by q cause) (unless b q (Ok tt))
one true q cause f g =
    decided (by q cause) (Ok tt) λ r. (λ e. absurd (not_accepted r (sym e)), λ c. absurd (g refl c.0))
one false q cause f g =
    decided (by q cause) (Err q) λ r. (λ e. (f refl, sym (refused_same e)), λ c. ap Err (sym c.1))

-- i is the one index at which the cause can hold
pub one_index : (b : Bool) (q : ℕ → Refusal) (i : ℕ) (cause : ℕ → Type 0) → (b ≡ false → cause i)
    → (b ≡ true → (j : ℕ) → cause j → ⊥) → ((j : ℕ) → cause j → j ≡ i)
    → DecidedBy (by_index q cause) (unless b (q i) (Ok tt))
one_index true q i cause f g only =
    decided (by_index q cause) (Ok tt) λ r. (λ e. absurd (not_accepted r (sym e)), λ c. absurd (g refl c.0 c.1))
one_index false q i cause f g only =
    decided (by_index q cause) (Err (q i)) λ r. (
      λ e. (i, f refl, sym (refused_same e)),
      λ c. ap Err (ap q (sym (only c.0 c.1)) ∙ sym c.2),
    )

-- ---- and then more
pub tests_after_lem : (first next : Refusal → Type 0) (a rest : Answer) → DecidedBy first a
    → (a ≡ Ok tt → DecidedBy next rest) → DecidedBy (in_order first next) (after a rest)
tests_after_lem first next (Ok _) rest h n =
    let none = h.accepts_exactly.0 refl in
    decided (in_order first next) rest λ r. (
      λ e. inr (none, ((n refl).refuses_exactly r).0 e),
      ⊎_elim (λ c. absurd (none r c)) (λ c. ((n refl).refuses_exactly r).1 c.1),
    )
tests_after_lem first next (Err q) rest h n =
    decided (in_order first next) (Err q) λ r. (
      λ e. inl ((h.refuses_exactly r).0 e),
      ⊎_elim (λ c. (h.refuses_exactly r).1 c) (λ c. absurd (c.0 q ((h.refuses_exactly q).0 refl))),
    )

pub test_before : (first next : Refusal → Type 0) (b : Bool) (q : Refusal) (rest : Answer)
    → DecidedBy first (unless b q (Ok tt)) → (b ≡ true → DecidedBy next rest)
    → DecidedBy (in_order first next) (unless b q rest)
test_before first next b q rest h n =
    subst (DecidedBy (in_order first next)) (after_unless b q (Ok tt) rest)
    (tests_after_lem first next (unless b q (Ok tt)) rest h (λ e. n (passes b e)))
  where
    passes : (x : Bool) → unless x q (Ok tt) ≡ Ok tt → x ≡ true
    passes true e = refl
    passes false e = absurd (not_accepted q e)

-- ---- a number that some causes never give

abbrev pub Never : ℕ → (Refusal → Type 0) → Type 0
Never n causes = (r : Refusal) → causes r → (told r).number ≡ n → ⊥

module _ (n : ℕ) where
  pub never_by : (q : Refusal) (cause : Type 0) → eqb (told q).number n ≡ false → Never n (by q cause)
  never_by q cause e r c h = eqb-false (told q).number n e (ap (λ x. (told x).number) (sym c.1) ∙ h)

  pub never_index : (q : ℕ → Refusal) (cause : ℕ → Type 0) → ((i : ℕ) → eqb (told (q i)).number n ≡ false)
      → Never n (by_index q cause)
  never_index q cause e r c h =
      eqb-false (told (q c.0)).number n (e c.0) (ap (λ x. (told x).number) (sym c.2) ∙ h)

  pub never_either : (first next : Refusal → Type 0) → Never n first → Never n next → Never n (in_order first next)
  never_either first next f g r = ⊎_elim (λ c. f r c) (λ c. g r c.1)

  -- a refusal with it is one of the next causes, and none of the first holds
  pub reached : (first next : Refusal → Type 0) → Never n first → (r : Refusal) → (told r).number ≡ n
      → in_order first next r → ((q : Refusal) → first q → ⊥) × next r
  reached first next f r e = ⊎_elim (λ c. absurd (f r c e)) (λ c. c)
