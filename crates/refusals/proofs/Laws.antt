-- The laws of answers, once for every operation: what an acceptance says of the tests before it, what a refusal leaves,
-- and how answers end.
-- Assumes nothing.
use mathlib.Core.Path.{◌≡◌, refl, sym, ap, subst, ◌∙◌}
use mathlib.Core.Bool.{Bool, true, false}
use Prim.Native.Nat.{ℕ}
use native.Mathlib.Omega.{arith}
use Rattle.std.specs.Prelude.{Result, Ok, Err}
use Rattle.refusals.specs.declared.Refusal.{Refusal}
use Rattle.refusals.specs.Answers.{Answer, unless, after, with_value, leaves}

pub not_accepted : (r : Refusal) → ◌≡◌ {A = Answer} (Err r) (Ok tt) → ⊥
not_accepted r e = let z : ◌≡◌ {A = ℕ} 0 1 = cc in omega arith

pub refused_same : {A : Type 0} {r s : Refusal} → ◌≡◌ {A = Result A Refusal} (Err r) (Err s) → r ≡ s
refused_same e = cc

-- an answer that is a refusal
abbrev pub IsRefusal : Answer → Type 0
IsRefusal a = (r : Refusal) × (a ≡ Err r)

-- ---- what acceptance says of the tests before it
pub passed : (b : Bool) (r : Refusal) (rest : Answer) → unless b r rest ≡ Ok tt → (b ≡ true) × (rest ≡ Ok tt)
passed true r rest e = (refl, e)
passed false r rest e = absurd (not_accepted r e)

pub both_accepted : (a rest : Answer) → after a rest ≡ Ok tt → (a ≡ Ok tt) × (rest ≡ Ok tt)
both_accepted (Ok _) rest e = (refl, e)
both_accepted (Err r) rest e = absurd (not_accepted r e)

pub value_accepted : {A : Type 0} (a : Answer) (x y : A) → with_value a x ≡ Ok y → (a ≡ Ok tt) × (x ≡ y)
value_accepted (Ok _) x y q = (refl, cc)
value_accepted (Err r) x y q = absurd (let z : ◌≡◌ {A = ℕ} 0 1 = cc in omega arith)

-- ---- a refusal is that of the tests
pub value_refused : {A : Type 0} (a : Answer) (x : A) (r : Refusal) → with_value a x ≡ Err r → a ≡ Err r
value_refused (Ok _) x r q = absurd (let z : ◌≡◌ {A = ℕ} 0 1 = cc in omega arith)
value_refused (Err s) x r q = cc

-- ---- tests, and then more of them
pub after_unless : (b : Bool) (r : Refusal) (a rest : Answer) → after (unless b r a) rest ≡ unless b r (after a rest)
after_unless true r a rest = refl
after_unless false r a rest = refl

pub after_after : (a b rest : Answer) → after (after a b) rest ≡ after a (after b rest)
after_after (Ok _) b rest = refl
after_after (Err r) b rest = refl

-- ---- what a function answers, from what it found: an answer o is that of the tests, one after the other

module _ {o : Answer} where
  pub unless_refused : {b : Bool} {r : Refusal} (rest : Answer) → b ≡ false → o ≡ Err r → o ≡ unless b r rest
  unless_refused {b} {r} rest e q = q ∙ sym (ap (λ x. unless x r rest) e)

  pub unless_passed : {b : Bool} {rest : Answer} (r : Refusal) → b ≡ true → o ≡ rest → o ≡ unless b r rest
  unless_passed {b} {rest} r e q = q ∙ sym (ap (λ x. unless x r rest) e)

  -- a is what the first tests t answered
  pub after_refused : {t : Answer} {r : Refusal} (rest : Answer) → o ≡ t → o ≡ Err r → o ≡ after t rest
  after_refused rest e q = q ∙ sym (ap (λ x. after x rest) (sym e ∙ q))

  pub after_accepted : {a t rest : Answer} → a ≡ t → a ≡ Ok tt → o ≡ rest → o ≡ after t rest
  after_accepted {a} {t} {rest} e q p = p ∙ sym (ap (λ x. after x rest) (sym e ∙ q))

  -- a is what one test alone answered
  module _ (b : Bool) (r : Refusal) {a : Answer} (e : a ≡ unless b r (Ok tt)) where
    pub one_test_refused : {s : Refusal} (rest : Answer) → a ≡ Err s → o ≡ Err s → o ≡ unless b r rest
    one_test_refused rest q p = after_refused rest (p ∙ sym q ∙ e) p ∙ after_unless b r (Ok tt) rest

    pub one_test_passed : {rest : Answer} → a ≡ Ok tt → o ≡ rest → o ≡ unless b r rest
    one_test_passed {rest} q p = after_accepted e q p ∙ after_unless b r (Ok tt) rest

-- and what follows from a, which is what the tests t answered
module _ {a t : Answer} (e : a ≡ t) where
  pub value_turned_back : {A : Type 0} {r : Refusal} (x : A) → a ≡ Err r → Err r ≡ with_value t x
  value_turned_back x q = sym (ap (λ u. with_value u x) (sym e ∙ q))

  pub value_returned : {A : Type 0} {x y : A} → a ≡ Ok tt → x ≡ y → Ok x ≡ with_value t y
  value_returned {x = x} {y = y} q p = ap Ok p ∙ sym (ap (λ u. with_value u y) (sym e ∙ q))

  pub leaves_old : {A : Type 0} {r : Refusal} {old : A} (new : A) → a ≡ Err r → old ≡ leaves t new old
  leaves_old {old = old} new q = sym (ap (λ x. leaves x new old) (sym e ∙ q))

  pub leaves_new : {A : Type 0} {x new : A} (old : A) → a ≡ Ok tt → x ≡ new → x ≡ leaves t new old
  leaves_new {new = new} old q p = p ∙ sym (ap (λ y. leaves y new old) (sym e ∙ q))

-- ---- how an answer ends: where with a refusal, with one that has the property Q

abbrev pub AnswerEnds : (Refusal → Type 0) → Answer → Type 0
AnswerEnds Q (Ok _) = Unit {0}
AnswerEnds Q (Err r) = Q r

module _ (Q : Refusal → Type 0) where
  pub unless_ends : (b : Bool) (r : Refusal) (rest : Answer) → (b ≡ false → Q r) → (b ≡ true → AnswerEnds Q rest)
      → AnswerEnds Q (unless b r rest)
  unless_ends true r rest q n = n refl
  unless_ends false r rest q n = q refl

  pub after_ends : (a rest : Answer) → AnswerEnds Q a → (a ≡ Ok tt → AnswerEnds Q rest) → AnswerEnds Q (after a rest)
  after_ends (Ok _) rest p n = n refl
  after_ends (Err r) rest p n = p

  -- from what is known of whatever refusal it is
  pub refusal_ends : (a : Answer) → ((r : Refusal) → a ≡ Err r → Q r) → AnswerEnds Q a
  refusal_ends (Ok _) q = tt
  refusal_ends (Err r) q = q r refl

  pub ends_refusal : (a : Answer) (r : Refusal) → AnswerEnds Q a → a ≡ Err r → Q r
  ends_refusal (Ok _) r q e = absurd (not_accepted r (sym e))
  ends_refusal (Err s) r q e = subst Q (refused_same e) q

-- an answer that can be refused for one cause only, and is not accepted
pub one_cause : (r : Refusal) (a : Answer) → AnswerEnds (λ s. s ≡ r) a → (a ≡ Ok tt → ⊥) → a ≡ Err r
one_cause r (Ok _) q n = absurd (n refl)
one_cause r (Err s) q n = ap Err q
