-- `board_read::test`: three kinds, then the value; each return is the case of the definition that the tests before it
-- left.
-- Assumes nothing.
use mathlib.Core.Path.{◌≡◌, refl, sym, ap, ◌∙◌}
use mathlib.Core.List.{List}
use mathlib.Core.Bool.{Bool, true}
use Prim.Native.Nat.{ℕ, ◌+◌, ◌≤◌}
use native.Mathlib.Omega.{arith}
use borrow.Author.Tests.{le-ltb}
use lib.Dec.{eqb, ltb}
use Rattle.std.specs.Prelude.{Ok}
use Rattle.field.specs.Field.{P}
use Rattle.refusals.specs.Answers.{Answer, unless}
use Rattle.refusals.specs.declared.Refusal.TheVariants.{WrongKind, WrongValue}
use Rattle.refusals.proofs.Laws.{unless_refused, unless_passed}
use Rattle.board_words.specs.declared.Kind.TheVariants.{High, Middle, Low}
use Rattle.board_words.specs.Words.{kind_of, payload_of, word_at}
use Rattle.board_words.specs.Elements.{element_at, element_test}
use Rattle.board_words.proofs.Laws.{read_three, no_word}
use Rattle.board_words.proofs.Words.{kind_other}
use Rattle.board_read.proofs.test.Goals as goal

-- the tests from the value on, from the third kind on, from the second on
abbrev from_value : List ℕ → ℕ → Answer
from_value file j = unless (ltb (element_at file j) P) (WrongValue j) (Ok tt)

abbrev from_low : List ℕ → ℕ → Answer
from_low file j = unless (eqb (kind_of (word_at file (j + 2))) 3) (WrongKind (j + 2)) (from_value file j)

abbrev from_middle : List ℕ → ℕ → Answer
from_middle file j = unless (eqb (kind_of (word_at file (j + 1))) 2) (WrongKind (j + 1)) (from_low file j)

-- what is answered there is left to them
module _ (file : List ℕ) (j : ℕ) {o : Answer} where
  first : o ≡ unless (eqb (kind_of (word_at file j)) 1) (WrongKind j) (from_middle file j) → o ≡ element_test file j
  unfolding element_test
  first e = e

  one_kind : eqb (kind_of (word_at file j)) 1 ≡ true → o ≡ from_middle file j → o ≡ element_test file j
  one_kind h e = first (unless_passed _ h e)

  two_kinds : eqb (kind_of (word_at file j)) 1 ≡ true → eqb (kind_of (word_at file (j + 1))) 2 ≡ true
      → o ≡ from_low file j → o ≡ element_test file j
  two_kinds h k e = one_kind h (unless_passed _ k e)

  three_kinds : eqb (kind_of (word_at file j)) 1 ≡ true → eqb (kind_of (word_at file (j + 1))) 2 ≡ true
      → eqb (kind_of (word_at file (j + 2))) 3 ≡ true → o ≡ from_value file j → o ≡ element_test file j
  three_kinds h k l e = two_kinds h k (unless_passed _ l e)

-- a value that is tested is that of the file's element
value_is : (x y : ℕ) (b : Bool) → x ≡ y → b ≡ ltb x P → {t : Bool} → b ≡ t → ltb y P ≡ t
value_is x y b e f h = ap (λ v. ltb v P) (sym e) ∙ sym f ∙ h

pub returns-then-ne : goal.returns-then-ne
returns-then-ne c =
    first _ _
    (unless_refused _ (kind_other High _ c.kind.ensures c.read-high.ensures c.ne.ensures c.if-ne.true) refl)

pub returns-then-ne-2 : goal.returns-then-ne-2
returns-then-ne-2 c =
    one_kind _ _ (kind_other High _ c.kind.ensures c.read-high.ensures c.ne.ensures c.if-ne.false)
    (unless_refused _ (kind_other Middle _ c.kind-2.ensures c.read-middle.ensures c.ne-2.ensures c.if-ne-2.true) refl)

pub returns-then-ne-3 : goal.returns-then-ne-3
returns-then-ne-3 c =
    two_kinds _ _ (kind_other High _ c.kind.ensures c.read-high.ensures c.ne.ensures c.if-ne.false)
    (kind_other Middle _ c.kind-2.ensures c.read-middle.ensures c.ne-2.ensures c.if-ne-2.false)
    (unless_refused _ (kind_other Low _ c.kind-3.ensures c.read-low.ensures c.ne-3.ensures c.if-ne-3.true) refl)

pub returns-then-payload-gt-MOST_HIGH : goal.returns-then-payload-gt-MOST_HIGH
returns-then-payload-gt-MOST_HIGH c =
    let a = c.args in
    let p = c.payload.ensures ∙ ap payload_of c.read-high.ensures in
    let large : P ≤ element_at a.file.now a.index =
    omega (arith, no_word a.file.now a.index (rw p at c.if-payload-gt-MOST_HIGH.true)) in
    three_kinds _ _ (kind_other High _ c.kind.ensures c.read-high.ensures c.ne.ensures c.if-ne.false)
    (kind_other Middle _ c.kind-2.ensures c.read-middle.ensures c.ne-2.ensures c.if-ne-2.false)
    (kind_other Low _ c.kind-3.ensures c.read-low.ensures c.ne-3.ensures c.if-ne-3.false)
    (unless_refused _ (le-ltb _ _ large) refl)

pub returns-then-not-is_canonical : goal.returns-then-not-is_canonical
returns-then-not-is_canonical c =
    let v =
    read_three _ _ _ _ _ _ c.read-high.ensures c.read-middle.ensures c.read-low.ensures
    c.value.ensures in
    three_kinds _ _ (kind_other High _ c.kind.ensures c.read-high.ensures c.ne.ensures c.if-ne.false)
    (kind_other Middle _ c.kind-2.ensures c.read-middle.ensures c.ne-2.ensures c.if-ne-2.false)
    (kind_other Low _ c.kind-3.ensures c.read-low.ensures c.ne-3.ensures c.if-ne-3.false)
    (unless_refused _ (value_is _ _ _ v c.is_canonical.ensures c.if-not-is_canonical.true) refl)

pub returns : goal.returns
returns c =
    let v =
    read_three _ _ _ _ _ _ c.read-high.ensures c.read-middle.ensures c.read-low.ensures
    c.value.ensures in
    three_kinds _ _ (kind_other High _ c.kind.ensures c.read-high.ensures c.ne.ensures c.if-ne.false)
    (kind_other Middle _ c.kind-2.ensures c.read-middle.ensures c.ne-2.ensures c.if-ne-2.false)
    (kind_other Low _ c.kind-3.ensures c.read-low.ensures c.ne-3.ensures c.if-ne-3.false)
    (unless_passed _ (value_is _ _ _ v c.is_canonical.ensures c.if-not-is_canonical.false) refl)
