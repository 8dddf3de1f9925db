-- `board_to_short::test_elements`: each element is tested and counted; then the length that all need.
-- Assumes nothing.
use mathlib.Core.Path.{◌≡◌, sym, ap, ◌∙◌}
use mathlib.Core.List.{List}
use Prim.Native.Nat.{ℕ, ◌+◌, ◌*◌, ◌-◌, ◌<◌}
use native.Mathlib.Omega.{arith}
use borrow.Author.Tests.{eq-eqb, ne_eqb}
use Rattle.std.specs.Prelude.{Ok}
use Rattle.lists.specs.Lists.{choose, cell, sum}
use Rattle.lists.proofs.Sum.{sum_zero}
use Rattle.std.proofs.lemmas.Result.{err_from_is_err_and}
use Rattle.board_words.specs.Elements.{element_at, elements_at, elements_test}
use Rattle.board_words.proofs.Tests.{accepted, tests_none, tests_on, tests_stop}
use Rattle.board_words.proofs.Round.{length_elements, cell_elements}
use Rattle.board_short_words.specs.Short.{is_small, all_bytes_needed}
use Rattle.board_short_words.proofs.Words.{is_three, most_one, count_next, threes_all}
use Rattle.board_to_short.proofs.test_elements.Goals as goal

-- what is counted for the element at i
counted : (file : List ℕ) (count i read three : ℕ) → i < count → read ≡ element_at file (1 + 3 * i)
    → three ≡ choose (is_small read) 0 1 → three ≡ choose (is_small (cell (elements_at file 1 count) i)) 0 1
counted file count i read three l e t =
    t ∙ ap (λ x. choose (is_small x) 0 1) (e ∙ sym (cell_elements file 1 count i l))

pub loop-i-init : goal.loop-i-init
loop-i-init c =
    let n : c.args.count - 0 ≡ c.args.count = omega arith in
    (omega arith, sym (sum_zero _), rw n)

pub returns-in_err-test : goal.returns-in_err-test
returns-in_err-test c =
    let p = err_from_is_err_and c.from_residual.result c.from_residual.ensures.1 in
    let refused =
    tests_stop c.args.file.now 1 c.args.count c.loop-i.i c.test.result _ c.loop-i-test.true c.test.ensures
    c.in_err-test.was
    ∙ c.loop-i.invariant.2 in
    rw (p.1, p.2, sym refused ∙ c.in_err-test.was)

pub read-requires : goal.read-requires
read-requires c = (omega arith, (accepted _ _ (sym c.test.ensures ∙ c.in_ok-test.was)).value)

pub overflow_add-threes : goal.overflow_add-threes
overflow_add-threes c =
    let n =
    counted c.args.file.now c.args.count c.loop-i.i _ _ c.loop-i-test.true c.read.ensures c.takes_three-threes.ensures in
    omega (arith, most_one _ _ n)

pub loop-i-preserved : goal.loop-i-preserved
loop-i-preserved c =
    let loop = c.loop-i in
    let n =
    counted c.args.file.now c.args.count loop.i _ _ c.loop-i-test.true c.read.ensures c.takes_three-threes.ensures in (
      omega (arith, most_one _ _ n),
      count_next is_three (elements_at c.args.file.now 1 c.args.count) loop.i _ _ loop.invariant.1 n,
      tests_on _ 1 _ loop.i c.test.result c.loop-i-test.true c.test.ensures c.in_ok-test.was ∙ loop.invariant.2,
    )

-- all elements are accepted, and the length that they need is left
all : (file : List ℕ) (count i : ℕ) → count - i ≡ 0
    → elements_test file (1 + 3 * i) (count - i) ≡ elements_test file 1 count → elements_test file 1 count ≡ Ok tt
all file count i none e = sym e ∙ rw none (tests_none _ _)

size_is : (file : List ℕ) (count i threes : ℕ) → i ≡ count
    → threes ≡ sum i (λ n. choose (is_small (cell (elements_at file 1 count) n)) 0 1)
    → 4 + 4 * count + 8 * threes ≡ 4 + all_bytes_needed (elements_at file 1 count)
size_is file count i threes e t =
    let whole = length_elements file 1 count in
    omega (arith, whole, threes_all (elements_at file 1 count) i _ (e ∙ sym whole) t)

pub returns-then-size-count : goal.returns-then-size-count
returns-then-size-count c =
    let loop = c.loop-i in
    let size = size_is c.args.file.now c.args.count loop.i loop.threes (omega arith) loop.invariant.1 in
    rw (
      all c.args.file.now c.args.count loop.i (omega arith) loop.invariant.2,
      ne_eqb _ _ (λ e. c.if-size-count.true (e ∙ sym size)),
    )

pub returns : goal.returns
returns c =
    let loop = c.loop-i in
    let size = size_is c.args.file.now c.args.count loop.i loop.threes (omega arith) loop.invariant.1 in
    rw (
      all c.args.file.now c.args.count loop.i (omega arith) loop.invariant.2,
      eq-eqb _ _ (c.if-size-count.false ∙ size),
    )
