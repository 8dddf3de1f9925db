-- The first place where a test says yes: what holds before it and at it, and that this determines it.
-- Assumes nothing.
use mathlib.Core.Path.{◌≡◌, refl, sym, ap, ◌∙◌}
use mathlib.Core.Bool.{Bool, true, false}
use Prim.Native.Nat.{ℕ, zero, suc, ◌<◌, ◌≤◌}
use native.Mathlib.Nat.{le_of_suc-le-suc}
use native.Mathlib.Omega.{arith}
use Rattle.lists.specs.Lists.{choose, first}

-- r is the first place below n at which the test says yes, or n where there is none
pub record IsFirst (n : ℕ) (test : ℕ → Bool) (r : ℕ) : Type 0 where
  pub within : r ≤ n
  pub before : (i : ℕ) → i < r → test i ≡ false
  pub found : r < n → test r ≡ true

pub is_first : (n : ℕ) (test : ℕ → Bool) → IsFirst n test (first n test)
unfolding first
is_first zero test =
    record { within = omega arith; before = λ i h. absurd (omega arith); found = λ h. absurd (omega arith) }
is_first (suc n) test = go (test 0) refl (is_first n (λ i. test (suc i)))
  where
    rest : ℕ
    rest = first n (λ i. test (suc i))

    go : (b : Bool) → test 0 ≡ b → IsFirst n (λ i. test (suc i)) rest → IsFirst (suc n) test (choose b 0 (suc rest))
    go true e f = record { within = omega arith; before = λ i h. absurd (omega arith); found = λ h. e }
    go false e f =
        record { within = omega (arith, f.within); before = before'; found = λ h. f.found (le_of_suc-le-suc h) }
      where
        before' : (i : ℕ) → i < suc rest → test i ≡ false
        before' zero h = e
        before' (suc i) h = f.before i (le_of_suc-le-suc h)

pub first_unique : (n : ℕ) (test : ℕ → Bool) (r : ℕ) → IsFirst n test r → r ≡ first n test
unfolding first
first_unique zero test r f = omega (arith, f.within)
first_unique (suc n) test zero f =
    sym (ap (λ b. choose b 0 (suc (first n (λ i. test (suc i))))) (f.found (omega arith)))
first_unique (suc n) test (suc r) f =
    ap suc
    (first_unique n (λ i. test (suc i)) r
    (record {
      within = le_of_suc-le-suc f.within;
      before = λ i h. f.before (suc i) (omega arith);
      found = λ h. f.found (omega arith);
    }))
    ∙ sym (ap (λ b. choose b 0 (suc (first n (λ i. test (suc i))))) (f.before 0 (omega arith)))

-- nothing is found exactly where the test says no at every place
pub first_none : (n : ℕ) (test : ℕ → Bool) → ((i : ℕ) → i < n → test i ≡ false) → n ≡ first n test
first_none n test h =
    first_unique n test n (record { within = omega arith; before = h; found = λ l. absurd (omega arith) })

pub none_first : (n : ℕ) (test : ℕ → Bool) → first n test ≡ n → (i : ℕ) → i < n → test i ≡ false
none_first n test e i h = (is_first n test).before i (omega arith)

-- a search that has passed r places and says yes at the next, and one that has passed them all
pub found_at : (n : ℕ) (test : ℕ → Bool) (r : ℕ) → r < n → ((i : ℕ) → i < r → test i ≡ false) → test r ≡ true
    → r ≡ first n test
found_at n test r h b y = first_unique n test r (record { within = omega arith; before = b; found = λ l. y })
