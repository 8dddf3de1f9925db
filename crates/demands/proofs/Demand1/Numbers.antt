-- The numbers of a list, by computing; and the causes whose numbers are all in it.
-- Assumes nothing.
use mathlib.Core.Path.{◌≡◌, refl, sym, ◌∙◌}
use mathlib.Core.Bool.{Bool, true, false, ◌||◌, true≢false}
use mathlib.Core.List.{List, [], ◌∷◌, Memᴰ}
use mathlib.Core.Logic.{◌⊎◌, inl, inr}
use Prim.Native.Nat.{ℕ}
use borrow.Author.Tests.{eqb-true, eq-eqb}
use lib.Dec.{eqb}
use Rattle.lists.proofs.Bools.{or_cases}
use Rattle.demands.specs.Demand1.{OneOf}
use Rattle.call_answers.proofs.Endings.Table.{TableCauses}
use Rattle.call_answers.proofs.Endings.Taps.{TapsCauses}
use Rattle.call_answers.proofs.Endings.Trace.{TraceCauses}
use Rattle.call_answers.proofs.Endings.Full.{FullCauses}
use Rattle.call_answers.proofs.Endings.Short.{ShortCauses}

abbrev pub among : ℕ → List ℕ → Bool
among n [] = false
among n (m ∷ ms) = eqb n m || among n ms

pub one_of : (n : ℕ) (ns : List ℕ) → among n ns ≡ true → Memᴰ n ns
one_of n [] e = absurd (true≢false (sym e))
one_of n (m ∷ ms) e = go (λ h. one_of n ms h) (or_cases (eqb n m) (among n ms) e)
  where
    go : (among n ms ≡ true → Memᴰ n ms) → (eqb n m ≡ true) ⊎ (among n ms ≡ true) → Memᴰ n (m ∷ ms)
    go later (inl h) = Memᴰ.head (eqb-true n m h)
    go later (inr h) = Memᴰ.tail (later h)

or_right : (a b : Bool) → b ≡ true → (a || b) ≡ true
or_right true b e = refl
or_right false b e = e

is_among : (n : ℕ) (ns : List ℕ) → Memᴰ n ns → among n ns ≡ true
is_among n ns (Memᴰ.head {x} {xs} e) = rw (eq-eqb n x e)
is_among n ns (Memᴰ.tail {x} {xs} m) = or_right (eqb n x) (among n xs) (is_among n xs m)

pub not_among : (n : ℕ) (ns : List ℕ) → among n ns ≡ false → Memᴰ n ns → ⊥
not_among n ns e m = true≢false (sym (is_among n ns m) ∙ e)

pub table_causes_lem : (ns : List ℕ) → among 1 ns ≡ true → among 2 ns ≡ true → among 4 ns ≡ true → TableCauses (OneOf ns)
table_causes_lem ns a b c =
    record { by_length = one_of 1 ns a; by_word = λ i h. one_of 2 ns b; by_cell = λ i h. one_of 4 ns c }

pub taps_causes : (ns : List ℕ) (most : ℕ) (w : List ℕ) → among 5 ns ≡ true → among 6 ns ≡ true
    → TapsCauses (OneOf ns) most w
taps_causes ns most w a b = record { by_length = λ n. one_of 5 ns a; by_word = λ k s p i h. one_of 6 ns b }

pub trace_causes : (ns : List ℕ) (T t claim : List ℕ) (c : ℕ) → TableCauses (OneOf ns) → among 7 ns ≡ true
    → among 17 ns ≡ true → among 9 ns ≡ true → among 10 ns ≡ true → TraceCauses (OneOf ns) T t claim c
trace_causes ns T t claim c causes a b d e = record {
  of_table = causes;
  by_length = λ n. one_of 7 ns a;
  by_batches = λ k e p s o. one_of 17 ns b;
  by_claim = λ i h. one_of 9 ns d;
  by_word = λ k s p i h. one_of 10 ns e;
}

pub full_causes : (ns file : List ℕ) → among 12 ns ≡ true → among 13 ns ≡ true → among 14 ns ≡ true
    → FullCauses (OneOf ns) file
full_causes ns file a b c =
    record { by_length = one_of 12 ns a; by_kind = λ j h. one_of 13 ns b; by_value = λ j h. one_of 14 ns c }

pub short_causes : (ns file : List ℕ) → among 12 ns ≡ true → among 13 ns ≡ true → among 14 ns ≡ true
    → among 18 ns ≡ true → ShortCauses (OneOf ns) file
short_causes ns file a b c d = record {
  by_length = one_of 12 ns a;
  by_kind = λ j h. one_of 13 ns b;
  by_value = λ j h. one_of 14 ns c;
  by_long = λ j h. one_of 18 ns d;
}
