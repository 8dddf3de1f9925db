-- The lines of the known days (document 01, "Known days"), and that a number of 64 bits reads back from its digits.
-- Assumes nothing.
use mathlib.Core.Path.{◌≡◌, refl, ap, ◌∙◌}
use mathlib.Core.Bool.{Bool, true, ◌&&◌}
use mathlib.Core.List.{List, [], ◌∷◌, ◌++◌, append_assoc}
use Prim.Native.Nat.{ℕ, ◌+◌, ◌*◌, ◌-◌, ◌/◌, ◌%◌, ◌^◌, ◌<◌, ◌≤◌}
use native.Mathlib.Omega.{arith}
use borrow.Author.Tests.{ne_eqb, le-leb, leb-true}
use lib.Dec.{eqb, leb}
use Rattle.lists.specs.Lists.{choose, each}
use Rattle.lists.proofs.Bools.{and_both}
use Rattle.refusals.specs.declared.Refusal.TheVariants.{TableLength, WrongKind, Constraint}
use Rattle.std.specs.Prelude.{Ok, Err}
use Rattle.std.specs.Fmt.{digits, decimal}
use Rattle.std.proofs.lemmas.Fmt.{decimal_by_steps}
use Rattle.clear_answer.specs.declared.Unclear.TheVariants.{Refused, TooLong}
use Rattle.clear_line.specs.Line.{ascii, fields, line, text_of}

pub accepted_line : text_of (Ok (record { batches = 1; tests = 372 })) ≡ ascii "accepted 1 372\n"
unfolding digits each fields line text_of
accepted_line = refl

-- however many tests the refusal names
pub refused_line : (tests : ℕ)
    → text_of (Err (Refused (Constraint (record { 0 = 31 }) 49 tests))) ≡ ascii "refused 11 31 49\n"
unfolding digits each fields line text_of
refused_line tests = refl

-- a number alone, and one with an index
pub alone_line : text_of (Err (Refused TableLength)) ≡ ascii "refused 1\n"
unfolding digits each fields line text_of
alone_line = refl

pub index_line : text_of (Err (Refused (WrongKind 5))) ≡ ascii "refused 13 5\n"
unfolding digits each fields line text_of
index_line = refl

pub long_line : text_of (Err TooLong) ≡ ascii "too long\n"
unfolding each fields line text_of
long_line = refl

-- ---- a number reads back

-- the number that digits spell, the highest first, after those of n
unfoldable pub read : ℕ → List ℕ → ℕ
read n [] = n
read n (d ∷ s) = read (10 * n + (d - 48)) s

read_append : (n : ℕ) (s t : List ℕ) → read n (s ++ t) ≡ read (read n s) t
unfolding read
read_append n [] t = refl
read_append n (d ∷ s) t = read_append (10 * n + (d - 48)) s t

pub decimal_reads_back : (n : ℕ) → n < 2 ^ 64 → read 0 (decimal n) ≡ n
unfolding read
decimal_reads_back = decimal_by_steps (λ n s. read 0 s ≡ n) one more
  where
    one : (n : ℕ) → n < 10 → read 0 ((48 + n) ∷ []) ≡ n
    one n h = omega arith

    more : (n : ℕ) (s : List ℕ) → 10 ≤ n → read 0 s ≡ n / 10 → read 0 (s ++ ((48 + n % 10) ∷ [])) ≡ n
    more n s h e = read_append 0 s ((48 + n % 10) ∷ []) ∙ omega (arith, e)

-- ---- the numbers of a line read back, each after a space, up to the line feed

-- after the digits of n
unfoldable pub numbers_in : ℕ → List ℕ → List ℕ
numbers_in n [] = n ∷ []
numbers_in n (d ∷ s) =
    choose (eqb d 32) (n ∷ numbers_in 0 s) (choose (eqb d 10) (n ∷ []) (numbers_in (10 * n + (d - 48)) s))

-- whether all bytes are digits, or letters, which come after them
abbrev pub plain : List ℕ → Bool
plain [] = true
plain (d ∷ s) = leb 48 d && plain s

plain_last : (s : List ℕ) (d : ℕ) → plain s ≡ true → plain (s ++ ((48 + d) ∷ [])) ≡ true
plain_last [] d e = rw (le-leb 48 (48 + d) (omega arith))
plain_last (c ∷ s) d e =
    let both = and_both (leb 48 c) (plain s) e in
    rw both.0 (plain_last s d both.1)

plain_digits : (n : ℕ) → n < 2 ^ 64 → plain (decimal n) ≡ true
plain_digits =
    decimal_by_steps (λ n s. plain s ≡ true) (λ n h. plain_last [] n refl) (λ n s h e. plain_last s (n % 10) e)

plain_read : (n : ℕ) (s t : List ℕ) → plain s ≡ true → numbers_in n (s ++ t) ≡ numbers_in (read n s) t
unfolding numbers_in read
plain_read n [] t e = refl
plain_read n (d ∷ s) t e =
    let both = and_both (leb 48 d) (plain s) e in
    let high = leb-true 48 d both.0 in
    rw (ne_eqb d 32 (λ q. omega arith), ne_eqb d 10 (λ q. omega arith))
    (plain_read (10 * n + (d - 48)) s t both.1)

-- numbers of 64 bits
abbrev pub Fit : List ℕ → Type 0
Fit [] = Unit {0}
Fit (n ∷ s) = (n < 2 ^ 64) × Fit s

fields_read_back : (n : ℕ) (s : List ℕ) → Fit s → numbers_in n (fields s ++ (10 ∷ [])) ≡ n ∷ s
unfolding fields each numbers_in
fields_read_back n [] fit = refl
fields_read_back n (m ∷ s) fit =
    ap (λ t. n ∷ numbers_in 0 t) (append_assoc (decimal m) (fields s) (10 ∷ []))
    ∙ ap (λ t. n ∷ t) (plain_read 0 (decimal m) (fields s ++ (10 ∷ [])) (plain_digits m fit.0))
    ∙ ap (λ x. n ∷ numbers_in x (fields s ++ (10 ∷ []))) (decimal_reads_back m fit.0)
    ∙ ap (λ t. n ∷ t) (fields_read_back m s fit.1)

-- the word comes out as a number, which tells it from another word
pub line_reads_back : (word numbers : List ℕ) → plain word ≡ true → Fit numbers
    → numbers_in 0 (line word numbers) ≡ read 0 word ∷ numbers
unfolding line
line_reads_back word numbers letters fit =
    ap (numbers_in 0) (append_assoc word (fields numbers) (10 ∷ []))
    ∙ plain_read 0 word (fields numbers ++ (10 ∷ [])) letters
    ∙ fields_read_back (read 0 word) numbers fit
