-- The line that tells an answer: numbers after a space each, a word before them, and how much room it takes.
-- Assumes nothing.
use mathlib.Core.Path.{◌≡◌, sym, ap, ◌∙◌}
use mathlib.Core.List.{List, [], ◌∷◌, ◌++◌}
use Prim.Native.Nat.{ℕ, suc, ◌+◌, ◌*◌, ◌^◌, ◌<◌, ◌≤◌}
use native.Mathlib.Numerals.{add-one}
use native.Mathlib.Omega.{arith}
use lib.ListN.{length, take, drop, set, length-append, take-append-drop}
use lib.Seq.{sets, sets-eq}
use Rattle.std.specs.Fmt.{decimal}
use Rattle.std.specs.Prelude.{Ok, Err}
use Rattle.std.proofs.lemmas.Fmt.{length-decimal-le}
use Rattle.lists.specs.Lists.{cell, each}
use Rattle.lists.proofs.Each.{each_append, each_next}
use Rattle.lists.proofs.Stores.{sets_append}
use Rattle.refusals.specs.Refusals.{told}
use Rattle.refusals.specs.declared.Particulars.{Particulars}
use Rattle.refusals.specs.declared.Place.{Place}
use Rattle.refusals.specs.declared.Place.TheVariants.{Nowhere, Index, Test}
use Rattle.clear_answer.specs.Clearing.{Outcome}
use Rattle.clear_answer.specs.declared.Unclear.TheVariants.{Refused, TooLong}
use Rattle.clear_line.specs.Line.{ascii, fields, line, place_numbers, numbers_of, text_of}

-- ---- the first i numbers, and the next
module _ (numbers : List ℕ) (i : ℕ) (h : i < length numbers) where
  fields_next : fields (take (i + 1) numbers) ≡ fields (take i numbers) ++ 32 ∷ decimal (cell numbers i)
  unfolding fields
  fields_next = each_next (λ n. 32 ∷ decimal n) numbers i h

  pub length_next : length (fields (take (i + 1) numbers))
      ≡ length (fields (take i numbers)) + 1 + length (decimal (cell numbers i))
  length_next =
      ap length fields_next
      ∙ length-append (fields (take i numbers)) (32 ∷ decimal (cell numbers i))
      ∙ omega arith

  pub next_fits : length (fields (take i numbers)) + 1 + length (decimal (cell numbers i)) ≤ length (fields numbers)
  unfolding fields
  next_fits =
      let rest = each_append (λ n. 32 ∷ decimal n) (take (i + 1) numbers) (drop (i + 1) numbers) in
      let parts = ap (λ s. length (fields s)) (sym (take-append-drop (i + 1) numbers)) ∙ ap length rest in
      omega (
        arith,
        parts,
        length-append (fields (take (i + 1) numbers)) (fields (drop (i + 1) numbers)),
        length_next,
      )

  -- a space, then the next number
  pub write_next : (old m n : List ℕ) (at end : ℕ) → end ≡ at + length (fields (take i numbers))
      → m ≡ sets old at (fields (take i numbers)) → n ≡ sets (set m end 32) (end + 1) (decimal (cell numbers i))
      → n ≡ sets old at (fields (take (i + 1) numbers))
  write_next old m n at end e p q =
      let done = fields (take i numbers) in
      let next = 32 ∷ decimal (cell numbers i) in
      q
      ∙ ap (λ j. sets (set m end 32) j (decimal (cell numbers i))) (add-one end)
      ∙ ap (λ s. sets s end next) p
      ∙ ap (λ j. sets (sets old at done) j next) e
      ∙ sets_append old at done next
      ∙ ap (sets old at) (sym fields_next)

-- ---- a word, its numbers and the line's end
module _ (word numbers : List ℕ) where
  pub length_line : length (line word numbers) ≡ length word + length (fields numbers) + 1
  unfolding line
  length_line = length-append (word ++ fields numbers) (10 ∷ []) ∙ omega (arith, length-append word (fields numbers))

  pub line_bytes : (l m n : List ℕ) (start end : ℕ) → start ≡ length word → m ≡ sets l 0 word
      → end ≡ start + length (fields numbers) → n ≡ sets m start (fields numbers)
      → set n end 10 ≡ sets l 0 (line word numbers)
  unfolding line
  line_bytes l m n start end s q e p =
      let told = word ++ fields numbers in
      let at : start ≡ 0 + length word = omega arith in
      let to : end ≡ 0 + length told = omega (arith, length-append word (fields numbers)) in
      let both : n ≡ sets l 0 told =
      p
      ∙ ap (λ x. sets x start (fields numbers)) q
      ∙ ap (λ k. sets (sets l 0 word) k (fields numbers)) at
      ∙ sets_append l 0 word (fields numbers) in
      ap (λ x. set x end 10) both ∙ ap (λ k. set (sets l 0 told) k 10) to ∙ sets_append l 0 told (10 ∷ [])

-- ---- the room that a line takes

-- a space and a number of 64 bits
pub length_small : (n : ℕ) → n < 2 ^ 64 → length (decimal n) ≤ 20
length_small n small = length-decimal-le 20 n (omega arith) (omega arith) small

-- written over the start of a buffer that has room for it
pub over_start : (s out : List ℕ) → length s ≤ length out → sets out 0 s ≡ s ++ drop (length s) out
over_start s out h = sets-eq s out 0 (omega arith) ∙ ap (λ k. s ++ drop k out) (omega arith)

-- numbers of 64 bits
pub length_fields : (s : List ℕ) → ((i : ℕ) → i < length s → cell s i < 2 ^ 64) → length (fields s) ≤ 21 * length s
unfolding fields each
length_fields [] h = omega arith
length_fields (n ∷ s) h =
    omega (
      arith,
      length_small n (h 0 (omega arith)),
      length-append (32 ∷ decimal n) (fields s),
      length_fields s (λ i l. h (suc i) (omega arith)),
    )

-- at most three numbers are told of a refusal
pub numbers_size : (p : Particulars) → length (numbers_of p) ≤ 3
numbers_size p = go p.place
  where
    go : (q : Place) → length (p.number ∷ place_numbers q) ≤ 3
    go Nowhere = omega arith
    go (Index i) = omega arith
    go (Test row constraint tests) = omega arith

-- the numbers of an answer
abbrev pub numbers_in : Outcome → List ℕ
numbers_in (Ok report) = report.batches ∷ report.tests ∷ []
numbers_in (Err (Refused r)) = numbers_of (told r)
numbers_in (Err TooLong) = []

pub length_text : (o : Outcome) → ((i : ℕ) → i < length (numbers_in o) → cell (numbers_in o) i < 2 ^ 64)
    → length (text_of o) ≤ 72
unfolding text_of
length_text (Ok report) h =
    let numbers = numbers_in (Ok report) in
    omega (arith, length_line (ascii "accepted") numbers, length_fields numbers h)
length_text (Err (Refused r)) h =
    let numbers = numbers_of (told r) in
    omega (arith, length_line (ascii "refused") numbers, length_fields numbers h, numbers_size (told r))
length_text (Err TooLong) h = omega (arith, length_line (ascii "too long") [], length_fields [] h)
