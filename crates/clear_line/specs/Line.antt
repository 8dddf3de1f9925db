-- The one line that the program prints (document 01, "The board file").
-- Assumes nothing.
use Rattle.std.specs.Prelude.{List, [], ◌∷◌, ◌++◌, ℕ, Ok, Err}
use Rattle.std.specs.Fmt.{decimal}
use Prim.Native.Char.{code}
use Prim.Native.String as text
use Prim.Native.String.{String}
use Rattle.lists.specs.Lists.{each}
use Rattle.refusals.specs.Refusals.{told}
use Rattle.refusals.specs.declared.Particulars.{Particulars}
use Rattle.refusals.specs.declared.Place.{Place}
use Rattle.refusals.specs.declared.Place.TheVariants.{Nowhere, Index, Test}
use Rattle.clear_answer.specs.Clearing.{Outcome}
use Rattle.clear_answer.specs.declared.Unclear.TheVariants.{Refused, TooLong}

-- the bytes of a text
abbrev pub ascii : String → List ℕ
ascii text.[] = []
ascii (text.◌∷◌ c s) = code c ∷ ascii s

-- ---- the line: fields are one space apart, numbers in decimal

-- numbers, a space before each
unfoldable pub fields : List ℕ → List ℕ
fields numbers = each (λ n. 32 ∷ decimal n) numbers

-- a word, its numbers and a line feed
unfoldable pub line : List ℕ → List ℕ → List ℕ
line word numbers = word ++ fields numbers ++ (10 ∷ [])

-- the place if there is one: the index, or row and constraint for 11
abbrev pub place_numbers : Place → List ℕ
place_numbers Nowhere = []
place_numbers (Index i) = i ∷ []
place_numbers (Test row constraint tests) = row ∷ constraint ∷ []

-- the refusal's number, then the place
abbrev pub numbers_of : Particulars → List ℕ
numbers_of p = p.number ∷ place_numbers p.place

-- `accepted`, k, tests; or `refused`, number, then the place
unfoldable pub text_of : Outcome → List ℕ
text_of (Ok report) = line (ascii "accepted") (report.batches ∷ report.tests ∷ [])
text_of (Err (Refused r)) = line (ascii "refused") (numbers_of (told r))
text_of (Err TooLong) = line (ascii "too long") []
