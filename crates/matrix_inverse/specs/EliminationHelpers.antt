-- Elimination on 12 rows of 24 words, which are at first the matrix with the identity beside it.
-- Assumes nothing.
use Rattle.std.specs.Prelude.{◌≡◌, List, ℕ, ◌+◌, ◌*◌, ◌-◌, ◌/◌, ◌%◌, ◌<◌, ◌≤◌, ltb, length}
use Rattle.lists.specs.Lists.{choose, cell, tab}
use Rattle.field.specs.Field.{Canonical, add, mul}
use Rattle.numbers.specs.Numbers.{width}
use Rattle.matrix.specs.Matrix.{matrix_words, times_column, identity, entry}

-- how many words: a row with the identity's beside it, and all rows
abbrev pub double_width : ℕ
double_width = 24

abbrev pub double_words : ℕ
double_words = 288

-- the word in row i and column l
abbrev pub at : List ℕ → ℕ → ℕ → ℕ
at w i l = cell w (double_width * i + l)

-- n columns of a, and then the identity
unfoldable pub beside : ℕ → (ℕ → ℕ → ℕ) → ℕ → ℕ → ℕ
beside n a i l = choose (ltb l n) (a i l) (identity i (l - n))

-- the rows at the start
unfoldable pub started : List ℕ → List ℕ
started m = tab double_words (λ t. beside width (entry m) (t / double_width) (t % double_width))

-- columns 12 to 23
unfoldable pub right_half : List ℕ → List ℕ
right_half w = tab matrix_words (λ t. at w (t / width) (width + t % width))

-- all words are canonical
pub record Working (w : List ℕ) : Type 0 where
  pub size : length w ≡ double_words
  pub canonical : (i l : ℕ) → i < width → l < double_width → Canonical (at w i l)

-- ---- row operations

-- v is w, but for the first k words of row r, which are those of f
pub record RowSet (w v : List ℕ) (r k : ℕ) (f : ℕ → ℕ) : Type 0 where
  pub size : length v ≡ length w
  pub done : (l : ℕ) → l < k → at v r l ≡ f l
  pub rest : (i l : ℕ) → i < width → l < double_width → (i ≡ r → l < k → ⊥) → at v i l ≡ at w i l

-- row r times c
abbrev pub scaled_row : List ℕ → ℕ → ℕ → ℕ → ℕ
scaled_row w r c l = mul c (at w r l)

-- row r plus c times row j
abbrev pub added_row : List ℕ → ℕ → ℕ → ℕ → ℕ → ℕ
added_row w r j c l = add (at w r l) (mul c (at w j l))

-- ---- progress

-- all rows take the column z of 24 to 0
abbrev pub Zeros : List ℕ → (ℕ → ℕ) → Type 0
Zeros w z = (i : ℕ) → i < width → times_column double_width (at w) z i ≡ 0

-- the columns before j are those of the identity
pub record Reduced (w : List ℕ) (j : ℕ) : Type 0 where
  pub working : Working w
  pub ident : (i l : ℕ) → i < width → l < j → at w i l ≡ identity i l

-- v is reduced to column j, and takes no column to zeros that w did not
pub record Reduces (w v : List ℕ) (j : ℕ) : Type 0 where
  pub reduced : Reduced v j
  pub keeps : (z : ℕ → ℕ) → Zeros v z → Zeros w z

-- the first row from j on that has no 0 in column j
pub record Pivot (w : List ℕ) (j r : ℕ) : Type 0 where
  pub from : j ≤ r
  pub within : r < width
  pub before : (i : ℕ) → j ≤ i → i < r → at w i j ≡ 0
  pub found : at w r j ≡ 0 → ⊥

-- no row from j on has a pivot for column j
abbrev pub NoPivot : List ℕ → ℕ → Type 0
NoPivot w j = (i : ℕ) → j ≤ i → i < width → at w i j ≡ 0

-- rows that w was reduced to, and the column at which no pivot was left
pub record Stuck (w : List ℕ) : Type 0 where
  pub rows : List ℕ
  pub column : ℕ
  pub within : column < width
  pub reduces : Reduces w rows column
  pub none : NoPivot rows column
