-- What a comparison of kinds says of a word; a word's bytes read back as the word, and the words of a list of bytes
-- spell that list.
-- Assumes nothing.
use mathlib.Core.Path.{◌≡◌, refl, sym, ap, ap₂, ◌∙◌}
use mathlib.Core.Bool.{Bool, not, not-not}
use mathlib.Core.List.{List, [], ◌∷◌}
use Prim.Native.Nat.{ℕ, zero, suc, ◌+◌, ◌*◌, ◌/◌, ◌%◌, ◌^◌, ◌<◌, ◌≤◌}
use native.Mathlib.Nat.{mod-lt}
use native.Mathlib.Omega.{arith}
use denote.Enum.Bare.{sameb}
use denote.Enum.Declared.{tag_of}
use lib.Dec.{eqb}
use lib.ListN.{length}
use lib.Pow.{shr-shr}
use lib.Seq.{ext_get_or}
use Rattle.lists.specs.Lists.{cell}
use Rattle.lists.proofs.Each.{length_each, cell_each}
use Rattle.board_words.specs.Words.{number_of, kind_of, word_bytes, word_at, AllBytes, bytes_of}
use Rattle.board_words.specs.contracts.Kind.{the_type}
use Rattle.board_words.specs.declared.Kind.{Kind}
use Rattle.board_words.specs.declared.Kind.TheVariants.{Count, High, Middle, Low}

-- ---- kinds

-- kinds are compared by their numbers
numbered : (k : Kind) → tag_of the_type k ≡ number_of k
numbered Count = refl
numbered High = refl
numbered Middle = refl
numbered Low = refl

same_kind : (k q : Kind) → sameb the_type k q ≡ eqb (number_of k) (number_of q)
same_kind k q = ap₂ eqb (numbered k) (numbered q)

-- what a comparison of a kind with q says of the word w that has it, where w is v
module _ (q k : Kind) {w v : ℕ} (kind : number_of k ≡ kind_of w) (word : w ≡ v) where
  pub kind_same : {b t : Bool} → b ≡ sameb the_type k q → b ≡ t → eqb (kind_of v) (number_of q) ≡ t
  kind_same is e = rw (← word, ← kind) (sym (same_kind k q) ∙ sym is ∙ e)

  pub kind_other : {b t : Bool} → b ≡ not (sameb the_type k q) → b ≡ t → eqb (kind_of v) (number_of q) ≡ not t
  kind_other is e = kind_same refl (sym (not-not (sameb the_type k q)) ∙ ap not (sym is ∙ e))

-- ---- bytes
four_bytes : (w : ℕ) → length (word_bytes w) ≡ 4
four_bytes w = refl

pub length_bytes : (ws : List ℕ) → length (bytes_of ws) ≡ 4 * length ws
length_bytes ws = length_each 4 word_bytes four_bytes ws

pub cell_bytes : (ws : List ℕ) (j b : ℕ) → j < length ws → b < 4
    → cell (bytes_of ws) (4 * j + b) ≡ cell (word_bytes (cell ws j)) b
cell_bytes ws j b h m = cell_each 4 word_bytes four_bytes ws j b h m

-- a number of 32 bits from its four bytes
four_sum : (w : ℕ) → w < 2 ^ 32
    → w % 2 ^ 8 + w / 2 ^ 8 % 2 ^ 8 * 2 ^ 8 + w / 2 ^ 16 % 2 ^ 8 * 2 ^ 16 + w / 2 ^ 24 % 2 ^ 8 * 2 ^ 24 ≡ w
four_sum w h =
    let top : w / 2 ^ 24 % 2 ^ 8 ≡ w / 2 ^ 24 = omega arith in
    omega (arith, shr-shr w 8 8, shr-shr w 16 8)

-- its four bytes
four_digits : (a b c d i : ℕ) → a < 2 ^ 8 → b < 2 ^ 8 → c < 2 ^ 8 → d < 2 ^ 8 → i < 4
    → cell (word_bytes (a + b * 2 ^ 8 + c * 2 ^ 16 + d * 2 ^ 24)) i ≡ cell (a ∷ b ∷ c ∷ d ∷ []) i
four_digits a b c d zero ha hb hc hd m = omega arith
four_digits a b c d (suc zero) ha hb hc hd m = omega arith
four_digits a b c d (suc (suc zero)) ha hb hc hd m = omega arith
four_digits a b c d (suc (suc (suc zero))) ha hb hc hd m = omega arith
four_digits a b c d (suc (suc (suc (suc i)))) ha hb hc hd m = absurd (omega arith)

-- what is written as words is read as those words
pub word_bytes_lem : (ws : List ℕ) (j : ℕ) → j < length ws → cell ws j < 2 ^ 32 → word_at (bytes_of ws) j ≡ cell ws j
unfolding word_at
word_bytes_lem ws j h fits =
    let e : 4 * j ≡ 4 * j + 0 = omega arith in
    omega (
      arith,
      four_sum (cell ws j) fits,
      ap (cell (bytes_of ws)) e ∙ cell_bytes ws j 0 h (omega arith),
      cell_bytes ws j 1 h (omega arith),
      cell_bytes ws j 2 h (omega arith),
      cell_bytes ws j 3 h (omega arith),
    )

-- a word read from bytes has those bytes
bytes_at : (s : List ℕ) (j b : ℕ) → b < 4
    → cell (cell s (4 * j) ∷ cell s (4 * j + 1) ∷ cell s (4 * j + 2) ∷ cell s (4 * j + 3) ∷ []) b ≡ cell s (4 * j + b)
bytes_at s j zero m =
    let e : 4 * j ≡ 4 * j + 0 = omega arith in
    ap (cell s) e
bytes_at s j (suc zero) m = refl
bytes_at s j (suc (suc zero)) m = refl
bytes_at s j (suc (suc (suc zero))) m = refl
bytes_at s j (suc (suc (suc (suc b)))) m = absurd (omega arith)

bytes_word : (s : List ℕ) (j b : ℕ) → AllBytes s → 4 * j + 4 ≤ length s → b < 4
    → cell (word_bytes (word_at s j)) b ≡ cell s (4 * j + b)
unfolding word_at
bytes_word s j b all h m =
    four_digits _ _ _ _ b (all (4 * j) (omega arith)) (all (4 * j + 1) (omega arith)) (all (4 * j + 2) (omega arith))
    (all (4 * j + 3) (omega arith)) m
    ∙ bytes_at s j b m

-- a list of bytes is spelled by its words
pub bytes_unique : (s ws : List ℕ) → AllBytes s → length s ≡ 4 * length ws
    → ((j : ℕ) → j < length ws → cell ws j ≡ word_at s j) → bytes_of ws ≡ s
bytes_unique s ws all size same = ext_get_or 0 (bytes_of ws) s (length_bytes ws ∙ sym size) at
  where
    at : (i : ℕ) → i < length (bytes_of ws) → cell (bytes_of ws) i ≡ cell s i
    at i h =
        let j : ℕ = i / 4 in
        let b : ℕ = i % 4 in
        let l : j < length ws = omega (arith, length_bytes ws) in
        let m : b < 4 = mod-lt i (omega arith) in
        let e : i ≡ 4 * j + b = omega arith in
        ap (cell (bytes_of ws)) e
        ∙ cell_bytes ws j b l m
        ∙ ap (λ w. cell (word_bytes w) b) (same j l)
        ∙ bytes_word s j b all (omega arith) m
        ∙ sym (ap (cell s) e)

-- a kind's number is no other's
pub number_unique : (k q : Kind) (n : ℕ) → number_of k ≡ n → number_of q ≡ n → k ≡ q
number_unique Count Count n e f = refl
number_unique Count High n e f = absurd (omega (arith, e, f))
number_unique Count Middle n e f = absurd (omega (arith, e, f))
number_unique Count Low n e f = absurd (omega (arith, e, f))
number_unique High Count n e f = absurd (omega (arith, e, f))
number_unique High High n e f = refl
number_unique High Middle n e f = absurd (omega (arith, e, f))
number_unique High Low n e f = absurd (omega (arith, e, f))
number_unique Middle Count n e f = absurd (omega (arith, e, f))
number_unique Middle High n e f = absurd (omega (arith, e, f))
number_unique Middle Middle n e f = refl
number_unique Middle Low n e f = absurd (omega (arith, e, f))
number_unique Low Count n e f = absurd (omega (arith, e, f))
number_unique Low High n e f = absurd (omega (arith, e, f))
number_unique Low Middle n e f = absurd (omega (arith, e, f))
number_unique Low Low n e f = refl
