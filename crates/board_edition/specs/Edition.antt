-- Of which edition a file is, which a converter tests first, and what a converter answers (document 02, U8 and U9).
-- Assumes nothing.
use Rattle.std.specs.Prelude.{◌≡◌, List, ◌↔◌, ◌⊎◌, ℕ, ◌≤◌, eqb, leb, length, Result, Ok, Err}
use Rattle.refusals.specs.Answers.{Answer, unless}
use Rattle.refusals.specs.declared.Refusal.{Refusal}
use Rattle.refusals.specs.declared.Refusal.TheVariants.{DestinationLength, FileLength, WrongKind, WrongValue}
use Rattle.refusals.specs.declared.Refusal.TheVariants.{SameEdition}
use Rattle.board_words.specs.Words.{kind_of, word_at}
use Rattle.board_short.specs.ShortBoard.{mark_in}
use Rattle.board_edition.specs.declared.Edition.{Edition}
use Rattle.board_edition.specs.declared.Edition.TheVariants.{Full, Short}

-- the mark of each edition, bit 29 of word 0
abbrev pub full_mark : ℕ
full_mark = 0

abbrev pub short_mark : ℕ
short_mark = 1

abbrev pub mark_of : Edition → ℕ
mark_of Full = full_mark
mark_of Short = short_mark

-- what is tested of a file that shall have this mark: 12 (below 4), word 0's 13, and right after its kind 19, where the
-- mark is the other one: the file is already in the wanted edition
unfoldable pub edition_test : List ℕ → ℕ → Answer
edition_test file mark =
    unless (leb 4 (length file)) FileLength
    (unless (eqb (kind_of (word_at file 0)) 0) (WrongKind 0)
    (unless (eqb (mark_in (word_at file 0)) mark) SameEdition
    (Ok tt)))

-- ---- what a converter answers

-- word 0 is there, of kind 0, and has this mark
pub record HasMark (file : List ℕ) (mark : ℕ) : Type 0 where
  pub four : 4 ≤ length file
  pub kind : kind_of (word_at file 0) ≡ 0
  pub mark_is : mark_in (word_at file 0) ≡ mark

-- of a file, for a converter to the edition with the mark `wanted`: `read` is what the other edition's reader answers,
-- lent room for the taps; `formless` says that word 0 is accepted and counts more batches than a file of the wanted
-- edition can have (U9); and `fits` says that the destination has the length of the output
module _ (file : List ℕ) (wanted : ℕ) (read : Result (List ℕ) Refusal) (formless fits : Type 0) where
  -- what r is answered for
  pub data ConverterFault (r : Refusal) : Type 0 where
    -- the file is already in the wanted edition, whatever else is wrong with it
    already : HasMark file wanted → r ≡ SameEdition → ConverterFault r
    -- it has no form there, whatever comes after word 0
    no_form : formless → r ≡ WrongValue 0 → ConverterFault r
    -- its reader refuses it for r
    malformed : (HasMark file wanted → ⊥) → (formless → ⊥) → read ≡ Err r → ConverterFault r
    -- its reader accepts it, and the destination has another length than the output
    no_room : (d : List ℕ) → read ≡ Ok d → (formless → ⊥) → (fits → ⊥) → r ≡ DestinationLength
        → ConverterFault r

  pub record ConverterAnswers (answered : Answer) : Type 0 where
    -- accepted is exactly what the reader accepts, where it has a form in the wanted edition and the length fits
    pub accepts : (answered ≡ Ok tt) ↔ ((d : List ℕ) × (read ≡ Ok d) × (formless → ⊥) × fits)
    -- refused is any other file, for its fault, and it has one
    pub refuses : (r : Refusal) → (answered ≡ Err r) ↔ ConverterFault r
    pub answers : ((d : List ℕ) × (read ≡ Ok d) × (formless → ⊥) × fits) ⊎ ((r : Refusal) × ConverterFault r)
    pub one_fault : (r s : Refusal) → ConverterFault r → ConverterFault s → r ≡ s
    -- 19 exactly for the mark
    pub nineteen : (answered ≡ Err SameEdition) ↔ HasMark file wanted
    -- 8 exactly where nothing else is wrong
    pub eight : (answered ≡ Err DestinationLength)
        ↔ ((d : List ℕ) × (read ≡ Ok d) × (formless → ⊥) × (fits → ⊥))
