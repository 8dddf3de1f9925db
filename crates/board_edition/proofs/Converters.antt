-- What a converter answers, once for both: from the edition with the mark `mark` to the one with the mark `other`. Its
-- tests are those of the edition, and then `rest`. In a file with the mark, both together refuse with 14 where the file
-- has no form in the other edition (`formless`), and else are all that the reader tests, lent room for the taps
-- (`tests`), and 8 last: `claim` is what the reader returns, and `b` says whether the destination has the length of the
-- output (`fits`).
-- Assumes nothing.
use mathlib.Core.Path.{◌≡◌, refl, sym, ap, ◌∙◌}
use mathlib.Core.Bool.{Bool, true, false, true≢false}
use mathlib.Core.List.{List}
use mathlib.Core.Logic.{◌↔◌, ◌⊎◌, inl, inr}
use Prim.Native.Nat.{ℕ, ◌≤◌, ◌<◌}
use native.Mathlib.Omega.{arith}
use lib.Dec.{eqb}
use lib.ListN.{length}
use Rattle.std.specs.Prelude.{Ok, Err}
use Rattle.refusals.specs.Refusals.{told}
use Rattle.refusals.specs.Answers.{Answer, unless, after, with_value}
use Rattle.refusals.specs.declared.Refusal.{Refusal}
use Rattle.refusals.specs.declared.Refusal.TheVariants.{DestinationLength, FileLength, WrongKind, WrongValue}
use Rattle.refusals.specs.declared.Refusal.TheVariants.{SameEdition}
use Rattle.refusals.proofs.Laws.{not_accepted, refused_same, value_accepted, value_refused, AnswerEnds, ends_refusal}
use Rattle.board_words.specs.Words.{kind_of, word_at}
use Rattle.board_short.specs.ShortBoard.{mark_in}
use Rattle.board_edition.specs.Edition.{edition_test, HasMark, ConverterFault, already, no_form, malformed}
use Rattle.board_edition.specs.Edition.{no_room, ConverterAnswers}
use Rattle.board_edition.proofs.Answers.{accepted, EditionFault, no_count, count_kind, other_mark, faulty}
use Rattle.board_edition.proofs.Answers.{fault_refused}

-- a refusal with another number than n
abbrev pub Not : ℕ → Refusal → Type 0
Not n r = eqb (told r).number n ≡ false

-- what is known of a reader's tests of a file
pub record Reader (file : List ℕ) (other : ℕ) (tests : Answer) : Type 0 where
  pub no_count : length file < 4 → tests ≡ Err FileLength
  pub count_kind : 4 ≤ length file → (kind_of (word_at file 0) ≡ 0 → ⊥) → tests ≡ Err (WrongKind 0)
  pub other_edition : HasMark file other → tests ≡ Ok tt → ⊥
  pub never_8 : AnswerEnds (Not 8) tests
  pub never_19 : AnswerEnds (Not 19) tests

module _ (file : List ℕ) (mark other : ℕ) (marks : (mark_in (word_at file 0) ≡ mark → ⊥) → mark_in (word_at file 0) ≡ other)
    (apart : mark ≡ other → ⊥) (tests : Answer) (claim : List ℕ) (b : Bool) (fits : Type 0) (fit : b ≡ true → fits)
    (unfit : b ≡ false → fits → ⊥) (rest : Answer) (reader : Reader file other tests) (formless : Type 0)
    (form : Dec formless) (its_mark : formless → HasMark file mark)
    (without : formless → after (edition_test file mark) rest ≡ Err (WrongValue 0))
    (marked : HasMark file mark → (formless → ⊥)
    → after (edition_test file mark) rest ≡ after tests (unless b DestinationLength (Ok tt))) where
  abbrev converter : Answer
  converter = after (edition_test file mark) rest

  not_both : HasMark file mark → HasMark file other → ⊥
  not_both h o = apart (sym h.mark_is ∙ o.mark_is)

  -- a file that the reader accepts has it
  read_marked : tests ≡ Ok tt → HasMark file mark
  read_marked t = go (edition_test file mark) refl
    where
      fault : (r : Refusal) → EditionFault file mark r → ⊥
      fault r (no_count h e) = not_accepted FileLength (sym (reader.no_count h) ∙ t)
      fault r (count_kind h n e) = not_accepted (WrongKind 0) (sym (reader.count_kind h n) ∙ t)
      fault r (other_mark h z n e) = reader.other_edition (record { four = h; kind = z; mark_is = marks n }) t

      go : (a : Answer) → edition_test file mark ≡ a → HasMark file mark
      go (Ok _) e = accepted file mark e
      go (Err r) e = absurd (fault r (faulty file mark r e))

  -- ---- accepted are exactly the files that the reader accepts, where they have a form there and the length fits
  abbrev Converts : Type 0
  Converts = (d : List ℕ) × (with_value tests claim ≡ Ok d) × (formless → ⊥) × fits

  accepts_exactly : (converter ≡ Ok tt) ↔ Converts
  accepts_exactly = (
    λ e. go (edition_test file mark) refl (λ f. not_accepted (WrongValue 0) (sym (without f) ∙ e)) e,
    λ h. accept h.0 h.1 h.2 (room b refl h.3),
  )
    where
      on : (t : Answer) (c : Bool) → tests ≡ t → b ≡ c → (formless → ⊥)
          → after t (unless c DestinationLength (Ok tt)) ≡ Ok tt → Converts
      on (Ok _) true e f n g = (claim, ap (λ x. with_value x claim) e, n, fit f)
      on (Ok _) false e f n g = absurd (not_accepted DestinationLength g)
      on (Err r) c e f n g = absurd (not_accepted r g)

      go : (a : Answer) → edition_test file mark ≡ a → (formless → ⊥) → converter ≡ Ok tt → Converts
      go (Ok _) a n e = on tests b refl refl n (sym (marked (accepted file mark a) n) ∙ e)
      go (Err r) a n e = absurd (not_accepted r (sym (ap (λ x. after x rest) a) ∙ e))

      room : (c : Bool) → b ≡ c → fits → unless c DestinationLength (Ok tt) ≡ Ok tt
      room true e f = refl
      room false e f = absurd (unfit e f)

      accept : (d : List ℕ) → with_value tests claim ≡ Ok d → (formless → ⊥)
          → unless b DestinationLength (Ok tt) ≡ Ok tt → converter ≡ Ok tt
      accept d e n f =
          let t = (value_accepted tests claim d e).0 in
          marked (read_marked t) n ∙ ap (λ x. after x (unless b DestinationLength (Ok tt))) t ∙ f

  -- ---- and refused is each other one for its fault
  abbrev Fault : Refusal → Type 0
  Fault r = ConverterFault file other (with_value tests claim) formless fits r

  -- from the tests of the edition
  by_edition : (r : Refusal) → EditionFault file mark r → Fault r
  by_edition r (no_count h e) =
      malformed (λ o. omega (arith, o.four, h)) (λ f. omega (arith, (its_mark f).four, h))
      (ap (λ x. with_value x claim) (reader.no_count h) ∙ ap Err (sym e))
  by_edition r (count_kind h n e) =
      malformed (λ o. n o.kind) (λ f. n (its_mark f).kind)
      (ap (λ x. with_value x claim) (reader.count_kind h n) ∙ ap Err (sym e))
  by_edition r (other_mark h z n e) = already (record { four = h; kind = z; mark_is = marks n }) e

  -- from those of the reader, and the last
  by_reader : (r : Refusal) → HasMark file mark → (formless → ⊥) → (t : Answer) (c : Bool) → tests ≡ t → b ≡ c
      → after t (unless c DestinationLength (Ok tt)) ≡ Err r → Fault r
  by_reader r h n (Ok _) true e f g = absurd (not_accepted r (sym g))
  by_reader r h n (Ok _) false e f g =
      no_room claim (ap (λ x. with_value x claim) e) n (unfit f) (sym (refused_same g))
  by_reader r h n (Err q) c e f g =
      malformed (not_both h) n (ap (λ x. with_value x claim) (e ∙ g))

  there : (r : Refusal) → converter ≡ Err r → Fault r
  there r e = go (edition_test file mark) refl form
    where
      go : (a : Answer) → edition_test file mark ≡ a → Dec formless → Fault r
      go a f (yes o) = no_form o (sym (refused_same (sym (without o) ∙ e)))
      go (Ok _) f (no n) =
          let h = accepted file mark f in
          by_reader r h n tests b refl refl (sym (marked h n) ∙ e)
      go (Err q) f (no n) =
          let same = refused_same (sym (ap (λ x. after x rest) f) ∙ e) in
          by_edition r (faulty file mark r (f ∙ ap Err same))

  -- the edition's tests refuse what the reader refuses, but for the mark
  read_refused : (r : Refusal) → tests ≡ Err r → (HasMark file other → ⊥) → (formless → ⊥)
      → converter ≡ Err r
  read_refused r t n form = go (edition_test file mark) refl
    where
      same : (q : Refusal) → EditionFault file mark q → q ≡ r
      same q (no_count h e) = e ∙ refused_same (sym (reader.no_count h) ∙ t)
      same q (count_kind h m e) = e ∙ refused_same (sym (reader.count_kind h m) ∙ t)
      same q (other_mark h z m e) = absurd (n (record { four = h; kind = z; mark_is = marks m }))

      go : (a : Answer) → edition_test file mark ≡ a → converter ≡ Err r
      go (Ok _) f =
          marked (accepted file mark f) form ∙ ap (λ x. after x (unless b DestinationLength (Ok tt))) t
      go (Err q) f = ap (λ x. after x rest) f ∙ ap Err (same q (faulty file mark q f))

  back : (r : Refusal) → Fault r → converter ≡ Err r
  back r (already o e) =
      let n : mark_in (word_at file 0) ≡ mark → ⊥ = λ q. apart (sym q ∙ o.mark_is) in
      ap (λ x. after x rest) (fault_refused file mark r (other_mark o.four o.kind n e))
  back r (no_form o e) = without o ∙ ap Err (sym e)
  back r (malformed n m e) = read_refused r (value_refused tests claim r e) n m
  back r (no_room d e m n f) =
      let t = (value_accepted tests claim d e).0 in
      marked (read_marked t) m
      ∙ ap (λ x. after x (unless b DestinationLength (Ok tt))) t
      ∙ room b refl
    where
      room : (c : Bool) → b ≡ c → unless c DestinationLength (Ok tt) ≡ Err r
      room true q = absurd (n (fit q))
      room false q = ap Err (sym f)

  refuses_exactly : (r : Refusal) → (converter ≡ Err r) ↔ Fault r
  refuses_exactly r = (there r, back r)

  -- ---- 19 is said for the mark alone, and 8 for the length alone
  other_number : (n : ℕ) (q r : Refusal) → eqb (told q).number n ≡ true → Not n r → q ≡ r → ⊥
  other_number n q r y o e = true≢false (sym y ∙ ap (λ x. eqb (told x).number n) e ∙ o)

  nineteen : (converter ≡ Err SameEdition) ↔ HasMark file other
  nineteen = (λ e. go (there SameEdition e), λ o. back SameEdition (already o refl))
    where
      go : Fault SameEdition → HasMark file other
      go (already o e) = o
      go (no_form o e) = absurd (other_number 19 SameEdition (WrongValue 0) refl refl e)
      go (malformed n m e) =
          let q = value_refused tests claim SameEdition e in
          absurd (true≢false (ends_refusal (Not 19) tests SameEdition reader.never_19 q))
      go (no_room d e m n f) = absurd (other_number 19 SameEdition DestinationLength refl refl f)

  eight : (converter ≡ Err DestinationLength)
      ↔ ((d : List ℕ) × (with_value tests claim ≡ Ok d) × (formless → ⊥) × (fits → ⊥))
  eight =
      (λ e. go (there DestinationLength e), λ h. back DestinationLength (no_room h.0 h.1 h.2 h.3 refl))
    where
      go : Fault DestinationLength
          → (d : List ℕ) × (with_value tests claim ≡ Ok d) × (formless → ⊥) × (fits → ⊥)
      go (already o e) = absurd (other_number 8 DestinationLength SameEdition refl refl e)
      go (no_form o e) = absurd (other_number 8 DestinationLength (WrongValue 0) refl refl e)
      go (malformed n m e) =
          let q = value_refused tests claim DestinationLength e in
          absurd (true≢false (ends_refusal (Not 8) tests DestinationLength reader.never_8 q))
      go (no_room d e m n f) = (d, e, m, n)

  -- ---- every file is accepted, or refused for one fault
  some_answer : (a : Answer) → converter ≡ a → Converts ⊎ ((r : Refusal) × Fault r)
  some_answer (Ok _) e = inl (accepts_exactly.0 e)
  some_answer (Err r) e = inr (r, there r e)

  pub answers : ConverterAnswers file other (with_value tests claim) formless fits converter
  answers = record {
    accepts = accepts_exactly;
    refuses = refuses_exactly;
    answers = some_answer converter refl;
    one_fault = λ r s f g. refused_same (sym (back r f) ∙ back s g);
    nineteen = nineteen;
    eight = eight;
  }
