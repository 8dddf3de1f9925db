-- Demand 1 (document 00): the answer to every call is a full result or one of the numbered refusals of documents 01
-- and 02, for all tables, tap lists, traces and files that can be lent, and a refusal alters no lent buffer. (The
-- contracts have no `requires`, and equate every answer with a definition that has a value for whatever is lent.)
-- Assumes nothing.
use Rattle.std.specs.Prelude.{◌≡◌, ◌↔◌, ℕ, ◌*◌, ◌≤◌, length, Ok, Err}
use mathlib.Core.List.{List, [], ◌∷◌, Memᴰ}
use Rattle.numbers.specs.Numbers.{width, tap_words, trace_words, IsPermitted}
use Rattle.refusals.specs.Refusals.{told, indexed}
use Rattle.refusals.specs.declared.Refusal.{Refusal}
use Rattle.refusals.specs.declared.Place.TheVariants.{Nowhere, Index, Test}
use Rattle.refusals.specs.declared.Refusal.TheVariants.{TableLength, TableWord, NoInverse, WrongInverse, TapLength}
use Rattle.refusals.specs.declared.Refusal.TheVariants.{TapWord, TraceLength, DestinationLength, ClaimWord, TraceWord}
use Rattle.refusals.specs.declared.Refusal.TheVariants.{Constraint, FileLength, WrongKind, WrongValue, NoSuchTap}
use Rattle.refusals.specs.declared.Refusal.TheVariants.{NoPair, ClaimBatches, LongElement, SameEdition}
use Rattle.matrix.specs.Matrix.{Kernel, entry}
use Rattle.table.specs.Table.{table_test, raw_matrix, RawInverse, raw_test, Prepares}
use Rattle.hash.specs.Hash as rescue
use Rattle.hash.specs.Answers.{hash_answer}
use Rattle.hash_chain.specs.Answers.{chain_answer}
use Rattle.trace.specs.Trace.{trace}
use Rattle.trace.specs.Answers.{build_answer, build_leaves}
use Rattle.check_constraints.specs.ReadOff.{read_taps}
use Rattle.check_trace.specs.Answers.{check_test, check_answer}
use Rattle.trace_read_off.specs.Answers.{read_off_test, read_off_answer, read_off_leaves}
use Rattle.trace_edit.specs.Answers.{altered_taps, edit_answer, edit_leaves}
use Rattle.hash_undo.specs.Unhash.{taps_before}
use Rattle.hash_undo.specs.Answers.{unhash_answer}
use Rattle.board.specs.Board.{pack_test, packed, pack_leaves, unpack_answer, taps_in, claim_in, unpack_leaves}
use Rattle.board_short.specs.ShortBoard.{pack_short_test, packed_short, pack_short_leaves, unpack_short_answer}
use Rattle.board_short.specs.ShortBoard.{short_taps_in}
use Rattle.board_short.specs.ShortBoard.{short_claim_in, unpack_short_leaves}
use Rattle.board_to_short.specs.ToShort.{to_short_test, to_short_leaves}
use Rattle.board_to_full.specs.ToFull.{to_full_test, to_full_leaves}
use Rattle.call_results.specs.Code.{Says, tests_code}
use Rattle.call_results.specs.HandsOver.{HandsOver}
use Rattle.call_answers.specs.Calls.{PrepareCall, hash_call_test, hash_call, chain_call_test, chain_call}
use Rattle.call_answers.specs.Calls.{build_call_test, BuildCall}
use Rattle.call_answers.specs.Calls.{ReadOffCall, edit_call_test, EditCall, unhash_call_test, UnhashCall, PackCall}
use Rattle.call_answers.specs.Calls.{unpack_call_test, UnpackCall, PackShortCall, unpack_short_call_test}
use Rattle.call_answers.specs.Calls.{UnpackShortCall}
use Rattle.call_answers.specs.Calls.{ToShortCall, ToFullCall}
use Rattle.check_exact.specs.Exact.{IsListFor}
use Rattle.refusals.specs.Answers.{Answer}

-- ---- the operations, and the numbers that each can return, in the order of their tests (document 01, "What is
-- turned back"; document 02 for Edit, Unhash, 17, the short edition and the converters)

pub data Operation : Type 0 where
  prepare : Operation
  hash : Operation
  chain : Operation
  build : Operation
  check : Operation
  read_off : Operation
  edit : Operation
  unhash : Operation
  pack : Operation
  unpack : Operation
  pack_short : Operation
  unpack_short : Operation
  to_short : Operation
  to_full : Operation

abbrev pub numbers : Operation → List ℕ
numbers prepare = 1 ∷ 8 ∷ 2 ∷ 3 ∷ []
numbers hash = 1 ∷ 2 ∷ 4 ∷ 6 ∷ []
numbers chain = 1 ∷ 2 ∷ 4 ∷ 5 ∷ 6 ∷ []
numbers build = 1 ∷ 2 ∷ 4 ∷ 5 ∷ 8 ∷ 6 ∷ []
numbers check = 1 ∷ 2 ∷ 4 ∷ 7 ∷ 17 ∷ 9 ∷ 10 ∷ 11 ∷ []
numbers read_off = 1 ∷ 2 ∷ 4 ∷ 7 ∷ 17 ∷ 8 ∷ 9 ∷ 10 ∷ 11 ∷ []
numbers edit = 1 ∷ 2 ∷ 4 ∷ 7 ∷ 17 ∷ 15 ∷ 9 ∷ 10 ∷ 6 ∷ 11 ∷ []
numbers unhash = 1 ∷ 2 ∷ 4 ∷ 6 ∷ 16 ∷ []
numbers pack = 5 ∷ 8 ∷ 9 ∷ 6 ∷ []
numbers unpack = 12 ∷ 13 ∷ 14 ∷ 8 ∷ []
numbers pack_short = 5 ∷ 8 ∷ 9 ∷ 6 ∷ []
numbers unpack_short = 12 ∷ 13 ∷ 14 ∷ 8 ∷ 18 ∷ []
numbers to_short = 12 ∷ 13 ∷ 19 ∷ 14 ∷ 8 ∷ []
numbers to_full = 12 ∷ 13 ∷ 19 ∷ 14 ∷ 18 ∷ 8 ∷ []

-- from another language four words, Unhash's eight and Hash's twelve go to a destination too, whose length is tested
-- where 8 stands
abbrev pub call_numbers : Operation → List ℕ
call_numbers prepare = numbers prepare
call_numbers hash = 1 ∷ 2 ∷ 4 ∷ 8 ∷ 6 ∷ []
call_numbers chain = 1 ∷ 2 ∷ 4 ∷ 5 ∷ 8 ∷ 6 ∷ []
call_numbers build = numbers build
call_numbers check = numbers check
call_numbers read_off = numbers read_off
call_numbers edit = 1 ∷ 2 ∷ 4 ∷ 7 ∷ 17 ∷ 15 ∷ 8 ∷ 9 ∷ 10 ∷ 6 ∷ 11 ∷ []
call_numbers unhash = 1 ∷ 2 ∷ 4 ∷ 8 ∷ 6 ∷ 16 ∷ []
call_numbers pack = numbers pack
call_numbers unpack = numbers unpack
call_numbers pack_short = numbers pack_short
call_numbers unpack_short = numbers unpack_short
call_numbers to_short = numbers to_short
call_numbers to_full = numbers to_full

-- the refusal's number is one of these
abbrev pub OneOf : List ℕ → Refusal → Type 0
OneOf ns r = Memᴰ (told r).number ns

-- document 01's table of what is turned back, with document 02's additions: the number of each cause, and the place
-- that comes with it: none, an index, or row, constraint and the tests up to the failing one
pub record Told : Type 0 where
  pub table_length : told TableLength ≡ record { number = 1; place = Nowhere }
  pub table_word : (i : ℕ) → told (TableWord i) ≡ record { number = 2; place = Index i }
  pub no_inverse : told NoInverse ≡ record { number = 3; place = Nowhere }
  pub wrong_inverse : (i : ℕ) → told (WrongInverse i) ≡ record { number = 4; place = Index i }
  pub tap_length : told TapLength ≡ record { number = 5; place = Nowhere }
  pub tap_word : (i : ℕ) → told (TapWord i) ≡ record { number = 6; place = Index i }
  pub trace_length : told TraceLength ≡ record { number = 7; place = Nowhere }
  pub destination_length : told DestinationLength ≡ record { number = 8; place = Nowhere }
  pub claim_word : (i : ℕ) → told (ClaimWord i) ≡ record { number = 9; place = Index i }
  pub trace_word : (i : ℕ) → told (TraceWord i) ≡ record { number = 10; place = Index i }
  pub constraint : (i q n : ℕ) → told (Constraint (record { 0 = i }) q n)
      ≡ record { number = 11; place = Test i q n }
  pub file_length : told FileLength ≡ record { number = 12; place = Nowhere }
  pub wrong_kind : (i : ℕ) → told (WrongKind i) ≡ record { number = 13; place = Index i }
  pub wrong_value : (i : ℕ) → told (WrongValue i) ≡ record { number = 14; place = Index i }
  pub no_such_tap : told NoSuchTap ≡ record { number = 15; place = Nowhere }
  pub no_pair : told NoPair ≡ record { number = 16; place = Nowhere }
  pub claim_batches : told ClaimBatches ≡ record { number = 17; place = Nowhere }
  pub long_element : (i : ℕ) → told (LongElement i) ≡ record { number = 18; place = Index i }
  pub same_edition : told SameEdition ≡ record { number = 19; place = Nowhere }

-- the operation, lent something, answers this refusal
pub data Refuses : Operation → Refusal → Type 0 where
  prepare_refuses : (raw old new : List ℕ) (r : Refusal) → Prepares raw old (Err r) new → Refuses prepare r
  hash_refuses : (T words : List ℕ) (r : Refusal) → hash_answer T words ≡ Err r → Refuses hash r
  chain_refuses : (T w : List ℕ) (r : Refusal) → chain_answer T w ≡ Err r → Refuses chain r
  build_refuses : (T w : List ℕ) (size : ℕ) (r : Refusal) → build_answer T w size ≡ Err r → Refuses build r
  check_refuses : (T t claim : List ℕ) (c : ℕ) (r : Refusal) → check_answer T t claim c ≡ Err r
      → Refuses check r
  read_off_refuses : (T t claim : List ℕ) (c size : ℕ) (r : Refusal) → read_off_answer T t claim c size ≡ Err r
      → Refuses read_off r
  edit_refuses : (T t claim : List ℕ) (c n : ℕ) (new : List ℕ) (r : Refusal)
      → edit_answer T t claim c n new ≡ Err r → Refuses edit r
  unhash_refuses : (T s : List ℕ) (r : Refusal) → unhash_answer T s ≡ Err r → Refuses unhash r
  pack_refuses : (w claim : List ℕ) (size : ℕ) (r : Refusal) → pack_test w claim size ≡ Err r → Refuses pack r
  unpack_refuses : (file : List ℕ) (size : ℕ) (r : Refusal) → unpack_answer file size ≡ Err r
      → Refuses unpack r
  pack_short_refuses : (w claim : List ℕ) (size : ℕ) (r : Refusal) → pack_short_test w claim size ≡ Err r
      → Refuses pack_short r
  unpack_short_refuses : (file : List ℕ) (size : ℕ) (r : Refusal) → unpack_short_answer file size ≡ Err r
      → Refuses unpack_short r
  to_short_refuses : (file : List ℕ) (size : ℕ) (r : Refusal) → to_short_test file size ≡ Err r
      → Refuses to_short r
  to_full_refuses : (file : List ℕ) (size : ℕ) (r : Refusal) → to_full_test file size ≡ Err r
      → Refuses to_full r

-- ---- a full result: how many words come with an acceptance, the twelve cells of Hash's state, the eight words of
-- Unhash's two taps, and the four of an output or a claim
pub record WordCounts : Type 0 where
  pub hash_words : (T words s : List ℕ) → hash_answer T words ≡ Ok s → length s ≡ width
  pub chain_words : (T w d : List ℕ) → chain_answer T w ≡ Ok d → length d ≡ 4
  pub build_words : (T w : List ℕ) (size : ℕ) (d : List ℕ) → build_answer T w size ≡ Ok d → length d ≡ 4
  pub edit_words : (T t claim : List ℕ) (c n : ℕ) (new d : List ℕ) → edit_answer T t claim c n new ≡ Ok d
      → length d ≡ 4
  pub unhash_words : (T s p : List ℕ) → unhash_answer T s ≡ Ok p → length p ≡ 8
  pub unpack_words : (file : List ℕ) (size : ℕ) (d : List ℕ) → unpack_answer file size ≡ Ok d → length d ≡ 4
  pub unpack_short_words : (file : List ℕ) (size : ℕ) (d : List ℕ) → unpack_short_answer file size ≡ Ok d
      → length d ≡ 4

-- ---- a call from another language: what the word says that it returns

-- `Is a`: the tests behind the call answer a. Then its word says acceptance, with the tests walked where the operation
-- counts them, and there is a full result; or it says that refusal, one of these, and what was lent is as it was
pub data Answered (code : ℕ) (ns : List ℕ) (Is : Answer → Type 0) (full : ℕ → Type 0) (kept : Type 0) : Type 0 where
  accepted : (tests : ℕ) → Is (Ok tt) → Says code (indexed 0 tests) → full tests
      → Answered code ns Is full kept
  refused : (r : Refusal) → Is (Err r) → Says code (told r) → OneOf ns r → kept
      → Answered code ns Is full kept

-- the full results: each destination holds all of what it is for. Operations without tests report 0 of them
pub record PrepareResult (raw old table : List ℕ) (tests : ℕ) : Type 0 where
  pub none : tests ≡ 0
  pub prepares : Prepares raw old (Ok tt) table

pub record HashResult (T a b output : List ℕ) (tests : ℕ) : Type 0 where
  pub none : tests ≡ 0
  pub output_is : output ≡ rescue.final_state T (rescue.input a b)

pub record ChainResult (T w output : List ℕ) (tests : ℕ) : Type 0 where
  pub none : tests ≡ 0
  pub k : ℕ
  pub permitted : IsPermitted k
  pub taps : length w ≡ tap_words k
  pub output_is : output ≡ rescue.chain T w k

pub record BuildResult (T w rows output : List ℕ) (tests : ℕ) : Type 0 where
  pub none : tests ≡ 0
  pub k : ℕ
  pub permitted : IsPermitted k
  pub taps : length w ≡ tap_words k
  pub output_is : output ≡ rescue.chain T w k
  pub rows_are : rows ≡ trace T w k

pub record CheckResult (T t claim : List ℕ) (c tests : ℕ) : Type 0 where
  pub k : ℕ
  pub permitted : IsPermitted k
  pub rows : length t ≡ trace_words k
  pub claimed : (1 ≤ c) × (c ≤ k)
  pub all : tests ≡ 372 * k
  pub stands_for : (w : List ℕ) × IsListFor T t claim c k w

pub record ReadOffResult (T t claim : List ℕ) (c : ℕ) (taps : List ℕ) (tests : ℕ) : Type 0 where
  pub k : ℕ
  pub permitted : IsPermitted k
  pub rows : length t ≡ trace_words k
  pub claimed : (1 ≤ c) × (c ≤ k)
  pub all : tests ≡ 372 * k
  pub taps_are : taps ≡ read_taps T t k
  pub stands_for : IsListFor T t claim c k taps

pub record EditResult (T t : List ℕ) (c n : ℕ) (new t' output : List ℕ) (tests : ℕ) : Type 0 where
  pub none : tests ≡ 0
  pub k : ℕ
  pub permitted : IsPermitted k
  pub rows : length t ≡ trace_words k
  pub claimed : (1 ≤ c) × (c ≤ k)
  pub output_is : output ≡ rescue.chain T (rescue.first_taps c (altered_taps T t n new)) c
  pub rows_are : t' ≡ trace T (altered_taps T t n new) k

pub record UnhashResult (T s taps : List ℕ) (tests : ℕ) : Type 0 where
  pub none : tests ≡ 0
  pub taps_are : taps ≡ taps_before T s

pub record PackResult (w claim file : List ℕ) (tests : ℕ) : Type 0 where
  pub none : tests ≡ 0
  pub file_is : file ≡ packed w claim

pub record UnpackResult (file taps claim : List ℕ) (tests : ℕ) : Type 0 where
  pub none : tests ≡ 0
  pub taps_are : taps ≡ taps_in file
  pub claim_is : claim ≡ claim_in file

pub record PackShortResult (w claim file : List ℕ) (tests : ℕ) : Type 0 where
  pub none : tests ≡ 0
  pub file_is : file ≡ packed_short w claim

pub record UnpackShortResult (file taps claim : List ℕ) (tests : ℕ) : Type 0 where
  pub none : tests ≡ 0
  pub taps_are : taps ≡ short_taps_in file
  pub claim_is : claim ≡ short_claim_in file

pub record ToShortResult (file short : List ℕ) (tests : ℕ) : Type 0 where
  pub none : tests ≡ 0
  pub short_is : short ≡ packed_short (taps_in file) (claim_in file)

pub record ToFullResult (short file : List ℕ) (tests : ℕ) : Type 0 where
  pub none : tests ≡ 0
  pub file_is : file ≡ packed (short_taps_in short) (short_claim_in short)

-- ---- the demand

pub record Demand1 : Type 0 where
  -- ---- the numbers
  pub table : Told
  -- a word tells one refusal at most, and none where it tells acceptance
  pub tells_one : (code : ℕ) (r s : Refusal) → Says code (told r) → Says code (told s) → r ≡ s
  pub tells_apart : (code tests : ℕ) (r : Refusal) → Says code (indexed 0 tests) → Says code (told r) → ⊥
  -- ---- the operations
  -- each hands over all of its words where it accepts
  pub word_counts : WordCounts
  -- each operation refuses with its own numbers only
  pub numbered : (o : Operation) (r : Refusal) → Refuses o r → OneOf (numbers o) r
  -- Prepare never returns 4, and only it returns 3
  pub prepare_never_4 : (i : ℕ) → Refuses prepare (WrongInverse i) → ⊥
  pub only_prepare_3 : (o : Operation) → Refuses o NoInverse → o ≡ prepare
  -- Prepare, whose answer is given by a relation, has exactly one answer and leaves exactly one content
  pub prepare_answers : (raw old : List ℕ) → (a : Answer) × ((new : List ℕ) × Prepares raw old a new)
  pub prepare_answers_once : (raw old : List ℕ) (a b : Answer) (s t : List ℕ) → Prepares raw old a s
      → Prepares raw old b t → (a ≡ b) × (s ≡ t)
  -- it refuses with 3 exactly where its tests pass and M has no inverse; that is where M takes some non-zero column to
  -- zeros; and a table that it wrote is accepted
  pub prepare_3_exactly : (raw old new : List ℕ) (a : Answer) → Prepares raw old a new
      → (a ≡ Err NoInverse)
      ↔ ((raw_test raw (length old) ≡ Ok tt) × ((n : List ℕ) → RawInverse raw n → ⊥))
  pub no_inverse_exactly : (raw : List ℕ)
      → ((n : List ℕ) → RawInverse raw n → ⊥) ↔ Kernel width (entry (raw_matrix raw))
  pub prepared_accepted : (raw old new : List ℕ) → Prepares raw old (Ok tt) new
      → table_test new ≡ Ok tt
  -- what each operation that writes leaves after a refusal
  pub prepare_keeps : (raw old new : List ℕ) (r : Refusal) → Prepares raw old (Err r) new → new ≡ old
  pub build_keeps : (T w old : List ℕ) (r : Refusal) → build_answer T w (length old) ≡ Err r
      → build_leaves T w old ≡ old
  pub read_off_keeps : (T t claim old : List ℕ) (c : ℕ) (r : Refusal)
      → read_off_answer T t claim c (length old) ≡ Err r → read_off_leaves T t claim c old ≡ old
  pub edit_keeps : (T t claim : List ℕ) (c n : ℕ) (new : List ℕ) (r : Refusal)
      → edit_answer T t claim c n new ≡ Err r → edit_leaves T t claim c n new ≡ t
  pub pack_keeps : (w claim old : List ℕ) (r : Refusal) → pack_test w claim (length old) ≡ Err r
      → pack_leaves w claim old ≡ old
  pub unpack_keeps : (file old : List ℕ) (r : Refusal) → unpack_answer file (length old) ≡ Err r
      → unpack_leaves file old ≡ old
  pub pack_short_keeps : (w claim old : List ℕ) (r : Refusal) → pack_short_test w claim (length old) ≡ Err r
      → pack_short_leaves w claim old ≡ old
  pub unpack_short_keeps : (file old : List ℕ) (r : Refusal) → unpack_short_answer file (length old) ≡ Err r
      → unpack_short_leaves file old ≡ old
  pub to_short_keeps : (file old : List ℕ) (r : Refusal) → to_short_test file (length old) ≡ Err r
      → to_short_leaves file old ≡ old
  pub to_full_keeps : (short old : List ℕ) (r : Refusal) → to_full_test short (length old) ≡ Err r
      → to_full_leaves short old ≡ old
  -- ---- the calls: whatever words and lengths are lent, with `'` on what a buffer holds afterwards
  pub prepare_called : (raw table table' : List ℕ) (code : ℕ) → PrepareCall raw table code table'
      → Answered code (call_numbers prepare) (λ a. Prepares raw table a table')
      (PrepareResult raw table table') (table' ≡ table)
  pub hash_called : (T output output' : List ℕ) (w0 w1 w2 w3 w4 w5 w6 w7 code : ℕ)
      → HandsOver (hash_call T (w0 ∷ w1 ∷ w2 ∷ w3 ∷ w4 ∷ w5 ∷ w6 ∷ w7 ∷ []) (length output)) code output output'
      → Answered code (call_numbers hash)
      (λ a. hash_call_test T (w0 ∷ w1 ∷ w2 ∷ w3 ∷ w4 ∷ w5 ∷ w6 ∷ w7 ∷ []) (length output) ≡ a)
      (HashResult T (w0 ∷ w1 ∷ w2 ∷ w3 ∷ []) (w4 ∷ w5 ∷ w6 ∷ w7 ∷ []) output') (output' ≡ output)
  pub chain_called : (T w output output' : List ℕ) (code : ℕ)
      → HandsOver (chain_call T w (length output)) code output output'
      → Answered code (call_numbers chain) (λ a. chain_call_test T w (length output) ≡ a)
      (ChainResult T w output') (output' ≡ output)
  pub build_called : (T w rows rows' output output' : List ℕ) (code : ℕ) → BuildCall T w code rows rows' output output'
      → Answered code (call_numbers build) (λ a. build_call_test T w (length rows) (length output) ≡ a)
      (BuildResult T w rows' output') ((rows' ≡ rows) × (output' ≡ output))
  pub check_called : (T t : List ℕ) (c0 c1 c2 c3 c code : ℕ)
      → code ≡ tests_code (check_answer T t (c0 ∷ c1 ∷ c2 ∷ c3 ∷ []) c)
      → Answered code (call_numbers check) (λ a. check_test T t (c0 ∷ c1 ∷ c2 ∷ c3 ∷ []) c ≡ a)
      (CheckResult T t (c0 ∷ c1 ∷ c2 ∷ c3 ∷ []) c) Unit
  pub read_off_called : (T t taps taps' : List ℕ) (c0 c1 c2 c3 c code : ℕ)
      → ReadOffCall T t (c0 ∷ c1 ∷ c2 ∷ c3 ∷ []) c code taps taps'
      → Answered code (call_numbers read_off) (λ a. read_off_test T t (c0 ∷ c1 ∷ c2 ∷ c3 ∷ []) c (length taps) ≡ a)
      (ReadOffResult T t (c0 ∷ c1 ∷ c2 ∷ c3 ∷ []) c taps') (taps' ≡ taps)
  pub edit_called : (T t t' output output' : List ℕ) (c0 c1 c2 c3 c n w0 w1 w2 w3 code : ℕ)
      → EditCall T t (c0 ∷ c1 ∷ c2 ∷ c3 ∷ []) c n (w0 ∷ w1 ∷ w2 ∷ w3 ∷ []) code t' output output'
      → Answered code (call_numbers edit)
      (λ a. edit_call_test T t (c0 ∷ c1 ∷ c2 ∷ c3 ∷ []) c n (w0 ∷ w1 ∷ w2 ∷ w3 ∷ []) (length output) ≡ a)
      (EditResult T t c n (w0 ∷ w1 ∷ w2 ∷ w3 ∷ []) t' output')
      ((t' ≡ t) × (output' ≡ output))
  pub unhash_called : (T taps taps' : List ℕ) (s0 s1 s2 s3 s4 s5 s6 s7 s8 s9 s10 s11 code : ℕ)
      → let s = s0 ∷ s1 ∷ s2 ∷ s3 ∷ s4 ∷ s5 ∷ s6 ∷ s7 ∷ s8 ∷ s9 ∷ s10 ∷ s11 ∷ [] in
      UnhashCall T s code taps taps' → Answered code (call_numbers unhash) (λ a. unhash_call_test T s (length taps) ≡ a)
      (UnhashResult T s taps') (taps' ≡ taps)
  pub pack_called : (w file file' : List ℕ) (c0 c1 c2 c3 code : ℕ) → PackCall w (c0 ∷ c1 ∷ c2 ∷ c3 ∷ []) file code file'
      → Answered code (call_numbers pack) (λ a. pack_test w (c0 ∷ c1 ∷ c2 ∷ c3 ∷ []) (length file) ≡ a)
      (PackResult w (c0 ∷ c1 ∷ c2 ∷ c3 ∷ []) file') (file' ≡ file)
  pub unpack_called : (file taps taps' claim claim' : List ℕ) (code : ℕ) → UnpackCall file code taps taps' claim claim'
      → Answered code (call_numbers unpack) (λ a. unpack_call_test file (length taps) (length claim) ≡ a)
      (UnpackResult file taps' claim') ((taps' ≡ taps) × (claim' ≡ claim))
  pub pack_short_called : (w file file' : List ℕ) (c0 c1 c2 c3 code : ℕ)
      → PackShortCall w (c0 ∷ c1 ∷ c2 ∷ c3 ∷ []) file code file'
      → Answered code (call_numbers pack_short) (λ a. pack_short_test w (c0 ∷ c1 ∷ c2 ∷ c3 ∷ []) (length file) ≡ a)
      (PackShortResult w (c0 ∷ c1 ∷ c2 ∷ c3 ∷ []) file') (file' ≡ file)
  pub unpack_short_called : (file taps taps' claim claim' : List ℕ) (code : ℕ)
      → UnpackShortCall file code taps taps' claim claim'
      → Answered code (call_numbers unpack_short) (λ a. unpack_short_call_test file (length taps) (length claim) ≡ a)
      (UnpackShortResult file taps' claim')
      ((taps' ≡ taps) × (claim' ≡ claim))
  pub to_short_called : (file short short' : List ℕ) (code : ℕ) → ToShortCall file short code short'
      → Answered code (call_numbers to_short) (λ a. to_short_test file (length short) ≡ a)
      (ToShortResult file short') (short' ≡ short)
  pub to_full_called : (short file file' : List ℕ) (code : ℕ) → ToFullCall short file code file'
      → Answered code (call_numbers to_full) (λ a. to_full_test short (length file) ≡ a)
      (ToFullResult short file') (file' ≡ file)
