-- Demand 2: hash, chain and trace are the definitions', a built trace reads off to its taps, and the board file
-- round-trips; by the words and buffers of the calls too.
-- Assumes nothing.
use mathlib.Core.Path.{◌≡◌, refl, sym, ap, ap₂, ◌∙◌}
use mathlib.Core.List.{List, ◌++◌}
use mathlib.Core.Logic.{◌↔◌}
use Prim.Native.Nat.{ℕ, ◌+◌, ◌*◌, ◌-◌, ◌≤◌}
use native.Mathlib.Omega.{arith}
use lib.ListN.{length, take, drop}
use lib.Seq.{take_at, drop_at}
use Rattle.std.specs.Prelude.{Ok}
use Rattle.field_words.specs.Words.{AllCanonical}
use Rattle.field_words.proofs.Laws.{append_canonical}
use Rattle.numbers.specs.Numbers.{IsPermitted, IsPermittedTo, tap_word_batches, trace_word_batches}
use Rattle.refusals.specs.Refusals.{indexed}
use Rattle.refusals.specs.Answers.{with_value, leaves}
use Rattle.refusals.proofs.Laws.{value_accepted}
use Rattle.table.specs.Table.{table_test, IsTable}
use Rattle.table.proofs.Theorems.{test_sound}
use Rattle.hash.specs.Hash.{final_state, input, hash, chain, first_taps}
use Rattle.hash.specs.Answers.{hash_answer}
use Rattle.hash.proofs.Answers.{hash_passes}
use Rattle.hash.proofs.States.{final_state_state}
use Rattle.hash.proofs.Inputs.{IsTap, output_tap}
use Rattle.hash_chain.specs.Answers.{chain_answer}
use Rattle.hash_chain.proofs.Answers.{ChainInputs, chain_passes}
use Rattle.hash_chain.proofs.FirstTaps.{chain_first}
use Rattle.trace.specs.Trace.{trace_row, trace, row}
use Rattle.trace.specs.Answers.{build_test, build_answer, build_leaves}
use Rattle.trace.proofs.Answers.{build_inputs}
use Rattle.trace.proofs.TraceCells.{length_trace, trace_canonical, last_row_output}
use Rattle.trace.proofs.Theorems.{build_accepts, build_leaves_lem}
use Rattle.check_constraints.specs.Constraints.{tests, constraint_test}
use Rattle.check_constraints.specs.ReadOff.{read_taps}
use Rattle.check_constraints.proofs.TestCount.{length_tests}
use Rattle.check_trace.proofs.Theorems.{check_verdict}
use Rattle.trace_read_off.specs.Answers.{read_off_test, read_off_answer, read_off_leaves}
use Rattle.trace_read_off.proofs.Theorems.{same_for}
use Rattle.board_words.specs.Words.{AllBytes}
use Rattle.board.specs.Board.{most_file_batches, file_size}
use Rattle.board.specs.Board.{pack_test, packed, pack_leaves, unpack_test, unpack_answer, taps_in, claim_in}
use Rattle.board.specs.Board.{unpack_leaves}
use Rattle.board.proofs.Answers.{pack_accepted, pack_complete}
use Rattle.board.proofs.Round.{taps_length}
use Rattle.board.proofs.Theorems.{unpack_packed, pack_unpack, accepted_board}
use Rattle.call_results.specs.Code.{answer_code, words_code, tests_code, Says}
use Rattle.call_results.specs.HandsOver.{written}
use Rattle.call_results.proofs.Bits.{says_accepted, zero_accepts}
use Rattle.call_answers.specs.Calls.{BuildCall, ReadOffCall, PackCall, UnpackCall}
use Rattle.call_answers.proofs.Answers.{unpack_answer_lem, unpack_left}
use Rattle.call_answers.proofs.Theorems.{pack_bits}
use Rattle.check_exact.proofs.ReadList.{row_of_trace}
use Rattle.check_exact.proofs.Exactness.{accepts_built, reading_off_a_built_trace}
use Rattle.demands.specs.Demand2.{Demand2}
use Rattle.demands.proofs.Called.{built, unpacked}
use Rattle.demands.proofs.Demand1.Unpack.{unpack_words}

-- ---- hash and chain
hashes : (T a b : List ℕ) → table_test T ≡ Ok tt → length a ≡ 4 → AllCanonical a → length b ≡ 4
    → AllCanonical b
    → (s : List ℕ) × (hash_answer T (a ++ b) ≡ Ok s)
    × (s ≡ final_state T (input a b)) × (take 4 s ≡ hash T a b)
unfolding hash_answer hash
hashes T a b table la ha lb hb = (
  final_state T (input a b),
  ap (λ t. with_value t (final_state T (input (take 4 (a ++ b)) (drop 4 (a ++ b)))))
      (hash_passes T (a ++ b) (record { table = test_sound T table; canonical = append_canonical a b ha hb }))
      ∙ ap₂ (λ x y. Ok (final_state T (input x y))) (take_at a b 4 la) (drop_at a b 4 la),
  refl,
  refl,
)

chains : (T w : List ℕ) (k : ℕ) → table_test T ≡ Ok tt → IsPermitted k → length w ≡ 12 * k + 4
    → AllCanonical w → chain_answer T w ≡ Ok (chain T w k)
unfolding chain_answer
chains T w k table permitted size canonical =
    let inputs : ChainInputs T w k =
    record { table = test_sound T table; permitted = permitted; size = size; canonical = canonical } in
    let batches : tap_word_batches (length w) ≡ k = omega arith in
    ap (λ t. with_value t (chain T w (tap_word_batches (length w)))) (chain_passes T w k inputs)
    ∙ ap (λ n. Ok (chain T w n)) batches

-- ---- reading off what was built
pub output_is_tap : (T w : List ℕ) (k : ℕ) → length w ≡ 12 * k + 4 → AllCanonical w → (c : ℕ) → IsTap (chain T w c)
unfolding chain
output_is_tap T w k size canonical c = output_tap T w canonical (omega (arith, size)) (3 * c)

module _ (T w : List ℕ) (k : ℕ) (table : IsTable T) (permitted : IsPermitted k) (size : length w ≡ 12 * k + 4)
    (canonical : AllCanonical w) (c : ℕ) (low : 1 ≤ c) (high : c ≤ k) where
  -- under the output of the first 3c + 1 taps
  reads_off : (room : List ℕ) → length room ≡ 12 * k + 4
      → (read_off_answer T (trace T w k) (chain T w c) c (length room) ≡ Ok (372 * k))
      × (read_off_leaves T (trace T w k) (chain T w c) c room ≡ w)
  unfolding read_off_answer read_off_leaves
  reads_off room l =
      let t = trace T w k in
      let claim = chain T w c in
      let long = length_trace T w k in
      let output = output_is_tap T w k size canonical c in
      let accepted = ap (λ x. constraint_test T t x c k) (sym (chain_first T w c))
      ∙ accepts_built T k table permitted c w size canonical in
      let answered : read_off_answer T t claim c (length room) ≡ Ok (372 * k) =
      ap (read_off_answer T t claim c) l
      ∙ same_for T t claim c k long
      ∙ check_verdict T t claim c k table permitted low high long (trace_canonical T w k size canonical)
      output.canonical
      ∙ ap (λ a. with_value a (length (tests k c))) accepted
      ∙ ap Ok (length_tests k c low high) in
      let passes = (value_accepted (read_off_test T t claim c (length room)) _ _ answered).0 in
      let batches : trace_word_batches (length t) ≡ k = omega (arith, long) in
      let left = ap (λ a. leaves a (read_taps T t (trace_word_batches (length t))) room) passes in
      (answered, left ∙ ap (read_taps T t) batches ∙ (reading_off_a_built_trace T k table permitted w size canonical).1)

  -- row 31 of batch c − 1 shows it
  pub shown : take 4 (row (trace T w k) (32 * (c - 1) + 31)) ≡ chain T w c
  shown =
      let i : 32 * (c - 1) + 31 ≡ 32 * c - 1 = omega arith in
      ap (take 4) (row_of_trace T w k size canonical (32 * (c - 1) + 31) (omega arith) ∙ ap (trace_row T w) i)
      ∙ last_row_output T w c low

reads_back : (T w old room d : List ℕ) → build_answer T w (length old) ≡ Ok d → length room ≡ length w
    → let k = tap_word_batches (length w) in
    (read_off_answer T (build_leaves T w old) d k (length room) ≡ Ok (372 * k))
    × (read_off_leaves T (build_leaves T w old) d k room ≡ w)
unfolding build_answer
reads_back T w old room d e l =
    let k = tap_word_batches (length w) in
    let a = value_accepted (build_test T w (length old)) _ d e in
    let i = build_inputs T w (length old) a.0 in
    let output = sym a.1 in
    rw (build_leaves_lem T w k i.table i.permitted i.taps i.canonical old i.room, output)
    (reads_off T w k i.table i.permitted i.taps i.canonical k i.permitted.low (omega arith) room
    (l ∙ i.taps))

reads_back_early : (T w old room : List ℕ) (c : ℕ) (d : List ℕ) → build_answer T w (length old) ≡ Ok d
    → length room ≡ length w → 1 ≤ c → c ≤ tap_word_batches (length w)
    → let claim = chain T (first_taps c w) c in
    (read_off_answer T (build_leaves T w old) claim c (length room) ≡ Ok (372 * tap_word_batches (length w)))
    × (read_off_leaves T (build_leaves T w old) claim c room ≡ w)
    × (take 4 (row (build_leaves T w old) (32 * (c - 1) + 31)) ≡ claim)
unfolding build_answer
reads_back_early T w old room c d e l low high =
    let k = tap_word_batches (length w) in
    let i = build_inputs T w (length old) (value_accepted (build_test T w (length old)) _ d e).0 in
    let r = reads_off T w k i.table i.permitted i.taps i.canonical c low high room (l ∙ i.taps) in
    let s = shown T w k i.table i.permitted i.taps i.canonical c low high in
    rw (build_leaves_lem T w k i.table i.permitted i.taps i.canonical old i.room, chain_first T w c)
    (r.0, r.1, s)

-- ---- the board file
unpacks : (w claim old room : List ℕ) → length claim ≡ 4 → pack_test w claim (length old) ≡ Ok tt
    → length room ≡ length w
    → (unpack_answer (pack_leaves w claim old) (length room) ≡ Ok claim)
    × (unpack_leaves (pack_leaves w claim old) room ≡ w)
unfolding pack_leaves unpack_answer unpack_leaves
unpacks w claim old room four e l =
    let u = unpack_packed w claim (length old) four e in
    let file = packed w claim in
    let answered : unpack_answer file (length room) ≡ Ok claim = ap (unpack_answer file) l ∙ u.0 in
    let passes = (value_accepted (unpack_test file (length room)) _ _ answered).0 in
    rw e (answered, ap (λ a. leaves a (taps_in file) room) passes ∙ u.1)

packs : (file old room d : List ℕ) → AllBytes file → unpack_answer file (length old) ≡ Ok d
    → length room ≡ length file
    → (pack_test (unpack_leaves file old) d (length room) ≡ Ok tt)
    × (pack_leaves (unpack_leaves file old) d room ≡ file)
unfolding pack_leaves unpack_answer unpack_leaves
packs file old room d bytes e l =
    let p = pack_unpack file (length old) d bytes e in
    let passes = (value_accepted (unpack_test file (length old)) (claim_in file) d e).0 in
    let taps = taps_in file in
    let claim = d in
    let again : pack_test taps claim (length room) ≡ Ok tt = ap (pack_test taps claim) l ∙ p.0 in
    rw passes (again, ap (λ a. leaves a (packed taps claim) room) again ∙ p.1)

pack_accepts : (w claim : List ℕ) (size : ℕ) → length claim ≡ 4
    → (pack_test w claim size ≡ Ok tt)
    ↔ ((k : ℕ) × IsPermittedTo most_file_batches k × (length w ≡ 12 * k + 4) × AllCanonical w × AllCanonical claim
    × (size ≡ file_size k))
pack_accepts w claim size four = (
  λ e.
      let h = pack_accepted w claim size e in
      (tap_word_batches (length w), h.permitted, h.taps_size, h.taps_canonical, h.claim_canonical, h.size_is),
  λ h.
      pack_complete w claim size h.0 (record {
        permitted = h.1;
        taps_size = h.2;
        size_is = h.5;
        claim_canonical = h.4;
        taps_canonical = h.3;
      }),
)

unpack_accepts : (file : List ℕ) (size : ℕ) (d : List ℕ) → AllBytes file
    → (unpack_answer file size ≡ Ok d)
    ↔ ((length d ≡ 4) × ((taps : List ℕ) × (pack_test taps d (length file) ≡ Ok tt)
    × (file ≡ packed taps d) × (size ≡ length taps)))
unpack_accepts file size d bytes = (
  λ e.
      let p = pack_unpack file size d bytes e in
      let room = (accepted_board file size d e).1 ∙ sym (taps_length file) in
      (unpack_words file size d e, (taps_in file, p.0, sym p.1, room)),
  λ h.
      let taps = h.1.0 in
      ap (λ f. unpack_answer f size) h.1.2
      ∙ ap (unpack_answer (packed taps d)) h.1.3
      ∙ (unpack_packed taps d (length file) h.0 h.1.1).0,
)

-- ---- the calls
call_reads_back : (T w rows rows' output output' room room' : List ℕ) (code : ℕ)
    → BuildCall T w 0 rows rows' output output' → length room ≡ length w
    → let k = tap_word_batches (length w) in
    ReadOffCall T rows' output' k code room room' → Says code (indexed 0 (372 * k)) × (room' ≡ w)
unfolding build_answer tests_code
call_reads_back T w rows rows' output output' room room' code builds l reads =
    let k = tap_word_batches (length w) in
    let b = built T w rows rows' output output' builds in
    let r = reads_back T w rows room b.0 b.1 l in
    let tested = (value_accepted (build_test T w (length rows)) _ b.0 b.1).0 in
    let most = (build_inputs T w (length rows) tested).permitted.high in
    let said : code ≡ tests_code (Ok (372 * k)) =
    reads.coded
    ∙ ap tests_code (ap₂ (λ t d. read_off_answer T t d k (length room)) b.2 b.3 ∙ r.0) in (
      rw said (says_accepted (372 * k) (omega (arith, most))),
      reads.list ∙ ap₂ (λ t d. read_off_leaves T t d k room) b.2 b.3 ∙ r.1,
    )

-- where Pack's word is 0, it accepted
packing : (w claim file file' : List ℕ) → length claim ≡ 4 → PackCall w claim file 0 file'
    → pack_test w claim (length file) ≡ Ok tt
packing w claim file file' four called =
    zero_accepts (pack_test w claim (length file)) (pack_bits w claim (length file) four) (sym called.coded)

call_unpacks : (w claim file file' room room' four four' : List ℕ) (code : ℕ) → length claim ≡ 4
    → PackCall w claim file 0 file' → length room ≡ length w → length four ≡ 4
    → UnpackCall file' code room room' four four'
    → (code ≡ 0) × (room' ≡ w) × (four' ≡ claim)
unfolding words_code
call_unpacks w claim file file' room room' four four' code c packs l f called =
    let u = unpacks w claim file room c (packing w claim file file' c packs) l in
    let answered = sym (unpack_answer_lem (length four) f file' (length room))
    ∙ ap (λ s. unpack_answer s (length room)) packs.file
    ∙ u.0 in (
      called.four.coded ∙ ap words_code answered,
      called.list
          ∙ sym (unpack_left (length four) f file' room)
          ∙ ap (λ s. unpack_leaves s room) packs.file
          ∙ u.1,
      called.four.output ∙ ap (λ a. written a four) answered,
    )

call_packs : (file taps taps' claim claim' room room' : List ℕ) (code : ℕ) → AllBytes file
    → UnpackCall file 0 taps taps' claim claim' → length room ≡ length file → PackCall taps' claim' room code room'
    → (code ≡ 0) × (room' ≡ file)
unfolding answer_code
call_packs file taps taps' claim claim' room room' code bytes called l again =
    let u = unpacked file taps taps' claim claim' called in
    let p = packs file taps room u.0 bytes u.1 l in
    let test : pack_test taps' claim' (length room) ≡ Ok tt = rw (u.2, u.3) p.0 in
    let left : pack_leaves taps' claim' room ≡ file = rw (u.2, u.3) p.1 in
    (again.coded ∙ ap answer_code test, again.file ∙ left)

-- ---- the demand
pub demand_2 : Demand2
demand_2 = record {
  hashes = hashes;
  chains = chains;
  builds = λ T w old k table permitted size canonical l. (
    ap (build_answer T w) l ∙ build_accepts T w k (test_sound T table) permitted size canonical,
    build_leaves_lem T w k (test_sound T table) permitted size canonical old l,
  );
  reads_back = reads_back;
  reads_back_early = reads_back_early;
  pack_accepts = pack_accepts;
  unpacks = unpacks;
  packs = packs;
  unpack_accepts = unpack_accepts;
  call_reads_back = call_reads_back;
  call_unpacks = call_unpacks;
  call_packs = call_packs;
}
