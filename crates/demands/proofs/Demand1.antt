-- Demand 1: each operation refuses with its own numbers only and else hands over all of its words, each call's word
-- says a full result or such a refusal, and a refusal alters no lent buffer; a file for each operation, collected here.
-- From how each can end (crate `call_answers`, proofs/Endings), and that its word loses nothing of its answer (there,
-- proofs/Theorems.antt).
-- Assumes nothing.
pub mod Numbers
pub mod Words
pub mod Prepare
pub mod Hash
pub mod Chain
pub mod Build
pub mod Check
pub mod ReadOff
pub mod Edit
pub mod Unhash
pub mod Pack
pub mod Unpack
pub mod PackShort
pub mod UnpackShort
pub mod ToShort
pub mod ToFull
use mathlib.Core.Path.{◌≡◌, refl}
use mathlib.Core.Bool.{false}
use Prim.Native.Nat.{ℕ}
use Rattle.std.specs.Prelude.{Err}
use Rattle.refusals.specs.Refusals.{told}
use Rattle.refusals.specs.declared.Refusal.{Refusal}
use Rattle.refusals.specs.declared.Refusal.TheVariants.{NoInverse, WrongInverse}
use Rattle.table_prepare.proofs.Theorems.{prepares_some, prepares_unique, refused_kept, no_inverse_exact, none_exactly}
use Rattle.table_prepare.proofs.Theorems.{prepared_accepted}
use Rattle.call_results.proofs.Bits.{tells_one, tells_apart}
use Rattle.demands.specs.Demand1.{Operation, prepare, hash, chain, build, check, read_off, edit, unhash, pack}
use Rattle.demands.specs.Demand1.{unpack, pack_short, unpack_short, to_short, to_full, numbers, OneOf, Refuses}
use Rattle.demands.specs.Demand1.{prepare_refuses, hash_refuses, chain_refuses, build_refuses, check_refuses}
use Rattle.demands.specs.Demand1.{read_off_refuses, edit_refuses, unhash_refuses, pack_refuses, unpack_refuses}
use Rattle.demands.specs.Demand1.{pack_short_refuses, unpack_short_refuses, to_short_refuses, to_full_refuses}
use Rattle.demands.specs.Demand1.{Told, WordCounts, Demand1}
use Rattle.demands.proofs.Demand1.Numbers.{among, not_among}
use Rattle.demands.proofs.Demand1.Prepare.{prepare_numbers, prepare_called}
use Rattle.demands.proofs.Demand1.Hash.{hash_numbered, hash_words, hash_called}
use Rattle.demands.proofs.Demand1.Chain.{chain_numbered, chain_words, chain_called}
use Rattle.demands.proofs.Demand1.Build.{build_numbered, build_words, build_keeps, build_called}
use Rattle.demands.proofs.Demand1.Check.{check_numbered, check_called}
use Rattle.demands.proofs.Demand1.ReadOff.{read_off_numbered, read_off_keeps, read_off_called}
use Rattle.demands.proofs.Demand1.Edit.{edit_numbered, edit_words, edit_keeps, edit_called}
use Rattle.demands.proofs.Demand1.Unhash.{unhash_numbered, unhash_words, unhash_called}
use Rattle.demands.proofs.Demand1.Pack.{pack_numbered, pack_keeps, pack_called}
use Rattle.demands.proofs.Demand1.Unpack.{unpack_numbered, unpack_words, unpack_keeps, unpack_called}
use Rattle.demands.proofs.Demand1.PackShort.{pack_short_numbered, pack_short_keeps, pack_short_called}
use Rattle.demands.proofs.Demand1.UnpackShort.{unpack_short_numbered, unpack_short_words, unpack_short_keeps, unpack_short_called}
use Rattle.demands.proofs.Demand1.ToShort.{to_short_numbered, to_short_keeps, to_short_called}
use Rattle.demands.proofs.Demand1.ToFull.{to_full_numbered, to_full_keeps, to_full_called}

-- ---- the operations
numbered : (o : Operation) (r : Refusal) → Refuses o r → OneOf (numbers o) r
numbered o r (prepare_refuses raw old new q h) = prepare_numbers raw old new (Err q) h
numbered o r (hash_refuses T words q e) = hash_numbered T words q e
numbered o r (chain_refuses T w q e) = chain_numbered T w q e
numbered o r (build_refuses T w size q e) = build_numbered T w size q e
numbered o r (check_refuses T t claim c q e) = check_numbered T t claim c q e
numbered o r (read_off_refuses T t claim c size q e) = read_off_numbered T t claim c size q e
numbered o r (edit_refuses T t claim c n new q e) = edit_numbered T t claim c n new q e
numbered o r (unhash_refuses T s q e) = unhash_numbered T s q e
numbered o r (pack_refuses w claim size q e) = pack_numbered w claim size q e
numbered o r (unpack_refuses file size q e) = unpack_numbered file size q e
numbered o r (pack_short_refuses w claim size q e) = pack_short_numbered w claim size q e
numbered o r (unpack_short_refuses file size q e) = unpack_short_numbered file size q e
numbered o r (to_short_refuses file size q e) = to_short_numbered file size q e
numbered o r (to_full_refuses file size q e) = to_full_numbered file size q e

-- no operation refuses with a number that is none of its own
never : (o : Operation) (r : Refusal) → among (told r).number (numbers o) ≡ false → Refuses o r → ⊥
never o r e h = not_among (told r).number (numbers o) e (numbered o r h)

-- Prepare never returns 4, and only it returns 3
never_4 : (i : ℕ) → Refuses prepare (WrongInverse i) → ⊥
never_4 i = never prepare (WrongInverse i) refl

only_3 : (o : Operation) → Refuses o NoInverse → o ≡ prepare
only_3 prepare h = refl
only_3 hash h = absurd (never hash NoInverse refl h)
only_3 chain h = absurd (never chain NoInverse refl h)
only_3 build h = absurd (never build NoInverse refl h)
only_3 check h = absurd (never check NoInverse refl h)
only_3 read_off h = absurd (never read_off NoInverse refl h)
only_3 edit h = absurd (never edit NoInverse refl h)
only_3 unhash h = absurd (never unhash NoInverse refl h)
only_3 pack h = absurd (never pack NoInverse refl h)
only_3 unpack h = absurd (never unpack NoInverse refl h)
only_3 pack_short h = absurd (never pack_short NoInverse refl h)
only_3 unpack_short h = absurd (never unpack_short NoInverse refl h)
only_3 to_short h = absurd (never to_short NoInverse refl h)
only_3 to_full h = absurd (never to_full NoInverse refl h)

-- ---- the numbers
table : Told
table = record {
  table_length = refl;
  table_word = λ i. refl;
  no_inverse = refl;
  wrong_inverse = λ i. refl;
  tap_length = refl;
  tap_word = λ i. refl;
  trace_length = refl;
  destination_length = refl;
  claim_word = λ i. refl;
  trace_word = λ i. refl;
  constraint = λ i q n. refl;
  file_length = refl;
  wrong_kind = λ i. refl;
  wrong_value = λ i. refl;
  no_such_tap = refl;
  no_pair = refl;
  claim_batches = refl;
  long_element = λ i. refl;
  same_edition = refl;
}

-- ---- the words of an acceptance
word_counts : WordCounts
word_counts = record {
  hash_words = hash_words;
  chain_words = chain_words;
  build_words = build_words;
  edit_words = edit_words;
  unhash_words = unhash_words;
  unpack_words = unpack_words;
  unpack_short_words = unpack_short_words;
}

-- ---- the demand
pub demand_1 : Demand1
demand_1 = record {
  table = table;
  tells_one = tells_one;
  tells_apart = tells_apart;
  word_counts = word_counts;
  numbered = numbered;
  prepare_never_4 = never_4;
  only_prepare_3 = only_3;
  prepare_answers = prepares_some;
  prepare_answers_once = prepares_unique;
  prepare_3_exactly = λ raw old new a h. (
    λ e. (let k = (no_inverse_exact raw old new a h).0 e in (k.0, (none_exactly raw).1 k.1)),
    λ n. (no_inverse_exact raw old new a h).1 (n.0, (none_exactly raw).0 n.1),
  );
  no_inverse_exactly = none_exactly;
  prepared_accepted = prepared_accepted;
  prepare_keeps = refused_kept;
  build_keeps = build_keeps;
  read_off_keeps = read_off_keeps;
  edit_keeps = edit_keeps;
  pack_keeps = pack_keeps;
  unpack_keeps = unpack_keeps;
  pack_short_keeps = pack_short_keeps;
  unpack_short_keeps = unpack_short_keeps;
  to_short_keeps = to_short_keeps;
  to_full_keeps = to_full_keeps;
  prepare_called = prepare_called;
  hash_called = hash_called;
  chain_called = chain_called;
  build_called = build_called;
  check_called = check_called;
  read_off_called = read_off_called;
  edit_called = edit_called;
  unhash_called = unhash_called;
  pack_called = pack_called;
  unpack_called = unpack_called;
  pack_short_called = pack_short_called;
  unpack_short_called = unpack_short_called;
  to_short_called = to_short_called;
  to_full_called = to_full_called;
}
