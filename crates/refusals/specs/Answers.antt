-- How an operation answers: its tests one after the other, in document 01's order ("What is turned back"), then its
-- result; and what it leaves in a destination.
-- Assumes nothing.
use Rattle.std.specs.Prelude.{Bool, Result, Ok, Err}
use Rattle.lists.specs.Lists.{choose}
use Rattle.refusals.specs.declared.Refusal.{Refusal}

-- ---- tests

-- the answer of tests: acceptance, or the refusal
abbrev pub Answer : Type 0
Answer = Result (Unit {0}) Refusal

-- the refusal unless the test says yes, and then what follows
abbrev pub unless : Bool → Refusal → Answer → Answer
unless ok r rest = choose ok rest (Err r)

-- the refusal of a first answer, or what follows
abbrev pub after : {A : Type 0} → Answer → Result A Refusal → Result A Refusal
after (Ok _) rest = rest
after (Err r) rest = Err r

-- ---- what follows from the answer of an operation's tests

-- the value that is returned, or the refusal
abbrev pub with_value : {A : Type 0} → Answer → A → Result A Refusal
with_value (Ok _) x = Ok x
with_value (Err r) x = Err r

-- what a destination holds: the new content after acceptance, the old one after a refusal
abbrev pub leaves : {A : Type 0} → Answer → A → A → A
leaves (Ok _) new old = new
leaves (Err r) new old = old
