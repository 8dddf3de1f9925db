-- `field_montgomery::times`: after each digit there is one word, and two digits gather the whole.
-- Assumes nothing.
use Rattle.std.proofs.Common.{◌≡◌, ◌∙◌, arith}
use Rattle.field.specs.Gathering.{form_word}
use Rattle.field.specs.MontgomeryHelpers.{times_word}
use Rattle.field.proofs.Gathering.{first_word, second_word, whole_form}
use Rattle.field.proofs.Forms.{times_divided}
use Rattle.field_montgomery.proofs.times.Goals as goal
use Rattle.field_montgomery.proofs.times.Goals.{After-gather-first, After-gather}

-- the word after each digit
first : (c : After-gather-first) → c.gather-first.result ≡ form_word c.args.a c.args.b 1
first c = first_word c.args.a c.args.b (omega arith) _ c.gather-first.ensures.0

second : (c : After-gather)
    → c.gather.result ≡ form_word c.args.a c.args.b 2
second c =
    let start = c.args in
    second_word start.a start.b (omega arith) _ _ (first c.before) c.gather.ensures.0

pub returns : goal.returns
returns c =
    let start = c.args in
    let e : c.gather.result ≡ times_word start.a start.b =
    second c ∙ whole_form start.a start.b (omega arith) in
    (e, times_divided start.a start.b c.gather.result e, c.gather.ensures.1)
