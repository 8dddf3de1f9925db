-- `hash_chain::next_input`: the last state's first four cells, then the four words of the tap, are the definition's input.
-- Assumes nothing.
use Rattle.hash_chain.proofs.CodeChain.{input_words}
use borrow.Author.Rules.{rules}
use Rattle.hash_chain.proofs.next_input.Goals as goal

pub returns : goal.returns
returns c = input_words c.args.last c.args.tap (search rules) (search rules)
