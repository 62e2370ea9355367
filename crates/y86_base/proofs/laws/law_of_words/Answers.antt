use Rattle.y86_base.proofs.Memories.{length-put_word, put_outside, word_at-put_word, word_at-put_word_beside, word_outside}
use Rattle.y86_base.proofs.laws.law_of_words.Goals as goal

pub returns-clause-written : goal.returns-clause-written
returns-clause-written c = word_at-put_word

pub returns-clause-beside : goal.returns-clause-beside
returns-clause-beside c = word_at-put_word_beside

pub returns-clause-size : goal.returns-clause-size
returns-clause-size c = length-put_word

pub returns-clause-outside : goal.returns-clause-outside
returns-clause-outside c = λ memory address word h. (word_outside memory address h, put_outside memory address word h)
