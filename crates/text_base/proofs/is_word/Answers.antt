-- `text_base::is_word`: a letter, a digit, or the mark _.
use Rattle.std.proofs.Common.{sym, ◌∙◌}
use Rattle.written.specs.Bytes.{in_word}
use Rattle.text_base.proofs.is_word.Goals as goal

pub returns-then-is_letter : goal.returns-then-is_letter
unfolding in_word
returns-then-is_letter c = rw (sym c.is_letter.ensures ∙ c.if-is_letter.true)

pub returns-then-is_digit : goal.returns-then-is_digit
unfolding in_word
returns-then-is_digit c = rw (sym c.is_letter.ensures ∙ c.if-is_letter.false, sym c.is_digit.ensures ∙ c.if-is_digit.true)

pub returns : goal.returns
unfolding in_word
returns c = rw (sym c.is_letter.ensures ∙ c.if-is_letter.false, sym c.is_digit.ensures ∙ c.if-is_digit.false)
