-- `head_lines::next_key` meets its contract.
use Rattle.std.proofs.lemmas.Result.{err_from_is_err_and}
use Rattle.head_lines.specs.Lines.{key_at}
use borrow.Author.Tests.{ne_eqb}
use mathlib.Core.Path.{sym, ◌∙◌}
use Rattle.head_lines.proofs.next_key.Goals as goal

pub returns-then-byte_at-eq256 : goal.returns-then-byte_at-eq256
unfolding key_at
returns-then-byte_at-eq256 c = rw (sym c.newline_end-at.ensures, sym c.byte_at.ensures ∙ c.if-byte_at-eq256.true)

pub returns-in_err-key : goal.returns-in_err-key
unfolding key_at
returns-in_err-key c =
    let p = err_from_is_err_and c.from_residual.result c.from_residual.ensures.1 in
    rw (p.1, p.2, sym c.newline_end-at.ensures, ne_eqb _ _ (λ e. c.if-byte_at-eq256.false (c.byte_at.ensures ∙ e)), sym c.string.ensures ∙ c.in_err-key.was)

pub returns : goal.returns
unfolding key_at
returns c = rw (sym c.newline_end-at.ensures, ne_eqb _ _ (λ e. c.if-byte_at-eq256.false (c.byte_at.ensures ∙ e)), sym c.string.ensures ∙ c.in_ok-key.was)
