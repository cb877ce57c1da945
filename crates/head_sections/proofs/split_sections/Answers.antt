-- `head_sections::split_sections` meets its contract.
use Rattle.written.specs.Bytes.{bytes}
use Rattle.head_sections.proofs.Breaks.{starts_in, section_in}
use Rattle.head_sections.specs.Split.{split_of}
use borrow.Author.Tests.{not-true, not-false}
use native.Mathlib.Omega.{arith}
use mathlib.Core.Path.{sym, ◌∙◌}
use Rattle.head_sections.proofs.split_sections.Goals as goal

pub returns-in_err-global : goal.returns-in_err-global
unfolding split_of bytes
returns-in_err-global c = rw (c.from_residual.ensures, sym c.newline_end-first.ensures, sym c.section_at.ensures ∙ c.in_err-global.was)

pub overflow_add-global : goal.overflow_add-global
overflow_add-global c = omega (arith, section_in _ _ _ {a = c.in_ok-global.global.start} {e = c.in_ok-global.global.end} (sym c.section_at.ensures ∙ c.in_ok-global.was), c.well_formed)

pub returns-in_err-stream : goal.returns-in_err-stream
unfolding split_of bytes
returns-in_err-stream c = rw (c.from_residual-in_err-stream.ensures, sym c.newline_end-first.ensures, sym c.section_at.ensures ∙ c.in_ok-global.was, sym c.section_at-2.ensures ∙ c.in_err-stream.was)

pub overflow_add-stream : goal.overflow_add-stream
overflow_add-stream c = omega (arith, section_in _ _ _ {a = c.in_ok-stream.stream.start} {e = c.in_ok-stream.stream.end} (sym c.section_at-2.ensures ∙ c.in_ok-stream.was), c.well_formed)

pub returns-in_err-position : goal.returns-in_err-position
unfolding split_of bytes
returns-in_err-position c = rw (c.from_residual-in_err-position.ensures, sym c.newline_end-first.ensures, sym c.section_at.ensures ∙ c.in_ok-global.was, sym c.section_at-2.ensures ∙ c.in_ok-stream.was, sym c.section_at-3.ensures ∙ c.in_err-position.was)

pub overflow_add-position : goal.overflow_add-position
overflow_add-position c = omega (arith, section_in _ _ _ {a = c.in_ok-position.position.start} {e = c.in_ok-position.position.end} (sym c.section_at-3.ensures ∙ c.in_ok-position.was), c.well_formed)

pub returns-then-not-starts_with : goal.returns-then-not-starts_with
unfolding split_of bytes
returns-then-not-starts_with c = rw (sym c.newline_end-first.ensures, sym c.section_at.ensures ∙ c.in_ok-global.was, sym c.section_at-2.ensures ∙ c.in_ok-stream.was, sym c.section_at-3.ensures ∙ c.in_ok-position.was, sym c.starts_with.ensures ∙ not-true _ c.if-not-starts_with.true-raw)

pub overflow_add-rest : goal.overflow_add-rest
overflow_add-rest c = omega (arith, starts_in _ _ _ (omega arith) (sym c.starts_with.ensures ∙ not-false _ c.if-not-starts_with.false-raw), c.well_formed)

pub overflow_sub-parts : goal.overflow_sub-parts
overflow_sub-parts c = omega (arith, section_in _ _ _ {a = c.in_ok-global.global.start} {e = c.in_ok-global.global.end} (sym c.section_at.ensures ∙ c.in_ok-global.was))

pub overflow_sub-parts-2 : goal.overflow_sub-parts-2
overflow_sub-parts-2 c = omega (arith, section_in _ _ _ {a = c.in_ok-stream.stream.start} {e = c.in_ok-stream.stream.end} (sym c.section_at-2.ensures ∙ c.in_ok-stream.was))

pub overflow_sub-parts-3 : goal.overflow_sub-parts-3
overflow_sub-parts-3 c = omega (arith, section_in _ _ _ {a = c.in_ok-position.position.start} {e = c.in_ok-position.position.end} (sym c.section_at-3.ensures ∙ c.in_ok-position.was))

pub overflow_sub-parts-4 : goal.overflow_sub-parts-4
overflow_sub-parts-4 c = omega (arith, starts_in _ _ _ (omega arith) (sym c.starts_with.ensures ∙ not-false _ c.if-not-starts_with.false-raw))

pub returns : goal.returns
unfolding split_of bytes
returns c = rw (sym c.newline_end-first.ensures, sym c.section_at.ensures ∙ c.in_ok-global.was, sym c.section_at-2.ensures ∙ c.in_ok-stream.was, sym c.section_at-3.ensures ∙ c.in_ok-position.was, sym c.starts_with.ensures ∙ not-false _ c.if-not-starts_with.false-raw)
