-- `head_sections::section_at` meets its contract.
use Rattle.head_sections.proofs.Breaks.{starts_in}
use Rattle.head_sections.specs.Split.{section_at}
use borrow.Author.Tests.{not-true, not-false, lt-ltb, le-ltb}
use native.Mathlib.Omega.{arith}
use mathlib.Core.Path.{sym, ◌∙◌}
use Rattle.head_sections.proofs.section_at.Goals as goal

pub returns-then-not-starts_with : goal.returns-then-not-starts_with
unfolding section_at
returns-then-not-starts_with c = rw (sym c.starts_with.ensures ∙ not-true _ c.if-not-starts_with.true-raw)

pub overflow_add-start : goal.overflow_add-start
overflow_add-start c = omega (arith, starts_in _ _ _ c.requires (sym c.starts_with.ensures ∙ not-false _ c.if-not-starts_with.false-raw))

pub returns-then-end-s : goal.returns-then-end-s
unfolding section_at
returns-then-end-s c = rw (sym c.starts_with.ensures ∙ not-false _ c.if-not-starts_with.false-raw, sym c.next_break-end.ensures) (simp (lt-ltb _ _ c.if-end-s.true))

pub returns : goal.returns
unfolding section_at
returns c = rw (sym c.starts_with.ensures ∙ not-false _ c.if-not-starts_with.false-raw, sym c.next_break-end.ensures) (simp (le-ltb _ _ c.if-end-s.false))
