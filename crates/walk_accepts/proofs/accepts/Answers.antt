-- `walk_accepts::accepts`: the tree, and then its rows.
use Rattle.std.proofs.lemmas.Result.{err_from_is_err_and}
use mathlib.Core.Path.{sym, ap, ◌∙◌}
use Rattle.walk_accepts.specs.Accepting.{accepted_of, accepts_at, accepts_of}
use Rattle.walk_accepts.proofs.accepts.Goals as goal

pub returns : goal.returns
unfolding accepts_of
returns c = c.accepted_of.ensures ∙ ap (accepted_of c.args.tree) c.judge_tree.ensures ∙ ap (accepts_at c.args.s.now c.args.tree c.args.records.now) (sym c.in_ok-star.was ∙ c.choose_tree.ensures)

pub returns-in_err-star : goal.returns-in_err-star
unfolding accepts_of
returns-in_err-star c =
    let p = err_from_is_err_and c.from_residual.result c.from_residual.ensures.1 in
    rw (p.1, p.2) (ap (accepts_at c.args.s.now c.args.tree c.args.records.now) (sym c.in_err-star.was ∙ c.choose_tree.ensures))
