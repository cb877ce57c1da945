-- `walk_bare::ended`: a PDF, or refused.
use Rattle.std.proofs.lemmas.Result.{err_from_is_err_and}
use mathlib.Core.Path.{sym, ap, ◌∙◌}
use Rattle.walk_bare.specs.Bare.{ended_of}
use Rattle.walk_bare.proofs.Laws.{ended_pdf}
use Rattle.walk_bare.proofs.ended.Goals as goal

pub returns : goal.returns
returns c = ended_pdf c.args.lines c.read_count.ensures ∙ sym (ap (ended_of c.args.lines) c.in_ok-walked.was)

pub returns-in_err-walked : goal.returns-in_err-walked
returns-in_err-walked c =
    let p = err_from_is_err_and c.from_residual.result c.from_residual.ensures.1 in
    rw (p.1, p.2) (sym (ap (ended_of c.args.lines) c.in_err-walked.was))
