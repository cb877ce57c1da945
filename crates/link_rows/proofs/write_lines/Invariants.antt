-- `link_rows::write_lines`: the lines before k stand as rows, what stands behind them is as before.
use Rattle.link_rows.proofs.Laws.{Writing}
use Rattle.link_rows.proofs.write_lines.Given as goal

abbrev pub invariant-loop-k : goal.invariant-loop-k
invariant-loop-k l = Writing l.work l.n l.initial.rows l.rows l.k
