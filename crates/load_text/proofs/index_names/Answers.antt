-- `load_text::index_names`: the rows' numbers, sorted where they stand.
use native.Mathlib.Omega.{arith}
use Rattle.link_order.specs.Keys.{key_of, name_key, name_at}
use Rattle.link_search.specs.Found.{count_from}
use Rattle.link_search.proofs.Last.{length-count}
use Rattle.link_tree.proofs.Whole.{sorted_part}
use Rattle.load_text.proofs.index_names.Goals as goal

pub returns : goal.returns
returns c =
    let a = c.args in
    let n = length-count 0 a.n in
    sorted_part (key_of (λ e. name_key (name_at a.s.now a.questions.now e))) a.patterns.now 0 a.n (count_from 0 a.n) (omega (arith, c.requires)) (omega arith) c.number_lines.ensures c.sort_names.ensures
