-- `house_voice::judge_voice`: the models that are left, from the state that the loop is in, end as all do.
use Prim.Native.Nat.{◌-◌}
use Rattle.head_words.specs.Words.{header_at}
use Rattle.load_model.specs.Load.{lent}
use Rattle.load_bounds.specs.Bounds.{side_of, held_of}
use Rattle.trail_voice.specs.Voice.{which_number}
use Rattle.house_voice.proofs.Laws.{Judging}
use Rattle.house_voice.proofs.judge_voice.Given as goal

abbrev pub invariant-loop-refusal : goal.invariant-loop-refusal
invariant-loop-refusal l =
    Judging (side_of l.top) l.file (header_at l.words) (held_of l.other) (lent l.initial.questions l.initial.patterns l.initial.trees l.initial.records l.initial.values l.initial.work) (lent l.questions l.patterns l.trees l.records l.values l.work) l.which l.first l.held

abbrev pub decreases-loop-refusal : goal.decreases-loop-refusal
decreases-loop-refusal l =
    17 - which_number l.which
