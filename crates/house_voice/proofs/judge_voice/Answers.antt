-- `house_voice::judge_voice`: the models that are left, from the state that the loop is in, end as all do.
use mathlib.Core.Path.{sym, ◌∙◌}
use Rattle.head_words.specs.Words.{header_at}
use Rattle.load_model.specs.Load.{lent}
use Rattle.load_bounds.specs.Bounds.{side_of, held_of}
use Rattle.house_voice.proofs.Laws.{judging_none, fits_so, judging_more, goes_up, voice_refused, voice_judged}
use Rattle.house_voice.proofs.judge_voice.Goals as goal

pub loop-refusal-init : goal.loop-refusal-init
loop-refusal-init c = let a = c.args in judging_none (side_of c.args.top) c.args.file.now (header_at c.args.words.now) (held_of c.args.other) (lent a.questions.now a.patterns.now a.trees.now a.records.now a.values.now a.work.now) c.nobody-held.ensures

pub judge_next-requires : goal.judge_next-requires
judge_next-requires c = c.requires

pub number_of-requires : goal.number_of-requires
number_of-requires c = c.loop-refusal.invariant.low

pub shape_of-questions-in-Err : goal.shape_of-questions-in-Err
shape_of-questions-in-Err c = c.judge_next.auto.questions ∙ c.loop-refusal.invariant.long.questions

pub shape_of-patterns-in-Err : goal.shape_of-patterns-in-Err
shape_of-patterns-in-Err c = c.judge_next.auto.patterns ∙ c.loop-refusal.invariant.long.patterns

pub shape_of-trees-in-Err : goal.shape_of-trees-in-Err
shape_of-trees-in-Err c = c.judge_next.auto.trees ∙ c.loop-refusal.invariant.long.trees

pub shape_of-records-in-Err : goal.shape_of-records-in-Err
shape_of-records-in-Err c = c.judge_next.auto.records ∙ c.loop-refusal.invariant.long.records

pub shape_of-values-in-Err : goal.shape_of-values-in-Err
shape_of-values-in-Err c = c.judge_next.auto.values ∙ c.loop-refusal.invariant.long.values

pub shape_of-work-in-Err : goal.shape_of-work-in-Err
shape_of-work-in-Err c = c.judge_next.auto.work ∙ c.loop-refusal.invariant.long.work

pub returns-in-Err : goal.returns-in-Err
returns-in-Err c = voice_refused (side_of c.args.top) c.args.file.now (header_at c.args.words.now) (held_of c.args.other) c.loop-refusal.invariant c.judge_next.ensures.1 (sym c.in-Err.is ∙ c.judge_next.ensures.0) c.number_of.ensures

pub number_of-requires-in-Ok : goal.number_of-requires-in-Ok
number_of-requires-in-Ok c = c.loop-refusal.invariant.low

pub next_model-requires : goal.next_model-requires
next_model-requires c =
    record { in_bounds = (c.requires, c.loop-refusal.invariant.at.in_types); words_value = fits_so (side_of c.args.top) c.args.file.now (header_at c.args.words.now) (held_of c.args.other) c.loop-refusal.invariant c.judge_next.ensures.1 (sym c.in-Ok.is ∙ c.judge_next.ensures.0) c.number_of-in-Ok.ensures c.first_of-first.ensures }

pub loop-refusal-smaller : goal.loop-refusal-smaller
loop-refusal-smaller c = goes_up (side_of c.args.top) c.args.file.now (header_at c.args.words.now) (held_of c.args.other) c.loop-refusal.invariant c.judge_next.ensures.1 (sym c.in-Ok.is ∙ c.judge_next.ensures.0) c.number_of-in-Ok.ensures c.first_of-first.ensures (sym c.in-Some.is ∙ c.next_model.ensures)

pub loop-refusal-preserved : goal.loop-refusal-preserved
loop-refusal-preserved c =
    judging_more (side_of c.args.top) c.args.file.now (header_at c.args.words.now) (held_of c.args.other) c.loop-refusal.invariant c.judge_next.ensures.1 (sym c.in-Ok.is ∙ c.judge_next.ensures.0) c.number_of-in-Ok.ensures c.first_of-first.ensures (sym c.in-Some.is ∙ c.next_model.ensures)
    record {
      questions = c.judge_next.auto.questions ∙ c.loop-refusal.invariant.long.questions;
      patterns = c.judge_next.auto.patterns ∙ c.loop-refusal.invariant.long.patterns;
      trees = c.judge_next.auto.trees ∙ c.loop-refusal.invariant.long.trees;
      records = c.judge_next.auto.records ∙ c.loop-refusal.invariant.long.records;
      values = c.judge_next.auto.values ∙ c.loop-refusal.invariant.long.values;
      work = c.judge_next.auto.work ∙ c.loop-refusal.invariant.long.work;
    }

pub shape_of-questions-in-None : goal.shape_of-questions-in-None
shape_of-questions-in-None c = c.judge_next.auto.questions ∙ c.loop-refusal.invariant.long.questions

pub shape_of-patterns-in-None : goal.shape_of-patterns-in-None
shape_of-patterns-in-None c = c.judge_next.auto.patterns ∙ c.loop-refusal.invariant.long.patterns

pub shape_of-trees-in-None : goal.shape_of-trees-in-None
shape_of-trees-in-None c = c.judge_next.auto.trees ∙ c.loop-refusal.invariant.long.trees

pub shape_of-records-in-None : goal.shape_of-records-in-None
shape_of-records-in-None c = c.judge_next.auto.records ∙ c.loop-refusal.invariant.long.records

pub shape_of-values-in-None : goal.shape_of-values-in-None
shape_of-values-in-None c = c.judge_next.auto.values ∙ c.loop-refusal.invariant.long.values

pub shape_of-work-in-None : goal.shape_of-work-in-None
shape_of-work-in-None c = c.judge_next.auto.work ∙ c.loop-refusal.invariant.long.work

pub returns-in-None : goal.returns-in-None
returns-in-None c = voice_judged (side_of c.args.top) c.args.file.now (header_at c.args.words.now) (held_of c.args.other) c.loop-refusal.invariant c.judge_next.ensures.1 (sym c.in-Ok.is ∙ c.judge_next.ensures.0) c.number_of-in-Ok.ensures c.first_of-first.ensures (sym c.in-None.is ∙ c.next_model.ensures)
