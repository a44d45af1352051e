use Rattle.std.proofs.Common.{List, ◌++◌, is_ok, sym, ap, ◌∙◌}
use Rattle.text.specs.Shorts.{short_bytes}
use Rattle.text.specs.Words.{words_of}
use Rattle.language.specs.Texts.{Bytes}
use Rattle.words.specs.Listed.{listed}
use Rattle.words.proofs.Lines.{word_more}
use Rattle.words.proofs.words.Words.of_line.Goals as goal

pub loop-word-preserved : goal.loop-word-preserved
loop-word-preserved c =
    let vs = listed c.loop-word.words in
    word_more (short_bytes c.args.line) c.args.line.short vs c.in-Some.word.now (words_of c.in-Some.after.now)
    (ap (λ (ws : List Bytes). vs ++ ws) (sym c.in-Some.ensures.splits.2) ∙ c.loop-word.invariant)
    (is_ok c.push.result) (listed c.push.new.self) c.push.ensures.answer c.push.ensures.after
