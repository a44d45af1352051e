use Rattle.std.proofs.Common.{◌++◌, List, ◌∷◌, sym, ap, ◌∙◌}
use Rattle.text.specs.Tables.{held}
use Rattle.language.specs.Texts.{Bytes}
use Rattle.language.specs.Functions.{concatenated}
use Rattle.expression.specs.Tails.{words_in}
use Rattle.expression.proofs.Joins.{joined_room, joined_more}
use Rattle.expression.proofs.calls.concatenate.Goals as goal

pub loop-word-preserved : goal.loop-word-preserved
loop-word-preserved c =
    let read = ap (λ (w : Bytes). held c.loop-word.value ++ concatenated (w ∷ words_in c.next.new.self)) c.as_slice.ensures.is in
    let first = ap (λ (ws : List Bytes). held c.loop-word.value ++ concatenated ws) (sym c.in-Some.ensures.steps) in
    joined_more _ _ _ _ _ _ (joined_room c.args.words) (read ∙ first ∙ c.loop-word.invariant) c.append.ensures.answer c.append.ensures.after
