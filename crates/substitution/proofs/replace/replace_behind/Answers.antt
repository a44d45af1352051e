use Rattle.std.proofs.Common.{◌≡◌, ◌-◌, drop, Err, arith, rules}
use Rattle.std.proofs.lemmas.Grind.{common_steps}
use Rattle.language.specs.Words.{substituted}
use Rattle.store.specs.Stores.{core_seen}
use Rattle.substitution.proofs.Leftward.{met_behind}
use Rattle.substitution.proofs.replace.replace_behind.Goals as goal

pub returns-in_err-replace_name-clause-is : goal.returns-in_err-replace_name-clause-is
returns-in_err-replace_name-clause-is c =
    let here : substituted (core_seen c.args.store.now) (c.loop-i.i - 1) (drop (c.loop-i.i - 1) c.args.word.now) ≡ Err c.in_err-replace_name.field-0.0 = grind (arith, common_steps) in
    let whole = met_behind (core_seen c.args.store.now) c.args.word.now c.args.from (c.loop-i.i - 1) c.in_err-replace_name.field-0.0 here (omega arith) in
    search (rules, whole)
