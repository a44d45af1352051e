use Rattle.std.proofs.Common.{arith}
use Rattle.std.proofs.lemmas.Grind.{common_steps}
use Rattle.text.specs.Tables.{held}
use Rattle.keywords.proofs.Exchanges.{translated_each}
use Rattle.keywords.proofs.functions.translate.Goals as goal

pub returns : goal.returns
returns c = grind (arith, common_steps, translated_each c.args.from.now c.args.to.now (held c.args.text.now))
