use Rattle.std.proofs.Common.{rules}
use Rattle.keywords.proofs.Capped.{kind_given}
use Rattle.keywords.proofs.names.kind_of.Goals as goal

pub returns : goal.returns
returns c = kind_given c.args.name.now c.known.result c.unwrap_or_else.result c.known.ensures c.unwrap_or_else.ensures (λ p. search rules) (λ j e. e)
