use Rattle.language.specs.Functions.{function_of}
use Rattle.language.specs.Views.{function_seen}
use Rattle.keywords.proofs.Sieve.{found}
use Rattle.keywords.proofs.words.function_of.Goals as goal

pub returns : goal.returns
unfolding function_of
returns c = search (found function_seen)
