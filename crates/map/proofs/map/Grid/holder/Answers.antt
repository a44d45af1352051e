use Rattle.std.proofs.Common.{◌∙◌, rules, tests}
use Rattle.std.proofs.lemmas.Iterator.{YieldsList-from_slice}
use Rattle.std.proofs.lemmas.Iterator.Adapters.{position_from-zero}
use Rattle.std.proofs.lemmas.Iterator.Search.{position_from_yields_List}
use Rattle.text.specs.Tables.{held}
use Rattle.text.proofs.Rounds.{first_from-map}
use Rattle.map.specs.Boards.{is_on}
use Rattle.map.specs.Pieces.{stand_of}
use Rattle.map.proofs.map.Grid.holder.Goals as goal

pub returns-clause-is : goal.returns-clause-is
returns-clause-is g c =
    position_from_yields_List (λ x. is_on c.args.square.row c.args.square.column (stand_of x)) _ _ c.position.result c.position.ensures.ran (YieldsList-from_slice _ (c.iter.ensures.rest ∙ c.as_slice.ensures.is)) (λ x b q k. search (rules, tests))
    ∙ position_from-zero (λ x. is_on c.args.square.row c.args.square.column (stand_of x)) (held c.args.self.now.pieces)
    ∙ first_from-map stand_of (is_on c.args.square.row c.args.square.column) 0 (held c.args.self.now.pieces)
