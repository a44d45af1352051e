use Rattle.std.proofs.Common.{◌∙◌, rules}
use Rattle.text.specs.Tables.{held}
use Rattle.text.proofs.Rounds.{first_from-map}
use Rattle.map.specs.Boards.{is_piece}
use Rattle.map.specs.Pieces.{stand_of}
use Rattle.map.proofs.map.Grid.find_piece.Goals as goal

pub returns-clause-is : goal.returns-clause-is
returns-clause-is g c =
    search rules ∙ first_from-map stand_of (is_piece c.args.name.now) 0 (held c.args.self.now.pieces)
