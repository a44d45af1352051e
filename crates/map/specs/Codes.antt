-- The numbers of the map's codes.
use Rattle.std.specs.Prelude.{ℤ, pos}
use Rattle.map.specs.declared.code.Code.{Code}
use Rattle.map.specs.declared.code.Code.TheVariants.{Done, SquareHeld, WrongPiece, OffTheMap, TooManyPieces, Malformed}

abbrev pub code_number : Code → ℤ
code_number Done = pos 0
code_number SquareHeld = pos 4
code_number WrongPiece = pos 8
code_number OffTheMap = pos 12
code_number TooManyPieces = pos 16
code_number Malformed = pos 20
