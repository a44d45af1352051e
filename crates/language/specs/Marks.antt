-- The first character of a word.
use Rattle.std.specs.Prelude.{cond, [], ◌∷◌, ◌==◌}
use Rattle.language.specs.Texts.{Bytes}
use Rattle.language.specs.declared.mark.Mark.{Mark}
use Rattle.language.specs.declared.mark.Mark.TheVariants.{Comment, Label, Name, Plain}

abbrev pub mark_of : Bytes → Mark
mark_of [] = Plain
mark_of (b ∷ bs) = cond (b == 42) Comment (cond (b == 45) Label (cond (b == 38) Name Plain))
