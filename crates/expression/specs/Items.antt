-- The items of a right side, as the language defines them.
use Rattle.std.specs.Prelude.{List}
use Rattle.text.specs.Shorts.{short_bytes}
use Rattle.language.specs.Assignments as language
use Rattle.language.specs.Assignments.{items_of}
use Rattle.expression.specs.Tails.{words_in}
use Rattle.expression.specs.declared.items.Item.{Item}
use Rattle.expression.specs.declared.items.Item.TheVariants.{Word, Call}
use Rattle.expression.specs.declared.items.Items.{Items}

abbrev pub item_seen : Item → language.Item
item_seen (Word w) = language.Item.plain (short_bytes w)
item_seen (Call f ws) = language.Item.call (short_bytes f) (words_in ws)

abbrev pub items_in : Items → List language.Item
items_in s = items_of (words_in s.words)
