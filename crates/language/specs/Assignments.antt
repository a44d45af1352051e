-- Assignment: the items of a right side, sums of them, and the target that takes the value.
use Rattle.std.specs.Prelude.{ℕ, Bool, true, false, cond, ◌&&◌, ◌||◌, List, [], ◌∷◌, drop, ℤ, ◌+ℤ◌, ◌-ℤ◌, is_some, Ok, Err, codes, Result}
use Rattle.std.specs.Option.{ok_or}
use Rattle.std.specs.Fmt.{signed_decimal}
use Rattle.std.specs.Str.{bytes_eq}
use Rattle.text.specs.Numbers.{number_of, in_range}
use Rattle.machine.specs.Machines.{Action, Stacking}
use Rattle.language.specs.Texts.{Bytes, has_ampersand}
use Rattle.language.specs.Faults.{◌>>=◌, ◌>>◌, must, by_statement, by_store, in_line}
use Rattle.language.specs.Cores.{Core, go_on}
use Rattle.language.specs.Store.{put}
use Rattle.language.specs.Words.{Word, target_of, words_in, gathered}
use Rattle.language.specs.Functions.{Yield, function_of, applied_by}
use Rattle.language.specs.declared.fault.StatementFault.{StatementFault}
use Rattle.language.specs.declared.fault.StatementFault.TheVariants.{Malformed, WrongWord, OutOfRange, UnknownFunction}
use Rattle.language.specs.declared.fault.Cause.{Cause}
use Rattle.language.specs.declared.life.Stop.{Stop}

-- an item of a right side: a word, or a function with its words, which comes last
pub data Item : Type 0 where
  plain : Bytes → Item
  call : Bytes → List Bytes → Item

abbrev pub begins_of : List Bytes → Bool
begins_of [] = false
begins_of (w ∷ ws) = bytes_eq w (codes "OF")

-- the first word that is followed by OF is a function, and all words after OF are its own
abbrev pub items_of : List Bytes → List Item
items_of [] = []
items_of (w ∷ ws) = cond (begins_of ws) (call w (drop 1 ws) ∷ []) (plain w ∷ items_of ws)

abbrev pub yields : Item → Yield
yields (plain w) = Yield.gives w
yields (call f ws) = applied_by (function_of f) ws

abbrev pub is_item : Bytes → Item → Bool
is_item t (plain w) = bytes_eq w t
is_item t (call f ws) = false

abbrev pub is_plus : Item → Bool
is_plus = is_item (codes "+")

abbrev pub is_minus : Item → Bool
is_minus = is_item (codes "-")

-- the items at even places are all + or -
abbrev pub alternates : List Item → Bool
alternates [] = true
alternates (x ∷ []) = true
alternates (x ∷ (s ∷ xs)) = (is_plus s || is_minus s) && alternates xs

-- the text of an item on its own
abbrev pub text_of : Yield → Result Bytes StatementFault
text_of (Yield.gives t) = Ok t
text_of Yield.wrong = Err WrongWord
text_of Yield.unknown = Err UnknownFunction

-- a term of a sum is a number; an unknown function is a fault that comes later
abbrev pub is_term : Yield → Bool
is_term (Yield.gives t) = is_some (number_of t)
is_term Yield.wrong = false
is_term Yield.unknown = true

-- each term stands there and is one
abbrev pub are_terms : List Item → Bool
are_terms [] = false
are_terms (x ∷ []) = is_term (yields x)
are_terms (x ∷ (s ∷ xs)) = is_term (yields x) && are_terms xs

abbrev pub amount : Item → Result ℤ StatementFault
amount x = text_of (yields x) >>= λ t. ok_or (number_of t) WrongWord

-- a sum so far with one more term
abbrev pub partial : ℤ → Item → ℤ → ℤ
partial total s z = cond (is_plus s) (total +ℤ z) (total -ℤ z)

-- a sum so far, then signs and terms: every partial sum is in range
abbrev pub summed : ℤ → List Item → Result ℤ StatementFault
summed total [] = Ok total
summed total (s ∷ []) = Err WrongWord
summed total (s ∷ (x ∷ xs)) = do
  z ← amount x
  must (in_range (partial total s z)) OutOfRange
  summed (partial total s z) xs

-- nothing is null, one item is taken as it is, and more are a sum
abbrev pub right_side : List Item → Result Bytes StatementFault
right_side [] = Ok []
right_side (x ∷ []) = text_of (yields x)
right_side (x ∷ (s ∷ xs)) = do
  must (alternates (x ∷ (s ∷ xs))) Malformed
  must (are_terms (x ∷ (s ∷ xs))) WrongWord
  z ← amount x
  total ← summed z (s ∷ xs)
  Ok (signed_decimal total)

-- as written, the first word starts with an ampersand and the second is =
abbrev pub begins_equals : List Word → Bool
begins_equals [] = false
begins_equals (w ∷ ws) = bytes_eq w.written (codes "=")

abbrev pub is_assignment : Word → List Word → Bool
is_assignment w ws = has_ampersand w.written && begins_equals ws

-- the target is set last
abbrev pub assigns : Core → Bytes → List Bytes → Result (Action Core) Cause
assigns c n ws = do
  t ← by_statement (right_side (items_of ws))
  d ← by_store (put c n t)
  Ok (Action.moves Stacking.none (go_on d))

abbrev pub assignment : ℕ → Core → Word → List Word → Result (Action Core) Stop
assignment line c target right = do
  n ← target_of line c target
  ws ← gathered line (n ∷ (codes "=" ∷ [])) (words_in line c right)
  in_line line (assigns c n ws)
