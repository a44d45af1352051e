-- What each host's book is, and how a name is left.
use Rattle.std.specs.Prelude.{◌≡◌, ℕ, List, length, ℤ, pos, negsuc, Ok, Err, Result, slice_index_or}
use Rattle.text.specs.Tables.{held}
use Rattle.host.specs.Books.{Book}
use Rattle.host.specs.declared.cue.Cue.{Cue}
use Rattle.host.specs.declared.name.Name.{Name}
use Rattle.host.specs.declared.refusal.Refusal.{Refusal}

abbrev pub name_of : Name → List ℕ
name_of n = held n.text

-- a name that is filled holds the bytes; a refusal leaves the very same name
abbrev pub NameLeft : Name → List ℕ → {A : Type 0} → Result A Refusal → Name → Type 0
NameLeft was bytes (Ok x) is = name_of is ≡ bytes
NameLeft was bytes (Err e) is = is ≡ was

-- -3 to every command
abbrev pub nowhere : Book
nowhere before last = negsuc 2

-- the nth code to the nth command, 0 after the last
abbrev pub cued : List ℤ → Book
cued codes before last = slice_index_or codes (length before) (pos 0)

-- what is left of the codes
abbrev pub cue_book : Cue → Book
cue_book c before last = slice_index_or c.codes.now (length before) (pos 0)
