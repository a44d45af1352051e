-- The largest number of an argument that the code tells from larger ones.
use Rattle.std.specs.Prelude.{ℕ, min, Some, None, Option}
use Rattle.language.specs.Names.{Kind}

-- no list of arguments, which is a text, has as many
abbrev pub largest_index : ℕ
largest_index = 1000000

abbrev pub capped_index : Option ℕ → Option ℕ
capped_index None = None
capped_index (Some j) = Some (min j largest_index)

abbrev pub capped_kind : Kind → Kind
capped_kind (Kind.kept k) = Kind.kept k
capped_kind Kind.own = Kind.own
capped_kind Kind.absent = Kind.absent
capped_kind (Kind.argument j) = Kind.argument (min j largest_index)
capped_kind Kind.ordinary = Kind.ordinary
