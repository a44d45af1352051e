-- Two words compared: by value where both are numeric, otherwise byte by byte, the shorter padded with blanks.
use Rattle.std.specs.Prelude.{ℕ, ◌-◌, max, List, ◌++◌, length, replicate, ℤ, Some, None, Option}
use Rattle.std.specs.Cmp.Lexicographic.{slice_cmp}
use Rattle.std.specs.Ordering.{int_cmp, nat_cmp}
use Rattle.std.specs.declared.cmp.Ordering.{Ordering}
use Rattle.text.specs.Numbers.{number_of}

-- a word with blanks after it, n bytes long
abbrev pub padded : ℕ → List ℕ → List ℕ
padded n w = w ++ replicate (n - length w) 32

abbrev pub padded_order : List ℕ → List ℕ → Ordering
padded_order v w = slice_cmp nat_cmp (padded (max (length v) (length w)) v) (padded (max (length v) (length w)) w)

abbrev pub order_by : Option ℤ → Option ℤ → Ordering → Ordering
order_by None y o = o
order_by (Some m) None o = o
order_by (Some m) (Some n) o = int_cmp m n

abbrev pub word_order : List ℕ → List ℕ → Ordering
word_order v w = order_by (number_of v) (number_of w) (padded_order v w)
