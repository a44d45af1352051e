-- What the tables hold, as lists.
use Rattle.std.specs.Prelude.{ℕ, ◌-◌, cond, List, ◌++◌, map, take, drop, nat_lt}
use Rattle.text.specs.Tables.{held}
use Rattle.language.specs.Cores as cores
use Rattle.language.specs.Texts.{Bytes}
use Rattle.tables.specs.declared.lines.Lines.{Lines}
use Rattle.tables.specs.declared.variables.Variable.{Variable}
use Rattle.tables.specs.declared.variables.Variables.{Variables}

abbrev pub variable_seen : Variable → cores.Variable
variable_seen v = record { name = held v.name; value = held v.value }

abbrev pub variables_seen : Variables → List cores.Variable
variables_seen vs = map variable_seen (held vs.records)

-- a place of a round of n, from one that has gone round at most once
abbrev pub wrapped : ℕ → ℕ → ℕ
wrapped n i = cond (nat_lt i n) i (i - n)

-- so many of a list, from a place on, round past its end
abbrev pub around : {A : Type 0} → ℕ → ℕ → List A → List A
around first count xs = take count (drop first (xs ++ xs))

abbrev pub lines_seen : Lines → List Bytes
lines_seen l = around l.first l.count (map held l.records)
