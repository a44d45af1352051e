-- The view of a table.
use Rattle.std.specs.Prelude.{ℕ, List, take}
use Rattle.text.specs.declared.table.Table.{Table}

-- the items that a table holds
abbrev pub held : {T : Type 0} {N : ℕ} → Table T N → List T
held t = take t.len t.items
