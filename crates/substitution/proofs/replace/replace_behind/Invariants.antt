use Rattle.std.proofs.Common.{◌≡◌, ◌+◌, ◌≤◌, length, drop, Ok}
use Rattle.language.specs.Words.{substituted}
use Rattle.store.specs.Stores.{core_seen}
use Rattle.substitution.specs.Scratches.{scratch_held}
use Rattle.substitution.proofs.replace.replace_behind.Given as goal

abbrev pub invariant-loop-i : goal.invariant-loop-i
invariant-loop-i l =
    record { from : l.from ≤ l.i; within : l.i + length (scratch_held l.text) ≤ 255; is : substituted (core_seen l.store) l.i (drop l.i l.word) ≡ Ok (scratch_held l.text) }
