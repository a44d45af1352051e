use Rattle.std.proofs.Common.{◌≡◌, ◌-◌, ◌≤◌, length}
use Rattle.store.specs.Stores.{core_seen}
use Rattle.substitution.specs.Gathering.{gathering}
use Rattle.substitution.specs.Writing.{written_seen}
use Rattle.statement.specs.Clauses.{clause_of, clauses_behind}
use Rattle.statement.proofs.clause.take_clause.Given as goal

abbrev pub invariant-loop : goal.invariant-loop
invariant-loop l =
    record {
      no_more : length (written_seen l.words) ≤ length (written_seen l.initial.words);
      is : clauses_behind (gathering l.into) (clause_of l.reader.line (core_seen l.reader.store.now) (3 - l.counter) (written_seen l.words))
          ≡ clauses_behind (gathering l.initial.into) (clause_of l.reader.line (core_seen l.reader.store.now) 3 (written_seen l.initial.words));
    }
