-- The session that a state stands for, with the book of its host.
use Rattle.host.specs.Books.{Book}
use Rattle.machine.specs.Machines as machines
use Rattle.language.specs.Cores.{Core}
use Rattle.tables.specs.Tables.{lines_seen}
use Rattle.store.specs.Stores.{core_seen}
use Rattle.store.specs.declared.state.State.{State}

abbrev pub state_seen : State → Book → machines.State Core
state_seen s book =
    record {
      core = core_seen s.store;
      stack = lines_seen s.stack;
      waiting = lines_seen s.waiting;
      steps = s.steps;
      book = book;
    }
