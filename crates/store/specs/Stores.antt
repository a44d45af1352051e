-- The core that a store stands for.
use Rattle.text.specs.Tables.{held}
use Rattle.script.specs.Views.{bytes_of}
use Rattle.language.specs.Cores.{Core}
use Rattle.words.specs.Listed.{listed}
use Rattle.tables.specs.Tables.{variables_seen}
use Rattle.store.specs.Calls.{frames_seen}
use Rattle.store.specs.declared.store.Store.{Store}

abbrev pub core_seen : Store → Core
core_seen s =
    record {
      script = bytes_of s.script;
      string = held s.string;
      variables = variables_seen s.variables;
      arguments = listed s.arguments;
      frames = frames_seen s.calls;
      presumed = held s.presumed;
      place = s.place;
      from = s.from;
      coline = s.command_line;
      code = s.code;
      life = s.life;
    }
