-- The open calls, the innermost first.
use Rattle.std.specs.Prelude.{List, map, reverse}
use Rattle.text.specs.Tables.{held}
use Rattle.language.specs.Cores.{Frame}
use Rattle.words.specs.Listed.{listed}
use Rattle.store.specs.declared.calls.Call.{Call}
use Rattle.store.specs.declared.calls.Calls.{Calls}

abbrev pub frame_seen : Call → Frame
frame_seen c = record { line = c.line; arguments = listed c.arguments }

abbrev pub frames_seen : Calls → List Frame
frames_seen c = reverse (map frame_seen (held c.records))
