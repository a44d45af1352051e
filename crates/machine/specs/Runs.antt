-- Run: steps until one of four things is so.
use Rattle.std.specs.Prelude.{ℕ, zero, suc, ◌-◌, cond, length, nat_le}
use Rattle.machine.specs.Machines.{Machine, State, Deeds, nothing, ◌then◌, Outcome, step}
use Rattle.machine.specs.Machines.Outcome.{waits, goes}
use Rattle.machine.specs.declared.reason.Reason.{Reason}
use Rattle.machine.specs.declared.reason.Reason.TheVariants.{Ended, Spent, Waiting, Full}

-- how a run came out: why it came to its end, the state then, and what it did
pub record Ran (C : Type 0) : Type 0 where
  pub reason : Reason
  pub state : State C
  pub deeds : Deeds

module _ {C : Type 0} where
  -- a run that takes no more steps
  abbrev pub halt : Reason → State C → Ran C
  halt r s = record { reason = r; state = s; deeds = nothing }

  abbrev pub precede : Deeds → Ran C → Ran C
  precede d r = record { reason = r.reason; state = r.state; deeds = d then r.deeds }

  -- a step that was tried with so much room: where it waits, or its line does not fit, it leaves no trace
  abbrev pub tried : State C → ℕ → Outcome C → (ℕ → State C → Ran C) → Ran C
  tried s room waits rest = halt Waiting s
  tried s room (goes d t) rest =
      cond (nat_le (length d.printed) room) (precede d (rest (room - length d.printed) t)) (halt Full s)

module _ {C : Type 0} (M : Machine C) (width : ℕ) where
  -- with a budget of so many steps and so many bytes of room: ended, spent, waiting and full, in this order
  abbrev pub run : ℕ → ℕ → State C → Ran C
  run zero room s = cond (M.ended s.core) (halt Ended s) (halt Spent s)
  run (suc n) room s = cond (M.ended s.core) (halt Ended s) (tried s room (step M width s) (run n))
