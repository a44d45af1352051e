-- The calls on a session: what each answers, what it leaves, and when it is refused.
use Rattle.std.specs.Prelude.{ℕ, ◌+◌, ◌-◌, Bool, cond, not, ◌&&◌, List, [], ◌∷◌, ◌++◌, length, Some, None, Option, nat_le, nat_lt}
use Rattle.text.specs.Bytes.{all_within}
use Rattle.machine.specs.Machines.{Line, Machine, State, Deeds, nothing}
use Rattle.machine.specs.Runs.{Ran, run}
use Rattle.machine.specs.declared.reason.Reason.{Reason}

pub data Call : Type 0 where
  -- a line is typed
  enter : Line → Call
  -- at most so many steps, on a page of so many bytes
  go : ℕ → ℕ → Call
  -- the value of a name, into a buffer of so many bytes
  value : List ℕ → ℕ → Call
  -- the report, into a buffer of so many bytes
  report : ℕ → Call

-- what a call answers: a number of refusal; or that a line is taken; or why a run came to its end, the steps that it took and
-- the bytes that it printed; or bytes that are told
pub data Answer : Type 0 where
  refused : ℕ → Answer
  taken : Answer
  ran : Reason → ℕ → List ℕ → Answer
  told : List ℕ → Answer

-- what comes of one call: the answer, the state then, and what was done
pub record Reply (C : Type 0) : Type 0 where
  pub answer : Answer
  pub state : State C
  pub deeds : Deeds

-- a typed line has at most 130 bytes, and sixteen may wait
abbrev pub longest_typed : ℕ
longest_typed = 130

abbrev pub most_waiting : ℕ
most_waiting = 16

abbrev pub most_steps : ℕ
most_steps = 4294967295

-- the least page holds one line of the width and the byte that ends it
abbrev pub least_page : ℕ → ℕ
least_page width = width + 1

abbrev pub value_buffer : ℕ
value_buffer = 255

abbrev pub report_buffer : ℕ
report_buffer = 80

module _ {C : Type 0} where
  -- a call that leaves everything as it was
  abbrev pub still : Answer → State C → Reply C
  still a s = record { answer = a; state = s; deeds = nothing }

  -- the line waits behind the others
  abbrev pub entered : Line → State C → Reply C
  entered l s =
      record {
        answer = Answer.taken;
        state = record { core = s.core; stack = s.stack; waiting = s.waiting ++ l ∷ []; steps = s.steps; book = s.book };
        deeds = nothing;
      }

  abbrev pub went : State C → Ran C → Reply C
  went s r =
      record {
        answer = Answer.ran r.reason (r.state.steps - s.steps) r.deeds.printed;
        state = r.state;
        deeds = r.deeds;
      }

  abbrev pub showing : ℕ → Option (List ℕ) → State C → Reply C
  showing buffer None s = still (Answer.refused 13) s
  showing buffer (Some v) s = cond (nat_lt buffer value_buffer) (still (Answer.refused 14) s) (still (Answer.told v) s)

-- a line that may be typed
abbrev pub typable : Line → Bool
typable l = nat_le (length l) longest_typed && all_within 32 126 l

module _ {C : Type 0} (M : Machine C) (width : ℕ) where
  abbrev pub running : State C → Bool
  running s = not (M.ended s.core)

  -- one call on a session and its host, its refusals in their order
  abbrev pub reply : Call → State C → Reply C
  reply (Call.enter l) s =
      cond (running s)
      (cond (typable l)
      (cond (nat_lt (length s.waiting) most_waiting) (entered l s) (still (Answer.refused 9) s))
      (still (Answer.refused 8) s))
      (still (Answer.refused 7) s)
  reply (Call.go budget page) s =
      cond (running s)
      (cond (nat_le (least_page width) page)
      (cond (nat_le (s.steps + budget) most_steps) (went s (run M width budget page s)) (still (Answer.refused 12) s))
      (still (Answer.refused 11) s))
      (still (Answer.refused 10) s)
  reply (Call.value name buffer) s = showing buffer (M.value s.core name) s
  reply (Call.report buffer) s =
      cond (nat_lt buffer report_buffer) (still (Answer.refused 15) s) (still (Answer.told (M.report s.core s.steps)) s)
