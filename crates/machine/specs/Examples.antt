-- Each refusal and each reason on a small machine, with the answers worked out by hand.
use Rattle.std.specs.Prelude.{◌≡◌, ℕ, cond, List, [], ◌∷◌, replicate, pos, Some, None, codes, ◌==◌, nat_le}
use Rattle.std.specs.Str.{bytes_eq}
use Rattle.host.specs.Books.{Book, pair}
use Rattle.machine.specs.Machines.{Machine, State}
use Rattle.machine.specs.Machines.Action.{moves, prints, issues, reads}
use Rattle.machine.specs.Machines.Stacking.{none, first, last}
use Rattle.machine.specs.Calls.{Call, Answer, reply}
use Rattle.machine.specs.Calls.Call.{enter, go, value, report}
use Rattle.machine.specs.Calls.Answer.{refused, taken, ran, told}
use Rattle.machine.specs.declared.reason.Reason.TheVariants.{Ended, Spent, Waiting, Full}

-- it prints twice, stacks a line in front and one behind, reads three lines, sends a command and ends: the core is the number of
-- the next of these
abbrev small : Machine ℕ
small =
    record {
      act = λ c stack.
          cond (nat_le c 1) (prints (codes "ABC") (cond (c == 0) 1 2))
          (cond (c == 2) (moves (last (codes "L")) 3)
          (cond (c == 3) (moves (first (codes "F")) 4)
          (cond (c == 4) (reads (λ l. cond (bytes_eq l (codes "F")) 5 9))
          (cond (c == 5) (reads (λ l. cond (bytes_eq l (codes "L")) 6 9))
          (cond (c == 6) (reads (λ l. cond (bytes_eq l (codes "typed")) 7 9))
          (cond (c == 7) (issues (pair (codes "E") (codes "C")) (λ a. 8))
          (moves none 9)))))));
      ended = λ c. (c == 9);
      value = λ c name. cond (bytes_eq name (codes "&X")) (Some (codes "1")) None;
      report = λ c n. codes "OPEN";
    }

abbrev quiet : Book
quiet before p = pos 0

abbrev start : State ℕ
start = record { core = 0; stack = []; waiting = []; steps = 0; book = quiet }

-- the answers to calls, made one after the other on lines of three bytes
abbrev answers : List Call → State ℕ → List Answer
answers [] s = []
answers (k ∷ ks) s = (reply small 3 k s).answer ∷ answers ks (reply small 3 k s).state

abbrev pub AnswersStand : Type 0
AnswersStand =
    (answers (go 0 4 ∷ go 1 4 ∷ go 9 3 ∷ go 9 4 ∷ []) start
    ≡ ran Spent 0 [] ∷ ran Spent 1 (codes "ABC\n") ∷ refused 11 ∷ ran Waiting 5 (codes "ABC\n") ∷ [])
    × (answers (go 9 4 ∷ go 9 7 ∷ go 4294967295 4 ∷ enter (codes "typed") ∷ go 3 4 ∷ go 1 4 ∷ []) start
    ≡ ran Full 1 (codes "ABC\n") ∷ ran Waiting 5 (codes "ABC\n") ∷ refused 12 ∷ taken ∷ ran Ended 3 [] ∷ refused 10 ∷ [])
    × (answers (enter (replicate 130 65) ∷ enter (replicate 131 65) ∷ enter (9 ∷ []) ∷ enter (31 ∷ []) ∷ enter (127 ∷ []) ∷ []) start
    ≡ taken ∷ refused 8 ∷ refused 8 ∷ refused 8 ∷ refused 8 ∷ [])
    × (answers (replicate 17 (enter [])) start
    ≡ taken ∷ taken ∷ taken ∷ taken ∷ taken ∷ taken ∷ taken ∷ taken ∷ taken ∷ taken ∷ taken ∷ taken ∷ taken ∷ taken ∷ taken ∷ taken ∷ refused 9 ∷ [])
    × (answers (value (codes "&X") 255 ∷ value (codes "&X") 254 ∷ value (codes "X") 255 ∷ value (codes "X") 0 ∷ report 80 ∷ report 79 ∷ []) start
    ≡ told (codes "1") ∷ refused 14 ∷ refused 13 ∷ refused 13 ∷ told (codes "OPEN") ∷ refused 15 ∷ [])
    × (answers (enter [] ∷ []) (record { core = 9; stack = []; waiting = []; steps = 0; book = quiet }) ≡ refused 7 ∷ [])
