-- Courses of calls: what a list of calls comes to, told by what the calls answered and what the host received.
use Rattle.std.specs.Prelude.{ℕ, ◌+◌, List, [], ◌∷◌, ◌++◌}
use Rattle.host.specs.Books.{Pair, Answer as HostAnswer}
use Rattle.machine.specs.Machines.{Line, Machine, State}
use Rattle.machine.specs.Calls.{Call, Answer, Reply, reply}
use Rattle.machine.specs.Calls.Call.{enter, go, value, report}
use Rattle.machine.specs.Calls.Answer.{refused, taken, ran, told}

-- a session as its calls so far have left it, and all that they did
pub record Course (C : Type 0) : Type 0 where
  pub state : State C
  -- the typed lines that were accepted
  pub typed : List Line
  -- the bytes that runs wrote
  pub printed : List ℕ
  -- the pairs that the host received, each with its answer
  pub issued : List (Pair × HostAnswer)
  -- the steps that runs answered, all in all
  pub taken : ℕ
  -- how many lines were stacked, and how many read
  pub stacked : ℕ
  pub read : ℕ

abbrev pub typed_by : Call → Answer → List Line
typed_by (enter l) (refused n) = []
typed_by (enter l) taken = l ∷ []
typed_by (enter l) (ran r n bs) = []
typed_by (enter l) (told bs) = []
typed_by (go n p) a = []
typed_by (value n b) a = []
typed_by (report b) a = []

abbrev pub printed_by : Answer → List ℕ
printed_by (refused n) = []
printed_by taken = []
printed_by (ran r n bs) = bs
printed_by (told bs) = []

abbrev pub steps_by : Answer → ℕ
steps_by (refused n) = 0
steps_by taken = 0
steps_by (ran r n bs) = n
steps_by (told bs) = 0

module _ {C : Type 0} where
  -- a course that has not begun
  abbrev pub begun : State C → Course C
  begun s = record { state = s; typed = []; printed = []; issued = []; taken = 0; stacked = 0; read = 0 }

  abbrev pub extended : Course C → Call → Reply C → Course C
  extended p k r =
      record {
        state = r.state;
        typed = p.typed ++ typed_by k r.answer;
        printed = p.printed ++ printed_by r.answer;
        issued = p.issued ++ r.deeds.issued;
        taken = p.taken + steps_by r.answer;
        stacked = p.stacked + r.deeds.stacked;
        read = p.read + r.deeds.read;
      }

-- the calls carried out, one after the other
abbrev pub course : {C : Type 0} → Machine C → ℕ → List Call → Course C → Course C
course M width [] p = p
course M width (k ∷ ks) p = course M width ks (extended p k (reply M width k p.state))
