-- Trials: a session with the lines that wait for it and what should come of it, and whether that comes.
use Rattle.std.specs.Prelude.{ℕ, zero, suc, ◌+◌, ◌/◌, ◌%◌, Bool, true, false, ◌&&◌, List, [], ◌∷◌, ◌++◌, ℤ, Some, None, codes, Option}
use Prim.Native.String.{String}
use Rattle.std.specs.Fmt.{digits}
use Rattle.std.specs.Str.{bytes_eq}
use Rattle.host.specs.Books.{Pair, Answer}
use Rattle.host.specs.Hosts.{cued}
use Rattle.machine.specs.Machines.{State}
use Rattle.machine.specs.Runs.{Ran, run}
use Rattle.language.specs.Texts.{Bytes, printed_width}
use Rattle.language.specs.Names.{kind_of}
use Rattle.language.specs.Cores.{Core, fresh}
use Rattle.language.specs.Functions.{function_of}
use Rattle.language.specs.Conditions.{comparative_of}
use Rattle.language.specs.Orders.{control_of}
use Rattle.language.specs.Reads.{manner_of}
use Rattle.language.specs.Sessions.{language, shown, reported}

pub record Trial : Type 0 where
  pub string : String
  -- the lines below the first, which is &TRACE
  pub script : List Bytes
  -- the codes that come back, then 0
  pub answers : List ℤ
  pub typed : List String
  pub budget : ℕ
  -- what it prints, issues and then shows, and its report
  pub prints : List Bytes
  pub issues : List (String × String)
  pub shows : List (String × String)
  pub reports : String

abbrev pub texts : List String → List Bytes
texts [] = []
texts (s ∷ ss) = codes s ∷ texts ss

-- lines, each with the byte that ends it
abbrev pub lined : List Bytes → Bytes
lined [] = []
lined (l ∷ ls) = l ++ (10 ∷ lined ls)

abbrev pub started : Trial → State Core
started t =
    record {
      core = fresh (lined (codes "&TRACE" ∷ t.script)) (codes t.string);
      stack = [];
      waiting = texts t.typed;
      steps = 0;
      book = cued t.answers;
    }

abbrev pub same_issued : List (Pair × Answer) → List (String × String) → Bool
same_issued [] [] = true
same_issued [] (e ∷ es) = false
same_issued (d ∷ ds) [] = false
same_issued (d ∷ ds) (e ∷ es) =
    bytes_eq d.0.environment (codes e.0) && bytes_eq d.0.command (codes e.1) && same_issued ds es

abbrev pub is_text : Option Bytes → Bytes → Bool
is_text None t = false
is_text (Some v) t = bytes_eq v t

abbrev pub same_shown : Core → List (String × String) → Bool
same_shown c [] = true
same_shown c (e ∷ es) = is_text (shown c (codes e.0)) (codes e.1) && same_shown c es

abbrev pub comes_out : Trial → Ran Core → Bool
comes_out t r =
    bytes_eq r.deeds.printed (lined t.prints) && same_issued r.deeds.issued t.issues
    && same_shown r.state.core t.shows
    && bytes_eq (reported r.state.core r.state.steps) (codes t.reports ++ 10 ∷ [])

unfoldable pub stands : Trial → Bool
unfolding digits kind_of function_of comparative_of control_of manner_of
stands t = comes_out t (run language printed_width t.budget 9999 (started t))

abbrev pub all_stand : List Trial → Bool
all_stand [] = true
all_stand (t ∷ ts) = stands t && all_stand ts

abbrev pub trial_of :
    String → List Bytes → List ℤ → List String → ℕ
    → List Bytes → List (String × String) → List (String × String) → String → Trial
trial_of string script answers typed budget prints issues shows report =
    record {
      string = string;
      script = script;
      answers = answers;
      typed = typed;
      budget = budget;
      prints = prints;
      issues = issues;
      shows = shows;
      reports = report;
    }

-- with a string and typed lines, what is printed
abbrev pub printing : String → List String → List String → List String → String → Trial
printing string ls typed lines report = trial_of string (texts ls) [] typed 100 (texts lines) [] [] report

-- after so many steps, what names show
abbrev pub showing : ℕ → List String → List (String × String) → String → Trial
showing budget ls values report = trial_of "" (texts ls) [] [] budget [] [] values report

-- with codes that come back, what is issued and what names show
abbrev pub issuing : List ℤ → List String → List (String × String) → List (String × String) → String → Trial
issuing answers ls pairs values report = trial_of "" (texts ls) answers [] 100 [] pairs values report

-- on any lines, with a string and typed lines, what names show
abbrev pub given : String → List Bytes → List String → List (String × String) → String → Trial
given string script typed values report = trial_of string script [] typed 100 [] [] values report

-- so many lines, each of which sets another variable
abbrev pub setting : ℕ → List Bytes
setting zero = []
setting (suc n) = ((38 ∷ (65 + n / 8) ∷ (65 + n % 8) ∷ []) ++ codes " = 1") ∷ setting n
