-- &READ: its manners, the targets that they take, and the variables that a line sets.
use Rattle.std.specs.Prelude.{ℕ, Bool, true, cond, ◌&&◌, ◌||◌, List, [], ◌∷◌, map, length, drop, Some, None, Ok, Err, codes, Option, Result, ◌==◌, slice_index_or}
use Rattle.std.specs.Char.{to_ascii_uppercase}
use Rattle.std.specs.Str.{bytes_eq}
use Rattle.text.specs.Words.{words_of}
use Rattle.machine.specs.Machines.{Line, Action}
use Rattle.language.specs.Texts.{Bytes, is_null, has_ampersand, tabled}
use Rattle.language.specs.Faults.{◌>>=◌, ◌>>◌, must, by_statement, by_store, in_line}
use Rattle.language.specs.Cores.{Core, with_arguments, go_on, stopped}
use Rattle.language.specs.Store.{settable, put}
use Rattle.language.specs.Words.{Word, word_of, target_of, words_in, gathered}
use Rattle.language.specs.declared.fault.StatementFault.TheVariants.{WrongWord}
use Rattle.language.specs.declared.fault.StoreFault.{StoreFault}
use Rattle.language.specs.declared.fault.StoreFault.TheVariants.{CannotBeSet}
use Rattle.language.specs.declared.fault.Cause.{Cause}
use Rattle.language.specs.declared.fault.Cause.TheVariants.{Store}
use Rattle.language.specs.declared.life.Stop.{Stop}

pub data Manner : Type 0 where
  args string vars : Manner

abbrev pub manners : List (Bytes × Manner)
manners =
    (codes "ARGS", args) ∷ (codes "STRING", string) ∷ (codes "VARS", vars) ∷ (codes "VAR", vars) ∷ []

unfoldable pub manner_of : Bytes → Option Manner
manner_of = tabled manners

-- a line as it is read: in capitals
abbrev pub capitals : Line → Bytes
capitals = map to_ascii_uppercase

-- an asterisk takes a word and drops it
abbrev pub drops : Bytes → Bool
drops t = bytes_eq t (codes "*")

abbrev pub are_targets : List Bytes → Bool
are_targets [] = true
are_targets (t ∷ ts) = (drops t || has_ampersand t) && are_targets ts

abbrev pub are_settable : Core → List Bytes → Bool
are_settable c [] = true
are_settable c (t ∷ ts) = (drops t || settable c t) && are_settable c ts

module _ (line : ℕ) where
  -- goes on with a core that took a value, or stops where it took none
  abbrev pub took : Core → Result Core StoreFault → (Core → Core) → Core
  took c (Ok d) next = next d
  took c (Err f) next = stopped c (record { cause = Store f; line = line; word = 0 })

  -- the targets take the words from left to right; surplus words are lost, surplus variables become null
  abbrev pub takes : Core → List Bytes → List Bytes → Core
  takes c [] ws = go_on c
  takes c (t ∷ ts) ws =
      cond (drops t) (takes c ts (drop 1 ws)) (took c (put c t (slice_index_or ws 0 [])) (λ d. takes d ts (drop 1 ws)))

  -- the targets are judged before a line is looked for
  abbrev pub read_into : Core → Manner → List Bytes → Result (Action Core) Cause
  read_into c args ts =
      by_statement (must (length ts == 0) WrongWord)
      >> Ok (Action.reads (λ l. go_on (with_arguments c (words_of (capitals l)))))
  read_into c string ts = do
    by_statement (must (length ts == 1 && has_ampersand (slice_index_or ts 0 [])) WrongWord)
    by_store (must (are_settable c ts) CannotBeSet)
    Ok (Action.reads (λ l. took c (put c (slice_index_or ts 0 []) (capitals l)) go_on))
  read_into c vars ts = do
    by_statement (must (are_targets ts) WrongWord)
    by_store (must (are_settable c ts) CannotBeSet)
    Ok (Action.reads (λ l. takes c ts (words_of (capitals l))))

module _ (line : ℕ) (c : Core) where
  -- a word that starts with an ampersand is to be set
  abbrev pub targets_in : List Word → Result (List Bytes) Stop
  targets_in [] = Ok []
  targets_in (w ∷ ws) = do
    t ← cond (has_ampersand w.written) (target_of line c w) (word_of line c w)
    ts ← targets_in ws
    Ok (t ∷ ts)

  abbrev pub words_by : Manner → List Word → Result (List Bytes) Stop
  words_by args ws = words_in line c ws
  words_by string ws = targets_in ws
  words_by vars ws = targets_in ws

  -- after the word that names the manner
  abbrev pub read_by : List Bytes → Option Manner → List Word → Result (Action Core) Stop
  read_by front None ws = gathered line front (words_in line c ws) >> in_line line (by_statement (Err WrongWord))
  read_by front (Some m) ws = gathered line front (words_by m ws) >>= λ ts. in_line line (read_into line c m ts)

  -- the first word that is not null names the manner
  abbrev pub reading : List Word → Result (Action Core) Stop
  reading [] = in_line line (by_statement (Err WrongWord))
  reading (w ∷ ws) = do
    t ← word_of line c w
    cond (is_null t) (reading ws) (read_by (codes "&READ" ∷ (t ∷ [])) (manner_of t) ws)
