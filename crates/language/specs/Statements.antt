-- Lines and their statements: which kind each is, &IF with the statement that it carries out, and one step.
use Rattle.std.specs.Prelude.{ℕ, Bool, cond, ◌||◌, List, [], ◌∷◌, ◌++◌, length, drop, pos, Some, None, Ok, Err, codes, Option, Result, ◌==◌}
use Rattle.script.specs.Lines.{lines_of}
use Rattle.script.specs.Views.{line_numbered}
use Rattle.machine.specs.Machines.{Line, Action}
use Rattle.language.specs.Texts.{Bytes, is_null, has_asterisk, has_hyphen}
use Rattle.language.specs.Faults.{◌>>=◌, ◌>>◌, by_statement, in_line}
use Rattle.language.specs.Cores.{Core, go_on, exited, stopped}
use Rattle.language.specs.Words.{Word, written_words, word_of, words_in, gathered}
use Rattle.language.specs.Assignments.{is_assignment, assignment}
use Rattle.language.specs.Conditions.{condition_holds}
use Rattle.language.specs.Orders.{Control, control_of, becomes, obeyed, commanded}
use Rattle.language.specs.Reads.{reading}
use Rattle.language.specs.declared.fault.StatementFault.TheVariants.{Malformed}
use Rattle.language.specs.declared.life.Stop.{Stop}

-- what a statement comes to: what it does, or the stop
abbrev pub Meaning : Type 0
Meaning = Result (Action Core) Stop

-- a comment or a label where none may stand
abbrev pub is_mark : Word → Bool
is_mark w = has_asterisk w.written || has_hyphen w.written

module _ (line : ℕ) (c : Core) (st : List Line) where
  abbrev pub nothing_done : Meaning
  nothing_done = Ok (becomes (go_on c))

  abbrev pub misplaced : List Word → Meaning
  misplaced ws = gathered line [] (words_in line c ws) >> in_line line (by_statement (Err Malformed))

  -- &IF with the words of its clause: if it holds, what the rest means
  abbrev pub conditional : List Bytes → Meaning → Meaning
  conditional clause rest = do
    gathered line (codes "&IF" ∷ []) (Ok clause)
    holds ← in_line line (by_statement (condition_holds clause))
    cond holds rest nothing_done

  -- with its first word that is not null and the words after it; `whether` is what they mean after &IF
  abbrev pub led : Bytes → Option Control → List Word → Meaning → Meaning
  led t None ws whether = gathered line (t ∷ []) (words_in line c ws) >>= λ ts. in_line line (commanded c t ts)
  led t (Some Control.whether) ws whether = whether
  led t (Some Control.read) ws whether = reading line c ws
  led t (Some (Control.obeys o)) ws whether =
      gathered line (t ∷ []) (words_in line c ws) >>= λ ts. in_line line (obeyed c st o ts)

  -- a first word that becomes null leaves it to the `later` ones
  abbrev pub leading : Word → List Word → Meaning → Meaning → Meaning
  leading w ws later whether = word_of line c w >>= λ t. cond (is_null t) later (led t (control_of t) ws whether)

  abbrev mutual
    -- the statement that words make
    pub statement : List Word → Meaning
    statement [] = nothing_done
    statement (w ∷ ws) =
        cond (is_mark w) (misplaced (w ∷ ws))
        (cond (is_assignment w ws) (assignment line c w (drop 1 ws)) (leading w ws (decided ws) (clause [] ws)))

    -- what the first word that is not null decides
    pub decided : List Word → Meaning
    decided [] = nothing_done
    decided (w ∷ ws) = leading w ws (decided ws) (clause [] ws)

    -- the clause of an &IF: words that are not null, up to three; then the rest is a statement
    pub clause : List Bytes → List Word → Meaning
    clause got [] = conditional got nothing_done
    clause got (w ∷ ws) =
        word_of line c w
        >>= λ t. cond (is_null t) (clause got ws)
        (cond (length got == 2) (conditional (got ++ t ∷ []) (statement ws)) (clause (got ++ t ∷ []) ws))

  -- the first character of the first word decides: a comment, a label before a statement, or a statement
  abbrev pub line_means : List Word → Meaning
  line_means [] = nothing_done
  line_means (w ∷ ws) =
      cond (has_asterisk w.written) nothing_done
      (cond (has_hyphen w.written) (statement ws) (statement (w ∷ ws)))

-- a stop changes the end alone
abbrev pub settled : Core → Meaning → Action Core
settled c (Ok a) = a
settled c (Err s) = becomes (stopped c s)

-- past the last line the session ends with code 0
abbrev pub act_on : Core → List Line → Option Line → Action Core
act_on c st None = becomes (exited c (pos 0))
act_on c st (Some l) = settled c (line_means c.place c st (written_words l))

-- one step: the line at the place is carried out
abbrev pub act : Core → List Line → Action Core
act c st = act_on c st (line_numbered (lines_of c.script) c.place)
