-- The ten worked positions, as one list.
use Rattle.std.specs.Prelude.{◌≡◌, ℕ, true, List, [], ◌∷◌, ◌++◌}
use Prim.Native.String.{String}
use Rattle.language.specs.Trials.{Trial, texts, all_stand, printing, showing, given, setting}

-- with so many variables set before its lines
abbrev pub crowded : ℕ → List String → String → Trial
crowded n ls report = given "" (setting n ++ texts ls) [] [] report

abbrev pub positions : List Trial
positions =
    -- &X is 1 and &1 is FIRST: &&X gives FIRST
    printing "FIRST" ("&X = 1" ∷ "&PRINT &&X" ∷ []) [] ("FIRST" ∷ []) "END 0 STEPS 4"
    -- with &1 an ampersand, it gives an ampersand
    ∷ printing "&" ("&X = 1" ∷ "&PRINT &&X" ∷ []) [] ("&" ∷ []) "END 0 STEPS 4"
    -- a sum
    ∷ showing 9 ("&R = 3 - 4 + 11 - 00" ∷ []) (("&R", "10") ∷ []) "END 0 STEPS 3"
    -- a sum out of range
    ∷ showing 9 ("&R = 2147483647 + 1" ∷ []) (("&R", "") ∷ []) "STOP 10109 LINE 2 WORD 0 LAYER STATEMENT STEPS 2"
    -- 000 equals 0, and 1. differs from 1
    ∷ showing 9 ("&IF 000 = 0 &EXIT 5" ∷ []) [] "END 5 STEPS 2"
    ∷ showing 9 ("&IF 1. = 1 &EXIT 5" ∷ []) [] "END 0 STEPS 3"
    -- a null word leaves &IF without its comparative
    ∷ showing 9 ("&IF &Z = A &EXIT 5" ∷ []) [] "STOP 10104 LINE 2 WORD 0 LAYER STATEMENT STEPS 2"
    -- a label alone with itself
    ∷ showing 5 ("-A &GOTO -A" ∷ []) (("&LINE", "2") ∷ ("&FROM", "2") ∷ []) "OPEN STEPS 5"
    -- up from line 3
    ∷ showing 3 ("" ∷ "&SKIP -2" ∷ []) (("&LINE", "1") ∷ []) "OPEN STEPS 3"
    ∷ showing 3 ("" ∷ "&SKIP -3" ∷ []) (("&LINE", "3") ∷ []) "STOP 10113 LINE 3 WORD 0 LAYER STATEMENT STEPS 3"
    -- typed in small letters, read in capitals
    ∷ printing "" ("&READ VARS &C" ∷ "&PRINT &C" ∷ []) ("red" ∷ []) ("RED" ∷ []) "END 0 STEPS 4"
    -- 64 variables, a 65th, and a 65th after one is set null
    ∷ crowded 64 [] "END 0 STEPS 66"
    ∷ crowded 64 ("&NEW = 1" ∷ []) "STOP 10111 LINE 66 WORD 0 LAYER STORE STEPS 66"
    ∷ crowded 64 ("&AA =" ∷ "&NEW = 1" ∷ []) "END 0 STEPS 68"
    ∷ []

abbrev pub PositionsStand : Type 0
PositionsStand = all_stand positions ≡ true
