-- Examples: every statement and function, every stop, and what Open and Value refuse.
use Rattle.std.specs.Prelude.{◌≡◌, Bool, true, not, ◌&&◌, List, [], ◌∷◌, ◌++◌, replicate, pos, negsuc, is_some, codes}
use Prim.Native.String.{String}
use Rattle.language.specs.Texts.{Bytes}
use Rattle.language.specs.Names.{kind_of}
use Rattle.language.specs.Cores.{fresh}
use Rattle.language.specs.Sessions.{shown, openable}
use Rattle.language.specs.Trials.{Trial, trial_of, texts, all_stand, printing, showing, issuing, given, setting}

abbrev pub statements : List Trial
statements =
    -- lines that do nothing, and words that are null
    printing "" ("* &DATE" ∷ "-L" ∷ "" ∷ "&Z &Z" ∷ "&Z &PRINT A  &Z   B" ∷ "&TYPE" ∷ []) []
    ("A B" ∷ "" ∷ []) "END 0 STEPS 8"
    -- a printed line is cut
    ∷ trial_of "" ((codes "&PRINT " ++ replicate 131 65) ∷ []) [] [] 9 (replicate 130 65 ∷ []) [] [] "END 0 STEPS 3"
    -- assignment
    ∷ showing 9 ("&A = 007" ∷ "&I = 2" ∷ "&HOME&I = HILL" ∷ "&B = .&HOME&I" ∷ "&I =" ∷ [])
    (("&A", "007") ∷ ("&HOME2", "HILL") ∷ ("&B", ".HILL") ∷ ("&I", "") ∷ []) "END 0 STEPS 7"
    ∷ given "OLD MEN" (texts ("&X = 1" ∷ "&&X = NEW" ∷ "&2 =" ∷ [])) []
    (("&1", "NEW") ∷ ("&2", "") ∷ ("&N", "2") ∷ ("&ARGSTRING", "OLD MEN") ∷ []) "END 0 STEPS 5"
    -- &ARGS
    ∷ showing 9 ("&ARGS A B C" ∷ []) (("&N", "3") ∷ ("&INDEX", "3") ∷ ("&2", "B") ∷ ("&4", "") ∷ []) "END 0 STEPS 3"
    -- &CALL and &RETURN
    ∷ showing 9 ("&CALL -SUB X Y" ∷ "&EXIT 4" ∷ "-SUB &R = &CONCAT OF &1 &2 . &DEPTH . &LINK" ∷ "&RETURN" ∷ [])
    (("&R", "XY.1.2") ∷ ("&N", "0") ∷ ("&DEPTH", "0") ∷ ("&LINK", "0") ∷ ("&LINE", "3") ∷ ("&FROM", "0") ∷ [])
    "END 4 STEPS 5"
    -- commands, &COMMAND, &SUBCOMMAND and &PRESUME
    ∷ issuing (pos 5 ∷ (negsuc 2 ∷ (pos 0 ∷ (pos 7 ∷ []))))
    ("&PRESUME &SUBCOMMAND MAP" ∷ "PLACE  RED 1 2" ∷ "&COMMAND &RC *" ∷ "&SUBCOMMAND ODD" ∷ "&PRESUME" ∷ "HALLO &RC" ∷ [])
    (("MAP", "PLACE RED 1 2") ∷ ("", "5 *") ∷ ("ODD", "") ∷ ("", "HALLO 0") ∷ [])
    (("&RC", "7") ∷ ("&RETCODE", "7") ∷ ("&COLINE", "7") ∷ []) "END 0 STEPS 8"
    -- &EXIT
    ∷ showing 9 ("&EXIT" ∷ []) (("&LINE", "2") ∷ []) "END 0 STEPS 2"
    ∷ showing 9 ("&EXIT -12 AT ONCE" ∷ []) [] "END -12 STEPS 2"
    -- &GOTO: a label from the following line on, or from the top, and a line past the last
    ∷ showing 9 ("&SKIP 1" ∷ "-A &EXIT 1" ∷ "&GOTO -A" ∷ "-A &EXIT 2" ∷ []) (("&FROM", "4") ∷ []) "END 2 STEPS 4"
    ∷ showing 9 ("&SKIP" ∷ "-A &EXIT 1" ∷ "&GOTO -A" ∷ []) [] "END 1 STEPS 4"
    ∷ showing 9 ("-A &GOTO -A" ∷ "-A &EXIT 6" ∷ []) [] "END 6 STEPS 3"
    ∷ showing 9 ("&GOTO 9 NOW" ∷ []) (("&LINE", "9") ∷ ("&LINENUM", "9") ∷ ("&FROM", "2") ∷ []) "END 0 STEPS 3"
    -- &IF with each comparative, with words that are null, and with another &IF
    ∷ showing 99
    ("&IF 1 = 1 &R = &CONCAT OF &R A" ∷ "&IF 1 EQ 2 &R = &CONCAT OF &R B" ∷ "&IF 1 ^= 2 &R = &CONCAT OF &R C"
    ∷ "&IF 1 NE 1 &R = &CONCAT OF &R D" ∷ "&IF 1 < 2 &R = &CONCAT OF &R E" ∷ "&IF 2 LT 2 &R = &CONCAT OF &R F"
    ∷ "&IF 2 ^< 2 &R = &CONCAT OF &R G" ∷ "&IF 1 NL 2 &R = &CONCAT OF &R H" ∷ "&IF 2 > 1 &R = &CONCAT OF &R I"
    ∷ "&IF 2 GT 2 &R = &CONCAT OF &R J" ∷ "&IF 2 ^> 2 &R = &CONCAT OF &R K" ∷ "&IF 3 NG 2 &R = &CONCAT OF &R L"
    ∷ "&IF 2 <= 2 &R = &CONCAT OF &R M" ∷ "&IF 3 LE 2 &R = &CONCAT OF &R N" ∷ "&IF 2 >= 1 &R = &CONCAT OF &R O"
    ∷ "&IF 1 GE 2 &R = &CONCAT OF &R P" ∷ [])
    (("&R", "ACEGIKMO") ∷ []) "END 0 STEPS 18"
    ∷ printing "" ("&IF A &Z = &Z A &PRINT YES" ∷ "&IF 9 > 10 &PRINT NO" ∷ "&IF 9. > 10. &PRINT BYTES" ∷ "&IF A NE" ∷ []) []
    ("YES" ∷ "BYTES" ∷ []) "END 0 STEPS 6"
    ∷ showing 9 ("&IF 1 = 1 &IF A = A &EXIT 3" ∷ []) [] "END 3 STEPS 2"
    -- &READ, and where it waits
    ∷ given "" (texts ("&READ ARGS" ∷ "&READ STRING &S" ∷ "&READ VARS &A * &B" ∷ "&READ VAR &C &D" ∷ "&READ VARS" ∷ []))
    ("one two" ∷ " so  Be it " ∷ "a b c d" ∷ "x" ∷ [])
    (("&N", "2") ∷ ("&2", "TWO") ∷ ("&S", " SO  BE IT ") ∷ ("&A", "A") ∷ ("&B", "C") ∷ ("&C", "X") ∷ ("&D", "") ∷ [])
    "OPEN STEPS 5"
    -- &STACK, at both ends, before what is typed
    ∷ given ""
    (texts ("&STACK FIFO b" ∷ "&STACK LIFO a" ∷ "&STACK" ∷ "&READ VARS &A" ∷ "&READ VARS &B" ∷ "&READ STRING &C"
    ∷ "&READ VARS &D" ∷ []))
    ("typed" ∷ []) (("&A", "A") ∷ ("&B", "B") ∷ ("&C", "") ∷ ("&D", "TYPED") ∷ []) "END 0 STEPS 9"
    -- &SKIP and &TRACE
    ∷ showing 9 ("&SKIP 1 LINE" ∷ "&EXIT 1" ∷ "&SKIP 0" ∷ "&TRACE OFF" ∷ "&TRACE *" ∷ "&SKIP 2147483647" ∷ [])
    (("&LINE", "2147483655") ∷ []) "END 0 STEPS 7"
    -- other kept variables, names that are their own values, and names that are neither
    ∷ given " A  B" (texts ("&X = &CONCAT OF & &BLANK &LINE &LOOP &TRIM" ∷ [])) []
    (("&ARGSTRING", " A  B") ∷ ("&X", "& 2&LOOP&TRIM") ∷ ("&COLINE", "0") ∷ ("&01", "") ∷ ("&99999999999999999999", "") ∷ [])
    "END 0 STEPS 3"
    ∷ []

abbrev pub function_examples : List Trial
function_examples =
    showing 9 ("&A = &CONCAT OF R 1 . RED" ∷ "&B = &CONCATENATION OF" ∷ []) (("&A", "R1.RED") ∷ ("&B", "") ∷ [])
    "END 0 STEPS 4"
    ∷ showing 9 ("&A = &LENGTH OF ABCD" ∷ "&B = &LENGTH OF" ∷ "&C = 10 - 3 + &LENGTH OF ABCD" ∷ [])
    (("&A", "4") ∷ ("&B", "0") ∷ ("&C", "11") ∷ []) "END 0 STEPS 5"
    ∷ showing 9 ("&A = &TRANS OF BANANA AN 12" ∷ "&B = &TRANSLATION OF ABCA AC X" ∷ "&C = &TRANS OF ABC" ∷ [])
    (("&A", "B12121") ∷ ("&B", "XB X") ∷ ("&C", "ABC") ∷ []) "END 0 STEPS 5"
    ∷ showing 9 ("&B = &CONCAT OF &BLANK A &BLANK &BLANK" ∷ "&A = &TRIM OF &B" ∷ "&C = &TRIM OF" ∷ [])
    (("&B", " A  ") ∷ ("&A", " A") ∷ ("&C", "") ∷ []) "END 0 STEPS 5"
    ∷ showing 9 ("&A = &WORD OF LIGHT DEEP HEAVY 2" ∷ "&B = &WORD OF LIGHT 0" ∷ "&C = &WORD OF LIGHT 2" ∷ [])
    (("&A", "DEEP") ∷ ("&B", "") ∷ ("&C", "") ∷ []) "END 0 STEPS 5"
    ∷ []

-- lines that stop alike, each as the second of a script
abbrev pub all_stop : String → List String → List Trial
all_stop report [] = []
all_stop report (l ∷ ls) = showing 9 (l ∷ []) [] report ∷ all_stop report ls

-- lines behind one that sets &X to 200 bytes
abbrev pub behind_long : List Bytes → String → Trial
behind_long ls report = given "" ((codes "&X = " ++ replicate 200 65) ∷ ls) [] [] report

-- the words: the leftmost fault, and within a word the first from the right
abbrev pub word_stops : List Trial
word_stops =
    all_stop "STOP 10101 LINE 2 WORD 3 LAYER WORDS STEPS 2"
    ("&PRINT A &ABCDEFGHIJKLMNOPQRSTUVWXYZ123456" ∷ "&READ VARS &ABCDEFGHIJKLMNOPQRSTUVWXYZ123456 &DATE"
    ∷ "-L &Z &ABCDEFGHIJKLMNOPQRSTUVWXYZ123456 = 1" ∷ [])
    ++ all_stop "STOP 10103 LINE 2 WORD 3 LAYER WORDS STEPS 2"
    ("&IF A &DATE = 1" ∷ "-L * &TIME" ∷ "&PRINT A &0&FILENAME" ∷ [])
    ++ all_stop "STOP 10103 LINE 2 WORD 7 LAYER WORDS STEPS 2" ("&RC = 1 + A + &DATE" ∷ [])
    ++ all_stop "END 0 STEPS 3" ("* &DATE" ∷ "&IF A = B &DATE" ∷ "&ABCDEFGHIJKLMNOPQRSTUVWXYZ12345 = &NONE" ∷ [])
    ++ behind_long ((codes "&PRINT " ++ replicate 56 66 ++ codes "&X") ∷ []) "STOP 10102 LINE 3 WORD 2 LAYER WORDS STEPS 3"
    ∷ []

-- the statement, by rising number
abbrev pub statement_stops : List Trial
statement_stops =
    behind_long ((codes "&PRINT " ++ replicate 48 66 ++ codes " &X") ∷ []) "STOP 10102 LINE 3 WORD 0 LAYER STATEMENT STEPS 3"
    ∷ behind_long (codes "&IF &X = &X" ∷ []) "STOP 10102 LINE 3 WORD 0 LAYER STATEMENT STEPS 3"
    ∷ all_stop "STOP 10104 LINE 2 WORD 0 LAYER STATEMENT STEPS 2"
    ("-A -B" ∷ "-A * NOTE" ∷ "&IF 1 = 1 -A" ∷ "&IF A" ∷ "&IF A IS B" ∷ "&A = 1 2" ∷ "&A = 1 + 2 3"
    ∷ "&A = 1 &LENGTH OF A" ∷ [])
    ++ all_stop "STOP 10105 LINE 2 WORD 0 LAYER STATEMENT STEPS 2" ("&LOOP 3" ∷ "& A" ∷ "&LENGTH OF A" ∷ "&&BLANK= 1" ∷ [])
    ++ all_stop "STOP 10106 LINE 2 WORD 0 LAYER STATEMENT STEPS 2"
    ("&GOTO" ∷ "&CALL A" ∷ "&GOTO 2147483648" ∷ "&COMMAND" ∷ "&SUBCOMMAND" ∷ "&EXIT A" ∷ "&SKIP 1." ∷ "&PRESUME A"
    ∷ "&PRESUME &SUBCOMMAND" ∷ "&PRESUME &COMMAND A" ∷ "&TRACE ON" ∷ "&TRACE OFF *" ∷ "&READ" ∷ "&READ 1" ∷ "&READ *"
    ∷ "&READ ARGS A" ∷ "&READ STRING *" ∷ "&READ STRING &A &B" ∷ "&READ VARS &N B" ∷ "&A = 1 +" ∷ "&A = 1 + B" ∷ "&RC = 1 + A"
    ∷ "&A = 1 + &TRIM OF B" ∷ "&A = &LENGTH OF A B" ∷ "&A = &TRIM OF A B" ∷ "&A = &TRANS OF" ∷ "&A = &TRANS OF A B C D"
    ∷ "&A = &WORD OF" ∷ "&A = &WORD OF A B" ∷ "&A = &WORD OF A -1" ∷ "&N = A + F OF B" ∷ [])
    ++ all_stop "STOP 10107 LINE 2 WORD 0 LAYER STATEMENT STEPS 2" ("&GOTO -A" ∷ "&CALL -5" ∷ "-AB &GOTO -A" ∷ [])
    ++ all_stop "STOP 10109 LINE 2 WORD 0 LAYER STATEMENT STEPS 2"
    ("&A = -2147483648 - 1" ∷ "&A = 2147483647 + 1 - 1" ∷ "&N = 2147483647 + 1 + F OF A" ∷ [])
    ++ all_stop "STOP 10110 LINE 2 WORD 0 LAYER STATEMENT STEPS 2" ("&A = F OF A" ∷ "&N = 1 + F OF A" ∷ "&A = OF OF OF" ∷ [])
    ++ all_stop "STOP 10113 LINE 2 WORD 0 LAYER STATEMENT STEPS 2" ("&GOTO 0" ∷ "&CALL +0" ∷ "&SKIP -2" ∷ [])
    ++ showing 99 ("&CALL 2" ∷ []) (("&DEPTH", "8") ∷ []) "STOP 10114 LINE 2 WORD 0 LAYER STATEMENT STEPS 10"
    ∷ all_stop "STOP 10115 LINE 2 WORD 0 LAYER STATEMENT STEPS 2" ("&RETURN" ∷ "&RETURN 1" ∷ [])

-- the store; what &READ has set by then stays set
abbrev pub store_stops : List Trial
store_stops =
    behind_long (codes "&ARGS &X B" ∷ (codes "&Y = " ++ replicate 55 66) ∷ codes "&2 = &Y" ∷ [])
    "STOP 10102 LINE 5 WORD 0 LAYER STORE STEPS 5"
    ∷ all_stop "STOP 10108 LINE 2 WORD 0 LAYER STORE STEPS 2"
    ("&RC = 1" ∷ "&IF = 1" ∷ "&DATE = 1" ∷ "&1 = A" ∷ "& = A" ∷ "&READ VARS &A &N" ∷ "&READ STRING &1" ∷ [])
    ++ given "" (setting 64 ++ texts ("&READ VARS &AA &NEW" ∷ [])) ("x y" ∷ []) (("&AA", "X") ∷ ("&NEW", "") ∷ [])
    "STOP 10111 LINE 66 WORD 0 LAYER STORE STEPS 66"
    ∷ showing 99 ("&STACK A" ∷ "&SKIP -1" ∷ []) [] "STOP 10112 LINE 2 WORD 0 LAYER STORE STEPS 66"
    ∷ []

-- strings that Open takes, and others
abbrev pub openings : Bool
openings =
    openable [] && openable (replicate 255 126) && not (openable (replicate 256 65)) && not (openable (31 ∷ []))
    && not (openable (127 ∷ []))

-- names of which Value shows something in a new session, and others
unfoldable pub asked : Bytes → Bool
unfolding kind_of
asked n = is_some (shown (fresh (codes "&TRACE") []) n)

abbrev pub askings : Bool
askings =
    asked (codes "&") && asked (codes "&A B&") && asked (38 ∷ replicate 31 65) && not (asked (38 ∷ replicate 32 65))
    && not (asked []) && not (asked (codes "A")) && not (asked (codes "&TIME")) && not (asked (38 ∷ (10 ∷ [])))

abbrev pub StatementsStand : Type 0
StatementsStand = all_stand statements ≡ true

abbrev pub FunctionsStand : Type 0
FunctionsStand = all_stand function_examples ≡ true

abbrev pub StopsStand : Type 0
StopsStand = all_stand (word_stops ++ (statement_stops ++ store_stops)) ≡ true

abbrev pub RefusalsStand : Type 0
RefusalsStand = openings && askings ≡ true
