-- What the program tells a person of each refusal of Check, by its number.
use Rattle.std.specs.Prelude.{ℕ, cond, List, [], codes, ◌==◌}

abbrev pub refusal_meaning : ℕ → List ℕ
refusal_meaning n =
    cond (n == 1) (codes "a script has at most 65,535 bytes; make it shorter")
    (cond (n == 2) (codes "the line has a byte that is not from 32 to 126; write it in blanks and plain ASCII")
    (cond (n == 3) (codes "a line has at most 255 bytes; break it up")
    (cond (n == 4) (codes "a script has at most 1,024 lines; take some out")
    (cond (n == 5) (codes "the first word of the first line must be &TRACE; put it there")
    []))))
