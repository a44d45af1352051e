-- The core of a session: all that statements see and change, but for the stack.
use Rattle.std.specs.Prelude.{ℕ, ◌+◌, List, [], ℤ, pos}
use Rattle.text.specs.Words.{words_of}
use Rattle.language.specs.Texts.{Bytes}
use Rattle.language.specs.declared.life.Life.{Life}
use Rattle.language.specs.declared.life.Life.TheVariants.{Running, Ended, Stopped}
use Rattle.language.specs.declared.life.Stop.{Stop}

-- an ordinary variable, never null
pub record Variable : Type 0 where
  pub name : Bytes
  pub value : Bytes

-- an open call: the line of its &CALL, and the arguments that its return brings back
pub record Frame : Type 0 where
  pub line : ℕ
  pub arguments : List Bytes

pub record Core : Type 0 where
  pub script : Bytes
  -- the argument string
  pub string : Bytes
  pub variables : List Variable
  pub arguments : List Bytes
  -- the open calls, the innermost first
  pub frames : List Frame
  -- the environment that plain commands go to; the host system's name is empty
  pub presumed : Bytes
  -- the current line
  pub place : ℕ
  -- the line of the last &GOTO that went
  pub from : ℕ
  -- the line that sent the last command, and its code
  pub coline : ℕ
  pub code : ℤ
  pub life : Life

-- a core with its parts in the order above
abbrev pub core_of :
    Bytes → Bytes → List Variable → List Bytes → List Frame → Bytes → ℕ → ℕ → ℕ → ℤ → Life → Core
core_of t s vs ws fs e p f l z end =
    record {
      script = t;
      string = s;
      variables = vs;
      arguments = ws;
      frames = fs;
      presumed = e;
      place = p;
      from = f;
      coline = l;
      code = z;
      life = end;
    }

-- a new core on a script: at line 1, with the words of the string as its arguments
abbrev pub fresh : Bytes → Bytes → Core
fresh script string = core_of script string [] (words_of string) [] [] 1 0 0 (pos 0) Running

abbrev pub with_variables : Core → List Variable → Core
with_variables c vs =
    core_of c.script c.string vs c.arguments c.frames
    c.presumed c.place c.from c.coline c.code c.life

abbrev pub with_arguments : Core → List Bytes → Core
with_arguments c ws =
    core_of c.script c.string c.variables ws c.frames
    c.presumed c.place c.from c.coline c.code c.life

abbrev pub with_frames : Core → List Frame → Core
with_frames c fs =
    core_of c.script c.string c.variables c.arguments fs
    c.presumed c.place c.from c.coline c.code c.life

-- plain commands go to another environment
abbrev pub presuming : Core → Bytes → Core
presuming c e =
    core_of c.script c.string c.variables c.arguments c.frames
    e c.place c.from c.coline c.code c.life

-- the place is left by a &GOTO
abbrev pub leaving : Core → Core
leaving c =
    core_of c.script c.string c.variables c.arguments c.frames
    c.presumed c.place c.place c.coline c.code c.life

-- the command that this place sent came back with a code
abbrev pub answered : Core → ℤ → Core
answered c z =
    core_of c.script c.string c.variables c.arguments c.frames
    c.presumed c.place c.from c.place z c.life

-- how control goes to a line
abbrev pub go_to : Core → ℕ → Core
go_to c line =
    core_of c.script c.string c.variables c.arguments c.frames
    c.presumed line c.from c.coline c.code c.life

abbrev pub go_on : Core → Core
go_on c = go_to c (c.place + 1)

-- an end alters nothing else
abbrev pub with_life : Core → Life → Core
with_life c end =
    core_of c.script c.string c.variables c.arguments c.frames
    c.presumed c.place c.from c.coline c.code end

abbrev pub exited : Core → ℤ → Core
exited c z = with_life c (Ended z)

abbrev pub stopped : Core → Stop → Core
stopped c s = with_life c (Stopped s)
