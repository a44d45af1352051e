-- Faults: their numbers, the layers that raise them, and how the first of several is found.
use Rattle.std.specs.Prelude.{ℕ, Bool, true, false, Ok, Err, codes, Result}
use Rattle.language.specs.Texts.{Bytes}
use Rattle.language.specs.declared.fault.WordFault.{WordFault}
use Rattle.language.specs.declared.fault.WordFault.TheVariants.{NameTooLong, WordTooLong, NotCarried}
use Rattle.language.specs.declared.fault.StatementFault.{StatementFault}
use Rattle.language.specs.declared.fault.StatementFault.TheVariants.{TooLong, Malformed, NoControlWord, WrongWord}
use Rattle.language.specs.declared.fault.StatementFault.TheVariants.{NoSuchLabel, OutOfRange, UnknownFunction}
use Rattle.language.specs.declared.fault.StatementFault.TheVariants.{LineBelowOne, TooManyCalls, NoOpenCall}
use Rattle.language.specs.declared.fault.StoreFault.{StoreFault}
use Rattle.language.specs.declared.fault.StoreFault.TheVariants.{ListTooLong, CannotBeSet, TooManyVariables, TooManyLines}
use Rattle.language.specs.declared.fault.Cause.{Cause}
use Rattle.language.specs.declared.fault.Cause.TheVariants.{Words, Statement, Store}
use Rattle.language.specs.declared.life.Stop.{Stop}

abbrev pub word_number : WordFault → ℕ
word_number NameTooLong = 10101
word_number WordTooLong = 10102
word_number NotCarried = 10103

abbrev pub statement_number : StatementFault → ℕ
statement_number TooLong = 10102
statement_number Malformed = 10104
statement_number NoControlWord = 10105
statement_number WrongWord = 10106
statement_number NoSuchLabel = 10107
statement_number OutOfRange = 10109
statement_number UnknownFunction = 10110
statement_number LineBelowOne = 10113
statement_number TooManyCalls = 10114
statement_number NoOpenCall = 10115

abbrev pub store_number : StoreFault → ℕ
store_number ListTooLong = 10102
store_number CannotBeSet = 10108
store_number TooManyVariables = 10111
store_number TooManyLines = 10112

abbrev pub cause_number : Cause → ℕ
cause_number (Words f) = word_number f
cause_number (Statement f) = statement_number f
cause_number (Store f) = store_number f

abbrev pub layer_name : Cause → Bytes
layer_name (Words f) = codes "WORDS"
layer_name (Statement f) = codes "STATEMENT"
layer_name (Store f) = codes "STORE"

-- what is judged in turn: the first fault is the one that counts
infixl 20 ◌>>=◌
abbrev pub ◌>>=◌ : {A B F : Type 0} → Result A F → (A → Result B F) → Result B F
Ok a >>= next = next a
Err f >>= next = Err f

infixl 20 ◌>>◌
abbrev pub ◌>>◌ : {A B F : Type 0} → Result A F → Result B F → Result B F
Ok a >> next = next
Err f >> next = Err f

-- the test holds, or there is this fault
abbrev pub must : {F : Type 0} → Bool → F → Result (Unit {0}) F
must true f = Ok tt
must false f = Err f

-- a fault of the statement's layer, and of the store's
abbrev pub by_statement : {A : Type 0} → Result A StatementFault → Result A Cause
by_statement (Ok a) = Ok a
by_statement (Err f) = Err (Statement f)

abbrev pub by_store : {A : Type 0} → Result A StoreFault → Result A Cause
by_store (Ok a) = Ok a
by_store (Err f) = Err (Store f)

-- on a line: a fault in the word of a number, and one that names no word
abbrev pub in_word : {A : Type 0} → ℕ → ℕ → Result A WordFault → Result A Stop
in_word line word (Ok a) = Ok a
in_word line word (Err f) = Err (record { cause = Words f; line = line; word = word })

abbrev pub in_line : {A : Type 0} → ℕ → Result A Cause → Result A Stop
in_line line (Ok a) = Ok a
in_line line (Err f) = Err (record { cause = f; line = line; word = 0 })

-- what a call comes to that answers nothing but a fault, and leaves something
abbrev pub giving : {A F : Type 0} → Result (Unit {0}) F → A → Result A F
giving (Ok x) a = Ok a
giving (Err f) a = Err f
