-- What a function comes to, as the result of a call.
use Rattle.std.specs.Prelude.{Ok, Err, Result}
use Rattle.language.specs.Texts.{Bytes}
use Rattle.language.specs.Functions.{Yield}
use Rattle.language.specs.declared.fault.StatementFault as statement
use Rattle.expression.specs.declared.fault.CallFault.{CallFault}
use Rattle.expression.specs.declared.fault.CallFault.TheVariants.{WrongWord, UnknownFunction}

abbrev pub outcome_of : Yield → Result Bytes CallFault
outcome_of (Yield.gives t) = Ok t
outcome_of Yield.wrong = Err WrongWord
outcome_of Yield.unknown = Err UnknownFunction

-- the fault of the statement
abbrev pub fault_of : CallFault → statement.StatementFault
fault_of WrongWord = statement.TheVariants.WrongWord
fault_of UnknownFunction = statement.TheVariants.UnknownFunction

-- what is judged, with the fault of the statement
abbrev pub stated : {A : Type 0} → Result A CallFault → Result A statement.StatementFault
stated (Ok a) = Ok a
stated (Err f) = Err (fault_of f)
