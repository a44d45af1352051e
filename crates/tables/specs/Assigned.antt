-- A list of variables once one is set, by the name.
use Rattle.std.specs.Prelude.{List, Result}
use Rattle.language.specs.Cores.{Variable}
use Rattle.language.specs.Store.{variable_at, assigned_at}
use Rattle.language.specs.Texts.{Bytes}
use Rattle.language.specs.declared.fault.StoreFault.{StoreFault}

abbrev pub assigned_to : List Variable → Bytes → Bytes → Result (List Variable) StoreFault
assigned_to vs n t = assigned_at vs n t (variable_at vs n)
