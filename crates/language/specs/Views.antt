-- What the enums of the code stand for: names and the words of the tables.
use Rattle.language.specs.Names.{KeptName, Kind}
use Rattle.language.specs.Conditions.{Comparative}
use Rattle.language.specs.Functions.{Function}
use Rattle.language.specs.Orders.{Order, Control}
use Rattle.language.specs.Reads.{Manner}
use Rattle.language.specs.declared.name as names
use Rattle.language.specs.declared.keyword as keywords

abbrev pub kept_seen : names.KeptName.KeptName → KeptName
kept_seen names.KeptName.TheVariants.Ampersand = KeptName.ampersand
kept_seen names.KeptName.TheVariants.ArgumentString = KeptName.string
kept_seen names.KeptName.TheVariants.Blank = KeptName.blank
kept_seen names.KeptName.TheVariants.CommandLine = KeptName.coline
kept_seen names.KeptName.TheVariants.Depth = KeptName.depth
kept_seen names.KeptName.TheVariants.From = KeptName.from
kept_seen names.KeptName.TheVariants.Count = KeptName.count
kept_seen names.KeptName.TheVariants.Place = KeptName.line
kept_seen names.KeptName.TheVariants.Link = KeptName.link
kept_seen names.KeptName.TheVariants.Code = KeptName.code

abbrev pub kind_seen : names.Kind.Kind → Kind
kind_seen (names.Kind.TheVariants.Kept k) = Kind.kept (kept_seen k)
kind_seen names.Kind.TheVariants.Own = Kind.own
kind_seen names.Kind.TheVariants.Absent = Kind.absent
kind_seen (names.Kind.TheVariants.Argument j) = Kind.argument j
kind_seen names.Kind.TheVariants.Ordinary = Kind.ordinary

abbrev pub function_seen : keywords.Function.Function → Function
function_seen keywords.Function.TheVariants.Concat = Function.concat
function_seen keywords.Function.TheVariants.Length = Function.size
function_seen keywords.Function.TheVariants.Trans = Function.trans
function_seen keywords.Function.TheVariants.Trim = Function.trim
function_seen keywords.Function.TheVariants.Word = Function.pick

abbrev pub comparative_seen : keywords.Comparative.Comparative → Comparative
comparative_seen keywords.Comparative.TheVariants.Equal = Comparative.equal
comparative_seen keywords.Comparative.TheVariants.Unequal = Comparative.unequal
comparative_seen keywords.Comparative.TheVariants.Less = Comparative.less
comparative_seen keywords.Comparative.TheVariants.NotLess = Comparative.not_less
comparative_seen keywords.Comparative.TheVariants.More = Comparative.more
comparative_seen keywords.Comparative.TheVariants.NotMore = Comparative.not_more

abbrev pub manner_seen : keywords.Manner.Manner → Manner
manner_seen keywords.Manner.TheVariants.Args = Manner.args
manner_seen keywords.Manner.TheVariants.String = Manner.string
manner_seen keywords.Manner.TheVariants.Vars = Manner.vars

abbrev pub order_seen : keywords.Order.Order → Order
order_seen keywords.Order.TheVariants.Args = Order.args
order_seen keywords.Order.TheVariants.Call = Order.call
order_seen keywords.Order.TheVariants.Command = Order.command
order_seen keywords.Order.TheVariants.Exit = Order.exit
order_seen keywords.Order.TheVariants.Goto = Order.goto
order_seen keywords.Order.TheVariants.Presume = Order.presume
order_seen keywords.Order.TheVariants.Print = Order.print
order_seen keywords.Order.TheVariants.Return = Order.return
order_seen keywords.Order.TheVariants.Skip = Order.skip
order_seen keywords.Order.TheVariants.Stack = Order.stack
order_seen keywords.Order.TheVariants.Subcommand = Order.subcommand
order_seen keywords.Order.TheVariants.Trace = Order.trace

abbrev pub control_seen : keywords.Control.Control → Control
control_seen keywords.Control.TheVariants.If = Control.whether
control_seen keywords.Control.TheVariants.Read = Control.read
control_seen (keywords.Control.TheVariants.Obeys o) = Control.obeys (order_seen o)
