-- The store: the value of every name, which names can be set, and what setting one comes to.
use Rattle.std.specs.Prelude.{ℕ, ◌-◌, Bool, true, false, cond, List, [], ◌∷◌, ◌++◌, length, get_or, Some, None, Ok, Err, decimal, Option, Result, nat_le, nat_lt, slice_index_or, slice_set}
use Rattle.std.specs.Fmt.{signed_decimal}
use Rattle.std.specs.List.{remove}
use Rattle.std.specs.Str.{bytes_eq}
use Rattle.text.specs.Search.{first_from}
use Rattle.language.specs.Texts.{Bytes, is_null, fits, most_variables}
use Rattle.language.specs.Faults.{◌>>=◌, ◌>>◌, must}
use Rattle.language.specs.Names.{KeptName, Kind, kind_of}
use Rattle.language.specs.Cores.{Variable, Frame, Core, with_variables, with_arguments}
use Rattle.language.specs.declared.fault.StoreFault.{StoreFault}
use Rattle.language.specs.declared.fault.StoreFault.TheVariants.{ListTooLong, CannotBeSet, TooManyVariables}

-- ordinary variables: where the first stands that bears a name, and its value, null where there is none
abbrev pub bears : Bytes → Variable → Bool
bears n v = bytes_eq v.name n

abbrev pub variable_at : List Variable → Bytes → Option ℕ
variable_at vs n = first_from (bears n) 0 vs

abbrev pub variable : Bytes → Bytes → Variable
variable n t = record { name = n; value = t }

abbrev pub value_at : List Variable → Option ℕ → Bytes
value_at vs None = []
value_at vs (Some i) = (get_or vs i (variable [] [])).value

-- the line of the innermost open call
abbrev pub link_of : List Frame → ℕ
link_of [] = 0
link_of (f ∷ fs) = f.line

abbrev pub kept_value : Core → KeptName → Bytes
kept_value c KeptName.ampersand = 38 ∷ []
kept_value c KeptName.string = c.string
kept_value c KeptName.blank = 32 ∷ []
kept_value c KeptName.coline = decimal c.coline
kept_value c KeptName.depth = decimal (length c.frames)
kept_value c KeptName.from = decimal c.from
kept_value c KeptName.count = decimal (length c.arguments)
kept_value c KeptName.line = decimal c.place
kept_value c KeptName.link = decimal (link_of c.frames)
kept_value c KeptName.code = signed_decimal c.code

abbrev pub value_by : Core → Bytes → Kind → Option Bytes
value_by c n (Kind.kept k) = Some (kept_value c k)
value_by c n Kind.own = Some n
value_by c n Kind.absent = None
value_by c n (Kind.argument j) = Some (slice_index_or c.arguments (j - 1) [])
value_by c n Kind.ordinary = Some (value_at c.variables (variable_at c.variables n))

-- the value of a name; none where the name is not carried
abbrev pub value_of : Core → Bytes → Option Bytes
value_of c n = value_by c n (kind_of n)

abbrev pub settable_by : Core → Kind → Bool
settable_by c (Kind.kept k) = false
settable_by c Kind.own = false
settable_by c Kind.absent = false
settable_by c (Kind.argument j) = nat_le j (length c.arguments)
settable_by c Kind.ordinary = true

-- whether a name can be set
abbrev pub settable : Core → Bytes → Bool
settable c n = settable_by c (kind_of n)

-- a variable that stands is changed, or gives its place back where it becomes null; another wants a place unless it is null
abbrev pub assigned_at : List Variable → Bytes → Bytes → Option ℕ → Result (List Variable) StoreFault
assigned_at vs n t (Some i) = Ok (cond (is_null t) (remove vs i) (slice_set vs i (variable n t)))
assigned_at vs n t None =
    cond (is_null t) (Ok vs) (must (nat_lt (length vs) most_variables) TooManyVariables >> Ok (vs ++ variable n t ∷ []))

abbrev pub assigned : Core → Bytes → Bytes → Result Core StoreFault
assigned c n t = assigned_at c.variables n t (variable_at c.variables n) >>= λ vs. Ok (with_variables c vs)

-- an argument changed, null or not, stays in its list
abbrev pub replaced_argument : Core → ℕ → Bytes → Result Core StoreFault
replaced_argument c j t =
    must (fits (slice_set c.arguments (j - 1) t)) ListTooLong >> Ok (with_arguments c (slice_set c.arguments (j - 1) t))

-- a name of a kind set, where it can be set
abbrev pub put_by : Core → Bytes → Bytes → Kind → Result Core StoreFault
put_by c n t (Kind.kept k) = Err CannotBeSet
put_by c n t Kind.own = Err CannotBeSet
put_by c n t Kind.absent = Err CannotBeSet
put_by c n t (Kind.argument j) = replaced_argument c j t
put_by c n t Kind.ordinary = assigned c n t

-- the core once a name is set to a text
abbrev pub put : Core → Bytes → Bytes → Result Core StoreFault
put c n t = must (settable c n) CannotBeSet >> put_by c n t (kind_of n)
