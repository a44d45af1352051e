-- The functions: what each gives for its words.
use Rattle.std.specs.Prelude.{ℕ, ◌-◌, cond, ◌&&◌, List, [], ◌∷◌, ◌++◌, length, take, ℤ, pos, negsuc, Some, None, codes, decimal, Option, nat_eq, nat_le, nat_lt, slice_index_or}
use Rattle.std.specs.List.{suffix_len}
use Rattle.text.specs.Numbers.{number_of}
use Rattle.text.specs.Search.{first_from}
use Rattle.text.specs.Words.{blank}
use Rattle.language.specs.Texts.{Bytes, tabled}

pub data Function : Type 0 where
  concat size trans trim pick : Function

abbrev pub functions : List (Bytes × Function)
functions =
    (codes "&CONCAT", concat) ∷ (codes "&CONCATENATION", concat) ∷ (codes "&LENGTH", size) ∷ (codes "&TRANS", trans)
    ∷ (codes "&TRANSLATION", trans) ∷ (codes "&TRIM", trim) ∷ (codes "&WORD", pick) ∷ []

unfoldable pub function_of : Bytes → Option Function
function_of = tabled functions

-- what a function comes to: a text; its words are wrong; there is no such function
pub data Yield : Type 0 where
  gives : Bytes → Yield
  wrong : Yield
  unknown : Yield

-- words run together
abbrev pub concatenated : List Bytes → Bytes
concatenated [] = []
concatenated (w ∷ ws) = w ++ concatenated ws

-- without the blanks at its end
abbrev pub trimmed : Bytes → Bytes
trimmed t = take (length t - suffix_len blank t) t

-- a byte that stands first at a place of `from` becomes the byte at that place of `to`, or a blank; any other stays
abbrev pub exchanged_at : Bytes → ℕ → Option ℕ → ℕ
exchanged_at to b None = b
exchanged_at to b (Some i) = slice_index_or to i 32

abbrev pub translated : Bytes → Bytes → Bytes → Bytes
translated [] from to = []
translated (b ∷ bs) from to = exchanged_at to b (first_from (λ x. nat_eq x b) 0 from) ∷ translated bs from to

-- the last word is the number of one of the words before it; 0 and numbers beyond them give null
abbrev pub chosen : List Bytes → Option ℤ → Yield
chosen ws None = wrong
chosen ws (Some (negsuc n)) = wrong
chosen ws (Some (pos n)) = gives (cond (nat_le 1 n && nat_lt n (length ws)) (slice_index_or ws (n - 1) []) [])

abbrev pub applied : Function → List Bytes → Yield
applied concat ws = gives (concatenated ws)
applied size ws = cond (nat_le (length ws) 1) (gives (decimal (length (slice_index_or ws 0 [])))) wrong
applied trans ws =
    cond (nat_le 1 (length ws) && nat_le (length ws) 3)
    (gives (translated (slice_index_or ws 0 []) (slice_index_or ws 1 []) (slice_index_or ws 2 [])))
    wrong
applied trim ws = cond (nat_le (length ws) 1) (gives (trimmed (slice_index_or ws 0 []))) wrong
applied pick ws = chosen ws (number_of (slice_index_or ws (length ws - 1) []))

abbrev pub applied_by : Option Function → List Bytes → Yield
applied_by None ws = unknown
applied_by (Some f) ws = applied f ws
