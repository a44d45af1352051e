-- Names of a switch.
use Rattle.std.specs.Prelude.{ℕ, Bool, cond, ◌&&◌, List, length, Some, None, Option, nat_le}
use Rattle.text.specs.Bytes.{all_within}

-- one to eight bytes from 33 to 126
abbrev pub is_name : List ℕ → Bool
is_name bytes = (nat_le 1 (length bytes) && nat_le (length bytes) 8) && all_within 33 126 bytes

-- the number with which bytes are refused as a name, or none
abbrev pub name_refusal : List ℕ → Option ℕ
name_refusal bytes = cond (is_name bytes) None (Some 16)
