-- Numeric words: one or more digits after at most one sign, with a value that fits 32 bits.
use Rattle.std.specs.Prelude.{ℕ, ◌+◌, ◌-◌, ◌*◌, Bool, false, cond, ◌&&◌, ◌||◌, List, [], ◌∷◌, length, ℤ, pos, negsuc, neg_ℤ, Some, None, Option, ◌==◌, int_le, nat_le}
use Rattle.std.specs.Char.{is_ascii_digit}

abbrev pub minus : ℕ → Bool
minus b = b == 45

abbrev pub sign : ℕ → Bool
sign b = b == 43 || minus b

-- whether a word starts with a minus sign
abbrev pub negative : List ℕ → Bool
negative [] = false
negative (b ∷ bs) = minus b

-- what follows the sign, where there is one
abbrev pub after_sign : List ℕ → List ℕ
after_sign [] = []
after_sign (b ∷ bs) = cond (sign b) bs (b ∷ bs)

-- the number that digits write, after the number so far; none where a byte is no digit
abbrev pub digits_after : ℕ → List ℕ → Option ℕ
digits_after n [] = Some n
digits_after n (b ∷ bs) = cond (is_ascii_digit b) (digits_after (n * 10 + (b - 48)) bs) None

-- one or more digits
abbrev pub magnitude_of : List ℕ → Option ℕ
magnitude_of ds = cond (length ds == 0) None (digits_after 0 ds)

abbrev pub signed_by : Bool → Option ℕ → Option ℤ
signed_by minus None = None
signed_by minus (Some n) = Some (cond minus (neg_ℤ (pos n)) (pos n))

-- the value of one or more digits after at most one sign, however long
abbrev pub integer_of : List ℕ → Option ℤ
integer_of w = signed_by (negative w) (magnitude_of (after_sign w))

-- the numbers from -2,147,483,648 to 2,147,483,647
abbrev pub in_range : ℤ → Bool
in_range z = int_le (negsuc 2147483647) z && int_le z (pos 2147483647)

abbrev pub ranged : Option ℤ → Option ℤ
ranged None = None
ranged (Some z) = cond (in_range z) (Some z) None

-- the value of a numeric word; none where the word is not numeric
abbrev pub number_of : List ℕ → Option ℤ
number_of w = ranged (integer_of w)

-- what a reader of digits needs to know of numbers that are too large: nothing
abbrev pub capped : Option ℕ → Option ℕ
capped None = None
capped (Some n) = cond (nat_le n 2147483648) (Some n) None
