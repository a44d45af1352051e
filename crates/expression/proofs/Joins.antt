-- Words run together have room in a text, since the words joined by blanks have.
use Rattle.std.proofs.Common.{◌≡◌, ℕ, zero, suc, ◌+◌, ◌≤◌, Bool, cond, leb, List, [], ◌∷◌, ◌++◌, length, drop, append_assoc, arith, length-append}
use Rattle.std.proofs.lemmas.Bool.{leb-true}
use Rattle.std.proofs.lemmas.Bool.Decides.{nat_tests}
use Rattle.language.specs.Texts.{Bytes, behind_blanks, spaced}
use Rattle.language.specs.Functions.{concatenated}
use Rattle.words.specs.Listed.{listed}
use Rattle.words.proofs.Listings.{listed_fits}
use Rattle.expression.specs.Tails.{words_in}
use Rattle.expression.specs.declared.tail.Tail.{Tail}

behind_size : (ws : List Bytes) → length (concatenated ws) ≤ length (behind_blanks ws)
behind_size [] = omega arith
behind_size (w ∷ ws) = let k = behind_size ws in omega (arith, length-append w (concatenated ws), length-append w (behind_blanks ws))

spaced_size : (ws : List Bytes) → length (concatenated ws) ≤ length (spaced ws)
spaced_size [] = omega arith
spaced_size (w ∷ ws) = let k = behind_size ws in omega (arith, length-append w (concatenated ws), length-append w (behind_blanks ws))

behind_less : (n : ℕ) (ws : List Bytes) → length (concatenated (drop n ws)) ≤ length (concatenated ws)
behind_less zero ws = omega arith
behind_less (suc n) [] = omega arith
behind_less (suc n) (w ∷ ws) = let k = behind_less n ws in omega (arith, length-append w (concatenated ws))

pub joined_room : (t : Tail) → length (concatenated (words_in t)) ≤ 255
unfolding words_in
joined_room t =
    let ws : List Bytes = listed t.words.now in
    omega (arith, leb-true _ _ (listed_fits t.words.now), spaced_size ws, behind_less t.at ws)

-- one word more
pub joined_more : (before after word rest all : Bytes) (ok : Bool) → length all ≤ 255 → before ++ (word ++ rest) ≡ all → ok ≡ leb (length before + length word) 255 → after ≡ cond ok (before ++ word) before → after ++ rest ≡ all
joined_more before after word rest all ok short e fits put = grind (arith, append_assoc, length-append, nat_tests)
