-- What lies in memory and the list of words that it stands for, from one to the other.
use Rattle.std.proofs.Common.{◌≡◌, ℕ, zero, suc, ◌+◌, ◌<◌, ◌≤◌, true, false, List, [], ◌∷◌, ◌++◌, map, length, get_or, take, drop, set, sym, refl, ap, ◌∙◌, append_assoc, append-nil, add-one, arith}
use Rattle.std.specs.List.{sum_by}
use Rattle.std.specs.Str.{bytes_eq}
use Rattle.std.proofs.lemmas.Slice.Eq.{bytes_eq-Decides}
use Rattle.std.proofs.lemmas.List.{take_at, drop_at, take-append-drop, drop_more, length-append, length-drop, take_more, set_split}
use Rattle.std.proofs.lemmas.List.Sums.{sum_by-cons}
use Rattle.std.proofs.lemmas.Bool.{and_parts, and_from, le-leb, lt-leb}
use Rattle.language.specs.Texts.{Bytes, behind_blanks, spaced, fits}
use Rattle.words.specs.Layout.{cut_by, laid}

-- what was joined is cut as it was
cut_joined : (ws : List Bytes) → cut_by (map length ws) (behind_blanks ws) ≡ ws
cut_joined [] = refl
cut_joined (w ∷ ws) = rw (take_at w (behind_blanks ws) (length w) refl, drop_at w (behind_blanks ws) (length w) refl) (ap (λ (vs : List Bytes). w ∷ vs) (cut_joined ws))

-- the lengths and the bytes are those of the words
abbrev pub Lies : List ℕ → Bytes → List Bytes → Type 0
Lies ns t ws = (ns ≡ map length ws) × (t ≡ behind_blanks ws)

-- from the words to what lies in memory
module _ (ns : List ℕ) (t : Bytes) (ws : List Bytes) (lies : Lies ns t ws) where
  pub cut_is : cut_by ns t ≡ ws
  cut_is = rw (lies.0, lies.1) (cut_joined ws)

  pub laid_is : laid ns t ≡ true
  unfolding laid
  laid_is =
      rw cut_is
      (and_from (bytes_eq ns (map length ws)) (bytes_eq t (behind_blanks ws)) ((bytes_eq-Decides ns (map length ws)).1 lies.0) ((bytes_eq-Decides t (behind_blanks ws)).1 lies.1))

-- and back
pub cut_lies : (ns : List ℕ) (t : Bytes) → laid ns t ≡ true → Lies ns t (cut_by ns t)
unfolding laid
cut_lies ns t h =
    let both = and_parts (bytes_eq ns (map length (cut_by ns t))) (bytes_eq t (behind_blanks (cut_by ns t))) h in
    ((bytes_eq-Decides ns (map length (cut_by ns t))).0 both.0, (bytes_eq-Decides t (behind_blanks (cut_by ns t))).0 both.1)

pub behind-append : (vs ws : List Bytes) → behind_blanks (vs ++ ws) ≡ behind_blanks vs ++ behind_blanks ws
behind-append [] ws = refl
behind-append (v ∷ vs) ws = ap (λ (bs : Bytes). 32 ∷ bs) (ap (λ (bs : Bytes). v ++ bs) (behind-append vs ws) ∙ sym (append_assoc v (behind_blanks vs) (behind_blanks ws)))

-- the joined words follow the first blank
behind_first : (ws : List Bytes) → drop 1 (behind_blanks ws) ≡ spaced ws
behind_first [] = refl
behind_first (w ∷ ws) = refl

pub behind-push : (ws : List Bytes) (w : Bytes) → behind_blanks (ws ++ w ∷ []) ≡ behind_blanks ws ++ 32 ∷ w
behind-push ws w = behind-append ws (w ∷ []) ∙ rw append-nil

module _ (ws : List Bytes) (i : ℕ) where
  pub behind_split : behind_blanks ws ≡ behind_blanks (take i ws) ++ behind_blanks (drop i ws)
  behind_split = ap behind_blanks (sym (take-append-drop i ws)) ∙ behind-append (take i ws) (drop i ws)

  pub behind-drop : (a : ℕ) → a ≡ length (behind_blanks (take i ws)) → drop a (behind_blanks ws) ≡ behind_blanks (drop i ws)
  behind-drop a e = ap (drop a) behind_split ∙ drop_at (behind_blanks (take i ws)) (behind_blanks (drop i ws)) a (sym e)

  pub behind_le : length (behind_blanks (take i ws)) ≤ length (behind_blanks ws)
  behind_le = omega (arith, ap length behind_split, length-append (behind_blanks (take i ws)) (behind_blanks (drop i ws)))

  pub behind_more : i < length ws → length (behind_blanks (take (i + 1) ws)) ≡ length (behind_blanks (take i ws)) + length (get_or ws i []) + 1
  behind_more h =
      let e = ap (λ (vs : List Bytes). length (behind_blanks vs)) (take_more ws i [] h) in
      let q = ap length (behind-append (take i ws) (get_or ws i [] ∷ [])) in
      let p = length-append (behind_blanks (take i ws)) (behind_blanks (get_or ws i [] ∷ [])) in
      let r = length-append (get_or ws i []) [] in
      omega arith

  -- up to the blank in front of a word
  pub behind_before : (a : ℕ) → i < length ws → a ≡ length (behind_blanks (take i ws)) → take (a + 1) (behind_blanks ws) ≡ behind_blanks (take i ws) ++ 32 ∷ []
  behind_before a h e =
      let front : Bytes = behind_blanks (take i ws) in
      let back : Bytes = get_or ws i [] ++ behind_blanks (drop (i + 1) ws) in
      let n : length (front ++ 32 ∷ []) ≡ a + 1 = omega (arith, length-append front (32 ∷ [])) in
      ap (take (a + 1)) (behind_split ∙ ap (λ (vs : List Bytes). front ++ behind_blanks vs) (drop_more ws i [] h) ∙ sym (append_assoc front (32 ∷ []) back))
      ∙ take_at (front ++ 32 ∷ []) back (a + 1) n

  pub behind-set : (w : Bytes) → i < length ws → behind_blanks (set ws i w) ≡ behind_blanks (take i ws) ++ 32 ∷ (w ++ behind_blanks (drop (i + 1) ws))
  behind-set w h = rw (set_split ws i w h, behind-append, add-one)

-- with the blank in front of the first, the bytes are one more than those of the joined words
pub fits_by : (ws : List Bytes) → length (behind_blanks ws) ≤ 256 → fits ws ≡ true
fits_by ws h = le-leb _ _ (omega (arith, ap length (behind_first ws), length-drop 1 (behind_blanks ws)))

pub full_by : (ws : List Bytes) → 256 < length (behind_blanks ws) → fits ws ≡ false
full_by ws h = lt-leb _ _ (omega (arith, ap length (behind_first ws), length-drop 1 (behind_blanks ws)))

-- each word takes its length and its blank
pub size_is : (ws : List Bytes) → sum_by (λ n. n + 1) (map length ws) ≡ length (behind_blanks ws)
size_is [] = refl
size_is (w ∷ ws) =
    sum_by-cons (λ n. n + 1) (length w) (map length ws)
    ∙ omega (arith, size_is ws, length-append w (behind_blanks ws))

-- each word takes a byte at the least
pub behind_count : (ws : List Bytes) → length ws ≤ length (behind_blanks ws)
behind_count [] = omega arith
behind_count (w ∷ ws) = omega (arith, behind_count ws, length-append w (behind_blanks ws))

-- a word, null past the end: its length, and where it lies
pub length_at : (ws : List Bytes) (i : ℕ) → get_or (map length ws) i 0 ≡ length (get_or ws i [])
length_at [] i = refl
length_at (w ∷ ws) zero = refl
length_at (w ∷ ws) (suc i) = length_at ws i

pub word_first : (ws : List Bytes) (i : ℕ) → take (length (get_or ws i [])) (spaced (drop i ws)) ≡ get_or ws i []
word_first [] i = refl
word_first (w ∷ ws) zero = take_at w (behind_blanks ws) (length w) refl
word_first (w ∷ ws) (suc i) = word_first ws i
