-- The words of a line, joined by single blanks, are no longer than the line.
use Rattle.std.proofs.Common.{◌≡◌, ◌+◌, ◌≤◌, Bool, true, false, cond, List, [], ◌∷◌, ◌++◌, length, ap, ◌∙◌, append_assoc, arith, length-append}
use Rattle.text.specs.Words.{blank, close, words_after, words_of}
use Rattle.language.specs.Texts.{Bytes, behind_blanks, fits}
use Rattle.words.proofs.Layouts.{behind-append, fits_by}

closed_size : (w : Bytes) (ws : List Bytes) → length (behind_blanks (close w ws)) ≤ length w + 1 + length (behind_blanks ws)
closed_size [] ws = omega arith
closed_size (b ∷ bs) ws = omega (arith, length-append (b ∷ bs) (behind_blanks ws))

after_size : (w line : Bytes) → length (behind_blanks (words_after w line)) ≤ length w + length line + 1
after_size w [] = omega (arith, closed_size w [])
after_size w (b ∷ bs) =
    elim (blank b) as (λ t. length (behind_blanks (cond t (close w (words_after [] bs)) (words_after (w ++ b ∷ []) bs))) ≤ length w + length (b ∷ bs) + 1)
    [ true ↦ omega (arith, closed_size w (words_after [] bs), after_size [] bs) | false ↦ omega (arith, after_size (w ++ b ∷ []) bs, length-append w (b ∷ [])) ]

module _ (line : Bytes) (short : length line ≤ 255) (vs : List Bytes) (word : Bytes) (more : List Bytes) (e : vs ++ word ∷ more ≡ words_of line) where
  split : vs ++ word ∷ [] ++ more ≡ words_of line
  split = append_assoc vs (word ∷ []) more ∙ e

  pub word_fits : fits (vs ++ word ∷ []) ≡ true
  word_fits =
      fits_by (vs ++ word ∷ []) (omega (arith, after_size [] line, ap (λ (ws : List Bytes). length (behind_blanks ws)) split, ap length (behind-append (vs ++ word ∷ []) more), length-append (behind_blanks (vs ++ word ∷ [])) (behind_blanks more)))

  -- one word more, which is never refused
  pub word_more : (ok : Bool) (new : List Bytes) → ok ≡ fits (vs ++ word ∷ []) → new ≡ cond ok (vs ++ word ∷ []) vs → new ++ more ≡ words_of line
  word_more ok new a h =
      ap (λ (ws : List Bytes). ws ++ more) (h ∙ ap (λ (t : Bool). cond t (vs ++ word ∷ []) vs) (a ∙ word_fits)) ∙ split
