-- Words gathered one at a time are the words gathered.
use Rattle.std.proofs.Common.{◌≡◌, ℕ, ◌+◌, ◌≤◌, true, false, cond, eqb, List, [], ◌∷◌, ◌++◌, length, Some, None, Ok, Err, Option, Result, sym, refl, ap, ◌∙◌, ⊎_elim, append_assoc, arith, length-append}
use Rattle.std.specs.List.{list_any}
use Rattle.std.specs.Option.{ok_or, option_map}
use Rattle.std.proofs.lemmas.List.{append-nil}
use Rattle.std.proofs.lemmas.Bool.{cases_Bool, leb-false, lt-leb}
use Rattle.text.specs.Words.{close}
use Rattle.language.specs.Cores.{Core}
use Rattle.language.specs.Faults.{◌>>=◌, by_statement, in_line}
use Rattle.language.specs.Texts.{Bytes, spaced, behind_blanks, fits}
use Rattle.language.specs.Words.{Word, substituted, word_of, words_in, gathered}
use Rattle.language.specs.declared.fault.StatementFault.TheVariants.{TooLong}
use Rattle.language.specs.declared.life.Stop.{Stop}
use Rattle.words.specs.Listed.{listed}
use Rattle.words.specs.declared.words.Words.{Words}
use Rattle.substitution.specs.Gathering.{grown, grown_all, grown_by, taken_into, words_into, listed_of, behind}

-- a word without an ampersand stands as it is
pub unmarked : (c : Core) (left : ℕ) (w : Bytes) → list_any (λ b. eqb b 38) w ≡ false → substituted c left w ≡ Ok w
unmarked c left [] h = refl
unmarked c left (b ∷ bs) h =
    let e : eqb b 38 ≡ false = grind arith in
    let k : list_any (λ x. eqb x 38) bs ≡ false = rw e at h in
    rw (unmarked c (left + 1) bs k, e)

-- a word that becomes null drops out
closed : (o : Option (List Bytes)) (t : Bytes) (ts : List Bytes) → grown_all (grown_by o t) ts ≡ grown_all o (close t ts)
closed o [] ts = refl
closed o (b ∷ bs) ts = refl

taken : (o : Option (List Bytes)) (m : Result Bytes Stop) (ws : Result (List Bytes) Stop) → words_into o (m >>= λ t. ws >>= λ ts. Ok (close t ts)) ≡ (taken_into o m >>= λ p. words_into p ws)
taken o (Err s) ws = refl
taken o (Ok t) (Err s) = refl
taken o (Ok t) (Ok ts) = ap (λ (x : Option (List Bytes)). Ok x) (sym (closed o t ts))

pub one_taken : (o p : Option (List Bytes)) (line : ℕ) (c : Core) (words : List Word) (w : Word) (ws : List Word) → words ≡ w ∷ ws → Ok p ≡ taken_into o (word_of line c w)
    → words_into o (words_in line c words) ≡ words_into p (words_in line c ws)
one_taken o p line c words w ws e q = rw e (taken o (word_of line c w) (words_in line c ws) ∙ ap (λ (x : Result (Option (List Bytes)) Stop). x >>= λ o. words_into o (words_in line c ws)) (sym q))

-- words that do not fit still do not with more behind them
behind-append : (xs ys : List Bytes) → behind_blanks (xs ++ ys) ≡ behind_blanks xs ++ behind_blanks ys
behind-append [] ys = refl
behind-append (x ∷ xs) ys = ap (λ (t : Bytes). 32 ∷ (x ++ t)) (behind-append xs ys) ∙ ap (λ (t : Bytes). 32 ∷ t) (sym (append_assoc x (behind_blanks xs) (behind_blanks ys)))

longer : (xs ys : List Bytes) → length (spaced xs) ≤ length (spaced (xs ++ ys))
longer [] ys = omega arith
longer (x ∷ xs) ys = rw (behind-append xs ys) (simp length-append (omega arith))

too_long : (xs ys : List Bytes) → fits xs ≡ false → fits (xs ++ ys) ≡ false
too_long xs ys h = lt-leb _ _ (omega (arith, leb-false (length (spaced xs)) 255 h, longer xs ys))

never : (ts : List Bytes) → grown_all None ts ≡ None
never [] = refl
never (t ∷ ts) = never ts

pub all_from : (xs ts : List Bytes) → fits xs ≡ true → grown_all (Some xs) ts ≡ cond (fits (xs ++ ts)) (Some (xs ++ ts)) None
all_from xs [] h = rw (append-nil xs, h)
all_from xs (t ∷ ts) h =
    let one : (xs ++ t ∷ []) ++ ts ≡ xs ++ t ∷ ts = append_assoc xs (t ∷ []) ts in
    ⊎_elim
    (λ (e : fits (xs ++ t ∷ []) ≡ true).
    rw e (all_from (xs ++ t ∷ []) ts e ∙ ap (λ (ws : List Bytes). cond (fits ws) (Some ws) None) one))
    (λ (e : fits (xs ++ t ∷ []) ≡ false).
    let f : fits (xs ++ t ∷ ts) ≡ false = ap fits (sym one) ∙ too_long (xs ++ t ∷ []) ts e in
    rw (e, f) (never ts))
    (cases_Bool (fits (xs ++ t ∷ [])))

in_turn : (o : Option (List Bytes)) (xs ys : List Bytes) → grown_all (grown_all o xs) ys ≡ grown_all o (xs ++ ys)
in_turn o [] ys = refl
in_turn o (x ∷ xs) ys = in_turn (grown o x) xs ys

-- the words behind others fit, or the statement is too long
pub all_behind : (line : ℕ) (front : List Bytes) (m : Result (List Bytes) Stop) → behind front (gathered line front m) ≡ (words_into (grown_all (Some []) front) m >>= λ o. in_line line (by_statement (ok_or o TooLong)))
all_behind line front (Err s) = refl
all_behind line front (Ok ts) =
    let e : grown_all (grown_all (Some []) front) ts ≡ cond (fits (front ++ ts)) (Some (front ++ ts)) None = in_turn (Some []) front ts ∙ all_from [] (front ++ ts) refl in
    ⊎_elim
    (λ (h : fits (front ++ ts) ≡ true). rw (e, h))
    (λ (h : fits (front ++ ts) ≡ false). rw (e, h))
    (cases_Bool (fits (front ++ ts)))

pub listed_unless : (line : ℕ) (words : Option Words) → listed_of (in_line line (by_statement (ok_or words TooLong))) ≡ in_line line (by_statement (ok_or (option_map listed words) TooLong))
listed_unless line None = refl
listed_unless line (Some w) = refl
