-- A clause judged by its words.
use Rattle.std.proofs.Common.{◌≡◌, ℕ, zero, suc, ◌+◌, true, false, cond, eqb, List, [], ◌∷◌, ◌++◌, length, drop, Some, None, Ok, Err, codes, Result, sym, refl, ap, ◌∙◌, ⊎_elim, append_assoc, arith}
use Rattle.std.specs.Option.{ok_or}
use Rattle.std.proofs.lemmas.List.{append-nil, length_push}
use Rattle.std.proofs.lemmas.Bool.{cases_Bool, ne_eqb, eq-eqb}
use Rattle.machine.specs.Machines.{Line}
use Rattle.language.specs.Conditions.{condition_holds}
use Rattle.language.specs.Cores.{Core}
use Rattle.language.specs.Faults.{◌>>=◌, by_statement, in_line}
use Rattle.language.specs.Statements.{Meaning, nothing_done, conditional, statement, clause}
use Rattle.language.specs.Texts.{Bytes, is_null, fits}
use Rattle.language.specs.Words.{Word, word_of}
use Rattle.language.specs.declared.fault.StatementFault.TheVariants.{TooLong}
use Rattle.language.specs.declared.life.Stop.{Stop}
use Rattle.substitution.specs.Gathering.{grown_all}
use Rattle.substitution.proofs.Growing.{all_from}
use Rattle.statement.specs.Clauses.{Cut, before, clause_from, clause_of, Gatherings, clauses_behind}
use Rattle.statement.specs.Solid.{first_solid}

module _ (line : ℕ) (c : Core) (st : List Line) where
  -- what a clause means whose words are cut off
  cut_means : List Bytes → Result Cut Stop → Meaning
  cut_means got (Ok p) = conditional line c st (got ++ p.0) (statement line c st p.1)
  cut_means got (Err s) = Err s

  moved : (got : List Bytes) (t : Bytes) (m : Result Cut Stop) → cut_means (got ++ t ∷ []) m ≡ cut_means got (before t m)
  unfolding cut_means
  moved got t (Ok p) = ap (λ (ts : List Bytes). conditional line c st ts (statement line c st p.1)) (append_assoc got (t ∷ []) p.0)
  moved got t (Err s) = refl

  abbrev By : List Word → Type 0
  By ws = (got : List Bytes) (n : ℕ) → length got + suc n ≡ 3 → clause line c st got ws ≡ cut_means got (clause_of line c (suc n) ws)

  -- a word that is not null is taken
  solid_by : (t : Bytes) (ws : List Word) → By ws → (got : List Bytes) (n : ℕ) → length got + suc n ≡ 3
      → cond (eqb (length got) 2) (conditional line c st (got ++ t ∷ []) (statement line c st ws)) (clause line c st (got ++ t ∷ []) ws) ≡ cut_means got (before t (clause_of line c n ws))
  unfolding cut_means clause_of
  solid_by t ws by got zero h = let e : length got ≡ 2 = omega arith in rw (eq-eqb (length got) 2 e)
  solid_by t ws by got (suc m) h =
      let e : length got ≡ 2 → ⊥ = λ q. omega arith in
      rw (ne_eqb (length got) 2 e)
      (by (got ++ t ∷ []) m (omega (arith, length_push got t)) ∙ moved got t (clause_of line c (suc m) ws))

  -- once a word is replaced
  replaced_by : (r : Result Bytes Stop) (ws : List Word) → By ws → (got : List Bytes) (n : ℕ) → length got + suc n ≡ 3
      → (r >>= λ t. cond (is_null t) (clause line c st got ws) (cond (eqb (length got) 2) (conditional line c st (got ++ t ∷ []) (statement line c st ws)) (clause line c st (got ++ t ∷ []) ws)))
      ≡ cut_means got ((r >>= λ t. cond (is_null t) (first_solid line c ws) (Ok (Some t, ws))) >>= λ p. clause_from p.0 p.1 (clause_of line c n))
  unfolding cut_means clause_of
  replaced_by (Err s) ws by got n h = refl
  replaced_by (Ok t) ws by got n h =
      ⊎_elim
      (λ (e : is_null t ≡ true). rw e (by got n h))
      (λ (e : is_null t ≡ false). rw e (solid_by t ws by got n h))
      (cases_Bool (is_null t))

  clause_by : (ws : List Word) → By ws
  unfolding cut_means clause_of
  clause_by [] got n h = ap (λ (ts : List Bytes). conditional line c st ts (nothing_done line c st)) (sym (append-nil got))
  clause_by (w ∷ ws) got n h = replaced_by (word_of line c w) ws (clause_by ws) got n h

  -- what the words that are gathered behind &IF say of the clause, with those behind it
  abbrev pub judged : Gatherings → Meaning
  judged (Ok p) =
      in_line line (by_statement (ok_or p.0 TooLong >>= λ ws. condition_holds (drop 1 ws))) >>= λ holds. cond holds (statement line c st p.1) (nothing_done line c st)
  judged (Err s) = Err s

  cut_judged : (m : Result Cut Stop) → cut_means [] m ≡ judged (clauses_behind (Some (codes "&IF" ∷ [])) m)
  unfolding cut_means
  cut_judged (Err s) = refl
  cut_judged (Ok p) =
      let e : grown_all (Some (codes "&IF" ∷ [])) p.0 ≡ cond (fits (codes "&IF" ∷ p.0)) (Some (codes "&IF" ∷ p.0)) None = all_from (codes "&IF" ∷ []) p.0 refl in
      ⊎_elim
      (λ (h : fits (codes "&IF" ∷ p.0) ≡ true). rw (e, h))
      (λ (h : fits (codes "&IF" ∷ p.0) ≡ false). rw (e, h))
      (cases_Bool (fits (codes "&IF" ∷ p.0)))

  pub clause_judged : (words : List Word) → clause line c st [] words ≡ judged (clauses_behind (Some (codes "&IF" ∷ [])) (clause_of line c 3 words))
  clause_judged words = clause_by words [] 2 refl ∙ cut_judged (clause_of line c 3 words)
