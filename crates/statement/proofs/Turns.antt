-- The words of a clause taken one at a time.
use Rattle.std.proofs.Common.{◌≡◌, ℕ, suc, ◌+◌, ◌-◌, ◌<◌, ◌≤◌, List, [], Ok, Err, Option, Result, refl, ap, arith}
use Rattle.language.specs.Cores.{Core}
use Rattle.language.specs.Faults.{◌>>=◌}
use Rattle.language.specs.Texts.{Bytes}
use Rattle.language.specs.Words.{Word}
use Rattle.language.specs.declared.life.Stop.{Stop}
use Rattle.substitution.specs.Gathering.{grown}
use Rattle.statement.specs.Clauses.{Cut, before, clause_from, clause_of, clauses_behind}
use Rattle.statement.specs.Solid.{first_solid}

pub put_before : (o : Option (List Bytes)) (t : Bytes) (r : Result Cut Stop) → clauses_behind o (before t r) ≡ clauses_behind (grown o t) r
put_before o t (Ok p) = refl
put_before o t (Err s) = refl

module _ (line : ℕ) (c : Core) (i : ℕ) (ws : List Word) where
  -- once so many are taken
  pub one_more : i < 3 → clause_of line c (3 - i) ws ≡ (first_solid line c ws >>= λ p. clause_from p.0 p.1 (clause_of line c (3 - (i + 1))))
  unfolding clause_of
  one_more h =
      let s : 3 - i ≡ suc (3 - (i + 1)) = omega arith in
      ap (λ (k : ℕ). clause_of line c k ws) s

  pub no_more : 3 ≤ i → clause_of line c (3 - i) ws ≡ Ok ([], ws)
  unfolding clause_of
  no_more h =
      let s : 3 - i ≡ 0 = omega arith in
      ap (λ (k : ℕ). clause_of line c k ws) s
