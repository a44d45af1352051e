-- What a recording host keeps.
use Rattle.std.specs.Prelude.{◌≡◌, true, List, [], ◌∷◌, ◌++◌, map, vec_items, MatchBool}
use Rattle.host.specs.Books.{Pair, Answer, pair}
use Rattle.host.specs.declared.recorder.Issued.{Issued}
use Rattle.host.specs.declared.recorder.Recorder.{Recorder}

-- a pair with the answer to it
abbrev pub Exchange : Type 0
Exchange = Pair × Answer

abbrev pub exchange : Issued → Exchange
exchange i = (pair (vec_items i.environment) (vec_items i.command), i.code)

-- the pairs that are kept, with their codes, in the order in which they came
abbrev pub kept : {H : Type 0} → Recorder H → List Exchange
kept r = map exchange (vec_items r.issued)

-- a record that is complete had been so, and has one exchange more; any other has what it had
abbrev pub Noted : {H : Type 0} → Recorder H → Exchange → Recorder H → Type 0
Noted was x is = MatchBool is.complete ((was.complete ≡ true) × (kept is ≡ kept was ++ x ∷ [])) (kept is ≡ kept was)
