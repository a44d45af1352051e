-- A name read and set through its kind.
use Rattle.std.proofs.Common.{◌≡◌, Bool, true, false, is_ok, Ok, Err, MatchBool, Option, Result, sym, ap, ◌∙◌, arith}
use Rattle.keywords.specs.Arguments.{capped_kind}
use Rattle.language.specs.Cores.{Core}
use Rattle.language.specs.Faults.{◌>>◌, must, giving}
use Rattle.language.specs.Names.{Kind, kind_of}
use Rattle.language.specs.Store.{value_by, value_of, settable, settable_by, put_by, put}
use Rattle.language.specs.Texts.{Bytes, has_ampersand}
use Rattle.language.specs.declared.fault.StoreFault.{StoreFault}
use Rattle.language.specs.declared.fault.StoreFault.TheVariants.{CannotBeSet}
use Rattle.words.proofs.Listings.{listed_few}
use Rattle.store.specs.Others.{OthersKept}
use Rattle.store.specs.Stores.{core_seen}
use Rattle.store.specs.declared.store.Store.{Store}
use Rattle.store.proofs.Capped.{value_capped, settable_capped, put_capped}
use Rattle.store.proofs.Others.{others_kept}

module _ (s : Store) (n : Bytes) (k : Kind) (e : k ≡ capped_kind (kind_of n)) where
  pub value_is : (v : Option Bytes) → v ≡ value_by (core_seen s) n k → v ≡ value_of (core_seen s) n
  value_is v h = h ∙ ap (value_by (core_seen s) n) e ∙ value_capped (core_seen s) (listed_few s.arguments) n (kind_of n)

  pub settable_is : (b : Bool) → b ≡ settable_by (core_seen s) k → b ≡ settable (core_seen s) n
  settable_is b h = h ∙ ap (settable_by (core_seen s)) e ∙ settable_capped (core_seen s) (listed_few s.arguments) (kind_of n)

  module _ (t : Bytes) where
    pub put_not : false ≡ settable_by (core_seen s) k → Err CannotBeSet ≡ put (core_seen s) n t
    put_not h = ap (λ (b : Bool). must b CannotBeSet >> put_by (core_seen s) n t (kind_of n)) (settable_is false h)

    pub put_done : (m : Result Core StoreFault) → true ≡ settable_by (core_seen s) k → m ≡ put_by (core_seen s) n t k → m ≡ put (core_seen s) n t
    put_done m h q =
        q ∙ ap (put_by (core_seen s) n t) e ∙ put_capped (core_seen s) (listed_few s.arguments) n t (kind_of n)
        ∙ ap (λ (b : Bool). must b CannotBeSet >> put_by (core_seen s) n t (kind_of n)) (settable_is true h)

-- a put changes no other name, whatever comes of it
pub put_others : (s : Store) (n t : Bytes) (d : Core) (r : Result (Unit {0}) StoreFault) → giving r d ≡ put (core_seen s) n t → MatchBool (is_ok r) (Unit {0}) (d ≡ core_seen s) → has_ampersand n ≡ true → OthersKept n (core_seen s) d
put_others s n t d (Ok x) p w amp m also ne =
    let few = listed_few s.arguments in
    others_kept (core_seen s) d n t (omega arith) amp (sym p) m also ne
put_others s n t d (Err f) p w amp m also ne = ap (λ (x : Core). value_of x m) w
