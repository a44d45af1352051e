use Rattle.std.proofs.Common.{refl, ap, ◌∙◌}
use Rattle.text.specs.Shorts.{short_bytes}
use Rattle.keywords.specs.Arguments.{capped_kind}
use Rattle.language.specs.Names.{kind_of}
use Rattle.language.specs.Texts.{Bytes}
use Rattle.store.proofs.Putting.{put_not, put_done, put_others}
use Rattle.store.proofs.store.Store.put.Goals as goal

pub returns-then-not-is_settable_by : goal.returns-then-not-is_settable_by
returns-then-not-is_settable_by c =
    let e = c.kind_of-kind.ensures ∙ ap (λ (n : Bytes). capped_kind (kind_of n)) c.as_slice.ensures.is in
    record {
      is = put_not c.args.self.now (short_bytes c.args.name) _ e (short_bytes c.args.value) c.if-not-is_settable_by.ensures;
      unless = refl;
      others = λ amp m also ne. refl;
    }

pub returns : goal.returns
returns c =
    let e = c.kind_of-kind.ensures ∙ ap (λ (n : Bytes). capped_kind (kind_of n)) c.as_slice.ensures.is in
    let is = put_done c.args.self.now (short_bytes c.args.name) _ e (short_bytes c.args.value) _ c.if-not-is_settable_by.ensures c.put_by.ensures.is in
    record {
      is = is;
      unless = c.put_by.ensures.unless;
      others = put_others c.args.self.now (short_bytes c.args.name) (short_bytes c.args.value) _ c.put_by.result is c.put_by.ensures.unless;
    }
