use Rattle.std.proofs.Common.{refl}
use Rattle.text.proofs.Rounds.{found_behind, found_before}
use Rattle.text.proofs.search.find.Goals as goal

pub returns-in-Some-clause-is : goal.returns-in-Some-clause-is
returns-in-Some-clause-is g c =
    found_behind _ c.args.records.now _ _ c.args.from c.min.result c.min.ensures c.split_at.ensures.front c.split_at.ensures.back _ c.in-Some.ensures.is _ refl

pub returns-in-None-clause-is : goal.returns-in-None-clause-is
returns-in-None-clause-is g c =
    found_before _ c.args.records.now _ _ c.args.from c.min.result c.min.ensures c.split_at.ensures.front c.split_at.ensures.back _ c.in-None.ensures.is _ refl c.find_first-in-None.ensures.is
