use Rattle.std.proofs.Common.{◌∙◌, ap}
use Rattle.text.specs.Shorts.{short_bytes}
use Rattle.language.specs.Store.{variable_at}
use Rattle.tables.specs.Tables.{variables_seen}
use Rattle.tables.proofs.Records.{freed, changed}
use Rattle.tables.proofs.variables.Variables.set.Goals as goal

pub returns-in-Some-clause-is : goal.returns-in-Some-clause-is
returns-in-Some-clause-is c =
    freed c.args.self.now (record { records = c.remove.new.self }) (short_bytes c.args.name) (short_bytes c.args.value) c.as_slice.result.now c.in-Some.i
    (c.in-Some.ensures.is ∙ ap (variable_at (variables_seen c.args.self.now)) c.as_slice-2.ensures.is)
    c.as_slice.ensures.is c.if-null.ensures c.remove.ensures

pub returns-in-Some-2-clause-is : goal.returns-in-Some-2-clause-is
returns-in-Some-2-clause-is c =
    changed c.args.self.now (record { records = c.replace.new.self }) (short_bytes c.args.name) (short_bytes c.args.value) c.as_slice.result.now c.in-Some.i
    (c.in-Some.ensures.is ∙ ap (variable_at (variables_seen c.args.self.now)) c.as_slice-2.ensures.is)
    c.as_slice.ensures.is c.new.result c.if-null.ensures c.new.ensures c.replace.ensures
