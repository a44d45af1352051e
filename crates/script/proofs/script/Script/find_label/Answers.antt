use Rattle.std.proofs.Common.{◌∙◌, rules}
use Rattle.script.proofs.Texts.{label_found}
use Rattle.script.proofs.script.Script.find_label.Goals as goal

pub returns : goal.returns
returns c =
    let e = label_found c.args.self.now.bytes.now c.lines.result.now c.lines.ensures.is c.args.label.now c.args.from in
    let f = c.find.ensures.is ∙ e in
    search rules
