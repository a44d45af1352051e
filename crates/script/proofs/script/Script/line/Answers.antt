use Rattle.std.proofs.Common.{arith}
use Rattle.script.proofs.Texts.{line_read}
use Rattle.script.proofs.script.Script.line.Goals as goal

pub returns : goal.returns
returns c =
    let s = c.args.self.now in
    let i = c.in_ok-checked_sub.ensures in
    let at = c.in_ok-line.ensures.lookup in
    line_read s.bytes.now s.lines.now s.checked c.args.number _ _ _ i.0 (omega (arith, i.1)) at.3.0 at.1 c.text.ensures.is
