use Rattle.std.proofs.Common.{◌≡◌, length, rules}
use Rattle.script.proofs.Cutting.{cuts_by, no_line, last_line, next_line_lem}
use Rattle.script.proofs.lines.next_line.Goals as goal

pub returns-then-is_empty : goal.returns-then-is_empty
returns-then-is_empty c =
    let none : length c.args.bytes.now ≡ 0 = search rules in
    let e = no_line c.args.bytes.now none in
    record { is = e; cuts = cuts_by c.args.bytes.now _ e }

pub returns-then-is_empty-2 : goal.returns-then-is_empty-2
returns-then-is_empty-2 c =
    let some : length c.args.bytes.now ≡ 0 → ⊥ = search rules in
    let none : length c.split_at.result.1.now ≡ 0 = search rules in
    let e = last_line c.args.bytes.now _ _ c.until.result some c.until.ensures.is c.split_at.ensures.front c.split_at.ensures.back none in
    record { is = e; cuts = cuts_by c.args.bytes.now _ e }

pub returns : goal.returns
returns c =
    let some : length c.args.bytes.now ≡ 0 → ⊥ = search rules in
    let e = next_line_lem c.args.bytes.now _ _ c.until.result some c.until.ensures.is c.split_at.ensures.front c.split_at.ensures.back in
    record { is = e; cuts = cuts_by c.args.bytes.now _ e }
