use Rattle.std.proofs.Common.{◌≡◌, ◌+◌, ◌≤◌, ◌++◌, length, take, drop, None}
use Rattle.script.specs.Judgement.{long, first_line}
use Rattle.script.specs.Lines.{lines_of, records_from, records_of}
use Rattle.script.specs.Rest.{lines_left}
use Rattle.script.proofs.Sizes.{size}
use Rattle.script.proofs.judge.write_records.Given as goal

abbrev pub invariant-loop-i : goal.invariant-loop-i
invariant-loop-i l =
    let rest = lines_left l.i-iterator.iter in
    let count = l.i-iterator.count in
    record {
      room : count + length rest ≡ length (lines_of l.bytes);
      short : first_line long rest ≡ None;
      small : l.offset + size rest ≤ length l.bytes + 1;
      front : take count l.directory ++ records_from l.offset rest ≡ records_of l.bytes;
      back : drop count l.directory ≡ drop count l.initial.directory;
    }
