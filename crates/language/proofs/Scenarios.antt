-- The comparison law at the language.
use Rattle.std.proofs.Common.{ap, arith}
use Rattle.host.specs.Books.{Book}
use Rattle.machine.specs.Courses.{Course}
use Rattle.machine.specs.Laws.{Alike}
use Rattle.machine.proofs.Compared.{compared}
use Rattle.language.specs.Texts.{printed_width}
use Rattle.language.specs.Cores.{Core, fresh}
use Rattle.language.specs.Laws.{Comparable, ScenariosCompare}
use Rattle.language.specs.Sessions.{shown, language, new_session}

comparable : (p q : Course Core) → Alike p q → Comparable p q
comparable p q a =
    record {
      prints = a.prints;
      issues = a.issues;
      agree = λ e.
          record {
            variables = λ name. ap (λ (c : Core). shown c name) (a.cores e);
            arguments = ap (λ (c : Core). c.arguments) (a.cores e);
            environment = ap (λ (c : Core). c.presumed) (a.cores e);
            stack = a.stacks e;
            calls = ap (λ (c : Core). c.frames) (a.cores e);
            place = ap (λ (c : Core). c.place) (a.cores e);
            end = ap (λ (c : Core). c.life) (a.cores e);
            books = a.books e;
          };
    }

pub scenarios_compare_lem : ScenariosCompare
scenarios_compare_lem =
    record {
      compare = λ script string a b ks ls ok e x.
          comparable _ _
          ((compared language printed_width).alike (new_session (fresh script string) a) (new_session (fresh script string) b) ks ls
          (ap (λ (y : Book). new_session (fresh script string) y) e) x);
      played = λ script string book ks.
          let balance = (compared language printed_width).balanced (new_session (fresh script string) book) ks in
          let counted = (compared language printed_width).counted (new_session (fresh script string) book) ks in
          record { balance = omega arith; steps = omega arith };
    }
