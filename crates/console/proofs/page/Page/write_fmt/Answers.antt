use Rattle.std.proofs.lemmas.Fmt.{contents_after_writes}
use Rattle.std.proofs.lemmas.Option.{IfSome_then}
use Rattle.console.specs.Pages.{page_text}
use Rattle.console.proofs.page.Page.write_fmt.Goals as goal

pub returns-in-Ok : goal.returns-in-Ok
returns-in-Ok g c =
    IfSome_then (g.D.Display.output c.args.text) c.in-Ok.ensures.writes
    (λ bs k. contents_after_writes _ page_text (λ w l v t. t) _ bs _ k)
