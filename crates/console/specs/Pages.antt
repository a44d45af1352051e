-- What the program has written so far.
use Rattle.std.specs.Prelude.{◌≡◌, ℕ, List, ◌++◌, vec_items}
use Rattle.console.specs.declared.page.Page.{Page}

abbrev pub page_text : Page → List ℕ
page_text p = vec_items p.bytes

-- the text comes onto what was there
abbrev pub Adds : Page → Page → List ℕ → Type 0
Adds old new text = page_text new ≡ page_text old ++ text
