-- The table of lines as a round.
use Rattle.std.proofs.Common.{◌≡◌, ℕ, ◌+◌, ◌-◌, ◌<◌, [], ◌∷◌, ◌++◌, map, length, get_or, set, sym, ap, ◌∙◌, arith}
use Rattle.std.proofs.lemmas.List.{length-map, map-set, get_or-map}
use Rattle.text.specs.Tables.{held}
use Rattle.text.specs.declared.table.Table.{Table}
use Rattle.language.specs.Texts.{Bytes}
use Rattle.tables.specs.Tables.{wrapped, around, lines_seen}
use Rattle.tables.specs.declared.lines.Lines.{Lines}
use Rattle.tables.proofs.Rings.{length-around, around_last, around_first, around_before}

module _ (l : Lines) where
  whole : length (map held l.records) ≡ 32
  whole = rw length-map l.whole

  pub seen_length : l.count ≡ length (lines_seen l)
  seen_length = sym (length-around 32 (map held l.records) l.first l.count whole l.begins l.few)

  pub pushed_last : (at : ℕ) (t : Table ℕ 255) → length (lines_seen l) < 32 → at ≡ wrapped 32 (l.first + l.count) → around l.first (l.count + 1) (map held (set l.records at t)) ≡ lines_seen l ++ held t ∷ []
  pushed_last at t h e =
      let n = seen_length in
      ap (around l.first (l.count + 1)) (map-set held l.records at t)
      ∙ around_last 32 (map held l.records) whole l.first l.count l.begins at (held t) e (omega arith)

  pub pushed_first : (at : ℕ) (t : Table ℕ 255) → length (lines_seen l) < 32 → at ≡ wrapped 32 (l.first + 31) → around at (l.count + 1) (map held (set l.records at t)) ≡ held t ∷ lines_seen l
  pushed_first at t h e =
      let n = seen_length in
      ap (around at (l.count + 1)) (map-set held l.records at t)
      ∙ around_before 32 (map held l.records) whole l.first l.count at (held t) l.begins (omega arith) e

  pub taken_first : (at : ℕ) (x : Table ℕ 255) → 0 < l.count → at ≡ wrapped 32 (l.first + 1) → lines_seen l ≡ held (get_or l.records l.first x) ∷ around at (l.count - 1) (map held l.records)
  taken_first at x h e =
      let b : l.first < length l.records = omega (arith, l.whole, l.begins) in
      around_first 32 (map held l.records) whole l.first l.count l.begins (held x) h l.few
      ∙ ap (λ (y : Bytes). y ∷ around (wrapped 32 (l.first + 1)) (l.count - 1) (map held l.records)) (get_or-map held l.records l.first x (held x) b)
      ∙ ap (λ (j : ℕ). held (get_or l.records l.first x) ∷ around j (l.count - 1) (map held l.records)) (sym e)
