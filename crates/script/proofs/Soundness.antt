-- What the rules of a script come to.
use Rattle.std.proofs.Common.{◌≡◌, ℕ, ◌+◌, ◌≤◌, Bool, true, false, cond, ◌||◌, ltb, List, [], ◌∷◌, ◌++◌, length, take, drop, Some, None, Ok, Err, Option, sym, refl, ap, ◌∙◌, arith}
use Rattle.std.specs.Result.{is_ok}
use Rattle.std.proofs.lemmas.List.{take_at}
use Rattle.std.proofs.lemmas.Bool.{and_parts, and_from, or_parts, or_from, eqb-true, eq-eqb, ltb-false}
use Rattle.script.specs.Judgement.{Verdict, foreign, long, first_line, traced, unless_at, judged}
use Rattle.script.specs.Lines.{lines_of, records_from, records_of}
use Rattle.script.specs.Scripts.{same_records, sound}
use Rattle.script.specs.declared.line.Line.{Line}

-- a verdict that accepts has passed each test
passed_at : (k : ℕ) (o : Option ℕ) (v : Verdict) (n : ℕ) → unless_at k o v ≡ Ok n → v ≡ Ok n
passed_at k None v n h = h
passed_at k (Some l) v n h = cc

passed : (b : Bool) (e : ℕ × Option ℕ) (v : Verdict) (n : ℕ) → cond b (Err e) v ≡ Ok n → (b ≡ false) × (v ≡ Ok n)
passed true e v n h = absurd (cc)
passed false e v n h = (refl, h)

counted : (b : Bool) (m : ℕ) (e : ℕ × Option ℕ) (n : ℕ) → cond b (Ok m) (Err e) ≡ Ok n → m ≡ n
counted true m e n h = cc
counted false m e n h = cc

not_past : (l room : ℕ) → l ≤ room → ltb room l ≡ false
not_past l room h = grind arith

module _ (bytes : List ℕ) (records n : ℕ) (ok : judged bytes records ≡ Ok n) where
  lines_passed : cond {A = Verdict} (ltb 1024 (length (lines_of bytes)) || ltb records (length (lines_of bytes))) (Err (4, None)) (cond {A = Verdict} (traced (lines_of bytes)) (Ok (length (lines_of bytes))) (Err (5, None))) ≡ Ok n
  lines_passed =
      passed_at 3 (first_line long (lines_of bytes)) _ n
      (passed_at 2 (first_line foreign (lines_of bytes)) _ n (passed (ltb 65535 (length bytes)) (1, None) _ n ok).1)

  pub lines_counted : length (lines_of bytes) ≡ n
  lines_counted =
      counted (traced (lines_of bytes)) _ (5, None) n (passed (ltb 1024 (length (lines_of bytes)) || ltb records (length (lines_of bytes))) (4, None) _ n lines_passed).1

  pub lines_fit : (n ≤ 1024) × (n ≤ records)
  lines_fit =
      let e = or_parts _ _ (passed (ltb 1024 (length (lines_of bytes)) || ltb records (length (lines_of bytes))) (4, None) _ n lines_passed).0 in
      let a = ltb-false 1024 (length (lines_of bytes)) e.0 in
      let b = ltb-false records (length (lines_of bytes)) e.1 in
      let c = lines_counted in
      (omega arith, omega arith)

  -- room for as many records as there are lines is enough, and more does no harm
  pub room_for : (room : ℕ) → n ≤ room → judged bytes room ≡ Ok n
  room_for room h =
      let l : ℕ = length (lines_of bytes) in
      let b : (ltb 1024 l || ltb records l) ≡ false = (passed (ltb 1024 l || ltb records l) (4, None) _ n lines_passed).0 in
      let few : l ≤ room = let e = lines_counted in omega arith in
      let c : (ltb 1024 l || ltb room l) ≡ false = or_from _ _ (or_parts _ _ b).0 (not_past l room few) in
      ap (λ (t : Bool). cond {A = Verdict} (ltb 65535 (length bytes)) (Err (1, None)) (unless_at 2 (first_line foreign (lines_of bytes)) (unless_at 3 (first_line long (lines_of bytes)) (cond {A = Verdict} t (Err (4, None)) (cond {A = Verdict} (traced (lines_of bytes)) (Ok l) (Err (5, None))))))) (c ∙ sym b)
      ∙ ok

  pub room_enough : judged bytes n ≡ Ok n
  room_enough = room_for n (omega arith)

pub length-records : (at : ℕ) (ls : List (List ℕ)) → length (records_from at ls) ≡ length ls
length-records at [] = refl
length-records at (l ∷ ls) = rw (length-records (at + length l + 1) ls)

-- the test of records is their equality
same_records_lem : (xs ys : List Line) → same_records xs ys ≡ true → xs ≡ ys
same_records_lem [] [] h = refl
same_records_lem [] (y ∷ ys) h = cc
same_records_lem (x ∷ xs) [] h = cc
same_records_lem (x ∷ xs) (y ∷ ys) h =
    let p = and_parts _ _ h in
    let q = and_parts _ _ p.0 in
    let o : x.offset ≡ y.offset = eqb-true _ _ q.0 in
    let l : x.length ≡ y.length = eqb-true _ _ q.1 in
    let t : xs ≡ ys = same_records_lem xs ys p.1 in
    ap (λ (m : ℕ). record { offset = m; length = x.length } ∷ xs) o
    ∙ ap (λ (m : ℕ). record { offset = y.offset; length = m } ∷ xs) l
    ∙ ap (λ (zs : List Line). y ∷ zs) t

records_same : (xs : List Line) → same_records xs xs ≡ true
records_same [] = refl
records_same (x ∷ xs) =
    and_from _ _ (and_from _ _ (eq-eqb x.offset _ refl) (eq-eqb x.length _ refl)) (records_same xs)

accepted : (v : Verdict) → is_ok v ≡ true → (n : ℕ) × (v ≡ Ok n)
accepted (Ok n) h = (n, refl)
accepted (Err e) h = absurd (cc)

module _ (bytes : List ℕ) (lines : List Line) (h : sound bytes lines ≡ true) where
  pub sound_records : lines ≡ records_of bytes
  sound_records = same_records_lem _ _ (and_parts _ _ h).1

  -- with room for as many records, or more, the verdict is their number
  pub sound_verdict : (room : ℕ) → length lines ≤ room → judged bytes room ≡ Ok (length lines)
  sound_verdict room few =
      let v = accepted _ (and_parts _ _ h).0 in
      let e : v.0 ≡ length lines = sym (lines_counted bytes (length lines) v.0 v.1) ∙ sym (length-records 0 (lines_of bytes)) ∙ sym (ap length sound_records) in
      room_for bytes (length lines) v.0 v.1 room (omega arith) ∙ ap Ok e

  pub sound_few : length lines ≤ 1024
  sound_few =
      let v = accepted _ (and_parts _ _ h).0 in
      let c = lines_counted bytes (length lines) v.0 v.1 in
      let f = lines_fit bytes (length lines) v.0 v.1 in
      let l = length-records 0 (lines_of bytes) in
      let e = ap length sound_records in
      omega arith

-- the records that were written for a script are sound
pub sound_filled : (bytes : List ℕ) (before after : List Line) (n : ℕ) → Ok n ≡ judged bytes (length before) → after ≡ records_of bytes ++ drop n before → sound bytes (take n after) ≡ true
sound_filled bytes before after n ok e =
    let k : length (records_of bytes) ≡ n = length-records 0 (lines_of bytes) ∙ lines_counted bytes (length before) n (sym ok) in
    let r : take n after ≡ records_of bytes = ap (take n) e ∙ take_at (records_of bytes) (drop n before) n k in
    rw (r, k, room_enough bytes (length before) n (sym ok)) (records_same (records_of bytes))
