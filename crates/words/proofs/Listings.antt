-- What the fields of a list of words hold, by its view.
use Rattle.std.proofs.Common.{◌≡◌, ℕ, ◌+◌, ◌-◌, ◌<◌, ◌≤◌, Bool, true, false, cond, leb, List, [], ◌∷◌, ◌++◌, min, length, get_or, take, drop, set, sym, ap, ◌∙◌, append_assoc, arith, length-append, length-drop, length-take, length-take-le}
use Rattle.std.specs.List.{sum_by}
use Rattle.std.proofs.lemmas.Bool.{leb-true, leb-false, le-leb}
use Rattle.std.proofs.lemmas.List.{length-map, drop_all, take_all, take_min, take-map, drop_min, drop-map, map-set, map_push, set_past}
use Rattle.text.specs.Tables.{held}
use Rattle.language.specs.Texts.{Bytes, behind_blanks, spaced, fits}
use Rattle.words.specs.Layout.{laid}
use Rattle.words.specs.Listed.{listed}
use Rattle.words.specs.declared.words.Words.{Words}
use Rattle.words.proofs.Layouts.{Lies, cut_is, cut_lies, laid_is, behind_le, behind_more, behind-drop, behind_before, behind-set, behind-push, behind_count, length_at, word_first, size_is, fits_by, full_by}

pub listed_is : (w : Words) (ws : List Bytes) → Lies (held w.lengths) (held w.text) ws → listed w ≡ ws
unfolding listed
listed_is w ws lies = cut_is _ _ ws lies

-- no words
pub new_laid : (ns : List ℕ) (t : Bytes) → ns ≡ [] → t ≡ [] → laid ns t ≡ true
new_laid ns t e q = laid_is ns t [] (e, q)

pub listed_none : (w : Words) → held w.lengths ≡ [] → held w.text ≡ [] → listed w ≡ []
listed_none w e q = listed_is w [] (e, q)

module _ (w : Words) where
  pub listed_lies : Lies (held w.lengths) (held w.text) (listed w)
  unfolding listed
  listed_lies = cut_lies _ _ w.whole

  pub count_is : length (held w.lengths) ≡ length (listed w)
  count_is = ap length listed_lies.0 ∙ length-map (listed w) length

  pub used_is : length (held w.text) ≡ length (behind_blanks (listed w))
  used_is = ap length listed_lies.1

  used_few : length (held w.text) ≤ 256
  used_few = let f = w.text.fits in simp length-take (omega arith)

  -- no list has more words than a text and one more has bytes
  pub listed_few : length (listed w) ≤ 256
  listed_few = omega (arith, behind_count (listed w), used_is, used_few)

  -- no list of words is longer than a text may be
  pub listed_fits : fits (listed w) ≡ true
  listed_fits = fits_by (listed w) (omega (arith, used_is, used_few))

  -- where a word lies
  pub start_is : (i k : ℕ) (ns : List ℕ) → k ≡ min i (length ns) → ns ≡ held w.lengths → sum_by (λ n. n + 1) (take k ns) ≡ length (behind_blanks (take i (listed w)))
  start_is i k ns m e =
      ap (sum_by (λ n. n + 1)) (ap (λ (j : ℕ). take j ns) m ∙ take_min i ns ∙ ap (take i) (e ∙ listed_lies.0) ∙ take-map length i (listed w))
      ∙ size_is (take i (listed w))

  pub start_within : (i k : ℕ) (ns : List ℕ) → k ≡ min i (length ns) → ns ≡ held w.lengths → sum_by (λ n. n + 1) (take k ns) ≤ length (held w.text)
  start_within i k ns m e = omega (arith, start_is i k ns m e, behind_le (listed w) i, used_is)

  pub behind_is : (i a : ℕ) (t : Bytes) → a ≡ length (behind_blanks (take i (listed w))) → t ≡ held w.text → take (length t - a) (drop a t) ≡ behind_blanks (drop i (listed w))
  behind_is i a t e q =
      take_all _ _ (simp length-drop (omega arith))
      ∙ ap (drop a) (q ∙ listed_lies.1)
      ∙ behind-drop (listed w) i a e

  pub behind_past : (i : ℕ) → length (listed w) ≤ i → [] ≡ behind_blanks (drop i (listed w))
  behind_past i h = sym (ap behind_blanks (drop_all i (listed w) h))

  length_is : (i n : ℕ) (ns : List ℕ) → n ≡ get_or ns i 0 → ns ≡ held w.lengths → n ≡ length (get_or (listed w) i [])
  length_is i n ns h e = h ∙ ap (λ (ms : List ℕ). get_or ms i 0) (e ∙ listed_lies.0) ∙ length_at (listed w) i

  -- a word starts what is joined from it on
  pub get_is : (i n : ℕ) (ns joined : List ℕ) → n ≡ get_or ns i 0 → ns ≡ held w.lengths → joined ≡ spaced (drop i (listed w)) → take n joined ≡ get_or (listed w) i []
  get_is i n ns joined h e q = rw (q, length_is i n ns h e) (word_first (listed w) i)

  pub get_within : (i n : ℕ) (ns joined : List ℕ) → n ≡ get_or ns i 0 → ns ≡ held w.lengths → joined ≡ spaced (drop i (listed w)) → n ≡ length (take n joined)
  get_within i n ns joined h e q = length_is i n ns h e ∙ sym (ap length (get_is i n ns joined h e q))

  pub start_few : (i k : ℕ) (ns : List ℕ) → k ≡ min i (length ns) → ns ≡ held w.lengths → sum_by (λ n. n + 1) (take k ns) ≤ 256
  start_few i k ns m e = omega (arith, start_within i k ns m e, used_few)

  pub tail_lies : (i k : ℕ) (ns ms : List ℕ) (text : Bytes) → ns ≡ held w.lengths → k ≡ min i (length ns) → ms ≡ take (length ns - k) (drop k ns) → text ≡ behind_blanks (drop i (listed w)) → Lies ms text (drop i (listed w))
  tail_lies i k ns ms text e m q t = (
    q ∙ take_all (length ns - k) (drop k ns) (simp length-drop (omega arith))
        ∙ ap (λ (j : ℕ). drop j ns) m
        ∙ drop_min i ns
        ∙ ap (drop i) (e ∙ listed_lies.0)
        ∙ drop-map length i (listed w),
    t,
  )

  pub tail_laid : (i k : ℕ) (ns ms : List ℕ) (text : Bytes) → ns ≡ held w.lengths → k ≡ min i (length ns) → ms ≡ take (length ns - k) (drop k ns) → text ≡ behind_blanks (drop i (listed w)) → laid ms text ≡ true
  tail_laid i k ns ms text e m q t = laid_is _ _ _ (tail_lies i k ns ms text e m q t)

  pub listed_tail : (v : Words) (i k : ℕ) (ns : List ℕ) → ns ≡ held w.lengths → k ≡ min i (length ns) → held v.lengths ≡ take (length ns - k) (drop k ns) → held v.text ≡ behind_blanks (drop i (listed w)) → listed v ≡ drop i (listed w)
  listed_tail v i k ns e m q t = listed_is v _ (tail_lies i k ns (held v.lengths) (held v.text) e m q t)

  module _ (word : Bytes) where
    push_size : length (behind_blanks (listed w ++ word ∷ [])) ≡ length (held w.text) + 1 + length word
    push_size = omega (arith, ap length (behind-push (listed w) word), length-append (behind_blanks (listed w)) (32 ∷ word), used_is)

    pub push_full : 256 - length (held w.text) ≤ length word → false ≡ fits (listed w ++ word ∷ [])
    push_full h = sym (full_by _ (omega (arith, push_size, used_few)))

    pub push_fits : length word < 256 - length (held w.text) → true ≡ fits (listed w ++ word ∷ [])
    push_fits h = sym (fits_by _ (omega (arith, push_size)))

    -- where there is room, the blank, the word and its length all have theirs
    module _ (h : length word < 256 - length (held w.text)) (front text ns : List ℕ) (a b c : Bool) (ea : a ≡ leb (length (held w.text) + 1) 256) (ef : front ≡ cond a (held w.text ++ 32 ∷ []) (held w.text)) (eb : b ≡ leb (length front + length word) 256) (et : text ≡ cond b (front ++ word) front) (ec : c ≡ leb (length (held w.lengths) + 1) 256) (en : ns ≡ cond c (held w.lengths ++ length word ∷ []) (held w.lengths)) where
      push_lies : Lies ns text (listed w ++ word ∷ [])
      push_lies =
          let f : front ≡ held w.text ++ 32 ∷ [] = ef ∙ ap (λ (t : Bool). cond t (held w.text ++ 32 ∷ []) (held w.text)) (ea ∙ le-leb _ _ (omega arith)) in
          let size : length front ≡ length (held w.text) + 1 = ap length f ∙ length-append (held w.text) (32 ∷ []) in
          let few : length (held w.lengths) + 1 ≤ 256 = omega (arith, count_is, used_is, behind_count (listed w)) in (
            en ∙ ap (λ (t : Bool). cond t (held w.lengths ++ length word ∷ []) (held w.lengths)) (ec ∙ le-leb _ _ few)
                ∙ ap (λ (ms : List ℕ). ms ++ length word ∷ []) listed_lies.0
                ∙ sym (map_push length (listed w) word),
            et ∙ ap (λ (t : Bool). cond t (front ++ word) front) (eb ∙ le-leb _ _ (omega arith))
                ∙ ap (λ (t : Bytes). t ++ word) (f ∙ ap (λ (t : Bytes). t ++ 32 ∷ []) listed_lies.1)
                ∙ append_assoc (behind_blanks (listed w)) (32 ∷ []) word
                ∙ sym (behind-push (listed w) word),
          )

      pub push_laid : laid ns text ≡ true
      push_laid = laid_is _ _ _ push_lies

      pub listed_push : (v : Words) → held v.text ≡ text → held v.lengths ≡ ns → listed v ≡ listed w ++ word ∷ []
      listed_push v t n = listed_is v _ (n ∙ push_lies.0, t ∙ push_lies.1)

  -- past the end
  pub past_fits : (i : ℕ) (word : Bytes) → length (listed w) ≤ i → true ≡ fits (set (listed w) i word)
  past_fits i word h = sym (ap fits (set_past (listed w) i word h) ∙ listed_fits)

  pub past_same : (i : ℕ) (word : Bytes) → length (listed w) ≤ i → listed w ≡ set (listed w) i word
  past_same i word h = sym (set_past (listed w) i word h)

  -- a word changed, where what stands before it ends with its blank
  module _ (word : Bytes) (i a : ℕ) (h : i < length (listed w)) (e : a ≡ length (behind_blanks (take i (listed w)))) (t : Bytes) (k : t ≡ held w.text) where
    pub front_within : a + 1 ≡ length (take (a + 1) t)
    front_within = sym (length-take-le _ t (omega (arith, behind_more (listed w) i h, behind_le (listed w) (i + 1), used_is, ap length k)))

    set_size : length (behind_blanks (set (listed w) i word)) ≡ a + 1 + length word + length (behind_blanks (drop (i + 1) (listed w)))
    set_size =
        omega (
          arith,
          ap length (behind-set (listed w) i word h),
          length-append (behind_blanks (take i (listed w))) (32 ∷ (word ++ behind_blanks (drop (i + 1) (listed w)))),
          length-append word (behind_blanks (drop (i + 1) (listed w))),
        )

    module _ (front : Bytes) (p : front ≡ take (a + 1) t) where
      before_size : length front ≡ a + 1
      before_size = ap length p ∙ sym front_within

      pub set_over : (ok : Bool) → ok ≡ false → false ≡ leb (length front + length word) 256 → ok ≡ fits (set (listed w) i word)
      set_over ok d g = let m = leb-false _ 256 (sym g) in d ∙ sym (full_by _ (omega (arith, set_size, before_size)))

      pub word_few : true ≡ leb (length front + length word) 256 → length word < 256
      word_few g = let m = leb-true _ 256 (sym g) in omega (arith, before_size)

      module _ (more back : Bytes) (q : more ≡ front ++ word) (r : back ≡ behind_blanks (drop (i + 1) (listed w))) where
        all_size : length more + length back ≡ length (behind_blanks (set (listed w) i word))
        all_size = omega (arith, ap length q, length-append front word, ap length r, set_size, before_size)

        pub set_full : (ok : Bool) → ok ≡ false → false ≡ leb (length more + length back) 256 → ok ≡ fits (set (listed w) i word)
        set_full ok d g = let m = leb-false _ 256 (sym g) in d ∙ sym (full_by _ (omega (arith, all_size)))

        pub set_fits : true ≡ leb (length more + length back) 256 → true ≡ fits (set (listed w) i word)
        set_fits g = let m = leb-true _ 256 (sym g) in sym (fits_by _ (omega (arith, all_size)))

        set_lies : (text ns : List ℕ) → text ≡ more ++ back → ns ≡ set (held w.lengths) i (length word) → Lies ns text (set (listed w) i word)
        set_lies text ns z n =
            let before : front ≡ behind_blanks (take i (listed w)) ++ 32 ∷ [] = p ∙ ap (take (a + 1)) (k ∙ listed_lies.1) ∙ behind_before (listed w) i a h e in (
              n ∙ ap (λ (ms : List ℕ). set ms i (length word)) listed_lies.0 ∙ sym (map-set length (listed w) i word),
              z ∙ ap (λ (b : Bytes). b ++ back) (q ∙ ap (λ (b : Bytes). b ++ word) before)
                  ∙ ap (λ (b : Bytes). behind_blanks (take i (listed w)) ++ 32 ∷ [] ++ word ++ b) r
                  ∙ (simp append_assoc)
                  ∙ sym (behind-set (listed w) i word h),
            )

        pub set_laid : (text ns : List ℕ) → text ≡ more ++ back → ns ≡ set (held w.lengths) i (length word) → laid ns text ≡ true
        set_laid text ns z n = laid_is _ _ _ (set_lies text ns z n)

        pub listed_set : (v : Words) → held v.text ≡ more ++ back → held v.lengths ≡ set (held w.lengths) i (length word) → listed v ≡ set (listed w) i word
        listed_set v z n = listed_is v _ (set_lies (held v.text) (held v.lengths) z n)

-- what the check needs at each function
pub ruleset no_words = (new_laid, listed_none)

pub ruleset starts = (start_is, start_within, start_few)

pub ruleset behinds = (behind_is, behind_past)

pub ruleset gets = (get_is, get_within)

pub ruleset pushes = (push_full, push_fits, push_laid, listed_push)

pub ruleset sets = (past_fits, past_same, front_within, set_over, word_few, set_full, set_fits, set_laid, listed_set, count_is)

pub ruleset tails = (tail_laid, listed_tail)
