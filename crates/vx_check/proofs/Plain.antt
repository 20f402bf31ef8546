-- The words of a plain line are plain.
use Rattle.std.proofs.Common.{◌≡◌, ℕ, Bool, true, false, List, [], ◌∷◌, ◌++◌, refl, sym, ap, ◌∙◌, arith}
use Rattle.std.specs.Prelude.{◌&&◌, ◌||◌, ◌==◌, filter, nat_le, Option, Some, None, option_map, if◌then◌else◌, codes}
use Rattle.std.specs.List.{flat_map, list_all}
use Rattle.std.specs.Str.{bytes_eq}
use Rattle.std.proofs.lemmas.Bool.Decides.{nat_tests}
use Rattle.vx_words.specs.Lines.{is_blank, is_filled, is_plain, parts, with_first, words}
use Rattle.vx_check.specs.Ends.{behind_blanks}
use Rattle.vx_check.specs.Expected.{cut_at_when, with_front}
use Rattle.vx_cut.proofs.LineTexts.{both, plain_both}

abbrev pub ArePlain : List (List ℕ) → Type 0
ArePlain ws = list_all (list_all is_plain) ws ≡ true

plain_first : (b : ℕ) (ps : List (List ℕ)) → is_plain b ≡ true → ArePlain ps → ArePlain (with_first b ps)
plain_first b [] e h = rw e refl
plain_first b (p ∷ ps) e h = let two = both (list_all is_plain p) (list_all (list_all is_plain) ps) h in rw (e, two.0, two.1) refl

parts_plain : (line : List ℕ) → list_all is_plain line ≡ true → ArePlain (parts is_blank line)
parts_plain [] h = refl
parts_plain (b ∷ bs) h =
    let two = both (is_plain b) (list_all is_plain bs) h in
    by (is_blank b) (parts_plain bs two.1) two.0
  where
    by : (t : Bool) → ArePlain (parts is_blank bs) → is_plain b ≡ true → ArePlain (if t then [] ∷ parts is_blank bs else with_first b (parts is_blank bs))
    by true p e = p
    by false p e = plain_first b (parts is_blank bs) e p

filled_plain : (ps : List (List ℕ)) → ArePlain ps → ArePlain (filter is_filled ps)
filled_plain [] h = refl
filled_plain ([] ∷ ps) h = filled_plain ps h
filled_plain ((b ∷ bs) ∷ ps) h = let two = both (list_all is_plain (b ∷ bs)) (list_all (list_all is_plain) ps) h in rw (two.0, filled_plain ps two.1) refl

pub words_plain : (line : List ℕ) → list_all is_plain line ≡ true → ArePlain (words line)
words_plain line h = filled_plain (parts is_blank line) (parts_plain line h)

-- what stands behind the first word
pub behind_first : (line rest : List ℕ) (first : List ℕ) → list_all is_plain line ≡ true → words line ≡ first ∷ words rest → ArePlain (words rest)
behind_first line rest first h e = (both (list_all is_plain first) (list_all (list_all is_plain) (words rest)) (sym (ap (list_all (list_all is_plain)) e) ∙ words_plain line h)).1

-- what stands behind the first `when`
abbrev IsPlainCut : Option (List (List ℕ) × List (List ℕ)) → Type 0
IsPlainCut None = Unit {0}
IsPlainCut (Some p) = ArePlain p.1

cut_plain : (ws : List (List ℕ)) → ArePlain ws → IsPlainCut (cut_at_when ws)
cut_plain [] h = tt
cut_plain (w ∷ ws) h =
    let two = both (list_all is_plain w) (list_all (list_all is_plain) ws) h in
    by (bytes_eq w (codes "when")) (cut_at_when ws) two.1 (cut_plain ws two.1)
  where
    by : (t : Bool) (cut : Option (List (List ℕ) × List (List ℕ))) → ArePlain ws → IsPlainCut cut → IsPlainCut (if t then Some ([], ws) else option_map (λ p. (w ∷ p.0, p.1)) cut)
    by true cut p h = p
    by false None p h = tt
    by false (Some c) p h = h

abbrev second : Option (List (List ℕ) × List (List ℕ)) → List (List ℕ)
second None = []
second (Some p) = p.1

pub when_plain : (ws front end rule : List (List ℕ)) → ArePlain ws → Some (end, rule) ≡ option_map (with_front front) (cut_at_when ws) → ArePlain rule
when_plain ws front end rule h e = by (cut_at_when ws) (cut_plain ws h) e
  where
    by : (cut : Option (List (List ℕ) × List (List ℕ))) → IsPlainCut cut → Some (end, rule) ≡ option_map (with_front front) cut → ArePlain rule
    by None p q = cc (q)
    by (Some c) p q = let same : rule ≡ c.1 = ap second q in ap (list_all (list_all is_plain)) same ∙ p

-- those behind the first one
pub rest_plain : (line first rest : List ℕ) → list_all is_plain line ≡ true → words line ≡ first ∷ words rest → ArePlain (words rest)
rest_plain line first rest h split = (both (list_all is_plain first) (list_all (list_all is_plain) (words rest)) (sym (ap (list_all (list_all is_plain)) split) ∙ words_plain line h)).1

-- words behind blanks
pub behind_plain : (ws : List (List ℕ)) → ArePlain ws → list_all is_plain (behind_blanks ws) ≡ true
behind_plain [] h = refl
behind_plain (w ∷ ws) h = let two = both (list_all is_plain w) (list_all (list_all is_plain) ws) h in plain_both (32 ∷ w) (behind_blanks ws) two.0 (behind_plain ws two.1)
