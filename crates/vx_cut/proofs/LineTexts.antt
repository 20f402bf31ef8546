-- How a text of ended lines is cut into lines.
use Rattle.std.proofs.Common.{◌≡◌, ℕ, zero, suc, ◌+◌, ◌-◌, Bool, true, false, List, [], ◌∷◌, ◌++◌, length, map, take, get_or, refl, sym, ap, ◌∙◌, append_assoc}
use Rattle.std.specs.Prelude.{◌||◌, ◌&&◌, ◌==◌, nat_eq, nat_le, slice_index, if◌then◌else◌, codes}
use Rattle.std.specs.List.{AllByRecursion, flat_map, list_all, list_any}
use Rattle.std.proofs.Common.{arith}
use Rattle.std.proofs.lemmas.Bool.Decides.{nat_tests}
use Rattle.vx_words.specs.Lines.{is_line_feed, is_plain, lines, parts, with_first, without_return}

-- no byte ends a line
abbrev pub IsUnbroken : List ℕ → Type 0
IsUnbroken line = list_any is_line_feed line ≡ false

pub either : (a b : Bool) → (a || b) ≡ false → (a ≡ false) × (b ≡ false)
either true b e = cc (e)
either false b e = (refl, e)

pub both : (a b : Bool) → (a && b) ≡ true → (a ≡ true) × (b ≡ true)
both true b e = (refl, e)
both false b e = cc (e)

-- a part in front of others
pub part_then : {A : Type 0} (ends : A → Bool) (part rest : List A) (x : A) → list_any ends part ≡ false → ends x ≡ true → parts ends (part ++ x ∷ rest) ≡ part ∷ parts ends rest
part_then ends [] rest x h e = rw e refl
part_then ends (b ∷ bs) rest x h e =
    let two = either (ends b) (list_any ends bs) h in
    rw two.0 (ap (with_first b) (part_then ends bs rest x two.1 e))

-- a part that is the last
pub part_alone : {A : Type 0} (ends : A → Bool) (b : A) (bs : List A) → list_any ends (b ∷ bs) ≡ false → parts ends (b ∷ bs) ≡ (b ∷ bs) ∷ []
part_alone ends b [] h = rw (either (ends b) false h).0 refl
part_alone ends b (c ∷ cs) h =
    let two = either (ends b) (list_any ends (c ∷ cs)) h in
    rw two.0 (ap (with_first b) (part_alone ends c cs two.1))

-- an ended line in front of a text
pub line_then : (line rest : List ℕ) → IsUnbroken line → parts is_line_feed (line ++ 10 ∷ rest) ≡ line ∷ parts is_line_feed rest
line_then line rest h = part_then is_line_feed line rest 10 h refl

unbroken_front : (b : ℕ) (ps : List (List ℕ)) → is_line_feed b ≡ false → AllByRecursion IsUnbroken ps → AllByRecursion IsUnbroken (with_first b ps)
unbroken_front b [] e h = (rw e refl, tt)
unbroken_front b (p ∷ ps) e h = (rw e h.0, h.1)

-- the lines of a text are unbroken
pub parts_unbroken : (text : List ℕ) → AllByRecursion IsUnbroken (parts is_line_feed text)
parts_unbroken [] = tt
parts_unbroken (b ∷ bs) = by (is_line_feed b) refl (parts_unbroken bs)
  where
    by : (t : Bool) → is_line_feed b ≡ t → AllByRecursion IsUnbroken (parts is_line_feed bs) → AllByRecursion IsUnbroken (parts is_line_feed (b ∷ bs))
    by true e h = rw e (refl, h)
    by false e h = rw e (unbroken_front b (parts is_line_feed bs) e h)

-- the lines of a text of ended lines, before another text
pub ended_then : {X : Type 0} (f : X → List ℕ) (ls : List X) (rest : List ℕ) → AllByRecursion (λ l. IsUnbroken (f l)) ls
    → parts is_line_feed (flat_map (λ l. f l ++ codes "\n") ls ++ rest) ≡ map f ls ++ parts is_line_feed rest
ended_then f [] rest h = refl
ended_then f (l ∷ ls) rest h =
    let more = flat_map (λ k. f k ++ codes "\n") ls in
    let moved : ((f l ++ codes "\n") ++ more) ++ rest ≡ f l ++ 10 ∷ (more ++ rest) = append_assoc (f l ++ codes "\n") more rest ∙ append_assoc (f l) (codes "\n") (more ++ rest) in
    ap (parts is_line_feed) moved ∙ line_then (f l) (more ++ rest) h.0 ∙ ap (λ ps. f l ∷ ps) (ended_then f ls rest h.1)

-- ---- plain texts

plain_no_feed : (b : ℕ) → is_plain b ≡ true → is_line_feed b ≡ false
plain_no_feed b e = grind (arith, nat_tests)

plain_no_return : (b : ℕ) → is_plain b ≡ true → nat_eq b 13 ≡ false
plain_no_return b e = grind (arith, nat_tests)

pub plain_unbroken : (line : List ℕ) → list_all is_plain line ≡ true → IsUnbroken line
plain_unbroken [] h = refl
plain_unbroken (b ∷ bs) h = let two = both (is_plain b) (list_all is_plain bs) h in rw (plain_no_feed b two.0) (plain_unbroken bs two.1)

plain_at : (line : List ℕ) (k : ℕ) → list_all is_plain line ≡ true → nat_eq (slice_index line k) 13 ≡ false
plain_at [] k h = refl
plain_at (b ∷ bs) zero h = plain_no_return b (both (is_plain b) (list_all is_plain bs) h).0
plain_at (b ∷ bs) (suc k) h = plain_at bs k (both (is_plain b) (list_all is_plain bs) h).1

pub plain_kept : (line : List ℕ) → list_all is_plain line ≡ true → without_return line ≡ line
plain_kept line h = rw (plain_at line (length line - 1) h) refl

pub plain_both : (xs ys : List ℕ) → list_all is_plain xs ≡ true → list_all is_plain ys ≡ true → list_all is_plain (xs ++ ys) ≡ true
plain_both [] ys h k = k
plain_both (x ∷ xs) ys h k = let two = both (is_plain x) (list_all is_plain xs) h in rw (two.0, plain_both xs ys two.1 k) refl
