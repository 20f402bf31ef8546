-- The sides of two reports in a space, and the ways by pairs of them.
use Rattle.std.proofs.Common.{◌≡◌, ℕ, ◌+◌, ◌<◌, ◌≤◌, zero, suc, Bool, true, not, ◌&&◌, ◌||◌, List, [], ◌∷◌, ◌++◌, length, take, drop, drop-cons, get_or, slice_get, refl, sym, ◌∙◌, ap, subst, append_assoc, append-nil, arith, length-append}
use Rattle.std.specs.Prelude.{Option, Some, None}
use Rattle.std.specs.List.{AllZip, flat_map}
use Rattle.std.proofs.lemmas.List.{take_all}
use Rattle.vx_space.specs.Sets.{Sets, IsLawful, IsSet, Extends}
use Rattle.vx_space.proofs.Spaces.{IsSet-extends}
use Rattle.vx_report.specs.declared.report.EndLine.{EndLine}
use Rattle.vx_report.specs.declared.report.Report.{Report}
use Rattle.vx_agree.specs.Agreement.{IsAgreement}
use Rattle.vx_cover.specs.Covers.{has_end, has_this_end}
use Rattle.vx_cover.specs.Scopes.{AreFirstEnds}
use Rattle.vx_compare.specs.Differ.{differs, has_either}
use Rattle.vx_compare.specs.Lines.{difference_at}
use Rattle.vx_compare.specs.Ways.{AreSides, IsSide, Side, ids_from, sides, sides_from, way_by, way_of, ways_against, ways_of, words_of}
use Rattle.vx_count.specs.Settings.{number}
use Rattle.vx_explain.specs.Scopes.{rule_within}
use Rattle.vx_compare.specs.Text.{compared_of}
use Rattle.vx_compare.specs.declared.comparing.Compared.{Compared}
use Rattle.vx_compare.specs.declared.ways.Side as found
use Rattle.vx_compare.specs.declared.ways.Way.{Way}
use Rattle.vx_compare.proofs.Differing.{agreement_test}
use Rattle.vx_compare.proofs.Turns.{given_more}

-- ---- lists that belong together

-- the item that belongs to one at a place
pub record IsAt {A B : Type 0} (R : A → B → Type 0) (xs : List A) (i : ℕ) (y : B) : Type 0 where
  pub item : A
  pub within : i < length xs
  pub is : item ≡ get_or xs i item
  pub fits : R item y

zip_at : {A B : Type 0} (R : A → B → Type 0) (xs : List A) (ys : List B) (i : ℕ) (y : B) → AllZip R xs ys → i < length ys → y ≡ get_or ys i y → IsAt R xs i y
zip_at R [] [] i y h l e = absurd (omega (arith, l))
zip_at R [] (b ∷ ys) i y h l e = absurd h
zip_at R (a ∷ xs) [] i y h l e = absurd h
zip_at {A} {B} R (a ∷ xs) (b ∷ ys) zero y h l e = record { item = a; within = omega arith; is = refl; fits = subst (λ (z : B). R a z) (sym e) h.0 }
zip_at R (a ∷ xs) (b ∷ ys) (suc i) y h l e =
    let rest = zip_at R xs ys i y h.1 (omega (arith, l)) e in
    let inside = rest.within in
    record { item = rest.item; within = omega (arith, inside); is = rest.is; fits = rest.fits }

zip_length : {A B : Type 0} (R : A → B → Type 0) (xs : List A) (ys : List B) → AllZip R xs ys → length xs ≡ length ys
zip_length R [] [] h = refl
zip_length R [] (b ∷ ys) h = absurd h
zip_length R (a ∷ xs) [] h = absurd h
zip_length R (a ∷ xs) (b ∷ ys) h = ap suc (zip_length R xs ys h.1)

take_zipped : {A B : Type 0} (R : A → B → Type 0) (xs : List A) (ys : List B) (i : ℕ) → AllZip R xs ys → length ys ≤ i → take i xs ≡ xs
take_zipped R xs ys i h l = let same = zip_length R xs ys h in take_all i xs (omega (arith, same, l))

-- ---- the sides of a report

-- one id more
pub ids_more : {I : Type 0} (ids : List I) (i : ℕ) (id : I) (now next : List (found.Side I)) (n : ℕ) → i < length ids → id ≡ get_or ids i id → now ++ ids_from (length now) (drop i ids) ≡ ids_from 0 ids → n ≡ length now → next ≡ now ++ record { end = Some n; set = id } ∷ []
    → next ++ ids_from (length next) (drop (i + 1) ids) ≡ ids_from 0 ids
ids_more {I} ids i id now next n l e is count grows =
    let side : found.Side I = record { end = Some (length now); set = id } in
    let more : next ≡ now ++ side ∷ [] = grows ∙ (λ j. now ++ record { end = Some (count j); set = id } ∷ []) in
    let rest : List I = drop (i + 1) ids in
    let many : length next ≡ suc (length now) = let grown = ap length more in omega (arith, grown, length-append now (side ∷ [])) in
    let place : i + 1 ≡ suc i = omega arith in
    let here : drop i ids ≡ id ∷ rest = drop-cons ids i id l ∙ (λ j. sym e j ∷ drop (sym place j) ids) in
    (λ j. more j ++ ids_from (many j) rest) ∙ append_assoc now (side ∷ []) (ids_from (suc (length now)) rest) ∙ ap (λ xs. now ++ ids_from (length now) xs) (sym here) ∙ is

pub ids_all : {I : Type 0} (ids : List I) (i : ℕ) (now : List (found.Side I)) → length ids ≤ i → now ++ ids_from (length now) (drop i ids) ≡ ids_from 0 ids → now ≡ ids_from 0 ids
ids_all ids i now l is = sym (append-nil now) ∙ ap (λ xs. now ++ ids_from (length now) xs) (sym (none ids i l)) ∙ is
  where
    none : {A : Type 0} (xs : List A) (i : ℕ) → length xs ≤ i → drop i xs ≡ []
    none [] zero l = refl
    none [] (suc i) l = refl
    none (x ∷ xs) zero l = absurd (omega (arith, l))
    none (x ∷ xs) (suc i) l = none xs i (omega (arith, l))

sides_zipped : {I : Type 0} (s : Sets I) (r : Report) (n : ℕ) (ends : List EndLine) (ids : List I) (last : found.Side I) → length ids ≡ length ends → ((place m : ℕ) (id : I) → m ≡ suc (n + place) → slice_get ids place ≡ Some id → IsSet s id (has_this_end r m))
    → IsSide s (record { end = None; has = λ c. not (has_end r c) }) last → AllZip (IsSide s) (sides_from r n ends) (ids_from n ids ++ last ∷ [])
sides_zipped s r n [] [] last same each none = (none, tt)
sides_zipped s r n [] (id ∷ ids) last same each none = absurd (omega (arith, same))
sides_zipped s r n (line ∷ ends) [] last same each none = absurd (omega (arith, same))
sides_zipped s r n (line ∷ ends) (id ∷ ids) last same each none = (
  record { end = refl; set = each 0 (suc n) id (omega arith) refl },
  sides_zipped s r (suc n) ends ids last (omega (arith, same)) (λ place m id e g. each (suc place) m id (omega (arith, e)) g) none,
)

-- the sets of all ends, and at last of those that have none
pub are_sides : {I : Type 0} {s0 s : Sets I} → IsLawful s0 → Extends s0 s → (r : Report) (firsts taken : List I) (ended none : I) (front whole : List (found.Side I)) → AreFirstEnds s0 r firsts → taken ≡ firsts → front ≡ ids_from 0 taken → IsSet s0 ended (has_end r)
    → IsSet s none (λ c. s0.test s0.always c && not (s0.test ended c)) → whole ≡ front ++ record { end = None; set = none } ∷ [] → AreSides s (sides r) whole
are_sides {I} {s0} {s} lawful x r firsts taken ended none front whole h t f e n w =
    let last : found.Side I = record { end = None; set = none } in
    let outside : IsSet s none (λ c. not (has_end r c)) = record { known = n.known; test = λ c. n.test c ∙ (λ i. lawful.always_test c i && not (e.test c i)) } in
    let same : ids_from 0 firsts ++ last ∷ [] ≡ whole = ap (λ ids. ids_from 0 ids ++ last ∷ []) (sym t) ∙ ap (λ xs. xs ++ last ∷ []) (sym f) ∙ sym w in
    subst (λ its. AreSides s (sides r) its) same (sides_zipped s r 0 r.ends firsts last h.number
    (λ place m id e g. let here : m ≡ suc place = omega (arith, e) in subst (λ k. IsSet s id (has_this_end r k)) (sym here) (IsSet-extends x id (has_this_end r (suc place)) (h.each place id g)))
    (record { end = refl; set = outside }))

pub sides_extend : {I : Type 0} {old new : Sets I} → Extends old new → (xs : List Side) (its : List (found.Side I)) → AreSides old xs its → AreSides new xs its
sides_extend x [] [] h = tt
sides_extend x [] (it ∷ its) h = absurd h
sides_extend x (side ∷ xs) [] h = absurd h
sides_extend x (side ∷ xs) (it ∷ its) h = (record { end = h.0.end; set = IsSet-extends x it.set side.has h.0.set }, sides_extend x xs its h.1)

-- the id of a side is known
pub side_known : {I : Type 0} {s0 s : Sets I} → Extends s0 s → (xs : List Side) (its : List (found.Side I)) (i : ℕ) (it : found.Side I) → AreSides s0 xs its → i < length its → it ≡ get_or its i it → s.is_known it.set ≡ true
side_known {I} {s0} {s} x xs its i it h l e = let at = zip_at (IsSide s0) xs its i it h l e in x.known it.set at.fits.set.known

-- ---- the ways of a side

-- those by the other one's ends
abbrev pub against_by : {I : Type 0} → Sets I → Report → Report → Option ℕ → I → Side → List Way
against_by s one other end here against = way_by one other end against.end (λ c. s.test here c && against.has c)

pub against_more : {I : Type 0} {s0 s s1 : Sets I} (one other : Report) (end : Option ℕ) (here : I) (its : List (found.Side I)) (i : ℕ) (it : found.Side I) (set : I) (first now next : List Way) → s0.is_known here ≡ true → AreSides s0 (sides other) its → i < length its → it ≡ get_or its i it
    → Extends s0 s → IsSet s1 set (λ c. s.test here c && s.test it.set c) → now ≡ first ++ flat_map (against_by s0 one other end here) (take i (sides other)) → next ≡ now ++ way_by one other end it.end (s1.test set)
    → next ≡ first ++ flat_map (against_by s0 one other end here) (take (i + 1) (sides other))
against_more {I} {s0} {s} {s1} one other end here its i it set first now next known h l e x o is more =
    let at = zip_at (IsSide s0) (sides other) its i it h l e in
    let side = at.item in
    let test : (c : List Bool) → s1.test set c ≡ (s0.test here c && side.has c) = λ c. o.test c ∙ (λ j. x.test here c known j && (x.test it.set c at.fits.set.known ∙ at.fits.set.test c) j) in
    let given : way_by one other end it.end (s1.test set) ≡ against_by s0 one other end here side = λ j. way_by one other end (at.fits.end j) (λ c. test c j) in
    given_more (against_by s0 one other end here) first now next (sides other) i side at.within at.is is (more ∙ ap (λ ways. now ++ ways) given)

pub against_all : {I : Type 0} (s0 : Sets I) (one other : Report) (end : Option ℕ) (here : I) (its : List (found.Side I)) (i : ℕ) (first now : List Way) → AreSides s0 (sides other) its → length its ≤ i
    → now ≡ first ++ flat_map (against_by s0 one other end here) (take i (sides other)) → now ≡ first ++ ways_against one other end (s0.test here)
against_all s0 one other end here its i first now h l is = is ∙ ap (λ xs. first ++ flat_map (against_by s0 one other end here) xs) (take_zipped (IsSide s0) (sides other) its i h l)

-- ---- all ways

abbrev pub all_by : Report → Report → Side → List Way
all_by one other side = ways_against one other side.end (λ c. side.has c && differs one other c)

pub all_more : {I : Type 0} {s0 s s1 : Sets I} (one other : Report) (differ : I) (its : List (found.Side I)) (i : ℕ) (it : found.Side I) (here : I) (first now next : List Way) → IsSet s0 differ (differs one other) → AreSides s0 (sides one) its → i < length its → it ≡ get_or its i it
    → Extends s0 s → IsSet s1 here (λ c. s.test it.set c && s.test differ c) → now ≡ first ++ flat_map (all_by one other) (take i (sides one)) → next ≡ now ++ ways_against one other it.end (s1.test here)
    → next ≡ first ++ flat_map (all_by one other) (take (i + 1) (sides one))
all_more {I} {s0} {s} {s1} one other differ its i it here first now next d h l e x o is more =
    let at = zip_at (IsSide s0) (sides one) its i it h l e in
    let side = at.item in
    let test : (c : List Bool) → s1.test here c ≡ (side.has c && differs one other c) = λ c. o.test c ∙ (λ j. (x.test it.set c at.fits.set.known ∙ at.fits.set.test c) j && (x.test differ c d.known ∙ d.test c) j) in
    let given : ways_against one other it.end (s1.test here) ≡ all_by one other side = λ j. ways_against one other (at.fits.end j) (λ c. test c j) in
    given_more (all_by one other) first now next (sides one) i side at.within at.is is (more ∙ ap (λ ways. now ++ ways) given)

pub all_ways : {I : Type 0} (s0 : Sets I) (one other : Report) (its : List (found.Side I)) (i : ℕ) (first now : List Way) → AreSides s0 (sides one) its → length its ≤ i → now ≡ first ++ flat_map (all_by one other) (take i (sides one)) → now ≡ first ++ ways_of one other
all_ways s0 one other its i first now h l is = is ∙ ap (λ xs. first ++ flat_map (all_by one other) xs) (take_zipped (IsSide s0) (sides one) its i h l)

-- what is told of a set
pub way_is : (one other : Report) (end against : Option ℕ) (n : ℕ) (has scope : List Bool → Bool) (made : Way) → length one.options ≡ n → ((c : List Bool) → scope c ≡ has_either one other c) → made.one ≡ words_of one end → made.other ≡ words_of other against → made.number ≡ number n has
    → made.rule ≡ rule_within n has scope → made.difference ≡ difference_at one other made.example → made ≡ way_of one other end against has made.example
way_is one other end against n has scope made options same here there count rule difference =
    let counted : made.number ≡ number (length one.options) has = count ∙ (λ i. number (sym options i) has) in
    let ruled : made.rule ≡ rule_within (length one.options) has (has_either one other) = rule ∙ (λ i. rule_within (sym options i) has (λ c. same c i)) in
    λ i. record { one = here i; other = there i; number = counted i; rule = ruled i; example = made.example; difference = difference i }

-- ---- where they differ

-- the configurations at which one of two reports has an end
pub either_is : {I : Type 0} {s1 s2 s3 : Sets I} → Extends s1 s2 → (one other : Report) (ended against of : I) → IsSet s1 ended (has_end one) → IsSet s2 against (has_end other) → IsSet s3 of (λ c. s2.test ended c || s2.test against c) → IsSet s3 of (has_either one other)
either_is {I} {s1} {s2} {s3} x one other ended against of e a o = record { known = o.known; test = λ c. o.test c ∙ (λ i. (x.test ended c e.known ∙ e.test c) i || a.test c i) }

-- those at which they differ
pub differ_is : {I : Type 0} {s0 s3 s4 : Sets I} → Extends s0 s3 → (one other : Report) (agree of differ : I) → IsAgreement s0 one other agree → IsSet s3 of (has_either one other) → IsSet s4 differ (λ c. s3.test of c && not (s3.test agree c)) → IsSet s4 differ (differs one other)
differ_is {I} {s0} {s3} {s4} x one other agree of differ a o d = record {
  known = d.known;
  test = λ c. d.test c ∙ (λ i. o.test c i && not ((x.test agree c a.known ∙ agreement_test one other agree a c) i));
}

-- the whole comparison
pub compared_is : {I : Type 0} {s0 s1 : Sets I} → Extends s0 s1 → (one other : Report) (of differ : I) (made : Compared) → length one.options ≡ s0.options → IsSet s0 of (has_either one other) → IsSet s0 differ (differs one other) → made.of ≡ number s1.options (s1.test of)
    → made.differ ≡ number s1.options (s1.test differ) → made.rule ≡ rule_within s0.options (s0.test differ) (s0.test of) → made.ways ≡ ways_of one other → made ≡ compared_of one other
compared_is {I} {s0} {s1} x one other of differ made n o d h k r w =
    let count : s1.options ≡ length one.options = x.options ∙ sym n in
    let all : made.of ≡ number (length one.options) (has_either one other) = h ∙ (λ i. number (count i) (λ c. (x.test of c o.known ∙ o.test c) i)) in
    let some : made.differ ≡ number (length one.options) (differs one other) = k ∙ (λ i. number (count i) (λ c. (x.test differ c d.known ∙ d.test c) i)) in
    let rule : made.rule ≡ rule_within (length one.options) (differs one other) (has_either one other) = r ∙ (λ i. rule_within (sym n i) (λ c. d.test c i) (λ c. o.test c i)) in
    λ i. record { of = all i; differ = some i; rule = rule i; ways = w i }
