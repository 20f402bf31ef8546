-- The nodes of a trie: each ends a text of its own.
use Rattle.std.proofs.Common.{◌≡◌, ℕ, zero, suc, ◌+◌, ◌<◌, ◌⊎◌, ◌&&◌, List, [], ◌∷◌, ◌++◌, refl, ap, sym, ◌∙◌, Bool, true, false, Some, slice_get, length, take, get_or, arith, nat_eq, true≢false, if◌then◌else◌, inl, inr, subst}
use Rattle.std.specs.List.{list_any, fold}
use Rattle.std.proofs.Math.Nat.{eq-or-lt_of_le}
use Rattle.std.proofs.Math.Seq.{get_or-append_seam}
use Rattle.std.proofs.lemmas.Bool.{eq-eqb, eqb-true}
use Rattle.std.proofs.lemmas.List.{append_assoc, length-append, get_or_append_left, take_more}
use Rattle.std.proofs.lemmas.List.Folds.{list_any_at}
use Rattle.std.proofs.lemmas.List.Sums.{fold_push}
use Rattle.std.proofs.lemmas.Option.{unwrap_or-slice_get, get_or_from_slice_get, slice_get_within}
use Rattle.vx_list.specs.Places.{item_or}
use Rattle.vx_value.specs.Texts.{AreDistinct, Extends, IsNumber, text_at}
use Rattle.vx_value.specs.Trie.{AreSteps, IsStep, paths, stepped, with_step}
use Rattle.vx_value.proofs.Numbering.{Extends-refl, Extends-trans, last-distinct, last-extends, last-text}

-- ---- the texts that end at the nodes

fold-extends : (steps : List (ℕ × ℕ)) (done : List (List ℕ)) → Extends done (fold with_step done steps)
fold-extends [] done = Extends-refl done
fold-extends (step ∷ steps) done =
    Extends-trans done (with_step done step) (fold with_step (with_step done step) steps) (last-extends done (stepped done step)) (fold-extends steps (with_step done step))

fold-length : (steps : List (ℕ × ℕ)) (done : List (List ℕ)) → length (fold with_step done steps) ≡ length done + length steps
fold-length [] done = omega arith
fold-length (step ∷ steps) done =
    let rest = fold-length steps (with_step done step) in
    let one = length-append done (stepped done step ∷ []) in
    omega (arith, rest, one)

-- the empty text ends at the first node
pub first_node : (steps : List (ℕ × ℕ)) → IsNumber (paths steps) 0 []
unfolding paths
first_node steps = fold-extends steps ([] ∷ []) 0 (omega arith)

pub length-paths : (steps : List (ℕ × ℕ)) → length (paths steps) ≡ suc (length steps)
unfolding paths
length-paths steps = let all = fold-length steps ([] ∷ []) in omega (arith, all)

paths-push : (steps : List (ℕ × ℕ)) (step : ℕ × ℕ) → paths (steps ++ step ∷ []) ≡ with_step (paths steps) step
unfolding paths
paths-push steps step = fold_push with_step ([] ∷ []) steps step

extends-push : (steps : List (ℕ × ℕ)) (step : ℕ × ℕ) → Extends (paths steps) (paths (steps ++ step ∷ []))
extends-push steps step = rw (paths-push steps step) (last-extends (paths steps) (stepped (paths steps) step))

pub none-steps : AreSteps []
none-steps place within = absurd (omega arith)

pub first-distinct : AreDistinct (paths [])
unfolding paths
first-distinct a b ah bh e = omega arith

-- ---- one step more

IsStep-extends : (before after : List (List ℕ)) (place : ℕ) (step : ℕ × ℕ) → Extends before after → suc place < length before → IsStep before place step → IsStep after place step
IsStep-extends before after place step extends within is =
    let start = extends step.0 is.0 in
    (start.known, (extends (suc place) within).text ∙ is.1 ∙ ap (λ text. text ++ step.1 ∷ []) (sym start.text))

item-get_or : (steps : List (ℕ × ℕ)) (place : ℕ) → item_or steps place (0, 0) ≡ get_or steps place (0, 0)
item-get_or steps place = unwrap_or-slice_get steps place (0, 0)

module _ (steps : List (ℕ × ℕ)) (step : ℕ × ℕ) (are_steps : AreSteps steps) (known : step.0 < length (paths steps)) where
  push-steps : AreSteps (steps ++ step ∷ [])
  push-steps place within = by (eq-or-lt_of_le (omega (arith, within, length-append steps (step ∷ []))))
    where
      by : (place ≡ length steps) ⊎ (place < length steps) → IsStep (paths (steps ++ step ∷ [])) place (item_or (steps ++ step ∷ []) place (0, 0))
      by (inl e) =
          let item : item_or (steps ++ step ∷ []) (length steps) (0, 0) ≡ step = item-get_or (steps ++ step ∷ []) (length steps) ∙ get_or-append_seam steps step [] (0, 0) in
          let start = extends-push steps step step.0 known in
          let last = last-text (paths steps) (stepped (paths steps) step) in
          let behind : suc (length steps) ≡ length (paths steps) = sym (length-paths steps) in
          rw (e, item) (
            start.known,
            ap (text_at (paths (steps ++ step ∷ []))) behind ∙ ap (λ all. text_at all (length (paths steps))) (paths-push steps step) ∙ last.text
                ∙ ap (λ text. text ++ step.1 ∷ []) (sym start.text),
          )
      by (inr before) =
          let item : item_or (steps ++ step ∷ []) place (0, 0) ≡ item_or steps place (0, 0) =
          item-get_or (steps ++ step ∷ []) place ∙ get_or_append_left steps (step ∷ []) (0, 0) place before ∙ sym (item-get_or steps place) in
          rw item
          (IsStep-extends (paths steps) (paths (steps ++ step ∷ [])) place (item_or steps place (0, 0)) (extends-push steps step) (omega (arith, before, length-paths steps)) (are_steps place before))

-- ---- no text ends at two nodes

cons_inj : (x y : ℕ) (xs ys : List ℕ) → x ∷ xs ≡ y ∷ ys → (x ≡ y) × (xs ≡ ys)
cons_inj x y xs ys e = (cc, cc)

last_inj : (xs ys : List ℕ) (x y : ℕ) → xs ++ x ∷ [] ≡ ys ++ y ∷ [] → (xs ≡ ys) × (x ≡ y)
last_inj [] [] x y e = (refl, (cons_inj x y [] [] e).0)
last_inj [] (b ∷ ys) x y e = let long = ap length e in let more = length-append ys (y ∷ []) in absurd (omega (arith, long, more))
last_inj (a ∷ xs) [] x y e = let long = ap length e in let more = length-append xs (x ∷ []) in absurd (omega (arith, long, more))
last_inj (a ∷ xs) (b ∷ ys) x y e =
    let parts = cons_inj a b (xs ++ x ∷ []) (ys ++ y ∷ []) e in
    let rest = last_inj xs ys x y parts.1 in
    ((λ i. parts.0 i ∷ rest.0 i), rest.1)

not_empty : (xs : List ℕ) (x : ℕ) → [] ≡ xs ++ x ∷ [] → ⊥
not_empty xs x e = let long = ap length e in let more = length-append xs (x ∷ []) in absurd (omega (arith, long, more))

abbrev pub same_step : ℕ × ℕ → ℕ × ℕ → Bool
same_step a b = nat_eq a.0 b.0 && nat_eq a.1 b.1

and_parts : (a b : Bool) → (a && b) ≡ true → (a ≡ true) × (b ≡ true)
and_parts true true e = (refl, refl)
and_parts true false e = absurd (true≢false (sym e))
and_parts false b e = absurd (true≢false (sym e))

steps_are_one : (a b : ℕ × ℕ) → same_step a b ≡ true → a ≡ b
steps_are_one a b e = let parts = and_parts (nat_eq a.0 b.0) (nat_eq a.1 b.1) e in (λ i. (eqb-true a.0 b.0 parts.0 i, eqb-true a.1 b.1 parts.1 i))

step_is_itself : (a b : ℕ × ℕ) → a.0 ≡ b.0 → a.1 ≡ b.1 → same_step a b ≡ true
step_is_itself a b e f = ap (λ t. t && nat_eq a.1 b.1) (eq-eqb a.0 b.0 e) ∙ eq-eqb a.1 b.1 f

module _ (steps : List (ℕ × ℕ)) (step : ℕ × ℕ) (are_steps : AreSteps steps) (distinct : AreDistinct (paths steps)) (known : step.0 < length (paths steps)) where
  push-distinct : list_any (same_step step) steps ≡ false → AreDistinct (paths (steps ++ step ∷ []))
  push-distinct none = rw (paths-push steps step) (last-distinct (paths steps) (stepped (paths steps) step) is_new distinct)
    where
      is_new : (node : ℕ) → node < length (paths steps) → text_at (paths steps) node ≡ stepped (paths steps) step → ⊥
      is_new zero within e = not_empty (text_at (paths steps) step.0) step.1 (sym (first_node steps).text ∙ e)
      is_new (suc place) within e =
          let before : place < length steps = omega (arith, within, length-paths steps) in
          let is = are_steps place before in
          let other = item_or steps place (0, 0) in
          let same = last_inj (text_at (paths steps) step.0) (text_at (paths steps) other.0) step.1 other.1 (sym e ∙ is.1) in
          let found : same_step step (get_or steps place (0, 0)) ≡ true =
          ap (same_step step) (sym (item-get_or steps place)) ∙ step_is_itself step other (distinct step.0 other.0 known is.0 same.0) same.1 in
          true≢false (sym (list_any_at (same_step step) steps place (0, 0) before found) ∙ none)

  -- after a step was put unless it was there
  pub insert-steps : AreSteps (if list_any (same_step step) steps then steps else steps ++ step ∷ [])
  insert-steps = by (list_any (same_step step) steps)
    where
      by : (b : Bool) → AreSteps (if b then steps else steps ++ step ∷ [])
      by true = are_steps
      by false = push-steps steps step are_steps known

  pub insert-distinct : AreDistinct (paths (if list_any (same_step step) steps then steps else steps ++ step ∷ []))
  insert-distinct = by (list_any (same_step step) steps) refl
    where
      by : (b : Bool) → list_any (same_step step) steps ≡ b → AreDistinct (paths (if b then steps else steps ++ step ∷ []))
      by true e = distinct
      by false e = push-distinct e

  pub insert-extends : Extends (paths steps) (paths (if list_any (same_step step) steps then steps else steps ++ step ∷ []))
  insert-extends = by (list_any (same_step step) steps)
    where
      by : (b : Bool) → Extends (paths steps) (paths (if b then steps else steps ++ step ∷ []))
      by true = Extends-refl (paths steps)
      by false = extends-push steps step

-- the node of the place where a step stands ends its text
pub stepped-is : (before steps : List (ℕ × ℕ)) (step found : ℕ × ℕ) (place : ℕ) → AreSteps steps → Extends (paths before) (paths steps) → step.0 < length (paths before)
    → slice_get steps place ≡ Some found → same_step step found ≡ true → IsNumber (paths steps) (place + 1) (stepped (paths before) step)
stepped-is before steps step found place are_steps extends known there same =
    let within = slice_get_within steps place found there in
    let item : item_or steps place (0, 0) ≡ step = item-get_or steps place ∙ get_or_from_slice_get steps place found (0, 0) there ∙ sym (steps_are_one step found same) in
    let one : place + 1 ≡ suc place = omega arith in
    record {
      known = omega (arith, within, length-paths steps);
      text = ap (text_at (paths steps)) one ∙ (subst (IsStep (paths steps) place) item (are_steps place within)).1 ∙ ap (λ text. text ++ step.1 ∷ []) (extends step.0 known).text;
    }

-- a text that is walked by one unit more
pub walked-more : (before after : List (List ℕ)) (node end : ℕ) (text units : List ℕ) (index : ℕ) → index < length units
    → IsNumber before node (text ++ take index units) → IsNumber after end (text_at before node ++ get_or units index 0 ∷ []) → IsNumber after end (text ++ take (index + 1) units)
walked-more before after node end text units index within at next =
    let unit = get_or units index 0 in
    record {
      known = next.known;
      text = next.text ∙ ap (λ walked. walked ++ unit ∷ []) at.text ∙ append_assoc text (take index units) (unit ∷ []) ∙ ap (λ last. text ++ last) (sym (take_more units index 0 within));
    }
