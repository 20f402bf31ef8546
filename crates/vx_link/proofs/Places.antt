-- The names of classes and the places of their first classes, class by class.
use Rattle.std.proofs.Common.{◌≡◌, ℕ, ◌+◌, ◌<◌, suc, Bool, true, false, List, [], ◌∷◌, ◌++◌, length, get_or, refl, sym, ◌∙◌, ap, subst, Option, Some, None, arith, bytes_eq, cond, if◌then◌else◌, take}
use Rattle.std.proofs.Math.ListN.{get_or-append}
use Rattle.std.proofs.Math.Seq.{get_or-append_seam, take-length, take-suc}
use Rattle.std.proofs.lemmas.Grind.{get_or_default_zero}
use Rattle.std.proofs.lemmas.List.{length-append, length-take-le}
use Rattle.std.proofs.lemmas.List.Quantifiers.{position-Some}
use Rattle.std.proofs.lemmas.Slice.Eq.{bytes_eq-Decides}
use Rattle.std.specs.List.{list_any}
use Rattle.std.specs.Option.{option_or}
use Rattle.std.specs.Prelude.{option_map, position, slice_index, ◌||◌}
use Rattle.vx_link.specs.declared.program.LinkedClass.{LinkedClass}
use Rattle.vx_names.proofs.Keys.{position-append, position-cons}
use Rattle.vx_names.specs.Names.{has_name, place_of, with_name}
use Rattle.vx_link.specs.ClassPlaces.{ArePlaces}

pub no_places : ArePlaces [] [] []
no_places = record { count = refl; found = λ name. refl }

-- a name at the end is found there
abbrev placed : List LinkedClass → List ℕ → Option ℕ
placed classes name = position (λ c. bytes_eq c.name name) classes

last : {A : Type 0} (q : A → Bool) (xs : List A) (x : A) → position q (xs ++ x ∷ []) ≡ option_or (position q xs) (cond (q x) (Some (length xs)) None)
last q xs x = position-append q xs (x ∷ []) ∙ ap (λ o. option_or (position q xs) (option_map (λ n. length xs + n) o)) (position-cons q x []) ∙ ap (option_or (position q xs)) (at_end (q x))
  where
    at_end : (b : Bool) → option_map (λ n. length xs + n) (cond b (Some 0) (option_map suc None)) ≡ cond b (Some (length xs)) None
    at_end true = ap Some (omega arith)
    at_end false = refl

-- a class of a new name
module _ (classes : List LinkedClass) (c : LinkedClass) (names : List (List ℕ)) (places : List ℕ) (a : ArePlaces classes names places) where
  behind : (o : Option ℕ) (b : Bool) → ((k : ℕ) → o ≡ Some k → k < length places)
      → option_map (slice_index (places ++ length classes ∷ [])) (option_or o (cond b (Some (length names)) None)) ≡ option_or (option_map (slice_index places) o) (cond b (Some (length classes)) None)
  behind (Some k) b within = ap Some (get_or-append places (length classes ∷ []) 0 k (within k refl))
  behind None true within = ap Some (ap (λ k. get_or (places ++ length classes ∷ []) k 0) (sym a.count) ∙ get_or-append_seam places (length classes) [] 0)
  behind None false within = refl

  found_new : (name : List ℕ) → option_map (slice_index (places ++ length classes ∷ [])) (place_of (names ++ c.name ∷ []) name) ≡ placed (classes ++ c ∷ []) name
  found_new name =
      ap (option_map (slice_index (places ++ length classes ∷ []))) (last (λ n. bytes_eq n name) names c.name)
      ∙ behind (place_of names name) (bytes_eq c.name name) (λ k e. subst (λ n. k < n) (sym a.count) (position-Some (λ n. bytes_eq n name) names k [] e).0)
      ∙ ap (λ o. option_or o (cond (bytes_eq c.name name) (Some (length classes)) None)) (a.found name)
      ∙ sym (last (λ x. bytes_eq x.name name) classes c)

  pub added_new : ArePlaces (classes ++ c ∷ []) (names ++ c.name ∷ []) (places ++ length classes ∷ [])
  added_new = record {
    count = length-append places (length classes ∷ []) ∙ ap (λ n. n + 1) a.count ∙ sym (length-append names (c.name ∷ []));
    found = found_new;
  }

  -- and one of a name that is there already
  there : {A : Type 0} (q : A → Bool) (xs : List A) → list_any q xs ≡ true → (k : ℕ) × (position q xs ≡ Some k)
  there q [] h = absurd (cc h)
  there q (x ∷ xs) h = by_first (q x) h (position-cons q x xs) (there q xs)
    where
      by_first : (b : Bool) → (b || list_any q xs) ≡ true → position q (x ∷ xs) ≡ cond b (Some 0) (option_map suc (position q xs))
          → (list_any q xs ≡ true → (k : ℕ) × (position q xs ≡ Some k)) → (k : ℕ) × (position q (x ∷ xs) ≡ Some k)
      by_first true h e behind = (0, e)
      by_first false h e behind = let rest = behind h in (suc rest.0, e ∙ ap (option_map suc) rest.1)

  stays : (name : List ℕ) (o : Option ℕ) (b : Bool) → (b ≡ true → (k : ℕ) × (o ≡ Some k)) → option_or o (cond b (Some (length classes)) None) ≡ o
  stays name (Some k) b h = refl
  stays name None false h = refl
  stays name None true h = absurd (cc (h refl).1)

  pub added_known : has_name names c.name ≡ true → ArePlaces (classes ++ c ∷ []) names places
  added_known h = record {
    count = a.count;
    found = λ name.
        a.found name
        ∙ sym (stays name (placed classes name) (bytes_eq c.name name) (λ e.
        let k = there (λ n. bytes_eq n name) names (subst (λ n. has_name names n ≡ true) ((bytes_eq-Decides c.name name).0 e) h) in
        (slice_index places k.0, sym (a.found name) ∙ ap (option_map (slice_index places)) k.1)))
        ∙ sym (last (λ x. bytes_eq x.name name) classes c);
  }

  added_at : (b : Bool) → has_name names c.name ≡ b → ArePlaces (classes ++ c ∷ []) (if b then names else names ++ c.name ∷ []) (if b then places else places ++ length classes ∷ [])
  added_at true h = added_known h
  added_at false h = added_new

  pub added : ArePlaces (classes ++ c ∷ []) (with_name names c.name) (if has_name names c.name then places else places ++ length classes ∷ [])
  added = added_at (has_name names c.name) refl

-- the step of a loop over the classes
pub one_more : (classes : List LinkedClass) (i : ℕ) (c : LinkedClass) (names later : List (List ℕ)) (places more : List ℕ) → i < length classes → c ≡ get_or classes i c
    → ArePlaces (take i classes) names places → later ≡ with_name names c.name → more ≡ (if has_name names c.name then places else places ++ i ∷ [])
    → ArePlaces (take (i + 1) classes) later more
one_more classes i c names later places more within is a n p =
    let count : length (take i classes) ≡ i = length-take-le i classes (omega arith) in
    let next : suc i ≡ i + 1 = omega arith in
    let front : take i classes ++ c ∷ [] ≡ take (i + 1) classes = ap (λ x. take i classes ++ x ∷ []) is ∙ sym (take-suc classes i c within) ∙ ap (λ n. take n classes) next in
    let places_are : (if has_name names c.name then places else places ++ length (take i classes) ∷ []) ≡ more = ap (λ k. if has_name names c.name then places else places ++ k ∷ []) count ∙ sym p in
    subst (λ cs. ArePlaces cs later more) front
    (subst (λ m. ArePlaces (take i classes ++ c ∷ []) later m) places_are
    (subst (λ ns. ArePlaces (take i classes ++ c ∷ []) ns (if has_name names c.name then places else places ++ length (take i classes) ∷ [])) (sym n)
    (added (take i classes) c names places a)))

pub all_of : (classes : List LinkedClass) (n : ℕ) (names : List (List ℕ)) (places : List ℕ) → n ≡ length classes → ArePlaces (take n classes) names places → ArePlaces classes names places
all_of classes n names places e a = subst (λ cs. ArePlaces cs names places) (ap (λ k. take k classes) e ∙ take-length classes) a

-- ---- a class by its name

pub place_there : (classes : List LinkedClass) (names : List (List ℕ)) (places : List ℕ) (name : List ℕ) (k place : ℕ) → ArePlaces classes names places → Some k ≡ place_of names name → k < length names
    → place ≡ get_or places k place → Some place ≡ position (λ c. bytes_eq c.name name) classes
place_there classes names places name k place a e within is =
    let there : k < length places = subst (λ n. k < n) (sym a.count) within in
    ap Some (is ∙ get_or_default_zero places k place there) ∙ ap (option_map (slice_index places)) e ∙ a.found name

pub place_nowhere : (classes : List LinkedClass) (names : List (List ℕ)) (places : List ℕ) (name : List ℕ) → ArePlaces classes names places → None ≡ place_of names name
    → None ≡ position (λ c. bytes_eq c.name name) classes
place_nowhere classes names places name a e = ap (option_map (slice_index places)) e ∙ a.found name

pub place_within : (classes : List LinkedClass) (name : List ℕ) (k : ℕ) → Some k ≡ position (λ c. bytes_eq c.name name) classes → k < length classes
place_within [] name k e = absurd (cc e)
place_within (c ∷ cs) name k e = (position-Some (λ x. bytes_eq x.name name) (c ∷ cs) k c (sym e)).0
