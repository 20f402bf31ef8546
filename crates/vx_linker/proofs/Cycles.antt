-- Cycles among classes, as the places of their parents show them.
use Rattle.std.proofs.Common.{◌≡◌, ℕ, List, [], ◌∷◌, ◌++◌, map, refl, ap, sym, ◌∙◌, Bool, false, zero, suc, Option, Some, None, ◌||◌, bytes_eq, nat_eq, length, slice_get, option_map, unwrap_or, option_to_list, get_or}
use Rattle.std.specs.List.{list_any, filter_map, cons_option}
use Rattle.std.proofs.lemmas.List.{length-map}
use Rattle.std.proofs.lemmas.List.Quantifiers.{position-Some}
use Rattle.std.proofs.lemmas.Bool.Decides.{Decides-eqb, same_from_decides}
use Rattle.std.proofs.lemmas.Slice.Eq.{bytes_eq-Decides}
use Rattle.vx_class.specs.declared.class_file.ClassFile.{ClassFile}
use Rattle.vx_names.specs.Names.{place_of}
use Rattle.vx_ancestry.specs.Ancestors as places
use Rattle.vx_ancestry.proofs.Rounds.{list_any-flat_map}
use Rattle.vx_link.specs.Faults.{name_of, super_name, interface_names, file_named, parents_of, ancestors, is_own_ancestor}
use Rattle.vx_link.specs.Names.{class_name}
use Rattle.vx_link.specs.Tables.{names_of, parent_places, place_of_class, all_parents}
use Rattle.vx_linker.proofs.Lookups.{file_there, file_absent}
use Rattle.vx_ancestry.proofs.Ranked.{false-unless}

-- ---- the places of a class's parents

cons_option-append : {B : Type 0} (o : Option B) (all xs ys : List B) → all ≡ xs ++ ys → cons_option o all ≡ cons_option o xs ++ ys
cons_option-append None all xs ys h = h
cons_option-append (Some y) all xs ys h = ap (λ r. y ∷ r) h

filter_map-append : {A B : Type 0} (f : A → Option B) (xs ys : List A) → filter_map f (xs ++ ys) ≡ filter_map f xs ++ filter_map f ys
filter_map-append f [] ys = refl
filter_map-append f (x ∷ xs) ys = cons_option-append (f x) (filter_map f (xs ++ ys)) (filter_map f xs) (filter_map f ys) (filter_map-append f xs ys)

filter_map-map : {A B C : Type 0} (f : B → Option C) (h : A → B) (xs : List A) → filter_map f (map h xs) ≡ filter_map (λ x. f (h x)) xs
filter_map-map f h [] = refl
filter_map-map f h (x ∷ xs) = ap (cons_option (f (h x))) (filter_map-map f h xs)

pub parents-split : (all : List ClassFile) (c : ClassFile) → parent_places all c ≡ filter_map (place_of (names_of all)) (option_to_list (super_name c)) ++ filter_map (place_of_class all c.pool) c.interfaces
parents-split all c =
    filter_map-append (place_of (names_of all)) (option_to_list (super_name c)) (interface_names c)
    ∙ ap (λ r. filter_map (place_of (names_of all)) (option_to_list (super_name c)) ++ r) (filter_map-map (place_of (names_of all)) (class_name c.pool) c.interfaces)

slice_get-map : {A B : Type 0} (f : A → B) (xs : List A) (i : ℕ) → slice_get (map f xs) i ≡ option_map f (slice_get xs i)
slice_get-map f [] i = refl
slice_get-map f (x ∷ xs) zero = refl
slice_get-map f (x ∷ xs) (suc i) = slice_get-map f xs i

row-of : (all : List ClassFile) (o : Option ClassFile) → unwrap_or (option_map (parent_places all) o) [] ≡ filter_map (place_of (names_of all)) (parents_of o)
row-of all None = refl
row-of all (Some c) = refl

-- the parents of a place are those of the class there
row-at : (all : List ClassFile) (name : List ℕ) (place : ℕ) → Some place ≡ place_of (names_of all) name → places.parents_of (all_parents all) place ≡ filter_map (place_of (names_of all)) (parents_of (file_named all name))
row-at all name place h =
    ap (λ o. unwrap_or o []) (slice_get-map (parent_places all) all place ∙ ap (option_map (parent_places all)) (file_there all (names_of all) name place refl h))
    ∙ row-of all (file_named all name)

-- ---- names and places

at-place : (names : List (List ℕ)) (name : List ℕ) (place : ℕ) → Some place ≡ place_of names name → get_or names place [] ≡ name
at-place names name place h =
    (bytes_eq-Decides (get_or names place []) name).0 (position-Some (λ n. bytes_eq n name) names place [] (sym h)).1

-- names of two places are the same exactly where the places are
same-place : (names : List (List ℕ)) (a b : List ℕ) (i j : ℕ) → Some i ≡ place_of names a → Some j ≡ place_of names b → bytes_eq a b ≡ nat_eq i j
same-place names a b i j h k =
    let d = bytes_eq-Decides a b in
    let e = Decides-eqb i j in
    let forth : a ≡ b → i ≡ j = λ (q : a ≡ b). some-same i j (h ∙ ap (place_of names) q ∙ sym k) in
    let back : i ≡ j → a ≡ b = λ (q : i ≡ j). sym (at-place names a i h) ∙ ap (λ n. get_or names n []) q ∙ at-place names b j k in
    same_from_decides (bytes_eq a b) (nat_eq i j) d (λ q. back (e.0 q), λ q. e.1 (forth q))
  where
    some-same : (i j : ℕ) → Some i ≡ Some j → i ≡ j
    some-same i j q = cc

other-name : (names : List (List ℕ)) (a b : List ℕ) (i : ℕ) → Some i ≡ place_of names a → None ≡ place_of names b → bytes_eq a b ≡ false
other-name names a b i h k = false-unless (bytes_eq a b) (λ q. none-some i (k ∙ ap (place_of names) (sym ((bytes_eq-Decides a b).0 q)) ∙ sym h))
  where
    none-some : (i : ℕ) → None ≡ Some i → ⊥
    none-some i q = cc

-- ---- ancestors by name and by place

by_place : List (List ℕ) → ℕ → ℕ → Option ℕ → Bool
by_place parents n above None = false
by_place parents n above (Some place) = places.is_ancestor_within parents n above place

absent : (all : List ClassFile) (name : List ℕ) → None ≡ place_of (names_of all) name → (n : ℕ) → ancestors all n name ≡ []
absent all name h zero = refl
absent all name h (suc n) = rw (← (file_absent all (names_of all) name refl h)) refl

module _ (all : List ClassFile) (target : List ℕ) (above : ℕ) (is_there : Some above ≡ place_of (names_of all) target) (n : ℕ) where
  head-at : (o : Option ℕ) (p : List ℕ) → o ≡ place_of (names_of all) p → list_any (bytes_eq target) (ancestors all n p) ≡ by_place (all_parents all) n above o
      → (rest : Bool) (ps : List ℕ) → rest ≡ list_any (λ q. list_any (nat_eq above) (q ∷ places.ancestors (all_parents all) n q)) ps
      → (list_any (bytes_eq target) (p ∷ ancestors all n p) || rest) ≡ list_any (λ q. list_any (nat_eq above) (q ∷ places.ancestors (all_parents all) n q)) (cons_option o ps)
  unfolding by_place
  head-at None p e h rest ps k = rw (other-name (names_of all) target p above is_there e, h) k
  head-at (Some q) p e h rest ps k = rw (same-place (names_of all) target p above q is_there e, h, k) refl

  walk : ((p : List ℕ) → list_any (bytes_eq target) (ancestors all n p) ≡ by_place (all_parents all) n above (place_of (names_of all) p)) → (ps : List (List ℕ))
      → list_any (λ p. list_any (bytes_eq target) (p ∷ ancestors all n p)) ps ≡ list_any (λ q. list_any (nat_eq above) (q ∷ places.ancestors (all_parents all) n q)) (filter_map (place_of (names_of all)) ps)
  walk ih [] = refl
  walk ih (p ∷ ps) =
      head-at (place_of (names_of all) p) p refl (ih p) (list_any (λ p. list_any (bytes_eq target) (p ∷ ancestors all n p)) ps) (filter_map (place_of (names_of all)) ps) (walk ih ps)

  one-step : ((p : List ℕ) → list_any (bytes_eq target) (ancestors all n p) ≡ by_place (all_parents all) n above (place_of (names_of all) p)) → (name : List ℕ) (o : Option ℕ) → o ≡ place_of (names_of all) name
      → list_any (bytes_eq target) (ancestors all (suc n) name) ≡ by_place (all_parents all) (suc n) above o
  unfolding by_place
  one-step ih name None e = ap (list_any (bytes_eq target)) (absent all name e (suc n))
  one-step ih name (Some place) e =
      list_any-flat_map (bytes_eq target) (λ p. p ∷ ancestors all n p) (parents_of (file_named all name))
      ∙ walk ih (parents_of (file_named all name))
      ∙ ap (list_any (λ q. list_any (nat_eq above) (q ∷ places.ancestors (all_parents all) n q))) (sym (row-at all name place e))
      ∙ sym (list_any-flat_map (nat_eq above) (λ q. q ∷ places.ancestors (all_parents all) n q) (places.parents_of (all_parents all) place))

by_place-zero : (parents : List (List ℕ)) (above : ℕ) (o : Option ℕ) → false ≡ by_place parents 0 above o
unfolding by_place
by_place-zero parents above None = refl
by_place-zero parents above (Some place) = refl

above-is : (all : List ClassFile) (target : List ℕ) (above : ℕ) → Some above ≡ place_of (names_of all) target → (n : ℕ) (name : List ℕ)
    → list_any (bytes_eq target) (ancestors all n name) ≡ by_place (all_parents all) n above (place_of (names_of all) name)
above-is all target above h zero name = by_place-zero (all_parents all) above (place_of (names_of all) name)
above-is all target above h (suc n) name = one-step all target above h n (above-is all target above h n) name (place_of (names_of all) name) refl

-- ---- classes that are their own ancestors

pub own_at : (all : List ClassFile) (c : ClassFile) (place : ℕ) → Some place ≡ place_of (names_of all) (name_of c) → places.is_own_ancestor (all_parents all) place ≡ is_own_ancestor all c
unfolding by_place
own_at all c place h =
    ap (λ n. places.is_ancestor_within (all_parents all) n place place) (length-map all (parent_places all))
    ∙ ap (by_place (all_parents all) (length all) place) h
    ∙ sym (above-is all (name_of c) place h (length all) (name_of c))

pub own_nowhere : (all : List ClassFile) (c : ClassFile) → None ≡ place_of (names_of all) (name_of c) → false ≡ is_own_ancestor all c
own_nowhere all c h = sym (ap (list_any (bytes_eq (name_of c))) (absent all (name_of c) h (length all)))
