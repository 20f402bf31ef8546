-- One item more of a list that is gone through by an index, and an item that stands alone.
use Rattle.std.proofs.Common.{◌≡◌, ℕ, ◌+◌, ◌-◌, ◌<◌, Bool, List, [], ◌∷◌, ◌++◌, length, take, get_or, filter, refl, sym, ◌∙◌, ap, append-nil, append_assoc}
use Rattle.std.specs.Prelude.{Option, if◌then◌else◌, option_to_list}
use Rattle.std.specs.List.{flat_map}
use Rattle.std.proofs.lemmas.Grind.{flat_map-append}
use Rattle.std.proofs.lemmas.List.{take_more}
use Rattle.std.proofs.lemmas.List.Elements.{filter-append}

-- what a test keeps of them
filter_next : {A : Type 0} (p : A → Bool) (xs : List A) (i : ℕ) (x : A) → i < length xs → x ≡ get_or xs i x → filter p (take (i + 1) xs) ≡ filter p (take i xs) ++ (if p x then x ∷ [] else [])
filter_next {A} p xs i x l e =
    let front : List A = filter p (take i xs) in
    ap (filter p) (take_more xs i x l) ∙ filter-append p (take i xs) (get_or xs i x ∷ []) ∙ ap (λ y. front ++ filter p (y ∷ [])) (sym e)

-- behind other items
pub kept_more : {A : Type 0} (p : A → Bool) (first xs now next : List A) (i : ℕ) (x : A) → i < length xs → x ≡ get_or xs i x → now ≡ first ++ filter p (take i xs) → next ≡ now ++ (if p x then x ∷ [] else []) → next ≡ first ++ filter p (take (i + 1) xs)
kept_more {A} p first xs now next i x l e is more =
    let last : List A = if p x then x ∷ [] else [] in
    more ∙ ap (λ ys. ys ++ last) is ∙ append_assoc first (filter p (take i xs)) last ∙ ap (λ ys. first ++ ys) (sym (filter_next p xs i x l e))

-- what each of them gives, one behind the other
flat_next : {A B : Type 0} (f : A → List B) (xs : List A) (i : ℕ) (x : A) → i < length xs → x ≡ get_or xs i x → flat_map f (take (i + 1) xs) ≡ flat_map f (take i xs) ++ f x
flat_next {A} {B} f xs i x l e =
    let front : List B = flat_map f (take i xs) in
    ap (flat_map f) (take_more xs i x l) ∙ flat_map-append f (take i xs) (get_or xs i x ∷ []) ∙ ap (λ y. front ++ flat_map f (y ∷ [])) (sym e) ∙ ap (λ ys. front ++ ys) (append-nil (f x))

-- behind other items
pub given_more : {A B : Type 0} (f : A → List B) (first now next : List B) (xs : List A) (i : ℕ) (x : A) → i < length xs → x ≡ get_or xs i x → now ≡ first ++ flat_map f (take i xs) → next ≡ now ++ f x → next ≡ first ++ flat_map f (take (i + 1) xs)
given_more f first now next xs i x l e is more =
    more ∙ ap (λ ys. ys ++ f x) is ∙ append_assoc first (flat_map f (take i xs)) (f x) ∙ ap (λ ys. first ++ ys) (sym (flat_next f xs i x l e))

-- the last of at most one item is all of it
pub last_alone : {A : Type 0} (xs items rest : List A) (last : Option A) (n : ℕ) → items ≡ take 1 xs → items ≡ rest ++ option_to_list last → n ≡ length items → rest ≡ take (n - 1) items → option_to_list last ≡ take 1 xs
last_alone {A} xs items rest last n first is long front =
    let nothing : rest ≡ [] = front ∙ ap (λ m. take (m - 1) items) long ∙ ap (λ ys. take (length ys - 1) ys) first ∙ none xs in
    ap (λ ys. ys ++ option_to_list last) (sym nothing) ∙ sym is ∙ first
  where
    none : (ys : List A) → take (length (take 1 ys) - 1) (take 1 ys) ≡ []
    none [] = refl
    none (y ∷ ys) = refl
