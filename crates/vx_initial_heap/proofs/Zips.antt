-- Two lists that belong together place by place, one of which grows.
use Rattle.std.proofs.Common.{◌≡◌, ℕ, ◌+◌, ◌<◌, List, [], ◌∷◌, ◌++◌, map, take, length, get_or, subst}
use Rattle.std.specs.List.{AllZip}
use Rattle.std.proofs.lemmas.List.{take_more}

module _ {A B : Type 0} (R : A → B → Type 0) where
  pub zip_push : (xs : List A) (ys : List B) (x : A) (y : B) → AllZip R xs ys → R x y → AllZip R (xs ++ x ∷ []) (ys ++ y ∷ [])
  zip_push [] [] x y h r = (r, tt)
  zip_push [] (b ∷ ys) x y h r = absurd h
  zip_push (a ∷ xs) [] x y h r = absurd h
  zip_push (a ∷ xs) (b ∷ ys) x y h r = (h.0, zip_push xs ys x y h.1 r)

  pub zip_append : (xs : List A) (ys : List B) (xs' : List A) (ys' : List B) → AllZip R xs ys → AllZip R xs' ys' → AllZip R (xs ++ xs') (ys ++ ys')
  zip_append [] [] xs' ys' h k = k
  zip_append [] (b ∷ ys) xs' ys' h k = absurd h
  zip_append (a ∷ xs) [] xs' ys' h k = absurd h
  zip_append (a ∷ xs) (b ∷ ys) xs' ys' h k = (h.0, zip_append xs ys xs' ys' h.1 k)

  -- one more of a list that is gone through by an index
  pub zip_step : (xs : List A) (ys : List B) (i : ℕ) (x : A) (y : B) → AllZip R (take i xs) ys → i < length xs → x ≡ get_or xs i x → R x y → AllZip R (take (i + 1) xs) (ys ++ y ∷ [])
  zip_step xs ys i x y h l e r =
      let here : R (get_or xs i x) y = subst (λ z. R z y) e r in
      rw (take_more xs i x l) (zip_push (take i xs) ys (get_or xs i x) y h here)

  -- the same, where the item is read with a default
  pub zip_read : (xs : List A) (ys : List B) (i : ℕ) (d : A) (y : B) → AllZip R (take i xs) ys → i < length xs → R (get_or xs i d) y → AllZip R (take (i + 1) xs) (ys ++ y ∷ [])
  zip_read xs ys i d y h l r = rw (take_more xs i d l) (zip_push (take i xs) ys (get_or xs i d) y h r)

module _ {A B : Type 0} {R Q : A → B → Type 0} where
  pub zip_each : ((x : A) (y : B) → R x y → Q x y) → (xs : List A) (ys : List B) → AllZip R xs ys → AllZip Q xs ys
  zip_each f [] [] h = tt
  zip_each f [] (b ∷ ys) h = absurd h
  zip_each f (a ∷ xs) [] h = absurd h
  zip_each f (a ∷ xs) (b ∷ ys) h = (f a b h.0, zip_each f xs ys h.1)

-- one of the lists as what its items are seen as
pub zip_map : {A B C : Type 0} (R : A → B → Type 0) (f : C → A) (xs : List C) (ys : List B) → AllZip (λ x y. R (f x) y) xs ys → AllZip R (map f xs) ys
zip_map R f [] [] h = tt
zip_map R f [] (b ∷ ys) h = absurd h
zip_map R f (a ∷ xs) [] h = absurd h
zip_map R f (a ∷ xs) (b ∷ ys) h = (h.0, zip_map R f xs ys h.1)
