-- Lists of shared values as lists of leaves.
use Rattle.std.proofs.Common.{◌≡◌, ℕ, Bool, false, List, [], ◌∷◌, refl, sym, ◌∙◌, ap, arith, subst, drop, zero, suc, ◌<◌, ◌≤◌, ◌+◌, length, get_or, set, if◌then◌else◌, add-zero, add-one, drop-cons}
use Rattle.std.specs.Prelude.{insert}
use Rattle.std.proofs.lemmas.List.{drop_all, get_or-map, map-set}
use Rattle.std.specs.declared.cmp.Ordering.{Ordering}
use Rattle.std.specs.declared.cmp.Ordering.TheVariants.{Less, Equal, Greater}
use Rattle.vx_cond.specs.Leaves.{IsPlace}
use Rattle.vx_cond.specs.declared.cond.Leaf.{Leaf}
use Rattle.vx_findings.specs.Shared.{leaf_of, leaves_of}
use Rattle.vx_findings.specs.declared.shared.Shared.{Shared}

pub leaves_length : {V S I : Type 0} (list : List (Shared V S I)) → length (leaves_of list) ≡ length list
leaves_length [] = refl
leaves_length (x ∷ xs) = ap suc (leaves_length xs)

-- the leaf at a place
pub leaf_at : {V S I : Type 0} (list : List (Shared V S I)) (i : ℕ) (x : Shared V S I) → i < length list → x ≡ get_or list i x → leaf_of x ≡ get_or (leaves_of list) i (leaf_of x)
leaf_at list i x within e = ap leaf_of e ∙ sym (get_or-map leaf_of list i x (leaf_of x) within)

pub leaves_set : {V S I : Type 0} (list : List (Shared V S I)) (i : ℕ) (x : Shared V S I) → leaves_of (set list i x) ≡ set (leaves_of list) i (leaf_of x)
leaves_set list i x = map-set leaf_of list i x

pub leaves_insert : {V S I : Type 0} (list : List (Shared V S I)) (i : ℕ) (x : Shared V S I) → leaves_of (insert list i x) ≡ insert (leaves_of list) i (leaf_of x)
leaves_insert [] zero x = refl
leaves_insert [] (suc i) x = refl
leaves_insert (y ∷ ys) zero x = refl
leaves_insert (y ∷ ys) (suc i) x = ap (λ zs. leaf_of y ∷ zs) (leaves_insert ys i x)

-- a place among the leaves from i on is a place among all
abbrev pub PlacesFrom : {T S I : Type 0} → (T → T → Ordering) → T → List (Leaf T S I) → ℕ → Type 0
PlacesFrom cmp value xs i = (j : ℕ) (found : Bool) → IsPlace cmp value (drop i xs) j found → IsPlace cmp value xs (i + j) found

places_here : {T S I : Type 0} (cmp : T → T → Ordering) (value : T) (xs : List (Leaf T S I)) (i : ℕ) (x : Leaf T S I) (found : Bool) → PlacesFrom cmp value xs i → i < length xs → x ≡ get_or xs i x → cmp x.value value ≡ (if found then Equal else Greater) → IsPlace cmp value xs i found
places_here {T = T} {S = S} {I = I} cmp value xs i x found f l e p =
    let P : List (Leaf T S I) → Type 0 = λ ys. IsPlace cmp value ys zero found in
    let Q : ℕ → Type 0 = λ k. IsPlace cmp value xs k found in
    subst Q (add-zero i) (f zero found (subst P (sym (drop-cons xs i x l)) (ap (λ w. cmp w.value value) (sym e) ∙ p)))

places_next : {T S I : Type 0} (cmp : T → T → Ordering) (value : T) (xs : List (Leaf T S I)) (i : ℕ) (x : Leaf T S I) → PlacesFrom cmp value xs i → i < length xs → x ≡ get_or xs i x → cmp x.value value ≡ Less → PlacesFrom cmp value xs (i + 1)
places_next {T = T} {S = S} {I = I} cmp value xs i x f l e p j found h =
    let P : List (Leaf T S I) → Type 0 = λ ys. IsPlace cmp value ys (suc j) found in
    let Q : ℕ → Type 0 = λ k. IsPlace cmp value xs k found in
    let R : ℕ → Type 0 = λ k. IsPlace cmp value (drop k xs) j found in
    let same : i + suc j ≡ i + 1 + j = omega arith in
    subst Q same (f (suc j) found (subst P (sym (drop-cons xs i x l)) (ap (λ w. cmp w.value value) (sym e) ∙ p, subst R (add-one i) h)))

places_end : {T S I : Type 0} (cmp : T → T → Ordering) (value : T) (xs : List (Leaf T S I)) (i : ℕ) → PlacesFrom cmp value xs i → i ≤ length xs → length xs ≤ i → IsPlace cmp value xs (length xs) false
places_end {T = T} {S = S} {I = I} cmp value xs i f u l =
    let P : List (Leaf T S I) → Type 0 = λ ys. IsPlace cmp value ys zero false in
    let Q : ℕ → Type 0 = λ k. IsPlace cmp value xs k false in
    let same : i + 0 ≡ length xs = omega (arith, u, l) in
    subst Q same (f zero false (subst P (sym (drop_all i xs l)) refl))

-- the walk to the place of a value
pub stands_here : {V S I : Type 0} (cmp : V → V → Ordering) (value : V) (list : List (Shared V S I)) (i : ℕ) (x : Shared V S I) (found : Bool) → PlacesFrom cmp value (leaves_of list) i → i < length list → x ≡ get_or list i x → cmp x.value value ≡ (if found then Equal else Greater) → IsPlace cmp value (leaves_of list) i found
stands_here cmp value list i x found f l e p = places_here cmp value (leaves_of list) i (leaf_of x) found f (rw (leaves_length list) l) (leaf_at list i x l e) p

pub stands_later : {V S I : Type 0} (cmp : V → V → Ordering) (value : V) (list : List (Shared V S I)) (i : ℕ) (x : Shared V S I) → PlacesFrom cmp value (leaves_of list) i → i < length list → x ≡ get_or list i x → cmp x.value value ≡ Less → PlacesFrom cmp value (leaves_of list) (i + 1)
stands_later cmp value list i x f l e p = places_next cmp value (leaves_of list) i (leaf_of x) f (rw (leaves_length list) l) (leaf_at list i x l e) p

pub stands_last : {V S I : Type 0} (cmp : V → V → Ordering) (value : V) (list : List (Shared V S I)) (i : ℕ) → PlacesFrom cmp value (leaves_of list) i → i ≤ length list → length list ≤ i → IsPlace cmp value (leaves_of list) (length list) false
stands_last {V = V} {S = S} {I = I} cmp value list i f u l =
    subst (λ n. IsPlace cmp value (leaves_of list) n false) (leaves_length list) (places_end cmp value (leaves_of list) i f (rw (leaves_length list) u) (rw (leaves_length list) l))

-- the place that was found is one of the list
pub place_among : {V S I : Type 0} (cmp : V → V → Ordering) (value : V) (found list : List (Shared V S I)) (i : ℕ) (a b : Bool) → IsPlace cmp value (leaves_of found) i a → found ≡ list → a ≡ b → IsPlace cmp value (leaves_of list) i b
place_among {V = V} {S = S} {I = I} cmp value found list i a b p e f =
    let P : List (Shared V S I) → Type 0 = λ zs. IsPlace cmp value (leaves_of zs) i a in
    let Q : Bool → Type 0 = λ d. IsPlace cmp value (leaves_of list) i d in
    subst Q f (subst P e p)

pub within_list : {V S I : Type 0} (found list : List (Shared V S I)) (i : ℕ) → found ≡ list → i < length found → i < length list
within_list found list i e h = subst (λ zs. i < length zs) e h
