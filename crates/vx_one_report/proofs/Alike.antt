-- Lines that say the same of the configurations of a list, and hold none of the others, hold the same configurations.
use Rattle.std.proofs.Common.{◌≡◌, ℕ, ◌<◌, zero, suc, Bool, true, false, cond, List, [], ◌∷◌, ◌++◌, length, map, filter, refl, sym, ap, subst, ◌∙◌, arith}
use Rattle.std.specs.Prelude.{Contains, not, slice_index_or, ◌&&◌}
use Rattle.std.specs.List.{AllZip, list_all}
use Rattle.vx_bdd_tools.specs.declared.node.Node.{Node}
use Rattle.vx_bdd_tools.specs.Nodes.{holds}

-- ---- what a filter keeps

in_filter_at : {A : Type 0} (p : A → Bool) (xs : List A) (k : ℕ) (x : A) → k < length xs → slice_index_or xs k x ≡ x → p x ≡ true → Contains (filter p xs) x
in_filter_at p [] k x l e t = absurd (omega (arith, l))
in_filter_at p (y ∷ xs) zero x l e t = by (p y) (ap p e ∙ t)
  where
    by : (b : Bool) → b ≡ true → Contains (cond b (y ∷ filter p xs) (filter p xs)) x
    by true h = (0, omega arith, e)
    by false h = cc
in_filter_at p (y ∷ xs) (suc k) x l e t = by (p y) (in_filter_at p xs k x (omega (arith, l)) e t)
  where
    by : (b : Bool) → Contains (filter p xs) x → Contains (cond b (y ∷ filter p xs) (filter p xs)) x
    by true h = let within = h.1 in (suc h.0, omega arith, h.2)
    by false h = h

pub in_filter : {A : Type 0} (p : A → Bool) (xs : List A) (x : A) → Contains xs x → p x ≡ true → Contains (filter p xs) x
in_filter p xs x h t = in_filter_at p xs h.0 x h.1 h.2 t

of_filter_at : {A : Type 0} (p : A → Bool) (xs : List A) (x : A) (k : ℕ) → k < length (filter p xs) → slice_index_or (filter p xs) k x ≡ x → p x ≡ true
of_filter_at p [] x k l e = absurd (omega (arith, l))
of_filter_at p (y ∷ xs) x k l e = by (of_filter_at p xs x) (p y) refl k l e
  where
    by : ((j : ℕ) → j < length (filter p xs) → slice_index_or (filter p xs) j x ≡ x → p x ≡ true) → (b : Bool) → p y ≡ b → (j : ℕ) → j < length (cond b (y ∷ filter p xs) (filter p xs)) → slice_index_or (cond b (y ∷ filter p xs) (filter p xs)) j x ≡ x → p x ≡ true
    by rest true t zero m d = ap p (sym d) ∙ t
    by rest true t (suc j) m d = rest j (omega (arith, m)) d
    by rest false t j m d = rest j m d

pub of_filter : {A : Type 0} (p : A → Bool) (xs : List A) (x : A) → Contains (filter p xs) x → p x ≡ true
of_filter p xs x h = of_filter_at p xs x h.0 h.1 h.2

-- tests that keep the same of a list agree on it
pub same_test : {A : Type 0} (p q : A → Bool) (list : List A) → filter p list ≡ filter q list → (x : A) → Contains list x → p x ≡ q x
same_test p q list e x h = by (p x) (q x) (λ t. of_filter q list x (subst (λ kept. Contains kept x) e (in_filter p list x h t))) (λ t. of_filter p list x (subst (λ kept. Contains kept x) (sym e) (in_filter q list x h t)))
  where
    by : (a b : Bool) → (a ≡ true → b ≡ true) → (b ≡ true → a ≡ true) → a ≡ b
    by true true f g = refl
    by true false f g = sym (f refl)
    by false true f g = g refl
    by false false f g = refl

-- ---- lists of lines

pub zip_mapped : {L M : Type 0} (f g : L → M) (R : L → L → Type 0) → ((x y : L) → f x ≡ g y → R x y) → (xs ys : List L) → map f xs ≡ map g ys → AllZip R xs ys
zip_mapped f g R each [] [] e = tt
zip_mapped f g R each [] (y ∷ ys) e = cc
zip_mapped f g R each (x ∷ xs) [] e = cc
zip_mapped f g R each (x ∷ xs) (y ∷ ys) e =
    let first : f x ≡ g y = cc e in
    let rest : map f xs ≡ map g ys = cc e in
    (each x y first, zip_mapped f g R each xs ys rest)

pub all_split : {A : Type 0} (p : A → Bool) (xs ys : List A) → list_all p (xs ++ ys) ≡ true → (list_all p xs ≡ true) × (list_all p ys ≡ true)
all_split p [] ys h = (refl, h)
all_split p (x ∷ xs) ys h = by (p x) h (all_split p xs ys)
  where
    by : (b : Bool) → (b && list_all p (xs ++ ys)) ≡ true → (list_all p (xs ++ ys) ≡ true → (list_all p xs ≡ true) × (list_all p ys ≡ true)) → ((b && list_all p xs) ≡ true) × (list_all p ys ≡ true)
    by true e rest = rest e
    by false e rest = cc

-- no number of a list holds a configuration of n options that is not allowed
abbrev pub HoldNoOther : ℕ → (List Bool → Bool) → List Node → List ℕ → Type 0
HoldNoOther n is_allowed nodes ks = (c : List Bool) → length c ≡ n → is_allowed c ≡ false → list_all (λ k. not (holds nodes k c)) ks ≡ true

-- a list has the allowed configurations of n options
abbrev pub HasAllowed : ℕ → (List Bool → Bool) → List (List Bool) → Type 0
HasAllowed n is_allowed list = (c : List Bool) → length c ≡ n → is_allowed c ≡ true → Contains list c

first_off : (b rest : Bool) → (not b && rest) ≡ true → b ≡ false
first_off true rest h = cc
first_off false rest h = refl

rest_on : (b rest : Bool) → (not b && rest) ≡ true → rest ≡ true
rest_on true rest h = cc
rest_on false rest h = h

-- numbers that keep the same of the allowed configurations, and hold no others, hold the same
hold_alike : (n : ℕ) (is_allowed : List Bool → Bool) (list : List (List Bool)) (one other : List Node) (a b : ℕ) → HasAllowed n is_allowed list → filter (holds one a) list ≡ filter (holds other b) list
    → ((c : List Bool) → length c ≡ n → is_allowed c ≡ false → holds one a c ≡ false) → ((c : List Bool) → length c ≡ n → is_allowed c ≡ false → holds other b c ≡ false)
    → (c : List Bool) → length c ≡ n → holds one a c ≡ holds other b c
hold_alike n is_allowed list one other a b all same left right c size = by (is_allowed c) refl
  where
    by : (allowed : Bool) → is_allowed c ≡ allowed → holds one a c ≡ holds other b c
    by true e = same_test (holds one a) (holds other b) list same c (all c size e)
    by false e = left c size e ∙ sym (right c size e)

-- lines of one value whose nodes keep the same of the allowed configurations
pub lines_alike : {L : Type 0} (n : ℕ) (is_allowed : List Bool → Bool) (list : List (List Bool)) (one other : List Node) (node : L → ℕ) (R Q : L → L → Type 0) → HasAllowed n is_allowed list
    → ((x y : L) → R x y → filter (holds one (node x)) list ≡ filter (holds other (node y)) list)
    → ((x y : L) → R x y → ((c : List Bool) → length c ≡ n → holds one (node x) c ≡ holds other (node y) c) → Q x y)
    → (xs ys : List L) → AllZip R xs ys → HoldNoOther n is_allowed one (map node xs) → HoldNoOther n is_allowed other (map node ys) → AllZip Q xs ys
lines_alike n is_allowed list one other node R Q all kept gives [] [] h left right = tt
lines_alike n is_allowed list one other node R Q all kept gives [] (y ∷ ys) h left right = absurd h
lines_alike n is_allowed list one other node R Q all kept gives (x ∷ xs) [] h left right = absurd h
lines_alike n is_allowed list one other node R Q all kept gives (x ∷ xs) (y ∷ ys) h left right =
    let same = hold_alike n is_allowed list one other (node x) (node y) all (kept x y h.0) (λ c size refused. first_off _ _ (left c size refused)) (λ c size refused. first_off _ _ (right c size refused)) in
    (gives x y h.0 same, lines_alike n is_allowed list one other node R Q all kept gives xs ys h.1 (λ c size refused. rest_on _ _ (left c size refused)) (λ c size refused. rest_on _ _ (right c size refused)))
