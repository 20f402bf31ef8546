-- A folder has one listing: paths have one ascending order.
use Rattle.std.proofs.Common.{◌≡◌, ℕ, ◌+◌, ◌<◌, suc, Bool, true, false, cond, List, [], ◌∷◌, refl, sym, ap, subst, ◌∙◌, arith}
use Rattle.std.proofs.lemmas.List.MinMax.{ranks_by}
use Rattle.std.proofs.lemmas.List.Sorted.{sorted_far, sum_by-IsPermutation}
use Rattle.std.proofs.lemmas.List.Sums.{sum_by-cons}
use Rattle.std.proofs.lemmas.Map.Lookups.{exact_bytes}
use Rattle.std.proofs.lemmas.Slice.Eq.{bytes_eq-Decides}
use Rattle.std.specs.Cmp.{nat_cmp_total}
use Rattle.std.specs.Cmp.Lexicographic.{lists_total, slice_cmp}
use Rattle.std.specs.List.{sum_by}
use Rattle.std.specs.Ordering.{is_lt, nat_cmp, ordering_reverse}
use Rattle.std.specs.Prelude.{Contains, slice_index_or}
use Rattle.std.specs.Str.{bytes_eq}
use Rattle.std.specs.declared.cmp.Ordering.{Ordering}
use Rattle.std.specs.declared.cmp.Ordering.TheVariants.{Equal, Greater, Less}
use Rattle.vx_io.specs.Held.{Held, IsAscending, IsListing}

-- every sum over the one list is that over the other
record AreSame (xs ys : List (List ℕ)) : Type 0 where
  sums : (f : List ℕ → ℕ) → sum_by f xs ≡ sum_by f ys

-- one for a path, and nothing for others
abbrev once : List ℕ → List ℕ → ℕ
once x y = cond (bytes_eq x y) 1 0

counted : (x : List ℕ) (xs : List (List ℕ)) → 0 < sum_by (once x) xs → Contains xs x
counted x [] h = absurd (omega (arith, h))
counted x (y ∷ xs) h = by (counted x xs) (bytes_eq x y) refl
  where
    by : (0 < sum_by (once x) xs → Contains xs x) → (b : Bool) → bytes_eq x y ≡ b → Contains (y ∷ xs) x
    by behind true e = (0, omega arith, sym ((bytes_eq-Decides x y).0 e))
    by behind false e =
        let none : once x y ≡ 0 = ap (λ b. cond b 1 0) e in
        let more = sum_by-cons (once x) y xs in
        let rest = behind (omega (arith, h, none, more)) in
        let within = rest.1 in
        (suc rest.0, omega arith, rest.2)

-- the first path of a list is in each list of the same paths
first_there : (x : List ℕ) (xs ys : List (List ℕ)) → AreSame (x ∷ xs) ys → Contains ys x
first_there x xs ys h =
    let one : once x x ≡ 1 = ap (λ b. cond b 1 0) ((bytes_eq-Decides x x).1 refl) in
    let more = sum_by-cons (once x) x xs in
    let same = h.sums (once x) in
    counted x ys (omega (arith, one, more, same))

-- the first path of an ascending list is least
first_least : (x : List ℕ) (xs : List (List ℕ)) (y : List ℕ) → IsAscending (x ∷ xs) → Contains (x ∷ xs) y → is_lt (slice_cmp nat_cmp y x) ≡ false
first_least x xs y h there =
    let far = sorted_far (λ a b. is_lt (slice_cmp nat_cmp a b)) (ranks_by (lists_total nat_cmp_total) (λ a. a)) (x ∷ xs) h 0 there.0 y (omega arith) there.1 in
    ap (λ a. is_lt (slice_cmp nat_cmp a x)) (sym there.2) ∙ far

neither_less : (r s : Ordering) → r ≡ ordering_reverse s → is_lt r ≡ false → is_lt s ≡ false → r ≡ Equal
neither_less Equal s e l m = refl
neither_less Less s e l m = cc
neither_less Greater Less e l m = cc
neither_less Greater Equal e l m = cc
neither_less Greater Greater e l m = cc

behind_ascends : (x : List ℕ) (xs : List (List ℕ)) → IsAscending (x ∷ xs) → IsAscending xs
behind_ascends x xs h k d low high =
    let next : suc (k + 1) ≡ suc k + 1 = omega arith in
    ap (λ n. is_lt (slice_cmp nat_cmp (slice_index_or (x ∷ xs) n d) (slice_index_or xs k d))) next ∙ h (suc k) d (omega arith) (omega (arith, high))

behind_same : (x : List ℕ) (xs ys : List (List ℕ)) → AreSame (x ∷ xs) (x ∷ ys) → AreSame xs ys
behind_same x xs ys h = record { sums = λ f. let a = sum_by-cons f x xs in let b = sum_by-cons f x ys in let c = h.sums f in omega (arith, a, b, c) }

ascending_one : (xs ys : List (List ℕ)) → IsAscending xs → IsAscending ys → AreSame xs ys → xs ≡ ys
ascending_one [] [] h k same = refl
ascending_one [] (y ∷ ys) h k same = let there = first_there y ys [] (record { sums = λ f. sym (same.sums f) }) in absurd (omega (arith, there.1))
ascending_one (x ∷ xs) [] h k same = let there = first_there x xs [] same in absurd (omega (arith, there.1))
ascending_one (x ∷ xs) (y ∷ ys) h k same =
    let left = first_least x xs y h (first_there y ys (x ∷ xs) (record { sums = λ f. sym (same.sums f) })) in
    let right = first_least y ys x k (first_there x xs (y ∷ ys) same) in
    let first : x ≡ y = exact_bytes x y (neither_less _ _ ((lists_total nat_cmp_total).antisymm x y) right left) in
    let rest : AreSame xs ys = behind_same y xs ys (subst (λ a. AreSame (a ∷ xs) (y ∷ ys)) first same) in
    λ i. first i ∷ ascending_one xs ys (behind_ascends x xs h) (behind_ascends y ys k) rest i

pub one_listing : (held : Held) (folder : List ℕ) (one other : List (List ℕ)) → IsListing held folder one → IsListing held folder other → one ≡ other
one_listing held folder one other h k =
    ascending_one one other h.ascending k.ascending (record { sums = λ f. sum_by-IsPermutation f _ one h.each ∙ sym (sum_by-IsPermutation f _ other k.each) })
