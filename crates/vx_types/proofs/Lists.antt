-- What is made of types that fit others, one by one: local variables and operands.
use Rattle.std.proofs.Common.{List, [], arith, refl, suc, true, zero, ℕ, ◌++◌, ◌+◌, ◌≤◌, ◌∷◌, ◌≡◌}
use Rattle.std.specs.Prelude.{slice_set}
use Rattle.vx_java.specs.declared.operation.Shuffle.{Shuffle}
use Rattle.vx_java.specs.declared.operation.Shuffle.TheVariants.{Dup, Dup2, Dup2X1, Dup2X2, DupX1, DupX2, Pop, Pop2, Swap}
use Rattle.vx_java.specs.declared.operation.Sort.{Sort}
use Rattle.vx_java.specs.declared.operation.Sort.TheVariants as sort
use Rattle.vx_link.specs.declared.program.Program.{Program}
use Rattle.vx_list.specs.Places.{item_or}
use Rattle.vx_types.proofs.Tests.{both, both_first, both_second}
use Rattle.vx_types.specs.Fits.{all_fit, fits}
use Rattle.vx_types.specs.Flow.{is_of, locals_with, stack_size, types_reordered, unless_long, width, without_half}
use Rattle.vx_types.specs.declared.types.ElementType.{ElementType}
use Rattle.vx_types.specs.declared.types.VerType.{VerType}
use Rattle.vx_types.specs.declared.types.VerType.TheVariants.{Int, Long, Null, Ref, Top}

-- ---- lists

pub head_fits : (p : Program) (t u : VerType) (ts us : List VerType) → all_fit p (t ∷ ts) (u ∷ us) ≡ true → fits p t u ≡ true
head_fits p t u ts us h = both_first (fits p t u) (all_fit p ts us) h

pub tail_fits : (p : Program) (t u : VerType) (ts us : List VerType) → all_fit p (t ∷ ts) (u ∷ us) ≡ true → all_fit p ts us ≡ true
tail_fits p t u ts us h = both_second (fits p t u) (all_fit p ts us) h

pub list_fits : (p : Program) (t u : VerType) (ts us : List VerType) → fits p t u ≡ true → all_fit p ts us ≡ true → all_fit p (t ∷ ts) (u ∷ us) ≡ true
list_fits p t u ts us h k = both (fits p t u) (all_fit p ts us) h k

pub append_fits : (p : Program) (qs bs ts us : List VerType) → all_fit p qs bs ≡ true → all_fit p ts us ≡ true → all_fit p (qs ++ ts) (bs ++ us) ≡ true
append_fits p [] [] ts us h k = k
append_fits p (a ∷ qs) (b ∷ bs) ts us h k =
    list_fits p a b (qs ++ ts) (bs ++ us) (head_fits p a b qs bs h) (append_fits p qs bs ts us (tail_fits p a b qs bs h) k)
append_fits p _ _ ts us h k = absurd cc

pub set_fits : (p : Program) (xs ys : List VerType) (i : ℕ) (v w : VerType) → all_fit p xs ys ≡ true → fits p v w ≡ true → all_fit p (slice_set xs i v) (slice_set ys i w) ≡ true
set_fits p [] [] i v w h k = refl
set_fits p (x ∷ xs) (y ∷ ys) zero v w h k = list_fits p v w xs ys k (tail_fits p x y xs ys h)
set_fits p (x ∷ xs) (y ∷ ys) (suc i) v w h k =
    list_fits p x y (slice_set xs i v) (slice_set ys i w) (head_fits p x y xs ys h) (set_fits p xs ys i v w (tail_fits p x y xs ys h) k)
set_fits p _ _ i v w h k = absurd cc

pub item_fits : (p : Program) (xs ys : List VerType) (i : ℕ) → all_fit p xs ys ≡ true → fits p (item_or xs i Top) (item_or ys i Top) ≡ true
item_fits p [] [] i h = refl
item_fits p (x ∷ xs) (y ∷ ys) zero h = head_fits p x y xs ys h
item_fits p (x ∷ xs) (y ∷ ys) (suc i) h = item_fits p xs ys i (tail_fits p x y xs ys h)
item_fits p _ _ i h = absurd cc

-- ---- sorts

no_top : (s : Sort) → is_of s Top ≡ true → ⊥
no_top sort.Int h = absurd cc
no_top sort.Long h = absurd cc
no_top sort.Reference h = absurd cc

below_int : (p : Program) (t : VerType) → fits p t Int ≡ true → is_of sort.Int t ≡ true
below_int p Int h = refl
below_int p _ h = absurd cc

below_long : (p : Program) (t : VerType) → fits p t Long ≡ true → is_of sort.Long t ≡ true
below_long p Long h = refl
below_long p _ h = absurd cc

below_null : (p : Program) (t : VerType) → fits p t Null ≡ true → is_of sort.Reference t ≡ true
below_null p Null h = refl
below_null p _ h = absurd cc

below_ref : (p : Program) (t : VerType) (n : ℕ) (f : ElementType) → fits p t (Ref n f) ≡ true → is_of sort.Reference t ≡ true
below_ref p Null n f h = refl
below_ref p (Ref d e) n f h = refl
below_ref p _ n f h = absurd cc

pub sort_below : (p : Program) (s : Sort) (t u : VerType) → fits p t u ≡ true → is_of s u ≡ true → is_of s t ≡ true
sort_below p sort.Int t Int h k = below_int p t h
sort_below p sort.Long t Long h k = below_long p t h
sort_below p sort.Reference t Null h k = below_null p t h
sort_below p sort.Reference t (Ref n f) h k = below_ref p t n f h
sort_below p _ t _ h k = absurd cc

-- ---- sizes

pub width_below : (p : Program) (t u : VerType) → fits p t u ≡ true → width t ≤ width u
width_below p Top Top h = omega arith
width_below p Int Top h = omega arith
width_below p Long Top h = omega arith
width_below p Null Top h = omega arith
width_below p (Ref d e) Top h = omega arith
width_below p Int Int h = omega arith
width_below p Long Long h = omega arith
width_below p Null Null h = omega arith
width_below p Null (Ref n f) h = omega arith
width_below p (Ref d e) (Ref n f) h = omega arith
width_below p _ _ h = absurd cc

pub size_below : (p : Program) (ts us : List VerType) → all_fit p ts us ≡ true → stack_size ts ≤ stack_size us
size_below p [] [] h = omega arith
size_below p (t ∷ ts) (u ∷ us) h =
    let first = width_below p t u (head_fits p t u ts us h) in
    let others = size_below p ts us (tail_fits p t u ts us h) in
    omega (arith, first, others)
size_below p _ _ h = absurd cc

-- ---- local variables

unless_fits : (p : Program) (t u : VerType) → fits p t u ≡ true → fits p (unless_long t) (unless_long u) ≡ true
unless_fits p t Top h = refl
unless_fits p Int Int h = refl
unless_fits p Long Long h = refl
unless_fits p Null Null h = refl
unless_fits p Null (Ref n f) h = refl
unless_fits p (Ref d e) (Ref n f) h = h
unless_fits p _ _ h = absurd cc

without_fits : (p : Program) (xs ys : List VerType) (n : ℕ) → all_fit p xs ys ≡ true → all_fit p (without_half xs n) (without_half ys n) ≡ true
without_fits p xs ys zero h = h
without_fits p xs ys (suc n) h =
    set_fits p xs ys n (unless_long (item_or xs n Top)) (unless_long (item_or ys n Top)) h
    (unless_fits p (item_or xs n Top) (item_or ys n Top) (item_fits p xs ys n h))

pub stored_fits : (p : Program) (s : Sort) (xs ys : List VerType) (n : ℕ) (t u : VerType) → all_fit p xs ys ≡ true → fits p t u ≡ true → is_of s u ≡ true
    → all_fit p (locals_with xs n t) (locals_with ys n u) ≡ true
stored_fits p s xs ys n t Top h k is = absurd (no_top s is)
stored_fits p s xs ys n Long Long h k is =
    set_fits p (slice_set (without_half xs n) n Long) (slice_set (without_half ys n) n Long) (n + 1) Top Top
    (set_fits p (without_half xs n) (without_half ys n) n Long Long (without_fits p xs ys n h) refl) refl
stored_fits p s xs ys n Int Int h k is = set_fits p (without_half xs n) (without_half ys n) n Int Int (without_fits p xs ys n h) k
stored_fits p s xs ys n Null Null h k is = set_fits p (without_half xs n) (without_half ys n) n Null Null (without_fits p xs ys n h) k
stored_fits p s xs ys n Null (Ref m f) h k is = set_fits p (without_half xs n) (without_half ys n) n Null (Ref m f) (without_fits p xs ys n h) k
stored_fits p s xs ys n (Ref d e) (Ref m f) h k is = set_fits p (without_half xs n) (without_half ys n) n (Ref d e) (Ref m f) (without_fits p xs ys n h) k
stored_fits p s xs ys n _ _ h k is = absurd cc

-- ---- stack forms

under_and_on : (p : Program) (qs bs cs ds ts us : List VerType) → all_fit p qs bs ≡ true → all_fit p cs ds ≡ true → all_fit p ts us ≡ true
    → all_fit p (qs ++ (cs ++ (qs ++ ts))) (bs ++ (ds ++ (bs ++ us))) ≡ true
under_and_on p qs bs cs ds ts us h k l =
    append_fits p qs bs (cs ++ (qs ++ ts)) (ds ++ (bs ++ us)) h (append_fits p cs ds (qs ++ ts) (bs ++ us) k (append_fits p qs bs ts us h l))

pub reordered_fits : (p : Program) (form : Shuffle) (qs bs cs ds ts us : List VerType) → all_fit p qs bs ≡ true → all_fit p cs ds ≡ true → all_fit p ts us ≡ true
    → all_fit p (types_reordered form qs cs ts) (types_reordered form bs ds us) ≡ true
reordered_fits p Pop qs bs cs ds ts us h k l = l
reordered_fits p Pop2 qs bs cs ds ts us h k l = l
reordered_fits p Swap qs bs cs ds ts us h k l = append_fits p cs ds (qs ++ ts) (bs ++ us) k (append_fits p qs bs ts us h l)
reordered_fits p Dup qs bs cs ds ts us h k l = under_and_on p qs bs cs ds ts us h k l
reordered_fits p DupX1 qs bs cs ds ts us h k l = under_and_on p qs bs cs ds ts us h k l
reordered_fits p DupX2 qs bs cs ds ts us h k l = under_and_on p qs bs cs ds ts us h k l
reordered_fits p Dup2 qs bs cs ds ts us h k l = under_and_on p qs bs cs ds ts us h k l
reordered_fits p Dup2X1 qs bs cs ds ts us h k l = under_and_on p qs bs cs ds ts us h k l
reordered_fits p Dup2X2 qs bs cs ds ts us h k l = under_and_on p qs bs cs ds ts us h k l
