-- Ends compare as their parts do, one after another.
use Rattle.std.proofs.Common.{◌≡◌, ℕ, ℤ, List, [], refl, ap, subst, arith}
use Rattle.std.proofs.lemmas.Bool.Decides.{nat_tests}
use Rattle.std.proofs.lemmas.Map.Lookups.{exact_bytes}
use Rattle.std.specs.Prelude.{pos}
use Rattle.std.specs.Cmp.{IsTotalOrder, then_total, on_total, nat_cmp_total, int_cmp_total, int_ranks}
use Rattle.std.specs.Cmp.Lexicographic.{slice_cmp, lists_total}
use Rattle.std.specs.Ordering.{nat_cmp, int_cmp, on, ordering_then, then_cmp}
use Rattle.std.specs.declared.cmp.Ordering.{Ordering}
use Rattle.std.specs.declared.cmp.Ordering.TheVariants.{Less, Equal, Greater}
use Rattle.vx_value.specs.Exact.{then_first, then_second}
use Rattle.vx_value.specs.Ends.{compare_ends, end_rank}
use Rattle.vx_value.specs.declared.end.End.{End}
use Rattle.vx_value.specs.declared.end.End.TheVariants.{Return, Exit, Uncaught, Unsupported, Illegal, Unfinished}

-- the parts of an end, in the order in which they are compared
abbrev code_of : End → ℤ
code_of (Exit k) = k
code_of _ = pos 0

abbrev word_of : End → ℕ
word_of (Unsupported word what place) = word
word_of _ = 0

abbrev name_of : End → List ℕ
name_of (Uncaught class) = class
name_of (Unsupported word what place) = what
name_of (Illegal place) = place
name_of _ = []

abbrev place_of : End → List ℕ
place_of (Unsupported word what place) = place
place_of _ = []

abbrev by_parts : End → End → Ordering
by_parts = then_cmp (on end_rank nat_cmp) (then_cmp (on code_of int_cmp) (then_cmp (on word_of nat_cmp) (then_cmp (on name_of (slice_cmp nat_cmp)) (on place_of (slice_cmp nat_cmp)))))

by_parts_total : IsTotalOrder by_parts
by_parts_total =
    then_total (on_total end_rank nat_cmp_total)
    (then_total (on_total code_of int_cmp_total)
    (then_total (on_total word_of nat_cmp_total)
    (then_total (on_total name_of (lists_total nat_cmp_total)) (on_total place_of (lists_total nat_cmp_total)))))

then_equal : (o : Ordering) → ordering_then o Equal ≡ o
then_equal Less = refl
then_equal Equal = refl
then_equal Greater = refl

same_order : (a b : End) → by_parts a b ≡ compare_ends a b
same_order (Exit j) (Exit k) = then_equal (int_cmp j k)
same_order (Uncaught p) (Uncaught r) = then_equal (slice_cmp nat_cmp p r)
same_order (Illegal r) (Illegal s) = then_equal (slice_cmp nat_cmp r s)
same_order (Unsupported v p q) (Unsupported w r t) = refl
same_order Return Return = refl
same_order Unfinished Unfinished = refl
same_order _ _ = refl

-- an order that answers as a total one does is total
total_as : {K : Type 0} (R Q : K → K → Ordering) → ((a b : K) → R a b ≡ Q a b) → IsTotalOrder R → IsTotalOrder Q
total_as R Q e o = let same : R ≡ Q = λ i a b. e a b i in subst IsTotalOrder same o

pub end_total : IsTotalOrder compare_ends
end_total = total_as by_parts compare_ends same_order by_parts_total

nat_equal : (a b : ℕ) → nat_cmp a b ≡ Equal → a ≡ b
nat_equal a b h = grind (arith, nat_tests)

int_equal : (a b : ℤ) → int_cmp a b ≡ Equal → a ≡ b
int_equal a b h = rw h at (int_ranks a b)

pub end_equal : (a b : End) → compare_ends a b ≡ Equal → a ≡ b
end_equal Return Return h = refl
end_equal (Exit j) (Exit k) h = ap Exit (int_equal j k h)
end_equal (Uncaught a) (Uncaught b) h = ap Uncaught (exact_bytes a b h)
end_equal (Unsupported v a p) (Unsupported w b q) h =
    let rest : ordering_then (slice_cmp nat_cmp a b) (slice_cmp nat_cmp p q) ≡ Equal = then_second (nat_cmp v w) (ordering_then (slice_cmp nat_cmp a b) (slice_cmp nat_cmp p q)) h in
    let e : v ≡ w = nat_equal v w (then_first (nat_cmp v w) (ordering_then (slice_cmp nat_cmp a b) (slice_cmp nat_cmp p q)) h) in
    let f : a ≡ b = exact_bytes a b (then_first (slice_cmp nat_cmp a b) (slice_cmp nat_cmp p q) rest) in
    let g : p ≡ q = exact_bytes p q (then_second (slice_cmp nat_cmp a b) (slice_cmp nat_cmp p q) rest) in
    cc
end_equal (Illegal p) (Illegal q) h = ap Illegal (exact_bytes p q h)
end_equal Unfinished Unfinished h = refl
end_equal _ _ h = cc
