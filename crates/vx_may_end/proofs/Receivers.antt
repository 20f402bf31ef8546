-- What a receiver selects is what one of the receivers of the named class selects.
use Rattle.std.proofs.Common.{Bool, List, [], arith, false, filter, flat_map, if◌then◌else◌, refl, subst, suc, sym, true, zero, ℕ, ◌&&◌, ◌++◌, ◌+◌, ◌-◌, ◌<◌, ◌≤◌, ◌∙◌, ◌∷◌, ◌≡◌}
use Rattle.std.proofs.lemmas.Bool.{or_left}
use Rattle.std.proofs.lemmas.Bool.{ltb-true}
use Rattle.std.proofs.lemmas.Bool.Decides.{nat_tests}
use Rattle.std.proofs.lemmas.List.Folds.{list_any-append}
use Rattle.std.specs.List.{range_with_len}
use Rattle.std.specs.Prelude.{nat_eq, nat_lt, not, ◌==◌, ◌||◌}
use Rattle.vx_pool.specs.Holding.{and_true}
use Rattle.vx_java.specs.Calls.{is_receiver}
use Rattle.vx_java.specs.Machine.{Here, Ref, object_at}
use Rattle.vx_java.specs.Selection.{class_of_receiver, select, select_from, selected_if_concrete}
use Rattle.vx_java.specs.declared.selected.Selected.{Selected}
use Rattle.vx_kept_facts.proofs.Places.{or_right}
use Rattle.vx_link.specs.Assignability.{above_arrays, assignable, assignable_within, class_assignable}
use Rattle.vx_link.specs.ClassNames.{component_of, has_reference_components, is_array, object_class}
use Rattle.vx_link.specs.Hierarchy.{is_among}
use Rattle.vx_link.specs.Names.{Member}
use Rattle.vx_link.specs.Parts.{PRIVATE, class_count, has, method_at}
use Rattle.vx_link.specs.declared.program.Program.{Program}
use Rattle.vx_spelled_ends.proofs.Tests.{same_test, tests_same}
use Rattle.vx_may_end.specs.Lacks.{of_receiver, of_receivers, of_selected, receivers, takes_arrays}
use Rattle.vx_may_end.specs.Listed.{is_lack}
use Rattle.vx_may_end.specs.declared.lack.Lack.{Lack}
use Rattle.vx_may_end.specs.declared.lack.When.TheVariants.{On}
use Rattle.vx_may_end.proofs.Told.{Within, behind, front}

-- ---- numbers of classes

in_front : (n : ℕ) (xs ys : List ℕ) → is_among n xs ≡ true → is_among n (xs ++ ys) ≡ true
in_front n xs ys e = list_any-append (nat_eq n) xs ys ∙ or_left _ _ e

pub in_back : (n : ℕ) (xs ys : List ℕ) → is_among n ys ≡ true → is_among n (xs ++ ys) ≡ true
in_back n xs ys e = list_any-append (nat_eq n) xs ys ∙ or_right (is_among n xs) _ e

above : (n from : ℕ) → from ≤ n → (n == from) ≡ false → from + 1 ≤ n
above n from least other = grind (arith, nat_tests)

-- a number of a range that passes a test
pub in_range : (test : ℕ → Bool) (n from many : ℕ) → from ≤ n → n < from + many → test n ≡ true → is_among n (filter test (range_with_len from many)) ≡ true
in_range test n from zero least less passes = absurd (omega (arith, least, less))
in_range test n from (suc many) least less passes = by_first (n == from) refl (test from) refl (λ other. in_range test n (from + 1) many (above n from least other) (omega (arith, less)) passes)
  where
    by_first : (b : Bool) → (n == from) ≡ b → (t : Bool) → test from ≡ t → ((n == from) ≡ false → is_among n (filter test (range_with_len (from + 1) many)) ≡ true)
        → is_among n (if t then from ∷ filter test (range_with_len (from + 1) many) else filter test (range_with_len (from + 1) many)) ≡ true
    by_first true is true passed later = or_left _ _ is
    by_first true is false passed later = let same = tests_same n from is in absurd (cc (same, passes, passed))
    by_first false is true passed later = or_right (nat_eq n from) _ (later is)
    by_first false is false passed later = later is

-- what one of some classes lacks
pub of_one : (f : ℕ → List Lack) (c : ℕ) (classes : List ℕ) → is_among c classes ≡ true → Within (f c) (flat_map f classes)
of_one f c [] e word what l = absurd cc
of_one f c (d ∷ classes) e word what l = by (c == d) refl e (λ any. of_one f c classes any word what l)
  where
    by : (b : Bool) → (c == d) ≡ b → (b || is_among c classes) ≡ true → (is_among c classes ≡ true → is_lack (flat_map f classes) word what ≡ true) → is_lack (f d ++ flat_map f classes) word what ≡ true
    by true is any later = front (f d) (flat_map f classes) word what (subst (λ (k : ℕ). is_lack (f k) word what ≡ true) (tests_same c d is) l)
    by false is any later = behind (f d) (flat_map f classes) word what (later any)

-- ---- arrays

-- where an array may stand
array_fits : (p : Program) (d from to : ℕ) → is_array p from ≡ true → assignable_within p (suc d) from to ≡ true → takes_arrays p to ≡ true
array_fits p d from to array fits = by_array (is_array p from) array fits
  where
    by_parts : (b c : Bool) → has_reference_components p from ≡ b → has_reference_components p to ≡ c
        → (elim (b && c) [ true ↦ assignable_within p d (component_of p from) (component_of p to) | false ↦ (from == to) || is_among to (above_arrays p) ]) ≡ true → takes_arrays p to ≡ true
    by_parts true true of_from of_to e = or_left _ _ (and_true (is_array p to) _ of_to).0
    by_parts true false of_from of_to e = same_or (from == to) refl e
      where
        same_or : (b : Bool) → (from == to) ≡ b → (b || is_among to (above_arrays p)) ≡ true → takes_arrays p to ≡ true
        same_or true is e = or_left _ _ (subst (λ (k : ℕ). is_array p k ≡ true) (tests_same from to is) array)
        same_or false is e = or_right (is_array p to) _ e
    by_parts false c of_from of_to e = same_or (from == to) refl e
      where
        same_or : (b : Bool) → (from == to) ≡ b → (b || is_among to (above_arrays p)) ≡ true → takes_arrays p to ≡ true
        same_or true is e = or_left _ _ (subst (λ (k : ℕ). is_array p k ≡ true) (tests_same from to is) array)
        same_or false is e = or_right (is_array p to) _ e

    by_array : (a : Bool) → a ≡ true
        → (elim a [
          | false ↦ class_assignable p from to
          | true ↦ elim (has_reference_components p from && has_reference_components p to) [
            | true ↦ assignable_within p d (component_of p from) (component_of p to)
            | false ↦ (from == to) || is_among to (above_arrays p)
          ]
        ]) ≡ true → takes_arrays p to ≡ true
    by_array true is e = by_parts (has_reference_components p from) (has_reference_components p to) refl refl e
    by_array false is e = absurd cc

-- ---- receivers

-- an object of this class may be the receiver
abbrev pub fits : Program → (named class : ℕ) → Bool
fits p named c = elim (is_array p c) [ true ↦ takes_arrays p named | false ↦ assignable p c named ]

fits_where_assignable : (p : Program) (named c : ℕ) → assignable p c named ≡ true → fits p named c ≡ true
fits_where_assignable p named c e = by (is_array p c) refl
  where
    by : (a : Bool) → is_array p c ≡ a → (elim a [ true ↦ takes_arrays p named | false ↦ assignable p c named ]) ≡ true
    by true is = array_fits p 254 c named is e
    by false is = e

fits_where_array : (p : Program) (named c : ℕ) → is_array p named ≡ true → is_array p c ≡ true → fits p named c ≡ true
fits_where_array p named c array is = by (is_array p c) is
  where
    by : (a : Bool) → a ≡ true → (elim a [ true ↦ takes_arrays p named | false ↦ assignable p c named ]) ≡ true
    by true e = or_left _ _ array
    by false e = absurd cc

-- a receiver that the row has let through
pub receiver_fits : (h : Here) (m : Member) (named r : ℕ) → is_receiver h m named (Ref r) ≡ true
    → (m.by_interface && not (assignable h.program (object_at h.state r).class named)) ≡ false → fits h.program named (object_at h.state r).class ≡ true
receiver_fits h m named r received passed = by m.by_interface received passed
  where
    not_false : (b : Bool) → not b ≡ false → b ≡ true
    not_false true e = refl
    not_false false e = absurd cc

    by_class : (a : Bool) → is_array h.program named ≡ a
        → (if a then is_array h.program (object_at h.state r).class else assignable h.program (object_at h.state r).class named) ≡ true → fits h.program named (object_at h.state r).class ≡ true
    by_class true is e = fits_where_array h.program named (object_at h.state r).class is e
    by_class false is e = fits_where_assignable h.program named (object_at h.state r).class e

    by : (i : Bool) → (if i then true else if is_array h.program named then is_array h.program (object_at h.state r).class else assignable h.program (object_at h.state r).class named) ≡ true
        → (i && not (assignable h.program (object_at h.state r).class named)) ≡ false → fits h.program named (object_at h.state r).class ≡ true
    by true e f = fits_where_assignable h.program named (object_at h.state r).class (not_false _ f)
    by false e f = by_class (is_array h.program named) refl e

-- a class that is no array is below their number
below_count : (c n : ℕ) → not (nat_lt c n) ≡ false → c < n
below_count c n e = by (nat_lt c n) refl e
  where
    by : (b : Bool) → nat_lt c n ≡ b → not b ≡ false → c < n
    by true is f = ltb-true c n is
    by false is f = absurd cc

-- an array selects as Object does
of_array : (p : Program) (c resolved : ℕ) → is_array p c ≡ true → select p c resolved ≡ select p (object_class p) resolved
of_array p c resolved array = by_private (has PRIVATE (method_at p resolved).flags)
  where
    object_itself : (a : Bool) → (if a then object_class p else object_class p) ≡ object_class p
    object_itself true = refl
    object_itself false = refl

    same_class : class_of_receiver p c ≡ class_of_receiver p (object_class p)
    same_class = by_array (is_array p c) array ∙ sym (object_itself (is_array p (object_class p)))
      where
        by_array : (a : Bool) → a ≡ true → (if a then object_class p else c) ≡ object_class p
        by_array true e = refl
        by_array false e = absurd cc

    by_private : (b : Bool) → (if b then selected_if_concrete p resolved else select_from p (class_of_receiver p c) (method_at p resolved))
        ≡ (if b then selected_if_concrete p resolved else select_from p (class_of_receiver p (object_class p)) (method_at p resolved))
    by_private true = refl
    by_private false = rw same_class refl

-- the class, or for an array Object, whose lacks are listed
abbrev pub listed_class : Program → ℕ → ℕ
listed_class p c = elim (is_array p c) [ true ↦ object_class p | false ↦ c ]

listed_is_receiver : (p : Program) (named c : ℕ) → fits p named c ≡ true → is_among (listed_class p c) (receivers p named) ≡ true
listed_is_receiver p named c fit = by (is_array p c) refl fit
  where
    first : (t : Bool) → t ≡ true → is_among (object_class p) ((if t then object_class p ∷ [] else []) ++ filter (λ c. assignable p c named) (range_with_len 0 (class_count p))) ≡ true
    first true e = or_left _ _ (same_test (object_class p) (object_class p) refl)
    first false e = absurd cc

    by : (a : Bool) → is_array p c ≡ a → (elim a [ true ↦ takes_arrays p named | false ↦ assignable p c named ]) ≡ true
        → is_among (elim a [ true ↦ object_class p | false ↦ c ]) (receivers p named) ≡ true
    by true is e = first (takes_arrays p named) e
    by false is e =
        let less = below_count c (class_count p) is in
        in_back c (if takes_arrays p named then object_class p ∷ [] else []) (filter (λ c. assignable p c named) (range_with_len 0 (class_count p)))
        (in_range (λ c. assignable p c named) c 0 (class_count p) (omega arith) (omega (arith, less)) e)

listed_selects : (p : Program) (c resolved : ℕ) → select p c resolved ≡ select p (listed_class p c) resolved
listed_selects p c resolved = by (is_array p c) refl
  where
    by : (a : Bool) → is_array p c ≡ a → select p c resolved ≡ select p (elim a [ true ↦ object_class p | false ↦ c ]) resolved
    by true is = of_array p c resolved is
    by false is = refl

-- what a receiver's class selects lacks what is listed, with whatever is said of the time
pub of_receiver_listed : (p : Program) (named resolved c : ℕ) → fits p named c ≡ true
    → Within (of_selected p (On (record { 0 = listed_class p c })) (select p c resolved)) (of_receivers p named resolved)
of_receiver_listed p named resolved c fit =
    subst (λ (s : Selected). Within (of_selected p (On (record { 0 = listed_class p c })) s) (of_receivers p named resolved)) (sym (listed_selects p c resolved))
    (of_one (of_receiver p resolved) (listed_class p c) (receivers p named) (listed_is_receiver p named c fit))
