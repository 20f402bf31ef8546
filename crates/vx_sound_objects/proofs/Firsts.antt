-- Where the first objects stand.
use Rattle.std.proofs.Common.{Bool, List, None, Option, Some, [], ap, arith, cond, false, inl, inr, length, map, position, refl, slice_get, suc, sym, true, unwrap_or, zero, ℕ, ℤ, ◌++◌, ◌+◌, ◌<◌, ◌⊎◌, ◌∙◌, ◌∷◌, ◌≡◌, ◌≤◌, ◌||◌}
use Rattle.std.proofs.lemmas.Bool.{leb-true}
use Rattle.std.proofs.lemmas.Int.{ints}
use Rattle.std.proofs.lemmas.List.{length-map}
use Rattle.std.proofs.lemmas.List.Folds.{list_any-append}
use Rattle.std.proofs.lemmas.Option.{slice_get-map, slice_get_within}
use Rattle.std.proofs.lemmas.Slice.Eq.{bytes_eq-Decides}
use Rattle.std.specs.List.{cons_option, filter_map, flat_map, list_any}
use Rattle.std.specs.Option.{option_map}
use Rattle.std.specs.Prelude.{int_le, negsuc, pos, ◌&&◌, ◌-ℤ◌, ◌≤ℤ◌}
use Rattle.vx_pool.specs.Lookups.{entry_of}
use Rattle.vx_java.specs.FirstObjects.{First, each_once, first_boolean, first_integer, first_literal, first_objects, first_of_entry, first_words, for_boolean, for_class, for_integer, for_main, for_stream, for_text, integers_from, literals, object_of_first, same_first}
use Rattle.vx_java.specs.Machine.{no_object}
use Rattle.vx_kept_states.proofs.Throwables.{behind}
use Rattle.vx_link.specs.Parts.{class_at, no_class}
use Rattle.vx_link.specs.declared.program.LinkedClass.{LinkedClass}
use Rattle.vx_link.specs.declared.program.Program.{Program}
use Rattle.vx_list.specs.Places.{item_or}
use Rattle.vx_names.proofs.Keys.{position-cons}
use Rattle.vx_pool.specs.declared.pool.Entry.{Entry}
use Rattle.vx_pool.specs.declared.pool.Pool.{Pool}
use Rattle.vx_sound.specs.Sound.{IsFirstOf}
use Rattle.vx_sound_objects.proofs.Lists.{in_front}
use Rattle.vx_types.proofs.Tests.{either, or_first, or_second}
use Rattle.vx_value.specs.Arithmetic.{natural}

-- a first object by its place
pub first_at : (p : Program) (r : ℕ) (x : First) → slice_get (first_objects p) r ≡ Some x → IsFirstOf p r (object_of_first p x).class
first_at p r x at = let found = by (first_objects p) at in record { there = found.0; class = found.1 }
  where
    by : (xs : List First) → slice_get xs r ≡ Some x → (r < length (map (object_of_first p) xs)) × ((item_or (map (object_of_first p) xs) r no_object).class ≡ (object_of_first p x).class)
    by xs at =
        let less : r < length xs = slice_get_within xs r x at in
        let count : length (map (object_of_first p) xs) ≡ length xs = length-map xs (object_of_first p) in (
          omega (arith, less, count),
          ap (λ o. (unwrap_or o no_object).class) (slice_get-map (object_of_first p) xs r ∙ ap (option_map (object_of_first p)) at),
        )

-- ---- those of each program

-- what stands before the literals, and from them on
abbrev behind_integers : Program → List First
behind_integers p = for_boolean 0 ∷ for_boolean 1 ∷ (literals p ++ for_main ∷ [])

integer_there : (n : ℤ) (k i : ℕ) → i < k → (m : ℤ) × (slice_get (integers_from n k) i ≡ Some (for_integer m))
integer_there n zero i less = absurd (omega (arith, less))
integer_there n (suc k) zero less = (n, refl)
integer_there n (suc k) (suc i) less = integer_there (n -ℤ negsuc 0) k i (omega (arith, less))

integers_count : (n : ℤ) (k : ℕ) → length (integers_from n k) ≡ k
integers_count n zero = refl
integers_count n (suc k) = ap suc (integers_count (n -ℤ negsuc 0) k)

-- any number of integers, and their first one
module _ (p : Program) (n : ℤ) (k : ℕ) where
  at_integer : (r i : ℕ) → r ≡ 2 + i → i < k → (m : ℤ) × (slice_get (for_stream 0 ∷ for_stream 1 ∷ (integers_from n k ++ behind_integers p)) r ≡ Some (for_integer m))
  at_integer r i is less =
      let there = integer_there n k i less in (
        there.0,
        behind (for_stream 0 ∷ for_stream 1 ∷ []) (integers_from n k ++ behind_integers p) r i (omega (arith, is))
            ∙ in_front (integers_from n k) (behind_integers p) i (for_integer there.0) there.1,
      )

  at_later : (r i : ℕ) → r ≡ 2 + k + i → slice_get (for_stream 0 ∷ for_stream 1 ∷ (integers_from n k ++ behind_integers p)) r ≡ slice_get (behind_integers p) i
  at_later r i is =
      let count = integers_count n k in
      behind (for_stream 0 ∷ for_stream 1 ∷ []) (integers_from n k ++ behind_integers p) r (k + i) (omega (arith, is))
      ∙ behind (integers_from n k) (behind_integers p) (k + i) i (omega (arith, count))

  at_literal : (r i : ℕ) (x : First) → r ≡ 2 + k + (2 + i) → slice_get (literals p) i ≡ Some x → slice_get (for_stream 0 ∷ for_stream 1 ∷ (integers_from n k ++ behind_integers p)) r ≡ Some x
  at_literal r i x is there =
      at_later r (2 + i) is
      ∙ behind (for_boolean 0 ∷ for_boolean 1 ∷ []) (literals p ++ for_main ∷ []) (2 + i) i (omega arith)
      ∙ in_front (literals p) (for_main ∷ []) i x there

  at_main : (r : ℕ) → r ≡ 2 + k + (2 + length (literals p)) → slice_get (for_stream 0 ∷ for_stream 1 ∷ (integers_from n k ++ behind_integers p)) r ≡ Some for_main
  at_main r is =
      at_later r (2 + length (literals p)) is
      ∙ behind (for_boolean 0 ∷ for_boolean 1 ∷ []) (literals p ++ for_main ∷ []) (2 + length (literals p)) (length (literals p)) (omega arith)
      ∙ behind (literals p) (for_main ∷ []) (length (literals p)) 0 (omega arith)

-- ---- literals

same_is : (x y : First) → same_first x y ≡ true → x ≡ y
same_is (for_text a) (for_text b) same = ap for_text ((bytes_eq-Decides a b).0 same)
same_is (for_class a) (for_class b) same = ap for_class ((bytes_eq-Decides a b).0 same)
same_is (for_text a) (for_class b) same = cc
same_is (for_text a) (for_stream b) same = cc
same_is (for_text a) (for_integer b) same = cc
same_is (for_text a) (for_boolean b) same = cc
same_is (for_text a) for_main same = cc
same_is (for_class a) (for_text b) same = cc
same_is (for_class a) (for_stream b) same = cc
same_is (for_class a) (for_integer b) same = cc
same_is (for_class a) (for_boolean b) same = cc
same_is (for_class a) for_main same = cc
same_is (for_stream a) y same = cc
same_is (for_integer a) y same = cc
same_is (for_boolean a) y same = cc
same_is for_main y same = cc

-- one of a list is among those that are each there once, if it wasn't seen before
once_has : (x : First) (seen xs : List First) → list_any (same_first x) xs ≡ true → (list_any (same_first x) seen || list_any (same_first x) (each_once seen xs)) ≡ true
once_has x seen [] there = cc
once_has x seen (y ∷ ys) there =
    by_seen (list_any (same_first y) seen) refl (either (same_first x y) (list_any (same_first x) ys) there) (once_has x seen ys) (once_has x (y ∷ seen) ys)
  where
    turned : (a b c : Bool) → ((a || b) || c) ≡ true → (b || (a || c)) ≡ true
    turned true true c e = refl
    turned true false c e = refl
    turned false true c e = refl
    turned false false c e = e

    by_seen : (b : Bool) → list_any (same_first y) seen ≡ b → ((same_first x y ≡ true) ⊎ (list_any (same_first x) ys ≡ true))
        → (list_any (same_first x) ys ≡ true → (list_any (same_first x) seen || list_any (same_first x) (each_once seen ys)) ≡ true)
        → (list_any (same_first x) ys ≡ true → ((same_first x y || list_any (same_first x) seen) || list_any (same_first x) (each_once (y ∷ seen) ys)) ≡ true)
        → (list_any (same_first x) seen || list_any (same_first x) (elim b [ true ↦ each_once seen ys | false ↦ y ∷ each_once (y ∷ seen) ys ])) ≡ true
    by_seen true known (inl same) old new =
        or_first (list_any (same_first x) seen) (list_any (same_first x) (each_once seen ys)) (ap (λ z. list_any (same_first z) seen) (same_is x y same) ∙ known)
    by_seen true known (inr later) old new = old later
    by_seen false known (inl same) old new =
        or_second (list_any (same_first x) seen) (same_first x y || list_any (same_first x) (each_once (y ∷ seen) ys)) (or_first (same_first x y) (list_any (same_first x) (each_once (y ∷ seen) ys)) same)
    by_seen false known (inr later) old new = turned (same_first x y) (list_any (same_first x) seen) (list_any (same_first x) (each_once (y ∷ seen) ys)) (new later)

-- what an entry names is among what the entries name
entry_named : (pool : Pool) (es : List Entry) (i : ℕ) (e : Entry) (x : First) → slice_get es i ≡ Some e → first_of_entry pool e ≡ Some x → same_first x x ≡ true
    → list_any (same_first x) (filter_map (first_of_entry pool) es) ≡ true
entry_named pool [] i e x there named itself = cc
entry_named pool (d ∷ es) zero e x there named itself =
    ap (λ (o : Option First). list_any (same_first x) (cons_option o (filter_map (first_of_entry pool) es)))
    (ap (λ o. first_of_entry pool (unwrap_or o d)) there ∙ named)
    ∙ or_first (same_first x x) (list_any (same_first x) (filter_map (first_of_entry pool) es)) itself
entry_named pool (d ∷ es) (suc i) e x there named itself = by (first_of_entry pool d) (entry_named pool es i e x there named itself)
  where
    by : (o : Option First) → list_any (same_first x) (filter_map (first_of_entry pool) es) ≡ true → list_any (same_first x) (cons_option o (filter_map (first_of_entry pool) es)) ≡ true
    by None later = later
    by (Some y) later = or_second (same_first x y) (list_any (same_first x) (filter_map (first_of_entry pool) es)) later

class_names : (cs : List LinkedClass) (c i : ℕ) (e : Entry) (x : First) → entry_of (item_or cs c no_class).pool i ≡ Some e → first_of_entry (item_or cs c no_class).pool e ≡ Some x → same_first x x ≡ true
    → list_any (same_first x) (flat_map (λ c. filter_map (first_of_entry c.pool) c.pool.entries) cs) ≡ true
class_names [] c i e x there named itself = cc
class_names (d ∷ cs) zero i e x there named itself =
    list_any-append (same_first x) (filter_map (first_of_entry d.pool) d.pool.entries) (flat_map (λ c. filter_map (first_of_entry c.pool) c.pool.entries) cs)
    ∙ or_first (list_any (same_first x) (filter_map (first_of_entry d.pool) d.pool.entries)) _ (entry_named d.pool d.pool.entries i e x there named itself)
class_names (d ∷ cs) (suc c) i e x there named itself =
    list_any-append (same_first x) (filter_map (first_of_entry d.pool) d.pool.entries) (flat_map (λ c. filter_map (first_of_entry c.pool) c.pool.entries) cs)
    ∙ or_second (list_any (same_first x) (filter_map (first_of_entry d.pool) d.pool.entries)) _ (class_names cs c i e x there named itself)

-- the place of one that is there
placed_first : (x : First) (xs : List First) → list_any (same_first x) xs ≡ true → slice_get xs (unwrap_or (position (same_first x) xs) 0) ≡ Some x
placed_first x [] there = cc
placed_first x (y ∷ ys) there = by (same_first x y) refl (position (same_first x) ys) refl there (placed_first x ys)
  where
    found : (o : Option ℕ) → slice_get ys (unwrap_or o 0) ≡ Some x → list_any (same_first x) ys ≡ true → position (same_first x) ys ≡ o
        → slice_get (y ∷ ys) (unwrap_or (option_map suc o) 0) ≡ Some x
    found None at later is = absurd (missing (sym later ∙ none_there ys is))
      where
        missing : true ≡ false → ⊥
        missing e = cc

        none_there : (zs : List First) → position (same_first x) zs ≡ None → list_any (same_first x) zs ≡ false
        none_there [] is = refl
        none_there (z ∷ zs) is = by_head (same_first x z) (sym (position-cons (same_first x) z zs) ∙ is) (none_there zs)
          where
            by_head : (b : Bool) → ◌≡◌ {A = Option ℕ} (cond b (Some 0) (option_map suc (position (same_first x) zs))) None → (position (same_first x) zs ≡ None → list_any (same_first x) zs ≡ false)
                → (b || list_any (same_first x) zs) ≡ false
            by_head true is later = cc
            by_head false is later = later (unmapped_none (position (same_first x) zs) is)
              where
                unmapped_none : (o : Option ℕ) → option_map suc o ≡ None → o ≡ None
                unmapped_none None e = refl
                unmapped_none (Some k) e = cc
    found (Some k) at later is = at

    by : (b : Bool) → same_first x y ≡ b → (o : Option ℕ) → position (same_first x) ys ≡ o → (b || list_any (same_first x) ys) ≡ true
        → (list_any (same_first x) ys ≡ true → slice_get ys (unwrap_or (position (same_first x) ys) 0) ≡ Some x)
        → slice_get (y ∷ ys) (unwrap_or (position (same_first x) (y ∷ ys)) 0) ≡ Some x
    by true same o is there later =
        ap (λ o. slice_get (y ∷ ys) (unwrap_or o 0)) (position-cons (same_first x) y ys ∙ ap (λ b. cond b (Some 0) (option_map suc (position (same_first x) ys))) same)
        ∙ ap Some (sym (same_is x y same))
    by false same o is there later =
        ap (λ o. slice_get (y ∷ ys) (unwrap_or o 0))
        (position-cons (same_first x) y ys ∙ ap (λ b. cond b (Some 0) (option_map suc (position (same_first x) ys))) same ∙ ap (option_map suc) is)
        ∙ found o (ap (λ o. slice_get ys (unwrap_or o 0)) (sym is) ∙ later there) there is

-- ---- the places

pub integer_first : (p : Program) (n : ℤ) → (int_le (negsuc 127) n && int_le n (pos 127)) ≡ true → (m : ℤ) × (slice_get (first_objects p) (first_integer n) ≡ Some (for_integer m))
integer_first p n within = at_integer p (negsuc 127) 256 (first_integer n) (natural (n -ℤ negsuc 127)) refl (few n within)
  where
    natural_most : (z : ℤ) (most : ℕ) → z ≤ℤ pos most → natural z ≤ most
    natural_most (pos n) most l = omega (arith, ints, l)
    natural_most (negsuc n) most l = omega arith

    few : (n : ℤ) → (int_le (negsuc 127) n && int_le n (pos 127)) ≡ true → natural (n -ℤ negsuc 127) < 256
    few (pos n) e =
        let small = leb-true n 127 e in
        omega (arith, natural_most (pos n -ℤ negsuc 127) 255 (omega (arith, ints, small)))
    few (negsuc n) e = omega (arith, natural_most (negsuc n -ℤ negsuc 127) 255 (omega (arith, ints)))

pub boolean_first : (p : Program) (n : ℕ) → n ≤ 1 → slice_get (first_objects p) (first_boolean n) ≡ Some (for_boolean n)
boolean_first p zero small = at_later p (negsuc 127) 256 258 0 refl
boolean_first p (suc zero) small = at_later p (negsuc 127) 256 259 1 refl
boolean_first p (suc (suc n)) small = absurd (omega (arith, small))

pub words_first : (p : Program) → slice_get (first_objects p) (first_words p) ≡ Some for_main
words_first p = at_main p (negsuc 127) 256 (first_words p) (omega arith)

pub literal_first : (p : Program) (c i : ℕ) (e : Entry) (x : First) → entry_of (class_at p c).pool i ≡ Some e → first_of_entry (class_at p c).pool e ≡ Some x → same_first x x ≡ true
    → slice_get (first_objects p) (first_literal p x) ≡ Some x
literal_first p c i e x there named itself =
    at_literal p (negsuc 127) 256 (first_literal p x) (unwrap_or (position (same_first x) (literals p)) 0) x (omega arith)
    (placed_first x (literals p)
    (once_has x [] (flat_map (λ c. filter_map (first_of_entry c.pool) c.pool.entries) p.classes) (class_names p.classes c i e x there named itself)))
