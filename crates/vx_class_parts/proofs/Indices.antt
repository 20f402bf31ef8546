-- The indices of constants in a table.
use Rattle.std.proofs.Common.{◌≡◌, ◌<◌, ◌≤◌, ◌+◌, ◌*◌, ℕ, Bool, true, false, List, [], ◌∷◌, ◌++◌, length, cond, refl, sym, ap, ◌∙◌, arith, unwrap_or, Some}
use Rattle.std.specs.Prelude.{Option, None, is_some, sum_by, if◌then◌else◌}
use Rattle.std.specs.List.{list_any}
use Rattle.std.specs.Map.{keys_of, lookup}
use Rattle.std.proofs.lemmas.Map.Entries.{length-keys_of}
use Rattle.std.proofs.lemmas.Map.Made.{is_some-lookup}
use Rattle.std.proofs.lemmas.List.Sums.{sum_by-cons, sum_by-append}
use Rattle.indexmap.specs.IndexMap.{IndexMap, insert_entry}
use Rattle.indexmap.proofs.CallerLemmas.{insert_entry-new}
use Rattle.vx_class_parts.specs.Constants.{index_from, index_of, is_same, places, width, with}
use Rattle.vx_class_parts.specs.Table.{IsIndexed, indexed_from}
use Rattle.vx_class_parts.specs.declared.constants.Constant.{Constant}
use Rattle.vx_class_parts.specs.declared.constants.Constant.TheVariants as constant

-- the index that stands with a constant, or the one behind all, is where it is looked for in turn
found : (c : Constant) (i : ℕ) (cs : List Constant) → unwrap_or (lookup (is_same c) (indexed_from i cs)) (i + sum_by width cs) ≡ index_from i c cs
found c i [] = omega arith
found c i (x ∷ xs) = cases (is_same c x) (found c (i + width x) xs)
  where
    cases : (b : Bool) → unwrap_or (lookup (is_same c) (indexed_from (i + width x) xs)) (i + width x + sum_by width xs) ≡ index_from (i + width x) c xs
        → unwrap_or (cond b (Some i) (lookup (is_same c) (indexed_from (i + width x) xs))) (i + sum_by width (x ∷ xs)) ≡ (if b then i else index_from (i + width x) c xs)
    cases true h = refl
    cases false h =
        let sum = sum_by-cons width x xs in
        let same : i + sum_by width (x ∷ xs) ≡ i + width x + sum_by width xs = omega (arith, sum) in
        ap (unwrap_or (lookup (is_same c) (indexed_from (i + width x) xs))) same ∙ h

index_found : (c : Constant) (entries : List (Constant × ℕ)) (count : ℕ) → IsIndexed entries count → unwrap_or (lookup (is_same c) entries) count ≡ index_of (keys_of entries) c
unfolding index_of
index_found c entries count t = (λ i. unwrap_or (lookup (is_same c) (t.indices i)) (t.counted i)) ∙ found c 1 (keys_of entries)

pub index_there : (c : Constant) (entries : List (Constant × ℕ)) (count index : ℕ) → IsIndexed entries count → Some index ≡ lookup (is_same c) entries → index ≡ index_of (keys_of entries) c
index_there c entries count index t e = ap (λ o. unwrap_or o count) e ∙ index_found c entries count t

pub index_behind : (c : Constant) (entries : List (Constant × ℕ)) (count : ℕ) → IsIndexed entries count → None ≡ lookup (is_same c) entries → count ≡ index_of (keys_of entries) c
index_behind c entries count t e = ap (λ o. unwrap_or o count) e ∙ index_found c entries count t

-- a constant more
indexed_more : (c : Constant) (i : ℕ) (cs : List Constant) → indexed_from i (cs ++ c ∷ []) ≡ indexed_from i cs ++ (c, i + sum_by width cs) ∷ []
indexed_more c i [] = ap (λ n. (c, n) ∷ []) (omega arith)
indexed_more c i (x ∷ xs) =
    let sum = sum_by-cons width x xs in
    ap (λ es. (x, i) ∷ es) (indexed_more c (i + width x) xs ∙ ap (λ n. indexed_from (i + width x) xs ++ (c, n) ∷ []) (omega (arith, sum)))

keys_more : (entries : List (Constant × ℕ)) (c : Constant) (n : ℕ) → keys_of (entries ++ (c, n) ∷ []) ≡ keys_of entries ++ c ∷ []
keys_more [] c n = refl
keys_more (e ∷ es) c n = ap (λ ks. e.0 ∷ ks) (keys_more es c n)

one_width : (c : Constant) → sum_by width (c ∷ []) ≡ width c
one_width c = let sum = sum_by-cons width c [] in omega (arith, sum)

pub IsIndexed-more : (entries : List (Constant × ℕ)) (count index behind : ℕ) (c : Constant) → IsIndexed entries count → index ≡ places (keys_of entries) → behind ≡ index + width c → IsIndexed (entries ++ (c, index) ∷ []) behind
IsIndexed-more entries count index behind c t at e =
    let keys = keys_more entries c index in
    let sum = sum_by-append width (keys_of entries) (c ∷ []) in
    let one = one_width c in
    record {
      indices = (λ i. t.indices i ++ (c, at i) ∷ []) ∙ sym (indexed_more c 1 (keys_of entries)) ∙ ap (indexed_from 1) (sym keys);
      counted = rw keys (omega (arith, at, e, sum, one));
    }

pub IsIndexed-none : (entries : List (Constant × ℕ)) → entries ≡ [] → IsIndexed entries 1
IsIndexed-none entries e = rw e (record { indices = refl; counted = refl })

-- ---- one that is put

pub is_kept : (c : Constant) (entries : List (Constant × ℕ)) (there : Bool) → there ≡ is_some (lookup (is_same c) entries) → there ≡ true → keys_of entries ≡ with (keys_of entries) c
unfolding with
is_kept c entries there e t =
    let any : list_any (is_same c) (keys_of entries) ≡ true = sym (is_some-lookup (is_same c) entries) ∙ sym e ∙ t in
    rw any refl

none_there : (c : Constant) (entries : List (Constant × ℕ)) (there : Bool) → there ≡ is_some (lookup (is_same c) entries) → there ≡ false → lookup (is_same c) entries ≡ None
none_there c entries there e f = by_option (lookup (is_same c) entries) (sym e ∙ f)
  where
    by_option : (o : Option ℕ) → is_some o ≡ false → o ≡ None
    by_option None h = refl
    by_option (Some n) h = cc h

pub new_last : {S : Type 0} (c : Constant) (table : IndexMap Constant ℕ S) (index : ℕ) (there : Bool) → there ≡ is_some (lookup (is_same c) table.entries) → there ≡ false → insert_entry is_same table.entries c index ≡ table.entries ++ (c, index) ∷ []
new_last c table index there e f = insert_entry-new is_same table c index (none_there c table.entries there e f)

pub is_put : (c : Constant) (entries : List (Constant × ℕ)) (index : ℕ) (there : Bool) → there ≡ is_some (lookup (is_same c) entries) → there ≡ false → keys_of (entries ++ (c, index) ∷ []) ≡ with (keys_of entries) c
unfolding with
is_put c entries index there e f =
    let any : list_any (is_same c) (keys_of entries) ≡ false = sym (is_some-lookup (is_same c) entries) ∙ sym e ∙ f in
    rw any (keys_more entries c index)

width_two : (c : Constant) → width c ≤ 2
width_two (constant.Long n) = omega arith
width_two (constant.Text text) = omega arith
width_two (constant.Integer n) = omega arith
width_two (constant.Class name) = omega arith
width_two (constant.Literal text) = omega arith
width_two (constant.NameAndType name descriptor) = omega arith
width_two (constant.Member k class name descriptor) = omega arith

widths : (cs : List Constant) → sum_by width cs ≤ 2 * length cs
widths [] = omega arith
widths (c ∷ cs) =
    let sum = sum_by-cons width c cs in
    let one = width_two c in
    let others = widths cs in
    omega (arith, sum, one, others)

-- there are at most two places a constant
pub few_places : (entries : List (Constant × ℕ)) (count n : ℕ) → IsIndexed entries count → n ≡ length entries → 1 + 2 * n < count → ⊥
few_places entries count n t e many =
    let counted = t.counted in
    let sum = widths (keys_of entries) in
    let keys = length-keys_of entries in
    omega (arith, counted, sum, keys, e, many)
