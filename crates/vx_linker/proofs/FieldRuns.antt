-- Fields whose numbers follow one another, counted by the counts of all fields.
use Rattle.std.proofs.Common.{◌≡◌, ℕ, List, [], ◌∷◌, ◌+◌, ◌-◌, ◌<◌, ◌≤◌, map, length, filter, refl, ap, ◌∙◌, Bool, true, false, not, ◌&&◌, nat_eq, nat_lt, zero, suc, add-one, arith, if◌then◌else◌, cond, Some, get_or, slice_get}
use Rattle.std.proofs.lemmas.Bool.{and_parts, le-ltb, lt-ltb, ltb-false, ltb-true}
use Rattle.std.proofs.lemmas.List.FromFn.{get_or-map-range_with_len, length-map-range_with_len}
use Rattle.std.proofs.lemmas.Bool.Decides.{Decides-eqb}
use Rattle.std.proofs.lemmas.List.{length-map}
use Rattle.vx_linker.proofs.Layouts.{count-both}
use Rattle.vx_linker.specs.Cells.{are_run, instances_before, is_run, running_counts}
use Rattle.vx_link.specs.Parts.{is_static_field}
use Rattle.vx_link.specs.declared.program.LinkedClass.{LinkedClass}
use Rattle.vx_link.specs.declared.program.Program.{Program}
use Rattle.vx_list.specs.Places.{item_or}
use Rattle.vx_value.specs.declared.ids.FieldId.{FieldId}

abbrev is_one : Program → ℕ → Bool
is_one p f = not (is_static_field p f)

-- the instance fields among these that stand before a field
abbrev pub count_of : Program → ℕ → List ℕ → ℕ
count_of p f numbers = length (filter (λ g. nat_lt g f) (filter (is_one p) numbers))

head-is : (a x : ℕ) (xs : List ℕ) → are_run a (x ∷ xs) ≡ true → x ≡ a
head-is a x xs h = (Decides-eqb x a).0 (and_parts (nat_eq x a) (are_run (suc a) xs) h).0

rest-is : (a x : ℕ) (xs : List ℕ) → are_run a (x ∷ xs) ≡ true → are_run (suc a) xs ≡ true
rest-is a x xs h = (and_parts (nat_eq x a) (are_run (suc a) xs) h).1

-- one number more before a field
counted : (p : Program) (f x : ℕ) (xs : List ℕ) → x < f → count_of p f (x ∷ xs) ≡ (if is_one p x then 1 else 0) + count_of p f xs
counted p f x xs less = by_one (is_one p x)
  where
    by_one : (b : Bool) → length (filter (λ g. nat_lt g f) (cond b (x ∷ filter (is_one p) xs) (filter (is_one p) xs))) ≡ (if b then 1 else 0) + count_of p f xs
    by_one true = rw (lt-ltb x f less) (omega arith)
    by_one false = omega arith

-- a number that is not before a field
passed : (p : Program) (f x : ℕ) (xs : List ℕ) → nat_lt x f ≡ false → count_of p f (x ∷ xs) ≡ count_of p f xs
passed p f x xs not_less = by_one (is_one p x)
  where
    by_one : (b : Bool) → length (filter (λ g. nat_lt g f) (cond b (x ∷ filter (is_one p) xs) (filter (is_one p) xs))) ≡ count_of p f xs
    by_one true = ap (λ b. length (cond b (x ∷ filter (λ g. nat_lt g f) (filter (is_one p) xs)) (filter (λ g. nat_lt g f) (filter (is_one p) xs)))) not_less
    by_one false = refl

none-before : (p : Program) (f a : ℕ) (xs : List ℕ) → are_run a xs ≡ true → f ≤ a → count_of p f xs ≡ 0
none-before p f a [] run past = refl
none-before p f a (x ∷ xs) run past =
    let x_is : x ≡ a = head-is a x xs run in
    passed p f x xs (le-ltb x f (omega (arith, x_is, past))) ∙ none-before p f (suc a) xs (rest-is a x xs run) (omega (arith, past))

-- those before a field of a run, with all before the run, are all before the field
pub run_counted : (p : Program) (f a : ℕ) (xs : List ℕ) → are_run a xs ≡ true → a ≤ f → f ≤ a + length xs → count_of p f xs + instances_before p a ≡ instances_before p f
run_counted p f a [] run from upto =
    let same : a ≡ f = omega (arith, from, upto) in
    let last : instances_before p a ≡ instances_before p f = ap (instances_before p) same in
    omega (arith, last)
run_counted p f a (x ∷ xs) run from upto = by_less (nat_lt a f) refl (λ less. run_counted p f (suc a) xs (rest-is a x xs run) (omega (arith, less)) (omega (arith, upto)))
  where
    x_is : x ≡ a
    x_is = head-is a x xs run

    by_less : (b : Bool) → nat_lt a f ≡ b → (a < f → count_of p f xs + instances_before p (suc a) ≡ instances_before p f) → count_of p f (x ∷ xs) + instances_before p a ≡ instances_before p f
    by_less true e later =
        let less : a < f = ltb-true a f e in
        let one : count_of p f (x ∷ xs) ≡ (if is_one p a then 1 else 0) + count_of p f xs = counted p f x xs (omega (arith, x_is, less)) ∙ ap (λ n. (if is_one p n then 1 else 0) + count_of p f xs) x_is in
        let rest : count_of p f xs + (instances_before p a + (if is_one p a then 1 else 0)) ≡ instances_before p f = later less in
        omega (arith, one, rest)
    by_less false e later =
        let same : a ≡ f = omega (arith, ltb-false a f e, from) in
        let none : count_of p f (x ∷ xs) ≡ 0 = none-before p f a (x ∷ xs) run (omega (arith, same)) in
        let last : instances_before p a ≡ instances_before p f = ap (instances_before p) same in
        omega (arith, none, last)

-- ---- the counts of all fields

one_few : (b : Bool) → (if b then 1 else 0) ≤ 1
one_few true = omega arith
one_few false = omega arith

pub instances_few : (p : Program) (n : ℕ) → instances_before p n ≤ n
instances_few p zero = omega arith
instances_few p (suc n) = omega (arith, instances_few p n, one_few (is_one p n))

pub instances_more : (p : Program) (n count one : ℕ) (test : Bool) → count ≡ instances_before p n → one ≡ (if test then 1 else 0) → test ≡ not (is_static_field p n) → count + one ≡ instances_before p (n + 1)
instances_more p n count one test h i j = rw (h, i, j, add-one n) refl

count_read : (p : Program) (counts : List ℕ) (i : ℕ) → counts ≡ running_counts p → i < length counts → get_or counts i 0 ≡ instances_before p i
count_read p counts i e within =
    let long : length counts ≡ length p.fields + 1 = ap length e ∙ length-map-range_with_len (instances_before p) 0 (length p.fields + 1) in
    ap (λ xs. get_or xs i 0) e
    ∙ get_or-map-range_with_len (instances_before p) 0 (length p.fields + 1) i i 0 (omega (arith, within, long)) (omega arith)

-- between two counts stand those of a run before a field
pub run_between : (p : Program) (counts : List ℕ) (fields : List FieldId) (first last : ℕ) → counts ≡ running_counts p → is_run fields ≡ true → first ≡ item_or (map (λ f. f.0) fields) 0 0
    → first ≤ last → last - first ≤ length fields → last < length counts
    → length (filter (λ f. (not (is_static_field p f.0) && nat_lt f.0 last)) fields) + get_or counts first 0 ≡ get_or counts last 0
run_between p counts fields first last all run from behind within there =
    let starts : are_run first (map (λ f. f.0) fields) ≡ true = ap (λ n. are_run n (map (λ f. f.0) fields)) from ∙ run in
    let upto : last ≤ first + length (map (λ f. f.0) fields) = omega (arith, behind, within, length-map fields (λ f. f.0)) in
    let counted : count_of p last (map (λ f. f.0) fields) + instances_before p first ≡ instances_before p last = run_counted p last first (map (λ f. f.0) fields) starts behind upto in
    let both : length (filter (λ f. (not (is_static_field p f.0) && nat_lt f.0 last)) fields) ≡ count_of p last (map (λ f. f.0) fields) = count-both (is_one p) (λ g. nat_lt g last) (λ f. f.0) fields in
    let one : get_or counts first 0 ≡ instances_before p first = count_read p counts first all (omega (arith, behind, there)) in
    let other : get_or counts last 0 ≡ instances_before p last = count_read p counts last all there in
    omega (arith, counted, both, one, other)

pub run_at : (classes : List LinkedClass) (i : ℕ) (c : LinkedClass) → Some c ≡ slice_get classes i → item_or (map (λ c. is_run c.fields) classes) i false ≡ is_run c.fields
run_at [] i c e = absurd cc
run_at (d ∷ ds) zero c e = ap is_run (ap (λ k. k.fields) (same d e))
  where
    same : (d : LinkedClass) → Some c ≡ Some d → d ≡ c
    same d e = cc
run_at (d ∷ ds) (suc i) c e = run_at ds i c e
