-- The layout of objects, as tables give it.
use Rattle.std.proofs.Common.{◌≡◌, ℕ, List, [], ◌∷◌, ◌++◌, ◌+◌, ◌-◌, ◌*◌, ◌<◌, ◌≤◌, map, length, drop, filter, refl, ap, sym, ◌∙◌, Bool, true, false, not, ◌&&◌, Option, Some, None, option_map, unwrap_or, slice_get, nat_lt, zero, suc, arith, add-one, if◌then◌else◌}
use Rattle.std.specs.List.{All, range_with_len}
use Rattle.std.proofs.lemmas.List.{length-map}
use Rattle.std.proofs.lemmas.List.FromFn.{map-range_with_len_more}
use Rattle.vx_list.specs.Places.{item_or}
use Rattle.vx_linker.specs.Cells.{instance_fields_in, instance_counts, cells_above, fields_before, with_cells}
use Rattle.vx_linker.specs.Few.{HasFewFields}
use Rattle.vx_link.specs.Hierarchy.{chain_within, superclass_of, superclasses}
use Rattle.vx_link.specs.Linked.{cell_count, instance_fields, layout, fields_with_layout}
use Rattle.vx_link.specs.Parts.{class_at, class_count, field_at, is_static_field, no_class}
use Rattle.vx_link.specs.declared.program.LinkedClass.{LinkedClass}
use Rattle.vx_link.specs.declared.program.LinkedField.{LinkedField}
use Rattle.vx_link.specs.declared.program.Program.{Program}
use Rattle.vx_value.specs.declared.ids.FieldId.{FieldId}

-- ---- tables

item_or-map : {A B : Type 0} (f : A → B) (xs : List A) (i : ℕ) (e : A) (d : B) → f e ≡ d → item_or (map f xs) i d ≡ f (item_or xs i e)
item_or-map f [] i e d h = sym h
item_or-map f (x ∷ xs) zero e d h = refl
item_or-map f (x ∷ xs) (suc i) e d h = item_or-map f xs i e d h

pub item_there : {A : Type 0} (xs : List A) (i : ℕ) (x d : A) → Some x ≡ slice_get xs i → item_or xs i d ≡ x
item_there xs i x d h = ap (λ o. unwrap_or o d) (sym h)

pub item_missing : {A : Type 0} (xs : List A) (i : ℕ) (d : A) → None ≡ slice_get xs i → item_or xs i d ≡ d
item_missing xs i d h = ap (λ o. unwrap_or o d) (sym h)

-- ---- how many instance fields classes have

shorter-at : {A : Type 0} (x : A) (kept xs : List A) (b : Bool) → length kept ≤ length xs → length (if b then x ∷ kept else kept) ≤ suc (length xs)
shorter-at x kept xs true h = omega (arith, h)
shorter-at x kept xs false h = omega (arith, h)

filter-shorter : {A : Type 0} (p : A → Bool) (xs : List A) → length (filter p xs) ≤ length xs
filter-shorter p [] = omega arith
filter-shorter p (x ∷ xs) = shorter-at x (filter p xs) xs (p x) (filter-shorter p xs)

pub count-at : (p : Program) (c : ℕ) → item_or (instance_counts p) c 0 ≡ length (instance_fields p c)
count-at p c = item_or-map (λ k. length (instance_fields_in p k)) p.classes c no_class 0 refl

few-at : (cs : List LinkedClass) (i : ℕ) → All HasFewFields cs → length (item_or cs i no_class).fields < 65536
few-at [] i h = omega arith
few-at (c ∷ cs) zero h = (h 0 c (omega arith)).fields
few-at (c ∷ cs) (suc i) h = few-at cs i (λ k d below. h (suc k) d (omega arith))

pub few_instances : (p : Program) (c : ℕ) → All HasFewFields p.classes → length (instance_fields p c) < 65536
few_instances p c h = omega (arith, filter-shorter (λ f. not (is_static_field p f)) (map (λ f. f.0) (class_at p c).fields), length-map (class_at p c).fields (λ f. f.0), few-at p.classes c h)

count-instances-at : {A : Type 0} (p : ℕ → Bool) (number : A → ℕ) (x : A) (kept : List A) (numbers : List ℕ) (b : Bool) → length kept ≡ length numbers → length (if b then x ∷ kept else kept) ≡ length (if b then number x ∷ numbers else numbers)
count-instances-at p number x kept numbers true h = ap suc h
count-instances-at p number x kept numbers false h = h

count-instances : {A : Type 0} (p : ℕ → Bool) (number : A → ℕ) (xs : List A) → length (filter (λ x. p (number x)) xs) ≡ length (filter p (map number xs))
count-instances p number [] = refl
count-instances p number (x ∷ xs) = count-instances-at p number x (filter (λ x. p (number x)) xs) (filter p (map number xs)) (p (number x)) (count-instances p number xs)

pub count_is : (p : Program) (c : LinkedClass) (fields : List FieldId) → fields ≡ c.fields → length (filter (λ f. not (is_static_field p f.0)) fields) ≡ length (instance_fields_in p c)
count_is p c fields e = ap (λ fs. length (filter (λ f. not (is_static_field p f.0)) fs)) e ∙ count-instances (λ f. not (is_static_field p f)) (λ f. f.0) c.fields

pub count_few : (p : Program) (c : LinkedClass) (fields : List FieldId) (count : ℕ) → HasFewFields c → fields ≡ c.fields → count ≡ length (filter (λ f. not (is_static_field p f.0)) fields) → count < 65536
count_few p c fields count h e n = omega (arith, n, filter-shorter (λ f. not (is_static_field p f.0)) fields, ap length e, h.fields)

count-kept : {A : Type 0} (q : ℕ → Bool) (number : A → ℕ) (x : A) (both : List A) (kept : List ℕ) (b : Bool) → b ≡ q (number x) → length both ≡ length (filter q kept) → length (if b then x ∷ both else both) ≡ length (filter q (number x ∷ kept))
count-kept q number x both kept true e h = rw (← e) (ap suc h)
count-kept q number x both kept false e h = rw (← e) h

count-both-at : {A : Type 0} (q : ℕ → Bool) (number : A → ℕ) (x : A) (both : List A) (kept : List ℕ) (a : Bool) → length both ≡ length (filter q kept) → length (if a && q (number x) then x ∷ both else both) ≡ length (filter q (if a then number x ∷ kept else kept))
count-both-at q number x both kept false h = h
count-both-at q number x both kept true h = count-kept q number x both kept (q (number x)) refl h

pub count-both : {A : Type 0} (p q : ℕ → Bool) (number : A → ℕ) (xs : List A) → length (filter (λ x. p (number x) && q (number x)) xs) ≡ length (filter q (filter p (map number xs)))
count-both p q number [] = refl
count-both p q number (x ∷ xs) = count-both-at q number x (filter (λ x. p (number x) && q (number x)) xs) (filter p (map number xs)) (p (number x)) (count-both p q number xs)

pub before_is : (p : Program) (class before : ℕ) (c : LinkedClass) (fields : List FieldId) (count : ℕ) → Some c ≡ slice_get p.classes class → fields ≡ c.fields → count ≡ length (filter (λ f. (not (is_static_field p f.0) && nat_lt f.0 before)) fields) → count ≡ fields_before p class before
before_is p class before c fields count h e n =
    n
    ∙ ap (λ fs. length (filter (λ f. (not (is_static_field p f.0) && nat_lt f.0 before)) fs)) e
    ∙ count-both (λ f. not (is_static_field p f)) (λ g. nat_lt g before) (λ f. f.0) c.fields
    ∙ ap (λ k. length (filter (λ g. nat_lt g before) (instance_fields_in p k))) (sym (item_there p.classes class c no_class h))

pub before_few : (p : Program) (class before count : ℕ) → All HasFewFields p.classes → count ≡ fields_before p class before → count < 65536
before_few p class before count h e = omega (arith, e, filter-shorter (λ g. nat_lt g before) (instance_fields p class), few_instances p class h)

pub before_none : (p : Program) (class before : ℕ) → None ≡ slice_get p.classes class → 0 ≡ fields_before p class before
before_none p class before h = ap (λ k. length (filter (λ g. nat_lt g before) (instance_fields_in p k))) (sym (item_missing p.classes class no_class h))

-- ---- superclasses upward

pub superclass_there : (p : Program) (class : ℕ) (c : LinkedClass) → Some c ≡ slice_get p.classes class → option_map (λ s. s.0) c.superclass ≡ superclass_of p class
superclass_there p class c h = ap (λ k. option_map (λ s. s.0) k.superclass) (sym (item_there p.classes class c no_class h))

pub superclass_missing : (p : Program) (class : ℕ) → None ≡ slice_get p.classes class → None ≡ superclass_of p class
superclass_missing p class h = ap (λ k. option_map (λ s. s.0) k.superclass) (sym (item_missing p.classes class no_class h))

-- what is counted so far, and what is left, are all
pub record Counts (p : Program) (steps : ℕ) (start : Option ℕ) (count step : ℕ) (next : Option ℕ) : Type 0 where
  pub so_far : count + cell_count p (chain_within p (steps - step) next) ≡ cell_count p (chain_within p steps start)
  pub few : count ≤ 65536 * step

pub counts_first : (p : Program) (steps : ℕ) (start : Option ℕ) → Counts p steps start 0 0 start
counts_first p steps start =
    let all : cell_count p (chain_within p (steps - 0) start) ≡ cell_count p (chain_within p steps start) = ap (λ n. cell_count p (chain_within p n start)) (omega arith) in
    record { so_far = omega (arith, all); few = omega arith }

no-cells : (p : Program) (n : ℕ) → cell_count p (chain_within p n None) ≡ 0
no-cells p zero = refl
no-cells p (suc n) = refl

pub counts_none : (p : Program) (steps : ℕ) (start : Option ℕ) (count step : ℕ) → Counts p steps start count step None → count ≡ cell_count p (chain_within p steps start)
counts_none p steps start count step h = omega (arith, h.so_far, no-cells p (steps - step))

pub counts_all : (p : Program) (steps : ℕ) (start : Option ℕ) (count step : ℕ) (next : Option ℕ) → Counts p steps start count step next → steps ≤ step → count ≡ cell_count p (chain_within p steps start)
counts_all p steps start count step next h over =
    let none : steps - step ≡ 0 = omega arith in
    let last : cell_count p (chain_within p (steps - step) next) ≡ 0 = ap (λ n. cell_count p (chain_within p n next)) none in
    omega (arith, h.so_far, last)

pub counts_more : (p : Program) (steps : ℕ) (start : Option ℕ) (count step class : ℕ) → All HasFewFields p.classes → Counts p steps start count step (Some class) → step < steps → Counts p steps start (count + length (instance_fields p class)) (step + 1) (superclass_of p class)
counts_more p steps start count step class few h below =
    let more : steps - step ≡ suc (steps - (step + 1)) = omega arith in
    let next : cell_count p (chain_within p (steps - step) (Some class)) ≡ length (instance_fields p class) + cell_count p (chain_within p (steps - (step + 1)) (superclass_of p class)) = ap (λ n. cell_count p (chain_within p n (Some class))) more in
    record { so_far = omega (arith, h.so_far, next); few = omega (arith, h.few, few_instances p class few) }

pub counts_step : (p : Program) (steps : ℕ) (start : Option ℕ) (count step class number : ℕ) (next : Option ℕ) → All HasFewFields p.classes → Counts p steps start count step (Some class) → step < steps → number ≡ length (instance_fields p class) → next ≡ superclass_of p class → Counts p steps start (count + number) (step + 1) next
counts_step p steps start count step class number next few h below e f = rw (e, f) (counts_more p steps start count step class few h below)

chain-few : (p : Program) (n : ℕ) (o : Option ℕ) → All HasFewFields p.classes → cell_count p (chain_within p n o) ≤ 65536 * n
chain-few p zero o few = omega arith
chain-few p (suc n) None few = omega arith
chain-few p (suc n) (Some c) few = omega (arith, few_instances p c few, chain-few p n (superclass_of p c) few)

-- ---- cells

chain-above : (p : Program) (n c : ℕ) → chain_within p (n - 1) (superclass_of p c) ≡ drop 1 (chain_within p n (Some c))
chain-above p zero c = refl
chain-above p (suc n) c = let e : suc n - 1 ≡ n = omega arith in ap (λ k. chain_within p k (superclass_of p c)) e

pub above-at : (p : Program) (c : ℕ) → item_or (cells_above p) c 0 ≡ cell_count p (drop 1 (superclasses p c))
above-at p c =
    item_or-map (λ k. cell_count p (chain_within p (class_count p - 1) (option_map (λ s. s.0) k.superclass))) p.classes c no_class 0 (no-cells p (class_count p - 1))
    ∙ ap (cell_count p) (chain-above p (class_count p) c)

abbrev in-object : Program → ℕ → LinkedField → ℕ
in-object p f field = cell_count p (drop 1 (superclasses p field.class.0)) + fields_before p field.class.0 f

pub cell_static : (p : Program) (f : ℕ) → true ≡ is_static_field p f → 0 ≡ layout p f
cell_static p f h = rw (layout, ← h) refl

pub cell_instance : (p : Program) (f : ℕ) (field : LinkedField) (above before : ℕ) → false ≡ is_static_field p f → field ≡ field_at p f → above ≡ item_or (cells_above p) field.class.0 0 → before ≡ fields_before p field.class.0 f → above + before ≡ layout p f
cell_instance p f field above before h e a b =
    rw (layout, ← h)
    (ap (λ n. n + before) (a ∙ above-at p field.class.0)
    ∙ ap (λ n. cell_count p (drop 1 (superclasses p field.class.0)) + n) b
    ∙ ap (in-object p f) e)

pub above_few : (p : Program) (c : ℕ) → All HasFewFields p.classes → item_or (cells_above p) c 0 ≤ 65536 * (class_count p - 1)
above_few p c few =
    let e : item_or (cells_above p) c 0 ≡ cell_count p (chain_within p (class_count p - 1) (superclass_of p c)) = item_or-map (λ k. cell_count p (chain_within p (class_count p - 1) (option_map (λ s. s.0) k.superclass))) p.classes c no_class 0 (no-cells p (class_count p - 1)) in
    omega (arith, e, chain-few p (class_count p - 1) (superclass_of p c) few)

-- one number more of a list of numbered things
pub numbered_more : {X : Type 0} (f : ℕ → X) (from n k : ℕ) (xs more : List X) (x : X) → xs ≡ map f (range_with_len from n) → more ≡ xs ++ x ∷ [] → x ≡ f k → from + n ≡ k → more ≡ map f (range_with_len from (n + 1))
numbered_more f from n k xs more x h e i j =
    e
    ∙ ap (λ ys. ys ++ x ∷ []) h
    ∙ ap (λ y. map f (range_with_len from n) ++ y ∷ []) i
    ∙ sym (map-range_with_len_more f from n k j)

pub fields_laid_out : (p : Program) (from : ℕ) (fields : List LinkedField) → with_cells fields (map (layout p) (range_with_len from (length fields))) ≡ fields_with_layout p from fields
fields_laid_out p from [] = refl
fields_laid_out p from (f ∷ fields) = ap (λ rest. record f { cell = layout p from } ∷ rest) (ap (λ n. with_cells fields (map (layout p) (range_with_len n (length fields)))) (add-one from) ∙ fields_laid_out p (suc from) fields)

-- a field with another cell has the same name and descriptor
abbrev pub signature_of_field : LinkedField → List ℕ × List ℕ
signature_of_field f = (f.name, f.descriptor)

pub same_signatures : (fields : List LinkedField) (cells : List ℕ) → map signature_of_field (with_cells fields cells) ≡ map signature_of_field fields
same_signatures [] cells = refl
same_signatures (f ∷ fields) cells = ap (λ rest. (f.name, f.descriptor) ∷ rest) (same_signatures fields (drop 1 cells))
