-- The objects of literals and class names are there in every configuration that runs, under the numbers that the plain machine has.
use Rattle.std.proofs.Common.{◌≡◌, ℕ, ◌<◌, ◌≤◌, zero, suc, Bool, true, List, [], ◌∷◌, refl, sym, ◌∙◌, ap, subst, map, length, take, arith}
use Rattle.std.proofs.lemmas.List.{length-map}
use Rattle.std.proofs.lemmas.List.Quantifiers.{position-Some}
use Rattle.std.specs.Prelude.{Option, Some, None, position, slice_get, unwrap_or}
use Rattle.vx_list.specs.Places.{item_or}
use Rattle.vx_pool.specs.Lookups.{entry_of}
use Rattle.vx_pool.specs.declared.pool.Entry.{Entry}
use Rattle.vx_pool.specs.declared.pool.Pool.{Pool}
use Rattle.vx_space.specs.Sets.{Sets}
use Rattle.vx_heap.specs.declared.object.HeapObject.{HeapObject}
use Rattle.vx_heap.specs.Heap.{AreEverywhere, HeapView, IsHeapFor, count_if, is_object_held, literal_at, name_at}
use Rattle.vx_java.specs.FirstObjects.{first_of_entry, first_words, for_main, literal_object, literals, same_first}
use Rattle.vx_link.specs.Parts.{class_at, no_class}
use Rattle.vx_link.specs.declared.program.LinkedClass.{LinkedClass}
use Rattle.vx_link.specs.declared.program.Program.{Program}

-- ---- numbers of literals

position_within : {A : Type 0} (p : A → Bool) (xs : List A) (d : A) → unwrap_or (position p xs) 0 ≤ length xs
position_within p xs d = from (position p xs) refl
  where
    from : (o : Option ℕ) → position p xs ≡ o → unwrap_or o 0 ≤ length xs
    from None e = omega arith
    from (Some i) e = let h = (position-Some p xs i d e).0 in omega (arith, h)

literal_within : (p : Program) (pool : Pool) (e : Entry) → literal_object p pool e ≤ first_words p
literal_within p pool e =
    let x = unwrap_or (first_of_entry pool e) for_main in
    omega (arith, position_within (same_first x) (literals p) x)

item_within : {A : Type 0} (f : A → ℕ) (xs : List A) (i m : ℕ) → ((x : A) → f x ≤ m) → item_or (map f xs) i 0 ≤ m
item_within f [] i m h = omega arith
item_within f (x ∷ xs) zero m h = h x
item_within f (x ∷ xs) (suc i) m h = item_within f xs i m h

none_within : (j m : ℕ) → item_or [] j 0 ≤ m
none_within j m = omega arith

table_within : (p : Program) (cs : List LinkedClass) (i j : ℕ) → item_or (item_or (map (λ c. map (literal_object p c.pool) c.pool.entries) cs) i []) j 0 ≤ first_words p
table_within p [] i j = none_within j (first_words p)
table_within p (c ∷ cs) zero j = item_within (literal_object p c.pool) c.pool.entries j (first_words p) (literal_within p c.pool)
table_within p (c ∷ cs) (suc i) j = table_within p cs i j

item_map : {A B : Type 0} (f : A → B) (xs : List A) (i : ℕ) (x : A) (d : B) → slice_get xs i ≡ Some x → item_or (map f xs) i d ≡ f x
item_map f [] i x d h = cc
item_map f (y ∷ ys) zero x d h =
    let same : y ≡ x = cc in
    ap f same
item_map f (y ∷ ys) (suc i) x d h = item_map f ys i x d h

table_item : (p : Program) (cs : List LinkedClass) (i j : ℕ) (e : Entry) → slice_get (item_or cs i no_class).pool.entries j ≡ Some e → item_or (item_or (map (λ c. map (literal_object p c.pool) c.pool.entries) cs) i []) j 0 ≡ literal_object p (item_or cs i no_class).pool e
table_item p [] i j e h = cc
table_item p (c ∷ cs) zero j e h = item_map (literal_object p c.pool) c.pool.entries j e 0 h
table_item p (c ∷ cs) (suc i) j e h = table_item p cs i j e h

-- an entry stands in the table of literals under its class and its index
pub literal_is : {S I : Type 0} (p : Program) (heap : HeapView S I) (class index : ℕ) (e : Entry) → IsHeapFor p heap → entry_of (class_at p class).pool index ≡ Some e → literal_at heap class index ≡ literal_object p (class_at p class).pool e
literal_is p heap class index e v h = ap (λ table. item_or (item_or table class []) index 0) v.literals ∙ table_item p p.classes class index e h

-- the class of an entry is one of the program, and the index is in the table
class_within : (cs : List LinkedClass) (i j : ℕ) (e : Entry) → slice_get (item_or cs i no_class).pool.entries j ≡ Some e → i < length cs
class_within [] i j e h = cc
class_within (c ∷ cs) zero j e h = omega arith
class_within (c ∷ cs) (suc i) j e h = let k = class_within cs i j e h in omega (arith, k)

pub entry_class : (p : Program) (class index : ℕ) (e : Entry) → entry_of (class_at p class).pool index ≡ Some e → class < length p.classes
entry_class p class index e h = class_within p.classes class index e h

pub table_length : {S I : Type 0} (p : Program) (heap : HeapView S I) → IsHeapFor p heap → length heap.literals ≡ length p.classes
table_length p heap v = ap length v.literals ∙ length-map p.classes (λ c. map (literal_object p c.pool) c.pool.entries)

row_length : (p : Program) (cs : List LinkedClass) (i : ℕ) → length (item_or (map (λ c. map (literal_object p c.pool) c.pool.entries) cs) i []) ≡ length (item_or cs i no_class).pool.entries
row_length p [] i = refl
row_length p (c ∷ cs) zero = length-map c.pool.entries (literal_object p c.pool)
row_length p (c ∷ cs) (suc i) = row_length p cs i

pub table_row : {S I : Type 0} (p : Program) (heap : HeapView S I) (class : ℕ) → IsHeapFor p heap → length (item_or heap.literals class []) ≡ length (class_at p class).pool.entries
table_row p heap class v = ap (λ table. length (item_or table class [])) v.literals ∙ row_length p p.classes class

-- ---- the first objects

there : {S I : Type 0} (sets : Sets I) (allowed : I) (os : List (HeapObject S I)) (n i : ℕ) (c : List Bool) → AreEverywhere allowed (take n os) → i < n → i < length os → is_object_held sets c (slice_get os i) ≡ sets.test allowed c
there sets allowed [] n i c h l m = absurd (omega arith)
there sets allowed (o ∷ os) zero i c h l m = absurd (omega arith)
there sets allowed (o ∷ os) (suc n) zero c h l m = ap (λ a. sets.test a c) h.0
there sets allowed (o ∷ os) (suc n) (suc i) c h l m = there sets allowed os n i c h.1 (omega arith) (omega arith)

named : {S I : Type 0} (sets : Sets I) (allowed : I) (os : List (HeapObject S I)) (n i : ℕ) (c : List Bool) → sets.test allowed c ≡ true → AreEverywhere allowed (take n os) → i < n → i < length os → name_at sets os c i ≡ i
named sets allowed [] n i c t h l m = absurd (omega arith)
named sets allowed (o ∷ os) zero i c t h l m = absurd (omega arith)
named sets allowed (o ∷ os) (suc n) zero c t h l m = refl
named sets allowed (o ∷ os) (suc n) (suc i) c t h l m = counted (sets.test o.presence c) (ap (λ a. sets.test a c) h.0 ∙ t) (named sets allowed os n i c t h.1 (omega arith) (omega arith))
  where
    counted : (b : Bool) → b ≡ true → name_at sets os c i ≡ i → count_if b (name_at sets os c i) ≡ suc i
    counted b e r = rw e (ap suc r)

literal_below : {S I : Type 0} (p : Program) (heap : HeapView S I) (class index : ℕ) → IsHeapFor p heap → literal_at heap class index ≤ first_words p
literal_below p heap class index v =
    let P : List (List ℕ) → Type 0 = λ table. item_or (item_or table class []) index 0 ≤ first_words p in
    subst P (sym v.literals) (table_within p p.classes class index)

pub literal_held : {S I : Type 0} (p : Program) (sets : Sets I) (heap : HeapView S I) (class index : ℕ) (c : List Bool) → IsHeapFor p heap → sets.test heap.allowed c ≡ true → is_object_held sets c (slice_get heap.objects (literal_at heap class index)) ≡ true
literal_held p sets heap class index c v t =
    let within = literal_below p heap class index v in
    there sets heap.allowed heap.objects (suc (first_words p)) (literal_at heap class index) c v.first (omega (arith, within)) (omega (arith, within, v.enough)) ∙ t

pub literal_named : {S I : Type 0} (p : Program) (sets : Sets I) (heap : HeapView S I) (class index : ℕ) (c : List Bool) → IsHeapFor p heap → sets.test heap.allowed c ≡ true → name_at sets heap.objects c (literal_at heap class index) ≡ literal_at heap class index
literal_named p sets heap class index c v t =
    let within = literal_below p heap class index v in
    named sets heap.allowed heap.objects (suc (first_words p)) (literal_at heap class index) c t v.first (omega (arith, within)) (omega (arith, within, v.enough))
