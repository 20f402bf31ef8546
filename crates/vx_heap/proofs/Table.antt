-- What the table of the heap says of an entry is the class that the entry names.
use Rattle.std.proofs.Common.{◌≡◌, ℕ, zero, suc, List, [], ◌∷◌, refl, ◌∙◌, ap, map, Option, Some, None}
use Rattle.std.proofs.lemmas.Option.{slice_get-map}
use Rattle.std.specs.Prelude.{option_map, slice_get, unwrap_or}
use Rattle.vx_pool.specs.Lookups.{entry_of}
use Rattle.vx_link.specs.Parts.{class_at, no_class}
use Rattle.vx_link.specs.declared.program.LinkedClass.{LinkedClass}
use Rattle.vx_link.specs.declared.program.Program.{Program}
use Rattle.vx_list.specs.Places.{item_or}
use Rattle.vx_pool.specs.declared.pool.Entry.{Entry}
use Rattle.vx_pool.specs.declared.pool.Pool.{Pool}
use Rattle.vx_references.specs.Named.{class_of_entry}
use Rattle.vx_value.specs.declared.ids.ClassId.{ClassId}
use Rattle.vx_heap.specs.Heap.{HeapView, IsHeapFor, resolved_in}

table_entry : (p : Program) (cs : List LinkedClass) (c i : ℕ) → slice_get (item_or (map (λ k. map (λ e. class_of_entry p k.pool (Some e)) k.pool.entries) cs) c []) i ≡ option_map (λ e. class_of_entry p (item_or cs c no_class).pool (Some e)) (slice_get (item_or cs c no_class).pool.entries i)
table_entry p [] c i = refl
table_entry p (k ∷ ks) zero i = slice_get-map (λ e. class_of_entry p k.pool (Some e)) k.pool.entries i
table_entry p (k ∷ ks) (suc c) i = table_entry p ks c i

some_same : {A : Type 0} (x y : A) → Some x ≡ Some y → x ≡ y
some_same x y e = cc

entry_is : (p : Program) (pool : Pool) (o : Option Entry) (r : Option ClassId) → Some r ≡ option_map (λ e. class_of_entry p pool (Some e)) o → r ≡ class_of_entry p pool o
entry_is p pool None r h = cc
entry_is p pool (Some e) r h = some_same r (class_of_entry p pool (Some e)) h

-- reading the table by its rows
pub row_in : (table : List (List (Option ClassId))) (class entry : ℕ) (row : List (Option ClassId)) (r : Option (Option ClassId)) → Some row ≡ slice_get table class → r ≡ slice_get row entry → r ≡ slice_get (item_or table class []) entry
row_in table class entry row r h e = e ∙ ap (λ o. slice_get (unwrap_or o []) entry) h

pub no_row : (table : List (List (Option ClassId))) (class entry : ℕ) → None ≡ slice_get table class → None ≡ slice_get (item_or table class []) entry
no_row table class entry h = ap (λ (o : Option (List (Option ClassId))). slice_get (unwrap_or o []) entry) h

pub found_is : {S I : Type 0} (p : Program) (heap : HeapView S I) (class entry : ℕ) (r : Option ClassId) → IsHeapFor p heap → Some r ≡ resolved_in heap class entry → r ≡ class_of_entry p (class_at p class).pool (entry_of (class_at p class).pool entry)
found_is p heap class entry r v h =
    entry_is p (class_at p class).pool (entry_of (class_at p class).pool entry) r
    (h ∙ ap (λ table. slice_get (item_or table class []) entry) v.resolved ∙ table_entry p p.classes class entry)
