-- What the tables say of an entry.
use Rattle.std.proofs.Common.{◌≡◌, ℕ, zero, suc, List, [], ◌∷◌, refl, ◌∙◌, ap, map, sym}
use Rattle.std.proofs.lemmas.Option.{slice_get-map}
use Rattle.std.specs.Prelude.{None, Option, Some, option_map, slice_get, unwrap_or}
use Rattle.vx_pool.specs.Lookups.{entry_of}
use Rattle.vx_java.specs.FirstObjects.{literal_object}
use Rattle.vx_link.specs.Parts.{class_at, no_class}
use Rattle.vx_link.specs.declared.program.LinkedClass.{LinkedClass}
use Rattle.vx_link.specs.declared.program.Program.{Program}
use Rattle.vx_list.specs.Places.{item_or}
use Rattle.vx_plain_tables.specs.Tables.{AreTables, literal_in}
use Rattle.vx_plain_tables.specs.declared.tables.Tables.{Tables}
use Rattle.vx_pool.specs.declared.pool.Entry.{Entry}
use Rattle.vx_pool.specs.declared.pool.Pool.{Pool}
use Rattle.vx_references.specs.Named.{class_of_entry}
use Rattle.vx_value.specs.declared.ids.ClassId.{ClassId}

row_of : (p : Program) (cs : List LinkedClass) (c i : ℕ) → slice_get (item_or (map (λ k. map (λ e. class_of_entry p k.pool (Some e)) k.pool.entries) cs) c []) i ≡ option_map (λ e. class_of_entry p (item_or cs c no_class).pool (Some e)) (entry_of (item_or cs c no_class).pool i)
row_of p [] c i = refl
row_of p (k ∷ ks) zero i = slice_get-map (λ e. class_of_entry p k.pool (Some e)) k.pool.entries i
row_of p (k ∷ ks) (suc c) i = row_of p ks c i

some_same : {A : Type 0} (x y : A) → Some x ≡ Some y → x ≡ y
some_same x y e = cc

entry_is : (p : Program) (pool : Pool) (o : Option Entry) (r : Option ClassId) → Some r ≡ option_map (λ e. class_of_entry p pool (Some e)) o → r ≡ class_of_entry p pool o
entry_is p pool None r h = cc
entry_is p pool (Some e) r h = some_same r (class_of_entry p pool (Some e)) h

pub found_is : (p : Program) (t : Tables) (c i : ℕ) (r : Option ClassId) → AreTables p t → Some r ≡ slice_get (item_or t.classes.items c []) i → r ≡ class_of_entry p (class_at p c).pool (entry_of (class_at p c).pool i)
found_is p t c i r v h = entry_is p (class_at p c).pool (entry_of (class_at p c).pool i) r (h ∙ ap (λ table. slice_get (item_or table c []) i) v.classes ∙ row_of p p.classes c i)

literal_row : (p : Program) (cs : List LinkedClass) (c i : ℕ) → item_or (item_or (map (λ k. map (literal_object p k.pool) k.pool.entries) cs) c []) i 0 ≡ literal_in p (item_or cs c no_class).pool (entry_of (item_or cs c no_class).pool i)
literal_row p [] c i = refl
literal_row p (k ∷ ks) zero i = ap (λ o. unwrap_or o 0) (slice_get-map (literal_object p k.pool) k.pool.entries i) ∙ there (entry_of k.pool i)
  where
    there : (o : Option Entry) → unwrap_or (option_map (literal_object p k.pool) o) 0 ≡ literal_in p k.pool o
    there None = refl
    there (Some e) = refl
literal_row p (k ∷ ks) (suc c) i = literal_row p ks c i

pub literal_is : (p : Program) (t : Tables) (c i : ℕ) → AreTables p t → item_or (item_or t.literals.items c []) i 0 ≡ literal_in p (class_at p c).pool (entry_of (class_at p c).pool i)
literal_is p t c i v = ap (λ table. item_or (item_or table c []) i 0) v.literals ∙ literal_row p p.classes c i
