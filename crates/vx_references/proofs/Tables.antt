-- What the entries of a pool name, from the classes of its texts.
use Rattle.std.proofs.Common.{◌≡◌, ℕ, ◌+◌, ◌<◌, suc, List, [], ◌∷◌, ◌++◌, arith, get_or, length, refl, sym, take, ◌∙◌, ap, map, Option, Some, None}
use Rattle.std.proofs.Math.Seq.{take-suc}
use Rattle.std.proofs.lemmas.List.{map-append}
use Rattle.std.proofs.lemmas.Option.{slice_get-map}
use Rattle.std.specs.Prelude.{option_and_then, option_map, slice_get, unwrap_or}
use Rattle.vx_pool.specs.Lookups.{class, entry_of, text}
use Rattle.vx_java.specs.Ids.{as_class}
use Rattle.vx_link.specs.ClassNames.{class_named}
use Rattle.vx_link.specs.Parts.{class_at, no_class}
use Rattle.vx_link.specs.declared.program.LinkedClass.{LinkedClass}
use Rattle.vx_link.specs.declared.program.Program.{Program}
use Rattle.vx_pool.specs.declared.pool.Entry.{Entry}
use Rattle.vx_pool.specs.declared.pool.Pool.{Pool}
use Rattle.vx_value.specs.declared.ids.ClassId.{ClassId}
use Rattle.vx_references.specs.Named.{class_by_texts, class_of_entry, class_of_text}

module _ (p : Program) (pool : Pool) where
  abbrev pub texts : List (Option ClassId)
  texts = map (λ e. class_of_text p (Some e)) pool.entries

  of_text : (o : Option Entry) → unwrap_or (option_map (λ e. class_of_text p (Some e)) o) (class_of_text p None) ≡ class_of_text p o
  of_text None = refl
  of_text (Some e) = refl

  of_class : (n : ℕ) → unwrap_or (slice_get texts n) (class_of_text p None) ≡ class_of_text p (entry_of pool n)
  of_class n = ap (λ o. unwrap_or o (class_of_text p None)) (slice_get-map (λ e. class_of_text p (Some e)) pool.entries n) ∙ of_text (entry_of pool n)

  by_kind : (o : Option ℕ) → unwrap_or (option_and_then (slice_get texts) o) (class_of_text p None) ≡ option_map as_class (class_named p (unwrap_or (option_and_then (text pool) o) []))
  by_kind None = refl
  by_kind (Some n) = of_class n

  entry_is : (e : Entry) → class_by_texts texts (class_of_text p None) (Some e) ≡ class_of_entry p pool (Some e)
  entry_is e = by_kind (class (Some e))

  -- a row
  pub row_is : (row read : List (Option ClassId)) (nothing : Option ClassId) → read ≡ texts → nothing ≡ class_of_text p None
      → row ≡ map (λ e. class_by_texts read nothing (Some e)) pool.entries → row ≡ map (λ e. class_of_entry p pool (Some e)) pool.entries
  row_is row read nothing t n r =
      r ∙ (λ i. map (λ e. class_by_texts (t i) (n i) (Some e)) pool.entries) ∙ (λ i. map (λ e. entry_is e i) pool.entries)

-- ---- a class by its place

pub class_there : (p : Program) (c : ℕ) (x : LinkedClass) → Some x ≡ slice_get p.classes c → x ≡ class_at p c
class_there p c x e = ap (λ o. unwrap_or o no_class) e

pub class_missing : (p : Program) (c : ℕ) → None ≡ slice_get p.classes c → no_class ≡ class_at p c
class_missing p c e = ap (λ (o : Option LinkedClass). unwrap_or o no_class) e

-- the step of a loop that puts down a row for each class
pub row_more : {R : Type 0} (f : LinkedClass → R) (classes : List LinkedClass) (i : ℕ) (c : LinkedClass) (rows more : List R) → i < length classes → c ≡ get_or classes i c
    → rows ≡ map f (take i classes) → more ≡ rows ++ f c ∷ [] → more ≡ map f (take (i + 1) classes)
row_more f classes i c rows more within is so_far made =
    let next : suc i ≡ i + 1 = omega arith in
    made ∙ ap (λ r. r ++ f c ∷ []) so_far
    ∙ sym (map-append f (take i classes) (c ∷ []))
    ∙ ap (map f) (ap (λ x. take i classes ++ x ∷ []) is ∙ sym (take-suc classes i c within) ∙ ap (λ n. take n classes) next)
