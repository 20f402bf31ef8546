-- Objects of constants, read from the table of the objects of literals.
use Rattle.std.proofs.Common.{◌≡◌, ◌∙◌, ◌+◌, ◌≤◌, Bool, true, List, [], ◌∷◌, ℕ, zero, suc, Option, None, Some, ap, arith, length, map, nat_lt, option_map, position, refl, sym, unwrap_or}
use Rattle.std.proofs.lemmas.Bool.{lt-ltb}
use Rattle.std.proofs.lemmas.List.Quantifiers.{position-Some}
use Rattle.std.proofs.lemmas.Option.{slice_get-map}
use Rattle.std.specs.Prelude.{slice_get}
use Rattle.vx_java.specs.FirstObjects.{First, constant_of, first_of_entry, first_words, for_main, literal_object, literals, same_first}
use Rattle.vx_java.specs.Machine.{Ref}
use Rattle.vx_link.specs.Parts.{class_at, no_class}
use Rattle.vx_link.specs.declared.program.LinkedClass.{LinkedClass}
use Rattle.vx_link.specs.declared.program.Program.{Program}
use Rattle.vx_list.specs.Places.{item_or}
use Rattle.vx_pool.specs.declared.pool.Entry.{Entry}
use Rattle.vx_pool.specs.declared.pool.Entry.TheVariants.{Text}
use Rattle.vx_pool.specs.declared.pool.Pool.{Pool}

abbrev objects_in : Program → Pool → List ℕ
objects_in p pool = map (literal_object p pool) pool.entries

row_of_class : (p : Program) (classes : List LinkedClass) (class : ℕ) → item_or (map (λ c. objects_in p c.pool) classes) class [] ≡ objects_in p (item_or classes class no_class).pool
row_of_class p [] class = refl
row_of_class p (c ∷ cs) zero = refl
row_of_class p (c ∷ cs) (suc class) = row_of_class p cs class

item_of_entry : (p : Program) (pool : Pool) (entry : ℕ) (e : Entry) → Some e ≡ slice_get pool.entries entry → item_or (objects_in p pool) entry 0 ≡ literal_object p pool e
item_of_entry p pool entry e there = ap (λ o. unwrap_or o 0) (slice_get-map (literal_object p pool) pool.entries entry ∙ ap (option_map (literal_object p pool)) (sym there))

-- the object of an entry of a class's pool
pub object_of_constant : (p : Program) (table : List (List ℕ)) (class constant : ℕ) (pool : Pool) (e : Entry) → table ≡ map (λ c. objects_in p c.pool) p.classes → pool ≡ (class_at p class).pool
    → Some e ≡ slice_get pool.entries constant → item_or (item_or table class []) constant 0 ≡ literal_object p pool e
object_of_constant p table class constant pool e all own there =
    ap (λ rows. item_or (item_or rows class []) constant 0) all
    ∙ ap (λ row. item_or row constant 0) (row_of_class p p.classes class ∙ ap (objects_in p) (sym own))
    ∙ item_of_entry p pool constant e there

pub text_constant : (p : Program) (table : List (List ℕ)) (class constant object : ℕ) (pool : Pool) (e : Entry) (index : ℕ) → table ≡ map (λ c. objects_in p c.pool) p.classes → pool ≡ (class_at p class).pool
    → Some e ≡ slice_get pool.entries constant → e ≡ Text index → object ≡ item_or (item_or table class []) constant 0 → Ref object ≡ constant_of p pool (slice_get pool.entries constant)
text_constant p table class constant object pool e index all own there is read =
    ap Ref (read ∙ object_of_constant p table class constant pool e all own there ∙ ap (literal_object p pool) is)
    ∙ ap (constant_of p pool) (sym (ap Some is) ∙ there)

position_within : (q : First → Bool) (xs : List First) (o : Option ℕ) → position q xs ≡ o → unwrap_or o 0 ≤ length xs
position_within q xs None e = omega arith
position_within q xs (Some i) e = omega (arith, (position-Some q xs i for_main e).0)

-- the objects of literals stand before the array for main
pub constant_held : (p : Program) (table : List (List ℕ)) (class constant object : ℕ) (pool : Pool) (e : Entry) → table ≡ map (λ c. objects_in p c.pool) p.classes → pool ≡ (class_at p class).pool
    → Some e ≡ slice_get pool.entries constant → object ≡ item_or (item_or table class []) constant 0 → nat_lt object (suc (first_words p)) ≡ true
constant_held p table class constant object pool e all own there read =
    let x = unwrap_or (first_of_entry pool e) for_main in
    let is : object ≡ 260 + unwrap_or (position (same_first x) (literals p)) 0 = read ∙ object_of_constant p table class constant pool e all own there in
    lt-ltb object (suc (first_words p)) (omega (arith, is, position_within (same_first x) (literals p) (position (same_first x) (literals p)) refl))
