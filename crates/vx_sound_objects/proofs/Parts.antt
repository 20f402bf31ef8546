-- The members of class files in a linked program, by the numbers that their classes have.
use Rattle.std.proofs.Common.{if◌then◌else◌, List, None, Option, Some, [], ap, append_assoc, arith, inl, inr, is_some, length, map, refl, slice_get, suc, sym, zero, ℕ, ◌++◌, ◌+◌, ◌<◌, ◌∙◌, ◌∷◌, ◌≡◌}
use Rattle.std.proofs.lemmas.List.{length-map}
use Rattle.std.proofs.lemmas.Option.{same_Some, slice_get-map}
use Rattle.std.specs.Option.{option_map}
use Rattle.vx_class.specs.declared.class_file.ClassFile.{ClassFile}
use Rattle.vx_class.specs.declared.class_file.Field.{Field}
use Rattle.vx_class.specs.declared.class_file.Method.{Method}
use Rattle.vx_kept_states.proofs.Throwables.{behind}
use Rattle.vx_link.specs.Linked.{empty_clinit, fields_from, linked_class, linked_classes, linked_field, linked_method, linked_methods, method_count, methods_from, methods_of_class, own_clinit}
use Rattle.vx_link.specs.declared.program.LinkedField.{LinkedField}
use Rattle.vx_link.specs.declared.program.LinkedMethod.{LinkedMethod}
use Rattle.vx_model.specs.declared.model.OptionField.{OptionField}
use Rattle.vx_pool.specs.declared.pool.Pool.{Pool}
use Rattle.vx_program_bounds.proofs.MainRoom.{count_of_class}
use Rattle.vx_sound_objects.proofs.Lists.{in_front, parted, unmapped}

-- ---- where the members of a class begin

abbrev pub first_field : List ClassFile → ℕ → ℕ
first_field [] j = 0
first_field (c ∷ cs) zero = 0
first_field (c ∷ cs) (suc j) = length c.fields + first_field cs j

abbrev pub first_method : List ClassFile → ℕ → ℕ
first_method [] j = 0
first_method (c ∷ cs) zero = 0
first_method (c ∷ cs) (suc j) = method_count c + first_method cs j

-- ---- classes

pub class_there : (names : List (List ℕ)) (files : List ClassFile) (methods fields j : ℕ) (c : ClassFile) → slice_get files j ≡ Some c
    → slice_get (linked_classes names files methods fields) j ≡ Some (linked_class names c (methods + first_method files j) (fields + first_field files j))
class_there names [] methods fields j c is = cc
class_there names (d ∷ files) methods fields zero c is =
    let m : methods ≡ methods + 0 = omega arith in
    let f : fields ≡ fields + 0 = omega arith in
    ap (option_map (λ c. linked_class names c methods fields)) is ∙ ap (λ m. Some (linked_class names c m fields)) m ∙ ap (λ f. Some (linked_class names c (methods + 0) f)) f
class_there names (d ∷ files) methods fields (suc j) c is =
    let m : methods + method_count d + first_method files j ≡ methods + (method_count d + first_method files j) = omega arith in
    let f : fields + length d.fields + first_field files j ≡ fields + (length d.fields + first_field files j) = omega arith in
    class_there names files (methods + method_count d) (fields + length d.fields) j c is
    ∙ ap (λ m. Some (linked_class names c m (fields + length d.fields + first_field files j))) m
    ∙ ap (λ f. Some (linked_class names c (methods + (method_count d + first_method files j)) f)) f

pub class_missing : (names : List (List ℕ)) (files : List ClassFile) (methods fields j : ℕ) → slice_get files j ≡ None
    → slice_get (linked_classes names files methods fields) j ≡ None
class_missing names [] methods fields j is = refl
class_missing names (d ∷ files) methods fields zero is = cc
class_missing names (d ∷ files) methods fields (suc j) is = class_missing names files (methods + method_count d) (fields + length d.fields) j is

-- ---- fields

pub field_there : (options : List OptionField) (class : ℕ) (files : List ClassFile) (j i : ℕ) (c : ClassFile) (f : Field) → slice_get files j ≡ Some c → slice_get c.fields i ≡ Some f
    → slice_get (fields_from options class files) (first_field files j + i) ≡ Some (linked_field options (class + j) c f)
field_there options class [] j i c f is own = cc
field_there options class (d ∷ files) zero i c f is own = at d c (same_Some d c is) own
  where
    same : class + 0 ≡ class
    same = omega arith

    at : (d c : ClassFile) → d ≡ c → slice_get c.fields i ≡ Some f
        → slice_get (map (linked_field options class d) d.fields ++ fields_from options (suc class) files) (0 + i) ≡ Some (linked_field options (class + 0) c f)
    at d c equal own =
        let here : 0 + i ≡ i = omega arith in
        ap (slice_get (map (linked_field options class d) d.fields ++ fields_from options (suc class) files)) here
        ∙ in_front (map (linked_field options class d) d.fields) (fields_from options (suc class) files) i (linked_field options class c f)
        (ap (λ (d : ClassFile). slice_get (map (linked_field options class d) d.fields) i) equal ∙ slice_get-map (linked_field options class c) c.fields i ∙ ap (option_map (linked_field options class c)) own)
        ∙ ap (λ k. Some (linked_field options k c f)) (sym same)
field_there options class (d ∷ files) (suc j) i c f is own =
    let count : length (map (linked_field options class d) d.fields) ≡ length d.fields = length-map d.fields (linked_field options class d) in
    let next : suc class + j ≡ class + suc j = omega arith in
    behind (map (linked_field options class d) d.fields) (fields_from options (suc class) files) (length d.fields + first_field files j + i) (first_field files j + i) (omega (arith, count))
    ∙ field_there options (suc class) files j i c f is own
    ∙ ap (λ k. Some (linked_field options k c f)) next

-- a field is one of a class file
pub record IsFieldOf (options : List OptionField) (class : ℕ) (files : List ClassFile) (k : ℕ) (x : LinkedField) : Type 0 where
  pub place : ℕ
  pub file : ClassFile
  pub own : ℕ
  pub field : Field
  pub file_there : slice_get files place ≡ Some file
  pub field_there : slice_get file.fields own ≡ Some field
  pub at : k ≡ first_field files place + own
  pub is : x ≡ linked_field options (class + place) file field

field_later : (options : List OptionField) (class : ℕ) (c : ClassFile) (files : List ClassFile) (i k : ℕ) (x : LinkedField) → i ≡ length (map (linked_field options class c) c.fields) + k
    → IsFieldOf options (suc class) files k x → IsFieldOf options class (c ∷ files) i x
field_later options class c files i k x is of =
    let count : length (map (linked_field options class c) c.fields) ≡ length c.fields = length-map c.fields (linked_field options class c) in
    let at = of.at in
    let next : suc class + of.place ≡ class + suc of.place = omega arith in
    record {
      place = suc of.place;
      file = of.file;
      own = of.own;
      field = of.field;
      file_there = of.file_there;
      field_there = of.field_there;
      at = omega (arith, is, count, at);
      is = of.is ∙ ap (λ n. linked_field options n of.file of.field) next;
    }

pub field_found : (options : List OptionField) (class : ℕ) (files : List ClassFile) (k : ℕ) (x : LinkedField) → slice_get (fields_from options class files) k ≡ Some x
    → IsFieldOf options class files k x
field_found options class [] k x is = cc
field_found options class (c ∷ files) k x is =
    elim (parted (map (linked_field options class c) c.fields) (fields_from options (suc class) files) k x is) [
      | inl here ↦
          let found = unmapped (linked_field options class c) c.fields k x here in
          let first : class ≡ class + 0 = omega arith in
          record {
            place = 0;
            file = c;
            own = k;
            field = found.0;
            file_there = refl;
            field_there = found.1;
            at = omega arith;
            is = sym found.2 ∙ ap (λ n. linked_field options n c found.0) first;
          }
      | inr later ↦ field_later options class c files k later.0 x later.1 (field_found options (suc class) files later.0 x later.2)
    ]

-- ---- methods, but for the numbers of native ones

abbrev pub plain : LinkedMethod → LinkedMethod
plain m = record m { native = 0 }

plain_methods : (class : ℕ) (pool : Pool) (methods : List Method) (numbers : List ℕ) → map plain (linked_methods class pool methods numbers) ≡ linked_methods class pool methods []
plain_methods class pool [] numbers = refl
plain_methods class pool (m ∷ methods) [] = ap (λ ms. linked_method class pool m 0 ∷ ms) (plain_methods class pool methods [])
plain_methods class pool (m ∷ methods) (n ∷ numbers) = ap (λ ms. linked_method class pool m 0 ∷ ms) (plain_methods class pool methods numbers)

pub mapped_parts : {A B : Type 0} (f : A → B) (xs ys : List A) → map f (xs ++ ys) ≡ map f xs ++ map f ys
mapped_parts f [] ys = refl
mapped_parts f (x ∷ xs) ys = ap (λ zs. f x ∷ zs) (mapped_parts f xs ys)

plain_clinit : (class : ℕ) (o : Option ℕ) → map plain (if is_some o then [] else empty_clinit class ∷ []) ≡ (if is_some o then [] else empty_clinit class ∷ [])
plain_clinit class None = refl
plain_clinit class (Some k) = refl

plain_class : (class : ℕ) (c : ClassFile) (numbers : List ℕ) → map plain (methods_of_class class c numbers) ≡ methods_of_class class c []
plain_class class c numbers =
    mapped_parts plain (linked_methods class c.pool c.methods numbers) (if is_some (own_clinit c) then [] else empty_clinit class ∷ [])
    ∙ (λ i. plain_methods class c.pool c.methods numbers i ++ plain_clinit class (own_clinit c) i)

pub plain_from : (class : ℕ) (files : List ClassFile) (numbers : List (List ℕ)) → map plain (methods_from class files numbers) ≡ methods_from class files []
plain_from class [] numbers = refl
plain_from class (c ∷ files) [] =
    mapped_parts plain (methods_of_class class c []) (methods_from (suc class) files []) ∙ (λ i. plain_class class c [] i ++ plain_from (suc class) files [] i)
plain_from class (c ∷ files) (ns ∷ numbers) =
    mapped_parts plain (methods_of_class class c ns) (methods_from (suc class) files numbers) ∙ (λ i. plain_class class c ns i ++ plain_from (suc class) files numbers i)

pub methods_behind : (class : ℕ) (files others : List ClassFile) (from : ℕ) → from ≡ class + length files → methods_from class files [] ++ methods_from from others [] ≡ methods_from class (files ++ others) []
methods_behind class [] others from is =
    let same : from ≡ class = omega (arith, is) in
    ap (λ n. methods_from n others []) same
methods_behind class (c ∷ files) others from is =
    append_assoc (methods_of_class class c []) (methods_from (suc class) files []) (methods_from from others [])
    ∙ ap (λ ms. methods_of_class class c [] ++ ms) (methods_behind (suc class) files others from (omega (arith, is)))

-- the class of a method
own_method : (class : ℕ) (pool : Pool) (methods : List Method) (i : ℕ) → i < length methods → (x : LinkedMethod) × (slice_get (linked_methods class pool methods []) i ≡ Some x) × (x.class.0 ≡ class)
own_method class pool [] i less = absurd (omega (arith, less))
own_method class pool (m ∷ methods) zero less = (linked_method class pool m 0, refl, refl)
own_method class pool (m ∷ methods) (suc i) less = own_method class pool methods i (omega (arith, less))

pub method_there : (class : ℕ) (files : List ClassFile) (j i : ℕ) (c : ClassFile) → slice_get files j ≡ Some c → i < length c.methods
    → (x : LinkedMethod) × (slice_get (methods_from class files []) (first_method files j + i) ≡ Some x) × (x.class.0 ≡ class + j)
method_there class [] j i c is less = cc
method_there class (d ∷ files) zero i c is less =
    let fewer : i < length d.methods = (let same : length d.methods ≡ length c.methods = ap (λ (c : ClassFile). length c.methods) (same_Some d c is) in omega (arith, less, same)) in
    let here = own_method class d.pool d.methods i fewer in
    let at : 0 + i ≡ i = omega arith in
    let first : class ≡ class + 0 = omega arith in (
      here.0,
      ap (slice_get (methods_of_class class d [] ++ methods_from (suc class) files [])) at
          ∙ in_front (methods_of_class class d []) (methods_from (suc class) files []) i here.0
          (in_front (linked_methods class d.pool d.methods []) (if is_some (own_clinit d) then [] else empty_clinit class ∷ []) i here.0 here.1),
      here.2 ∙ first,
    )
method_there class (d ∷ files) (suc j) i c is less =
    let later = method_there (suc class) files j i c is less in
    let count : length (methods_of_class class d []) ≡ method_count d = count_of_class class d [] in
    let next : suc class + j ≡ class + suc j = omega arith in (
      later.0,
      behind (methods_of_class class d []) (methods_from (suc class) files []) (method_count d + first_method files j + i) (first_method files j + i) (omega (arith, count)) ∙ later.1,
      later.2 ∙ next,
    )
