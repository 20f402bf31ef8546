-- The parts of a program, one class more.
use Rattle.std.proofs.Common.{◌≡◌, ℕ, List, [], ◌∷◌, ◌++◌, ◌+◌, ◌≤◌, ◌^◌, map, length, drop, refl, ap, sym, ◌∙◌, Bool, true, false, is_some, if◌then◌else◌, zero, suc, arith, append_assoc, length-append}
use Rattle.std.specs.List.{All, AllByRecursion}
use Rattle.std.proofs.lemmas.List.FromFn.{length-map-range_with_len}
use Rattle.std.proofs.lemmas.List.{length-map, map-append}
use Rattle.vx_class.specs.declared.class_file.ClassFile.{ClassFile}
use Rattle.vx_class.specs.declared.class_file.Method.{Method}
use Rattle.vx_model.specs.declared.model.OptionField.{OptionField}
use Rattle.vx_pool.specs.declared.pool.Pool.{Pool}
use Rattle.vx_list.specs.Places.{item_or}
use Rattle.vx_linker.specs.Few.{AreFew, HasFewFields, HasFewMembers}
use Rattle.vx_link.specs.Linked.{own_clinit, method_count, linked_method, linked_methods, empty_clinit, methods_of_class, methods_from, linked_field, fields_from, linked_class, linked_classes}
use Rattle.vx_link.specs.Faults.{name_of}
use Rattle.vx_link.specs.Tables.{names_of}
use Rattle.vx_linker.specs.declared.files.Files.{Files}
use Rattle.vx_linker.specs.declared.parts.Parts.{Parts}
use Rattle.vx_link.specs.declared.program.LinkedClass.{LinkedClass}
use Rattle.vx_value.specs.declared.ids.FieldId.{FieldId}

-- ---- lists of numbers that may end before the items

pub linked_methods-cons : (class : ℕ) (pool : Pool) (m : Method) (ms : List Method) (numbers : List ℕ) → linked_methods class pool (m ∷ ms) numbers ≡ linked_method class pool m (item_or numbers 0 0) ∷ linked_methods class pool ms (drop 1 numbers)
linked_methods-cons class pool m ms [] = refl
linked_methods-cons class pool m ms (n ∷ ns) = refl

pub methods_from-cons : (class : ℕ) (c : ClassFile) (cs : List ClassFile) (rows : List (List ℕ)) → methods_from class (c ∷ cs) rows ≡ methods_of_class class c (item_or rows 0 []) ++ methods_from (suc class) cs (drop 1 rows)
methods_from-cons class c cs [] = refl
methods_from-cons class c cs (r ∷ rows) = refl

-- ---- how many methods a class has

length-linked_methods : (class : ℕ) (pool : Pool) (ms : List Method) (numbers : List ℕ) → length (linked_methods class pool ms numbers) ≡ length ms
length-linked_methods class pool [] numbers = refl
length-linked_methods class pool (m ∷ ms) [] = ap suc (length-linked_methods class pool ms [])
length-linked_methods class pool (m ∷ ms) (n ∷ ns) = ap suc (length-linked_methods class pool ms ns)

pub length-methods_of_class : (class : ℕ) (c : ClassFile) (numbers : List ℕ) → length (methods_of_class class c numbers) ≡ method_count c
length-methods_of_class class c numbers = with-own (is_some (own_clinit c))
  where
    with-own : (own : Bool) → length (linked_methods class c.pool c.methods numbers ++ (if own then [] else empty_clinit class ∷ [])) ≡ (if own then length c.methods else length c.methods + 1)
    with-own true = length-append (linked_methods class c.pool c.methods numbers) [] ∙ omega (arith, length-linked_methods class c.pool c.methods numbers)
    with-own false = length-append (linked_methods class c.pool c.methods numbers) (empty_clinit class ∷ []) ∙ omega (arith, length-linked_methods class c.pool c.methods numbers)

few-methods : (c : ClassFile) → HasFewMembers c → method_count c ≤ 65536
few-methods c h = with-own (is_some (own_clinit c))
  where
    with-own : (own : Bool) → (if own then length c.methods else length c.methods + 1) ≤ 65536
    with-own true = omega (arith, h.methods)
    with-own false = omega (arith, h.methods)

-- ---- going on through the classes

-- what is left of the classes, and what they add to the parts so far, gives what all of them add to the first parts
pub record GoesOn (names : List (List ℕ)) (options : List OptionField) (from now : Parts) (classes left : List ClassFile) (rows left_rows : List (List ℕ)) : Type 0 where
  pub classes_so_far : now.classes ++ linked_classes names left (length now.methods) (length now.fields) ≡ from.classes ++ linked_classes names classes (length from.methods) (length from.fields)
  pub methods_so_far : now.methods ++ methods_from (length now.classes) left left_rows ≡ from.methods ++ methods_from (length from.classes) classes rows
  pub fields_so_far : now.fields ++ fields_from options (length now.classes) left ≡ from.fields ++ fields_from options (length from.classes) classes
  pub few : AreFew now
  pub room : length now.classes + length left ≤ 2 ^ 15
  pub members : AllByRecursion HasFewMembers left

pub goes_on : (names : List (List ℕ)) (options : List OptionField) (from now : Parts) (classes left : List ClassFile) (rows left_rows : List (List ℕ)) (c : ClassFile) (next : Parts)
    → GoesOn names options from now classes (c ∷ left) rows left_rows
    → next.classes ≡ now.classes ++ linked_class names c (length now.methods) (length now.fields) ∷ []
    → next.methods ≡ now.methods ++ methods_of_class (length now.classes) c (item_or left_rows 0 [])
    → next.fields ≡ now.fields ++ map (linked_field options (length now.classes) c) c.fields
    → GoesOn names options from next classes left rows (drop 1 left_rows)
goes_on names options from now classes left rows left_rows c next h e m f = record {
  classes_so_far =
      ap (λ n. next.classes ++ linked_classes names left n (length next.fields)) methods_more
      ∙ ap (λ n. next.classes ++ linked_classes names left (length now.methods + method_count c) n) fields_more
      ∙ ap (λ xs. xs ++ linked_classes names left (length now.methods + method_count c) (length now.fields + length c.fields)) e
      ∙ append_assoc now.classes (linked_class names c (length now.methods) (length now.fields) ∷ []) (linked_classes names left (length now.methods + method_count c) (length now.fields + length c.fields))
      ∙ h.classes_so_far;
  methods_so_far =
      ap (λ n. next.methods ++ methods_from n left (drop 1 left_rows)) classes_more
      ∙ ap (λ xs. xs ++ methods_from (suc (length now.classes)) left (drop 1 left_rows)) m
      ∙ append_assoc now.methods (methods_of_class (length now.classes) c (item_or left_rows 0 [])) (methods_from (suc (length now.classes)) left (drop 1 left_rows))
      ∙ ap (λ xs. now.methods ++ xs) (sym (methods_from-cons (length now.classes) c left left_rows))
      ∙ h.methods_so_far;
  fields_so_far =
      ap (λ n. next.fields ++ fields_from options n left) classes_more
      ∙ ap (λ xs. xs ++ fields_from options (suc (length now.classes)) left) f
      ∙ append_assoc now.fields (map (linked_field options (length now.classes) c) c.fields) (fields_from options (suc (length now.classes)) left)
      ∙ h.fields_so_far;
  few = record { methods = omega (arith, classes_more, methods_more, h.few.methods, few-methods c h.members.0); fields = omega (arith, classes_more, fields_more, h.few.fields, h.members.0.fields) };
  room = omega (arith, classes_more, h.room);
  members = h.members.1;
}
  where
    classes_more : length next.classes ≡ suc (length now.classes)
    classes_more = ap length e ∙ length-append now.classes (linked_class names c (length now.methods) (length now.fields) ∷ []) ∙ omega arith

    methods_more : length next.methods ≡ length now.methods + method_count c
    methods_more = ap length m ∙ length-append now.methods (methods_of_class (length now.classes) c (item_or left_rows 0 [])) ∙ ap (λ n. length now.methods + n) (length-methods_of_class (length now.classes) c (item_or left_rows 0 []))

    fields_more : length next.fields ≡ length now.fields + length c.fields
    fields_more = ap length f ∙ length-append now.fields (map (linked_field options (length now.classes) c) c.fields) ∙ ap (λ n. length now.fields + n) (length-map c.fields (linked_field options (length now.classes) c))

pub goes_on_first : (names : List (List ℕ)) (options : List OptionField) (from : Parts) (classes : List ClassFile) (rows : List (List ℕ)) → AreFew from → length from.classes + length classes ≤ 2 ^ 15 → AllByRecursion HasFewMembers classes → GoesOn names options from from classes classes rows rows
goes_on_first names options from classes rows few room members =
    record { classes_so_far = refl; methods_so_far = refl; fields_so_far = refl; few = few; room = room; members = members }

-- ---- the classes of the folder and of the core together

length-linked_classes : (names : List (List ℕ)) (cs : List ClassFile) (m f : ℕ) → length (linked_classes names cs m f) ≡ length cs
length-linked_classes names [] m f = refl
length-linked_classes names (c ∷ cs) m f = ap suc (length-linked_classes names cs (m + method_count c) (f + length c.fields))

fields_from-append : (options : List OptionField) (class : ℕ) (xs ys : List ClassFile) → fields_from options class (xs ++ ys) ≡ fields_from options class xs ++ fields_from options (class + length xs) ys
fields_from-append options class [] ys = ap (λ n. fields_from options n ys) (omega arith)
fields_from-append options class (c ∷ xs) ys =
    ap (λ fs. map (linked_field options class c) c.fields ++ fs) (fields_from-append options (suc class) xs ys)
    ∙ sym (append_assoc (map (linked_field options class c) c.fields) (fields_from options (suc class) xs) (fields_from options (suc class + length xs) ys))
    ∙ ap (λ n. (map (linked_field options class c) c.fields ++ fields_from options (suc class) xs) ++ fields_from options n ys) (omega arith)

linked_classes-append : (names : List (List ℕ)) (options : List OptionField) (xs ys : List ClassFile) (class m f : ℕ) (rows : List (List ℕ))
    → linked_classes names (xs ++ ys) m f ≡ linked_classes names xs m f ++ linked_classes names ys (m + length (methods_from class xs rows)) (f + length (fields_from options class xs))
linked_classes-append names options [] ys class m f rows = ap (λ n. linked_classes names ys n f) (omega arith) ∙ ap (λ n. linked_classes names ys (m + 0) n) (omega arith)
linked_classes-append names options (c ∷ xs) ys class m f rows =
    let methods : m + method_count c + length (methods_from (suc class) xs (drop 1 rows)) ≡ m + length (methods_from class (c ∷ xs) rows) =
    omega (arith, ap length (methods_from-cons class c xs rows), length-append (methods_of_class class c (item_or rows 0 [])) (methods_from (suc class) xs (drop 1 rows)), length-methods_of_class class c (item_or rows 0 []))
    in
    let fields : f + length c.fields + length (fields_from options (suc class) xs) ≡ f + length (fields_from options class (c ∷ xs)) =
    omega (arith, length-append (map (linked_field options class c) c.fields) (fields_from options (suc class) xs), length-map c.fields (linked_field options class c))
    in
    ap (λ cs. linked_class names c m f ∷ cs)
    (linked_classes-append names options xs ys (suc class) (m + method_count c) (f + length c.fields) (drop 1 rows)
    ∙ ap (λ n. linked_classes names xs (m + method_count c) (f + length c.fields) ++ linked_classes names ys n (f + length c.fields + length (fields_from options (suc class) xs))) methods
    ∙ ap (λ n. linked_classes names xs (m + method_count c) (f + length c.fields) ++ linked_classes names ys (m + length (methods_from class (c ∷ xs) rows)) n) fields)

-- the parts of the folder's classes, and then of the core classes behind them
pub both_classes : (names : List (List ℕ)) (options : List OptionField) (xs ys : List ClassFile) (folder both : Parts)
    → folder.classes ≡ linked_classes names xs 0 0
    → folder.methods ≡ methods_from 0 xs []
    → folder.fields ≡ fields_from options 0 xs
    → both.classes ≡ folder.classes ++ linked_classes names ys (length folder.methods) (length folder.fields)
    → both.classes ≡ linked_classes names (xs ++ ys) 0 0
both_classes names options xs ys folder both cs ms fs e =
    e
    ∙ ap (λ ks. ks ++ linked_classes names ys (length folder.methods) (length folder.fields)) cs
    ∙ ap (λ n. linked_classes names xs 0 0 ++ linked_classes names ys n (length folder.fields)) methods
    ∙ ap (λ n. linked_classes names xs 0 0 ++ linked_classes names ys (0 + length (methods_from 0 xs [])) n) fields
    ∙ sym (linked_classes-append names options xs ys 0 0 0 [])
  where
    methods : length folder.methods ≡ 0 + length (methods_from 0 xs [])
    methods = omega (arith, ap length ms)

    fields : length folder.fields ≡ 0 + length (fields_from options 0 xs)
    fields = omega (arith, ap length fs)

pub both_methods : (names : List (List ℕ)) (xs ys : List ClassFile) (rows : List (List ℕ)) (folder both : Parts)
    → folder.classes ≡ linked_classes names xs 0 0
    → folder.methods ≡ methods_from 0 xs []
    → both.methods ≡ folder.methods ++ methods_from (length folder.classes) ys rows
    → both.methods ≡ methods_from 0 xs [] ++ methods_from (length xs) ys rows
both_methods names xs ys rows folder both cs ms e =
    e
    ∙ ap (λ ks. ks ++ methods_from (length folder.classes) ys rows) ms
    ∙ ap (λ n. methods_from 0 xs [] ++ methods_from n ys rows) (ap length cs ∙ length-linked_classes names xs 0 0)

pub both_fields : (names : List (List ℕ)) (options : List OptionField) (xs ys : List ClassFile) (folder both : Parts)
    → folder.classes ≡ linked_classes names xs 0 0
    → folder.fields ≡ fields_from options 0 xs
    → both.fields ≡ folder.fields ++ fields_from options (length folder.classes) ys
    → both.fields ≡ fields_from options 0 (xs ++ ys)
both_fields names options xs ys folder both cs fs e =
    e
    ∙ ap (λ ks. ks ++ fields_from options (length folder.classes) ys) fs
    ∙ ap (λ n. fields_from options 0 xs ++ fields_from options n ys) behind
    ∙ sym (fields_from-append options 0 xs ys)
  where
    behind : length folder.classes ≡ 0 + length xs
    behind = omega (arith, ap length cs, length-linked_classes names xs 0 0)

pub names_of_both : (files : Files) → files.numbers.folder ++ files.numbers.core ≡ names_of (files.classes.items ++ files.core.items)
names_of_both files = ap (λ ns. ns ++ files.numbers.core) files.folder_named ∙ ap (λ ns. names_of files.classes.items ++ ns) files.core_named ∙ sym (map-append name_of files.classes.items files.core.items)

-- ---- few members

pub all_members : (xs ys : List ClassFile) → AllByRecursion HasFewMembers xs → AllByRecursion HasFewMembers ys → AllByRecursion HasFewMembers (xs ++ ys)
all_members [] ys h k = k
all_members (x ∷ xs) ys h k = (h.0, all_members xs ys h.1 k)

pub all-cons : {X : Type 0} (P : X → Type 0) (x : X) (xs : List X) → P x → All P xs → All P (x ∷ xs)
all-cons P x xs h t zero d below = h
all-cons P x xs h t (suc k) d below = t k d (omega (arith, below))

pub few_fields : (names : List (List ℕ)) (cs : List ClassFile) (m f : ℕ) → AllByRecursion HasFewMembers cs → All HasFewFields (linked_classes names cs m f)
few_fields names [] m f h = λ k d below. absurd (omega (arith, below))
few_fields names (c ∷ cs) m f h =
    all-cons HasFewFields (linked_class names c m f) (linked_classes names cs (m + method_count c) (f + length c.fields))
    (record { fields = omega (arith, h.0.fields, length-map-range_with_len (λ n. let id : FieldId = record { 0 = n } in id) f (length c.fields)) })
    (few_fields names cs (m + method_count c) (f + length c.fields) h.1)

pub so_many_classes : (names : List (List ℕ)) (cs : List ClassFile) (classes : List LinkedClass) → classes ≡ linked_classes names cs 0 0 → length classes ≡ length cs
so_many_classes names cs classes e = ap length e ∙ length-linked_classes names cs 0 0

-- no parts are few
pub few_at_first : (parts : Parts) → parts ≡ record { classes = []; methods = []; fields = [] } → AreFew parts
few_at_first parts e = rw e (record { methods = omega arith; fields = omega arith })
