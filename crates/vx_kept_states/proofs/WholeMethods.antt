-- The methods of a linked program: each code has a byte, and what initialises a class has code.
use Rattle.std.proofs.Common.{if◌then◌else◌, Bool, List, None, Option, Some, [], ap, append_assoc, arith, false, is_some, length, length-append, not, refl, slice_get, suc, sym, true, unwrap_or, zero, ℕ, ◌++◌, ◌+◌, ◌<◌, ◌∙◌, ◌∷◌, ◌≡◌, ◌||◌}
use Rattle.std.proofs.lemmas.Option.{get_or_from_slice_get}
use Rattle.std.proofs.lemmas.List.Folds.{list_all-append}
use Rattle.std.proofs.lemmas.List.Quantifiers.{position-Some}
use Rattle.std.specs.Cmp.Derive.{both_true}
use Rattle.std.specs.List.{list_all, position}
use Rattle.vx_class.specs.declared.class_file.ClassFile.{ClassFile}
use Rattle.vx_class.specs.declared.class_file.Method.{Method}
use Rattle.vx_pool.specs.Holding.{and_true}
use Rattle.vx_desc.specs.Names.{is_clinit}
use Rattle.vx_kept_facts.specs.Law.{has_bytes}
use Rattle.vx_kept_states.proofs.WholeFiles.{begins_class, is_whole_file, is_whole_method}
use Rattle.vx_link.specs.Linked.{empty_clinit, is_clinit_file, linked_class, linked_classes, linked_methods, method_count, methods_from, methods_of_class, own_clinit}
use Rattle.vx_link.specs.Names.{utf8}
use Rattle.vx_link.specs.Parts.{no_method}
use Rattle.vx_link.specs.declared.program.LinkedClass.{LinkedClass}
use Rattle.vx_link.specs.declared.program.LinkedMethod.{LinkedMethod}
use Rattle.vx_list.specs.Places.{item_or}
use Rattle.vx_pool.specs.declared.pool.Pool.{Pool}
use Rattle.vx_program_bounds.proofs.MainRoom.{count_methods, count_of_class}

-- ---- codes

abbrev has_code_bytes : LinkedMethod → Bool
has_code_bytes m = has_bytes m.code

bytes_of_methods : (class : ℕ) (pool : Pool) (methods : List Method) (numbers : List ℕ) → list_all (is_whole_method pool) methods ≡ true
    → list_all has_code_bytes (linked_methods class pool methods numbers) ≡ true
bytes_of_methods class pool [] numbers all = refl
bytes_of_methods class pool (m ∷ methods) [] all = both_true (and_true _ _ (and_true _ _ all).0).0 (bytes_of_methods class pool methods [] (and_true _ _ all).1)
bytes_of_methods class pool (m ∷ methods) (n ∷ numbers) all = both_true (and_true _ _ (and_true _ _ all).0).0 (bytes_of_methods class pool methods numbers (and_true _ _ all).1)

bytes_of_clinit : (class : ℕ) (own : Bool) → list_all has_code_bytes (if own then [] else empty_clinit class ∷ []) ≡ true
bytes_of_clinit class true = refl
bytes_of_clinit class false = refl

bytes_in_class : (class : ℕ) (c : ClassFile) (numbers : List ℕ) → is_whole_file c ≡ true → list_all has_code_bytes (methods_of_class class c numbers) ≡ true
bytes_in_class class c numbers all =
    list_all-append has_code_bytes (linked_methods class c.pool c.methods numbers) (if is_some (own_clinit c) then [] else empty_clinit class ∷ [])
    ∙ both_true (bytes_of_methods class c.pool c.methods numbers all) (bytes_of_clinit class (is_some (own_clinit c)))

pub codes_have_bytes : (class : ℕ) (files : List ClassFile) (numbers : List (List ℕ)) → list_all is_whole_file files ≡ true
    → list_all has_code_bytes (methods_from class files numbers) ≡ true
codes_have_bytes class [] numbers all = refl
codes_have_bytes class (c ∷ files) [] all =
    list_all-append has_code_bytes (methods_of_class class c []) (methods_from (suc class) files [])
    ∙ both_true (bytes_in_class class c [] (and_true _ _ all).0) (codes_have_bytes (suc class) files [] (and_true _ _ all).1)
codes_have_bytes class (c ∷ files) (ns ∷ numbers) all =
    list_all-append has_code_bytes (methods_of_class class c ns) (methods_from (suc class) files numbers)
    ∙ both_true (bytes_in_class class c ns (and_true _ _ all).0) (codes_have_bytes (suc class) files numbers (and_true _ _ all).1)

-- ---- the methods of a class by their places

-- the code of a method by its place
code_there : (class : ℕ) (pool : Pool) (methods : List Method) (numbers : List ℕ) (rest : List LinkedMethod) (k : ℕ) (m : Method) → slice_get methods k ≡ Some m
    → (item_or (linked_methods class pool methods numbers ++ rest) k no_method).code ≡ m.code
code_there class pool [] numbers rest k m is = cc
code_there class pool (n ∷ methods) [] rest zero m is = ap (λ o. (unwrap_or o n).code) is
code_there class pool (n ∷ methods) (i ∷ numbers) rest zero m is = ap (λ o. (unwrap_or o n).code) is
code_there class pool (n ∷ methods) [] rest (suc k) m is = code_there class pool methods [] rest k m is
code_there class pool (n ∷ methods) (i ∷ numbers) rest (suc k) m is = code_there class pool methods numbers rest k m is

-- behind all of them stands the method of a class without <clinit>
last_there : (class : ℕ) (front rest : List LinkedMethod) (k : ℕ) → k ≡ length front → (item_or (front ++ empty_clinit class ∷ rest) k no_method).code ≡ (empty_clinit class).code
last_there class [] rest zero is = refl
last_there class [] rest (suc k) is = absurd (omega (arith, is))
last_there class (m ∷ front) rest zero is = absurd (omega (arith, is))
last_there class (m ∷ front) rest (suc k) is = last_there class front rest k (omega (arith, is))

-- ---- what initialises a class

-- the method at a place of whole methods
whole_there : (pool : Pool) (methods : List Method) (k : ℕ) → k < length methods → list_all (is_whole_method pool) methods ≡ true
    → (m : Method) × (slice_get methods k ≡ Some m) × (begins_class pool m ≡ true)
whole_there pool [] k less all = absurd (omega (arith, less))
whole_there pool (m ∷ methods) zero less all = (m, refl, (and_true _ _ (and_true _ _ all).0).1)
whole_there pool (m ∷ methods) (suc k) less all = whole_there pool methods k (omega (arith, less)) (and_true _ _ all).1

has_code_if : (pool : Pool) (m : Method) → begins_class pool m ≡ true → is_clinit (utf8 pool m.name) ≡ true → is_some m.code ≡ true
has_code_if pool m begins is = by (is_clinit (utf8 pool m.name)) is begins
  where
    by : (b : Bool) → b ≡ true → (not b || is_some m.code) ≡ true → is_some m.code ≡ true
    by true is begins = begins
    by false is begins = cc

no_own : Method
no_own = record { flags = 0; name = 0; descriptor = 0; code = None }

-- among the methods of its class
own_initialiser : (class : ℕ) (c : ClassFile) (numbers : List ℕ) (rest : List LinkedMethod) (own : Option ℕ) → position (is_clinit_file c) c.methods ≡ own → is_whole_file c ≡ true
    → is_some (item_or (linked_methods class c.pool c.methods numbers ++ ((if is_some own then [] else empty_clinit class ∷ []) ++ rest)) (unwrap_or own (length c.methods)) no_method).code ≡ true
own_initialiser class c numbers rest None is whole =
    ap is_some (last_there class (linked_methods class c.pool c.methods numbers) rest (length c.methods) (sym (count_methods class c.pool c.methods numbers)))
own_initialiser class c numbers rest (Some k) is whole =
    let first = position-Some (is_clinit_file c) c.methods k no_own is in
    let there = whole_there c.pool c.methods k first.0 whole in
    let is_own : is_clinit (utf8 c.pool there.0.name) ≡ true =
    sym (ap (is_clinit_file c) (get_or_from_slice_get c.methods k there.0 no_own there.1)) ∙ first.1 in
    ap is_some (code_there class c.pool c.methods numbers rest k there.0 there.1) ∙ has_code_if c.pool there.0 there.2 is_own

-- behind a front
item_behind : (front rest : List LinkedMethod) (from i k : ℕ) → length front ≡ from → i ≡ from + k → item_or (front ++ rest) i no_method ≡ item_or rest k no_method
item_behind [] rest from i k count is =
    let same : i ≡ k = omega (arith, is, count) in
    ap (λ i. item_or rest i no_method) same
item_behind (m ∷ front) rest from zero k count is = absurd (omega (arith, is, count))
item_behind (m ∷ front) rest from (suc i) k count is = item_behind front rest (length front) i k refl (omega (arith, is, count))

-- an initialiser of these methods has code
abbrev pub begins_in : List LinkedMethod → LinkedClass → Bool
begins_in methods c = is_some (item_or methods c.initialiser.0 no_method).code

class_begins : (names : List (List ℕ)) (methods : List LinkedMethod) (c : ClassFile) (numbers : List ℕ) (class from fields : ℕ) (before after : List LinkedMethod)
    → methods ≡ before ++ (methods_of_class class c numbers ++ after) → length before ≡ from → is_whole_file c ≡ true → begins_in methods (linked_class names c from fields) ≡ true
class_begins names methods c numbers class from fields before after is count whole =
    let i : ℕ = from + unwrap_or (own_clinit c) (length c.methods) in
    let clinit : List LinkedMethod = if is_some (own_clinit c) then [] else empty_clinit class ∷ [] in
    ap (λ ms. is_some (item_or ms i no_method).code) is
    ∙ ap (λ m. is_some m.code) (item_behind before (methods_of_class class c numbers ++ after) from i (unwrap_or (own_clinit c) (length c.methods)) count refl)
    ∙ ap (λ ms. is_some (item_or ms (unwrap_or (own_clinit c) (length c.methods)) no_method).code) (append_assoc (linked_methods class c.pool c.methods numbers) clinit after)
    ∙ own_initialiser class c numbers after (own_clinit c) refl whole

-- those of all classes from a number on, and then of others
pub classes_begin : (names : List (List ℕ)) (methods : List LinkedMethod) (files : List ClassFile) (numbers : List (List ℕ)) (class from fields : ℕ) (before after : List LinkedMethod)
    → methods ≡ before ++ (methods_from class files numbers ++ after) → length before ≡ from → list_all is_whole_file files ≡ true
    → (others : List ClassFile) → ((from fields : ℕ) → length (before ++ methods_from class files numbers) ≡ from → list_all (begins_in methods) (linked_classes names others from fields) ≡ true)
    → list_all (begins_in methods) (linked_classes names (files ++ others) from fields) ≡ true
classes_begin names methods [] numbers class from fields before after is count whole others later =
    later from fields (length-append before [] ∙ omega (arith, count))
classes_begin names methods (c ∷ files) [] class from fields before after is count whole others later =
    both_true
    (class_begins names methods c [] class from fields before (methods_from (suc class) files [] ++ after)
    (is ∙ ap (λ ms. before ++ ms) (append_assoc (methods_of_class class c []) (methods_from (suc class) files []) after))
    count (and_true _ _ whole).0)
    (classes_begin names methods files [] (suc class) (from + method_count c) (fields + length c.fields) (before ++ methods_of_class class c []) after
    (is ∙ ap (λ ms. before ++ ms) (append_assoc (methods_of_class class c []) (methods_from (suc class) files []) after)
    ∙ sym (append_assoc before (methods_of_class class c []) (methods_from (suc class) files [] ++ after)))
    (length-append before (methods_of_class class c []) ∙ (λ i. count i + count_of_class class c [] i))
    (and_true _ _ whole).1
    others
    (λ from fields same. later from fields (ap length (sym (append_assoc before (methods_of_class class c []) (methods_from (suc class) files []))) ∙ same)))
classes_begin names methods (c ∷ files) (ns ∷ numbers) class from fields before after is count whole others later =
    both_true
    (class_begins names methods c ns class from fields before (methods_from (suc class) files numbers ++ after)
    (is ∙ ap (λ ms. before ++ ms) (append_assoc (methods_of_class class c ns) (methods_from (suc class) files numbers) after))
    count (and_true _ _ whole).0)
    (classes_begin names methods files numbers (suc class) (from + method_count c) (fields + length c.fields) (before ++ methods_of_class class c ns) after
    (is ∙ ap (λ ms. before ++ ms) (append_assoc (methods_of_class class c ns) (methods_from (suc class) files numbers) after)
    ∙ sym (append_assoc before (methods_of_class class c ns) (methods_from (suc class) files numbers ++ after)))
    (length-append before (methods_of_class class c ns) ∙ (λ i. count i + count_of_class class c ns i))
    (and_true _ _ whole).1
    others
    (λ from fields same. later from fields (ap length (sym (append_assoc before (methods_of_class class c ns) (methods_from (suc class) files numbers))) ∙ same)))
