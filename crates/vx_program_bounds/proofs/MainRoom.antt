-- Main of a linked program has room for its argument, and is static.
use Rattle.std.proofs.Common.{All, Bool, List, None, Option, Some, [], ap, append_assoc, arith, bytes_eq, codes, cond, false, filter, find, flat_map, if◌then◌else◌, is_some, length, length-append, map, not, refl, slice_get, subst, suc, sym, true, true≢false, unwrap_or, ℕ, ◌&&◌, ◌++◌, ◌+◌, ◌<◌, ◌∙◌, ◌∷◌, ◌≡◌, ◌||◌}
use Rattle.std.proofs.lemmas.List.Folds.{find-append, list_any-append}
use Rattle.std.proofs.lemmas.Slice.Eq.{bytes_eq-Decides}
use Rattle.std.specs.List.{list_any}
use Rattle.std.specs.Option.{option_or}
use Rattle.vx_class.specs.File.{CodeIs, EachBehind, Holds, MethodHolds}
use Rattle.vx_class.specs.Members.{STATIC, has as has_flag, is_given, is_same, slots_of, takes_code}
use Rattle.vx_class.specs.declared.class_file.ClassFile.{ClassFile}
use Rattle.vx_class.specs.declared.class_file.Code.{Code}
use Rattle.vx_class.specs.declared.class_file.Method.{Method}
use Rattle.vx_pool.specs.Lookups.{text}
use Rattle.vx_desc.specs.Descriptors.{element_at, field_of, method_of, method_slots, result_at, type_at, types_at}
use Rattle.vx_desc.specs.Names.{is_class_name}
use Rattle.vx_java.specs.Initialisation.{max_locals}
use Rattle.vx_link.specs.Faults.{file_named, is_main, name_of, passes}
use Rattle.vx_link.specs.Linked.{empty_clinit, is_main_method, linked_class, linked_classes, linked_method, linked_methods, method_count, method_flags, method_ids, methods_from, methods_named, methods_of_class, own_clinit}
use Rattle.vx_link.specs.Names.{utf8}
use Rattle.vx_link.specs.Parts.{PUBLIC, no_method}
use Rattle.vx_link.specs.declared.program.LinkedClass.{LinkedClass}
use Rattle.vx_link.specs.declared.program.LinkedMethod.{LinkedMethod}
use Rattle.vx_jump_targets.proofs.Lists.{All-head, All-tail}
use Rattle.vx_program_bounds.proofs.ListLaws.{behind_front, fails_more, fifth_holds, first_holds, in_rest, or_left, or_right, second_holds}
use Rattle.vx_list.specs.Places.{item_or}
use Rattle.vx_pool.specs.declared.pool.Pool.{Pool}

-- ---- the first main of some numbers has room for its argument, and is static

pub record HasMain (methods : List LinkedMethod) (numbers : List ℕ) : Type 0 where
  pub number : ℕ
  pub found : find (λ m. is_main_method (slice_get methods m)) numbers ≡ Some number
  pub room : 0 < max_locals (item_or methods number no_method).code
  pub static : has_flag (item_or methods number no_method).flags.0 STATIC ≡ true

HasMain-first : (methods : List LinkedMethod) (n : ℕ) (numbers : List ℕ) (m : LinkedMethod) → slice_get methods n ≡ Some m
    → is_main_method (Some m) ≡ true → 0 < max_locals m.code → has_flag m.flags.0 STATIC ≡ true → HasMain methods (n ∷ numbers)
HasMain-first methods n numbers m at is room static =
    let P : Option LinkedMethod → Type 0 = λ o. 0 < max_locals (unwrap_or o no_method).code in
    record {
      number = n;
      found = ap (λ b. cond b (Some n) (find (λ m. is_main_method (slice_get methods m)) numbers)) (ap is_main_method at ∙ is);
      room = subst P (sym at) room;
      static = ap (λ o. has_flag (unwrap_or o no_method).flags.0 STATIC) at ∙ static;
    }

HasMain-later : (methods : List LinkedMethod) (n : ℕ) (numbers : List ℕ) (m : LinkedMethod) → slice_get methods n ≡ Some m
    → is_main_method (Some m) ≡ false → HasMain methods numbers → HasMain methods (n ∷ numbers)
HasMain-later methods n numbers m at is later = record {
  number = later.number;
  found = ap (λ b. cond b (Some n) (find (λ m. is_main_method (slice_get methods m)) numbers)) (ap is_main_method at ∙ is) ∙ later.found;
  room = later.room;
  static = later.static;
}

HasMain-front : (methods : List LinkedMethod) (front rest : List ℕ) → HasMain methods front → HasMain methods (front ++ rest)
HasMain-front methods front rest has = record {
  number = has.number;
  found = find-append (λ m. is_main_method (slice_get methods m)) front rest
      ∙ ap (λ o. option_or o (find (λ m. is_main_method (slice_get methods m)) rest)) has.found;
  room = has.room;
  static = has.static;
}

-- ---- a class has one main

abbrev is_main_name : Pool → Method → Bool
is_main_name pool m = is_same pool m.name m.descriptor (codes "main") (codes "([Ljava/lang/String;)V")

-- what the test of the name says of the texts of a method
text_is : (t : Option (List ℕ)) (read expected : List ℕ) → t ≡ Some read → bytes_eq (unwrap_or t []) expected ≡ true → read ≡ expected
text_is t read expected is same =
    (bytes_eq-Decides read expected).0 (ap (λ o. bytes_eq (unwrap_or o []) expected) (sym is) ∙ same)

text_given : (t : Option (List ℕ)) (read expected : List ℕ) → t ≡ Some read → bytes_eq (unwrap_or t []) expected ≡ true → is_given expected t ≡ true
text_given t read expected is same = ap (is_given expected) is ∙ ap (λ o. bytes_eq (unwrap_or o []) expected) (sym is) ∙ same

-- a method that stands behind a main is not main
not_new : (b : Bool) → b ≡ true → not b ≡ true → true ≡ false
not_new b is new = sym new ∙ ap not is

main_twice : (c : ClassFile) (front : List Method) (m : Method) → MethodHolds c.pool c.major front m
    → list_any (is_main_name c.pool) front ≡ true → is_main c m ≡ true → true ≡ false
main_twice c front m holds before is =
    let name : holds.name ≡ codes "main" = text_is (text c.pool m.name) holds.name (codes "main") holds.is_name (first_holds _ _ is) in
    let descriptor : holds.descriptor ≡ codes "([Ljava/lang/String;)V" =
    text_is (text c.pool m.descriptor) holds.descriptor (codes "([Ljava/lang/String;)V") holds.is_descriptor (first_holds _ _ (second_holds _ _ is)) in
    not_new
    (list_any (λ g. is_same c.pool g.name g.descriptor holds.name holds.descriptor) front)
    (ap (λ n. list_any (λ g. is_same c.pool g.name g.descriptor n holds.descriptor) front) name
    ∙ ap (λ d. list_any (λ g. is_same c.pool g.name g.descriptor (codes "main") d) front) descriptor
    ∙ before)
    holds.new

refuted : (b : Bool) → (b ≡ true → true ≡ false) → b ≡ false
refuted true wrong = wrong refl
refuted false wrong = refl

none_later : (c : ClassFile) (front methods : List Method) → EachBehind (MethodHolds c.pool c.major) front methods
    → list_any (is_main_name c.pool) front ≡ true → list_any (is_main c) methods ≡ false
none_later c front [] holds before = refl
none_later c front (m ∷ methods) holds before =
    ap (λ b. b || list_any (is_main c) methods) (refuted (is_main c m) (main_twice c front m holds.0 before))
    ∙ none_later c (front ++ m ∷ []) methods holds.1
    (list_any-append (is_main_name c.pool) front (m ∷ []) ∙ or_left (list_any (is_main_name c.pool) front) _ before)

-- ---- its room

one_slot : (flags : ℕ) (name descriptor : List ℕ) → descriptor ≡ codes "([Ljava/lang/String;)V" → 0 < slots_of flags name descriptor
unfolding element_at field_of is_class_name method_of method_slots result_at type_at types_at
one_slot flags name descriptor is =
    let slots : unwrap_or (method_slots descriptor) 0 ≡ 1 = ap (λ d. unwrap_or (method_slots d) 0) is in
    omega (arith, slots)

room_of : (pool : Pool) (major slots : ℕ) (takes : Bool) (code : Option Code) → CodeIs pool major slots takes code → 0 < slots → is_some code ≡ true
    → 0 < max_locals code
room_of pool major slots takes None is some has = cc
room_of pool major slots takes (Some code) is some has = omega (arith, is.1.arguments, some)

main_room : (c : ClassFile) (front : List Method) (m : Method) → MethodHolds c.pool c.major front m → is_main c m ≡ true → 0 < max_locals m.code
main_room c front m holds is =
    let descriptor : holds.descriptor ≡ codes "([Ljava/lang/String;)V" =
    text_is (text c.pool m.descriptor) holds.descriptor (codes "([Ljava/lang/String;)V") holds.is_descriptor (first_holds _ _ (second_holds _ _ is)) in
    let some : is_some m.code ≡ true =
    fifth_holds (bytes_eq (utf8 c.pool m.name) (codes "main")) (bytes_eq (utf8 c.pool m.descriptor) (codes "([Ljava/lang/String;)V"))
    (has_flag m.flags PUBLIC) (has_flag m.flags STATIC) (is_some m.code) is in
    room_of c.pool c.major (slots_of m.flags holds.name holds.descriptor) (takes_code m.flags holds.name) m.code holds.code
    (one_slot m.flags holds.name holds.descriptor descriptor) some

by_cases : (b : Bool) (P : Type 0) → (b ≡ true → P) → (b ≡ false → P) → P
by_cases true P so other = so refl
by_cases false P so other = other refl

-- a method of main's name and descriptor is main, where the class declares main from there on
first_is_main : (class : ℕ) (c : ClassFile) (front : List Method) (m : Method) (methods : List Method)
    → EachBehind (MethodHolds c.pool c.major) front (m ∷ methods) → is_main_method (Some (linked_method class c.pool m 0)) ≡ true
    → list_any (is_main c) (m ∷ methods) ≡ true → is_main c m ≡ true
first_is_main class c front m methods holds is has =
    let named : is_main_name c.pool m ≡ true =
    λ i. text_given (text c.pool m.name) holds.0.name (codes "main") holds.0.is_name (first_holds _ _ is) i
    && text_given (text c.pool m.descriptor) holds.0.descriptor (codes "([Ljava/lang/String;)V") holds.0.is_descriptor (second_holds _ _ is) i in
    let none : list_any (is_main c) methods ≡ false =
    none_later c (front ++ m ∷ []) methods holds.1
    (list_any-append (is_main_name c.pool) front (m ∷ [])
    ∙ or_right (list_any (is_main_name c.pool) front) (is_main_name c.pool m || false) (or_left (is_main_name c.pool m) false named)) in
    by_cases (is_main c m) (is_main c m ≡ true) (λ so. so) (λ other. elim (true≢false (sym (in_rest _ _ other has) ∙ none)) [ ])

-- it is no <clinit>, so its flags are those of its file
main_static : (class : ℕ) (c : ClassFile) (m : Method) → is_main_method (Some (linked_method class c.pool m 0)) ≡ true → is_main c m ≡ true
    → has_flag (method_flags (utf8 c.pool m.name) m.flags) STATIC ≡ true
main_static class c m is main =
    let name : utf8 c.pool m.name ≡ codes "main" = (bytes_eq-Decides (utf8 c.pool m.name) (codes "main")).0 (first_holds _ _ is) in
    ap (λ n. has_flag (method_flags n m.flags) STATIC) name
    ∙ first_holds _ _ (second_holds (has_flag m.flags PUBLIC) _ (second_holds (bytes_eq (utf8 c.pool m.descriptor) (codes "([Ljava/lang/String;)V")) _ (second_holds _ _ main)))

-- ---- the methods of one class

own_main : (methods : List LinkedMethod) (class : ℕ) (c : ClassFile) (front declared : List Method) (before after : List LinkedMethod) (from : ℕ)
    → methods ≡ before ++ (linked_methods class c.pool declared [] ++ after) → length before ≡ from
    → EachBehind (MethodHolds c.pool c.major) front declared → list_any (is_main c) declared ≡ true
    → HasMain methods (map (λ m. m.0) (method_ids from (length declared)))
own_main methods class c front [] before after from is count holds has = cc
own_main methods class c front (m ∷ declared) before after from is count holds has =
    let linked : LinkedMethod = linked_method class c.pool m 0 in
    let at : slice_get methods from ≡ Some linked =
    ap (slice_get methods) (sym count) ∙ ap (λ ms. slice_get ms (length before)) is
    ∙ behind_front before linked (linked_methods class c.pool declared [] ++ after) in
    by_cases
    (is_main_method (Some linked))
    (HasMain methods (from ∷ map (λ m. m.0) (method_ids (from + 1) (length declared))))
    (λ so.
    let main = first_is_main class c front m declared holds so has in
    HasMain-first methods from (map (λ m. m.0) (method_ids (from + 1) (length declared))) linked at so (main_room c front m holds.0 main) (main_static class c m so main))
    (λ other.
    HasMain-later methods from (map (λ m. m.0) (method_ids (from + 1) (length declared))) linked at other
    (own_main methods class c (front ++ m ∷ []) declared (before ++ linked ∷ []) after (from + 1)
    (is ∙ sym (append_assoc before (linked ∷ []) (linked_methods class c.pool declared [] ++ after)))
    (length-append before (linked ∷ []) ∙ ap (λ n. n + 1) count)
    holds.1
    (in_rest _ _
    (fails_more (bytes_eq (utf8 c.pool m.name) (codes "main")) (bytes_eq (utf8 c.pool m.descriptor) (codes "([Ljava/lang/String;)V"))
    (has_flag m.flags PUBLIC && (has_flag m.flags STATIC && is_some m.code)) other) has)))

-- ---- the classes

-- how many methods each has
pub count_methods : (class : ℕ) (pool : Pool) (methods : List Method) (numbers : List ℕ) → length (linked_methods class pool methods numbers) ≡ length methods
count_methods class pool [] numbers = refl
count_methods class pool (m ∷ methods) [] = ap suc (count_methods class pool methods [])
count_methods class pool (m ∷ methods) (n ∷ numbers) = ap suc (count_methods class pool methods numbers)

count_with_clinit : (class n : ℕ) (own : Bool) (methods : List LinkedMethod) → length methods ≡ n
    → length (methods ++ (if own then [] else empty_clinit class ∷ [])) ≡ (if own then n else n + 1)
count_with_clinit class n true methods same = length-append methods [] ∙ omega (arith, same)
count_with_clinit class n false methods same = length-append methods (empty_clinit class ∷ []) ∙ ap (λ k. k + 1) same

pub count_of_class : (class : ℕ) (c : ClassFile) (numbers : List ℕ) → length (methods_of_class class c numbers) ≡ method_count c
count_of_class class c numbers =
    count_with_clinit class (length c.methods) (is_some (own_clinit c)) (linked_methods class c.pool c.methods numbers) (count_methods class c.pool c.methods numbers)

-- the classes of a folder, the first of the name of which declares main, stand before others
pub main_among : (names : List (List ℕ)) (core : List ClassFile) (main : List ℕ) (methods : List LinkedMethod) (files : List ClassFile)
    (class from fields : ℕ) (before after : List LinkedMethod)
    → methods ≡ before ++ (methods_from class files [] ++ after) → length before ≡ from → All Holds files
    → passes (λ c. list_any (is_main c) c.methods) (file_named files main) ≡ true
    → HasMain methods (methods_named (linked_classes names (files ++ core) from fields) main)
main_among names core main methods [] class from fields before after is count holds has = cc
main_among names core main methods (c ∷ files) class from fields before after is count holds has =
    let more : List LinkedClass = linked_classes names (files ++ core) (from + method_count c) (fields + length c.fields) in
    let own : List ℕ = map (λ m. m.0) (method_ids from (length c.methods)) in
    let chosen : Bool → List ℕ = λ b.
    flat_map (λ c. map (λ m. m.0) c.methods)
    (cond b (linked_class names c from fields ∷ filter (λ c. bytes_eq c.name main) more) (filter (λ c. bytes_eq c.name main) more)) in
    let found : Bool → Option ClassFile = λ b. cond b (Some c) (file_named files main) in
    let P : List ℕ → Type 0 = λ ns. HasMain methods ns in
    let clinit : List LinkedMethod = if is_some (own_clinit c) then [] else empty_clinit class ∷ [] in
    by_cases
    (bytes_eq (name_of c) main)
    (HasMain methods (chosen (bytes_eq (name_of c) main)))
    (λ so.
    subst P (ap chosen (sym so))
    (HasMain-front methods own (methods_named more main)
    (own_main methods class c [] c.methods before (clinit ++ (methods_from (suc class) files [] ++ after)) from
    (is ∙ ap (λ ms. before ++ ms)
    (append_assoc (linked_methods class c.pool c.methods [] ++ clinit) (methods_from (suc class) files []) after
    ∙ append_assoc (linked_methods class c.pool c.methods []) clinit (methods_from (suc class) files [] ++ after)))
    count
    (All-head Holds c files holds).methods
    (sym (ap (λ b. passes (λ c. list_any (is_main c) c.methods) (found b)) so) ∙ has))))
    (λ other.
    subst P (ap chosen (sym other))
    (main_among names core main methods files (suc class) (from + method_count c) (fields + length c.fields)
    (before ++ methods_of_class class c []) after
    (is ∙ ap (λ ms. before ++ ms) (append_assoc (methods_of_class class c []) (methods_from (suc class) files []) after)
    ∙ sym (append_assoc before (methods_of_class class c []) (methods_from (suc class) files [] ++ after)))
    (length-append before (methods_of_class class c []) ∙ (λ i. count i + count_of_class class c [] i))
    (All-tail Holds c files holds)
    (sym (ap (λ b. passes (λ c. list_any (is_main c) c.methods) (found b)) other) ∙ has)))
