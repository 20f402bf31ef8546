-- What initialises a class is static and has no arguments.
use Rattle.std.proofs.Common.{Bool, List, None, Option, Some, [], ap, append_assoc, arith, bytes_eq, codes, false, get_or, if◌then◌else◌, is_some, length, not, refl, slice_get, subst, suc, sym, true, unwrap_or, zero, ℕ, ◌&&◌, ◌++◌, ◌+◌, ◌∙◌, ◌∷◌, ◌≡◌, ◌||◌, ◌-◌}
use Rattle.std.proofs.lemmas.List.Quantifiers.{position-Some}
use Rattle.std.proofs.lemmas.Nat.{and_or_self}
use Rattle.std.proofs.lemmas.Option.{slice_get-get_or}
use Rattle.std.specs.Cmp.Derive.{both_true}
use Rattle.std.specs.List.{list_all, position}
use Rattle.std.specs.Prelude.{bit_and, bit_or, ◌==◌}
use Rattle.vx_class.specs.File.{EachBehind, Holds, MethodHolds}
use Rattle.vx_class.specs.Members.{ABSTRACT, NATIVE, STATIC, has as has_flag}
use Rattle.vx_class.specs.declared.class_file.ClassFile.{ClassFile}
use Rattle.vx_class.specs.declared.class_file.Method.{Method}
use Rattle.vx_pool.specs.Holding.{and_true}
use Rattle.vx_desc.specs.Names.{is_clinit}
use Rattle.vx_link.specs.CoreFiles.{core_files}
use Rattle.vx_link.specs.Linked.{empty_clinit, is_clinit_file, linked_class, linked_classes, linked_method, linked_methods, method_count, method_flags, methods_from, methods_of_class, own_clinit}
use Rattle.vx_link.specs.Names.{utf8}
use Rattle.vx_link.specs.Parts.{no_class, no_method}
use Rattle.vx_link.specs.declared.program.LinkedClass.{LinkedClass}
use Rattle.vx_link.specs.declared.program.LinkedMethod.{LinkedMethod}
use Rattle.vx_list.specs.Places.{item_or}
use Rattle.vx_pool.specs.declared.pool.Pool.{Pool}
use Rattle.vx_program_bounds.proofs.ListLaws.{behind_front}
use Rattle.vx_program_bounds.proofs.MainRoom.{count_methods, count_of_class}
use Rattle.vx_sound_classes.proofs.Files.{some_same}
use Rattle.vx_sound_classes.proofs.Programs.{all_at, behind_at}

-- ---- files

-- a <clinit> has no arguments and no result
abbrev pub is_begun_in : Pool → Method → Bool
is_begun_in pool m = not (is_clinit (utf8 pool m.name)) || bytes_eq (utf8 pool m.descriptor) (codes "()V")

abbrev pub is_begun : ClassFile → Bool
is_begun c = list_all (is_begun_in c.pool) c.methods

begun_methods : (pool : Pool) (major : ℕ) (front methods : List Method) → EachBehind (MethodHolds pool major) front methods → list_all (is_begun_in pool) methods ≡ true
begun_methods pool major front [] holds = refl
begun_methods pool major front (m ∷ methods) holds =
    both_true
    (ap (λ n. not (is_clinit (unwrap_or n [])) || bytes_eq (utf8 pool m.descriptor) (codes "()V")) holds.0.is_name
    ∙ ap (λ d. not (is_clinit holds.0.name) || bytes_eq (unwrap_or d []) (codes "()V")) holds.0.is_descriptor
    ∙ (and_true _ _ holds.0.initialiser).0)
    (begun_methods pool major (front ++ m ∷ []) methods holds.1)

pub begun_file : (c : ClassFile) → Holds c → is_begun c ≡ true
begun_file c holds = begun_methods c.pool c.major [] c.methods holds.methods

pub begun_core : list_all is_begun core_files ≡ true
begun_core = refl

-- ---- the method

abbrev pub is_initialiser : LinkedMethod → Bool
is_initialiser m = has_flag m.flags.0 STATIC && bytes_eq m.descriptor (codes "()V")

-- a <clinit> is static whatever its flags
clinit_static : (name : List ℕ) (flags : ℕ) → is_clinit name ≡ true → has_flag (method_flags name flags) STATIC ≡ true
clinit_static name flags is =
    ap (λ b. has_flag (if b then bit_or (bit_and flags (0xffff - (ABSTRACT + NATIVE))) STATIC else flags) STATIC) is
    ∙ ap (λ n. n == STATIC) (and_or_self STATIC (bit_and flags (0xffff - (ABSTRACT + NATIVE))))

clinit_bare : (b : Bool) (d : Bool) → b ≡ true → (not b || d) ≡ true → d ≡ true
clinit_bare true d is h = h
clinit_bare false d is h = cc

clinit_is : (class : ℕ) (pool : Pool) (m : Method) (n : ℕ) → is_clinit (utf8 pool m.name) ≡ true → is_begun_in pool m ≡ true → is_initialiser (linked_method class pool m n) ≡ true
clinit_is class pool m n is begun = both_true (clinit_static (utf8 pool m.name) m.flags is) (clinit_bare (is_clinit (utf8 pool m.name)) _ is begun)

-- a method by its place, and its number
method_there : (class : ℕ) (pool : Pool) (methods : List Method) (numbers : List ℕ) (rest : List LinkedMethod) (k : ℕ) (m : Method) → slice_get methods k ≡ Some m
    → (n : ℕ) × (item_or (linked_methods class pool methods numbers ++ rest) k no_method ≡ linked_method class pool m n)
method_there class pool [] numbers rest k m is = cc
method_there class pool (d ∷ methods) [] rest zero m is = (0, ap (λ m. linked_method class pool m 0) (some_same d m is))
method_there class pool (d ∷ methods) (n ∷ numbers) rest zero m is = (n, ap (λ m. linked_method class pool m n) (some_same d m is))
method_there class pool (d ∷ methods) [] rest (suc k) m is = method_there class pool methods [] rest k m is
method_there class pool (d ∷ methods) (n ∷ numbers) rest (suc k) m is = method_there class pool methods numbers rest k m is

no_own : Method
no_own = record { flags = 0; name = 0; descriptor = 0; code = None }

own_initialiser : (class : ℕ) (c : ClassFile) (numbers : List ℕ) (rest : List LinkedMethod) (own : Option ℕ) → position (is_clinit_file c) c.methods ≡ own → is_begun c ≡ true
    → is_initialiser (item_or (linked_methods class c.pool c.methods numbers ++ ((if is_some own then [] else empty_clinit class ∷ []) ++ rest)) (unwrap_or own (length c.methods)) no_method) ≡ true
own_initialiser class c numbers rest None is begun =
    let front : List LinkedMethod = linked_methods class c.pool c.methods numbers in
    ap (λ k. is_initialiser (item_or (front ++ empty_clinit class ∷ rest) k no_method)) (sym (count_methods class c.pool c.methods numbers))
    ∙ ap (λ o. is_initialiser (unwrap_or o no_method)) (behind_front front (empty_clinit class) rest)
own_initialiser class c numbers rest (Some k) is begun =
    let first = position-Some (is_clinit_file c) c.methods k no_own is in
    let m : Method = get_or c.methods k no_own in
    let at : slice_get c.methods k ≡ Some m = slice_get-get_or c.methods k no_own first.0 in
    let there = method_there class c.pool c.methods numbers rest k m at in
    ap is_initialiser there.1 ∙ clinit_is class c.pool m there.0 first.1 (all_at (is_begun_in c.pool) c.methods k m begun at)

-- ---- where it stands

-- the initialiser of a class, among methods that are numbered from some number on
pub record Begins (methods : List LinkedMethod) (from : ℕ) (l : LinkedClass) : Type 0 where
  pub place : ℕ
  pub is : l.initialiser.0 ≡ from + place
  pub passes : is_initialiser (item_or methods place no_method) ≡ true

moved : {methods others : List LinkedMethod} {from : ℕ} {l : LinkedClass} → methods ≡ others → Begins methods from l → Begins others from l
moved {from = from} {l = l} same begins = subst (λ ms. Begins ms from l) same begins

head_begins : (names : List (List ℕ)) (c : ClassFile) (numbers : List ℕ) (class from fields : ℕ) (rest : List LinkedMethod) → is_begun c ≡ true
    → Begins (methods_of_class class c numbers ++ rest) from (linked_class names c from fields)
head_begins names c numbers class from fields rest begun =
    let clinit : List LinkedMethod = if is_some (own_clinit c) then [] else empty_clinit class ∷ [] in
    let place : ℕ = unwrap_or (own_clinit c) (length c.methods) in
    record {
      place = place;
      is = refl;
      passes = ap (λ ms. is_initialiser (item_or ms place no_method)) (append_assoc (linked_methods class c.pool c.methods numbers) clinit rest)
          ∙ own_initialiser class c numbers rest (own_clinit c) refl begun;
    }

behind_begins : (c : ClassFile) (numbers : List ℕ) (class from : ℕ) (rest : List LinkedMethod) (l : LinkedClass) → Begins rest (from + method_count c) l
    → Begins (methods_of_class class c numbers ++ rest) from l
behind_begins c numbers class from rest l later =
    let count = count_of_class class c numbers in
    let is = later.is in
    let same : method_count c + later.place ≡ length (methods_of_class class c numbers) + later.place = omega (arith, count) in
    record {
      place = method_count c + later.place;
      is = omega (arith, is);
      passes = ap (λ o. is_initialiser (unwrap_or o no_method)) (behind_at (methods_of_class class c numbers) rest (method_count c + later.place) later.place same) ∙ later.passes;
    }

pub core_begins : (names : List (List ℕ)) (files : List ClassFile) (numbers : List (List ℕ)) (class from fields k : ℕ) (c : ClassFile) → list_all is_begun files ≡ true
    → slice_get files k ≡ Some c → Begins (methods_from class files numbers) from (item_or (linked_classes names files from fields) k no_class)
core_begins names [] numbers class from fields k c begun at = cc
core_begins names (d ∷ files) [] class from fields zero c begun at = head_begins names d [] class from fields (methods_from (suc class) files []) (and_true _ _ begun).0
core_begins names (d ∷ files) (ns ∷ numbers) class from fields zero c begun at = head_begins names d ns class from fields (methods_from (suc class) files numbers) (and_true _ _ begun).0
core_begins names (d ∷ files) [] class from fields (suc k) c begun at =
    behind_begins d [] class from (methods_from (suc class) files []) _
    (core_begins names files [] (suc class) (from + method_count d) (fields + length d.fields) k c (and_true _ _ begun).1 at)
core_begins names (d ∷ files) (ns ∷ numbers) class from fields (suc k) c begun at =
    behind_begins d ns class from (methods_from (suc class) files numbers) _
    (core_begins names files numbers (suc class) (from + method_count d) (fields + length d.fields) k c (and_true _ _ begun).1 at)

-- those of a folder's classes, and then of the core classes, which are numbered from another number on
pub all_begin : (names : List (List ℕ)) (files core : List ClassFile) (numbers : List (List ℕ)) (behind class from fields k : ℕ) (c : ClassFile) → list_all is_begun files ≡ true
    → list_all is_begun core ≡ true → slice_get (files ++ core) k ≡ Some c
    → Begins (methods_from class files [] ++ methods_from behind core numbers) from (item_or (linked_classes names (files ++ core) from fields) k no_class)
all_begin names [] core numbers behind class from fields k c begun core_begun at = core_begins names core numbers behind from fields k c core_begun at
all_begin names (d ∷ files) core numbers behind class from fields zero c begun core_begun at =
    let rest : List LinkedMethod = methods_from behind core numbers in
    moved (sym (append_assoc (methods_of_class class d []) (methods_from (suc class) files []) rest))
    (head_begins names d [] class from fields (methods_from (suc class) files [] ++ rest) (and_true _ _ begun).0)
all_begin names (d ∷ files) core numbers behind class from fields (suc k) c begun core_begun at =
    let rest : List LinkedMethod = methods_from behind core numbers in
    moved (sym (append_assoc (methods_of_class class d []) (methods_from (suc class) files []) rest))
    (behind_begins d [] class from (methods_from (suc class) files [] ++ rest) _
    (all_begin names files core numbers behind (suc class) (from + method_count d) (fields + length d.fields) k c (and_true _ _ begun).1 core_begun at))
