-- The classes of a program by the files that they are linked from: superclasses and interfaces are the classes that their names find.
use Rattle.std.proofs.Common.{Bool, List, None, Option, Some, [], ap, bytes_eq, cond, false, is_some, length, map, option_map, refl, slice_get, subst, suc, sym, true, unwrap_or, zero, ℕ, ◌+◌, ◌<◌, ◌∙◌, ◌∷◌, ◌≡◌, ◌||◌}
use Rattle.std.proofs.lemmas.Option.{slice_get_within}
use Rattle.std.proofs.lemmas.Slice.Eq.{bytes_eq-Decides}
use Rattle.std.specs.Cmp.Derive.{both_true}
use Rattle.std.specs.List.{list_all, position}
use Rattle.std.specs.Prelude.{not}
use Rattle.vx_class.specs.declared.class_file.ClassFile.{ClassFile}
use Rattle.vx_pool.specs.Holding.{and_true}
use Rattle.vx_link.specs.ClassNames.{class_of_name, object_class}
use Rattle.vx_link.specs.Faults.{file_named, interface_names, is_interface_file, name_of, passes, super_fits, super_name}
use Rattle.vx_link.specs.Hierarchy.{interfaces_of, superclass_of}
use Rattle.vx_link.specs.Linked.{class_id, linked_class, linked_classes, method_count}
use Rattle.vx_link.specs.Parts.{class_at, class_count, is_interface, no_class}
use Rattle.vx_link.specs.Tables.{names_of}
use Rattle.vx_link.specs.declared.program.LinkedClass.{LinkedClass}
use Rattle.vx_link.specs.declared.program.Program.{Program}
use Rattle.vx_list.specs.Places.{item_or}
use Rattle.vx_names.proofs.Keys.{place_of-map, position-cons}
use Rattle.vx_sound_classes.proofs.CoreFacts.{fits_in, is_below_object, object_name}
use Rattle.vx_sound_classes.proofs.Files.{IsFound, found, place_in, some_same}

-- ---- the class of a file

-- but for the numbers of its methods and fields
pub record IsClassOf (names : List (List ℕ)) (c : ClassFile) (l : LinkedClass) : Type 0 where
  pub methods : ℕ
  pub fields : ℕ
  pub is : l ≡ linked_class names c methods fields

class_there : (names : List (List ℕ)) (files : List ClassFile) (methods fields k : ℕ) (c : ClassFile) → slice_get files k ≡ Some c
    → IsClassOf names c (item_or (linked_classes names files methods fields) k no_class)
class_there names [] methods fields k c at = cc
class_there names (d ∷ files) methods fields zero c at = record { methods = methods; fields = fields; is = ap (λ c. linked_class names c methods fields) (some_same d c at) }
class_there names (d ∷ files) methods fields (suc k) c at = class_there names files (methods + method_count d) (fields + length d.fields) k c at

none_there : (names : List (List ℕ)) (files : List ClassFile) (methods fields k : ℕ) → slice_get files k ≡ None → item_or (linked_classes names files methods fields) k no_class ≡ no_class
none_there names [] methods fields k at = refl
none_there names (d ∷ files) methods fields zero at = cc
none_there names (d ∷ files) methods fields (suc k) at = none_there names files (methods + method_count d) (fields + length d.fields) k at

count : (names : List (List ℕ)) (files : List ClassFile) (methods fields : ℕ) → length (linked_classes names files methods fields) ≡ length files
count names [] methods fields = refl
count names (c ∷ files) methods fields = ap suc (count names files (methods + method_count c) (fields + length c.fields))

named_place : (names : List (List ℕ)) (files : List ClassFile) (methods fields : ℕ) (name : List ℕ)
    → position (λ c. bytes_eq c.name name) (linked_classes names files methods fields) ≡ place_in files name
named_place names [] methods fields name = refl
named_place names (c ∷ files) methods fields name =
    position-cons (λ c. bytes_eq c.name name) (linked_class names c methods fields) (linked_classes names files (methods + method_count c) (fields + length c.fields))
    ∙ ap (λ o. cond (bytes_eq (name_of c) name) (Some 0) (option_map suc o)) (named_place names files (methods + method_count c) (fields + length c.fields) name)
    ∙ sym (position-cons (λ c. bytes_eq (name_of c) name) c files)

-- ---- a program whose classes are those of files

-- each file stands once, and names what is there; Object alone has no superclass
pub record IsOf (p : Program) (all : List ClassFile) : Type 0 where
  pub linked : p.classes ≡ linked_classes (names_of all) all 0 0
  pub own : (k : ℕ) (c : ClassFile) → slice_get all k ≡ Some c → place_in all (name_of c) ≡ Some k
  pub fits : (k : ℕ) (c : ClassFile) → slice_get all k ≡ Some c → fits_in all c ≡ true
  pub below : (k : ℕ) (c : ClassFile) → slice_get all k ≡ Some c → is_below_object c ≡ true
  pub object : ClassFile
  pub named : file_named all object_name ≡ Some object
  pub root : super_name object ≡ None

pub class_is : (p : Program) (all : List ClassFile) → IsOf p all → (k : ℕ) (c : ClassFile) → slice_get all k ≡ Some c → IsClassOf (names_of all) c (class_at p k)
class_is p all of k c at =
    let there = class_there (names_of all) all 0 0 k c at in
    record { methods = there.methods; fields = there.fields; is = ap (λ cs. item_or cs k no_class) of.linked ∙ there.is }

pub no_class_is : (p : Program) (all : List ClassFile) → IsOf p all → (k : ℕ) → slice_get all k ≡ None → class_at p k ≡ no_class
no_class_is p all of k at = ap (λ cs. item_or cs k no_class) of.linked ∙ none_there (names_of all) all 0 0 k at

pub count_is : (p : Program) (all : List ClassFile) → IsOf p all → class_count p ≡ length all
count_is p all of = ap length of.linked ∙ count (names_of all) all 0 0

pub place_is : (p : Program) (all : List ClassFile) → IsOf p all → (name : List ℕ) → class_of_name p name ≡ place_in all name
place_is p all of name = ap (position (λ c. bytes_eq c.name name)) of.linked ∙ named_place (names_of all) all 0 0 name

pub interface_is : (p : Program) (all : List ClassFile) → IsOf p all → (k : ℕ) (c : ClassFile) → slice_get all k ≡ Some c → is_interface p k ≡ is_interface_file c
interface_is p all of k c at = let there = class_is p all of k c at in ap (λ l. is_interface (record p { classes = l ∷ [] }) 0) there.is

pub superclass_is : (p : Program) (all : List ClassFile) → IsOf p all → (k : ℕ) (c : ClassFile) → slice_get all k ≡ Some c
    → superclass_of p k ≡ option_map (λ name. (class_id (names_of all) name).0) (super_name c)
superclass_is p all of k c at =
    ap (λ l. option_map (λ s. s.0) l.superclass) (class_is p all of k c at).is ∙ twice_mapped (super_name c)
  where
    twice_mapped : (o : Option (List ℕ)) → option_map (λ s. s.0) (option_map (class_id (names_of all)) o) ≡ option_map (λ name. (class_id (names_of all) name).0) o
    twice_mapped None = refl
    twice_mapped (Some name) = refl

pub no_superclass : (p : Program) (all : List ClassFile) → IsOf p all → (k : ℕ) → slice_get all k ≡ None → superclass_of p k ≡ None
no_superclass p all of k at = ap (λ l. option_map (λ s. s.0) l.superclass) (no_class_is p all of k at)

-- ---- what a name finds

name_same : (name : List ℕ) → bytes_eq name object_name ≡ true → name ≡ object_name
name_same name h = (bytes_eq-Decides name object_name).0 h

file_passes : (test : ClassFile → Bool) (o : Option ClassFile) → passes test o ≡ true → (s : ClassFile) × (o ≡ Some s) × (test s ≡ true)
file_passes test None h = cc
file_passes test (Some s) h = (s, refl, h)

-- the file of a name that is there and passes a test
pub record Passes (all : List ClassFile) (test : ClassFile → Bool) (name : List ℕ) : Type 0 where
  pub file : ClassFile
  pub found : IsFound all name file
  pub test_is : test file ≡ true

pub passing : (all : List ClassFile) (test : ClassFile → Bool) (name : List ℕ) → passes test (file_named all name) ≡ true → Passes all test name
passing all test name h =
    let there = file_passes test (file_named all name) h in
    record { file = there.0; found = found all name there.0 there.1; test_is = there.2 }

pub number_is : (all : List ClassFile) (name : List ℕ) (d : ℕ) → place_in all name ≡ Some d → (class_id (names_of all) name).0 ≡ d
number_is all name d is = ap (λ o. unwrap_or o 0) (place_of-map name_of all name ∙ is)

-- ---- one step up

pub record IsUp (all : List ClassFile) (k d : ℕ) : Type 0 where
  pub class : ClassFile
  pub above : ClassFile
  pub at : slice_get all k ≡ Some class
  pub there : slice_get all d ≡ Some above
  pub super : super_name class ≡ Some (name_of above)
  pub place : place_in all (name_of above) ≡ Some d
  pub plain : not (is_interface_file above) ≡ true
  pub root : is_interface_file class ≡ true → name_of above ≡ object_name

root_name : (interface : Bool) (name : List ℕ) → (not interface || bytes_eq name object_name) ≡ true → interface ≡ true → bytes_eq name object_name ≡ true
root_name true name h is = h
root_name false name h is = cc

up_of : (p : Program) (all : List ClassFile) → IsOf p all → (k d : ℕ) (c : ClassFile) → slice_get all k ≡ Some c → (o : Option (List ℕ)) → super_name c ≡ o
    → super_fits all c o ≡ true → option_map (λ name. (class_id (names_of all) name).0) o ≡ Some d → IsUp all k d
up_of p all of k d c at None is fits number = cc
up_of p all of k d c at (Some name) is fits number =
    let parts = and_true _ _ fits in
    let s = passing all (λ s. not (is_interface_file s)) name parts.0 in
    let same : d ≡ s.found.at = some_same d s.found.at (sym number ∙ ap Some (number_is all name s.found.at s.found.place)) in
    record {
      class = c;
      above = s.file;
      at = at;
      there = ap (slice_get all) same ∙ s.found.there;
      super = is ∙ ap Some (sym s.found.name_is);
      place = ap (place_in all) s.found.name_is ∙ s.found.place ∙ ap Some (sym same);
      plain = s.test_is;
      root = λ interface. s.found.name_is ∙ name_same name (root_name (is_interface_file c) name parts.1 interface);
    }

pub up : (p : Program) (all : List ClassFile) → IsOf p all → (k d : ℕ) → superclass_of p k ≡ Some d → IsUp all k d
up p all of k d is = by (slice_get all k) refl
  where
    by : (o : Option ClassFile) → slice_get all k ≡ o → IsUp all k d
    by None at = cc (sym is ∙ no_superclass p all of k at)
    by (Some c) at = up_of p all of k d c at (super_name c) refl (and_true _ _ (of.fits k c at)).0 (sym (superclass_is p all of k c at) ∙ is)

-- a class without superclass is Object
pub top : (p : Program) (all : List ClassFile) → IsOf p all → (k : ℕ) (c : ClassFile) → slice_get all k ≡ Some c → superclass_of p k ≡ None → name_of c ≡ object_name
top p all of k c at none = name_same (name_of c) (by (super_name c) (sym (superclass_is p all of k c at) ∙ none) (of.below k c at))
  where
    by : (o : Option (List ℕ)) → option_map (λ name. (class_id (names_of all) name).0) o ≡ None → (is_some o || bytes_eq (name_of c) object_name) ≡ true
        → bytes_eq (name_of c) object_name ≡ true
    by None none below = below
    by (Some name) none below = cc

-- ---- Object

object_place : (p : Program) (all : List ClassFile) (of : IsOf p all) (k : ℕ) → place_in all object_name ≡ Some k → object_class p ≡ k
object_place p all of k is = ap (λ o. unwrap_or o 0) (place_is p all of object_name ∙ is)

-- a class of its name is Object
pub object_is : (p : Program) (all : List ClassFile) → IsOf p all → (k : ℕ) (c : ClassFile) → slice_get all k ≡ Some c → name_of c ≡ object_name → object_class p ≡ k
object_is p all of k c at is = object_place p all of k (ap (place_in all) (sym is) ∙ of.own k c at)

pub record IsRoot (p : Program) (all : List ClassFile) : Type 0 where
  pub within : object_class p < length all
  pub top : superclass_of p (object_class p) ≡ None

pub root_is : (p : Program) (all : List ClassFile) → IsOf p all → IsRoot p all
root_is p all of =
    let there = found all object_name of.object of.named in
    let same : object_class p ≡ there.at = object_place p all of there.at there.place in
    record {
      within = subst (λ (k : ℕ). k < length all) (sym same) (slice_get_within all there.at of.object there.there);
      top = ap (superclass_of p) same ∙ superclass_is p all of there.at of.object there.there ∙ ap (option_map (λ name. (class_id (names_of all) name).0)) of.root;
    }

-- ---- interfaces

number_passes : (p : Program) (all : List ClassFile) → IsOf p all → (names : List (List ℕ)) → list_all (λ name. passes is_interface_file (file_named all name)) names ≡ true
    → list_all (is_interface p) (map (λ i. i.0) (map (class_id (names_of all)) names)) ≡ true
number_passes p all of [] h = refl
number_passes p all of (name ∷ names) h =
    let parts = and_true _ _ h in
    let s = passing all is_interface_file name parts.0 in
    both_true
    (ap (is_interface p) (number_is all name s.found.at s.found.place) ∙ interface_is p all of s.found.at s.file s.found.there ∙ s.test_is)
    (number_passes p all of names parts.1)

-- what a class implements are interfaces
pub interfaces_are : (p : Program) (all : List ClassFile) → IsOf p all → (k : ℕ) → list_all (is_interface p) (interfaces_of p k) ≡ true
interfaces_are p all of k = by (slice_get all k) refl
  where
    by : (o : Option ClassFile) → slice_get all k ≡ o → list_all (is_interface p) (interfaces_of p k) ≡ true
    by None at = ap (λ l. list_all (is_interface p) (map (λ i. i.0) l.interfaces)) (no_class_is p all of k at)
    by (Some c) at =
        ap (λ l. list_all (is_interface p) (map (λ i. i.0) l.interfaces)) (class_is p all of k c at).is
        ∙ number_passes p all of (interface_names c) (and_true _ _ (of.fits k c at)).1
