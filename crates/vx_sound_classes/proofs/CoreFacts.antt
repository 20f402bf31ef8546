-- What the core classes are, by computation: their names stand once, what each names above it is there and stands before it, and Object alone has no superclass.
use Rattle.std.proofs.Common.{Bool, List, None, Option, Some, [], bytes_eq, codes, false, is_some, refl, suc, true, ℕ, ◌&&◌, ◌∷◌, ◌≡◌, ◌||◌}
use Rattle.std.specs.List.{list_all}
use Rattle.std.specs.Prelude.{nat_lt, not}
use Rattle.vx_class.specs.declared.class_file.ClassFile.{ClassFile}
use Rattle.vx_link.specs.CoreFiles.{core_files}
use Rattle.vx_link.specs.CoreTable.{object_class}
use Rattle.vx_link.specs.Faults.{file_named, interfaces_fit, is_interface_file, name_of, passes, super_fits, super_name, twice}
use Rattle.vx_link.specs.Written.{class_file}
use Rattle.vx_sound.specs.Sound.{array_interfaces, named_classes}
use Rattle.vx_sound_classes.proofs.Files.{place_in}

abbrev pub object_name : List ℕ
object_name = codes "java/lang/Object"

-- what a class names above it is there, and of the kind that it may be
abbrev pub fits_in : List ClassFile → ClassFile → Bool
fits_in all c = super_fits all c (super_name c) && interfaces_fit all c

-- Object alone has no superclass
abbrev pub is_below_object : ClassFile → Bool
is_below_object c = is_some (super_name c) || bytes_eq (name_of c) object_name

-- a superclass stands before its class
abbrev pub is_before : ℕ → Option ℕ → Bool
is_before k None = false
is_before k (Some d) = nat_lt d k

abbrev pub super_before : List ClassFile → ℕ → Option (List ℕ) → Bool
super_before all k None = true
super_before all k (Some name) = is_before k (place_in all name)

abbrev pub supers_before : List ClassFile → ℕ → List ClassFile → Bool
supers_before all k [] = true
supers_before all k (c ∷ rest) = super_before all k (super_name c) && supers_before all (suc k) rest

-- the named classes are there and no interfaces, and those of arrays are interfaces
abbrev pub is_class_file_in : List ClassFile → List ℕ → Bool
is_class_file_in all name = passes (λ c. not (is_interface_file c)) (file_named all name)

abbrev pub is_interface_file_in : List ClassFile → List ℕ → Bool
is_interface_file_in all name = passes is_interface_file (file_named all name)

pub record IsCore (core : List ClassFile) : Type 0 where
  pub single : twice [] core ≡ None
  pub fits : list_all (fits_in core) core ≡ true
  pub below : list_all is_below_object core ≡ true
  pub before : supers_before core 0 core ≡ true
  pub object : ClassFile
  pub named : file_named core object_name ≡ Some object
  pub root : super_name object ≡ None
  pub classes : list_all (λ name. is_class_file_in core (codes name)) named_classes ≡ true
  pub interfaces : list_all (λ name. is_interface_file_in core (codes name)) array_interfaces ≡ true

single : twice [] core_files ≡ None
single = refl

fits : list_all (fits_in core_files) core_files ≡ true
fits = refl

below : list_all is_below_object core_files ≡ true
below = refl

before : supers_before core_files 0 core_files ≡ true
before = refl

named : file_named core_files object_name ≡ Some (class_file object_class)
named = refl

classes : list_all (λ name. is_class_file_in core_files (codes name)) named_classes ≡ true
classes = refl

interfaces : list_all (λ name. is_interface_file_in core_files (codes name)) array_interfaces ≡ true
interfaces = refl

pub is_core : IsCore core_files
is_core = record {
  single = single;
  fits = fits;
  below = below;
  before = before;
  object = class_file object_class;
  named = named;
  root = refl;
  classes = classes;
  interfaces = interfaces;
}
