-- The parts of a program by their numbers, and their access flags (JVMS 4.1, 4.5, 4.6).
use Rattle.std.specs.Prelude.{Bool, List, None, [], false, length, map, not, ℕ, ◌&&◌}
use Rattle.vx_class.specs.Members.{has as has_flag, ABSTRACT, INTERFACE, STATIC}
use Rattle.vx_link.specs.declared.access_flags.AccessFlags.{AccessFlags}
use Rattle.vx_link.specs.declared.program.LinkedClass.{LinkedClass}
use Rattle.vx_link.specs.declared.program.LinkedField.{LinkedField}
use Rattle.vx_link.specs.declared.program.LinkedMethod.{LinkedMethod}
use Rattle.vx_link.specs.declared.program.Program.{Program}
use Rattle.vx_list.specs.Places.{item_or}

-- ---- access flags, with those that reading a class looks at

abbrev pub PUBLIC : ℕ
PUBLIC = 0x0001

abbrev pub PRIVATE : ℕ
PRIVATE = 0x0002

abbrev pub FINAL : ℕ
FINAL = 0x0010

abbrev pub has : ℕ → AccessFlags → Bool
has flag flags = has_flag flags.0 flag

-- ---- classes, methods, fields

abbrev pub no_flags : AccessFlags
no_flags = record { 0 = 0 }

abbrev pub no_class : LinkedClass
no_class =
    record {
      name = [];
      superclass = None;
      interfaces = [];
      flags = no_flags;
      pool = record { entries = [] };
      methods = [];
      fields = [];
      initialiser = record { 0 = 0 };
      own_initialiser = false;
    }

abbrev pub no_method : LinkedMethod
no_method = record { class = record { 0 = 0 }; name = []; descriptor = []; flags = no_flags; code = None; native = 0 }

abbrev pub no_field : LinkedField
no_field = record { class = record { 0 = 0 }; name = []; descriptor = []; flags = no_flags; cell = 0; constant = 0; option = None }

abbrev pub class_at : Program → ℕ → LinkedClass
class_at p c = item_or p.classes c no_class

abbrev pub method_at : Program → ℕ → LinkedMethod
method_at p m = item_or p.methods m no_method

abbrev pub field_at : Program → ℕ → LinkedField
field_at p f = item_or p.fields f no_field

abbrev pub class_count : Program → ℕ
class_count p = length p.classes

-- the numbers of the methods and of the fields that a class declares, in file order
abbrev pub methods_of : Program → ℕ → List ℕ
methods_of p c = map (λ m. m.0) (class_at p c).methods

abbrev pub fields_of : Program → ℕ → List ℕ
fields_of p c = map (λ f. f.0) (class_at p c).fields

-- ---- tests

abbrev pub is_interface : Program → ℕ → Bool
is_interface p c = has INTERFACE (class_at p c).flags

abbrev pub is_static_field : Program → ℕ → Bool
is_static_field p f = has STATIC (field_at p f).flags

abbrev pub is_abstract : LinkedMethod → Bool
is_abstract m = has ABSTRACT m.flags

abbrev pub is_instance : LinkedMethod → Bool
is_instance m = not (has STATIC m.flags)

-- neither private nor static
abbrev pub is_inherited : LinkedMethod → Bool
is_inherited m = not (has PRIVATE m.flags) && not (has STATIC m.flags)
