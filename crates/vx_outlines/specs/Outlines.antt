-- What linking asks of a class file (JVMS 5.3, 5.4).
use Rattle.std.specs.List.{list_any}
use Rattle.std.specs.Prelude.{Bool, List, [], flat_map, if◌then◌else◌, ℕ, ◌∷◌}
use Rattle.vx_class.specs.declared.class_file.ClassFile.{ClassFile}
use Rattle.vx_class.specs.declared.class_file.Field.{Field}
use Rattle.vx_link.specs.Faults.{interface_names, is_interface_file, is_main, is_option_field, name_of, super_name}
use Rattle.vx_link.specs.Names.{utf8}
use Rattle.vx_outlines.specs.declared.outline.Outline.{Outline}

abbrev pub has_main : ClassFile → Bool
has_main c = list_any (is_main c) c.methods

-- the name of a field, where an option can have it
abbrev pub flag_of : ClassFile → Field → List (List ℕ)
flag_of c f = if is_option_field c (utf8 c.pool f.name) f then utf8 c.pool f.name ∷ [] else []

abbrev pub flag_names : ClassFile → List (List ℕ)
flag_names c = flat_map (flag_of c) c.fields

abbrev pub outline_of : ClassFile → Outline
outline_of c = record {
  name = name_of c;
  parent = super_name c;
  interfaces = interface_names c;
  is_interface = is_interface_file c;
  has_main = has_main c;
  flags = flag_names c;
}
