-- What a lawful descriptor says (JVMS 4.3), and what follows for values of its types.
use Rattle.std.specs.Prelude.{List, None, [], drop, take, unwrap_or, ℕ, ◌-◌}
use Rattle.vx_desc.specs.Descriptors.{method_of}
use Rattle.vx_desc.specs.declared.java_type.Descriptor.{Descriptor}
use Rattle.vx_desc.specs.declared.java_type.JavaType.{JavaType}

-- the types of a method's arguments and of its result, none for void
abbrev pub signature : List ℕ → Descriptor
signature descriptor = unwrap_or (method_of descriptor) (record { arguments = []; result = None })

-- the name of the class that a type of a descriptor, behind its [, is
abbrev pub class_in : List ℕ → JavaType → List ℕ
class_in descriptor t = take (t.end - t.from) (drop t.from descriptor)
