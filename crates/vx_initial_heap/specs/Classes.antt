-- The core classes of the first objects.
use Rattle.std.specs.Prelude.{◌≡◌}
use Rattle.vx_initial_heap.specs.declared.core_classes.CoreClasses.{CoreClasses}
use Rattle.vx_link.specs.ClassNames.{array_class, class_element, core_class}
use Rattle.vx_link.specs.declared.program.Program.{Program}

pub record AreCoreClasses (p : Program) (classes : CoreClasses) : Type 0 where
  pub print_stream : classes.print_stream.0 ≡ core_class p "java/io/PrintStream"
  pub integer : classes.integer.0 ≡ core_class p "java/lang/Integer"
  pub boolean : classes.boolean.0 ≡ core_class p "java/lang/Boolean"
  pub string : classes.string.0 ≡ core_class p "java/lang/String"
  pub class : classes.class.0 ≡ core_class p "java/lang/Class"
  pub strings : classes.strings.0 ≡ array_class p 1 (class_element (core_class p "java/lang/String"))
