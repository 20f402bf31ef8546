-- The core classes, in their order: the part of the class library of Java SE 7 that a program may use.
use Rattle.std.specs.Prelude.{List, None, Some, [], ℕ, ◌++◌, ◌∷◌}
use Prim.Native.String.{String}
use Rattle.vx_link.specs.Written.{Item, Reference, WrittenClass, WrittenField, WrittenMethod, a_class, a_method, a_text, body, jump, ldc, naming, nothing, number, plain}

-- ---- instructions of the bodies (JVMS 7)

abbrev pub aconst_null : Item
aconst_null = plain 0x01 []

abbrev pub aload_0 : Item
aload_0 = plain 0x2a []

abbrev pub aload_1 : Item
aload_1 = plain 0x2b []

abbrev pub aload_2 : Item
aload_2 = plain 0x2c []

abbrev pub astore_1 : Item
astore_1 = plain 0x4c []

abbrev pub astore_2 : Item
astore_2 = plain 0x4d []

abbrev pub dup : Item
dup = plain 0x59 []

abbrev pub ireturn : Item
ireturn = plain 0xac []

abbrev pub areturn : Item
areturn = plain 0xb0 []

abbrev pub return : Item
return = plain 0xb1 []

abbrev pub ifeq : ℕ → Item
ifeq = jump 0x99

abbrev pub goto : ℕ → Item
goto = jump 0xa7

abbrev pub ifnonnull : ℕ → Item
ifnonnull = jump 0xc7

abbrev pub invokevirtual : ℕ → Item
invokevirtual reference = naming 0xb6 reference []

abbrev pub invokespecial : ℕ → Item
invokespecial reference = naming 0xb7 reference []

abbrev pub invokestatic : ℕ → Item
invokestatic reference = naming 0xb8 reference []

abbrev pub new : ℕ → Item
new reference = naming 0xbb reference []

abbrev pub checkcast : ℕ → Item
checkcast reference = naming 0xc0 reference []

abbrev pub instanceof : ℕ → Item
instanceof reference = naming 0xc1 reference []

-- ---- members

-- a field of an object that no class file can name
abbrev pub cell : String → String → WrittenField
cell name descriptor = record { name = name; descriptor = descriptor; flags = 0x0002 }

abbrev pub constant : String → String → WrittenField
constant name descriptor = record { name = name; descriptor = descriptor; flags = 0x0019 }

-- a native method, of an object or static, by its number
abbrev pub native : String → String → ℕ → WrittenMethod
native name descriptor n = record { name = name; descriptor = descriptor; flags = 0x0101; how = number n }

abbrev pub static : String → String → ℕ → WrittenMethod
static name descriptor n = record { name = name; descriptor = descriptor; flags = 0x0109; how = number n }

-- a method that is left out: it ends the run
abbrev pub refused : String → String → WrittenMethod
refused name descriptor = record { name = name; descriptor = descriptor; flags = 0x0101; how = nothing }

abbrev pub abstract : String → String → WrittenMethod
abstract name descriptor = record { name = name; descriptor = descriptor; flags = 0x0401; how = nothing }

abbrev pub written : String → String → (max_stack max_locals : ℕ) → List Item → WrittenMethod
written name descriptor max_stack max_locals items =
    record { name = name; descriptor = descriptor; flags = 0x0001; how = body max_stack max_locals items [] }

abbrev pub written_static : String → String → (max_stack max_locals : ℕ) → List Item → WrittenMethod
written_static name descriptor max_stack max_locals items =
    record { name = name; descriptor = descriptor; flags = 0x0009; how = body max_stack max_locals items [] }

-- ---- classes

abbrev pub interface : String → List WrittenMethod → WrittenClass
interface name methods =
    record {
      major = 51;
      name = name;
      superclass = Some "java/lang/Object";
      interfaces = [];
      flags = 0x0601;
      fields = [];
      methods = methods;
      references = [];
    }

-- compareTo of any object, by compareTo of the own class: the references are the class and the method
abbrev pub compare_objects : WrittenMethod
compare_objects =
    written "compareTo" "(Ljava/lang/Object;)I" 2 2 (aload_0 ∷ aload_1 ∷ checkcast 0 ∷ invokevirtual 1 ∷ ireturn ∷ [])

-- a method of any object, by the method for its text: the references are valueOf of String and that method
abbrev pub by_text : String → String → ℕ → (end : Item) → WrittenMethod
by_text name descriptor method end =
    written name descriptor 2 2 (aload_0 ∷ aload_1 ∷ invokestatic 0 ∷ invokevirtual method ∷ end ∷ [])

abbrev pub text_of_object : Reference
text_of_object = a_method "java/lang/String" "valueOf" "(Ljava/lang/Object;)Ljava/lang/String;"

-- the constructors of a throwable with no message or with one, and with a message and a cause
abbrev pub two_constructors : List WrittenMethod
two_constructors = native "<init>" "()V" 86 ∷ native "<init>" "(Ljava/lang/String;)V" 87 ∷ []

-- and with a cause alone, whose text is the message: the references are toString of Throwable and the constructor with both
abbrev pub four_constructors : List WrittenMethod
four_constructors =
    native "<init>" "()V" 86
    ∷ native "<init>" "(Ljava/lang/String;)V" 87
    ∷ native "<init>" "(Ljava/lang/String;Ljava/lang/Throwable;)V" 88
    ∷ written "<init>" "(Ljava/lang/Throwable;)V" 3 2
    (aload_0 ∷ aload_1 ∷ ifnonnull 7 ∷ aconst_null ∷ goto 7 ∷ aload_1 ∷ invokevirtual 0 ∷ aload_1 ∷ invokespecial 1 ∷ return ∷ [])
    ∷ []

abbrev pub constructor_references : String → List Reference
constructor_references class =
    a_method "java/lang/Throwable" "toString" "()Ljava/lang/String;"
    ∷ a_method class "<init>" "(Ljava/lang/String;Ljava/lang/Throwable;)V"
    ∷ []

abbrev pub throwable_named : String → String → List WrittenMethod → List Reference → WrittenClass
throwable_named name above methods references =
    record {
      major = 51;
      name = name;
      superclass = Some above;
      interfaces = [];
      flags = 0x0021;
      fields = [];
      methods = methods;
      references = references;
    }

abbrev pub general_throwable : String → String → WrittenClass
general_throwable name above = throwable_named name above four_constructors (constructor_references name)

abbrev pub plain_throwable : String → String → WrittenClass
plain_throwable name above = throwable_named name above two_constructors []

abbrev pub object_class : WrittenClass
object_class =
    record {
      major = 51;
      name = "java/lang/Object";
      superclass = None;
      interfaces = [];
      flags = 0x0021;
      fields = [];
      methods =
          native "<init>" "()V" 1
          ∷ native "equals" "(Ljava/lang/Object;)Z" 2
          ∷ refused "hashCode" "()I"
          ∷ refused "toString" "()Ljava/lang/String;"
          ∷ [];
      references =
          [];
    }

abbrev pub string_class : WrittenClass
string_class =
    record {
      major = 51;
      name = "java/lang/String";
      superclass = Some "java/lang/Object";
      interfaces = "java/lang/Comparable" ∷ "java/lang/CharSequence" ∷ "java/io/Serializable" ∷ [];
      flags = 0x0031;
      fields = cell "/text" "T" ∷ [];
      methods =
          native "<init>" "()V" 3
          ∷ native "<init>" "(Ljava/lang/String;)V" 4
          ∷ native "<init>" "([C)V" 5
          ∷ native "length" "()I" 6
          ∷ native "isEmpty" "()Z" 7
          ∷ native "charAt" "(I)C" 8
          ∷ native "hashCode" "()I" 9
          ∷ native "equals" "(Ljava/lang/Object;)Z" 10
          ∷ native "compareTo" "(Ljava/lang/String;)I" 11
          ∷ compare_objects
          ∷ native "concat" "(Ljava/lang/String;)Ljava/lang/String;" 12
          ∷ native "substring" "(I)Ljava/lang/String;" 13
          ∷ native "substring" "(II)Ljava/lang/String;" 14
          ∷ native "indexOf" "(I)I" 15
          ∷ native "indexOf" "(Ljava/lang/String;)I" 16
          ∷ native "startsWith" "(Ljava/lang/String;)Z" 17
          ∷ native "endsWith" "(Ljava/lang/String;)Z" 18
          ∷ native "toCharArray" "()[C" 19
          ∷ native "toString" "()Ljava/lang/String;" 20
          ∷ static "valueOf" "(I)Ljava/lang/String;" 21
          ∷ static "valueOf" "(J)Ljava/lang/String;" 22
          ∷ static "valueOf" "(Z)Ljava/lang/String;" 23
          ∷ static "valueOf" "(C)Ljava/lang/String;" 24
          ∷ static "valueOf" "([C)Ljava/lang/String;" 25
          ∷ written_static "valueOf" "(Ljava/lang/Object;)Ljava/lang/String;" 1 1
          (aload_0 ∷ ifnonnull 6 ∷ ldc 2 ∷ areturn ∷ aload_0 ∷ invokevirtual 3 ∷ areturn ∷ [])
          ∷ [];
      references =
          a_class "java/lang/String"
          ∷ a_method "java/lang/String" "compareTo" "(Ljava/lang/String;)I"
          ∷ a_text "null"
          ∷ a_method "java/lang/Object" "toString" "()Ljava/lang/String;"
          ∷ [];
    }

abbrev pub string_builder_class : WrittenClass
string_builder_class =
    record {
      major = 51;
      name = "java/lang/StringBuilder";
      superclass = Some "java/lang/Object";
      interfaces = "java/lang/CharSequence" ∷ "java/io/Serializable" ∷ [];
      flags = 0x0031;
      fields = cell "/text" "T" ∷ [];
      methods =
          native "<init>" "()V" 26
          ∷ native "<init>" "(I)V" 27
          ∷ native "<init>" "(Ljava/lang/String;)V" 28
          ∷ native "append" "(I)Ljava/lang/StringBuilder;" 29
          ∷ native "append" "(J)Ljava/lang/StringBuilder;" 30
          ∷ native "append" "(Z)Ljava/lang/StringBuilder;" 31
          ∷ native "append" "(C)Ljava/lang/StringBuilder;" 32
          ∷ native "append" "(Ljava/lang/String;)Ljava/lang/StringBuilder;" 33
          ∷ by_text "append" "(Ljava/lang/Object;)Ljava/lang/StringBuilder;" 1 areturn
          ∷ native "length" "()I" 34
          ∷ native "charAt" "(I)C" 35
          ∷ native "setLength" "(I)V" 36
          ∷ native "deleteCharAt" "(I)Ljava/lang/StringBuilder;" 37
          ∷ native "reverse" "()Ljava/lang/StringBuilder;" 38
          ∷ native "toString" "()Ljava/lang/String;" 39
          ∷ [];
      references =
          text_of_object
          ∷ a_method "java/lang/StringBuilder" "append" "(Ljava/lang/String;)Ljava/lang/StringBuilder;"
          ∷ [];
    }

abbrev pub class_class : WrittenClass
class_class =
    record {
      major = 51;
      name = "java/lang/Class";
      superclass = Some "java/lang/Object";
      interfaces = "java/io/Serializable" ∷ [];
      flags = 0x0031;
      fields = [];
      methods =
          native "desiredAssertionStatus" "()Z" 40
          ∷ [];
      references =
          [];
    }

abbrev pub print_stream_class : WrittenClass
print_stream_class =
    record {
      major = 51;
      name = "java/io/PrintStream";
      superclass = Some "java/lang/Object";
      interfaces = [];
      flags = 0x0021;
      fields = cell "/stream" "I" ∷ [];
      methods =
          native "print" "(Z)V" 41
          ∷ native "print" "(C)V" 42
          ∷ native "print" "(I)V" 43
          ∷ native "print" "(J)V" 44
          ∷ native "print" "(Ljava/lang/String;)V" 45
          ∷ native "print" "([C)V" 46
          ∷ by_text "print" "(Ljava/lang/Object;)V" 1 return
          ∷ native "println" "(Z)V" 47
          ∷ native "println" "(C)V" 48
          ∷ native "println" "(I)V" 49
          ∷ native "println" "(J)V" 50
          ∷ native "println" "(Ljava/lang/String;)V" 51
          ∷ native "println" "([C)V" 52
          ∷ by_text "println" "(Ljava/lang/Object;)V" 2 return
          ∷ native "println" "()V" 53
          ∷ native "flush" "()V" 54
          ∷ [];
      references =
          text_of_object
          ∷ a_method "java/io/PrintStream" "print" "(Ljava/lang/String;)V"
          ∷ a_method "java/io/PrintStream" "println" "(Ljava/lang/String;)V"
          ∷ [];
    }

abbrev pub system_class : WrittenClass
system_class =
    record {
      major = 51;
      name = "java/lang/System";
      superclass = Some "java/lang/Object";
      interfaces = [];
      flags = 0x0031;
      fields = constant "out" "Ljava/io/PrintStream;" ∷ constant "err" "Ljava/io/PrintStream;" ∷ [];
      methods =
          static "arraycopy" "(Ljava/lang/Object;ILjava/lang/Object;II)V" 55
          ∷ static "exit" "(I)V" 56
          ∷ static "lineSeparator" "()Ljava/lang/String;" 57
          ∷ [];
      references =
          [];
    }

abbrev pub number_class : WrittenClass
number_class =
    record {
      major = 51;
      name = "java/lang/Number";
      superclass = Some "java/lang/Object";
      interfaces = "java/io/Serializable" ∷ [];
      flags = 0x0421;
      fields = [];
      methods =
          native "<init>" "()V" 58
          ∷ abstract "intValue" "()I"
          ∷ abstract "longValue" "()J"
          ∷ [];
      references =
          [];
    }

abbrev pub integer_class : WrittenClass
integer_class =
    record {
      major = 51;
      name = "java/lang/Integer";
      superclass = Some "java/lang/Number";
      interfaces = "java/lang/Comparable" ∷ [];
      flags = 0x0031;
      fields = cell "/value" "I" ∷ [];
      methods =
          static "valueOf" "(I)Ljava/lang/Integer;" 59
          ∷ static "parseInt" "(Ljava/lang/String;)I" 60
          ∷ static "toString" "(I)Ljava/lang/String;" 61
          ∷ static "compare" "(II)I" 62
          ∷ native "intValue" "()I" 63
          ∷ native "longValue" "()J" 64
          ∷ native "toString" "()Ljava/lang/String;" 65
          ∷ native "equals" "(Ljava/lang/Object;)Z" 66
          ∷ native "hashCode" "()I" 67
          ∷ native "compareTo" "(Ljava/lang/Integer;)I" 68
          ∷ compare_objects
          ∷ [];
      references =
          a_class "java/lang/Integer"
          ∷ a_method "java/lang/Integer" "compareTo" "(Ljava/lang/Integer;)I"
          ∷ [];
    }

abbrev pub boolean_class : WrittenClass
boolean_class =
    record {
      major = 51;
      name = "java/lang/Boolean";
      superclass = Some "java/lang/Object";
      interfaces = "java/lang/Comparable" ∷ "java/io/Serializable" ∷ [];
      flags = 0x0031;
      fields = cell "/value" "Z" ∷ constant "TRUE" "Ljava/lang/Boolean;" ∷ constant "FALSE" "Ljava/lang/Boolean;" ∷ [];
      methods =
          static "valueOf" "(Z)Ljava/lang/Boolean;" 69
          ∷ native "booleanValue" "()Z" 70
          ∷ native "toString" "()Ljava/lang/String;" 71
          ∷ native "equals" "(Ljava/lang/Object;)Z" 72
          ∷ native "compareTo" "(Ljava/lang/Boolean;)I" 73
          ∷ compare_objects
          ∷ [];
      references =
          a_class "java/lang/Boolean"
          ∷ a_method "java/lang/Boolean" "compareTo" "(Ljava/lang/Boolean;)I"
          ∷ [];
    }

abbrev pub math_class : WrittenClass
math_class =
    record {
      major = 51;
      name = "java/lang/Math";
      superclass = Some "java/lang/Object";
      interfaces = [];
      flags = 0x0031;
      fields = [];
      methods =
          static "abs" "(I)I" 74
          ∷ static "abs" "(J)J" 75
          ∷ static "max" "(II)I" 76
          ∷ static "max" "(JJ)J" 77
          ∷ static "min" "(II)I" 78
          ∷ static "min" "(JJ)J" 79
          ∷ [];
      references =
          [];
    }

abbrev pub enum_class : WrittenClass
enum_class =
    record {
      major = 51;
      name = "java/lang/Enum";
      superclass = Some "java/lang/Object";
      interfaces = "java/lang/Comparable" ∷ "java/io/Serializable" ∷ [];
      flags = 0x0421;
      fields = cell "/name" "Ljava/lang/String;" ∷ cell "/ordinal" "I" ∷ [];
      methods =
          native "<init>" "(Ljava/lang/String;I)V" 80
          ∷ native "name" "()Ljava/lang/String;" 81
          ∷ native "ordinal" "()I" 82
          ∷ native "toString" "()Ljava/lang/String;" 83
          ∷ native "equals" "(Ljava/lang/Object;)Z" 84
          ∷ native "compareTo" "(Ljava/lang/Enum;)I" 85
          ∷ compare_objects
          ∷ [];
      references =
          a_class "java/lang/Enum"
          ∷ a_method "java/lang/Enum" "compareTo" "(Ljava/lang/Enum;)I"
          ∷ [];
    }

abbrev pub throwable_class : WrittenClass
throwable_class =
    record {
      major = 51;
      name = "java/lang/Throwable";
      superclass = Some "java/lang/Object";
      interfaces = "java/io/Serializable" ∷ [];
      flags = 0x0021;
      fields = cell "/message" "Ljava/lang/String;" ∷ cell "/cause" "Ljava/lang/Throwable;" ∷ [];
      methods =
          four_constructors
          ++ (native "getMessage" "()Ljava/lang/String;" 89
          ∷ native "getCause" "()Ljava/lang/Throwable;" 90
          ∷ native "className0" "()Ljava/lang/String;" 91
          ∷ native "addSuppressed" "(Ljava/lang/Throwable;)V" 92
          ∷ written "getLocalizedMessage" "()Ljava/lang/String;" 1 1 (aload_0 ∷ invokevirtual 2 ∷ areturn ∷ [])
          ∷ written "toString" "()Ljava/lang/String;" 2 3
          (aload_0 ∷ invokevirtual 3 ∷ astore_1 ∷ aload_0 ∷ invokevirtual 4 ∷ astore_2 ∷ aload_2 ∷ ifnonnull 5 ∷ aload_1 ∷ areturn
          ∷ new 5 ∷ dup ∷ invokespecial 6 ∷ aload_1 ∷ invokevirtual 7 ∷ ldc 8 ∷ invokevirtual 7 ∷ aload_2 ∷ invokevirtual 7 ∷ invokevirtual 9 ∷ areturn
          ∷ [])
          ∷ []);
      references =
          a_method "java/lang/Throwable" "toString" "()Ljava/lang/String;"
          ∷ a_method "java/lang/Throwable" "<init>" "(Ljava/lang/String;Ljava/lang/Throwable;)V"
          ∷ a_method "java/lang/Throwable" "getMessage" "()Ljava/lang/String;"
          ∷ a_method "java/lang/Throwable" "className0" "()Ljava/lang/String;"
          ∷ a_method "java/lang/Throwable" "getLocalizedMessage" "()Ljava/lang/String;"
          ∷ a_class "java/lang/StringBuilder"
          ∷ a_method "java/lang/StringBuilder" "<init>" "()V"
          ∷ a_method "java/lang/StringBuilder" "append" "(Ljava/lang/String;)Ljava/lang/StringBuilder;"
          ∷ a_text ": "
          ∷ a_method "java/lang/StringBuilder" "toString" "()Ljava/lang/String;"
          ∷ [];
    }

abbrev pub assertion_error_class : WrittenClass
assertion_error_class =
    record {
      major = 51;
      name = "java/lang/AssertionError";
      superclass = Some "java/lang/Error";
      interfaces = [];
      flags = 0x0021;
      fields = [];
      methods =
          two_constructors
          ++ (written "<init>" "(Ljava/lang/Object;)V" 3 2
          (aload_0 ∷ aload_1 ∷ invokestatic 0 ∷ aload_1 ∷ instanceof 1
          ∷ ifeq 10 ∷ aload_1 ∷ checkcast 1 ∷ goto 4 ∷ aconst_null ∷ invokespecial 2 ∷ return ∷ [])
          ∷ []);
      references =
          text_of_object
          ∷ a_class "java/lang/Throwable"
          ∷ a_method "java/lang/Error" "<init>" "(Ljava/lang/String;Ljava/lang/Throwable;)V"
          ∷ [];
    }

-- ---- the table

abbrev pub core_table : List WrittenClass
core_table =
    object_class
    ∷ interface "java/lang/Comparable" (abstract "compareTo" "(Ljava/lang/Object;)I" ∷ [])
    ∷ interface "java/lang/CharSequence" (abstract "length" "()I" ∷ abstract "charAt" "(I)C" ∷ [])
    ∷ interface "java/lang/Cloneable" []
    ∷ interface "java/lang/Runnable" (abstract "run" "()V" ∷ [])
    ∷ interface "java/lang/Iterable" (abstract "iterator" "()Ljava/util/Iterator;" ∷ [])
    ∷ interface "java/io/Serializable" []
    ∷ interface "java/util/Iterator" (abstract "hasNext" "()Z" ∷ abstract "next" "()Ljava/lang/Object;" ∷ abstract "remove" "()V" ∷ [])
    ∷ string_class
    ∷ string_builder_class
    ∷ class_class
    ∷ print_stream_class
    ∷ system_class
    ∷ number_class
    ∷ integer_class
    ∷ boolean_class
    ∷ math_class
    ∷ enum_class
    ∷ throwable_class
    ∷ general_throwable "java/lang/Exception" "java/lang/Throwable"
    ∷ general_throwable "java/lang/RuntimeException" "java/lang/Exception"
    ∷ general_throwable "java/lang/Error" "java/lang/Throwable"
    ∷ general_throwable "java/lang/IllegalArgumentException" "java/lang/RuntimeException"
    ∷ general_throwable "java/lang/IllegalStateException" "java/lang/RuntimeException"
    ∷ general_throwable "java/lang/UnsupportedOperationException" "java/lang/RuntimeException"
    ∷ plain_throwable "java/lang/ArithmeticException" "java/lang/RuntimeException"
    ∷ plain_throwable "java/lang/ArrayStoreException" "java/lang/RuntimeException"
    ∷ plain_throwable "java/lang/ClassCastException" "java/lang/RuntimeException"
    ∷ plain_throwable "java/lang/NegativeArraySizeException" "java/lang/RuntimeException"
    ∷ plain_throwable "java/lang/NullPointerException" "java/lang/RuntimeException"
    ∷ plain_throwable "java/lang/IndexOutOfBoundsException" "java/lang/RuntimeException"
    ∷ plain_throwable "java/lang/ArrayIndexOutOfBoundsException" "java/lang/IndexOutOfBoundsException"
    ∷ plain_throwable "java/lang/StringIndexOutOfBoundsException" "java/lang/IndexOutOfBoundsException"
    ∷ plain_throwable "java/lang/NumberFormatException" "java/lang/IllegalArgumentException"
    ∷ plain_throwable "java/util/NoSuchElementException" "java/lang/RuntimeException"
    ∷ plain_throwable "java/lang/LinkageError" "java/lang/Error"
    ∷ plain_throwable "java/lang/ExceptionInInitializerError" "java/lang/LinkageError"
    ∷ plain_throwable "java/lang/NoClassDefFoundError" "java/lang/LinkageError"
    ∷ plain_throwable "java/lang/IncompatibleClassChangeError" "java/lang/LinkageError"
    ∷ plain_throwable "java/lang/AbstractMethodError" "java/lang/IncompatibleClassChangeError"
    ∷ plain_throwable "java/lang/InstantiationError" "java/lang/IncompatibleClassChangeError"
    ∷ plain_throwable "java/lang/NoSuchFieldError" "java/lang/IncompatibleClassChangeError"
    ∷ plain_throwable "java/lang/VirtualMachineError" "java/lang/Error"
    ∷ plain_throwable "java/lang/StackOverflowError" "java/lang/VirtualMachineError"
    ∷ plain_throwable "java/lang/OutOfMemoryError" "java/lang/VirtualMachineError"
    ∷ assertion_error_class
    ∷ []
