-- The native methods of the core classes by their numbers: whether each is static, and its descriptor (the class library of Java SE 7).
use Rattle.std.specs.Prelude.{ℕ, Bool, false, true, List, None, Option, Some, [], bytes_eq, codes, slice_get, suc, zero, ◌&&◌, ◌∷◌}
use Prim.Native.String.{String}
use Rattle.vx_class.specs.Members.{STATIC}
use Rattle.vx_java.specs.Checks.{same_bool}
use Rattle.vx_link.specs.Parts.{has}
use Rattle.vx_link.specs.declared.program.LinkedMethod.{LinkedMethod}

pub record Form : Type 0 where
  pub static : Bool
  pub descriptor : List ℕ

-- a method of an object, and one of a class
abbrev pub of_object : String → Form
of_object descriptor = record { static = false; descriptor = codes descriptor }

abbrev pub of_class : String → Form
of_class descriptor = record { static = true; descriptor = codes descriptor }

-- those of the numbers from 1 on
abbrev pub forms : List Form
forms =
    of_object "()V" ∷ of_object "(Ljava/lang/Object;)Z"  -- 1, 2: Object
    ∷ of_object "()V" ∷ of_object "(Ljava/lang/String;)V" ∷ of_object "([C)V"  -- 3 to 5: String <init>
    ∷ of_object "()I" ∷ of_object "()Z" ∷ of_object "(I)C" ∷ of_object "()I" ∷ of_object "(Ljava/lang/Object;)Z"  -- 6 to 10: length to equals
    ∷ of_object "(Ljava/lang/String;)I" ∷ of_object "(Ljava/lang/String;)Ljava/lang/String;"  -- 11, 12: compareTo, concat
    ∷ of_object "(I)Ljava/lang/String;" ∷ of_object "(II)Ljava/lang/String;"  -- 13, 14: substring
    ∷ of_object "(I)I" ∷ of_object "(Ljava/lang/String;)I" ∷ of_object "(Ljava/lang/String;)Z" ∷ of_object "(Ljava/lang/String;)Z"  -- 15 to 18: indexOf to endsWith
    ∷ of_object "()[C" ∷ of_object "()Ljava/lang/String;"  -- 19, 20: toCharArray, toString
    ∷ of_class "(I)Ljava/lang/String;" ∷ of_class "(J)Ljava/lang/String;" ∷ of_class "(Z)Ljava/lang/String;" ∷ of_class "(C)Ljava/lang/String;" ∷ of_class "([C)Ljava/lang/String;"  -- 21 to 25: valueOf
    ∷ of_object "()V" ∷ of_object "(I)V" ∷ of_object "(Ljava/lang/String;)V"  -- 26 to 28: StringBuilder <init>
    ∷ of_object "(I)Ljava/lang/StringBuilder;" ∷ of_object "(J)Ljava/lang/StringBuilder;" ∷ of_object "(Z)Ljava/lang/StringBuilder;" ∷ of_object "(C)Ljava/lang/StringBuilder;" ∷ of_object "(Ljava/lang/String;)Ljava/lang/StringBuilder;"  -- 29 to 33: append
    ∷ of_object "()I" ∷ of_object "(I)C" ∷ of_object "(I)V" ∷ of_object "(I)Ljava/lang/StringBuilder;" ∷ of_object "()Ljava/lang/StringBuilder;" ∷ of_object "()Ljava/lang/String;"  -- 34 to 39: length to toString
    ∷ of_object "()Z"  -- 40: desiredAssertionStatus
    ∷ of_object "(Z)V" ∷ of_object "(C)V" ∷ of_object "(I)V" ∷ of_object "(J)V" ∷ of_object "(Ljava/lang/String;)V" ∷ of_object "([C)V"  -- 41 to 46: print
    ∷ of_object "(Z)V" ∷ of_object "(C)V" ∷ of_object "(I)V" ∷ of_object "(J)V" ∷ of_object "(Ljava/lang/String;)V" ∷ of_object "([C)V"  -- 47 to 52: println
    ∷ of_object "()V" ∷ of_object "()V"  -- 53, 54: println, flush
    ∷ of_class "(Ljava/lang/Object;ILjava/lang/Object;II)V" ∷ of_class "(I)V" ∷ of_class "()Ljava/lang/String;"  -- 55 to 57: System
    ∷ of_object "()V"  -- 58: Number
    ∷ of_class "(I)Ljava/lang/Integer;" ∷ of_class "(Ljava/lang/String;)I" ∷ of_class "(I)Ljava/lang/String;" ∷ of_class "(II)I"  -- 59 to 62: Integer, static
    ∷ of_object "()I" ∷ of_object "()J" ∷ of_object "()Ljava/lang/String;" ∷ of_object "(Ljava/lang/Object;)Z" ∷ of_object "()I" ∷ of_object "(Ljava/lang/Integer;)I"  -- 63 to 68: Integer
    ∷ of_class "(Z)Ljava/lang/Boolean;" ∷ of_object "()Z" ∷ of_object "()Ljava/lang/String;" ∷ of_object "(Ljava/lang/Object;)Z" ∷ of_object "(Ljava/lang/Boolean;)I"  -- 69 to 73: Boolean
    ∷ of_class "(I)I" ∷ of_class "(J)J" ∷ of_class "(II)I" ∷ of_class "(JJ)J" ∷ of_class "(II)I" ∷ of_class "(JJ)J"  -- 74 to 79: Math
    ∷ of_object "(Ljava/lang/String;I)V" ∷ of_object "()Ljava/lang/String;" ∷ of_object "()I" ∷ of_object "()Ljava/lang/String;" ∷ of_object "(Ljava/lang/Object;)Z" ∷ of_object "(Ljava/lang/Enum;)I"  -- 80 to 85: Enum
    ∷ of_object "()V" ∷ of_object "(Ljava/lang/String;)V" ∷ of_object "(Ljava/lang/String;Ljava/lang/Throwable;)V"  -- 86 to 88: Throwable <init>
    ∷ of_object "()Ljava/lang/String;" ∷ of_object "()Ljava/lang/Throwable;" ∷ of_object "()Ljava/lang/String;" ∷ of_object "(Ljava/lang/Throwable;)V"  -- 89 to 92: Throwable
    ∷ []

abbrev pub form_of : ℕ → Option Form
form_of zero = None
form_of (suc n) = slice_get forms n

-- a method that has no number has no form to keep to
abbrev pub is_form : Option Form → LinkedMethod → Bool
is_form None m = true
is_form (Some f) m = bytes_eq m.descriptor f.descriptor && same_bool f.static (has STATIC m.flags)

-- a method has the form of its number
abbrev pub has_form : LinkedMethod → Bool
has_form m = is_form (form_of m.native) m
