-- What a program keeps to, so that numbers of 32 bits name its parts: the bounds of class files (JVMS 4.3.3, 4.4.7, 4.7.3, 4.11) over a whole program.
use Rattle.std.specs.Prelude.{◌≡◌, ◌<◌, ◌≤◌, ◌+◌, ◌||◌, ℕ, Bool, true, if◌then◌else◌, is_none, length, nat_le, nat_lt, sum_by, Option, Some, None}
use Rattle.std.specs.List.{list_all}
use Rattle.vx_class.specs.Members.{STATIC}
use Rattle.vx_class.specs.declared.class_file.Code.{Code}
use Rattle.vx_desc.specs.Descriptors.{slots_of}
use Rattle.vx_java.specs.Ids.{HasClassNumbers}
use Rattle.vx_java.specs.Initialisation.{max_locals}
use Rattle.vx_java.specs.NativeForms.{has_form}
use Rattle.vx_link.specs.CoreFiles.{core_count}
use Rattle.vx_link.specs.Parts.{has, method_at}
use Rattle.vx_link.specs.Signature.{signature}
use Rattle.vx_link.specs.declared.program.LinkedClass.{LinkedClass}
use Rattle.vx_link.specs.declared.program.LinkedMethod.{LinkedMethod}
use Rattle.vx_link.specs.declared.program.Program.{Program}
use Rattle.vx_pool.specs.declared.pool.Entry.{Entry}
use Rattle.vx_pool.specs.declared.pool.Entry.TheVariants.{Utf8}

-- a count that two bytes hold
abbrev pub is_short : ℕ → Bool
is_short n = nat_lt n 65536

-- the code of a method
abbrev pub has_short_code : Option Code → Bool
has_short_code None = true
has_short_code (Some code) = is_short (length code.bytes)

-- a text of a pool
abbrev pub is_short_entry : Entry → Bool
is_short_entry (Utf8 bytes) = is_short (length bytes)
is_short_entry _ = true

abbrev pub has_short_texts : LinkedClass → Bool
has_short_texts c = list_all is_short_entry c.pool.entries

-- the local variables that the arguments of a method take: two for a long or a double, and one for the receiver of a method that isn't static (JVMS 2.6.1)
abbrev pub argument_words : LinkedMethod → ℕ
argument_words m = sum_by slots_of (signature m.descriptor).arguments + (if has STATIC m.flags then 0 else 1)

-- where it has code, that has local variables for them
abbrev pub has_argument_room : LinkedMethod → Bool
has_argument_room m = is_none m.code || nat_le (argument_words m) (max_locals m.code)

-- the core classes are among its classes, main has a local variable for its argument, and each native method the form of its number
pub record IsBounded (p : Program) : Type 0 where
  pub classes : HasClassNumbers p
  pub core : core_count ≤ length p.classes
  pub texts : list_all has_short_texts p.classes ≡ true
  pub codes : list_all (λ m. has_short_code m.code) p.methods ≡ true
  pub arguments : list_all has_argument_room p.methods ≡ true
  pub natives : list_all has_form p.methods ≡ true
  pub signatures : list_all (λ m. is_short (length m.descriptor)) p.methods ≡ true
  pub main : 0 < max_locals (method_at p p.main.0).code
  pub types : list_all (λ f. is_short (length f.descriptor)) p.fields ≡ true
