-- What the entries of a constant pool name (JVMS 4.4), where a reader has seen to it that each index names an entry of the right kind.
use Rattle.std.specs.Prelude.{Bool, List, Option, Some, [], false, true, unwrap_or, ℕ}
use Rattle.vx_pool.specs.Lookups.{class_text, entry_of, member_descriptor, member_name, text}
use Rattle.vx_pool.specs.declared.pool.Entry.{Entry}
use Rattle.vx_pool.specs.declared.pool.Entry.TheVariants.{Field, InterfaceMethod, Method}
use Rattle.vx_pool.specs.declared.pool.Pool.{Pool}

-- the bytes of a Utf8 entry
abbrev pub utf8 : Pool → ℕ → List ℕ
utf8 pool i = unwrap_or (text pool i) []

-- the name of a Class entry
abbrev pub class_name : Pool → ℕ → List ℕ
class_name pool i = unwrap_or (class_text pool i) []

-- a member as a Fieldref, a Methodref or an InterfaceMethodref names it, and whether by an InterfaceMethodref
pub record Member : Type 0 where
  pub class : List ℕ
  pub name : List ℕ
  pub descriptor : List ℕ
  pub by_interface : Bool

abbrev pub member_of : Pool → (class typed : ℕ) → (by_interface : Bool) → Member
member_of pool class typed by_interface =
    record {
      class = class_name pool class;
      name = unwrap_or (member_name pool typed) [];
      descriptor = unwrap_or (member_descriptor pool typed) [];
      by_interface = by_interface;
    }

abbrev pub member_named : Pool → Option Entry → Member
member_named pool (Some (Field class typed)) = member_of pool class typed false
member_named pool (Some (Method class typed)) = member_of pool class typed false
member_named pool (Some (InterfaceMethod class typed)) = member_of pool class typed true
member_named pool _ = member_of pool 0 0 false

abbrev pub member : Pool → ℕ → Member
member pool i = member_named pool (entry_of pool i)
