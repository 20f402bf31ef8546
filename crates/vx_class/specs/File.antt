-- A file holds a class: the bytes are its parts one after the other, and every check is met.
use Rattle.std.specs.Prelude.{◌≡◌, ℕ, ◌<◌, ◌≤◌, ◌^◌, List, [], ◌∷◌, ◌++◌, length, Bool, true, false, Option, Some, None, IsTrue, is_some, not, ◌==◌, ◌||◌}
use Rattle.std.specs.List.{list_any, AllByRecursion}
use Rattle.vx_pool.specs.declared.pool.Pool.{Pool}
use Rattle.vx_pool.specs.Spelling.{IsPool}
use Rattle.vx_desc.specs.Names.{is_field_name, is_method_name}
use Rattle.vx_desc.specs.Descriptors.{is_field_descriptor, is_method_descriptor}
use Rattle.vx_pool.specs.Lookups.{entry_of, class, text, class_text, is_array}
use Rattle.vx_pool.specs.Checks.{all_hold}
use Rattle.vx_pool.specs.Entries.{where_read, checks_of}
use Rattle.vx_pool.specs.Instructions.{AreInstructions, OperandHolds, JumpsHold}
use Rattle.vx_class.specs.declared.class_file.ClassFile.{ClassFile}
use Rattle.vx_class.specs.declared.class_file.Field.{Field}
use Rattle.vx_class.specs.declared.class_file.Method.{Method}
use Rattle.vx_class.specs.declared.class_file.Code.{Code}
use Rattle.vx_class.specs.Code.{catch_checks}
use Rattle.vx_class.specs.Members.{is_constant_for, is_same, takes_code, slots_of, is_lawful_initialiser}
use Rattle.vx_class.specs.Spelling.{Spells}

-- ---- code

-- the code of a method of so many argument slots
pub record CodeHolds (pool : Pool) (major slots : ℕ) (code : Code) : Type 0 where
  pub stack : code.max_stack < 256 ^ 2
  pub locals : code.max_locals < 256 ^ 2
  pub arguments : slots ≤ code.max_locals
  pub some : 0 < length code.bytes
  pub few : length code.bytes < 65536
  pub starts : List ℕ
  pub instructions : AreInstructions code.bytes 0 starts
  pub operands : AllByRecursion (OperandHolds pool major code.max_locals code.bytes) starts
  pub jumps : AllByRecursion (JumpsHold starts code.bytes) starts
  pub few_rows : length code.catches < 256 ^ 2
  pub rows : AllByRecursion (λ row. IsTrue (all_hold (catch_checks pool starts code.bytes row))) code.catches

-- a method has code exactly where it takes code
abbrev pub CodeIs : Pool → ℕ → ℕ → Bool → Option Code → Type 0
CodeIs pool major slots takes None = takes ≡ false
CodeIs pool major slots takes (Some code) = (takes ≡ true) × CodeHolds pool major slots code

-- ---- members

-- what holds of each item, where those before it are known
abbrev pub EachBehind : {A : Type 0} → (List A → A → Type 0) → List A → List A → Type 0
EachBehind P front [] = Unit {0}
EachBehind P front (x ∷ xs) = P front x × EachBehind P (front ++ x ∷ []) xs

-- a field that no field before it equals in name and descriptor
pub record FieldHolds (pool : Pool) (front : List Field) (f : Field) : Type 0 where
  pub name : List ℕ
  pub descriptor : List ℕ
  pub is_name : text pool f.name ≡ Some name
  pub is_descriptor : text pool f.descriptor ≡ Some descriptor
  pub flags : f.flags < 256 ^ 2
  pub lawful_name : IsTrue (is_field_name name)
  pub lawful_descriptor : IsTrue (is_field_descriptor descriptor)
  pub new : IsTrue (not (list_any (λ g. is_same pool g.name g.descriptor name descriptor) front))
  pub constant : IsTrue (f.constant == 0 || is_constant_for descriptor (entry_of pool f.constant))

-- a method that no method before it equals in name and descriptor
pub record MethodHolds (pool : Pool) (major : ℕ) (front : List Method) (m : Method) : Type 0 where
  pub name : List ℕ
  pub descriptor : List ℕ
  pub is_name : text pool m.name ≡ Some name
  pub is_descriptor : text pool m.descriptor ≡ Some descriptor
  pub flags : m.flags < 256 ^ 2
  pub lawful_name : IsTrue (is_method_name name)
  pub lawful_descriptor : IsTrue (is_method_descriptor descriptor)
  pub new : IsTrue (not (list_any (λ g. is_same pool g.name g.descriptor name descriptor) front))
  pub initialiser : IsTrue (is_lawful_initialiser name descriptor)
  pub code : CodeIs pool major (slots_of m.flags name descriptor) (takes_code m.flags name) m.code

-- ---- the class

abbrev pub IsInterfaceAt : Pool → ℕ → Type 0
IsInterfaceAt pool i = IsTrue (is_some (class (entry_of pool i)))

abbrev pub IsClassAt : Pool → ℕ → Type 0
IsClassAt pool i = IsTrue (is_some (class (entry_of pool i))) × IsTrue (where_read (λ name. not (is_array name)) (class_text pool i))

pub record Holds (c : ClassFile) : Type 0 where
  pub minor : c.minor < 256 ^ 2
  pub old : 45 ≤ c.major
  pub new : c.major ≤ 52
  pub pool : IsPool c.pool
  pub entries : AllByRecursion (λ e. IsTrue (all_hold (checks_of c.pool e))) c.pool.entries
  pub flags : c.flags < 256 ^ 2
  pub this_class : IsClassAt c.pool c.this_class
  pub super_class : IsClassAt c.pool c.super_class
  pub few_interfaces : length c.interfaces < 256 ^ 2
  pub interfaces : AllByRecursion (IsInterfaceAt c.pool) c.interfaces
  pub few_fields : length c.fields < 256 ^ 2
  pub fields : EachBehind (FieldHolds c.pool) [] c.fields
  pub few_methods : length c.methods < 256 ^ 2
  pub methods : EachBehind (MethodHolds c.pool c.major) [] c.methods

-- The bytes hold the class.
pub record File (bytes : List ℕ) (c : ClassFile) : Type 0 where
  pub spelled : Spells bytes c
  pub holds : Holds c
