-- The bytes of a class file: its parts one after the other, with any skipped attributes between.
use Rattle.std.specs.Prelude.{◌≡◌, ℕ, zero, suc, ◌^◌, ◌<◌, List, [], ◌∷◌, ◌++◌, length, filter, is_some, Bool, true, Option, Some, None, ◌&&◌, ◌||◌, codes}
use Rattle.std.specs.List.{flat_map, AllByRecursion}
use Rattle.byteorder.specs.Endian.{big_bytes}
use Rattle.vx_pool.specs.declared.pool.Pool.{Pool}
use Rattle.vx_pool.specs.Spelling.{pool_bytes}
use Rattle.vx_class.specs.declared.class_file.ClassFile.{ClassFile}
use Rattle.vx_class.specs.declared.class_file.Field.{Field}
use Rattle.vx_class.specs.declared.class_file.Method.{Method}
use Rattle.vx_class.specs.declared.class_file.Code.{Code}
use Rattle.vx_class.specs.declared.class_file.Catch.{Catch}
use Rattle.vx_pool.specs.Lookups.{text}
use Rattle.vx_class.specs.Members.{has, INTERFACE, STATIC, is_text_of}

abbrev pub u2 : ℕ → List ℕ
u2 n = big_bytes 2 n

abbrev pub u4 : ℕ → List ℕ
u4 n = big_bytes 4 n

-- ---- attributes

pub record Attribute : Type 0 where
  pub name : ℕ
  pub content : List ℕ

abbrev pub attribute_bytes : Attribute → List ℕ
attribute_bytes a = u2 a.name ++ (u4 (length a.content) ++ a.content)

abbrev pub attributes_bytes : List Attribute → List ℕ
attributes_bytes attributes = u2 (length attributes) ++ flat_map attribute_bytes attributes

-- an attribute of a file: its name is a text, and its length has four bytes
abbrev pub IsAttribute : Pool → Attribute → Type 0
IsAttribute pool a = (is_some (text pool a.name) ≡ true) × (length a.content < 256 ^ 4)

pub record AreAttributes (pool : Pool) (attributes : List Attribute) : Type 0 where
  pub few : length attributes < 256 ^ 2
  pub each : AllByRecursion (IsAttribute pool) attributes

-- what the one attribute of a kind says; Holds says what its content means
abbrev pub One : {B : Type 0} → (B → List ℕ → Type 0) → List Attribute → Option B → Type 0
One Holds [] None = Unit {0}
One Holds (a ∷ []) (Some b) = Holds b a.content
One Holds _ _ = ⊥

abbrev pub IsOneAmong : {B : Type 0} → (Attribute → Bool) → (B → List ℕ → Type 0) → List Attribute → Option B → Type 0
IsOneAmong mine Holds attributes found = One Holds (filter mine attributes) found

-- ---- code

abbrev pub catch_bytes : Catch → List ℕ
catch_bytes row = u2 row.start ++ (u2 row.end ++ (u2 row.handler ++ u2 row.class))

-- the content of a code attribute, with skipped attributes
abbrev pub code_bytes : Code → List Attribute → List ℕ
code_bytes code skipped =
    u2 code.max_stack ++ (u2 code.max_locals ++ (u4 (length code.bytes) ++ (code.bytes
    ++ ((u2 (length code.catches) ++ flat_map catch_bytes code.catches) ++ attributes_bytes skipped))))

-- ---- members

abbrev pub member_bytes : ℕ → ℕ → ℕ → List Attribute → List ℕ
member_bytes flags name descriptor attributes = u2 flags ++ (u2 name ++ (u2 descriptor ++ attributes_bytes attributes))

-- the constant of a static field
abbrev pub is_constant : Pool → Bool → Attribute → Bool
is_constant pool static a = static && is_text_of pool a.name (codes "ConstantValue")

abbrev pub IsConstant : ℕ → List ℕ → Type 0
IsConstant constant content = content ≡ u2 constant

-- the code of a method
abbrev pub is_code : Pool → Attribute → Bool
is_code pool a = is_text_of pool a.name (codes "Code")

abbrev pub IsCode : Pool → Code → List ℕ → Type 0
IsCode pool code content = (skipped : List Attribute) × AreAttributes pool skipped × (content ≡ code_bytes code skipped)

-- 0 stands for no constant
abbrev pub constant_of : ℕ → Option ℕ
constant_of zero = None
constant_of (suc n) = Some (suc n)

abbrev pub FieldSpells : Pool → Bool → Field → List ℕ → Type 0
FieldSpells pool interface f bytes =
    (attributes : List Attribute)
    × (bytes ≡ member_bytes f.flags f.name f.descriptor attributes)
    × AreAttributes pool attributes
    × IsOneAmong (is_constant pool (interface || has f.flags STATIC)) IsConstant attributes (constant_of f.constant)

abbrev pub MethodSpells : Pool → Method → List ℕ → Type 0
MethodSpells pool m bytes =
    (attributes : List Attribute)
    × (bytes ≡ member_bytes m.flags m.name m.descriptor attributes)
    × AreAttributes pool attributes
    × IsOneAmong (is_code pool) (IsCode pool) attributes m.code

-- items one after the other
abbrev pub AllSpell : {A : Type 0} → (A → List ℕ → Type 0) → List A → List ℕ → Type 0
AllSpell Spells [] bytes = bytes ≡ []
AllSpell Spells (x ∷ xs) bytes = (first : List ℕ) × (others : List ℕ) × (bytes ≡ first ++ others) × Spells x first × AllSpell Spells xs others

-- ---- the class

abbrev pub MAGIC : ℕ
MAGIC = 0xCAFEBABE

-- the bytes of a class are its parts of the Java Virtual Machine Specification, chapter 4
pub record Spells (bytes : List ℕ) (c : ClassFile) : Type 0 where
  pub fields : List ℕ
  pub methods : List ℕ
  pub skipped : List Attribute
  pub are_skipped : AreAttributes c.pool skipped
  pub are_fields : AllSpell (FieldSpells c.pool (has c.flags INTERFACE)) c.fields fields
  pub are_methods : AllSpell (MethodSpells c.pool) c.methods methods
  pub parts : bytes ≡
      ((u4 MAGIC ++ (u2 c.minor ++ u2 c.major)) ++ (pool_bytes c.pool ++ (u2 c.flags ++ (u2 c.this_class ++ u2 c.super_class))))
      ++ ((u2 (length c.interfaces) ++ flat_map u2 c.interfaces)
      ++ ((u2 (length c.fields) ++ fields)
      ++ ((u2 (length c.methods) ++ methods)
      ++ attributes_bytes skipped)))
