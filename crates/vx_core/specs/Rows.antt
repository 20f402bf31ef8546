-- The class file that a row of the table writes down (JVMS 4). Indices are of two bytes; a larger one would lose its upper bits.
use Rattle.std.specs.Prelude.{List, None, Option, Some, [], flat_map, fold, length, map, take, ℕ, ◌%◌, ◌*◌, ◌++◌, ◌+◌, ◌∷◌}
use Rattle.std.specs.Borrow.{Bor}
use Rattle.vx_class.specs.declared.class_file.ClassFile.{ClassFile}
use Rattle.vx_class.specs.declared.class_file.Code.{Code}
use Rattle.vx_class.specs.declared.class_file.Field.{Field}
use Rattle.vx_class.specs.declared.class_file.Method.{Method}
use Rattle.vx_core.specs.declared.row.ClassRow.{ClassRow}
use Rattle.vx_core.specs.declared.row.FieldRow.{FieldRow}
use Rattle.vx_core.specs.declared.row.How.{How}
use Rattle.vx_core.specs.declared.row.How.TheVariants.{Body, Native, Nothing}
use Rattle.vx_core.specs.declared.row.Instruction.{Instruction}
use Rattle.vx_core.specs.declared.row.Instruction.TheVariants.{Jump, Ldc, Naming, Plain}
use Rattle.vx_core.specs.declared.row.MethodRow.{MethodRow}
use Rattle.vx_core.specs.declared.row.Reference.{Reference}
use Rattle.vx_core.specs.declared.row.Reference.TheVariants as Named
use Rattle.vx_link.specs.Written.{super_index, two_bytes}
use Rattle.vx_pool.specs.declared.pool.Entry.{Entry}
use Rattle.vx_pool.specs.declared.pool.Entry.TheVariants as Entries

-- the lowest two bytes of a number
abbrev pub low : ℕ → ℕ
low n = n % 65536

-- the index of a part, where the parts begin at an index, each is of so many entries, and so many parts stand before
abbrev pub part_index : (start size before : ℕ) → ℕ
part_index start size before = low (start + size * low before)

-- ---- the pool: each part stands behind what is there

-- the index so many places behind the last entry
abbrev pub index_ahead : List Entry → ℕ → ℕ
index_ahead pool ahead = low (low (length pool) + ahead)

unfoldable pub with_text : List Entry → List ℕ → List Entry
with_text pool text = pool ++ Entries.Utf8 (take 65535 text) ∷ []

-- a class, with its name right behind it
unfoldable pub with_class : List Entry → List ℕ → List Entry
with_class pool name = with_text (pool ++ Entries.Class (index_ahead pool 1) ∷ []) name

unfoldable pub with_unusable : List Entry → List Entry
with_unusable pool = pool ++ Entries.Unusable ∷ Entries.Unusable ∷ []

unfoldable pub with_super : List Entry → Option (Bor (List ℕ)) → List Entry
with_super pool None = with_unusable pool
with_super pool (Some name) = with_class pool name.now

unfoldable pub with_member : List Entry → (name descriptor : List ℕ) → List Entry
with_member pool name descriptor = with_text (with_text pool name) descriptor

unfoldable pub with_field : List Entry → FieldRow → List Entry
with_field pool f = with_member pool f.name.now f.descriptor.now

unfoldable pub with_method : List Entry → MethodRow → List Entry
with_method pool m = with_member pool m.name.now m.descriptor.now

-- a name and type, with both right behind it
unfoldable pub with_typed : List Entry → (name descriptor : List ℕ) → List Entry
with_typed pool name descriptor =
    with_member (pool ++ Entries.NameAndType (index_ahead pool 1) (index_ahead pool 2) ∷ []) name descriptor

-- a reference, in six entries
unfoldable pub with_reference : List Entry → Reference → List Entry
with_reference pool (Named.Class name) = with_unusable (with_unusable (with_class pool name.now))
with_reference pool (Named.Text text) =
    with_unusable (with_unusable (with_text (pool ++ Entries.Text (index_ahead pool 1) ∷ []) text.now))
with_reference pool (Named.Method class name descriptor) =
    with_typed
    (with_class (pool ++ Entries.Method (index_ahead pool 1) (index_ahead pool 3) ∷ []) class.now)
    name.now
    descriptor.now

-- the class, its superclass and its interfaces
unfoldable pub head_pool : ClassRow → List Entry
head_pool c =
    fold
    (λ pool name. with_class pool name.now)
    (with_super (with_class (Entries.Unusable ∷ []) c.name.now) c.superclass)
    c.interfaces.now

unfoldable pub field_pool : ClassRow → List Entry
field_pool c = fold with_field (head_pool c) c.fields.now

unfoldable pub method_pool : ClassRow → List Entry
method_pool c = fold with_method (field_pool c) c.methods.now

unfoldable pub row_pool : ClassRow → List Entry
row_pool c = fold with_reference (method_pool c) c.references.now

-- ---- bodies

unfoldable pub instruction_bytes : ℕ → Instruction → List ℕ
instruction_bytes start (Plain opcode) = opcode ∷ []
instruction_bytes start (Jump opcode distance) = opcode ∷ two_bytes distance
instruction_bytes start (Naming opcode reference) = opcode ∷ two_bytes (part_index start 6 reference)
instruction_bytes start (Ldc reference) = 0x12 ∷ (part_index start 6 reference % 256) ∷ []

unfoldable pub row_code : ℕ → How → Option Code
row_code start (Native n) = None
row_code start Nothing = None
row_code start (Body max_stack max_locals instructions) =
    Some
    (record {
      max_stack = max_stack;
      max_locals = max_locals;
      bytes = flat_map (instruction_bytes start) instructions.now;
      catches = [];
    })

-- ---- the class file

-- the indices of the interfaces, with one more
unfoldable pub with_interface : List ℕ → List ℕ
with_interface indices = indices ++ part_index 5 2 (length indices) ∷ []

unfoldable pub with_field_file : ℕ → List Field → FieldRow → List Field
with_field_file start files f =
    let at = part_index start 2 (length files) in
    files ++ record { flags = f.flags; name = at; descriptor = low (at + 1); constant = 0 } ∷ []

unfoldable pub with_method_file : (start references : ℕ) → List Method → MethodRow → List Method
with_method_file start references files m =
    let at = part_index start 2 (length files) in
    files ++ record { flags = m.flags; name = at; descriptor = low (at + 1); code = row_code references m.how } ∷ []

unfoldable pub row_file : ClassRow → ClassFile
row_file c =
    record {
      minor = 0;
      major = 51;
      pool = record { entries = row_pool c };
      flags = c.flags;
      this_class = 1;
      super_class = super_index c.superclass;
      interfaces = fold (λ before _. with_interface before) [] c.interfaces.now;
      fields = fold (with_field_file (low (length (head_pool c)))) [] c.fields.now;
      methods = fold (with_method_file (low (length (field_pool c))) (low (length (method_pool c)))) [] c.methods.now;
    }

-- ---- the numbers of native methods, and 0 for another

unfoldable pub row_number : How → ℕ
row_number (Native n) = n
row_number _ = 0

unfoldable pub row_numbers : ClassRow → List ℕ
row_numbers c = map (λ m. row_number m.how) c.methods.now
