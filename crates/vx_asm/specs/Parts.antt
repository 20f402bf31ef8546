-- The lines that begin a part of the class, in the order in which they may follow one another.
use Rattle.std.specs.Prelude.{ℕ, List, [], ◌∷◌, ◌++◌, Bool, true, false, not, ◌&&◌, Option, Some, None, Ok, Err, codes}
use Rattle.std.specs.Option.{option_map}
use Rattle.vx_class.specs.declared.class_file.Field.{Field}
use Rattle.vx_class.specs.declared.class_file.Method.{Method}
use Rattle.vx_class.specs.Members.{is_lawful_initialiser}
use Rattle.vx_source_words.specs.Reading.{Read, check}
use Rattle.vx_source.specs.declared.lines.SourceLine.{SourceLine}
use Rattle.vx_source.specs.declared.statement.Statement.{Statement}
use Rattle.vx_source.specs.declared.statement.Statement.TheVariants as statement
use Rattle.vx_source.specs.declared.statement.ClassLine.{ClassLine}
use Rattle.vx_source.specs.declared.statement.FieldLine.{FieldLine}
use Rattle.vx_source.specs.declared.statement.MethodLine.{MethodLine}
use Rattle.vx_source.specs.declared.statement.Room.{Room}
use Rattle.vx_source.specs.declared.statement.Value.{Value}
use Rattle.vx_source.specs.declared.statement.Value.TheVariants as value
use Rattle.vx_code_parts.specs.Bodies.{labels_of}
use Rattle.vx_class_parts.specs.Constants.{with_text, with_class, with_constant, in_file, in_file_or_zero}
use Rattle.vx_code_parts.specs.Instructions.{is_of_version}
use Rattle.vx_class_parts.specs.Rules.{is_lawful_class, is_plain_class, is_lawful_field, is_lawful_method, may_have_value, is_lawful_code}
use Rattle.vx_class_parts.specs.declared.constants.Constant.{Constant}
use Rattle.vx_class_parts.specs.declared.constants.Constant.TheVariants as constant
use Rattle.vx_asm.specs.Signatures.{is_taken}
use Rattle.vx_asm.specs.declared.class_draft.Stage.{Stage}
use Rattle.vx_asm.specs.declared.class_draft.Stage.TheVariants as stage
use Rattle.vx_asm.specs.declared.signature_table.Signature.{Signature}
use Rattle.vx_asm.specs.declared.class_draft.Body.{Body}
use Rattle.vx_asm.specs.declared.class_draft.ClassDraft.{ClassDraft}

-- ---- the order of parts

abbrev pub may_have_version : Stage → Bool
may_have_version stage.Start = true
may_have_version _ = false

abbrev pub may_have_class : Stage → Bool
may_have_class stage.Start = true
may_have_class stage.Version = true
may_have_class _ = false

abbrev pub may_have_interface : Stage → Bool
may_have_interface stage.Class = true
may_have_interface _ = false

abbrev pub may_have_field : Stage → Bool
may_have_field stage.Class = true
may_have_field stage.Fields = true
may_have_field _ = false

abbrev pub has_class : Stage → Bool
has_class stage.Start = false
has_class stage.Version = false
has_class _ = true

-- ---- the version and the class

unfoldable pub version_said : ClassDraft → ℕ → Read ClassDraft
version_said d major =
    check (may_have_version d.stage) 5
    (Ok (record d { stage = stage.Version; major = major }))

-- the pool with the class and its superclass
abbrev pub with_names : List Constant → ClassLine → List Constant
with_names pool line = with_class (with_class pool line.name) line.super_class

unfoldable pub with_class_line : ClassDraft → ClassLine → ClassDraft
with_class_line d line =
    let pool = with_names d.pool line in
    record d {
      stage = stage.Class;
      flags = line.flags;
      pool = pool;
      this_class = in_file pool (constant.Class line.name);
      super_class = in_file pool (constant.Class line.super_class);
    }

unfoldable pub class_said : ClassDraft → ClassLine → Read ClassDraft
class_said d line =
    check (may_have_class d.stage) 5
    (check (is_plain_class line.name && is_plain_class line.super_class) 8
    (Ok (with_class_line d line)))

unfoldable pub with_interface : ClassDraft → List ℕ → ClassDraft
with_interface d name =
    let pool = with_class d.pool name in
    record d { pool = pool; interfaces = d.interfaces ++ in_file pool (constant.Class name) ∷ [] }

unfoldable pub implements_said : ClassDraft → List ℕ → Read ClassDraft
implements_said d name =
    check (may_have_interface d.stage) 5
    (check (is_lawful_class name) 8
    (Ok (with_interface d name)))

-- ---- members

-- the pool with the name and the descriptor of a member
abbrev pub with_signature : List Constant → List ℕ → List ℕ → List Constant
with_signature pool name descriptor = with_text (with_text pool name) descriptor

-- ---- fields

abbrev pub is_text_value : Value → Bool
is_text_value (value.Text None) = false
is_text_value _ = true

abbrev pub constant_of_value : Value → Option Constant
constant_of_value (value.Int n) = Some (constant.Integer n)
constant_of_value (value.Long n) = Some (constant.Long n)
constant_of_value (value.Text (Some text)) = Some (constant.Literal text)
constant_of_value _ = None

-- the name of the attribute, then the value
abbrev pub with_value : List Constant → Option Constant → List Constant
with_value pool None = pool
with_value pool (Some c) = with_constant (with_text pool (codes "ConstantValue")) c

abbrev pub field_of : List Constant → Option Constant → FieldLine → Field
field_of pool given line = record {
  flags = line.flags;
  name = in_file pool (constant.Text line.name);
  descriptor = in_file pool (constant.Text line.descriptor);
  constant = in_file_or_zero pool given;
}

-- the pool with all that a field needs
abbrev pub pool_of_field : List Constant → FieldLine → List Constant
pool_of_field pool line = with_value (with_signature pool line.name line.descriptor) (constant_of_value line.value)

unfoldable pub with_field : ClassDraft → FieldLine → ClassDraft
with_field d line =
    let pool = pool_of_field d.pool line in
    record d {
      stage = stage.Fields;
      pool = pool;
      fields = d.fields ++ field_of pool (constant_of_value line.value) line ∷ [];
      field_signatures = d.field_signatures ++ record { name = line.name; descriptor = line.descriptor } ∷ [];
    }

unfoldable pub is_lawful_field_line : ClassDraft → FieldLine → Bool
is_lawful_field_line d line =
    is_lawful_field line.name line.descriptor && may_have_value d.flags line.flags line.descriptor line.value
    && not (is_taken d.field_signatures line.name line.descriptor)

unfoldable pub field_said : ClassDraft → FieldLine → Read ClassDraft
field_said d line =
    check (may_have_field d.stage) 5
    (check (is_text_value line.value) 6
    (check (is_lawful_field_line d line) 8
    (Ok (with_field d line))))

-- ---- methods

abbrev pub locals_of : Option Room → Option ℕ
locals_of room = option_map (λ r. r.max_locals) room

unfoldable pub is_lawful_method_line : ClassDraft → MethodLine → Bool
is_lawful_method_line d line =
    is_lawful_method line.name line.descriptor && is_lawful_initialiser line.name line.descriptor
    && is_lawful_code line.flags line.name line.descriptor (locals_of line.room)
    && not (is_taken d.method_signatures line.name line.descriptor)

abbrev pub with_own : List Signature → MethodLine → List Signature
with_own signatures line = signatures ++ record { name = line.name; descriptor = line.descriptor } ∷ []

-- a method without code
abbrev pub bare_method : List Constant → MethodLine → Method
bare_method pool line = record {
  flags = line.flags;
  name = in_file pool (constant.Text line.name);
  descriptor = in_file pool (constant.Text line.descriptor);
  code = None;
}

unfoldable pub with_bare_method : ClassDraft → MethodLine → ClassDraft
with_bare_method d line =
    let pool = with_signature d.pool line.name line.descriptor in
    record d {
      stage = stage.Methods;
      pool = pool;
      methods = d.methods ++ bare_method pool line ∷ [];
      method_signatures = with_own d.method_signatures line;
    }

-- a method whose body the lines behind it begin
abbrev pub body_of : List Constant → MethodLine → Room → List SourceLine → Body
body_of pool line room behind = record {
  flags = line.flags;
  name = in_file pool (constant.Text line.name);
  descriptor = in_file pool (constant.Text line.descriptor);
  max_stack = room.max_stack;
  max_locals = room.max_locals;
  labels = labels_of behind;
  passed = 0;
  drafts = [];
  rows = [];
  is_near = true;
}

-- the pool with all that a method with code needs
abbrev pub pool_of_body : List Constant → MethodLine → List Constant
pool_of_body pool line = with_text (with_signature pool line.name line.descriptor) (codes "Code")

unfoldable pub with_body : ClassDraft → MethodLine → Room → List SourceLine → ClassDraft
with_body d line room behind =
    let pool = pool_of_body d.pool line in
    record d {
      stage = stage.Methods;
      pool = pool;
      method_signatures = with_own d.method_signatures line;
      body = Some (body_of pool line room behind);
    }

abbrev pub with_room : ClassDraft → MethodLine → Option Room → List SourceLine → ClassDraft
with_room d line None behind = with_bare_method d line
with_room d line (Some room) behind = with_body d line room behind

unfoldable pub method_said : ClassDraft → MethodLine → List SourceLine → Read ClassDraft
method_said d line behind =
    check (has_class d.stage) 5
    (check (is_lawful_method_line d line) 8
    (Ok (with_room d line line.room behind)))

-- ---- a line outside of bodies

-- what belongs into a body stands in none; of an instruction the words are judged before
unfoldable pub part_said : ClassDraft → Statement → List SourceLine → Read ClassDraft
part_said d (statement.Version major) behind = version_said d major
part_said d (statement.Class line) behind = class_said d line
part_said d (statement.Implements name) behind = implements_said d name
part_said d (statement.Field line) behind = field_said d line
part_said d (statement.Method line) behind = method_said d line behind
part_said d (statement.Instruction i) behind = check (is_of_version d.major i.operand) 2 (Err 5)
part_said d _ behind = Err 5
