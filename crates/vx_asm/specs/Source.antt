-- The class that a source names, or the least line at which a rule fails, with the least reason.
use Rattle.std.specs.Prelude.{◌≡◌, ℕ, ◌+◌, List, [], ◌∷◌, length, Bool, not, is_none, nat_lt, ◌==◌, ◌&&◌, Option, Some, None, Result, Ok, Err, if◌then◌else◌}
use Rattle.vx_class.specs.declared.class_file.ClassFile.{ClassFile}
use Rattle.vx_source.specs.Lines.{source_of}
use Rattle.vx_source_words.specs.Reading.{Read}
use Rattle.vx_source_words.specs.declared.fault.LineFault.{LineFault}
use Rattle.vx_source_words.specs.declared.fault.LineFault.TheVariants as line_fault
use Rattle.vx_source.specs.declared.lines.Said.{Said}
use Rattle.vx_source.specs.declared.lines.Said.TheVariants as said
use Rattle.vx_source.specs.declared.lines.SourceLine.{SourceLine}
use Rattle.vx_source.specs.declared.statement.Statement.{Statement}
use Rattle.vx_class_parts.specs.Constants.{places, pool_of}
use Rattle.vx_asm.specs.declared.fault.AsmFault.{AsmFault}
use Rattle.vx_asm.specs.declared.fault.AsmFault.TheVariants as fault
use Rattle.vx_asm.specs.declared.class_draft.Stage.TheVariants as stage
use Rattle.vx_asm.specs.declared.class_draft.Body.{Body}
use Rattle.vx_asm.specs.declared.class_draft.ClassDraft.{ClassDraft}
use Rattle.vx_asm.specs.Parts.{part_said, has_class}
use Rattle.vx_asm.specs.Bodies.{body_said}

-- a line, and the least reason for which it is refused
pub record Fault : Type 0 where
  pub line : ℕ
  pub reason : ℕ

abbrev pub onward : {A B : Type 0} → Result A Fault → (A → Result B Fault) → Result B Fault
onward (Ok x) f = f x
onward (Err e) f = Err e

-- ---- one line

-- a line outside of bodies, or in one
abbrev pub said_in : Option Body → ClassDraft → Statement → List SourceLine → Read ClassDraft
said_in None d s behind = part_said d s behind
said_in (Some b) d s behind = body_said d b s

-- The class with one line more, behind which others stand. A body is taken out of the class, and put back with the line.
unfoldable pub with_line : ClassDraft → Said → List SourceLine → Read ClassDraft
with_line d (said.Refused reason) behind = Err reason
with_line d (said.Statement s) behind = said_in d.body (record d { body = None }) s behind

-- ---- the whole class

-- the pool has at most 65,535 places, and so many interfaces, fields and methods can be counted
unfoldable pub is_small : ClassDraft → Bool
is_small d = nat_lt (places d.pool) 65536 && nat_lt (length d.interfaces) 65536 && nat_lt (length d.fields) 65536 && nat_lt (length d.methods) 65536

-- a class that is too large is refused at the last line, for a lesser reason than the rules of names
abbrev pub is_late : ℕ → ClassDraft → ℕ → Bool
is_late count d number = number == count && not (is_small d)

abbrev pub least : Bool → ℕ → ℕ
least late reason = if reason == 8 && late then 7 else reason

abbrev pub located : ℕ → Bool → Read ClassDraft → Result ClassDraft Fault
located number late (Ok d) = Ok d
located number late (Err reason) = Err (record { line = number; reason = least late reason })

-- the fault of a line, or want of memory
abbrev pub fault_at : LineFault → Bool → ℕ → AsmFault
fault_at line_fault.NoMemory late number = fault.NoMemory
fault_at (line_fault.Refused reason) late number = fault.Line number (least late reason)

-- all lines, of which the source has so many
unfoldable pub walk : ℕ → ClassDraft → List SourceLine → Result ClassDraft Fault
walk count d [] = Ok d
walk count d (line ∷ behind) = onward (located line.number (is_late count d line.number) (with_line d line.said behind)) (λ e. walk count e behind)

-- before the first line: version 51, and no class
abbrev pub nothing : ClassDraft
nothing = record {
  stage = stage.Start;
  major = 51;
  flags = 0;
  this_class = 0;
  super_class = 0;
  pool = [];
  interfaces = [];
  fields = [];
  field_signatures = [];
  methods = [];
  method_signatures = [];
  body = None;
}

abbrev pub file_of : ClassDraft → ClassFile
file_of d = record {
  minor = 0;
  major = d.major;
  pool = pool_of d.pool;
  flags = d.flags;
  this_class = d.this_class;
  super_class = d.super_class;
  interfaces = d.interfaces;
  fields = d.fields;
  methods = d.methods;
}

-- there is a class, and each body has its end
abbrev pub is_whole : ClassDraft → Bool
is_whole d = has_class d.stage && is_none d.body

-- a part that is missing is missed behind the last line
unfoldable pub finished : ℕ → ClassDraft → Result ClassFile Fault
finished count d =
    if not (is_small d) then Err (record { line = count; reason = 7 })
    else if not (is_whole d) then Err (record { line = count + 1; reason = 5 })
    else Ok (file_of d)

abbrev pub named : List ℕ → Result ClassFile Fault
named bytes =
    let source = source_of bytes in
    onward (walk source.count nothing source.lines) (finished source.count)

-- ---- what a call answers

-- a fault of the source is that of the definition; want of memory may come at any time
abbrev pub Refuses : {A : Type 0} → AsmFault → Result A Fault → Type 0
Refuses fault.NoMemory named = Unit {0}
Refuses (fault.Line line reason) named = named ≡ Err (record { line = line; reason = reason })

abbrev pub Answers : {A : Type 0} → Result A AsmFault → Result A Fault → Type 0
Answers (Ok x) named = named ≡ Ok x
Answers (Err e) named = Refuses e named
