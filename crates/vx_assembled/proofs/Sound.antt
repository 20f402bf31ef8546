-- What is known of a class while the lines of its source are read, over the pool that it has at the end.
use Rattle.std.proofs.Common.{◌≡◌, ℕ, ◌<◌, ◌≤◌, List, [], ◌∷◌, ◌++◌, length, Bool, true, false, Option, Some, None, codes}
use Rattle.std.specs.List.{AllByRecursion, AllZip}
use Rattle.vx_class.specs.declared.class_file.Field.{Field}
use Rattle.vx_class.specs.declared.class_file.Method.{Method}
use Rattle.vx_class.specs.File.{EachBehind, FieldHolds, MethodHolds, IsInterfaceAt, IsClassAt}
use Rattle.vx_class.specs.Members.{has, INTERFACE, takes_code, slots_of, is_lawful_initialiser}
use Rattle.vx_pool.specs.Lookups.{text}
use Rattle.vx_writer.specs.Written.{HasName, IsNamedField, IsNamedMethod}
use Rattle.vx_source.specs.declared.lines.SourceLine.{SourceLine}
use Rattle.vx_class_parts.specs.Constants.{pool_of}
use Rattle.vx_class_parts.specs.Rules.{is_lawful_method}
use Rattle.vx_class_parts.specs.declared.constants.Constant.{Constant}
use Rattle.vx_code_parts.specs.Bodies.{labels_from}
use Rattle.vx_code_parts.specs.declared.label_table.Label.{Label}
use Rattle.vx_asm.specs.Parts.{has_class}
use Rattle.vx_asm.specs.Signatures.{is_taken}
use Rattle.vx_asm.specs.declared.class_draft.Body.{Body}
use Rattle.vx_asm.specs.declared.class_draft.ClassDraft.{ClassDraft}
use Rattle.vx_asm.specs.declared.class_draft.Covered.{Covered}
use Rattle.vx_asm.specs.declared.signature_table.Signature.{Signature}
use Rattle.vx_assembled.proofs.Drafts.{IsDraft}
use Rattle.vx_assembled.proofs.Entries.{IsGood, IsClassName}
use Rattle.vx_assembled.proofs.Members.{IsSigned}
use Rattle.vx_assembled.proofs.Pools.{IsGrown}
use Rattle.vx_assembled.proofs.Sayings.{IsWord}

-- a class is named, or nothing but a version was read
abbrev pub Begun : List Constant → ClassDraft → Bool → Type 0
Begun all d true = IsClassAt (pool_of all) d.this_class × IsClassAt (pool_of all) d.super_class
Begun all d false = (d.interfaces ≡ []) × (d.fields ≡ []) × (d.methods ≡ [])

abbrev pub IsSignedField : List Constant → Field → Signature → Type 0
IsSignedField all f s = IsSigned (pool_of all) f.name f.descriptor s

abbrev pub IsSignedMethod : List Constant → Method → Signature → Type 0
IsSignedMethod all m s = IsSigned (pool_of all) m.name m.descriptor s

-- what does not depend on whether a body is read
pub record Sound (all : List Constant) (d : ClassDraft) : Type 0 where
  pub old : 45 ≤ d.major
  pub new : d.major ≤ 52
  pub flags : d.flags < 65536
  pub pool : AllByRecursion (IsGood all) d.pool
  pub begun : Begun all d (has_class d.stage)
  pub interfaces : AllByRecursion (IsInterfaceAt (pool_of all)) d.interfaces
  pub fields : EachBehind (FieldHolds (pool_of all)) [] d.fields
  pub named_fields : AllByRecursion (IsNamedField (pool_of all) (has d.flags INTERFACE)) d.fields
  pub field_names : AllZip (IsSignedField all) d.fields d.field_signatures
  pub methods : EachBehind (MethodHolds (pool_of all) d.major) [] d.methods
  pub named_methods : AllByRecursion (IsNamedMethod (pool_of all)) d.methods

-- the signatures of methods, where no body is read
abbrev pub AreSigned : List Constant → ClassDraft → Type 0
AreSigned all d = AllZip (IsSignedMethod all) d.methods d.method_signatures

-- ---- a body that is read

abbrev pub IsCaught : Option (List ℕ) → Type 0
IsCaught None = Unit {0}
IsCaught (Some name) = IsWord name × IsClassName name

-- a catch row of a body with so many instructions
pub record IsCatch (n : ℕ) (row : Covered) : Type 0 where
  pub some : row.start < row.end
  pub end : row.end ≤ n
  pub handler : row.handler < n
  pub class : IsCaught row.class

-- the labels of the lines to come are those that a body knows
pub record AreLabels (b : Body) (lines : List SourceLine) : Type 0 where
  pub so_far : List Label
  pub rest : labels_from (record { labels = so_far; instructions = length b.drafts }) lines ≡ b.labels
  pub few : AllByRecursion (λ (l : Label). l.at ≤ b.labels.instructions) b.labels.labels

pub record InBody (all : List Constant) (d : ClassDraft) (b : Body) (lines : List SourceLine) : Type 0 where
  pub front : List Signature
  pub own : Signature
  pub signatures : d.method_signatures ≡ front ++ own ∷ []
  pub signed : AllZip (IsSignedMethod all) d.methods front
  pub flags : b.flags < 65536
  pub name : text (pool_of all) b.name ≡ Some own.name
  pub descriptor : text (pool_of all) b.descriptor ≡ Some own.descriptor
  pub lawful : is_lawful_method own.name own.descriptor ≡ true
  pub initialiser : is_lawful_initialiser own.name own.descriptor ≡ true
  pub takes : takes_code b.flags own.name ≡ true
  pub alone : is_taken front own.name own.descriptor ≡ false
  pub stack : b.max_stack < 65536
  pub locals : b.max_locals < 65536
  pub arguments : slots_of b.flags own.name own.descriptor ≤ b.max_locals
  pub named : HasName (pool_of all) (codes "Code")
  pub begun : has_class d.stage ≡ true
  pub labels : AreLabels b lines
  pub drafts : b.is_near ≡ true → AllByRecursion (IsDraft (pool_of all) d.major b.max_locals b.labels.instructions) b.drafts
  pub rows : AllByRecursion (IsCatch b.labels.instructions) b.rows

-- before some lines
abbrev pub Inside : List Constant → ClassDraft → Option Body → List SourceLine → Type 0
Inside all d None lines = AreSigned all d
Inside all d (Some b) lines = InBody all d b lines

pub record State (all : List Constant) (d : ClassDraft) (lines : List SourceLine) : Type 0 where
  pub sound : Sound all d
  pub inside : Inside all d d.body lines

-- a line leads from one class to the next
pub record Step (all : List Constant) (d e : ClassDraft) (now behind : List SourceLine) : Type 0 where
  pub grown : IsGrown d.pool e.pool
  pub sound : State all d now → IsGrown e.pool all → State all e behind

-- the class without its body
abbrev pub without : ClassDraft → ClassDraft
without d = record d { body = None }

pub without_body : (all : List Constant) (d : ClassDraft) → Sound all d → Sound all (without d)
without_body all d s = record {
  old = s.old;
  new = s.new;
  flags = s.flags;
  pool = s.pool;
  begun = begun_same (has_class d.stage) s.begun;
  interfaces = s.interfaces;
  fields = s.fields;
  named_fields = s.named_fields;
  field_names = s.field_names;
  methods = s.methods;
  named_methods = s.named_methods;
}
  where
    begun_same : (b : Bool) → Begun all d b → Begun all (without d) b
    begun_same true h = h
    begun_same false h = h
