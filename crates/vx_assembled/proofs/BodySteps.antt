-- A line of a body keeps what is known of the class.
use Rattle.std.proofs.Common.{◌≡◌, ℕ, ◌+◌, ◌%◌, ◌<◌, List, [], ◌∷◌, ◌++◌, length, map, take, min, slice_index, Bool, true, false, not, is_some, nat_lt, ◌==◌, ◌&&◌, ◌||◌, Option, Some, None, Ok, Err, if◌then◌else◌, refl, sym, ap, subst, ◌∙◌, arith}
use Rattle.std.proofs.lemmas.Bool.{and_parts, not_from_false, ltb-true, eq-eqb}
use Rattle.std.proofs.lemmas.List.{length_push}
use Rattle.std.specs.List.{AllByRecursion, AllZip}
use Rattle.vx_class.specs.declared.class_file.Method.{Method}
use Rattle.vx_class.specs.File.{CodeHolds, MethodHolds}
use Rattle.vx_class.specs.Members.{slots_of}
use Rattle.vx_writer.specs.Written.{IsNamedMethod}
use Rattle.vx_desc.specs.Names.{is_method_name}
use Rattle.vx_desc.specs.Descriptors.{is_method_descriptor}
use Rattle.vx_source_words.specs.Reading.{Read, check}
use Rattle.vx_source.specs.declared.lines.Said.TheVariants as said
use Rattle.vx_source.specs.declared.lines.SourceLine.{SourceLine}
use Rattle.vx_source.specs.declared.statement.CatchLine.{CatchLine}
use Rattle.vx_source.specs.declared.statement.Instruction.{Instruction}
use Rattle.vx_source.specs.declared.statement.Member.{Member}
use Rattle.vx_source.specs.declared.statement.Operand.{Operand}
use Rattle.vx_source.specs.declared.statement.Operand.TheVariants as operand
use Rattle.vx_source.specs.declared.statement.Statement.{Statement}
use Rattle.vx_source.specs.declared.statement.Statement.TheVariants as statement
use Rattle.vx_class_parts.specs.Constants.{places, index_of, in_file, in_file_or_zero, pool_of}
use Rattle.vx_class_parts.specs.Rules.{is_lawful_class, is_lawful_field, is_lawful_method, has_dimensions}
use Rattle.vx_class_parts.specs.declared.constants.Constant.{Constant}
use Rattle.vx_class_parts.specs.declared.constants.Constant.TheVariants as constant
use Rattle.vx_class_parts.specs.declared.constants.Kind.TheVariants as kind
use Rattle.vx_pool.specs.Instructions.{is_callable}
use Rattle.vx_code_parts.specs.Bodies.{labels_from, find_label}
use Rattle.vx_code_parts.specs.Drafts.{all_reach}
use Rattle.vx_code_parts.specs.Instructions.{number_of, is_known, leads, all_labels, is_of_version, is_text, is_lawful, is_field_opcode, member_rule, call_rule, instruction_checked, kind_of, constant_of, draft_of}
use Rattle.vx_code_parts.specs.declared.drafts.Draft.{Draft}
use Rattle.vx_code_parts.specs.declared.labels.Labels.{Labels}
use Rattle.vx_asm.specs.Bodies.{with_needed, is_index_near, with_draft, with_instruction, instruction_said, label_said, are_known, is_caught, is_lawful_row, covered, with_covered, with_row, catch_said, places_of, with_caught, with_rows, caught_index, catch_of, code_of, method_of, is_small_code, with_end, end_said, body_said}
use Rattle.vx_asm.specs.Parts.{has_class}
use Rattle.vx_asm.specs.declared.class_draft.Body.{Body}
use Rattle.vx_asm.specs.declared.class_draft.ClassDraft.{ClassDraft}
use Rattle.vx_asm.specs.declared.class_draft.Covered.{Covered}
use Rattle.vx_assembled.proofs.Codes.{IsCaughtHere, IsCovered, IsBody, code_holds}
use Rattle.vx_assembled.proofs.Drafts.{IsDraft, drafted_is}
use Rattle.vx_assembled.proofs.Entries.{IsClassName, class_name, IsMember, IsMemberOf, field_member, method_member, IsGood, class_good, literal_good, member_good}
use Rattle.vx_assembled.proofs.Instructions.{IsNearNeeded}
use Rattle.vx_assembled.proofs.Labels.{number_few, line_passed, line_last}
use Rattle.vx_assembled.proofs.Members.{each_more, all_push, zip_push, none_same}
use Rattle.vx_assembled.proofs.Operands.{rule_lawful}
use Rattle.vx_assembled.proofs.Pools.{IsGrown, grown_same, grown_then, held_has, held_grown, IsNeeded, needed_grown, needed_held, with_class_grown, with_class_held, with_constant_grown, with_constant_held, HoldsOf, with_class_all, with_constant_all, index_grown}
use Rattle.vx_assembled.proofs.Reading.{bind_ok, check_ok}
use Rattle.vx_assembled.proofs.Sayings.{IsSaidOperand, IsSaidInstruction, IsSaidClass, IsSaid, ends}
use Rattle.vx_assembled.proofs.Sound.{Begun, IsSignedMethod, Sound, IsCaught, IsCatch, InBody, State, without}

-- what a line of a body keeps
pub record BodyStep (all : List Constant) (d e : ClassDraft) (b : Body) (now behind : List SourceLine) : Type 0 where
  pub grown : IsGrown d.pool e.pool
  pub sound : Sound all d → InBody all d b now → IsGrown e.pool all → State all e behind

ok_is : (d e : ClassDraft) → (let f : ClassDraft → Read ClassDraft = λ z. Ok z in f d ≡ f e) → d ≡ e
ok_is d e h = cc

-- the class with another pool and a body, of which everything else stays
with_pool : (all : List Constant) (d : ClassDraft) (pool : List Constant) (b : Body) → Sound all d → AllByRecursion (IsGood all) pool → Sound all (record (without d) { pool = pool; body = Some b })
with_pool all d pool b s good = record {
  old = s.old;
  new = s.new;
  flags = s.flags;
  pool = good;
  begun = begun_same (has_class d.stage) s.begun;
  interfaces = s.interfaces;
  fields = s.fields;
  named_fields = s.named_fields;
  field_names = s.field_names;
  methods = s.methods;
  named_methods = s.named_methods;
}
  where
    begun_same : (t : Bool) → Begun all d t → Begun all (record (without d) { pool = pool; body = Some b }) t
    begun_same true h = h
    begun_same false h = h

-- ---- an instruction

-- the constant that an instruction needs
needed_grows : (pool : List Constant) (needed : Option Constant) → IsGrown pool (with_needed pool needed)
needed_grows pool None = grown_same pool
needed_grows pool (Some c) = with_constant_grown pool c

needed_there : (pool : List Constant) (needed : Option Constant) → IsNeeded (with_needed pool needed) needed
needed_there pool None = tt
needed_there pool (Some c) = with_constant_held pool c

IsGoodNeeded : List Constant → Option Constant → Type 0
IsGoodNeeded all None = Unit {0}
IsGoodNeeded all (Some c) = HoldsOf (IsGood all) c

needed_all : (all pool : List Constant) (needed : Option Constant) → AllByRecursion (IsGood all) pool → IsGoodNeeded all needed → AllByRecursion (IsGood all) (with_needed pool needed)
unfolding IsGoodNeeded
needed_all all pool None good needed = good
needed_all all pool (Some c) good needed = with_constant_all (IsGood all) pool c good needed

-- a member of a lawful instruction
member_lawful : (op : ℕ) (m : Member) → member_rule op m ≡ true → IsClassName m.class × IsMemberOf (kind_of op m.interface) m.name m.descriptor
member_lawful op m h =
    let p = and_parts (is_lawful_class m.class) (if is_field_opcode op then is_lawful_field m.name m.descriptor else call_rule op m) h in
    (class_name m.class p.0, by_field (is_field_opcode op) p.1)
  where
    by_kind : (t : Bool) → is_lawful_method m.name m.descriptor ≡ true → IsMemberOf (if t then kind.InterfaceMethod else kind.Method) m.name m.descriptor
    by_kind true h = method_member m.name m.descriptor h
    by_kind false h = method_member m.name m.descriptor h

    by_field : (t : Bool) → (if t then is_lawful_field m.name m.descriptor else call_rule op m) ≡ true
        → IsMemberOf (if t then kind.Field else if op == 0xb9 || m.interface then kind.InterfaceMethod else kind.Method) m.name m.descriptor
    by_field true h = field_member m.name m.descriptor h
    by_field false h = by_kind (op == 0xb9 || m.interface) (and_parts (is_lawful_method m.name m.descriptor) (is_callable op m.name) (and_parts (is_lawful_method m.name m.descriptor && is_callable op m.name) _ h).0).0

narrow_good : (all : List Constant) (max_locals op : ℕ) (o : Operand) → IsSaidOperand false op o → is_text o ≡ true → is_lawful max_locals op o ≡ true → IsNeeded all (constant_of op o) → IsGoodNeeded all (constant_of op o)
unfolding IsGoodNeeded
narrow_good all max_locals op operand.Nothing said text lawful held = tt
narrow_good all max_locals op (operand.Number n) said text lawful held = tt
narrow_good all max_locals op (operand.Int n) said text lawful held = record { lawful = said.1; held = held }
narrow_good all max_locals op (operand.Long n) said text lawful held = record { lawful = said.1; held = held }
narrow_good all max_locals op (operand.Text None) said text lawful held = tt
narrow_good all max_locals op (operand.Text (Some t)) said text lawful held = literal_good all t said.1.text said.1.short held
narrow_good all max_locals op (operand.Class name) said text lawful held = class_good all name said.1 (class_name name (rule_lawful op name lawful)) held
narrow_good all max_locals op (operand.Local n) said text lawful held = tt
narrow_good all max_locals op (operand.Increment n k) said text lawful held = tt
narrow_good all max_locals op (operand.Jump label) said text lawful held = tt
narrow_good all max_locals op (operand.Member m) said text lawful held =
    let p = member_lawful op m lawful in
    member_good all (kind_of op m.interface) m.class m.name m.descriptor said.class said.name said.descriptor p.0 p.1 held
narrow_good all max_locals op (operand.Dimensions name n) said text lawful held =
    class_good all name said.1 (class_name name (and_parts (is_lawful_class name) (has_dimensions n name) lawful).0) held
narrow_good all max_locals op (operand.Table t) said text lawful held = tt
narrow_good all max_locals op (operand.Lookup l) said text lawful held = tt

wide_good : (all : List Constant) (op : ℕ) (o : Operand) → IsSaidOperand true op o → IsGoodNeeded all (constant_of op o)
unfolding IsGoodNeeded
wide_good all op (operand.Local n) said = tt
wide_good all op (operand.Increment n k) said = tt
wide_good all op operand.Nothing said = absurd said
wide_good all op (operand.Number n) said = absurd said
wide_good all op (operand.Int n) said = absurd said
wide_good all op (operand.Long n) said = absurd said
wide_good all op (operand.Text t) said = absurd said
wide_good all op (operand.Class name) said = absurd said
wide_good all op (operand.Jump label) said = absurd said
wide_good all op (operand.Member m) said = absurd said
wide_good all op (operand.Dimensions name n) said = absurd said
wide_good all op (operand.Table t) said = absurd said
wide_good all op (operand.Lookup l) said = absurd said

operand_good : (all : List Constant) (max_locals op : ℕ) (wide : Bool) (o : Operand) → IsSaidOperand wide op o → is_text o ≡ true → is_lawful max_locals op o ≡ true → IsNeeded all (constant_of op o) → IsGoodNeeded all (constant_of op o)
operand_good all max_locals op true o said text lawful held = wide_good all op o said
operand_good all max_locals op false o said text lawful held = narrow_good all max_locals op o said text lawful held

-- the index of ldc's constant has one byte, where it has one in the smaller pool
near_there : (all pool : List Constant) (op : ℕ) (needed : Option Constant) → IsGrown pool all → IsNeeded pool needed → is_index_near pool op needed ≡ true → IsNearNeeded all op needed
near_there all pool op None g held near = tt
near_there all pool op (Some c) g held near = λ is.
    let below : index_of pool c < 256 = ltb-true (index_of pool c) 256 (by_op (op == 0x12) (eq-eqb op 0x12 is) near) in
    let same : in_file pool c ≡ in_file all c = index_grown g c (held_has pool c held) in
    omega (arith, below, same)
  where
    by_op : (t : Bool) → t ≡ true → (not t || nat_lt (index_of pool c) 256) ≡ true → nat_lt (index_of pool c) 256 ≡ true
    by_op true e h = h
    by_op false e h = absurd cc

record IsCheckedLine (major max_locals : ℕ) (labels : Labels) (i : Instruction) : Type 0 where
  version : is_of_version major i.operand ≡ true
  text : is_text i.operand ≡ true
  lawful : is_lawful max_locals i.opcode i.operand ≡ true
  leads : all_labels (leads labels) i.operand ≡ true

line_checked : (major max_locals : ℕ) (labels : Labels) (i : Instruction) (u : Unit {0}) → instruction_checked major max_locals labels i ≡ Ok u → IsCheckedLine major max_locals labels i
unfolding instruction_checked
line_checked major max_locals labels i u h =
    let a = check_ok (is_of_version major i.operand) 2 _ u h in
    let b = check_ok (all_labels (is_known labels) i.operand) 4 _ u a.1 in
    let c = check_ok (is_text i.operand) 6 _ u b.1 in
    let d = check_ok (is_lawful max_locals i.opcode i.operand && all_labels (leads labels) i.operand) 8 (Ok tt) u c.1 in
    let p = and_parts (is_lawful max_locals i.opcode i.operand) (all_labels (leads labels) i.operand) d.0 in
    record { version = a.0; text = c.0; lawful = p.0; leads = p.1 }

instruction_step : (all : List Constant) (d e : ClassDraft) (b : Body) (line : SourceLine) (behind : List SourceLine) (i : Instruction) → places all < 65536 → IsSaidInstruction i
    → line.ends_body ≡ false → line.said ≡ said.Statement (statement.Instruction i) → instruction_said (without d) b i ≡ Ok e → BodyStep all d e b (line ∷ behind) behind
unfolding instruction_said with_instruction
instruction_step all d e b line behind i few says goes_on is h =
    let u = bind_ok (instruction_checked d.major b.max_locals b.labels i) (λ _. Ok made) e h in
    subst (λ (x : ClassDraft). BodyStep all d x b (line ∷ behind) behind) (ok_is made e u.2)
    (record { grown = needed_grows d.pool needed; sound = λ s inside g. kept (line_checked d.major b.max_locals b.labels i u.0 u.1) s inside g })
  where
    needed : Option Constant
    needed = constant_of i.opcode i.operand

    pool : List Constant
    pool = with_needed d.pool needed

    body : Body
    body = with_draft b pool needed i

    made : ClassDraft
    made = record (without d) { pool = pool; body = Some body }

    kept : IsCheckedLine d.major b.max_locals b.labels i → Sound all d → InBody all d b (line ∷ behind) → IsGrown pool all → State all made behind
    kept checked s inside g = record {
      sound = with_pool all d pool body s (needed_all all d.pool needed s.pool (operand_good all b.max_locals i.opcode i.wide i.operand says.operand checked.text checked.lawful held));
      inside = record {
        front = inside.front;
        own = inside.own;
        signatures = inside.signatures;
        signed = inside.signed;
        flags = inside.flags;
        name = inside.name;
        descriptor = inside.descriptor;
        lawful = inside.lawful;
        initialiser = inside.initialiser;
        takes = inside.takes;
        alone = inside.alone;
        stack = inside.stack;
        locals = inside.locals;
        arguments = inside.arguments;
        named = inside.named;
        begun = inside.begun;
        labels = record { so_far = inside.labels.so_far; rest = labels_rest; few = inside.labels.few };
        drafts = λ near.
            let p = and_parts b.is_near (is_index_near pool i.opcode needed) near in
            all_push (IsDraft (pool_of all) d.major b.max_locals b.labels.instructions) b.drafts new (inside.drafts p.0) (new_is p.1);
        rows = inside.rows;
      };
    }
      where
        held : IsNeeded all needed
        held = needed_held g needed (needed_there d.pool needed)

        new : Draft
        new = draft_of b.labels (in_file_or_zero pool needed) i

        labels_rest : labels_from (record { labels = inside.labels.so_far; instructions = length (b.drafts ++ new ∷ []) }) behind ≡ b.labels
        labels_rest =
            ap (λ (n : ℕ). labels_from (record { labels = inside.labels.so_far; instructions = n }) behind) (length_push b.drafts new)
            ∙ line_passed (record { labels = inside.labels.so_far; instructions = length b.drafts }) b.labels line behind (statement.Instruction i) goes_on is inside.labels.rest

        new_is : is_index_near pool i.opcode needed ≡ true → IsDraft (pool_of all) d.major b.max_locals b.labels.instructions new
        new_is near =
            subst (λ (k : ℕ). IsDraft (pool_of all) d.major b.max_locals b.labels.instructions (draft_of b.labels k i)) (sym (needed_grown g needed (needed_there d.pool needed)))
            (drafted_is all d.major b.max_locals b.labels i.opcode i.wide i.operand (record {
              few = few;
              small = says.few;
              said = says.operand;
              version = checked.version;
              text = checked.text;
              lawful = checked.lawful;
              needed = held;
              near = near_there all pool i.opcode needed g (needed_there d.pool needed) near;
            }) checked.leads)

-- ---- a label

label_step : (all : List Constant) (d e : ClassDraft) (b : Body) (line : SourceLine) (behind : List SourceLine) (name : List ℕ) → line.ends_body ≡ false → line.said ≡ said.Statement (statement.Label name)
    → label_said (without d) b name ≡ Ok e → BodyStep all d e b (line ∷ behind) behind
unfolding label_said
label_step all d e b line behind name goes_on is h =
    let c = check_ok (not (is_some (find_label (take b.passed b.labels.labels) name))) 4 (Ok made) e h in
    subst (λ (x : ClassDraft). BodyStep all d x b (line ∷ behind) behind) (ok_is made e c.1) (record { grown = grown_same d.pool; sound = λ s inside g. kept s inside })
  where
    body : Body
    body = record b { passed = min (length b.labels.labels) (b.passed + 1) }

    made : ClassDraft
    made = record (without d) { body = Some body }

    kept : Sound all d → InBody all d b (line ∷ behind) → State all made behind
    kept s inside = record {
      sound = with_pool all d d.pool body s s.pool;
      inside = record {
        front = inside.front;
        own = inside.own;
        signatures = inside.signatures;
        signed = inside.signed;
        flags = inside.flags;
        name = inside.name;
        descriptor = inside.descriptor;
        lawful = inside.lawful;
        initialiser = inside.initialiser;
        takes = inside.takes;
        alone = inside.alone;
        stack = inside.stack;
        locals = inside.locals;
        arguments = inside.arguments;
        named = inside.named;
        begun = inside.begun;
        labels = record {
          so_far = inside.labels.so_far ++ record { name = name; at = length b.drafts } ∷ [];
          rest = line_passed (record { labels = inside.labels.so_far; instructions = length b.drafts }) b.labels line behind (statement.Label name) goes_on is inside.labels.rest;
          few = inside.labels.few;
        };
        drafts = inside.drafts;
        rows = inside.rows;
      };
    }

-- ---- a catch row

caught_is : (class : Option (List ℕ)) → IsSaidClass class → is_caught class ≡ true → IsCaught class
caught_is None says h = tt
caught_is (Some name) says h = (says, class_name name h)

catch_step : (all : List Constant) (d e : ClassDraft) (b : Body) (line : SourceLine) (behind : List SourceLine) (c : CatchLine) → IsSaidClass c.class → line.ends_body ≡ false
    → line.said ≡ said.Statement (statement.Catch c) → catch_said (without d) b c ≡ Ok e → BodyStep all d e b (line ∷ behind) behind
unfolding catch_said with_row
catch_step all d e b line behind c says goes_on is h =
    let k = check_ok (are_known b.labels c) 4 (check (is_lawful_row b.labels c) 8 (Ok made)) e h in
    let r = check_ok (is_lawful_row b.labels c) 8 (Ok made) e k.1 in
    let p = and_parts (nat_lt (number_of b.labels c.start) (number_of b.labels c.end) && leads b.labels c.handler) (is_caught c.class) r.0 in
    let q = and_parts (nat_lt (number_of b.labels c.start) (number_of b.labels c.end)) (leads b.labels c.handler) p.0 in
    subst (λ (x : ClassDraft). BodyStep all d x b (line ∷ behind) behind) (ok_is made e r.1) (record { grown = grown_same d.pool; sound = λ s inside g. kept q.0 q.1 p.1 s inside })
  where
    body : Body
    body = with_covered b c

    made : ClassDraft
    made = record (without d) { body = Some body }

    kept : nat_lt (number_of b.labels c.start) (number_of b.labels c.end) ≡ true → leads b.labels c.handler ≡ true → is_caught c.class ≡ true → Sound all d → InBody all d b (line ∷ behind) → State all made behind
    kept order handler class s inside = record {
      sound = with_pool all d d.pool body s s.pool;
      inside = record {
        front = inside.front;
        own = inside.own;
        signatures = inside.signatures;
        signed = inside.signed;
        flags = inside.flags;
        name = inside.name;
        descriptor = inside.descriptor;
        lawful = inside.lawful;
        initialiser = inside.initialiser;
        takes = inside.takes;
        alone = inside.alone;
        stack = inside.stack;
        locals = inside.locals;
        arguments = inside.arguments;
        named = inside.named;
        begun = inside.begun;
        labels = record {
          so_far = inside.labels.so_far;
          rest = line_passed (record { labels = inside.labels.so_far; instructions = length b.drafts }) b.labels line behind (statement.Catch c) goes_on is inside.labels.rest;
          few = inside.labels.few;
        };
        drafts = inside.drafts;
        rows = all_push (IsCatch b.labels.instructions) b.rows (covered b.labels c) inside.rows (record {
          some = ltb-true (number_of b.labels c.start) (number_of b.labels c.end) order;
          end = number_few b.labels c.end inside.labels.few;
          handler = ltb-true (number_of b.labels c.handler) b.labels.instructions handler;
          class = caught_is c.class says class;
        });
      };
    }

-- ---- the end

caught_grown : (pool : List Constant) (class : Option (List ℕ)) → IsGrown pool (with_caught pool class)
caught_grown pool None = grown_same pool
caught_grown pool (Some name) = with_class_grown pool name

rows_grown : (pool : List Constant) (rows : List Covered) → IsGrown pool (with_rows pool rows)
unfolding with_rows
rows_grown pool [] = grown_same pool
rows_grown pool (row ∷ rows) = grown_then (caught_grown pool row.class) (rows_grown (with_caught pool row.class) rows)

-- the classes that rows catch
IsHeldRow : List Constant → Covered → Type 0
IsHeldRow pool row = IsCaughtHere pool row.class

caught_held : (pool all : List Constant) (class : Option (List ℕ)) → IsGrown (with_caught pool class) all → IsCaughtHere all class
caught_held pool all None g = tt
caught_held pool all (Some name) g = held_grown g (constant.Class name) (with_class_held pool name)

rows_held : (pool all : List Constant) (rows : List Covered) → IsGrown (with_rows pool rows) all → AllByRecursion (IsHeldRow all) rows
unfolding with_rows IsHeldRow
rows_held pool all [] g = tt
rows_held pool all (row ∷ rows) g = (
  caught_held pool all row.class (grown_then (rows_grown (with_caught pool row.class) rows) g),
  rows_held (with_caught pool row.class) all rows g,
)

rows_all : (all pool : List Constant) (n : ℕ) (rows : List Covered) → AllByRecursion (IsGood all) pool → AllByRecursion (IsCatch n) rows → AllByRecursion (IsHeldRow all) rows → AllByRecursion (IsGood all) (with_rows pool rows)
unfolding with_rows IsHeldRow
rows_all all pool n [] good rows held = good
rows_all all pool n (row ∷ rows) good are held = rows_all all (with_caught pool row.class) n rows (caught_all row.class are.0.class held.0) are.1 held.1
  where
    caught_all : (class : Option (List ℕ)) → IsCaught class → IsCaughtHere all class → AllByRecursion (IsGood all) (with_caught pool class)
    caught_all None is here = good
    caught_all (Some name) is here = with_class_all (IsGood all) pool name good (class_good all name is.0 is.1 here)

rows_covered : (all : List Constant) (n : ℕ) (rows : List Covered) → AllByRecursion (IsCatch n) rows → AllByRecursion (IsHeldRow all) rows → AllByRecursion (IsCovered all n) rows
unfolding IsHeldRow
rows_covered all n [] are held = tt
rows_covered all n (row ∷ rows) are held = (record { some = are.0.some; end = are.0.end; handler = are.0.handler; class = held.0 }, rows_covered all n rows are.1 held.1)

-- the rows say the same in the smaller pool
caught_same : (pool all : List Constant) (class : Option (List ℕ)) → IsGrown pool all → IsCaughtHere pool class → caught_index pool class ≡ caught_index all class
caught_same pool all None g h = refl
caught_same pool all (Some name) g h = index_grown g (constant.Class name) h.0

rows_same : (pool all : List Constant) (ps : List ℕ) (rows : List Covered) → IsGrown pool all → AllByRecursion (IsHeldRow pool) rows → map (catch_of pool ps) rows ≡ map (catch_of all ps) rows
unfolding IsHeldRow
rows_same pool all ps [] g h = refl
rows_same pool all ps (row ∷ rows) g h =
    let class = caught_same pool all row.class g h.0 in
    let others = rows_same pool all ps rows g h.1 in
    let one : catch_of pool ps row ≡ catch_of all ps row = λ i. record { start = slice_index ps row.start % 65536; end = slice_index ps row.end % 65536; handler = slice_index ps row.handler % 65536; class = class i } in
    λ i. one i ∷ others i

end_step : (all : List Constant) (d e : ClassDraft) (b : Body) (line : SourceLine) (behind : List SourceLine) → places all < 65536 → line.ends_body ≡ true → end_said (without d) b ≡ Ok e
    → BodyStep all d e b (line ∷ behind) behind
unfolding end_said with_end
end_step all d e b line behind few ends_here h =
    let c = check_ok (is_small_code ps b) 7 (check (nat_lt 0 (length b.drafts)) 8 (Ok made)) e h in
    let r = check_ok (nat_lt 0 (length b.drafts)) 8 (Ok made) e c.1 in
    subst (λ (x : ClassDraft). BodyStep all d x b (line ∷ behind) behind) (ok_is made e r.1)
    (record { grown = rows_grown d.pool b.rows; sound = λ s inside g. kept c.0 r.0 s inside g })
  where
    ps : List ℕ
    ps = places_of b.drafts

    pool : List Constant
    pool = with_rows d.pool b.rows

    new : Method
    new = method_of pool ps b

    made : ClassDraft
    made = record (without d) { pool = pool; methods = d.methods ++ new ∷ []; body = None }

    kept : is_small_code ps b ≡ true → nat_lt 0 (length b.drafts) ≡ true → Sound all d → InBody all d b (line ∷ behind) → IsGrown pool all → State all made behind
    kept small some s inside g = record {
      sound = record {
        old = s.old;
        new = s.new;
        flags = s.flags;
        pool = rows_all all d.pool b.labels.instructions b.rows s.pool inside.rows held;
        begun = begun_same (has_class d.stage) inside.begun s.begun;
        interfaces = s.interfaces;
        fields = s.fields;
        named_fields = s.named_fields;
        field_names = s.field_names;
        methods = each_more (MethodHolds (pool_of all) d.major) [] d.methods new s.methods holds;
        named_methods = all_push (IsNamedMethod (pool_of all)) d.methods new s.named_methods inside.named;
      };
      inside = subst (AllZip (IsSignedMethod all) (d.methods ++ new ∷ [])) (sym inside.signatures)
          (zip_push (IsSignedMethod all) d.methods inside.front new inside.own inside.signed (record { name = inside.name; descriptor = inside.descriptor }));
    }
      where
        begun_same : (t : Bool) → t ≡ true → Begun all d t → Begun all made t
        begun_same true e h = h
        begun_same false e h = absurd cc

        held : AllByRecursion (IsHeldRow all) b.rows
        held = rows_held d.pool all b.rows g

        -- as many instructions were read as the labels count
        count : b.labels.instructions ≡ length b.drafts
        count = sym (ap (λ (l : Labels). l.instructions) (line_last (record { labels = inside.labels.so_far; instructions = length b.drafts }) b.labels line behind ends_here inside.labels.rest))

        slots : ℕ
        slots = slots_of b.flags inside.own.name inside.own.descriptor

        small_parts : (nat_lt (slice_index ps (length b.drafts)) 65536 ≡ true) × (all_reach ps 0 b.drafts ≡ true) × (b.is_near ≡ true) × (nat_lt (length b.rows) 65536 ≡ true)
        small_parts =
            let p = and_parts (nat_lt (slice_index ps (length b.drafts)) 65536 && all_reach ps 0 b.drafts && b.is_near) (nat_lt (length b.rows) 65536) small in
            let q = and_parts (nat_lt (slice_index ps (length b.drafts)) 65536 && all_reach ps 0 b.drafts) b.is_near p.0 in
            let r = and_parts (nat_lt (slice_index ps (length b.drafts)) 65536) (all_reach ps 0 b.drafts) q.0 in
            (r.0, r.1, q.1, p.1)

        body : IsBody all d.major slots b
        body = record {
          few = few;
          stack = inside.stack;
          locals = inside.locals;
          arguments = inside.arguments;
          drafts = subst (λ (n : ℕ). AllByRecursion (IsDraft (pool_of all) d.major b.max_locals n) b.drafts) count (inside.drafts small_parts.2);
          rows = subst (λ (n : ℕ). AllByRecursion (IsCovered all n) b.rows) count (rows_covered all b.labels.instructions b.rows inside.rows held);
          some = ltb-true 0 (length b.drafts) some;
          small = ltb-true (slice_index ps (length b.drafts)) 65536 small_parts.0;
          reach = small_parts.1;
          few_rows = ltb-true (length b.rows) 65536 small_parts.3;
        }

        same : code_of pool ps b ≡ code_of all ps b
        same =
            let rows = rows_same pool all ps b.rows g (rows_held d.pool pool b.rows (grown_same pool)) in
            λ i. record (code_of all ps b) { catches = rows i }

        is : IsMember is_method_name is_method_descriptor inside.own.name inside.own.descriptor
        is = method_member inside.own.name inside.own.descriptor inside.lawful

        holds : MethodHolds (pool_of all) d.major d.methods new
        holds = record {
          name = inside.own.name;
          descriptor = inside.own.descriptor;
          is_name = inside.name;
          is_descriptor = inside.descriptor;
          flags = inside.flags;
          lawful_name = is.name;
          lawful_descriptor = is.descriptor;
          new = not_from_false _ (none_same (pool_of all) (λ x. x.name) (λ x. x.descriptor) d.methods inside.front inside.own.name inside.own.descriptor inside.signed inside.alone);
          initialiser = inside.initialiser;
          code = (inside.takes, subst (CodeHolds (pool_of all) d.major slots) (sym same) (code_holds all d.major slots b body));
        }

-- ---- a line of a body

no_ok : (d : ℕ) (e : ClassDraft) → (let r : Read ClassDraft = Err d in let t : Read ClassDraft = Ok e in r ≡ t) → ⊥
no_ok d e h = cc

pub body_line_step : (all : List Constant) (d e : ClassDraft) (b : Body) (line : SourceLine) (behind : List SourceLine) (s : Statement) → places all < 65536 → IsSaid s → line.ends_body ≡ ends s
    → line.said ≡ said.Statement s → body_said (without d) b s ≡ Ok e → BodyStep all d e b (line ∷ behind) behind
unfolding body_said
body_line_step all d e b line behind (statement.Instruction i) few says last is h = instruction_step all d e b line behind i few says last is h
body_line_step all d e b line behind (statement.Label name) few says last is h = label_step all d e b line behind name last is h
body_line_step all d e b line behind (statement.Catch c) few says last is h = catch_step all d e b line behind c says last is h
body_line_step all d e b line behind statement.End few says last is h = end_step all d e b line behind few last h
body_line_step all d e b line behind (statement.Version major) few says last is h = absurd (no_ok 5 e h)
body_line_step all d e b line behind (statement.Class l) few says last is h = absurd (no_ok 5 e h)
body_line_step all d e b line behind (statement.Implements name) few says last is h = absurd (no_ok 5 e h)
body_line_step all d e b line behind (statement.Field l) few says last is h = absurd (no_ok 5 e h)
body_line_step all d e b line behind (statement.Method l) few says last is h = absurd (no_ok 5 e h)
