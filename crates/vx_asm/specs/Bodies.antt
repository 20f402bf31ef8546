-- The lines of a method's body, each with what it adds: an instruction, a label, a catch row; and the end of the body.
use Rattle.std.specs.Prelude.{ℕ, ◌+◌, List, [], ◌∷◌, ◌++◌, length, map, take, min, slice_index, Bool, true, not, is_some, nat_lt, ◌==◌, ◌&&◌, ◌||◌, Option, Some, None, ◌%◌, Ok, Err}
use Rattle.vx_class.specs.declared.class_file.Code.{Code}
use Rattle.vx_class.specs.declared.class_file.Catch.{Catch}
use Rattle.vx_class.specs.declared.class_file.Method.{Method}
use Rattle.vx_source_words.specs.Reading.{Read, ◌>>=◌, check}
use Rattle.vx_source.specs.declared.statement.Statement.{Statement}
use Rattle.vx_source.specs.declared.statement.Statement.TheVariants as statement
use Rattle.vx_source.specs.declared.statement.Instruction.{Instruction}
use Rattle.vx_source.specs.declared.statement.CatchLine.{CatchLine}
use Rattle.vx_code_parts.specs.Bodies.{find_label}
use Rattle.vx_class_parts.specs.Constants.{with_constant, with_class, index_of, in_file, in_file_or_zero}
use Rattle.vx_code_parts.specs.Drafts.{next_place, code_bytes, all_reach}
use Rattle.vx_code_parts.specs.Instructions.{number_of, is_known, leads, instruction_checked, constant_of, draft_of}
use Rattle.vx_class_parts.specs.Rules.{is_lawful_class}
use Rattle.vx_class_parts.specs.declared.constants.Constant.{Constant}
use Rattle.vx_class_parts.specs.declared.constants.Constant.TheVariants as constant
use Rattle.vx_code_parts.specs.declared.drafts.Draft.{Draft}
use Rattle.vx_code_parts.specs.declared.labels.Labels.{Labels}
use Rattle.vx_asm.specs.declared.class_draft.Body.{Body}
use Rattle.vx_asm.specs.declared.class_draft.Covered.{Covered}
use Rattle.vx_asm.specs.declared.class_draft.ClassDraft.{ClassDraft}

-- ---- an instruction

-- the pool with the constant that an instruction needs
abbrev pub with_needed : List Constant → Option Constant → List Constant
with_needed pool None = pool
with_needed pool (Some c) = with_constant pool c

-- ldc has one byte for the index of its constant
abbrev pub is_index_near : List Constant → ℕ → Option Constant → Bool
is_index_near pool op None = true
is_index_near pool op (Some c) = not (op == 0x12) || nat_lt (index_of pool c) 256

abbrev pub with_draft : Body → List Constant → Option Constant → Instruction → Body
with_draft b pool needed i = record b {
  drafts = b.drafts ++ draft_of b.labels (in_file_or_zero pool needed) i ∷ [];
  is_near = b.is_near && is_index_near pool i.opcode needed;
}

-- the pool with the constant that an instruction needs
abbrev pub pool_of_instruction : List Constant → Instruction → List Constant
pool_of_instruction pool i = with_needed pool (constant_of i.opcode i.operand)

-- an instruction behind the others, and its constant in the pool
unfoldable pub with_instruction : ClassDraft → Body → Instruction → ClassDraft
with_instruction d b i =
    let pool = pool_of_instruction d.pool i in
    record d { pool = pool; body = Some (with_draft b pool (constant_of i.opcode i.operand) i) }

unfoldable pub instruction_said : ClassDraft → Body → Instruction → Read ClassDraft
instruction_said d b i = do
  _ ← instruction_checked d.major b.max_locals b.labels i
  Ok (with_instruction d b i)

-- ---- a label

-- a label stands once in a body, of whose labels so many were passed
unfoldable pub label_said : ClassDraft → Body → List ℕ → Read ClassDraft
label_said d b name =
    check (not (is_some (find_label (take b.passed b.labels.labels) name))) 4
    (Ok (record d { body = Some (record b { passed = min (length b.labels.labels) (b.passed + 1) }) }))

-- ---- a catch row

abbrev pub are_known : Labels → CatchLine → Bool
are_known labels c = is_known labels c.start && is_known labels c.end && is_known labels c.handler

abbrev pub is_caught : Option (List ℕ) → Bool
is_caught None = true
is_caught (Some name) = is_lawful_class name

-- a row covers something, and an instruction stands behind its handler
abbrev pub is_lawful_row : Labels → CatchLine → Bool
is_lawful_row labels c = nat_lt (number_of labels c.start) (number_of labels c.end) && leads labels c.handler && is_caught c.class

abbrev pub covered : Labels → CatchLine → Covered
covered labels c = record {
  start = number_of labels c.start;
  end = number_of labels c.end;
  handler = number_of labels c.handler;
  class = c.class;
}

abbrev pub with_covered : Body → CatchLine → Body
with_covered b c = record b { rows = b.rows ++ covered b.labels c ∷ [] }

unfoldable pub with_row : ClassDraft → Body → CatchLine → ClassDraft
with_row d b c = record d { body = Some (with_covered b c) }

unfoldable pub catch_said : ClassDraft → Body → CatchLine → Read ClassDraft
catch_said d b c =
    check (are_known b.labels c) 4
    (check (is_lawful_row b.labels c) 8
    (Ok (with_row d b c)))

-- ---- the end

-- the places of instructions, and the place behind them
unfoldable pub places_from : ℕ → List Draft → List ℕ
places_from at [] = at ∷ []
places_from at (d ∷ ds) = at ∷ places_from (next_place at d) ds

abbrev pub places_of : List Draft → List ℕ
places_of drafts = places_from 0 drafts

abbrev pub with_caught : List Constant → Option (List ℕ) → List Constant
with_caught pool None = pool
with_caught pool (Some name) = with_class pool name

-- the pool with the classes that the rows catch
unfoldable pub with_rows : List Constant → List Covered → List Constant
with_rows pool [] = pool
with_rows pool (row ∷ rows) = with_rows (with_caught pool row.class) rows

abbrev pub caught_index : List Constant → Option (List ℕ) → ℕ
caught_index pool None = 0
caught_index pool (Some name) = in_file pool (constant.Class name)

-- a place as it stands in the file, by its lowest two bytes
abbrev pub place_in_file : List ℕ → ℕ → ℕ
place_in_file places n = slice_index places n % 65536

abbrev pub catch_of : List Constant → List ℕ → Covered → Catch
catch_of pool places row = record {
  start = place_in_file places row.start;
  end = place_in_file places row.end;
  handler = place_in_file places row.handler;
  class = caught_index pool row.class;
}

abbrev pub code_of : List Constant → List ℕ → Body → Code
code_of pool places b = record {
  max_stack = b.max_stack;
  max_locals = b.max_locals;
  bytes = code_bytes places 0 b.drafts;
  catches = map (catch_of pool places) b.rows;
}

abbrev pub method_of : List Constant → List ℕ → Body → Method
method_of pool places b = record { flags = b.flags; name = b.name; descriptor = b.descriptor; code = Some (code_of pool places b) }

-- the code has at most 65,535 bytes, each jump and each ldc reaches what it names, and the rows can be counted
abbrev pub is_small_code : List ℕ → Body → Bool
is_small_code places b = nat_lt (slice_index places (length b.drafts)) 65536 && all_reach places 0 b.drafts && b.is_near && nat_lt (length b.rows) 65536

unfoldable pub with_end : ClassDraft → Body → List ℕ → ClassDraft
with_end d b places =
    let pool = with_rows d.pool b.rows in
    record d { pool = pool; methods = d.methods ++ method_of pool places b ∷ []; body = None }

unfoldable pub end_said : ClassDraft → Body → Read ClassDraft
end_said d b =
    check (is_small_code (places_of b.drafts) b) 7
    (check (nat_lt 0 (length b.drafts)) 8
    (Ok (with_end d b (places_of b.drafts))))

-- ---- a line of a body

-- a part of the class can't begin before the end of the body
unfoldable pub body_said : ClassDraft → Body → Statement → Read ClassDraft
body_said d b (statement.Instruction i) = instruction_said d b i
body_said d b (statement.Label name) = label_said d b name
body_said d b (statement.Catch c) = catch_said d b c
body_said d b statement.End = end_said d b
body_said d b _ = Err 5
