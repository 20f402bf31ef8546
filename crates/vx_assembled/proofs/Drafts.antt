-- The draft of an instruction at its place in the code.
use Rattle.std.proofs.Common.{◌≡◌, ℕ, pos, suc, ◌+◌, ◌+ℤ◌, ◌<◌, ◌≤◌, List, [], ◌∷◌, ◌++◌, length, map, slice_index, Bool, true, false, nat_le, int_le, ◌==◌, ◌&&◌, Option, Some, None, inl, inr, FitsSigned, refl, sym, ap, subst, ◌∙◌, arith}
use Rattle.std.proofs.lemmas.Bool.{and_parts, and_from, leb-true, ltb-true}
use Rattle.std.specs.Int.{w32}
use Rattle.std.specs.List.{list_all, AllByRecursion}
use Rattle.byteorder.specs.Endian.{big_bytes}
use Rattle.vx_pool.specs.declared.pool.Pool.{Pool}
use Rattle.vx_opcode.specs.declared.instruction.Instruction.{Instruction}
use Rattle.vx_opcode.specs.declared.instruction.Operand.TheVariants as plain
use Rattle.vx_opcode.specs.declared.shape.Shape.TheVariants as shape
use Rattle.vx_opcode.specs.Decode.{shaped_at, instruction_at}
use Rattle.vx_opcode.specs.Numbers.{s2, s4}
use Rattle.vx_opcode.specs.Table.{shape_of}
use Rattle.vx_pool.specs.Checks.{all_hold}
use Rattle.vx_pool.specs.Instructions.{operand_checks, jump_checks, is_target}
use Rattle.vx_class_parts.specs.Constants.{in_file_or_zero, pool_of}
use Rattle.vx_class_parts.specs.declared.constants.Constant.{Constant}
use Rattle.vx_source.specs.declared.statement.Case.{Case}
use Rattle.vx_source.specs.declared.statement.Operand.{Operand}
use Rattle.vx_source.specs.declared.statement.Operand.TheVariants as operand
use Rattle.vx_code_parts.specs.Drafts.{size, way, draft_bytes, reaches}
use Rattle.vx_code_parts.specs.Instructions.{number_of, leads, all_labels, is_above, ascend, constant_of, jump_draft, row_of, drafted}
use Rattle.vx_code_parts.specs.declared.drafts.Draft.{Draft}
use Rattle.vx_code_parts.specs.declared.drafts.Draft.TheVariants as draft
use Rattle.vx_code_parts.specs.declared.drafts.Row.{Row}
use Rattle.vx_code_parts.specs.declared.labels.Labels.{Labels}
use Rattle.vx_assembled.proofs.Bytes.{Stands, is_within}
use Rattle.vx_assembled.proofs.Decoded.{made, by_opcode, after_opcode, is_whole}
use Rattle.vx_assembled.proofs.Instructions.{IsInstruction, IsLawfulHere, instruction_is}
use Rattle.vx_assembled.proofs.Sayings.{IsSaidJump}
use Rattle.vx_assembled.proofs.SaidOperands.{few}
use Rattle.vx_assembled.proofs.Switches.{Leads, Ascend, IsRowFor, near_target, far_target, table_length, lookup_length, table_there, lookup_there}

-- ---- a draft by itself

pub record IsRow (n : ℕ) (r : Row) : Type 0 where
  pub target : r.target < n
  pub key : FitsSigned w32 r.key

-- a draft of a body with so many instructions
abbrev pub IsDraft : Pool → ℕ → ℕ → ℕ → Draft → Type 0
IsDraft pool major max_locals n (draft.Bytes bytes) = IsInstruction pool major max_locals bytes
IsDraft pool major max_locals n (draft.Jump op target) = (op < 256) × (shape_of op ≡ Some shape.Jump) × (target < n)
IsDraft pool major max_locals n (draft.JumpWide op target) = (op ≡ 0xc8) × (target < n)
IsDraft pool major max_locals n (draft.Table low fallback targets) =
    FitsSigned w32 low × (1 ≤ length targets) × (int_le (low +ℤ pos (length targets)) (pos 0x8000_0000) ≡ true) × (fallback < n) × AllByRecursion (λ t. t < n) targets
IsDraft pool major max_locals n (draft.Lookup fallback rows) = (fallback < n) × AllByRecursion (IsRow n) rows × Ascend rows

-- its bytes are as many as its size
pub draft_length : (pool : Pool) (major max_locals n : ℕ) (places : List ℕ) (at : ℕ) (d : Draft) → length (draft_bytes places at d) ≡ size at d
unfolding draft_bytes
draft_length pool major max_locals n places at (draft.Bytes bytes) = refl
draft_length pool major max_locals n places at (draft.Jump op target) = refl
draft_length pool major max_locals n places at (draft.JumpWide op target) = refl
draft_length pool major max_locals n places at (draft.Table low fallback targets) = table_length places at low fallback targets
draft_length pool major max_locals n places at (draft.Lookup fallback rows) = lookup_length places at fallback rows

pub size_some : (pool : Pool) (major max_locals n at : ℕ) (d : Draft) → IsDraft pool major max_locals n d → 1 ≤ size at d
size_some pool major max_locals n at (draft.Bytes bytes) is =
    let same = is.decodes.size in
    let some = is.decodes.some in
    omega (arith, same, some)
size_some pool major max_locals n at (draft.Jump op target) is = omega arith
size_some pool major max_locals n at (draft.JumpWide op target) is = omega arith
size_some pool major max_locals n at (draft.Table low fallback targets) is = omega arith
size_some pool major max_locals n at (draft.Lookup fallback rows) is = omega arith

-- ---- a draft at its place

-- the instruction that stands at a place
pub record IsThere (pool : Pool) (major max_locals : ℕ) (starts code : List ℕ) (at size : ℕ) : Type 0 where
  pub i : Instruction
  pub there : instruction_at code at ≡ Some i
  pub length : i.length ≡ size
  pub operand : all_hold (operand_checks pool major max_locals i.opcode i.operand) ≡ true
  pub jumps : all_hold (jump_checks starts code at i.operand) ≡ true

all_leads : (starts places : List ℕ) (n : ℕ) → ((t : ℕ) → t < n → Leads starts places t) → (ts : List ℕ) → AllByRecursion (λ t. t < n) ts → AllByRecursion (Leads starts places) ts
all_leads starts places n lead [] all = tt
all_leads starts places n lead (t ∷ ts) all = (lead t all.0, all_leads starts places n lead ts all.1)

all_rows : (starts places : List ℕ) (n : ℕ) → ((t : ℕ) → t < n → Leads starts places t) → (rows : List Row) → AllByRecursion (IsRow n) rows → AllByRecursion (IsRowFor starts places) rows
all_rows starts places n lead [] all = tt
all_rows starts places n lead (r ∷ rs) all = (record { leads = lead r.target all.0.target; key = all.0.key }, all_rows starts places n lead rs all.1)

pub draft_there : (pool : Pool) (major max_locals n : ℕ) (starts code places : List ℕ) (at : ℕ) (d : Draft) → ((t : ℕ) → t < n → Leads starts places t) → at + size at d < 65536
    → IsDraft pool major max_locals n d → reaches places at d ≡ true → Stands code at (draft_bytes places at d) → IsThere pool major max_locals starts code at (size at d)
unfolding draft_bytes shaped_at
draft_there pool major max_locals n starts code places at (draft.Bytes bytes) lead few is reach h = record {
  i = is.i;
  there = is.decodes.there code at h;
  length = sym is.decodes.size;
  operand = is.meets;
  jumps = is.straight starts code at;
}
draft_there pool major max_locals n starts code places at (draft.Jump op target) lead few is reach h =
    let p = and_parts (nat_le (slice_index places target) (at + 32767)) (nat_le at (slice_index places target + 32768)) reach in
    let up = leb-true (slice_index places target) (at + 32767) p.0 in
    let down = leb-true at (slice_index places target + 32768) p.1 in
    let leads : is_target starts at (s2 code (at + 1)) ≡ true = near_target code starts places at (at + 1) target (omega (arith, few)) (lead target is.2) up down (after_opcode code at op (big_bytes 2 (way places at target)) h) in
    record {
      i = made op 3 (plain.Jump (s2 code (at + 1)));
      there = by_opcode code at op shape.Jump (big_bytes 2 (way places at target)) is.0 is.1 h
          ∙ is_whole code at op 3 (plain.Jump (s2 code (at + 1))) (is_within code at 3 (big_bytes 1 op ++ big_bytes 2 (way places at target)) refl (omega arith) h);
      length = refl;
      operand = refl;
      jumps = and_from (is_target starts at (s2 code (at + 1))) true leads refl;
    }
draft_there pool major max_locals n starts code places at (draft.JumpWide op target) lead few is reach h =
    let here : Stands code at (big_bytes 1 0xc8 ++ big_bytes 4 (way places at target)) = subst (λ (m : ℕ). Stands code at (big_bytes 1 m ++ big_bytes 4 (way places at target))) is.0 h in
    let leads : is_target starts at (s4 code (at + 1)) ≡ true = far_target code starts places at (at + 1) target (omega (arith, few)) (lead target is.1) (after_opcode code at 0xc8 (big_bytes 4 (way places at target)) here) in
    record {
      i = made 0xc8 5 (plain.Jump (s4 code (at + 1)));
      there = by_opcode code at 0xc8 shape.JumpWide (big_bytes 4 (way places at target)) (omega arith) refl here
          ∙ is_whole code at 0xc8 5 (plain.Jump (s4 code (at + 1))) (is_within code at 5 (big_bytes 1 0xc8 ++ big_bytes 4 (way places at target)) refl (omega arith) here);
      length = refl;
      operand = refl;
      jumps = and_from (is_target starts at (s4 code (at + 1))) true leads refl;
    }
draft_there pool major max_locals n starts code places at (draft.Table low fallback targets) lead few is reach h =
    let t = table_there code starts places at low fallback targets (omega (arith, few)) is.0 is.1 is.2 (lead fallback is.3) (all_leads starts places n lead targets is.4) h in
    let o = t.switch.operand in
    record {
      i = t.switch.i;
      there = t.switch.there;
      length = t.switch.length;
      operand = ap (λ z. all_hold (operand_checks pool major max_locals t.switch.i.opcode z)) o;
      jumps = ap (λ z. all_hold (jump_checks starts code at z)) o ∙ and_from _ _ t.targets (and_from _ _ t.order refl);
    }
draft_there pool major max_locals n starts code places at (draft.Lookup fallback rows) lead few is reach h =
    let few_rows : length rows < 65536 = omega (arith, few) in
    let t = lookup_there code starts places at fallback rows (omega (arith, few)) few_rows (lead fallback is.0) (all_rows starts places n lead rows is.1) is.2 h in
    let o = t.switch.operand in
    record {
      i = t.switch.i;
      there = t.switch.there;
      length = t.switch.length;
      operand = ap (λ z. all_hold (operand_checks pool major max_locals t.switch.i.opcode z)) o;
      jumps = ap (λ z. all_hold (jump_checks starts code at z)) o ∙ and_from _ _ t.targets (and_from _ _ t.order refl);
    }

-- ---- the draft of a line

-- a label before whose instruction the body goes on
label_leads : (labels : Labels) (name : List ℕ) → leads labels name ≡ true → number_of labels name < labels.instructions
label_leads labels name h = ltb-true (number_of labels name) labels.instructions h

labels_lead : (labels : Labels) (names : List (List ℕ)) → list_all (leads labels) names ≡ true → AllByRecursion (λ t. t < labels.instructions) (map (number_of labels) names)
labels_lead labels [] h = tt
labels_lead labels (name ∷ names) h =
    let p = and_parts (leads labels name) (list_all (leads labels) names) h in
    (label_leads labels name p.0, labels_lead labels names p.1)

rows_lead : (labels : Labels) (cases : List Case) → list_all (λ c. leads labels c.label) cases ≡ true → AllByRecursion (λ c. FitsSigned w32 c.key) cases
    → AllByRecursion (IsRow labels.instructions) (map (row_of labels) cases)
rows_lead labels [] h keys = tt
rows_lead labels (c ∷ cs) h keys =
    let p = and_parts (leads labels c.label) (list_all (λ d. leads labels d.label) cs) h in
    (record { target = label_leads labels c.label p.0; key = keys.0 }, rows_lead labels cs p.1 keys.1)

rows_ascend : (labels : Labels) (least : Option Case) (cases : List Case) → ascend least cases ≡ true → Ascend (map (row_of labels) cases)
unfolding ascend
rows_ascend labels least [] h = tt
rows_ascend labels least (c ∷ []) h = tt
rows_ascend labels least (c ∷ d ∷ cases) h =
    let p = and_parts (is_above least c) (is_above (Some c) d && ascend (Some d) cases) h in
    let q = and_parts (is_above (Some c) d) (ascend (Some d) cases) p.1 in
    (q.0, rows_ascend labels (Some c) (d ∷ cases) p.1)

length-names : (labels : Labels) (names : List (List ℕ)) → length (map (number_of labels) names) ≡ length names
length-names labels [] = refl
length-names labels (n ∷ ns) = ap suc (length-names labels ns)

abbrev bytes_draft : List Constant → ℕ → Bool → Operand → Labels → Draft
bytes_draft pool op wide o labels = drafted labels (in_file_or_zero pool (constant_of op o)) op wide o

pub drafted_is : (pool : List Constant) (major max_locals : ℕ) (labels : Labels) (op : ℕ) (wide : Bool) (o : Operand) → IsLawfulHere pool major max_locals op wide o → all_labels (leads labels) o ≡ true
    → IsDraft (pool_of pool) major max_locals labels.instructions (bytes_draft pool op wide o labels)
unfolding drafted
drafted_is pool major max_locals labels op false (operand.Jump label) h lead = by_jump h.said
  where
    narrow : (shape_of op ≡ Some shape.Jump) × ((op == 0xc8) ≡ false) → IsDraft (pool_of pool) major max_locals labels.instructions (jump_draft op (number_of labels label))
    narrow is = rw is.1 (h.small, is.0, label_leads labels label lead)

    by_jump : IsSaidJump op → IsDraft (pool_of pool) major max_locals labels.instructions (jump_draft op (number_of labels label))
    by_jump (inl is) = narrow is
    by_jump (inr is) = subst (λ (n : ℕ). IsDraft (pool_of pool) major max_locals labels.instructions (jump_draft n (number_of labels label))) (sym is) (refl, label_leads labels label lead)
drafted_is pool major max_locals labels op true (operand.Jump label) h lead = absurd h.said
drafted_is pool major max_locals labels op false (operand.Table t) h lead =
    let p = and_parts (leads labels t.fallback) (list_all (leads labels) t.labels) lead in
    let few_labels = length-names labels t.labels in
    let some = h.said.2 in
    (h.said.1, omega (arith, few_labels, some), rw few_labels h.said.3, label_leads labels t.fallback p.0, labels_lead labels t.labels p.1)
drafted_is pool major max_locals labels op true (operand.Table t) h lead = absurd h.said
drafted_is pool major max_locals labels op false (operand.Lookup l) h lead =
    let p = and_parts (leads labels l.fallback) (list_all (λ c. leads labels c.label) l.cases) lead in
    (label_leads labels l.fallback p.0, rows_lead labels l.cases p.1 h.said.1, rows_ascend labels None l.cases h.lawful)
drafted_is pool major max_locals labels op true (operand.Lookup l) h lead = absurd h.said
drafted_is pool major max_locals labels op wide operand.Nothing h lead = instruction_is pool major max_locals op wide operand.Nothing h refl
drafted_is pool major max_locals labels op wide (operand.Number n) h lead = instruction_is pool major max_locals op wide (operand.Number n) h refl
drafted_is pool major max_locals labels op wide (operand.Int n) h lead = instruction_is pool major max_locals op wide (operand.Int n) h refl
drafted_is pool major max_locals labels op wide (operand.Long n) h lead = instruction_is pool major max_locals op wide (operand.Long n) h refl
drafted_is pool major max_locals labels op wide (operand.Text t) h lead = instruction_is pool major max_locals op wide (operand.Text t) h refl
drafted_is pool major max_locals labels op wide (operand.Class name) h lead = instruction_is pool major max_locals op wide (operand.Class name) h refl
drafted_is pool major max_locals labels op wide (operand.Local n) h lead = instruction_is pool major max_locals op wide (operand.Local n) h refl
drafted_is pool major max_locals labels op wide (operand.Increment n k) h lead = instruction_is pool major max_locals op wide (operand.Increment n k) h refl
drafted_is pool major max_locals labels op wide (operand.Member m) h lead = instruction_is pool major max_locals op wide (operand.Member m) h refl
drafted_is pool major max_locals labels op wide (operand.Dimensions name n) h lead = instruction_is pool major max_locals op wide (operand.Dimensions name n) h refl
