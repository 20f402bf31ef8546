-- Code that is written item by item: where its instructions stand, and what holds of each.
use Rattle.std.proofs.Common.{Bool, List, Some, [], ap, append_assoc, append-nil, arith, drop, length, length-append, mod-eq_of_lt, pos, refl, subst, sym, true, ℕ, ℤ, ◌%◌, ◌++◌, ◌+◌, ◌/◌, ◌<◌, ◌≤◌, ◌∙◌, ◌∷◌, ◌≡◌, ◌||◌}
use Rattle.byteorder.specs.Endian.{big_bytes}
use Rattle.std.proofs.Math.Bool.{or-true}
use Rattle.std.proofs.Math.Seq.{drop-append_seam}
use Rattle.std.proofs.lemmas.List.Folds.{list_any-append}
use Rattle.std.specs.Int.{byte_at, cast_signed, w16}
use Rattle.std.specs.List.{AllByRecursion, flat_map, list_any}
use Rattle.std.specs.Prelude.{IsTrue}
use Rattle.vx_assembled.proofs.Bytes.{Stands, is_within}
use Rattle.vx_assembled.proofs.Decoded.{Decodes, after_opcode, by_opcode, interface_decodes, is_whole, made, pair_is, plain_decodes, pool_decodes}
use Rattle.vx_class.specs.File.{CodeHolds}
use Rattle.vx_pool.specs.Checks.{all_hold}
use Rattle.vx_pool.specs.Instructions.{AreInstructions, JumpsHold, OperandHolds, jump_checks, operand_checks}
use Rattle.vx_link.specs.Written.{Item, item_bytes, two_bytes}
use Rattle.vx_opcode.specs.Decode.{instruction_at, shaped_at, whole}
use Rattle.vx_opcode.specs.Numbers.{s2}
use Rattle.vx_opcode.specs.Table.{shape_of}
use Rattle.vx_opcode.specs.declared.instruction.Instruction.{Instruction}
use Rattle.vx_opcode.specs.declared.instruction.Operand.TheVariants as operand
use Rattle.vx_opcode.specs.declared.shape.Shape.TheVariants as shape
use Rattle.vx_pool.specs.declared.pool.Pool.{Pool}

-- ---- items

upper_is : (i : ℕ) → i < 65536 → byte_at 1 i ≡ i / 256
upper_is i few = omega (arith, few)

-- an opcode alone
abbrev pub simple : ℕ → Instruction
simple op = made op 1 operand.Nothing

pub plain_decoded : (op : ℕ) → op < 256 → shape_of op ≡ Some shape.Plain → Decodes (op ∷ []) (simple op)
plain_decoded op lt is =
    let same : op % 256 ≡ op = mod-eq_of_lt lt in
    subst (λ (b : ℕ). Decodes (b ∷ []) (simple op)) same (plain_decodes op lt is)

-- an opcode with an index
pub index_decodes : (op i : ℕ) → op < 256 → shape_of op ≡ Some shape.Pool → i < 65536 → Decodes (op ∷ two_bytes i) (made op 3 (operand.Pool i))
index_decodes op i lt is few =
    let first : op % 256 ≡ op = mod-eq_of_lt lt in
    let upper = upper_is i few in
    let same : ◌≡◌ {A = List ℕ} (big_bytes 1 op ++ big_bytes 2 i) (op ∷ two_bytes i) = λ j. first j ∷ upper j ∷ (i % 256) ∷ [] in
    subst (λ (bytes : List ℕ). Decodes bytes (made op 3 (operand.Pool i))) same (pool_decodes op i lt is few)

-- invokeinterface
pub interface_item_decodes : (i n : ℕ) → i < 65536 → n < 256 → Decodes (0xb9 ∷ (two_bytes i ++ n ∷ 0 ∷ [])) (made 0xb9 5 (operand.Interface i n))
interface_item_decodes i n few slots =
    let upper = upper_is i few in
    let last : n % 256 ≡ n = mod-eq_of_lt slots in
    let same : ◌≡◌ {A = List ℕ} (big_bytes 1 0xb9 ++ (big_bytes 2 i ++ (big_bytes 1 n ++ big_bytes 1 0))) (0xb9 ∷ (two_bytes i ++ n ∷ 0 ∷ [])) =
    λ j. 0xb9 ∷ upper j ∷ (i % 256) ∷ last j ∷ 0 ∷ [] in
    subst (λ (bytes : List ℕ). Decodes bytes (made 0xb9 5 (operand.Interface i n))) same (interface_decodes 0xb9 i n (omega arith) refl few slots)

-- a jump by a small distance
pub jump_decodes : (op d : ℕ) → op < 256 → shape_of op ≡ Some shape.Jump → d < 65536 → cast_signed w16 d ≡ pos d → Decodes (big_bytes 1 op ++ big_bytes 2 d) (made op 3 (operand.Jump (pos d)))
unfolding shaped_at s2
jump_decodes op d lt is few signed =
    let text = big_bytes 1 op ++ big_bytes 2 d in
    record {
      size = refl;
      some = omega arith;
      there = λ code at h.
          let by : s2 code (at + 1) ≡ pos d = ap (cast_signed w16) (pair_is code (at + 1) d few (after_opcode code at op (big_bytes 2 d) h)) ∙ signed in
          by_opcode code at op shape.Jump (big_bytes 2 d) lt is h
          ∙ ap (λ (z : ℤ). whole code at op 3 (operand.Jump z)) by
          ∙ is_whole code at op 3 (operand.Jump (pos d)) (is_within code at 3 text refl (omega arith) h);
    }

-- ---- items beside their instructions

abbrev pub AreDecoded : (at : ℕ) → List Item → List Instruction → Type 0
AreDecoded at [] [] = Unit {0}
AreDecoded at (x ∷ items) (i ∷ instructions) = Decodes (item_bytes at x) i × AreDecoded at items instructions
AreDecoded at [] (i ∷ instructions) = ⊥
AreDecoded at (x ∷ items) [] = ⊥

pub decoded_append : (at : ℕ) (items : List Item) (instructions : List Instruction) (more : List Item) (others : List Instruction) → AreDecoded at items instructions → AreDecoded at more others
    → AreDecoded at (items ++ more) (instructions ++ others)
decoded_append at [] [] more others first second = second
decoded_append at (x ∷ items) (i ∷ instructions) more others first second = (first.0, decoded_append at items instructions more others first.1 second)
decoded_append at [] (i ∷ instructions) more others first second = absurd first
decoded_append at (x ∷ items) [] more others first second = absurd first

-- ---- places

-- the places of instructions, from one on
abbrev pub places : ℕ → List Instruction → List ℕ
places p [] = []
places p (i ∷ instructions) = p ∷ places (p + i.length) instructions

abbrev pub end_of : ℕ → List Instruction → ℕ
end_of p [] = p
end_of p (i ∷ instructions) = end_of (p + i.length) instructions

pub places_append : (p : ℕ) (first second : List Instruction) → places p (first ++ second) ≡ places p first ++ places (end_of p first) second
places_append p [] second = refl
places_append p (i ∷ first) second = ap (λ rest. p ∷ rest) (places_append (p + i.length) first second)

-- what holds of each instruction at its place
abbrev pub AllAt : (ℕ → Instruction → Type 0) → ℕ → List Instruction → Type 0
AllAt P p [] = Unit {0}
AllAt P p (i ∷ instructions) = P p i × AllAt P (p + i.length) instructions

pub all_at_append : (P : ℕ → Instruction → Type 0) (p : ℕ) (first second : List Instruction) → AllAt P p first → AllAt P (end_of p first) second → AllAt P p (first ++ second)
all_at_append P p [] second left right = right
all_at_append P p (i ∷ first) second left right = (left.0, all_at_append P (p + i.length) first second left.1 right)

-- what stands in the code at a place
pub record IsThere (P : ℕ → Instruction → Type 0) (code : List ℕ) (p : ℕ) : Type 0 where
  pub i : Instruction
  pub there : instruction_at code p ≡ Some i
  pub holds : P p i

pub record Walks (P : ℕ → Instruction → Type 0) (code : List ℕ) (p : ℕ) (starts : List ℕ) : Type 0 where
  pub instructions : AreInstructions code p starts
  pub each : AllByRecursion (IsThere P code) starts

stands_here : (code : List ℕ) (before text rest : List ℕ) (p : ℕ) → code ≡ before ++ (text ++ rest) → length before ≡ p → Stands code p text
stands_here code before text rest p is count =
    (rest, ap (drop p) is ∙ ap (λ (k : ℕ). drop k (before ++ (text ++ rest))) (sym count) ∙ drop-append_seam before (text ++ rest))

pub walk : (P : ℕ → Instruction → Type 0) (at : ℕ) (items : List Item) (instructions : List Instruction) (code before : List ℕ) (p : ℕ) → AreDecoded at items instructions → AllAt P p instructions
    → code ≡ before ++ flat_map (item_bytes at) items → length before ≡ p → Walks P code p (places p instructions)
walk P at [] [] code before p decoded holds is count =
    record { instructions = sym count ∙ ap (length {A = ℕ}) (sym (append-nil before) ∙ sym is); each = tt }
walk P at (x ∷ items) (i ∷ instructions) code before p decoded holds is count =
    let text = item_bytes at x in
    let rest = flat_map (item_bytes at) items in
    let there = decoded.0.there code p (stands_here code before text rest p is count) in
    let longer : length (before ++ text) ≡ p + i.length = let l = length-append before text in let s = decoded.0.size in omega (arith, l, s, count) in
    let others = walk P at items instructions code (before ++ text) (p + i.length) decoded.1 holds.1 (is ∙ sym (append_assoc before text rest)) longer in
    record {
      instructions = (refl, i, there, others.instructions);
      each = (record { i = i; there = there; holds = holds.0 }, others.each);
    }
walk P at [] (i ∷ instructions) code before p decoded holds is count = absurd decoded
walk P at (x ∷ items) [] code before p decoded holds is count = absurd decoded

-- ---- starts

pub any_left : (test : ℕ → Bool) (xs ys : List ℕ) → list_any test xs ≡ true → list_any test (xs ++ ys) ≡ true
any_left test xs ys is = list_any-append test xs ys ∙ ap (λ b. b || list_any test ys) is

pub any_right : (test : ℕ → Bool) (xs ys : List ℕ) → list_any test ys ≡ true → list_any test (xs ++ ys) ≡ true
any_right test xs ys is = list_any-append test xs ys ∙ ap (λ b. list_any test xs || b) is ∙ or-true (list_any test xs)

-- ---- code that meets its checks

abbrev pub Meets : Pool → (major max_locals : ℕ) → ℕ → Instruction → Type 0
Meets pool major max_locals p i = IsTrue (all_hold (operand_checks pool major max_locals i.opcode i.operand))

-- each jump leads to one of these places
abbrev pub Leads : List ℕ → ℕ → Instruction → Type 0
Leads starts p i = (code : List ℕ) → IsTrue (all_hold (jump_checks starts code p i.operand))

-- both at once
both_at : (P Q : ℕ → Instruction → Type 0) (p : ℕ) (instructions : List Instruction) → AllAt P p instructions → AllAt Q p instructions → AllAt (λ k i. P k i × Q k i) p instructions
both_at P Q p [] first second = tt
both_at P Q p (i ∷ instructions) first second = ((first.0, second.0), both_at P Q (p + i.length) instructions first.1 second.1)

operands_hold : (pool : Pool) (major max_locals : ℕ) (starts code ps : List ℕ) → AllByRecursion (IsThere (λ p i. Meets pool major max_locals p i × Leads starts p i) code) ps
    → AllByRecursion (OperandHolds pool major max_locals code) ps
operands_hold pool major max_locals starts code [] each = tt
operands_hold pool major max_locals starts code (p ∷ ps) each = ((each.0.i, each.0.there, each.0.holds.0), operands_hold pool major max_locals starts code ps each.1)

jumps_hold : (pool : Pool) (major max_locals : ℕ) (starts code ps : List ℕ) → AllByRecursion (IsThere (λ p i. Meets pool major max_locals p i × Leads starts p i) code) ps
    → AllByRecursion (JumpsHold starts code) ps
jumps_hold pool major max_locals starts code [] each = tt
jumps_hold pool major max_locals starts code (p ∷ ps) each = ((each.0.i, each.0.there, each.0.holds.1 code), jumps_hold pool major max_locals starts code ps each.1)

pub code_holds : (pool : Pool) (major slots max_stack max_locals at : ℕ) (items : List Item) (instructions : List Instruction) → AreDecoded at items instructions
    → AllAt (Meets pool major max_locals) 0 instructions → AllAt (Leads (places 0 instructions)) 0 instructions
    → max_stack < 65536 → max_locals < 65536 → slots ≤ max_locals → 0 < length (flat_map (item_bytes at) items) → length (flat_map (item_bytes at) items) < 65536
    → CodeHolds pool major slots (record { max_stack = max_stack; max_locals = max_locals; bytes = flat_map (item_bytes at) items; catches = [] })
code_holds pool major slots max_stack max_locals at items instructions decoded meet lead stack locals arguments some few =
    let starts = places 0 instructions in
    let code = flat_map (item_bytes at) items in
    let walks = walk (λ p i. Meets pool major max_locals p i × Leads starts p i) at items instructions code [] 0 decoded (both_at (Meets pool major max_locals) (Leads starts) 0 instructions meet lead) refl refl in
    record {
      stack = stack;
      locals = locals;
      arguments = arguments;
      some = some;
      few = few;
      starts = starts;
      instructions = walks.instructions;
      operands = operands_hold pool major max_locals starts code starts walks.each;
      jumps = jumps_hold pool major max_locals starts code starts walks.each;
      few_rows = omega arith;
      rows = tt;
    }
