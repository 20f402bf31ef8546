-- Where jumps lead: the offset that an operation has is that of its operand, and leads to an instruction.
use Rattle.std.proofs.Common.{Bool, List, Some, [], ap, arith, false, inl, inr, negsuc, pos, refl, suc, sym, true, true≢false, zero, ℕ, ℤ, ◌+ℤ◌, ◌<◌, ◌∙◌, ◌∷◌, ◌≡◌, ◌≢◌, ◌⊎◌}
use Rattle.std.proofs.Math.Dec.{eqb}
use Rattle.std.proofs.lemmas.Bool.Decides.{eqb_tells}
use Rattle.std.specs.List.{AllByRecursion}
use Rattle.std.specs.Prelude.{◌||◌}
use Rattle.vx_pool.specs.Checks.{all_hold}
use Rattle.vx_pool.specs.Holding.{and_true}
use Rattle.vx_pool.specs.Instructions.{all_below, is_start, is_target, jump_checks}
use Rattle.vx_java.specs.Machine.{Here}
use Rattle.vx_java.specs.Operation.{number_of, operation_of, rules}
use Rattle.vx_java.specs.declared.operation.Operation.{Operation}
use Rattle.vx_java.specs.declared.operation.Operation.TheVariants.{Goto, IfInt, IfInts, IfNull, IfSame, SwitchLookup, SwitchTable}
use Rattle.vx_jump_targets.specs.Placed.{starts_in}
use Rattle.vx_kept_facts.proofs.Forms.{formed, is_of_shape}
use Rattle.vx_kept_facts.proofs.RowClaims.{JumpsLead}
use Rattle.vx_kept_facts.proofs.Rules.{are_all, each_of, passes_or_is}
use Rattle.vx_kept_facts.proofs.Sites.{Lands}
use Rattle.vx_opcode.specs.Decode.{count, instruction_at}
use Rattle.vx_opcode.specs.Table.{shape_of}
use Rattle.vx_opcode.specs.declared.instruction.Instruction.{Instruction}
use Rattle.vx_opcode.specs.declared.instruction.Operand.{Operand}
use Rattle.vx_opcode.specs.declared.instruction.Operand.TheVariants as operand
use Rattle.vx_opcode.specs.declared.shape.Shape.TheVariants as shape
use Rattle.vx_value.specs.Arithmetic.{natural}

-- ---- a place to which a check leads

lands : (starts : List ℕ) (at : ℕ) (offset : ℤ) → is_target starts at offset ≡ true → is_start starts (natural (pos at +ℤ offset)) ≡ true
lands starts at offset is = by (pos at +ℤ offset) refl
  where
    by : (z : ℤ) → pos at +ℤ offset ≡ z → is_start starts (natural z) ≡ true
    by (pos n) e = rw e at is
    by (negsuc n) e = elim (true≢false (sym (rw e at is))) [ ]

below_passes : (n : ℕ) (test : ℕ → Bool) (k : ℕ) → all_below n test ≡ true → k < n → test k ≡ true
below_passes zero test k all less = absurd (omega (arith, less))
below_passes (suc n) test k all less = by (eqb_tells k n) (λ lower. below_passes n test k (and_true _ _ all).0 lower)
  where
    by : (((eqb k n ≡ true) × (k ≡ n)) ⊎ ((eqb k n ≡ false) × (k ≢ n))) → (k < n → test k ≡ true) → test k ≡ true
    by (inl last) later = ap test last.1 ∙ (and_true _ _ all).1
    by (inr other) later = later (omega (arith, less, other.1))

-- ---- the opcodes that jump, and all others

abbrev jump_opcodes : List ℕ
jump_opcodes =
    0x99 ∷ 0x9a ∷ 0x9b ∷ 0x9c ∷ 0x9d ∷ 0x9e ∷ 0x9f ∷ 0xa0 ∷ 0xa1 ∷ 0xa2 ∷ 0xa3 ∷ 0xa4 ∷ 0xa5 ∷ 0xa6 ∷ 0xa7 ∷ 0xc6 ∷ 0xc7 ∷ 0xc8 ∷ 0xaa ∷ 0xab ∷ []

abbrev is_no_jump : Operation → Bool
is_no_jump (IfInt test offset) = false
is_no_jump (IfInts test offset) = false
is_no_jump (IfSame wanted offset) = false
is_no_jump (IfNull wanted offset) = false
is_no_jump (Goto offset) = false
is_no_jump (SwitchTable fallback low high first) = false
is_no_jump (SwitchLookup fallback pairs first) = false
is_no_jump _ = true

no_jump_leads : (h : Here) (o : Operation) → is_no_jump o ≡ true → JumpsLead Lands h o
no_jump_leads h (IfInt test offset) e = absurd cc
no_jump_leads h (IfInts test offset) e = absurd cc
no_jump_leads h (IfSame wanted offset) e = absurd cc
no_jump_leads h (IfNull wanted offset) e = absurd cc
no_jump_leads h (Goto offset) e = absurd cc
no_jump_leads h (SwitchTable fallback low high first) e = absurd cc
no_jump_leads h (SwitchLookup fallback pairs first) e = absurd cc
no_jump_leads h _ e = tt

other_rules : (o : Operand) → are_all is_no_jump jump_opcodes o 0 rules ≡ true
other_rules operand.Nothing = refl
other_rules (operand.Number n) = refl
other_rules (operand.Local n) = refl
other_rules (operand.Increment n by) = refl
other_rules (operand.Jump n) = refl
other_rules (operand.Pool i) = refl
other_rules (operand.Interface i slots) = refl
other_rules (operand.Dimensions i d) = refl
other_rules (operand.Table fallback low high first) = refl
other_rules (operand.Lookup fallback pairs first) = refl

-- ---- where an instruction leads

module _ (h : Here) (i : Instruction) where
  abbrev Holds : Operand → Type 0
  Holds o = all_hold (jump_checks (starts_in h.code) h.code.bytes h.state.top.position o) ≡ true

  -- with another opcode it leads on where its operand is of the shape for it, and meets its checks
  abbrev LeadsWith : ℕ → Type 0
  LeadsWith n = is_of_shape (shape_of n) i.operand ≡ true → Holds i.operand → JumpsLead Lands h (operation_of (record i { opcode = n }))

  jump_of : (o : Operand) → is_of_shape (Some shape.Jump) o ≡ true → Holds o → Lands h (number_of o)
  jump_of (operand.Jump n) fits holds = lands (starts_in h.code) h.state.top.position n (and_true _ _ holds).0
  jump_of _ fits holds = absurd cc

  wide_jump_of : (o : Operand) → is_of_shape (Some shape.JumpWide) o ≡ true → Holds o → Lands h (number_of o)
  wide_jump_of (operand.Jump n) fits holds = lands (starts_in h.code) h.state.top.position n (and_true _ _ holds).0
  wide_jump_of _ fits holds = absurd cc

  table_of : (o : Operand) → is_of_shape (Some shape.Table) o ≡ true → Holds o → JumpsLead Lands h (operation_of (record { opcode = 0xaa; length = i.length; operand = o }))
  table_of (operand.Table fallback low high first) fits holds =
      let both = and_true _ _ (and_true _ _ holds).0 in
      (lands (starts_in h.code) h.state.top.position fallback both.0, λ k less. lands (starts_in h.code) h.state.top.position _ (below_passes (count low high) _ k both.1 less))
  table_of _ fits holds = absurd cc

  lookup_of : (o : Operand) → is_of_shape (Some shape.Lookup) o ≡ true → Holds o → JumpsLead Lands h (operation_of (record { opcode = 0xab; length = i.length; operand = o }))
  lookup_of (operand.Lookup fallback pairs first) fits holds =
      let both = and_true _ _ (and_true _ _ holds).0 in
      (lands (starts_in h.code) h.state.top.position fallback both.0, λ k less. lands (starts_in h.code) h.state.top.position _ (below_passes pairs _ k both.1 less))
  lookup_of _ fits holds = absurd cc

  each_leads : AllByRecursion LeadsWith jump_opcodes
  each_leads =
      let jump = jump_of i.operand in
      (jump, (jump, (jump, (jump, (jump, (jump, (jump, (jump, (jump, (jump, (jump, (jump, (jump, (jump, (jump, (jump, (jump, (wide_jump_of i.operand, (table_of i.operand, (lookup_of i.operand, tt))))))))))))))))))))

  -- the jumps of an instruction whose jumps are checked lead to instructions
  pub leads : instruction_at h.code.bytes h.state.top.position ≡ Some i → Holds i.operand → JumpsLead Lands h (operation_of i)
  leads is holds = by (is_no_jump (operation_of i)) refl (passes_or_is is_no_jump jump_opcodes i refl (other_rules i.operand))
    where
      by : (b : Bool) → is_no_jump (operation_of i) ≡ b → (b || is_start jump_opcodes i.opcode) ≡ true → JumpsLead Lands h (operation_of i)
      by true other any = no_jump_leads h (operation_of i) other
      by false other any = each_of LeadsWith jump_opcodes i.opcode each_leads any (formed h.code.bytes h.state.top.position i is) holds
