-- Where frames stand after any row: what it enters and where it returns to are instructions.
use Rattle.std.proofs.Common.{Bool, List, None, Option, Some, [], ap, arith, is_some, length, refl, subst, suc, true, zero, ℕ, ◌+◌, ◌∙◌, ◌∷◌, ◌≡◌}
use Rattle.std.proofs.lemmas.Bool.{ltb-true, or_left}
use Rattle.std.specs.Cmp.Derive.{both_true}
use Rattle.std.specs.List.{list_all}
use Rattle.vx_class.specs.declared.class_file.Code.{Code}
use Rattle.vx_pool.specs.Holding.{and_true}
use Rattle.vx_java.specs.Calls.{state_in_callee}
use Rattle.vx_java.specs.Machine.{Frame, Go, Here, Value, current_class, with_inits}
use Rattle.vx_java.specs.Returns.{bytes_of, frame_resumed, instruction_size, return_to}
use Rattle.vx_link.specs.Parts.{method_at, no_method}
use Rattle.vx_link.specs.declared.program.Program.{Program}
use Rattle.vx_list.specs.Places.{item_or}
use Rattle.vx_opcode.specs.Decode.{instruction_at}
use Rattle.vx_opcode.specs.declared.instruction.Instruction.{Instruction}
use Rattle.vx_value.specs.declared.key.Kind.{Kind}
use Rattle.vx_value.specs.declared.key.Kind.TheVariants.{Call}
use Rattle.vx_value.specs.declared.slot.InitState.TheVariants.{Done}
use Rattle.vx_kept_facts.proofs.Claims.{chosen}
use Rattle.vx_kept_facts.proofs.Places.{first_start, place_behind}
use Rattle.vx_kept_facts.proofs.RowClaims.{RowClaim}
use Rattle.vx_kept_facts.proofs.Sites.{AtSite, Lands, MayCome, Stand, ends, initialised, is_code_place, kept, length_inits, reaches, stays}
use Rattle.vx_kept_facts.specs.Kept.{is_at_instruction, is_code_end, is_instruction}
use Rattle.vx_kept_facts.specs.Law.{IsRunnable, has_bytes}
use Rattle.vx_java.specs.Jumps.{target}

-- ---- the start of a method

pub item_passes : {A : Type 0} (test : A → Bool) (xs : List A) (i : ℕ) (d : A) → list_all test xs ≡ true → test d ≡ true → test (item_or xs i d) ≡ true
item_passes test [] i d all other = other
item_passes test (x ∷ xs) zero d all other = (and_true _ _ all).0
item_passes test (x ∷ xs) (suc i) d all other = item_passes test xs i d (and_true _ _ all).1 other

begins_code : (code : Option Code) → is_some code ≡ true → has_bytes code ≡ true → is_instruction code 0 ≡ true
begins_code None some bytes = cc
begins_code (Some code) some bytes = first_start code.bytes (length code.bytes) 0 (ltb-true 0 (length code.bytes) bytes) (omega arith)

-- a method that has code begins with an instruction
pub begins : (p : Program) → IsRunnable p → (m : ℕ) → is_some (method_at p m).code ≡ true → is_instruction (method_at p m).code 0 ≡ true
begins p whole m some = begins_code (method_at p m).code some (item_passes (λ m. has_bytes m.code) p.methods m no_method whole.bytes refl)

-- ---- calls

pub pushes : (h : Here) → AtSite h → (m : ℕ) (code : Code) → (method_at h.program m).code ≡ Some code → (values rest : List Value) → MayCome h.program (Go (state_in_callee h m values rest))
pushes h at m code is values rest = record {
  leaves = record {
    top = or_left (is_instruction (method_at h.program m).code 0) (is_code_end (method_at h.program m).code 0) (begins h.program at.whole m (ap is_some is));
    below = both_true (stays h at).top at.below;
    classes = at.classes;
  };
}

-- ---- returns

stays_there : (code : Option Code) (at : ℕ) → is_instruction code at ≡ true → is_code_place code (at + 0) ≡ true
stays_there code at is =
    let same : at ≡ at + 0 = omega arith in
    subst (λ k. is_code_place code k ≡ true) same (or_left (is_instruction code at) (is_code_end code at) is)

pub behind_call : (code : Option Code) (at : ℕ) → is_instruction code at ≡ true → is_code_place code (at + instruction_size (instruction_at (bytes_of code) at)) ≡ true
behind_call None at is = cc
behind_call (Some code) at is = by (instruction_at code.bytes at) refl
  where
    by : (i : Option Instruction) → instruction_at code.bytes at ≡ i → is_code_place (Some code) (at + instruction_size i) ≡ true
    by None there = stays_there (Some code) at is
    by (Some i) there = place_behind code at i there is

-- the caller goes on behind its call
resumed : (h : Here) → AtSite h → (f : Frame) (below : List Frame) (value : List Value) → list_all (is_at_instruction h.program) (f ∷ below) ≡ true
    → MayCome h.program (Go (record (h.state) { top = frame_resumed h.program f value; callers = below }))
resumed h at f below value callers = record {
  leaves = record {
    top = behind_call (method_at h.program f.method).code f.position (and_true _ _ callers).0;
    below = (and_true _ _ callers).1;
    classes = at.classes;
  };
}

-- the frame below an initialisation is attempted again
again : (h : Here) → AtSite h → (f : Frame) (below : List Frame) → list_all (is_at_instruction h.program) (f ∷ below) ≡ true
    → Stand is_code_place h.program (length (with_inits h.state Done (current_class h.program h.state ∷ [])).inits) f.method f.position below
again h at f below callers = record {
  top = or_left (is_at_instruction h.program f) (is_code_end (method_at h.program f.method).code f.position) (and_true _ _ callers).0;
  below = (and_true _ _ callers).1;
  classes = length_inits h.state.inits Done (current_class h.program h.state ∷ []) ∙ at.classes;
}

pub return_to_comes : (h : Here) → AtSite h → (kind : Kind) (value : List Value) (callers : List Frame) → list_all (is_at_instruction h.program) callers ≡ true
    → MayCome h.program (return_to h kind value callers)
return_to_comes h at kind value [] below = ends h
return_to_comes h at Call value (f ∷ rest) below = chosen kept h.program _ _ _ (resumed h at f rest value below) (ends h)
return_to_comes h at _ value (f ∷ rest) below = record { leaves = again h at f rest below }

-- ---- rows

abbrev pub kept_rows : RowClaim
kept_rows = record {
  claim = kept;
  Lands = Lands;
  Begins = λ c. Unit {0};
  Lacks = λ word what. Unit {0};
  jumps = λ h at offset operands lands. reaches h at (target h offset) lands;
  throws = λ h at r is. record { leaves = (is, stays h at) };
  begins = λ h at c may. record { leaves = stays h at };
  lacks = λ h at word what may. ends h;
  natives = λ h at m. record { leaves = stays h at };
  enters = pushes;
  returns = λ h at kind value. return_to_comes h at kind value h.state.callers at.below;
  ready = initialised;
}
