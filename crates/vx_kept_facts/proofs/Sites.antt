-- Where frames stand, and what a row may come to where its instruction stands.
use Rattle.std.proofs.Common.{Bool, List, Option, Some, [], ap, bytes_eq, codes, false, length, refl, subst, true, unwrap_or, ℕ, ℤ, ◌+◌, ◌∙◌, ◌∷◌, ◌≡◌}
use Prim.Native.String.{String}
use Rattle.std.proofs.lemmas.Bool.{or_left}
use Rattle.std.proofs.lemmas.List.{length-set}
use Rattle.std.proofs.lemmas.Slice.Eq.{bytes_eq-Decides}
use Rattle.std.specs.List.{list_all, list_any}
use Rattle.std.specs.Prelude.{slice_set, ◌||◌}
use Rattle.vx_class.specs.declared.class_file.Code.{Code}
use Rattle.vx_pool.specs.Holding.{and_true}
use Rattle.vx_pool.specs.Instructions.{is_start}
use Rattle.vx_java.specs.Jumps.{target}
use Rattle.vx_java.specs.Machine.{Begin, Ended, Frame, Go, Here, Native, Object, Outcome, Raise, State, Throw, Value, Write, in_state, inits_with, object_at, with_inits}
use Rattle.vx_jump_targets.specs.Placed.{starts_in}
use Rattle.vx_kept_facts.proofs.Claims.{Claim, is_raised, moved, moved_heap}
use Rattle.vx_kept_facts.specs.Kept.{is_at_instruction, is_code_end, is_instruction, is_throwable}
use Rattle.vx_kept_facts.specs.Law.{IsRunnable, raised}
use Rattle.vx_link.specs.ClassNames.{class_of_name, core_class}
use Rattle.vx_link.specs.Parts.{class_count, method_at}
use Rattle.vx_link.specs.declared.program.Program.{Program}
use Rattle.vx_value.specs.declared.end.End.{End}
use Rattle.vx_value.specs.declared.end.Stream.{Stream}
use Rattle.vx_value.specs.declared.slot.InitState.{InitState}
use Rattle.vx_value.specs.declared.slot.InitState.TheVariants.{Done}

-- ---- where frames stand

-- an instruction of a code begins there, or the code ends
abbrev pub is_code_place : Option Code → ℕ → Bool
is_code_place code at = is_instruction code at || is_code_end code at

-- the frame on top stands at a place that passes a test, each caller at an instruction, and each class has a state of initialisation
pub record Stand (test : Option Code → ℕ → Bool) (p : Program) (states method position : ℕ) (callers : List Frame) : Type 0 where
  pub top : test (method_at p method).code position ≡ true
  pub below : list_all (is_at_instruction p) callers ≡ true
  pub classes : states ≡ class_count p

abbrev pub StandsAtPlace : Program → State → Type 0
StandsAtPlace p s = Stand is_code_place p (length s.inits) s.top.method s.top.position s.callers

abbrev pub StandsAtInstruction : Program → State → Type 0
StandsAtInstruction p s = Stand is_instruction p (length s.inits) s.top.method s.top.position s.callers

-- where the frames stand after an attempt, and what it raises or throws
abbrev pub Leaves : Program → Outcome → Type 0
Leaves p (Go s) = StandsAtPlace p s
Leaves p (Raise class message s) = (is_throwable p class ≡ true) × StandsAtInstruction p s
Leaves p (Throw r s) = (is_throwable p (object_at s r).class ≡ true) × StandsAtInstruction p s
Leaves p (Begin class s) = StandsAtInstruction p s
Leaves p (Native method s) = StandsAtInstruction p s
Leaves p (Write stream units s) = StandsAtPlace p s
Leaves p (Ended end) = Unit {0}

-- what an attempt may come to
pub record MayCome (p : Program) (o : Outcome) : Type 0 where
  pub leaves : Leaves p o

-- ---- where an instruction stands

pub record AtSite (h : Here) : Type 0 where
  pub whole : IsRunnable h.program
  pub code : (method_at h.program h.state.top.method).code ≡ Some h.code
  pub here : is_start (starts_in h.code) h.state.top.position ≡ true
  pub behind : is_code_place (Some h.code) (h.state.top.position + h.size) ≡ true
  pub below : list_all (is_at_instruction h.program) h.state.callers ≡ true
  pub classes : length h.state.inits ≡ class_count h.program

-- at the instruction
pub stays : (h : Here) → AtSite h → StandsAtInstruction h.program h.state
stays h at = record {
  top = ap (λ code. is_instruction code h.state.top.position) at.code ∙ at.here;
  below = at.below;
  classes = at.classes;
}

-- the run goes on behind the instruction, or with a text written
pub passes : (h : Here) {heap : List Object} {statics locals operands : List Value} → AtSite h → MayCome h.program (Go (moved h heap statics locals operands (h.state.top.position + h.size)))
passes h at = record {
  leaves = record {
    top = ap (λ code. is_code_place code (h.state.top.position + h.size)) at.code ∙ at.behind;
    below = at.below;
    classes = at.classes;
  };
}

pub writes : (h : Here) {heap : List Object} {statics locals operands : List Value} {stream : Stream} {units : List ℕ} → AtSite h
    → MayCome h.program (Write stream units (moved h heap statics locals operands (h.state.top.position + h.size)))
writes h at = record {
  leaves = record {
    top = ap (λ code. is_code_place code (h.state.top.position + h.size)) at.code ∙ at.behind;
    below = at.below;
    classes = at.classes;
  };
}

-- a jump leads to an instruction
abbrev pub Lands : Here → ℤ → Type 0
Lands h offset = is_start (starts_in h.code) (target h offset) ≡ true

-- or at another instruction of the code
pub reaches : (h : Here) {heap : List Object} {statics locals operands : List Value} → AtSite h → (to : ℕ) → is_start (starts_in h.code) to ≡ true
    → MayCome h.program (Go (moved h heap statics locals operands to))
reaches h at to start = record {
  leaves = record {
    top = ap (λ code. is_code_place code to) at.code ∙ or_left (is_start (starts_in h.code) to) (is_code_end (Some h.code) to) start;
    below = at.below;
    classes = at.classes;
  };
}

pub ends : (h : Here) {end : End} → MayCome h.program (Ended end)
ends h = record { leaves = tt }

-- ---- exceptions

throwable_among : (p : Program) (names : List String) (name : String) → list_all (λ n. is_throwable p (core_class p n)) names ≡ true
    → list_any (λ n. bytes_eq (codes n) (codes name)) names ≡ true → is_throwable p (core_class p name) ≡ true
throwable_among p [] name all among = cc
throwable_among p (n ∷ names) name all among =
    by (bytes_eq (codes n) (codes name)) refl (λ later. throwable_among p names name (and_true _ _ all).1 later) among
  where
    P : List ℕ → Type 0
    P text = is_throwable p (unwrap_or (class_of_name p text) 0) ≡ true

    by : (b : Bool) → bytes_eq (codes n) (codes name) ≡ b
        → (list_any (λ n. bytes_eq (codes n) (codes name)) names ≡ true → is_throwable p (core_class p name) ≡ true)
        → (b || list_any (λ n. bytes_eq (codes n) (codes name)) names) ≡ true → is_throwable p (core_class p name) ≡ true
    by true same later among = subst P ((bytes_eq-Decides (codes n) (codes name)).0 same) (and_true _ _ all).0
    by false other later among = later among

pub throwable : (p : Program) → IsRunnable p → (name : String) → is_raised name ≡ true → is_throwable p (core_class p name) ≡ true
throwable p whole name among = throwable_among p raised name whole.throwable among

pub raises : (h : Here) {message : Option (List ℕ)} {heap : List Object} → AtSite h → (name : String) → is_raised name ≡ true
    → MayCome h.program (Raise (core_class h.program name) message (moved_heap h heap))
raises h at name among = record { leaves = (throwable h.program at.whole name among, stays h at) }

-- so where frames stand may be said of each outcome
abbrev pub kept : Claim
kept = record {
  At = AtSite;
  May = MayCome;
  passes = λ h {heap = heap} {statics = statics} {locals = locals} {operands = operands} at. passes h {heap = heap} {statics = statics} {locals = locals} {operands = operands} at;
  writes = λ h {heap = heap} {statics = statics} {locals = locals} {operands = operands} {stream = stream} {units = units} at. writes h {heap = heap} {statics = statics} {locals = locals} {operands = operands} {stream = stream} {units = units} at;
  raises = λ h {message = message} {heap = heap} at name among. raises h {message = message} {heap = heap} at name among;
  breaks = λ h. ends h;
  exits = λ h code. ends h;
}

-- ---- initialisation

pub length_inits : (inits : List InitState) (i : InitState) (classes : List ℕ) → length (inits_with inits i classes) ≡ length inits
length_inits inits i [] = refl
length_inits inits i (c ∷ classes) = length_inits (slice_set inits c i) i classes ∙ length-set inits c i

pub initialised : (h : Here) → AtSite h → (chain : List ℕ) → AtSite (in_state h (with_inits h.state Done chain))
initialised h at chain = record {
  whole = at.whole;
  code = at.code;
  here = at.here;
  behind = at.behind;
  below = at.below;
  classes = length_inits h.state.inits Done chain ∙ at.classes;
}
