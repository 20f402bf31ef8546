-- The return of the machine: the class of an initialisation is marked first, then the frame is left.
use Rattle.std.proofs.Common.{◌≡◌, ℕ, ◌≤◌, suc, Bool, true, false, List, [], ◌∷◌, ◌&&◌, refl, sym, ◌∙◌, ap, arith, map, length}
use Rattle.std.proofs.lemmas.Bool.{lt-ltb}
use Rattle.std.specs.Prelude.{Some, None, if◌then◌else◌, is_some, nat_lt, not}
use Rattle.vx_class.specs.declared.class_file.Code.{Code}
use Rattle.vx_families.proofs.SlotSorts.{same_sort}
use Rattle.vx_families.specs.Bounds.{IsBounded, has_short_code}
use Rattle.vx_frames.specs.Unwinding.{is_call}
use Rattle.vx_families.specs.Sorts.{slot_is_of, top_of}
use Rattle.vx_families.proofs.ShortPools.{below, item_passes}
use Rattle.vx_frames.specs.Entering.{with_frame}
use Rattle.vx_frames.specs.Waking.{state_awake}
use Rattle.vx_group_states.specs.Sites.{here}
use Rattle.vx_group_states.specs.declared.site.Site.{Site}
use Rattle.vx_families.specs.Changing.{with_globals}
use Rattle.vx_heap.specs.Heap.{Globals, HeapView, value_of}
use Rattle.vx_java.specs.Checks.{is_of}
use Rattle.vx_java.specs.Machine.{Ended, Frame, Go, Here, State, Value, current_class, illegal, place_at, when}
use Rattle.vx_java.specs.Returns.{fits_caller, frame_resumed, return_to, return_value, values_returned}
use Rattle.vx_java.specs.declared.operation.Sort.{Sort}
use Rattle.vx_java.specs.declared.operation.Sort.TheVariants.{Int as IntSort, Long as LongSort, Reference}
use Rattle.vx_link.specs.Parts.{method_at, no_method}
use Rattle.vx_link.specs.declared.program.LinkedMethod.{LinkedMethod}
use Rattle.vx_link.specs.declared.program.Program.{Program}
use Rattle.vx_ready.proofs.Rows.{globals_of}
use Rattle.vx_ready.specs.Initialising.{with_done}
use Rattle.vx_space.specs.Sets.{Sets}
use Rattle.vx_value.specs.declared.end.End.TheVariants.{Illegal, Return as ReturnEnd}
use Rattle.vx_value.specs.declared.key.Kind.{Kind}
use Rattle.vx_value.specs.declared.key.Kind.TheVariants.{Call, Init, Wait}
use Rattle.vx_value.specs.declared.slot.Slot.{Slot}
use Rattle.vx_returns.specs.Handing.{handed, left_by, left_to, received}
use Rattle.vx_returns.specs.declared.receiving.ReturnSite.{ReturnSite}

-- ---- the method

pub short_code : (p : Program) (n : ℕ) (code : Code) → IsBounded p → Some code ≡ (method_at p n).code → length code.bytes ≤ 65535
short_code p n code b e =
    let short = below (length code.bytes) (ap has_short_code e ∙ item_passes (λ (m : LinkedMethod). has_short_code m.code) p.methods n no_method b.codes refl) in
    omega (arith, short)

-- ---- marked, and then left

-- a frame is an initialisation, and another frame is below it
abbrev pub initialises : Kind → List Frame → Bool
initialises Call callers = false
initialises _ [] = false
initialises _ (f ∷ below) = true

-- that is told by how many frames are below it
pub initialises_by : (kind : Kind) (callers : List Frame) (n : ℕ) → length callers ≡ n → initialises kind callers ≡ (not (is_call kind) && nat_lt 1 (suc n))
initialises_by kind callers n e = by_cases kind callers ∙ ap (λ k. not (is_call kind) && nat_lt 1 (suc k)) e
  where
    by_cases : (kind : Kind) (callers : List Frame) → initialises kind callers ≡ (not (is_call kind) && nat_lt 1 (suc (length callers)))
    by_cases Call callers = refl
    by_cases Init [] = refl
    by_cases Init (f ∷ fs) = sym (lt-ltb 1 (suc (suc (length fs))) (omega arith))
    by_cases Wait [] = refl
    by_cases Wait (f ∷ fs) = sym (lt-ltb 1 (suc (suc (length fs))) (omega arith))

-- the globals in which its class is done
abbrev pub marked : Program → State → Kind → List Frame → Globals
marked p s kind callers = if initialises kind callers then with_done (current_class p s ∷ []) (globals_of s) else globals_of s

pub left_is_return : (site : Site) (s : State) (value : List Value) (kind : Kind) (callers : List Frame) → left_to (here site (with_globals s (marked site.program.now s kind callers))) kind value callers ≡ return_to (here site s) kind value callers
left_is_return site s value Call [] = refl
left_is_return site s value Init [] = refl
left_is_return site s value Wait [] = refl
left_is_return site s value Call (f ∷ below) = refl
left_is_return site s value Init (f ∷ below) = refl
left_is_return site s value Wait (f ∷ below) = refl

-- ---- the value that is handed back

chosen : {T : Type 0} (b : Bool) (v : T) → is_some (if b then Some v else None) ≡ b
chosen true v = refl
chosen false v = refl

-- a value of the sort is the one that is handed back
pub judged : (h : Here) (sort : Sort) (operands : List Value) (fits : Bool) → fits ≡ is_some (values_returned (Some sort) operands) → when fits (return_to h h.state.top.kind (handed true operands) h.state.callers) (illegal h) ≡ return_value h (values_returned (Some sort) operands)
judged h sort [] fits f = ap (λ b. when b (return_to h h.state.top.kind [] h.state.callers) (illegal h)) f
judged h sort (v ∷ rest) fits f = by_sort (is_of sort v) f
  where
    by_sort : (b : Bool) → fits ≡ is_some (if b then Some (v ∷ []) else None) → when fits (return_to h h.state.top.kind (v ∷ []) h.state.callers) (illegal h) ≡ return_value h (if b then Some (v ∷ []) else None)
    by_sort true e = ap (λ b. when b (return_to h h.state.top.kind (v ∷ []) h.state.callers) (illegal h)) e
    by_sort false e = ap (λ b. when b (return_to h h.state.top.kind (v ∷ []) h.state.callers) (illegal h)) e

no_sort : (sort : Sort) → slot_is_of sort (top_of []) ≡ false
no_sort IntSort = refl
no_sort LongSort = refl
no_sort Reference = refl

-- the slot on top is of the sort exactly where a value is handed back
pub handed_slot : {S I : Type 0} (sets : Sets I) (heap : HeapView S I) (c : List Bool) (sort : Sort) (slots : List Slot) → slot_is_of sort (top_of slots) ≡ is_some (values_returned (Some sort) (map (value_of sets heap c) slots))
handed_slot sets heap c sort [] = no_sort sort
handed_slot sets heap c sort (s ∷ ss) = sym (same_sort sets heap c sort s) ∙ sym (chosen (is_of sort (value_of sets heap c s)) (value_of sets heap c s ∷ []))

-- ---- the frame that is left, above the state of its caller

-- the caller past its call, with the value
abbrev pub resumed : Program → State → List Value → State
resumed p s value = record s { top = frame_resumed p s.top value }

pub left_call : (site : Site) (s : State) (f : Frame) (value : List Value) → f.kind ≡ Call → left_to (here site (with_frame s f)) f.kind value (s.top ∷ s.callers) ≡ when (fits_caller site.program.now s.top value) (Go (resumed site.program.now s value)) (Ended (Illegal (place_at site.program.now f.method f.position)))
left_call site s f value k = by_kind f.kind k
  where
    by_kind : (kind : Kind) → kind ≡ Call → left_to (here site (with_frame s f)) kind value (s.top ∷ s.callers) ≡ when (fits_caller site.program.now s.top value) (Go (resumed site.program.now s value)) (Ended (Illegal (place_at site.program.now f.method f.position)))
    by_kind Call k = refl
    by_kind Init k = cc k
    by_kind Wait k = cc k

pub left_waiting : (site : Site) (s : State) (f : Frame) (value : List Value) → is_call f.kind ≡ false → left_to (here site (with_frame s f)) f.kind value (s.top ∷ s.callers) ≡ Go (state_awake s)
left_waiting site s f value k = by_kind f.kind k
  where
    by_kind : (kind : Kind) → is_call kind ≡ false → left_to (here site (with_frame s f)) kind value (s.top ∷ s.callers) ≡ Go (state_awake s)
    by_kind Call k = cc k
    by_kind Init k = refl
    by_kind Wait k = refl

-- a value that is received by the caller past its call is one that is handed back to it
pub received_is : (p : Program) (at : ReturnSite) (s : State) (v : Value) → received p at v (resumed p s []) ≡ when (fits_caller p s.top (v ∷ [])) (Go (resumed p s (v ∷ []))) (Ended (Illegal (place_at p at.method.0 at.position)))
received_is p at s v = refl

-- the run ends with its first frame
pub left_first : (site : Site) (returns : Bool) (s : State) → s.callers ≡ [] → Ended ReturnEnd ≡ left_by site returns s
left_first site returns s e = ap (left_to (here site s) s.top.kind (handed returns s.top.operands)) (sym e)
