-- What follows an outcome: an exception is handled in a frame whose local variables its handler finds, or ends the run.
use Rattle.std.proofs.Common.{Bool, List, None, Option, Some, [], ap, arith, codes, false, length, refl, subst, suc, sym, true, zero, ℕ, ◌++◌, ◌+◌, ◌-◌, ◌<◌, ◌∙◌, ◌∷◌, ◌≡◌}
use Rattle.std.proofs.lemmas.Bool.{lt-ltb}
use Rattle.std.proofs.lemmas.List.{length-append}
use Rattle.std.proofs.lemmas.List.Elements.{All-head, All-tail}
use Rattle.std.specs.Prelude.{All, if◌then◌else◌, ◌&&◌, ◌==◌}
use Rattle.vx_class.specs.declared.class_file.Catch.{Catch}
use Rattle.vx_class.specs.declared.class_file.Code.{Code}
use Rattle.vx_java.specs.FirstObjects.{string_object}
use Rattle.vx_java.specs.Ids.{as_class}
use Rattle.vx_java.specs.Machine.{Begin, Ended, Frame, Go, Native, Null, Object, Outcome, Raise, Ref, State, Throw, Top, Write, current_class, next_object, no_object, object_at, with_inits, with_objects}
use Rattle.vx_java.specs.Selection.{catches_of, covers, handler_for, handler_in, takes, takes_class}
use Rattle.vx_java.specs.Step.{next}
use Rattle.vx_java.specs.Throwing.{handler_of, is_error, next_after_raise, next_after_throw, next_in_handler, passed_object, passed_state, throwable, uncaught, unwind, with_wrapper}
use Rattle.vx_kept_facts.proofs.Sites.{length_inits}
use Rattle.vx_kept_facts.specs.Kept.{is_throwable}
use Rattle.vx_link.specs.ClassNames.{class_named, core_class}
use Rattle.vx_link.specs.Names.{class_name}
use Rattle.vx_link.specs.Parts.{class_count, method_at}
use Rattle.vx_link.specs.declared.program.Program.{Program}
use Rattle.vx_list.specs.Places.{item_or}
use Rattle.vx_sound.proofs.Assigned.{assigned, core_there}
use Rattle.vx_sound.proofs.Heaps.{IsLaterHeap, appended_later, appended_typed, callers_later, item_back, item_front, still, values_later}
use Rattle.vx_sound.proofs.Names.{core_class_type, core_type_is, named_here}
use Rattle.vx_sound.proofs.NewObjects.{exception_made, throwable_fits}
use Rattle.vx_sound.proofs.ClassTypes.{plain_type}
use Rattle.vx_sound.proofs.ClassNumbers.{plain_class}
use Rattle.vx_sound.proofs.Values.{none_some, some_same}
use Rattle.vx_sound.specs.Sound.{IsSound}
use Rattle.vx_sound.specs.Typed.{AreTypedStatics, AreTypedUnder, AreTypings, IsTypedFrame, IsTypedHeap, IsTypedNext, IsTypedObject, IsTypedOutcome, IsTypedState, IsTypedUnder, IsTypingOf, Typings}
use Rattle.vx_sound.specs.Values.{type_of_class, type_of_field, type_of_reference, types_of_values}
use Rattle.vx_types.proofs.FitLaws.{all_through, fits_itself}
use Rattle.vx_types.proofs.Lists.{list_fits}
use Rattle.vx_types.proofs.Tests.{both_first, both_second}
use Rattle.vx_types.specs.Fits.{all_fit, fits}
use Rattle.vx_types.specs.Ranked.{IsRanked}
use Rattle.vx_types.specs.Rows.{pool_of}
use Rattle.vx_types.specs.Types.{VerState, class_type, ref_of}
use Rattle.vx_types.specs.declared.types.ElementType.TheVariants as element
use Rattle.vx_types.specs.declared.types.VerType.{VerType}
use Rattle.vx_types.specs.declared.types.VerType.TheVariants as is
use Rattle.vx_value.specs.declared.key.Kind.{Kind}
use Rattle.vx_value.specs.declared.key.Kind.TheVariants.{Call, Init, Wait}
use Rattle.vx_value.specs.declared.slot.InitState.TheVariants.{Failed}
use Rattle.vx_verify.proofs.Forcing.{reached_below}
use Rattle.vx_verify.specs.Typing.{IsReached, caught, handler_state}

-- ---- frames that may handle

-- the position of a frame is covered with types that its local variables fit
pub record IsHandling (p : Program) (typings : Typings) (heap : List Object) (f : Frame) : Type 0 where
  pub state : VerState
  pub covered : typings f.method f.position ≡ Some state
  pub locals : all_fit p (types_of_values p heap f.locals) state.locals ≡ true

-- an object of a Throwable class is thrown in a heap with statics that are typed
pub record IsThrown (p : Program) (s : State) (r : ℕ) : Type 0 where
  pub heap : IsTypedHeap p s.heap
  pub statics : AreTypedStatics p s
  pub inits : length s.inits ≡ class_count p
  pub there : r < length s.heap
  pub throwable : is_throwable p (object_at s r).class ≡ true

-- a state in which an object is thrown, in a heap that came later
pub record HasPassed (p : Program) (s t : State) (r : ℕ) : Type 0 where
  pub later : IsLaterHeap s.heap t.heap
  pub thrown : IsThrown p t r

module _ (p : Program) (typings : Typings) (sound : IsSound p) (are : AreTypings p typings) where
  ranked : IsRanked p
  ranked = sound.hierarchy.ranked

  frame_handles : (heap : List Object) (f : Frame) → IsTypedFrame p typings heap f → IsHandling p typings heap f
  frame_handles heap f reached = record { state = reached.state; covered = reached.covered; locals = reached.fitting.locals }

  under_handles : (heap : List Object) (kind : Kind) (m : ℕ) (f : Frame) → IsTypedUnder p typings heap kind m f → IsHandling p typings heap f
  under_handles heap Call m f is = record { state = is.state; covered = is.covered; locals = is.locals }
  under_handles heap Init m f is = frame_handles heap f is
  under_handles heap Wait m f is = frame_handles heap f is

  handles_later : (heap later : List Object) → IsLaterHeap heap later → (f : Frame) → IsHandling p typings heap f → IsHandling p typings later f
  handles_later heap later grows f is = record {
    state = is.state;
    covered = is.covered;
    locals = all_through p ranked (types_of_values p later f.locals) (types_of_values p heap f.locals) is.state.locals (values_later p ranked heap later grows f.locals) is.locals;
  }

  -- ---- handlers

  -- what a row takes is of the type with which its handler begins
  caught_fits : (m : ℕ) (row : Catch) (class : ℕ) → is_throwable p class ≡ true → takes p (pool_of p m) row class ≡ true → fits p (type_of_class p class) (caught p m row) ≡ true
  caught_fits m row class throws took = by (row.class == 0) took
    where
      by_class : (o : Option ℕ) → class_named p (class_name (pool_of p m) row.class) ≡ o → takes_class p class o ≡ true
          → fits p (type_of_class p class) (ref_of p (class_name (pool_of p m) row.class)) ≡ true
      by_class None found k = absurd cc
      by_class (Some c) found k =
          subst (λ (t : VerType). fits p (type_of_class p class) t ≡ true) (sym (named_here p (class_name (pool_of p m) row.class) c found)) (assigned p sound.hierarchy sound.core class c k)

      by : (b : Bool) → (elim b [ true ↦ true | false ↦ takes_class p class (class_named p (class_name (pool_of p m) row.class)) ]) ≡ true
          → fits p (type_of_class p class) (ref_of p (if b then codes "java/lang/Throwable" else class_name (pool_of p m) row.class)) ≡ true
      by true k =
          let core = core_there p sound.core "java/lang/Throwable" refl in
          subst (λ (t : VerType). fits p (type_of_class p class) t ≡ true) (sym (core_type_is p false "java/lang/Throwable" core refl))
          (assigned p sound.hierarchy sound.core class (core_class p "java/lang/Throwable") throws)
      by false k = by_class (class_named p (class_name (pool_of p m) row.class)) refl k

  -- the local variables with what is thrown alone on the operands
  abbrev handled_types : List VerType → ℕ → VerState
  handled_types locals class = record { locals = locals; operands = type_of_class p class ∷ [] }

  row_reached : (m position class : ℕ) (locals : List VerType) (s : VerState) → is_throwable p class ≡ true → all_fit p locals s.locals ≡ true → (rows : List Catch)
      → All (λ row. covers row position ≡ true → IsReached p (typings m) row.handler (handler_state p m row s)) rows
      → (handler : ℕ) → handler_in p (pool_of p m) rows position class ≡ Some handler → IsReached p (typings m) handler (handled_types locals class)
  row_reached m position class locals s throws fit [] all handler found = none_some found
  row_reached m position class locals s throws fit (row ∷ rows) all handler found =
      by (covers row position && takes p (pool_of p m) row class) refl
      (λ k. row_reached m position class locals s throws fit rows (All-tail Reaches row rows all) handler k) found
    where
      Reaches : Catch → Type 0
      Reaches r = covers r position ≡ true → IsReached p (typings m) r.handler (handler_state p m r s)

      by : (b : Bool) → (covers row position && takes p (pool_of p m) row class) ≡ b
          → (handler_in p (pool_of p m) rows position class ≡ Some handler → IsReached p (typings m) handler (handled_types locals class))
          → (elim b [ true ↦ Some row.handler | false ↦ handler_in p (pool_of p m) rows position class ]) ≡ Some handler → IsReached p (typings m) handler (handled_types locals class)
      by true e later k =
          let covered = both_first (covers row position) (takes p (pool_of p m) row class) e in
          let took = both_second (covers row position) (takes p (pool_of p m) row class) e in
          subst (λ n. IsReached p (typings m) n (handled_types locals class)) (some_same k)
          (reached_below p ranked (typings m) row.handler (handled_types locals class) (handler_state p m row s)
          (record { locals = fit; operands = list_fits p (type_of_class p class) (caught p m row) [] [] (caught_fits m row class throws took) refl })
          (All-head Reaches row rows all covered))
      by false e later k = later k

  handler_reached : (m position class : ℕ) (locals : List VerType) (s : VerState) → typings m position ≡ Some s → is_throwable p class ≡ true → all_fit p locals s.locals ≡ true
      → (handler : ℕ) → handler_for p m position class ≡ Some handler → IsReached p (typings m) handler (handled_types locals class)
  handler_reached m position class locals s covered throws fit handler found = by (method_at p m).code (are m) found
    where
      by : (o : Option Code) → IsTypingOf p m o (typings m) → handler_in p (pool_of p m) (catches_of o) position class ≡ Some handler → IsReached p (typings m) handler (handled_types locals class)
      by None is k = none_some k
      by (Some code) is k = row_reached m position class locals s throws fit code.catches (is.handlers position s covered) handler k

  handler_known : (s : State) (kind : Kind) (r handler : ℕ) → handler_of p s kind r ≡ Some handler → handler_for p s.top.method s.top.position (object_at s r).class ≡ Some handler
  handler_known s Call r handler found = found
  handler_known s Init r handler found = found
  handler_known s Wait r handler found = none_some found

  pub reference_there : (heap : List Object) (r : ℕ) → r < length heap → type_of_reference p heap r ≡ type_of_class p (item_or heap r no_object).class
  reference_there heap r there = ap (λ b. if b then type_of_class p (item_or heap r no_object).class else is.Top) (lt-ltb r (length heap) there)

  handled : (s : State) (r handler : ℕ) → IsThrown p s r → IsHandling p typings s.heap s.top → AreTypedUnder p typings s.heap s.top.kind s.top.method s.callers → handler_of p s s.top.kind r ≡ Some handler
      → IsTypedNext p typings (next_in_handler s r handler)
  handled s r handler thrown handling under found = record {
    heap = thrown.heap;
    statics = thrown.statics;
    inits = thrown.inits;
    top =
        subst (λ (t : VerType). IsReached p (typings s.top.method) handler (record { locals = types_of_values p s.heap s.top.locals; operands = t ∷ [] })) (sym (reference_there s.heap r thrown.there))
        (handler_reached s.top.method s.top.position (object_at s r).class (types_of_values p s.heap s.top.locals) handling.state handling.covered thrown.throwable handling.locals handler
        (handler_known s s.top.kind r handler found));
    callers = under;
  }

  -- ---- frames that are passed

  stays : (s : State) (r : ℕ) → IsThrown p s r → HasPassed p s s r
  stays s r thrown = record { later = record { more = omega arith; same = λ k less. refl }; thrown = thrown }

  marked : (s : State) (r c : ℕ) → IsThrown p s r → IsThrown p (with_inits s Failed (c ∷ [])) r
  marked s r c thrown = record {
    heap = thrown.heap;
    statics = thrown.statics;
    inits = length_inits s.inits Failed (c ∷ []) ∙ thrown.inits;
    there = thrown.there;
    throwable = thrown.throwable;
  }

  -- an object behind all others is thrown
  appended : (s : State) (objects : List Object) (k r : ℕ) → IsTypedHeap p s.heap → AreTypedStatics p s → length s.inits ≡ class_count p
      → ((i : ℕ) → i < length objects → IsTypedObject p (s.heap ++ objects) (item_or objects i no_object)) → k < length objects → r ≡ length s.heap + k
      → is_throwable p (item_or objects k no_object).class ≡ true → HasPassed p s (with_objects s objects) r
  appended s objects k r heap statics inits each less place throws =
      let size = length-append s.heap objects in
      let later = appended_later s.heap objects in
      record {
        later = later;
        thrown = record {
          heap = appended_typed p ranked s.heap objects heap each;
          statics = λ f static. still p ranked s.heap (s.heap ++ objects) later (item_or s.statics f Top) (type_of_field p f) (statics f static);
          inits = inits;
          there = omega (arith, size, less, place);
          throwable = subst (λ (o : Object). is_throwable p o.class ≡ true) (sym (item_back s.heap objects r k no_object place)) throws;
        };
      }

  throwable_type : (heap : List Object) (r : ℕ) → r < length heap → is_throwable p (item_or heap r no_object).class ≡ true
      → fits p (type_of_reference p heap r) (class_type p (core_class p "java/lang/Throwable")) ≡ true
  throwable_type heap r there throws =
      let core = core_there p sound.core "java/lang/Throwable" refl in
      subst (λ (t : VerType). fits p (type_of_reference p heap r) t ≡ true)
      (sym (core_class_type p "java/lang/Throwable" core) ∙ plain_type p (core_class p "java/lang/Throwable") (plain_class p (core_class p "java/lang/Throwable") core.within))
      (subst (λ (t : VerType). fits p t (is.Ref 0 (element.Class (as_class (core_class p "java/lang/Throwable")))) ≡ true) (sym (reference_there heap r there)) (throwable_fits p sound (item_or heap r no_object).class throws))

  wrapped : (s : State) (r : ℕ) → IsThrown p s r → HasPassed p s (with_wrapper p s r) (next_object s)
  wrapped s r thrown =
      appended s (wrapper ∷ []) 0 (next_object s) thrown.heap thrown.statics thrown.inits each (omega arith) (omega arith) sound.objects.wraps
    where
      wrapper : Object
      wrapper = throwable p (core_class p "java/lang/ExceptionInInitializerError") Null (Ref r)

      cause : fits p (type_of_reference p (s.heap ++ (wrapper ∷ [])) r) (class_type p (core_class p "java/lang/Throwable")) ≡ true
      cause =
          let size = length-append s.heap (wrapper ∷ []) in
          let there = thrown.there in
          throwable_type (s.heap ++ (wrapper ∷ [])) r (omega (arith, size, there))
          (subst (λ (o : Object). is_throwable p o.class ≡ true) (sym (item_front s.heap (wrapper ∷ []) r no_object thrown.there)) thrown.throwable)

      each : (i : ℕ) → i < length (wrapper ∷ []) → IsTypedObject p (s.heap ++ (wrapper ∷ [])) (item_or (wrapper ∷ []) i no_object)
      each zero less = exception_made p sound (s.heap ++ (wrapper ∷ [])) (core_class p "java/lang/ExceptionInInitializerError") Null (Ref r) sound.objects.wraps refl cause
      each (suc i) less = absurd (omega (arith, less))

  left_initialisation : (s : State) (r : ℕ) → IsThrown p s r → (b : Bool)
      → HasPassed p s (with_inits (if b then s else with_wrapper p s r) Failed (current_class p s ∷ [])) (if b then r else next_object s)
  left_initialisation s r thrown true = let q = stays s r thrown in record { later = q.later; thrown = marked s r (current_class p s) q.thrown }
  left_initialisation s r thrown false = let q = wrapped s r thrown in record { later = q.later; thrown = marked (with_wrapper p s r) (next_object s) (current_class p s) q.thrown }

  passed : (s : State) (kind : Kind) (r : ℕ) → IsThrown p s r → HasPassed p s (passed_state p s kind r) (passed_object p s kind r)
  passed s Call r thrown = stays s r thrown
  passed s Init r thrown = left_initialisation s r thrown (is_error p s r)
  passed s Wait r thrown = left_initialisation s r thrown (is_error p s r)

  -- the frame below is the one that may handle
  below_thrown : (t : State) (r : ℕ) (f : Frame) (below : List Frame) → IsThrown p t r → IsThrown p (record t { top = f; callers = below }) r
  below_thrown t r f below thrown = record { heap = thrown.heap; statics = thrown.statics; inits = thrown.inits; there = thrown.there; throwable = thrown.throwable }

  unwound : (callers : List Frame) (s : State) (r : ℕ) → s.callers ≡ callers → IsThrown p s r → IsHandling p typings s.heap s.top
      → AreTypedUnder p typings s.heap s.top.kind s.top.method callers → IsTypedNext p typings (unwind p s r callers)
  unwound [] s r same thrown handling under = by (handler_of p s s.top.kind r) refl
    where
      by : (o : Option ℕ) → handler_of p s s.top.kind r ≡ o
          → IsTypedNext p typings (elim o [ Some handler ↦ next_in_handler s r handler | None ↦ uncaught p (passed_state p s s.top.kind r) (passed_object p s s.top.kind r) ])
      by (Some handler) found =
          handled s r handler thrown handling (subst (λ (fs : List Frame). AreTypedUnder p typings s.heap s.top.kind s.top.method fs) (sym same) tt) found
      by None found = refl
  unwound (f ∷ below) s r same thrown handling under =
      by (handler_of p s s.top.kind r) refl
      (unwound below (record (passed_state p s s.top.kind r) { top = f; callers = below }) (passed_object p s s.top.kind r) refl
      (below_thrown (passed_state p s s.top.kind r) (passed_object p s s.top.kind r) f below on.thrown)
      (handles_later s.heap (passed_state p s s.top.kind r).heap on.later f (under_handles s.heap s.top.kind s.top.method f under.0))
      (callers_later p ranked s.heap (passed_state p s s.top.kind r).heap on.later typings f.kind f.method below under.1))
    where
      on : HasPassed p s (passed_state p s s.top.kind r) (passed_object p s s.top.kind r)
      on = passed s s.top.kind r thrown

      by : (o : Option ℕ) → handler_of p s s.top.kind r ≡ o
          → IsTypedNext p typings (unwind p (record (passed_state p s s.top.kind r) { top = f; callers = below }) (passed_object p s s.top.kind r) below)
          → IsTypedNext p typings (elim o [
            | Some handler ↦ next_in_handler s r handler
            | None ↦ unwind p (record (passed_state p s s.top.kind r) { top = f; callers = below }) (passed_object p s s.top.kind r) below
          ])
      by (Some handler) found later =
          handled s r handler thrown handling (subst (λ (fs : List Frame). AreTypedUnder p typings s.heap s.top.kind s.top.method fs) (sym same) under) found
      by None found later = later

  -- ---- an object is thrown, a class is raised

  thrown_from : (s t : State) (r : ℕ) → IsTypedState p typings s → HasPassed p s t r → t.top ≡ s.top → t.callers ≡ s.callers → IsTypedNext p typings (next_after_throw p t r)
  thrown_from s t r typed on top callers =
      unwound t.callers t r refl on.thrown
      (subst (λ (f : Frame). IsHandling p typings t.heap f) (sym top) (handles_later s.heap t.heap on.later s.top (frame_handles s.heap s.top typed.top)))
      (subst (λ (f : Frame). AreTypedUnder p typings t.heap f.kind f.method t.callers) (sym top)
      (subst (λ (fs : List Frame). AreTypedUnder p typings t.heap s.top.kind s.top.method fs) (sym callers)
      (callers_later p ranked s.heap t.heap on.later typings s.top.kind s.top.method s.callers typed.callers)))

  raised_typed : (s : State) (class : ℕ) (message : Option (List ℕ)) → is_throwable p class ≡ true → IsTypedState p typings s → IsTypedNext p typings (next_after_raise p s class message)
  raised_typed s class None throws typed =
      thrown_from s (with_objects s (raised ∷ [])) (next_object s + 1 - 1) typed
      (appended s (raised ∷ []) 0 (next_object s + 1 - 1) typed.heap typed.statics typed.inits each (omega arith) (omega arith) throws) refl refl
    where
      raised : Object
      raised = throwable p class Null Null

      each : (i : ℕ) → i < length (raised ∷ []) → IsTypedObject p (s.heap ++ (raised ∷ [])) (item_or (raised ∷ []) i no_object)
      each zero less = exception_made p sound (s.heap ++ (raised ∷ [])) class Null Null throws refl refl
      each (suc i) less = absurd (omega (arith, less))
  raised_typed s class (Some message) throws typed =
      thrown_from s (with_objects s objects) (next_object s + 2 - 1) typed
      (appended s objects 1 (next_object s + 2 - 1) typed.heap typed.statics typed.inits each (omega arith) (omega arith) throws) refl refl
    where
      raised : Object
      raised = throwable p class (Ref (next_object s)) Null

      objects : List Object
      objects = string_object p message ∷ (raised ∷ [])

      of_message : fits p (type_of_reference p (s.heap ++ (string_object p message ∷ (raised ∷ []))) (length s.heap)) (class_type p (core_class p "java/lang/String")) ≡ true
      of_message =
          let core = core_there p sound.core "java/lang/String" refl in
          let size = length-append s.heap (string_object p message ∷ (raised ∷ [])) in
          subst (λ (t : VerType). fits p t (class_type p (core_class p "java/lang/String")) ≡ true)
          (sym (
          reference_there (s.heap ++ (string_object p message ∷ (raised ∷ []))) (length s.heap) (omega (arith, size))
          ∙ ap (λ (o : Object). type_of_class p o.class) (item_back s.heap (string_object p message ∷ (raised ∷ [])) (length s.heap) 0 no_object (omega arith))
          ∙ plain_type p (core_class p "java/lang/String") (plain_class p (core_class p "java/lang/String") core.within)
          ))
          (fits_itself p ranked (class_type p (core_class p "java/lang/String")))

      each : (i : ℕ) → i < length (string_object p message ∷ (raised ∷ [])) → IsTypedObject p (s.heap ++ (string_object p message ∷ (raised ∷ []))) (item_or (string_object p message ∷ (raised ∷ [])) i no_object)
      each zero less = sound.objects.strings (s.heap ++ (string_object p message ∷ (raised ∷ []))) message
      each (suc zero) less = exception_made p sound (s.heap ++ (string_object p message ∷ (raised ∷ []))) class (Ref (length s.heap)) Null throws of_message refl
      each (suc (suc i)) less = absurd (omega (arith, less))

  pub next_typed : (o : Outcome) → IsTypedOutcome p typings o → IsTypedNext p typings (next p o)
  next_typed (Go s) typed = typed
  next_typed (Raise class message s) typed = raised_typed s class message typed.0 typed.1
  next_typed (Throw r s) typed =
      thrown_from s s r typed.2
      (stays s r (record { heap = typed.2.heap; statics = typed.2.statics; inits = typed.2.inits; there = typed.0; throwable = typed.1 })) refl refl
  next_typed (Begin class s) typed = typed
  next_typed (Native m s) typed = typed.0
  next_typed (Write stream units s) typed = typed
  next_typed (Ended e) typed = typed
