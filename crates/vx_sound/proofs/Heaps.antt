-- Heaps that grow and whose cells change: objects keep their classes, so what was typed stays typed.
use Rattle.std.proofs.Common.{Bool, List, None, Option, Some, [], ap, arith, false, inl, inr, length, refl, subst, suc, sym, true, zero, ℕ, ◌++◌, ◌+◌, ◌-◌, ◌<◌, ◌∙◌, ◌∷◌, ◌≡◌, ◌≤◌, ◌⊎◌}
use Rattle.std.proofs.lemmas.Bool.{cases_lt, lt-ltb, ltb-true}
use Rattle.std.proofs.lemmas.List.{length-append, length-set}
use Rattle.std.specs.Prelude.{if◌then◌else◌, nat_lt, slice_set}
use Rattle.vx_java.specs.Machine.{Frame, Int, Long, Null, Object, Ref, State, Text, Top, Value, no_object}
use Rattle.vx_link.specs.Parts.{field_at}
use Rattle.vx_link.specs.declared.program.Program.{Program}
use Rattle.vx_list.specs.Places.{item_or}
use Rattle.vx_sound.specs.Typed.{AreTypedUnder, IsResumed, IsTypedCaller, IsTypedFrame, IsTypedHeap, IsTypedObject, IsTypedState, IsTypedUnder, Typings, position_behind, type_handed}
use Rattle.vx_sound.specs.Values.{cell_type, type_of_class, type_of_field, type_of_reference, type_of_value, types_of_frame, types_of_values}
use Rattle.vx_types.proofs.FitLaws.{all_through, fits_itself, fits_through}
use Rattle.vx_types.proofs.Lists.{list_fits}
use Rattle.vx_types.specs.Fits.{StateFits, all_fit, fits}
use Rattle.vx_types.specs.Ranked.{IsRanked}
use Rattle.vx_types.specs.declared.types.VerType.{VerType}
use Rattle.vx_types.specs.declared.types.VerType.TheVariants as is
use Rattle.vx_value.specs.declared.key.Kind.{Kind}
use Rattle.vx_value.specs.declared.key.Kind.TheVariants.{Call, Init, Wait}
use Rattle.vx_verify.proofs.Forcing.{reached_below}
use Rattle.vx_verify.proofs.Known.{item_set_elsewhere, item_set_here}
use Rattle.vx_verify.proofs.Putting.{is_or_not}

-- no object goes, and each keeps its class
pub record IsLaterHeap (heap later : List Object) : Type 0 where
  pub more : length heap ≤ length later
  pub same : (r : ℕ) → r < length heap → (item_or later r no_object).class ≡ (item_or heap r no_object).class

pub later_itself : (heap : List Object) → IsLaterHeap heap heap
later_itself heap = record { more = omega arith; same = λ r less. refl }

pub later_through : (heap next later : List Object) → IsLaterHeap heap next → IsLaterHeap next later → IsLaterHeap heap later
later_through heap next later one other =
    let first = one.more in
    let second = other.more in
    record { more = omega (arith, first, second); same = λ r less. other.same r (omega (arith, less, first)) ∙ one.same r less }

module _ (p : Program) (ranked : IsRanked p) (heap later : List Object) (grows : IsLaterHeap heap later) where
  -- ---- values

  reference_later : (r : ℕ) → fits p (type_of_reference p later r) (type_of_reference p heap r) ≡ true
  reference_later r = by (nat_lt r (length heap)) refl
    where
      there : r < length heap → type_of_reference p later r ≡ type_of_class p (item_or heap r no_object).class
      there less =
          let more = grows.more in
          ap (λ b. if b then type_of_class p (item_or later r no_object).class else is.Top) (lt-ltb r (length later) (omega (arith, less, more)))
          ∙ ap (type_of_class p) (grows.same r less)

      by : (b : Bool) → nat_lt r (length heap) ≡ b → fits p (type_of_reference p later r) (if b then type_of_class p (item_or heap r no_object).class else is.Top) ≡ true
      by true less =
          subst (λ (t : VerType). fits p t (type_of_class p (item_or heap r no_object).class) ≡ true) (sym (there (ltb-true r (length heap) less)))
          (fits_itself p ranked (type_of_class p (item_or heap r no_object).class))
      by false less = refl

  pub value_later : (v : Value) → fits p (type_of_value p later v) (type_of_value p heap v) ≡ true
  value_later Top = refl
  value_later (Int n) = refl
  value_later (Long n) = refl
  value_later Null = refl
  value_later (Ref r) = reference_later r
  value_later (Text units) = refl

  pub values_later : (values : List Value) → all_fit p (types_of_values p later values) (types_of_values p heap values) ≡ true
  values_later [] = refl
  values_later (v ∷ values) =
      list_fits p (type_of_value p later v) (type_of_value p heap v) (types_of_values p later values) (types_of_values p heap values) (value_later v) (values_later values)

  -- a value is of each type that it was of
  pub still : (v : Value) (t : VerType) → fits p (type_of_value p heap v) t ≡ true → fits p (type_of_value p later v) t ≡ true
  still v t fit = fits_through p ranked (type_of_value p later v) (type_of_value p heap v) t (value_later v) fit

  -- ---- objects

  pub object_later : (o : Object) → IsTypedObject p heap o → IsTypedObject p later o
  object_later o is = record {
    size = is.size;
    cells = λ array i less. still (item_or o.cells i Top) (cell_type p o.class) (is.cells array i less);
    fields = λ array f less has. still (item_or o.cells (field_at p f).cell Top) (type_of_field p f) (is.fields array f less has);
  }

  -- ---- frames

  pub frame_later : (f : Frame) → StateFits p (types_of_frame p later f) (types_of_frame p heap f)
  frame_later f = record { locals = values_later f.locals; operands = values_later f.operands }

  module _ (typings : Typings) where
    pub typed_frame_later : (f : Frame) → IsTypedFrame p typings heap f → IsTypedFrame p typings later f
    typed_frame_later f reached = reached_below p ranked (typings f.method) f.position (types_of_frame p later f) (types_of_frame p heap f) (frame_later f) reached

    resumed_later : (f : Frame) (position : ℕ) (handed : Option (Option VerType)) → IsResumed p typings f.method position (types_of_frame p heap f) handed
        → IsResumed p typings f.method position (types_of_frame p later f) handed
    resumed_later f position None reached = reached_below p ranked (typings f.method) position (types_of_frame p later f) (types_of_frame p heap f) (frame_later f) reached
    resumed_later f position (Some None) reached = tt
    resumed_later f position (Some (Some t)) reached =
        reached_below p ranked (typings f.method) position
        (record { locals = types_of_values p later f.locals; operands = t ∷ types_of_values p later f.operands })
        (record { locals = types_of_values p heap f.locals; operands = t ∷ types_of_values p heap f.operands })
        (record {
          locals = values_later f.locals;
          operands = list_fits p t t (types_of_values p later f.operands) (types_of_values p heap f.operands) (fits_itself p ranked t) (values_later f.operands);
        }) reached

    caller_later : (m : ℕ) (f : Frame) → IsTypedCaller p typings heap m f → IsTypedCaller p typings later m f
    caller_later m f is = record {
      state = is.state;
      covered = is.covered;
      locals = all_through p ranked (types_of_values p later f.locals) (types_of_values p heap f.locals) is.state.locals (values_later f.locals) is.locals;
      resumed = resumed_later f (position_behind p f) (type_handed p m) is.resumed;
    }

    under_later : (kind : Kind) (m : ℕ) (f : Frame) → IsTypedUnder p typings heap kind m f → IsTypedUnder p typings later kind m f
    under_later Call m f is = caller_later m f is
    under_later Init m f is = typed_frame_later f is
    under_later Wait m f is = typed_frame_later f is

    pub callers_later : (kind : Kind) (m : ℕ) (frames : List Frame) → AreTypedUnder p typings heap kind m frames → AreTypedUnder p typings later kind m frames
    callers_later kind m [] are = tt
    callers_later kind m (f ∷ below) are = (under_later kind m f are.0, callers_later f.kind f.method below are.1)

-- ---- states

-- a typed state in a later heap that is typed
pub state_later : (p : Program) → IsRanked p → (typings : Typings) (s : State) (later : List Object) → IsLaterHeap s.heap later → IsTypedHeap p later → IsTypedState p typings s
    → IsTypedState p typings (record s { heap = later })
state_later p ranked typings s later grows heap is = record {
  heap = heap;
  statics = λ f static. still p ranked s.heap later grows (item_or s.statics f Top) (type_of_field p f) (is.statics f static);
  inits = is.inits;
  top = typed_frame_later p ranked s.heap later grows typings s.top is.top;
  callers = callers_later p ranked s.heap later grows typings s.top.kind s.top.method s.callers is.callers;
}

-- ---- objects behind those that are there

pub item_front : {A : Type 0} (xs ys : List A) (i : ℕ) (d : A) → i < length xs → item_or (xs ++ ys) i d ≡ item_or xs i d
item_front [] ys i d less = absurd (omega (arith, less))
item_front (x ∷ xs) ys zero d less = refl
item_front (x ∷ xs) ys (suc i) d less = item_front xs ys i d (omega (arith, less))

pub item_back : {A : Type 0} (xs ys : List A) (i k : ℕ) (d : A) → i ≡ length xs + k → item_or (xs ++ ys) i d ≡ item_or ys k d
item_back [] ys i k d e = let same : i ≡ k = omega (arith, e) in ap (λ n. item_or ys n d) same
item_back (x ∷ xs) ys zero k d e = absurd (omega (arith, e))
item_back (x ∷ xs) ys (suc i) k d e = item_back xs ys i k d (omega (arith, e))

pub appended_later : (heap objects : List Object) → IsLaterHeap heap (heap ++ objects)
appended_later heap objects =
    let size = length-append heap objects in
    record { more = omega (arith, size); same = λ r less. ap (λ (o : Object). o.class) (item_front heap objects r no_object less) }

-- a heap with more objects is typed where these are typed in it
pub appended_typed : (p : Program) → IsRanked p → (heap objects : List Object) → IsTypedHeap p heap
    → ((i : ℕ) → i < length objects → IsTypedObject p (heap ++ objects) (item_or objects i no_object)) → IsTypedHeap p (heap ++ objects)
appended_typed p ranked heap objects is each = record {
  objects = λ r less. by r less (cases_lt r (length heap));
  enough = let enough = is.enough in omega (arith, enough, size);
  first = λ r less. let enough = is.enough in
      ap (λ (o : Object). o.class) (item_front heap objects r no_object (omega (arith, less, enough))) ∙ is.first r less;
}
  where
    size : length (heap ++ objects) ≡ length heap + length objects
    size = length-append heap objects

    by : (r : ℕ) → r < length (heap ++ objects) → (r < length heap) ⊎ (length heap ≤ r) → IsTypedObject p (heap ++ objects) (item_or (heap ++ objects) r no_object)
    by r less (inl there) =
        subst (λ (o : Object). IsTypedObject p (heap ++ objects) o) (sym (item_front heap objects r no_object there))
        (object_later p ranked heap (heap ++ objects) (appended_later heap objects) (item_or heap r no_object) (is.objects r there))
    by r less (inr past) =
        let k : ℕ = r - length heap in
        let place : r ≡ length heap + k = omega (arith, past) in
        subst (λ (o : Object). IsTypedObject p (heap ++ objects) o) (sym (item_back heap objects r k no_object place)) (each k (omega (arith, less, size, place)))

-- ---- an object that changes

pub changed_later : (heap : List Object) (r : ℕ) (o : Object) → o.class ≡ (item_or heap r no_object).class → IsLaterHeap heap (slice_set heap r o)
changed_later heap r o class =
    let size = length-set heap r o in
    record { more = omega (arith, size); same = λ q less. by q less (is_or_not q r) }
  where
    by : (q : ℕ) → q < length heap → (q ≡ r) ⊎ (¬ (q ≡ r)) → (item_or (slice_set heap r o) q no_object).class ≡ (item_or heap q no_object).class
    by q less (inl e) =
        subst (λ n. (item_or (slice_set heap r o) n no_object).class ≡ (item_or heap n no_object).class) (sym e)
        (ap (λ (x : Object). x.class) (item_set_here heap r o no_object (subst (λ n. n < length heap) e less)) ∙ class)
    by q less (inr other) = ap (λ (x : Object). x.class) (item_set_elsewhere heap r q o no_object other)

-- a heap with another object in a place is typed where that is typed in it
pub changed_typed : (p : Program) → IsRanked p → (heap : List Object) (r : ℕ) (o : Object) → o.class ≡ (item_or heap r no_object).class → IsTypedHeap p heap
    → IsTypedObject p (slice_set heap r o) o → IsTypedHeap p (slice_set heap r o)
changed_typed p ranked heap r o class is typed = record {
  objects = λ q less. by q (omega (arith, less, size)) (is_or_not q r);
  enough = let enough = is.enough in omega (arith, enough, size);
  first = λ q less. let enough = is.enough in later.same q (omega (arith, less, enough)) ∙ is.first q less;
}
  where
    size : length (slice_set heap r o) ≡ length heap
    size = length-set heap r o

    later : IsLaterHeap heap (slice_set heap r o)
    later = changed_later heap r o class

    by : (q : ℕ) → q < length heap → (q ≡ r) ⊎ (¬ (q ≡ r)) → IsTypedObject p (slice_set heap r o) (item_or (slice_set heap r o) q no_object)
    by q less (inl e) =
        subst (λ n. IsTypedObject p (slice_set heap r o) (item_or (slice_set heap r o) n no_object)) (sym e)
        (subst (λ (x : Object). IsTypedObject p (slice_set heap r o) x) (sym (item_set_here heap r o no_object (subst (λ n. n < length heap) e less))) typed)
    by q less (inr other) =
        subst (λ (x : Object). IsTypedObject p (slice_set heap r o) x) (sym (item_set_elsewhere heap r q o no_object other))
        (object_later p ranked heap (slice_set heap r o) later (item_or heap q no_object) (is.objects q less))
