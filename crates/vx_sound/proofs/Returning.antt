-- Returns: the frame below goes on with what it is handed, or stands as it stood under an initialisation.
use Rattle.std.proofs.Common.{Bool, List, None, Option, Some, [], ap, arith, false, refl, subst, sym, true, ℕ, ◌∙◌, ◌∷◌, ◌≡◌, ◌≤◌}
use Rattle.std.proofs.lemmas.Bool.{le-leb}
use Rattle.std.specs.Prelude.{if◌then◌else◌, nat_le, option_map}
use Rattle.vx_class.specs.declared.class_file.Code.{Code}
use Rattle.vx_desc.specs.declared.java_type.JavaType.{JavaType}
use Rattle.vx_java.specs.Checks.{is_of, sort_of}
use Rattle.vx_java.specs.Machine.{Frame, Go, Here, Object, Value, current_class, illegal, stack_size, when, with_inits}
use Rattle.vx_java.specs.Returns.{agrees, awake, fits_caller, frame_resumed, max_stack, return_from, return_to, return_value, same_sort, values_returned}
use Rattle.vx_java.specs.declared.operation.Sort.{Sort}
use Rattle.vx_java.specs.declared.operation.Sort.TheVariants as sort
use Rattle.vx_kept_facts.proofs.Sites.{length_inits}
use Rattle.vx_link.specs.Parts.{method_at}
use Rattle.vx_link.specs.Signature.{signature}
use Rattle.vx_link.specs.declared.program.Program.{Program}
use Rattle.vx_sound.proofs.Sites.{AtSite, Typed, types_here, types_in}
use Rattle.vx_sound.proofs.Taken.{on_top}
use Rattle.vx_sound.proofs.Values.{none_some, size_within, sort_of_typed}
use Rattle.vx_sound.specs.Typed.{AreTypedUnder, AreTypings, IsResumed, IsTypedFrame, IsTypingOf, Typings, position_behind, type_handed}
use Rattle.vx_sound.specs.Values.{type_of_value, types_of_frame, types_of_values}
use Rattle.vx_types.proofs.FitLaws.{all_itself}
use Rattle.vx_types.proofs.Lists.{list_fits, size_below, sort_below}
use Rattle.vx_types.specs.Fits.{all_fit, fits}
use Rattle.vx_types.specs.Flow as flow
use Rattle.vx_types.specs.Flow.{after, meets, taken}
use Rattle.vx_types.specs.Ranked.{IsRanked}
use Rattle.vx_types.specs.Rows as rows
use Rattle.vx_types.specs.Types.{VerState, type_of, type_of_sort}
use Rattle.vx_types.specs.declared.types.Row.TheVariants.{Leaves, Refused}
use Rattle.vx_types.specs.declared.types.VerType.{VerType}
use Rattle.vx_types.specs.declared.types.Want.{Want}
use Rattle.vx_value.specs.declared.key.Kind.{Kind}
use Rattle.vx_value.specs.declared.key.Kind.TheVariants.{Call, Init, Wait}
use Rattle.vx_value.specs.declared.slot.InitState.TheVariants.{Done}
use Rattle.vx_verify.proofs.Forcing.{reached_below}
use Rattle.vx_verify.specs.Typing.{IsReached}
use Rattle.vx_sound.proofs.Fields.{type_sort}

-- ---- room

-- operands with which a position is reached have room in the code of the method
room_in : (p : Program) (m : ℕ) (code : Option Code) (typing : ℕ → Option VerState) (position : ℕ) (s : VerState) → IsTypingOf p m code typing → typing position ≡ Some s → flow.stack_size s.operands ≤ max_stack code
room_in p m None typing position s are covered = none_some (sym (are position) ∙ covered)
room_in p m (Some code) typing position s are covered = (are.operands position s covered).room

pub reached_room : (p : Program) (typings : Typings) → AreTypings p typings → (heap : List Object) (m position : ℕ) (locals : List VerType) (operands : List Value) (types : List VerType)
    → all_fit p (types_of_values p heap operands) types ≡ true → IsReached p (typings m) position (record { locals = locals; operands = types })
    → nat_le (stack_size operands) (max_stack (method_at p m).code) ≡ true
reached_room p typings are heap m position locals operands types fit reached =
    let room = room_in p m (method_at p m).code (typings m) position reached.state (are m) reached.covered in
    let above = size_below p types reached.state.operands reached.fitting.operands in
    let below = size_below p (types_of_values p heap operands) types fit in
    let size = size_within p heap operands in
    le-leb (stack_size operands) (max_stack (method_at p m).code) (omega (arith, room, above, below, size))

-- ---- what is handed back

-- a value or none is such as a method hands back
abbrev IsHanded : Program → List Object → (values : List Value) → Option (Option VerType) → Type 0
IsHanded p heap [] None = Unit {0}
IsHanded p heap (v ∷ []) (Some (Some t)) = fits p (type_of_value p heap v) t ≡ true
IsHanded p heap _ _ = ⊥

module _ (typings : Typings) (h : Here) (site : AtSite typings h) where
  ranked : IsRanked h.program
  ranked = site.sound.hierarchy.ranked

  abbrev m : ℕ
  m = h.state.top.method

  -- the frame below, which waits for it, goes on
  resumed : (f : Frame) (below : List Frame) (values : List Value) (handed : Option (Option VerType)) → IsHanded h.program h.state.heap values handed
      → IsResumed h.program typings f.method (position_behind h.program f) (types_of_frame h.program h.state.heap f) handed
      → AreTypedUnder h.program typings h.state.heap f.kind f.method below
      → Typed typings h (when (fits_caller h.program f values) (Go (record (h.state) { top = frame_resumed h.program f values; callers = below })) (illegal h))
  resumed f below [] None given reached under = record {
    heap = site.state.heap;
    statics = site.state.statics;
    inits = site.state.inits;
    top = reached;
    callers = under;
  }
  resumed f below (v ∷ []) (Some (Some t)) given reached under =
      subst (λ b. Typed typings h (when b (Go (record (h.state) { top = frame_resumed h.program f (v ∷ []); callers = below })) (illegal h))) (sym room) (record {
        heap = site.state.heap;
        statics = site.state.statics;
        inits = site.state.inits;
        top =
            reached_below h.program ranked (typings f.method) (position_behind h.program f)
            (record { locals = types_in h f.locals; operands = type_of_value h.program h.state.heap v ∷ types_in h f.operands })
            (record { locals = types_in h f.locals; operands = t ∷ types_in h f.operands })
            (record { locals = all_itself h.program ranked (types_in h f.locals); operands = fit }) reached;
        callers = under;
      })
    where
      fit : all_fit h.program (types_in h (v ∷ f.operands)) (t ∷ types_in h f.operands) ≡ true
      fit = list_fits h.program (type_of_value h.program h.state.heap v) t (types_in h f.operands) (types_in h f.operands) given (all_itself h.program ranked (types_in h f.operands))

      room : nat_le (stack_size (v ∷ f.operands)) (max_stack (method_at h.program f.method).code) ≡ true
      room = reached_room h.program typings site.are h.state.heap f.method (position_behind h.program f) (types_in h f.locals) (v ∷ f.operands) (t ∷ types_in h f.operands) fit reached
  resumed f below _ _ given reached under = absurd given

  -- under an initialisation the frame below stands as it stood, and is the next to be initialised if it waits
  awakened : (kind : Kind) (n : ℕ) (below : List Frame) → AreTypedUnder h.program typings h.state.heap kind n below → AreTypedUnder h.program typings h.state.heap (awake kind) n below
  awakened Call n below under = under
  awakened Init n below under = under
  awakened Wait n [] under = tt
  awakened Wait n (f ∷ below) under = under

  initialised : (f : Frame) (below : List Frame) → IsTypedFrame h.program typings h.state.heap f → AreTypedUnder h.program typings h.state.heap f.kind f.method below
      → Typed typings h (Go (record (with_inits h.state Done (current_class h.program h.state ∷ [])) { top = record f { kind = awake f.kind }; callers = below }))
  initialised f below stands under = record {
    heap = site.state.heap;
    statics = site.state.statics;
    inits = length_inits h.state.inits Done (current_class h.program h.state ∷ []) ∙ site.state.inits;
    top = stands;
    callers = awakened f.kind f.method below under;
  }

  returned : (kind : Kind) (values : List Value) (callers : List Frame) → IsHanded h.program h.state.heap values (type_handed h.program m) → AreTypedUnder h.program typings h.state.heap kind m callers
      → Typed typings h (return_to h kind values callers)
  returned kind values [] given under = refl
  returned Call values (f ∷ below) given under = resumed f below values (type_handed h.program m) given under.0.resumed under.1
  returned Init values (f ∷ below) given under = initialised f below under.0 under.1
  returned Wait values (f ∷ below) given under = initialised f below under.0 under.1

  -- ---- the row

  abbrev d : List ℕ
  d = (method_at h.program m).descriptor

  same_sorts : (s : Sort) (o : Option Sort) → same_sort s o ≡ true → o ≡ Some s
  same_sorts sort.Int (Some sort.Int) e = refl
  same_sorts sort.Long (Some sort.Long) e = refl
  same_sorts sort.Reference (Some sort.Reference) e = refl
  same_sorts _ _ e = absurd cc

  pub wanted_there : (wanted : List Want) (made : VerState) → after h.program (Leaves wanted) (types_here h) ≡ Some made → (rest : List VerType) × (taken h.program wanted (types_in h h.state.top.operands) ≡ Some rest)
  wanted_there wanted made e = by (taken h.program wanted (types_in h h.state.top.operands)) refl e
    where
      by : (o : Option (List VerType)) → taken h.program wanted (types_in h h.state.top.operands) ≡ o → option_map (λ rest. types_here h) o ≡ Some made
          → (rest : List VerType) × (taken h.program wanted (types_in h h.state.top.operands) ≡ Some rest)
      by None q k = none_some k
      by (Some rest) q k = (rest, q)

  -- a value of the sort of the result, which is of its type
  handed_value : (s : Sort) (t : JavaType) → sort_of t ≡ Some s → (made : VerState) → after h.program (Leaves (rows.wanted_of h.program d t ∷ [])) (types_here h) ≡ Some made
      → ((values : List Value) → IsHanded h.program h.state.heap values (Some (type_of h.program d t)) → Typed typings h (return_to h h.state.top.kind values h.state.callers))
      → Typed typings h (return_value h (values_returned (Some s) h.state.top.operands))
  handed_value s t of made e each =
      let given = wanted_there (rows.wanted_of h.program d t ∷ []) made e in
      on_top h.program h.state.heap (λ ops. Typed typings h (return_value h (values_returned (Some s) ops))) (rows.wanted_of h.program d t) [] h.state.top.operands given.0 given.1
      (λ v under met same. by v under (subst (λ (o : Option VerType). meets h.program (rows.want o) (type_of_value h.program h.state.heap v) ≡ true) typed met))
    where
      typed : type_of h.program d t ≡ Some (type_of_sort h.program d t s)
      typed = ap (option_map (type_of_sort h.program d t)) of

      by : (v : Value) (under : List Value) → fits h.program (type_of_value h.program h.state.heap v) (type_of_sort h.program d t s) ≡ true
          → Typed typings h (return_value h (if is_of s v then Some (v ∷ []) else None))
      by v under fit =
          let is = sort_of_typed h.program h.state.heap s v (sort_below h.program s (type_of_value h.program h.state.heap v) (type_of_sort h.program d t s) fit (type_sort h.program d t s)) in
          subst (λ b. Typed typings h (return_value h (if b then Some (v ∷ []) else None))) (sym is)
          (each (v ∷ []) (subst (λ (o : Option VerType). IsHanded h.program h.state.heap (v ∷ []) (Some o)) (sym typed) fit))

  pub return_typed : (s : Option Sort) (made : VerState) → after h.program (rows.return_from h.program d s) (types_here h) ≡ Some made → Typed typings h (return_from h s)
  return_typed s made e = by s (signature d).result refl e
    where
      hands : (values : List Value) (o : Option JavaType) → (signature d).result ≡ o → IsHanded h.program h.state.heap values (option_map (type_of h.program d) o)
          → Typed typings h (return_to h h.state.top.kind values h.state.callers)
      hands values o is given =
          returned h.state.top.kind values h.state.callers
          (subst (λ (x : Option JavaType). IsHanded h.program h.state.heap values (option_map (type_of h.program d) x)) (sym is) given) site.state.callers

      by : (s : Option Sort) (o : Option JavaType) → (signature d).result ≡ o
          → after h.program (if agrees s o then Leaves (rows.return_wants h.program d o) else Refused) (types_here h) ≡ Some made
          → Typed typings h (when (agrees s o) (return_value h (values_returned s h.state.top.operands)) (illegal h))
      by None None is e = hands [] None is tt
      by None (Some t) is e = none_some e
      by (Some x) None is e = none_some e
      by (Some x) (Some t) is e = of_test (same_sort x (sort_of t)) refl e
        where
          of_test : (b : Bool) → same_sort x (sort_of t) ≡ b → after h.program (if b then Leaves (rows.return_wants h.program d (Some t)) else Refused) (types_here h) ≡ Some made
              → Typed typings h (when b (return_value h (values_returned (Some x) h.state.top.operands)) (illegal h))
          of_test true same k = handed_value x t (same_sorts x (sort_of t) same) made k (λ values given. hands values (Some t) is given)
          of_test false other k = none_some k
