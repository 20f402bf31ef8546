-- The beginning of an initialisation: the frames that are put above those that stand begin as their methods' typings do.
use Rattle.std.proofs.Common.{List, None, Option, Some, [], ap, arith, is_some, length, map, refl, replicate, reverse, subst, suc, sym, true, zero, ℕ, ◌++◌, ◌+◌, ◌-◌, ◌<◌, ◌∙◌, ◌∷◌, ◌≡◌}
use Prim.Native.String.{String}
use Rattle.std.proofs.lemmas.Bool.{lt-ltb, ltb-true}
use Rattle.std.specs.List.{list_all, take_while}
use Rattle.std.specs.Prelude.{nat_lt, take}
use Rattle.vx_class.specs.declared.class_file.Code.{Code}
use Rattle.vx_pool.specs.Holding.{and_true}
use Rattle.vx_java.specs.Initialisation.{begin, init_chain, init_frame, is_not, max_locals, new_frame, pushed_chain, with_frames}
use Rattle.vx_java.specs.Machine.{Frame, Object, Raise, State, Top, Value, init_at, with_inits}
use Rattle.vx_kept_facts.proofs.Beginning.{has_initialiser, is_there, reversed_pass, taken_pass}
use Rattle.vx_kept_facts.proofs.Claims.{begin_comes, is_raised}
use Rattle.vx_kept_facts.proofs.Sites.{length_inits, throwable}
use Rattle.vx_link.specs.ClassNames.{core_class}
use Rattle.vx_link.specs.Hierarchy.{superclasses}
use Rattle.vx_link.specs.Parts.{class_at, class_count, method_at}
use Rattle.vx_link.specs.declared.program.Program.{Program}
use Rattle.vx_sound.specs.Sound.{IsSound}
use Rattle.vx_sound.specs.Typed.{AreTypedUnder, AreTypings, IsTypedFrame, IsTypedOutcome, IsTypedState, IsTypingOf, Typings}
use Rattle.vx_sound.specs.Values.{types_of_frame, types_of_values}
use Rattle.vx_types.proofs.FitLaws.{state_itself}
use Rattle.vx_types.specs.Fits.{StateFits}
use Rattle.vx_types.specs.Ranked.{IsRanked}
use Rattle.vx_types.specs.declared.types.VerType.{VerType}
use Rattle.vx_types.specs.declared.types.VerType.TheVariants as is
use Rattle.vx_value.specs.declared.key.Kind.{Kind}
use Rattle.vx_value.specs.declared.key.Kind.TheVariants.{Init, Wait}
use Rattle.vx_value.specs.declared.slot.InitState.{InitState}
use Rattle.vx_value.specs.declared.slot.InitState.TheVariants.{Failed, Running}
use Rattle.vx_verify.proofs.Forcing.{reached_below}
use Rattle.vx_verify.specs.Typing.{start_state}

-- ---- lists

pub types_of_nothing : (p : Program) (heap : List Object) (n : ℕ) → types_of_values p heap (replicate n Top) ≡ replicate n is.Top
types_of_nothing p heap zero = refl
types_of_nothing p heap (suc n) = ap (λ (ts : List VerType). is.Top ∷ ts) (types_of_nothing p heap n)

take_all : (n : ℕ) (t : VerType) → take n (replicate n t) ≡ replicate n t
take_all zero t = refl
take_all (suc n) t = ap (λ (ts : List VerType). t ∷ ts) (take_all n t)

module _ (p : Program) (typings : Typings) (sound : IsSound p) (are : AreTypings p typings) where
  ranked : IsRanked p
  ranked = sound.hierarchy.ranked

  -- ---- frames that begin

  -- a frame stands at the start of a method whose types are those of its local variables
  pub begins : (heap : List Object) (kind : Kind) (m : ℕ) (values : List Value) → is_some (method_at p m).code ≡ true
      → ((code : Code) → (method_at p m).code ≡ Some code → StateFits p (types_of_frame p heap (new_frame p kind m values)) (start_state p m code)) → IsTypedFrame p typings heap (new_frame p kind m values)
  begins heap kind m values some fits = by (method_at p m).code refl some (are m)
    where
      by : (o : Option Code) → (method_at p m).code ≡ o → is_some o ≡ true → IsTypingOf p m o (typings m) → IsTypedFrame p typings heap (new_frame p kind m values)
      by None e has is = absurd cc
      by (Some code) e has is = reached_below p ranked (typings m) 0 (types_of_frame p heap (new_frame p kind m values)) (start_state p m code) (fits code e) is.start

  -- the frame of what initialises a class
  init_begins : (heap : List Object) (kind : Kind) (c : ℕ) → c < class_count p → IsTypedFrame p typings heap (init_frame p kind c)
  init_begins heap kind c less =
      begins heap kind m [] (has_initialiser p p.classes c sound.runnable.initialisers less) (λ code e.
      let locals : types_of_values p heap (replicate (max_locals (method_at p m).code - 0) Top) ≡ (start_state p m code).locals =
      ap (λ (o : Option Code). types_of_values p heap (replicate (max_locals o - 0) Top)) e ∙ same code in
      subst (λ (ts : List VerType). StateFits p (record { locals = ts; operands = [] }) (start_state p m code)) (sym locals) (state_itself p ranked (start_state p m code)))
    where
      m : ℕ
      m = (class_at p c).initialiser.0

      same : (code : Code) → types_of_values p heap (replicate (code.max_locals - 0) Top) ≡ (start_state p m code).locals
      same code =
          let all : code.max_locals - 0 ≡ code.max_locals = omega arith in
          ap (λ n. types_of_values p heap (replicate n Top)) all
          ∙ types_of_nothing p heap code.max_locals
          ∙ sym (take_all code.max_locals is.Top)
          ∙ ap (λ (given : List VerType). take code.max_locals (given ++ replicate code.max_locals is.Top)) (sym (sound.forms.initialisers c less))

  -- ---- chains

  abbrev AreThere : List ℕ → Type 0
  AreThere chain = list_all (λ c. nat_lt c (class_count p)) chain ≡ true

  there_in_chain : (inits : List InitState) → length inits ≡ class_count p → (classes : List ℕ) → AreThere (take_while (λ d. is_not (init_at inits d)) classes)
  there_in_chain inits count classes =
      taken_pass (λ d. is_not (init_at inits d)) (λ c. nat_lt c (class_count p)) (λ c is. lt-ltb c (class_count p) (is_there inits p.classes c count is)) classes

  -- the frames that wait above one that stands
  waiting : (heap : List Object) (m : ℕ) (chain : List ℕ) → AreThere chain → (f : Frame) (below : List Frame) → IsTypedFrame p typings heap f → AreTypedUnder p typings heap f.kind f.method below
      → AreTypedUnder p typings heap Wait m (map (init_frame p Wait) chain ++ (f ∷ below))
  waiting heap m [] all f below stands under = (stands, under)
  waiting heap m (c ∷ chain) all f below stands under =
      (init_begins heap Wait c (ltb-true c (class_count p) (and_true _ _ all).0), waiting heap (class_at p c).initialiser.0 chain (and_true _ _ all).1 f below stands under)

  under_first : (heap : List Object) (m : ℕ) (frames : List Frame) → AreTypedUnder p typings heap Wait m frames → AreTypedUnder p typings heap Init m frames
  under_first heap m [] under = tt
  under_first heap m (f ∷ frames) under = under

  frames_typed : (s : State) → IsTypedState p typings s → (chain : List ℕ) → AreThere chain → IsTypedState p typings (with_frames p s chain)
  frames_typed s typed [] all = typed
  frames_typed s typed (c ∷ below) all = record {
    heap = typed.heap;
    statics = typed.statics;
    inits = typed.inits;
    top = init_begins s.heap Init c (ltb-true c (class_count p) (and_true _ _ all).0);
    callers =
        under_first s.heap (class_at p c).initialiser.0 (map (init_frame p Wait) below ++ (s.top ∷ s.callers))
        (waiting s.heap (class_at p c).initialiser.0 below (and_true _ _ all).1 s.top s.callers typed.top typed.callers);
  }

  -- the states of some classes changed
  pub marked_typed : (s : State) → IsTypedState p typings s → (i : InitState) (classes : List ℕ) → IsTypedState p typings (with_inits s i classes)
  marked_typed s typed i classes = record {
    heap = typed.heap;
    statics = typed.statics;
    inits = length_inits s.inits i classes ∙ typed.inits;
    top = typed.top;
    callers = typed.callers;
  }

  pub pushed_typed : (s : State) → IsTypedState p typings s → (c : ℕ) → IsTypedState p typings (pushed_chain p s (init_chain p s.inits c))
  pushed_typed s typed c =
      frames_typed (with_inits s Running (init_chain p s.inits c)) (marked_typed s typed Running (init_chain p s.inits c)) (reverse (init_chain p s.inits c))
      (reversed_pass (λ c. nat_lt c (class_count p)) (init_chain p s.inits c) (there_in_chain s.inits typed.inits (superclasses p c)))

  -- ---- a beginning

  raises_in : (s : State) → IsTypedState p typings s → (name : String) → is_raised name ≡ true → IsTypedOutcome p typings (Raise (core_class p name) None s)
  raises_in s typed name among = (throwable p sound.runnable name among, typed)

  pub begin_typed : (s : State) → IsTypedState p typings s → (c : ℕ) → IsTypedOutcome p typings (begin p s c)
  begin_typed s typed c =
      begin_comes (IsTypedOutcome p typings) p s c (λ i is. refl)
      (raises_in (with_inits s Failed (init_chain p s.inits c)) (marked_typed s typed Failed (init_chain p s.inits c)) "java/lang/NoClassDefFoundError" refl)
      (raises_in s typed "java/lang/StackOverflowError" refl)
      (pushed_typed s typed c)
