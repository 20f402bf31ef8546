-- A method that is called begins with what it is given, and its caller waits for what it hands back.
use Rattle.std.proofs.Common.{Bool, List, None, Option, Some, [], ap, arith, false, is_some, length, map, refl, replicate, subst, suc, sym, true, ℕ, ◌++◌, ◌-◌, ◌∙◌, ◌∷◌, ◌≡◌}
use mathlib.Core.List.{reverse_aux}
use Rattle.std.proofs.lemmas.List.{length-map, length-reverse, reverse-reverse}
use Rattle.std.specs.Prelude.{flat_map, if◌then◌else◌, nat_lt, option_map, reverse, ◌==◌}
use Rattle.vx_class.specs.Members.{STATIC}
use Rattle.vx_class.specs.declared.class_file.Code.{Code}
use Rattle.vx_desc.specs.declared.java_type.JavaType.{JavaType}
use Rattle.vx_java.specs.Calls.{arguments_off, enter, in_locals, state_in_callee, top_values, values_matching}
use Rattle.vx_java.specs.Checks.{fits_type}
use Rattle.vx_java.specs.Initialisation.{max_locals}
use Rattle.vx_java.specs.Machine.{Go, Here, Native, Object, Ref, Top, Value, depth, frame_bound, method_text, raise, unsupported, when}
use Rattle.vx_java.specs.Operation.{native_word}
use Rattle.vx_java.specs.declared.operation.Sort.{Sort}
use Rattle.vx_java.specs.declared.operation.Sort.TheVariants as sort
use Rattle.vx_link.specs.Parts.{has, method_at}
use Rattle.vx_link.specs.Signature.{signature}
use Rattle.vx_link.specs.declared.program.Program.{Program}
use Rattle.vx_sound.proofs.Beginning.{begins, types_of_nothing}
use Rattle.vx_sound.proofs.Fields.{IsSorted, sort_fits, sorted}
use Rattle.vx_sound.proofs.Sites.{AtSite, Typed, behind, raises, types_in, types_with}
use Rattle.vx_sound.proofs.Padding.{padded}
use Rattle.vx_sound.proofs.Taken.{on_top}
use Rattle.vx_sound.proofs.Values.{int_value, long_value, reference_value, types_append}
use Rattle.vx_sound.specs.Typed.{AreOfTypes, IsOfType, IsResumed, IsTypedCaller, IsUnderArguments, Typings, position_behind, type_handed}
use Rattle.vx_sound.specs.Values.{type_of_reference, type_of_value, types_of_values}
use Rattle.vx_types.proofs.Lists.{list_fits, sort_below}
use Rattle.vx_value.specs.declared.key.Kind.TheVariants.{Call}
use Rattle.vx_types.specs.Fits.{all_fit, fits}
use Rattle.vx_types.specs.Flow as flow
use Rattle.vx_types.specs.Flow.{meets, taken}
use Rattle.vx_types.specs.Rows as rows
use Rattle.vx_types.specs.Types.{class_type, type_of}
use Rattle.vx_types.specs.declared.types.VerType.{VerType}
use Rattle.vx_types.specs.declared.types.VerType.TheVariants as is
use Rattle.vx_types.specs.declared.types.Want.{Want}
use Rattle.vx_verify.specs.Typing.{argument_locals, locals_of, receiver_locals, start_locals, value_locals, values_given}

-- ---- arguments

module _ (p : Program) (heap : List Object) (d : List ℕ) where
  argument_fits : (t : JavaType) (vt : VerType) (v : Value) (vs : List Value) (ts : List VerType) → IsSorted t vt → fits p (type_of_value p heap v) vt ≡ true
      → all_fit p (types_of_values p heap (in_locals vs)) ts ≡ true → all_fit p (types_of_values p heap (in_locals (v ∷ vs))) (value_locals vt ++ ts) ≡ true
  argument_fits t vt v vs ts q fit later = by q.kind vt q.of fit
    where
      by : (s : Sort) (u : VerType) → flow.is_of s u ≡ true → fits p (type_of_value p heap v) u ≡ true → all_fit p (types_of_values p heap (in_locals (v ∷ vs))) (value_locals u ++ ts) ≡ true
      by sort.Int is.Int of k =
          int_value p heap (λ w. all_fit p (types_of_values p heap (in_locals (w ∷ vs))) (is.Int ∷ ts) ≡ true) v (sort_below p sort.Int (type_of_value p heap v) is.Int k refl)
          (λ n. list_fits p is.Int is.Int (types_of_values p heap (in_locals vs)) ts refl later)
      by sort.Long is.Long of k =
          long_value p heap (λ w. all_fit p (types_of_values p heap (in_locals (w ∷ vs))) (is.Long ∷ is.Top ∷ ts) ≡ true) v (sort_below p sort.Long (type_of_value p heap v) is.Long k refl)
          (λ n. list_fits p is.Long is.Long (is.Top ∷ types_of_values p heap (in_locals vs)) (is.Top ∷ ts) refl (list_fits p is.Top is.Top (types_of_values p heap (in_locals vs)) ts refl later))
      by sort.Reference is.Null of k =
          reference_value p heap (λ w. fits p (type_of_value p heap w) is.Null ≡ true → all_fit p (types_of_values p heap (in_locals (w ∷ vs))) (is.Null ∷ ts) ≡ true) v
          (sort_below p sort.Reference (type_of_value p heap v) is.Null k refl)
          (λ l. list_fits p is.Null is.Null (types_of_values p heap (in_locals vs)) ts l later)
          (λ r q l. list_fits p (type_of_reference p heap r) is.Null (types_of_values p heap (in_locals vs)) ts l later) k
      by sort.Reference (is.Ref n e) of k =
          reference_value p heap (λ w. fits p (type_of_value p heap w) (is.Ref n e) ≡ true → all_fit p (types_of_values p heap (in_locals (w ∷ vs))) (is.Ref n e ∷ ts) ≡ true) v
          (sort_below p sort.Reference (type_of_value p heap v) (is.Ref n e) k refl)
          (λ l. list_fits p is.Null (is.Ref n e) (types_of_values p heap (in_locals vs)) ts l later)
          (λ r q l. list_fits p (type_of_reference p heap r) (is.Ref n e) (types_of_values p heap (in_locals vs)) ts l later) k
      by _ _ of k = absurd cc

  -- the arguments in their local variables
  pub arguments_fit : (ts : List JavaType) (vs : List Value) → AreOfTypes p heap d ts vs
      → all_fit p (types_of_values p heap (in_locals vs)) (flat_map (λ t. locals_of t (type_of p d t)) ts) ≡ true
  arguments_fit [] [] are = refl
  arguments_fit (t ∷ ts) (v ∷ vs) are = by (type_of p d t) refl are.0 (arguments_fit ts vs are.1)
    where
      by : (o : Option VerType) → type_of p d t ≡ o → IsOfType p heap o v
          → all_fit p (types_of_values p heap (in_locals vs)) (flat_map (λ t. locals_of t (type_of p d t)) ts) ≡ true
          → all_fit p (types_of_values p heap (in_locals (v ∷ vs))) (locals_of t o ++ flat_map (λ t. locals_of t (type_of p d t)) ts) ≡ true
      by None e of later = absurd of
      by (Some vt) e of later = argument_fits t vt v vs (flat_map (λ t. locals_of t (type_of p d t)) ts) (sorted p d t vt e) of later
  arguments_fit _ _ are = absurd are

  -- each is of its type's sort
  pub arguments_match : (ts : List JavaType) (vs : List Value) → AreOfTypes p heap d ts vs → values_matching ts vs ≡ Some vs
  arguments_match [] [] are = refl
  arguments_match (t ∷ ts) (v ∷ vs) are = by (type_of p d t) refl are.0 (arguments_match ts vs are.1)
    where
      by : (o : Option VerType) → type_of p d t ≡ o → IsOfType p heap o v → values_matching ts vs ≡ Some vs
          → (if fits_type t v then option_map (λ (rest : List Value). v ∷ rest) (values_matching ts vs) else None) ≡ Some (v ∷ vs)
      by None e of later = absurd of
      by (Some vt) e of later =
          ap (λ b. if b then option_map (λ (rest : List Value). v ∷ rest) (values_matching ts vs) else None) (sort_fits p d t vt e heap v of)
          ∙ ap (option_map (λ (rest : List Value). v ∷ rest)) later
  arguments_match _ _ are = absurd are

  -- ---- off the operands

  -- the deepest first, as they are taken off the top
  pub record IsSplit (ts : List JavaType) (count : ℕ) (acc ops : List Value) (under : List Want) (rest : List VerType) : Type 0 where
    pub values : List Value
    pub below : List Value
    pub off : top_values count acc ops ≡ (values, below)
    pub typed : AreOfTypes p heap d ts values
    pub takes : taken p under (types_of_values p heap below) ≡ Some rest

  meets_type : (o : Option VerType) (v : Value) → meets p (rows.want o) (type_of_value p heap v) ≡ true → IsOfType p heap o v
  meets_type None v met = absurd cc
  meets_type (Some t) v met = met

  split : (ts done : List JavaType) (acc ops : List Value) (under : List Want) (rest : List VerType) → AreOfTypes p heap d done acc
      → taken p (map (rows.wanted_of p d) ts ++ under) (types_of_values p heap ops) ≡ Some rest → IsSplit (reverse_aux ts done) (length ts) acc ops under rest
  split [] done acc ops under rest typed took = record { values = acc; below = ops; off = refl; typed = typed; takes = took }
  split (t ∷ ts) done acc ops under rest typed took =
      on_top p heap (λ os. IsSplit (reverse_aux ts (t ∷ done)) (suc (length ts)) acc os under rest) (rows.wanted_of p d t) (map (rows.wanted_of p d) ts ++ under) ops rest took
      (λ v above met later.
      let q = split ts (t ∷ done) (v ∷ acc) above under rest (meets_type (type_of p d t) v met, typed) later in
      record { values = q.values; below = q.below; off = q.off; typed = q.typed; takes = q.takes })

mapped_onto : {A B : Type 0} (f : A → B) (xs ys : List A) → map f (reverse_aux xs ys) ≡ reverse_aux (map f xs) (map f ys)
mapped_onto f [] ys = refl
mapped_onto f (x ∷ xs) ys = mapped_onto f xs (x ∷ ys)

-- the arguments of a call, and what stands under them
pub record HasArguments (p : Program) (heap : List Object) (d : List ℕ) (types : List JavaType) (ops : List Value) (under : List Want) (rest : List VerType) : Type 0 where
  pub values : List Value
  pub below : List Value
  pub off : arguments_off types ops ≡ Some (values, below)
  pub typed : AreOfTypes p heap d types values
  pub takes : taken p under (types_of_values p heap below) ≡ Some rest

pub arguments_there : (p : Program) (heap : List Object) (d : List ℕ) (types : List JavaType) (ops : List Value) (under : List Want) (rest : List VerType)
    → taken p (reverse (map (rows.wanted_of p d) types) ++ under) (types_of_values p heap ops) ≡ Some rest → HasArguments p heap d types ops under rest
arguments_there p heap d types ops under rest took =
    let q = split p heap d (reverse types) [] [] ops under rest tt
    (subst (λ (ws : List Want). taken p (ws ++ under) (types_of_values p heap ops) ≡ Some rest) (sym (mapped_onto (rows.wanted_of p d) types [])) took) in
    let typed = subst (λ (ts : List JavaType). AreOfTypes p heap d ts q.values) (reverse-reverse types) q.typed in
    let off : top_values (length types) [] ops ≡ (q.values, q.below) = ap (λ n. top_values n [] ops) (sym (length-reverse types)) ∙ q.off in
    record {
      values = q.values;
      below = q.below;
      off =
          ap (λ (parts : List Value × List Value). option_map (λ (values : List Value). (values, parts.1)) (values_matching types parts.0)) off
          ∙ ap (option_map (λ (values : List Value). (values, q.below))) (arguments_match p heap d types q.values typed);
      typed = typed;
      takes = q.takes;
    }

-- ---- a method that is entered

-- what a call of a method of a descriptor has: its arguments on the operands, the receiver under them, and what the caller goes on with
pub record IsCall (typings : Typings) (h : Here) (m : ℕ) (d : List ℕ) : Type 0 where
  pub values : List Value
  pub below : List Value
  pub rest : List Value
  pub off : arguments_off (signature d).arguments h.state.top.operands ≡ Some (values, below)
  pub arguments : AreOfTypes h.program h.state.heap d (signature d).arguments values
  pub under : IsUnderArguments h.program h.state.heap m (has STATIC (method_at h.program m).flags) below rest
  pub resumes : IsResumed h.program typings h.state.top.method (behind h) (types_with h (types_in h rest)) (option_map (type_of h.program d) (signature d).result)

-- the values with which it begins
abbrev pub given_with : (receiver : Option ℕ) → List Value → List Value
given_with None values = values
given_with (Some r) values = Ref r ∷ values

-- the receiver is there where the method has one
abbrev pub IsReceived : Program → List Object → (method : ℕ) → (static : Bool) → Option ℕ → Type 0
IsReceived p heap m true None = Unit {0}
IsReceived p heap m false (Some r) = fits p (type_of_reference p heap r) (class_type p (rows.current_class p m)) ≡ true
IsReceived p heap m _ _ = ⊥

module _ (typings : Typings) (h : Here) (site : AtSite typings h) where
  -- the values are of the types that the method is given
  given_fit : (m : ℕ) (values : List Value) → AreOfTypes h.program h.state.heap (method_at h.program m).descriptor (signature (method_at h.program m).descriptor).arguments values
      → (receiver : Option ℕ) → IsReceived h.program h.state.heap m (has STATIC (method_at h.program m).flags) receiver
      → all_fit h.program (types_in h (in_locals (given_with receiver values))) (values_given h.program m) ≡ true
  given_fit m values are receiver received = by (has STATIC (method_at h.program m).flags) receiver received
    where
      arguments : all_fit h.program (types_in h (in_locals values)) (argument_locals h.program (method_at h.program m).descriptor) ≡ true
      arguments = arguments_fit h.program h.state.heap (method_at h.program m).descriptor (signature (method_at h.program m).descriptor).arguments values are

      by : (static : Bool) (o : Option ℕ) → IsReceived h.program h.state.heap m static o
          → all_fit h.program (types_in h (in_locals (given_with o values))) (receiver_locals h.program m static ++ argument_locals h.program (method_at h.program m).descriptor) ≡ true
      by true None is = arguments
      by false (Some r) is =
          list_fits h.program (type_of_reference h.program h.state.heap r) (class_type h.program (rows.current_class h.program m)) (types_in h (in_locals values))
          (argument_locals h.program (method_at h.program m).descriptor) is arguments
      by true (Some r) is = absurd is
      by false None is = absurd is

  start_fits : (m : ℕ) (code : Code) (values : List Value) → (method_at h.program m).code ≡ Some code → all_fit h.program (types_in h values) (values_given h.program m) ≡ true
      → all_fit h.program (types_in h (values ++ replicate (max_locals (method_at h.program m).code - length values) Top)) (start_locals h.program m code.max_locals) ≡ true
  start_fits m code values coded fit =
      subst (λ (ts : List VerType). all_fit h.program ts (start_locals h.program m code.max_locals) ≡ true) (sym locals)
      (padded h.program code.max_locals (types_in h values) (values_given h.program m) code.max_locals fit (site.sound.members.room m code coded) (omega arith))
    where
      locals : types_in h (values ++ replicate (max_locals (method_at h.program m).code - length values) Top) ≡ types_in h values ++ replicate (code.max_locals - length (types_in h values)) is.Top
      locals =
          types_append h.program h.state.heap values (replicate (max_locals (method_at h.program m).code - length values) Top)
          ∙ ap (λ (ts : List VerType). types_in h values ++ ts) (types_of_nothing h.program h.state.heap (max_locals (method_at h.program m).code - length values))
          ∙ ap (λ (o : Option Code). types_in h values ++ replicate (max_locals o - length values) is.Top) coded
          ∙ ap (λ k. types_in h values ++ replicate (code.max_locals - k) is.Top) (sym (length-map values (type_of_value h.program h.state.heap)))

  -- the frame of the caller waits
  waits : (m : ℕ) (rest : List Value) → position_behind h.program h.state.top ≡ behind h
      → IsResumed h.program typings h.state.top.method (behind h) (types_with h (types_in h rest)) (type_handed h.program m)
      → IsTypedCaller h.program typings h.state.heap m (record (h.state.top) { operands = rest })
  waits m rest behind_is resumes = record {
    state = site.state.top.state;
    covered = site.state.top.covered;
    locals = site.state.top.fitting.locals;
    resumed = subst (λ k. IsResumed h.program typings h.state.top.method k (types_with h (types_in h rest)) (type_handed h.program m)) (sym behind_is) resumes;
  }

  pub entered : (m : ℕ) → position_behind h.program h.state.top ≡ behind h → (q : IsCall typings h m (method_at h.program m).descriptor) (receiver : Option ℕ)
      → IsReceived h.program h.state.heap m (has STATIC (method_at h.program m).flags) receiver
      → Typed typings h (enter h m (method_at h.program m).code (given_with receiver q.values) q.rest)
  entered m behind_is q receiver received = by (method_at h.program m).code refl
    where
      values : List Value
      values = given_with receiver q.values

      by_native : (b : Bool) → ((method_at h.program m).native == 0) ≡ b → Typed typings h (when b (unsupported h native_word (method_text h.program (method_at h.program m))) (Native m h.state))
      by_native true none = refl
      by_native false some = (
        site.state,
        record {
          numbered = some;
          values = q.values;
          below = q.below;
          rest = q.rest;
          taken = q.off;
          arguments = q.arguments;
          under = q.under;
          waits = waits m q.rest behind_is q.resumes;
        },
      )

      by_depth : (code : Code) → (method_at h.program m).code ≡ Some code → (b : Bool)
          → Typed typings h (when b (Go (state_in_callee h m (given_with receiver q.values) q.rest)) (raise h "java/lang/StackOverflowError"))
      by_depth code coded false = raises typings h site "java/lang/StackOverflowError" None refl
      by_depth code coded true = record {
        heap = site.state.heap;
        statics = site.state.statics;
        inits = site.state.inits;
        top = begins h.program typings site.sound site.are h.state.heap Call m (in_locals (given_with receiver q.values)) (ap is_some coded) (λ c e.
            record { locals = start_fits m c (in_locals (given_with receiver q.values)) e (given_fit m q.values q.arguments receiver received); operands = refl });
        callers = (waits m q.rest behind_is q.resumes, site.state.callers);
      }

      by : (o : Option Code) → (method_at h.program m).code ≡ o → Typed typings h (enter h m o (given_with receiver q.values) q.rest)
      by None none = by_native ((method_at h.program m).native == 0) refl
      by (Some code) coded = by_depth code coded (nat_lt (depth h.state) frame_bound)
