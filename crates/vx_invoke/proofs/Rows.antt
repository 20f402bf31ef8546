-- What the row of a call on an object comes to, by its arguments and its receiver, at one configuration.
use Rattle.std.proofs.Common.{◌≡◌, ◌<◌, ◌≤◌, ◌+◌, ℕ, zero, suc, Bool, true, false, List, [], ◌∷◌, Option, Some, None, refl, sym, ◌∙◌, ap, arith, length}
use Rattle.std.specs.Prelude.{◌&&◌, ◌==◌, if◌then◌else◌, is_some, not, option_map}
use Rattle.vx_class.specs.declared.class_file.Code.{Code}
use Rattle.vx_desc.specs.declared.java_type.JavaType.{JavaType}
use Rattle.vx_java.specs.Calls.{arguments_off, call_instance, call_static, carry_out, dispatch, enter, if_arguments, is_receiver, on_receiver, selection, top_values, values_matching, wrong_kind}
use Rattle.vx_java.specs.Checks.{fits_type}
use Rattle.vx_java.specs.Initialisation.{when_initialised}
use Rattle.vx_java.specs.Machine.{Here, Native as NativeOutcome, Outcome, Value, current_class, illegal, method_text, object_at, unsupported, when}
use Rattle.vx_java.specs.Machine.{Top as TopValue, Int as IntValue, Long as LongValue, Null as NullValue, Ref as RefValue, Text as TextValue}
use Rattle.vx_java.specs.Operation.{native_word}
use Rattle.vx_java.specs.Selection.{selected_if_concrete}
use Rattle.vx_java.specs.declared.operation.Mode.{Mode}
use Rattle.vx_java.specs.declared.operation.Mode.TheVariants.{Interface, Special, Static, Virtual}
use Rattle.vx_java.specs.declared.selected.Selected.{Selected}
use Rattle.vx_java.specs.declared.selected.Selected.TheVariants as selected
use Rattle.vx_link.specs.Assignability.{assignable}
use Rattle.vx_link.specs.ClassNames.{is_array}
use Rattle.vx_link.specs.Names.{Member}
use Rattle.vx_link.specs.Parts.{method_at}
use Rattle.vx_link.specs.Signature.{signature}
use Rattle.vx_invoke.specs.Called.{IsTarget, accepts, by_selected, call_on, called, selected_by}
use Rattle.vx_invoke.specs.declared.call.Call.{Call}
use Rattle.vx_invoke.specs.declared.call.Call.TheVariants as call
use Rattle.vx_invoke.specs.declared.target.Target.{Target}

-- ---- a selected method, by what it has

without_code : (h : Here) (m : ℕ) (values rest : List Value) (zero : Bool) → ((method_at h.program m).native == 0) ≡ zero → enter h m None values rest ≡ called h values rest (if zero then call.Missing (record { 0 = m }) else call.Native (record { 0 = m }))
without_code h m values rest true e = ap (λ b. when b (unsupported h native_word (method_text h.program (method_at h.program m))) (NativeOutcome m h.state)) e
without_code h m values rest false e = ap (λ b. when b (unsupported h native_word (method_text h.program (method_at h.program m))) (NativeOutcome m h.state)) e

entered_is : (h : Here) (m : ℕ) (values rest : List Value) (code : Option Code) → enter h m code values rest ≡ called h values rest (if is_some code then call.Enter (record { 0 = m }) else if (method_at h.program m).native == 0 then call.Missing (record { 0 = m }) else call.Native (record { 0 = m }))
entered_is h m values rest None = without_code h m values rest ((method_at h.program m).native == 0) refl
entered_is h m values rest (Some code) = refl

pub selected_is : (h : Here) (values rest : List Value) (s : Selected) → carry_out h values rest s ≡ called h values rest (by_selected h.program s)
selected_is h values rest (selected.Method m) = entered_is h m.0 values rest (method_at h.program m.0).code
selected_is h values rest selected.Abstract = refl
selected_is h values rest selected.Conflict = refl

-- ---- the receiver

-- what the call comes to on a plain value
abbrev pub call_at : Here → Target → Value → Call
call_at h target NullValue = call.Null
call_at h target (RefValue r) = call_on h.program target (object_at h.state r).class
call_at h target _ = call.Illegal

-- the selection of the row is that of the target
pub selection_is : (h : Here) (mode : Mode) (m : Member) (target : Target) (class : ℕ) → IsTarget mode m (current_class h.program h.state) target → selection h mode m target.named.0 target.resolved.0 class ≡ selected_by mode h.program target class
selection_is h Virtual m target class t = refl
selection_is h Static m target class t = refl
selection_is h Interface m target class t = refl
selection_is h Special m target class t = rw (t.by_interface, t.is_init, t.current) refl

-- whether an object may be the receiver
accepted : (h : Here) (m : Member) (target : Target) (r : ℕ) → target.by_interface ≡ m.by_interface → is_receiver h m target.named.0 (RefValue r) ≡ accepts h.program target (object_at h.state r).class
accepted h m target r e = rw e (by_kinds m.by_interface (is_array h.program target.named.0))
  where
    by_kinds : (i a : Bool) → (if i then true else if a then is_array h.program (object_at h.state r).class else assignable h.program (object_at h.state r).class target.named.0) ≡ (if i then true else if a then is_array h.program (object_at h.state r).class else assignable h.program (object_at h.state r).class target.named.0)
    by_kinds i a = refl

-- null may be the receiver, and what is no reference may not
always : (i a b : Bool) → (if i then b else if a then b else b) ≡ b
always true a b = refl
always false true b = refl
always false false b = refl

-- on an object
on_object : (h : Here) (values rest : List Value) (s : Selected) (accepts implements_not : Bool) → when accepts (when implements_not (wrong_kind h) (carry_out h values rest s)) (illegal h) ≡ called h values rest (if not accepts then call.Illegal else if implements_not then call.WrongKind else by_selected h.program s)
on_object h values rest s false w = refl
on_object h values rest s true true = refl
on_object h values rest s true false = selected_is h values rest s

pub receiver_is : (h : Here) (mode : Mode) (m : Member) (target : Target) (values rest : List Value) (o : Value) → target.mode ≡ mode → IsTarget mode m (current_class h.program h.state) target → on_receiver h m target.named.0 (o ∷ rest) (dispatch h mode m target.named.0 target.resolved.0 values) ≡ called h (o ∷ values) rest (call_at h target o)
receiver_is h mode m target values rest NullValue e t = ap (λ b. when b (called h (NullValue ∷ values) rest call.Null) (illegal h)) (always m.by_interface (is_array h.program target.named.0) true)
receiver_is h mode m target values rest TopValue e t = ap (λ b. when b (called h (NullValue ∷ values) rest call.Null) (illegal h)) (always m.by_interface (is_array h.program target.named.0) false)
receiver_is h mode m target values rest (IntValue n) e t = ap (λ b. when b (called h (NullValue ∷ values) rest call.Null) (illegal h)) (always m.by_interface (is_array h.program target.named.0) false)
receiver_is h mode m target values rest (LongValue n) e t = ap (λ b. when b (called h (NullValue ∷ values) rest call.Null) (illegal h)) (always m.by_interface (is_array h.program target.named.0) false)
receiver_is h mode m target values rest (TextValue units) e t = ap (λ b. when b (called h (NullValue ∷ values) rest call.Null) (illegal h)) (always m.by_interface (is_array h.program target.named.0) false)
receiver_is h mode m target values rest (RefValue r) e t =
    let class = (object_at h.state r).class in
    let vs : List Value = RefValue r ∷ values in
    ap (λ b. when b (dispatch h mode m target.named.0 target.resolved.0 values r rest) (illegal h)) (accepted h m target r t.by_interface)
    ∙ ap (λ b. when (accepts h.program target class) (when (b && not (assignable h.program class target.named.0)) (wrong_kind h) (carry_out h vs rest (selection h mode m target.named.0 target.resolved.0 class))) (illegal h)) (sym t.by_interface)
    ∙ ap (λ s. when (accepts h.program target class) (when (target.by_interface && not (assignable h.program class target.named.0)) (wrong_kind h) (carry_out h vs rest s)) (illegal h)) (selection_is h mode m target class t ∙ ap (λ k. selected_by k h.program target class) (sym e))
    ∙ on_object h vs rest (selected_by target.mode h.program target class) (accepts h.program target class) (target.by_interface && not (assignable h.program class target.named.0))

-- ---- the values

-- one value more off the top is the receiver
pub one_more : (n : ℕ) (taken operands values rest : List Value) (o : Value) → top_values n taken operands ≡ (values, o ∷ rest) → top_values (suc n) taken operands ≡ (o ∷ values, rest)
one_more zero taken [] values rest o e =
    let second : [] ≡ o ∷ rest = ap (λ (t : List Value × List Value). t.1) e in
    cc
one_more zero taken (v ∷ operands) values rest o e =
    let first : taken ≡ values = ap (λ t. t.0) e in
    let second : (v ∷ operands) ≡ (o ∷ rest) = ap (λ t. t.1) e in
    let head : v ≡ o = cc in
    let tail : operands ≡ rest = cc in
    λ i. (head i ∷ first i, tail i)
one_more (suc n) taken [] values rest o e =
    let second : [] ≡ o ∷ rest = ap (λ (t : List Value × List Value). t.1) e in
    cc
one_more (suc n) taken (v ∷ operands) values rest o e = one_more n (v ∷ taken) operands values rest o e

pub count_taken : (n : ℕ) (taken operands : List Value) → n ≤ length operands → length (top_values n taken operands).0 ≡ n + length taken
count_taken zero taken operands l = omega arith
count_taken (suc n) taken [] l = absurd (omega (arith, l))
count_taken (suc n) taken (v ∷ operands) l =
    let counted = count_taken n (v ∷ taken) operands (omega (arith, l)) in
    omega (arith, counted)

-- values that match as many types are those that are matched
matched : (types : List JavaType) (values : List Value) → length values ≡ length types → is_some (values_matching types values) ≡ true → values_matching types values ≡ Some values
matched [] [] l s = refl
matched [] (v ∷ values) l s = absurd (omega (arith, l))
matched (t ∷ types) [] l s = absurd (omega (arith, l))
matched (t ∷ types) (v ∷ values) l s = by_type (fits_type t v) (values_matching types values) (matched types values (omega (arith, l))) s
  where
    inner : (o : Option (List Value)) → (is_some o ≡ true → o ≡ Some values) → is_some (option_map (λ rest. v ∷ rest) o) ≡ true → option_map (λ rest. v ∷ rest) o ≡ Some (v ∷ values)
    inner None f s = cc
    inner (Some found) f s = ap (option_map (λ rest. v ∷ rest)) (f refl)

    by_type : (b : Bool) (o : Option (List Value)) → (is_some o ≡ true → o ≡ Some values) → is_some (if b then option_map (λ rest. v ∷ rest) o else None) ≡ true → (if b then option_map (λ rest. v ∷ rest) o else None) ≡ Some (v ∷ values)
    by_type true o f s = inner o f s
    by_type false o f s = cc

-- ---- the whole row

-- a call with so many operands for the method
abbrev pub called_here : Here → (count : ℕ) → (operands : List Value) → Call → Outcome
called_here h count operands k = let parts = top_values count [] operands in called h parts.0 parts.1 k

-- the operand under the arguments
abbrev pub under : (n : ℕ) → (operands : List Value) → List Value
under n operands = (top_values n [] operands).1

pub instance_row : (h : Here) (mode : Mode) (m : Member) (target : Target) (types : List JavaType) (o : Value) (rest : List Value) (fits : Bool) → target.mode ≡ mode → IsTarget mode m (current_class h.program h.state) target → (signature m.descriptor).arguments ≡ types → length types < length h.state.top.operands → under (length types) h.state.top.operands ≡ o ∷ rest → is_some (values_matching types (top_values (length types) [] h.state.top.operands).0) ≡ fits → call_instance h mode m target.named.0 target.resolved.0 ≡ when fits (called_here h (suc (length types)) h.state.top.operands (call_at h target o)) (illegal h)
instance_row h mode m target types o rest fits e t d l u f =
    let operands = h.state.top.operands in
    let n = length types in
    let parts = top_values n [] operands in
    let long : length parts.0 ≡ n = count_taken n [] operands (omega (arith, l)) ∙ omega arith in
    let more : top_values (suc n) [] operands ≡ (o ∷ parts.0, rest) = one_more n [] operands parts.0 rest o (λ i. (parts.0, u i)) in
    let next : List Value → List Value → Outcome = λ values below. on_receiver h m target.named.0 below (dispatch h mode m target.named.0 target.resolved.0 values) in
    ap (λ ts. if_arguments h (arguments_off ts operands) next) d ∙ by_fit (values_matching types parts.0) fits f (matched types parts.0 long) more
  where
    by_fit : (found : Option (List Value)) (b : Bool) → is_some found ≡ b → (is_some found ≡ true → found ≡ Some (top_values (length types) [] h.state.top.operands).0) → top_values (suc (length types)) [] h.state.top.operands ≡ (o ∷ (top_values (length types) [] h.state.top.operands).0, rest) → if_arguments h (option_map (λ values. (values, under (length types) h.state.top.operands)) found) (λ values below. on_receiver h m target.named.0 below (dispatch h mode m target.named.0 target.resolved.0 values)) ≡ when b (called_here h (suc (length types)) h.state.top.operands (call_at h target o)) (illegal h)
    by_fit None true s g more = cc
    by_fit None false s g more = refl
    by_fit (Some values) false s g more = cc
    by_fit (Some values) true s g more =
        let v0 = (top_values (length types) [] h.state.top.operands).0 in
        let same : Some values ≡ Some v0 = g refl in
        let is : values ≡ v0 = cc in
        ap (λ vs. on_receiver h m target.named.0 (under (length types) h.state.top.operands) (dispatch h mode m target.named.0 target.resolved.0 vs)) is
        ∙ ap (λ below. on_receiver h m target.named.0 below (dispatch h mode m target.named.0 target.resolved.0 v0)) u
        ∙ receiver_is h mode m target v0 rest o e t
        ∙ sym (ap (λ (parts : List Value × List Value). called h parts.0 parts.1 (call_at h target o)) more)

-- with fewer operands it breaks a rule
pub few_operands : (h : Here) (mode : Mode) (m : Member) (named resolved : ℕ) (types : List JavaType) → (signature m.descriptor).arguments ≡ types → length h.state.top.operands ≤ length types → call_instance h mode m named resolved ≡ illegal h
few_operands h mode m named resolved types d l =
    let operands = h.state.top.operands in
    ap (λ ts. if_arguments h (arguments_off ts operands) (λ values below. on_receiver h m named below (dispatch h mode m named resolved values))) d
    ∙ by_match (values_matching types (top_values (length types) [] operands).0) (under (length types) operands) (none_under (length types) [] operands l)
  where
    none_under : (n : ℕ) (taken operands : List Value) → length operands ≤ n → (top_values n taken operands).1 ≡ []
    none_under zero taken [] l = refl
    none_under zero taken (v ∷ operands) l = absurd (omega (arith, l))
    none_under (suc n) taken [] l = refl
    none_under (suc n) taken (v ∷ operands) l = none_under n (v ∷ taken) operands (omega (arith, l))

    by_match : (found : Option (List Value)) (below : List Value) → below ≡ [] → if_arguments h (option_map (λ values. (values, below)) found) (λ values below. on_receiver h m named below (dispatch h mode m named resolved values)) ≡ illegal h
    by_match None below e = refl
    by_match (Some values) below e = ap (λ b. on_receiver h m named b (dispatch h mode m named resolved values)) e

-- a static call with fewer operands breaks a rule
pub few_for_static : (h : Here) (m : Member) (resolved : ℕ) (types : List JavaType) → (signature m.descriptor).arguments ≡ types → length h.state.top.operands < length types → call_static h m resolved ≡ illegal h
few_for_static h m resolved types d l =
    let operands = h.state.top.operands in
    let next : List Value → List Value → Outcome = λ values rest. when_initialised h (method_at h.program resolved).class.0 (λ g. carry_out g values rest (selected_if_concrete g.program resolved)) in
    ap (λ ts. if_arguments h (arguments_off ts operands) next) d
    ∙ ap (λ found. if_arguments h (option_map (λ values. (values, under (length types) operands)) found) next) (unmatched types (top_values (length types) [] operands).0 (few_taken (length types) [] operands l))
  where
    few_taken : (n : ℕ) (taken operands : List Value) → length operands < n → length (top_values n taken operands).0 < n + length taken
    few_taken zero taken operands l = absurd (omega (arith, l))
    few_taken (suc n) taken [] l = omega arith
    few_taken (suc n) taken (v ∷ operands) l =
        let fewer = few_taken n (v ∷ taken) operands (omega (arith, l)) in
        omega (arith, fewer)

    unmatched : (types : List JavaType) (values : List Value) → length values < length types + 0 → values_matching types values ≡ None
    unmatched [] values l = absurd (omega (arith, l))
    unmatched (t ∷ types) [] l = refl
    unmatched (t ∷ types) (v ∷ values) l = by_type (fits_type t v) (values_matching types values) (unmatched types values (omega (arith, l)))
      where
        by_type : (b : Bool) (o : Option (List Value)) → o ≡ None → (if b then option_map (λ rest. v ∷ rest) o else None) ≡ None
        by_type true o e = ap (option_map (λ rest. v ∷ rest)) e
        by_type false o e = refl

-- a static call: its class is made ready where the arguments fit
pub static_row : (h : Here) (m : Member) (resolved : ℕ) (types : List JavaType) (fits : Bool) → (signature m.descriptor).arguments ≡ types → length types ≤ length h.state.top.operands → is_some (values_matching types (top_values (length types) [] h.state.top.operands).0) ≡ fits → call_static h m resolved ≡ when fits (when_initialised h (method_at h.program resolved).class.0 (λ g. called_here g (length types) h.state.top.operands (by_selected g.program (selected_if_concrete g.program resolved)))) (illegal h)
static_row h m resolved types fits d l f =
    let operands = h.state.top.operands in
    let parts = top_values (length types) [] operands in
    let long : length parts.0 ≡ length types = count_taken (length types) [] operands l ∙ omega arith in
    ap (λ ts. if_arguments h (arguments_off ts operands) (λ values rest. when_initialised h (method_at h.program resolved).class.0 (λ g. carry_out g values rest (selected_if_concrete g.program resolved)))) d
    ∙ by_fit (values_matching types parts.0) fits f (matched types parts.0 long)
  where
    by_fit : (found : Option (List Value)) (b : Bool) → is_some found ≡ b → (is_some found ≡ true → found ≡ Some (top_values (length types) [] h.state.top.operands).0) → if_arguments h (option_map (λ values. (values, under (length types) h.state.top.operands)) found) (λ values rest. when_initialised h (method_at h.program resolved).class.0 (λ g. carry_out g values rest (selected_if_concrete g.program resolved))) ≡ when b (when_initialised h (method_at h.program resolved).class.0 (λ g. called_here g (length types) h.state.top.operands (by_selected g.program (selected_if_concrete g.program resolved)))) (illegal h)
    by_fit None true s g = cc
    by_fit None false s g = refl
    by_fit (Some values) false s g = cc
    by_fit (Some values) true s g =
        let v0 = (top_values (length types) [] h.state.top.operands).0 in
        let below = under (length types) h.state.top.operands in
        let same : Some values ≡ Some v0 = g refl in
        let is : values ≡ v0 = cc in
        ap (λ vs. when_initialised h (method_at h.program resolved).class.0 (λ k. carry_out k vs below (selected_if_concrete k.program resolved))) is
        ∙ (λ i. when_initialised h (method_at h.program resolved).class.0 (λ k. selected_is k v0 below (selected_if_concrete k.program resolved) i))
