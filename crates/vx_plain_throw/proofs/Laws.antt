-- Frames that are passed.
use Rattle.std.proofs.Common.{◌≡◌, ℕ, suc, ◌+◌, ◌-◌, ◌<◌, ◌++◌, Bool, true, false, List, [], ◌∷◌, map, length, drop, get_or, reverse, refl, subst, sym, ap, ◌∙◌, arith, if◌then◌else◌, add-one, append_assoc, drop-cons}
use Rattle.std.proofs.Math.ListN.{get_or-map}
use Rattle.std.proofs.lemmas.List.{get_or-reverse, length-append, length-map, length-reverse}
use Rattle.std.proofs.lemmas.Result.{IfOk-weaker, on_ok_weaker}
use Rattle.std.specs.Prelude.{IfOk, None, OnOk, Option, Result, Some}
use Rattle.vx_java.specs.Machine as machine
use Rattle.vx_java.specs.Machine.{Ends, Frame, Goes, Next, Null, Object, Ref, State, current_class, no_object, next_object, object_at, with_inits, with_objects}
use Rattle.vx_java.specs.Throwing.{handler_of, is_error, next_in_handler, passed_object, passed_state, throwable, uncaught, unwind, with_wrapper}
use Rattle.vx_link.specs.ClassNames.{class_text, core_class}
use Rattle.vx_link.specs.declared.program.Program.{Program}
use Rattle.vx_list.specs.Places.{item_or}
use Rattle.vx_plain.specs.Frames.{with_frame}
use Rattle.vx_plain.specs.Views.{frame_of}
use Rattle.vx_plain.specs.declared.frame.Frame as plain
use Rattle.vx_plain_here.specs.Rows.{places_of}
use Rattle.vx_plain_throw.specs.declared.next.Next as next
use Rattle.vx_plain_throw.specs.declared.next.Next.TheVariants as led
use Rattle.vx_plain_throw.specs.Passing.{IsHandled, Led, behind, class_behind, handler_by, in_handler, uncaught_over, wrapped_object, wrapped_state, wrapper_or}
use Rattle.vx_value.specs.declared.end.End.TheVariants.{Uncaught}
use Rattle.vx_value.specs.declared.key.Kind.{Kind}
use Rattle.vx_value.specs.declared.key.Kind.TheVariants.{Call, Init, Wait}
use Rattle.vx_value.specs.declared.slot.InitState.TheVariants.{Failed}

-- ---- one frame

pub same_handler : (p : Program) (s : State) (kind : Kind) (r : ℕ) → handler_by p kind s.top (object_at s r).class ≡ handler_of p s kind r
same_handler p s Call r = refl
same_handler p s Init r = refl
same_handler p s Wait r = refl

last_item : (xs : List Object) (x d : Object) → item_or (xs ++ x ∷ []) (length xs) d ≡ x
last_item [] x d = refl
last_item (y ∷ ys) x d = last_item ys x d

wrapped_class : (p : Program) (s : State) (r : ℕ) (classes : List ℕ) (b : Bool)
    → (object_at (with_inits (if b then s else with_wrapper p s r) Failed classes) (if b then r else next_object s)).class ≡ (if b then (object_at s r).class else core_class p "java/lang/ExceptionInInitializerError")
wrapped_class p s r classes true = refl
wrapped_class p s r classes false = ap (λ (o : Object). o.class) (last_item s.heap _ no_object)

-- the class of what is thrown behind a frame
passed_class : (p : Program) (s : State) (kind : Kind) (r : ℕ) → (object_at (passed_state p s kind r) (passed_object p s kind r)).class ≡ class_behind p kind (object_at s r).class
passed_class p s Call r = refl
passed_class p s Init r = wrapped_class p s r (current_class p s ∷ []) (is_error p s r)
passed_class p s Wait r = wrapped_class p s r (current_class p s ∷ []) (is_error p s r)

wrapped_callers : (p : Program) (s : State) (r : ℕ) (classes : List ℕ) (b : Bool) → (with_inits (if b then s else with_wrapper p s r) Failed classes).callers ≡ s.callers
wrapped_callers p s r classes true = refl
wrapped_callers p s r classes false = refl

passed_callers : (p : Program) (s : State) (kind : Kind) (r : ℕ) → (passed_state p s kind r).callers ≡ s.callers
passed_callers p s Call r = refl
passed_callers p s Init r = wrapped_callers p s r (current_class p s ∷ []) (is_error p s r)
passed_callers p s Wait r = wrapped_callers p s r (current_class p s ∷ []) (is_error p s r)

-- ---- what leaves an initialisation

pub wrapped_place : {E : Type 0} (r : Result ℕ E) (p : Program) (s : State) (object : ℕ) → false ≡ is_error p s object → IfOk r (λ place. place ≡ next_object s) → IfOk r (λ place. place ≡ wrapped_object p s object)
wrapped_place r p s object told made = subst (λ b. IfOk r (λ place. place ≡ (if b then object else next_object s))) told made

pub wrapped_now : {E : Type 0} (r : Result ℕ E) (p : Program) (s new : State) (object : ℕ) (made : Object) → false ≡ is_error p s object → made ≡ throwable p (core_class p "java/lang/ExceptionInInitializerError") Null (Ref object)
    → OnOk r (new ≡ with_objects s (made ∷ [])) → OnOk r (new ≡ wrapped_state p s object)
wrapped_now r p s new object made told is added =
    subst (λ b. OnOk r (new ≡ (if b then s else with_wrapper p s object))) told (subst (λ o. OnOk r (new ≡ with_objects s (o ∷ []))) is added)

-- the kind of the frame that is passed
pub place_of_kind : {E : Type 0} (r : Result ℕ E) (p : Program) (s : State) (object : ℕ) (told kind : Kind) → told ≡ kind → IfOk r (λ place. place ≡ passed_object p s told object) → IfOk r (λ place. place ≡ passed_object p s kind object)
place_of_kind r p s object told kind is made = subst (λ k. IfOk r (λ place. place ≡ passed_object p s k object)) is made

pub state_of_kind : {E : Type 0} (r : Result ℕ E) (p : Program) (s new : State) (object : ℕ) (told kind : Kind) → told ≡ kind → OnOk r (new ≡ passed_state p s told object) → OnOk r (new ≡ passed_state p s kind object)
state_of_kind r p s new object told kind is made = subst (λ k. OnOk r (new ≡ passed_state p s k object)) is made

-- ---- no frame handles

abbrev pub over : Program → List Frame → Option ℕ → Option ℕ
over p rest o = elim o as (λ _. Option ℕ) [ None ↦ None | Some class ↦ uncaught_over p rest class ]

abbrev pub behind_by : Program → Kind → ℕ → Option ℕ → Option ℕ
behind_by p kind thrown o = elim o as (λ _. Option ℕ) [ Some handler ↦ None | None ↦ Some (class_behind p kind thrown) ]

-- the outcome of a throw by the handler of the frame on top
abbrev led_by : State → ℕ → Next → Option ℕ → Next
led_by s r next o = elim o as (λ _. Next) [ Some handler ↦ next_in_handler s r handler | None ↦ next ]

pub ends_uncaught : (p : Program) (callers : List Frame) (s : State) (r class : ℕ) → uncaught_over p (s.top ∷ callers) (object_at s r).class ≡ Some class → unwind p s r callers ≡ Ends (Uncaught (class_text p class))
ends_uncaught p [] s r class e = cases (handler_of p s s.top.kind r) (ap (λ o. over p [] (behind_by p s.top.kind (object_at s r).class o)) (sym (same_handler p s s.top.kind r)) ∙ e)
  where
    cases : (o : Option ℕ) → over p [] (behind_by p s.top.kind (object_at s r).class o) ≡ Some class
        → led_by s r (uncaught p (passed_state p s s.top.kind r) (passed_object p s s.top.kind r)) o ≡ Ends (Uncaught (class_text p class))
    cases (Some handler) h = cc
    cases None h = ap (λ k. Ends (Uncaught (class_text p k))) (passed_class p s s.top.kind r ∙ same h)
      where
        same : {a b : ℕ} → Some a ≡ Some b → a ≡ b
        same k = cc
ends_uncaught p (f ∷ below) s r class e = cases (handler_of p s s.top.kind r) (ap (λ o. over p (f ∷ below) (behind_by p s.top.kind (object_at s r).class o)) (sym (same_handler p s s.top.kind r)) ∙ e) (λ h. ends_uncaught p below (record (passed_state p s s.top.kind r) { top = f; callers = below }) (passed_object p s s.top.kind r) class (ap (uncaught_over p (f ∷ below)) (passed_class p s s.top.kind r) ∙ h))
  where
    cases : (o : Option ℕ) → over p (f ∷ below) (behind_by p s.top.kind (object_at s r).class o) ≡ Some class
        → (uncaught_over p (f ∷ below) (class_behind p s.top.kind (object_at s r).class) ≡ Some class → unwind p (record (passed_state p s s.top.kind r) { top = f; callers = below }) (passed_object p s s.top.kind r) below ≡ Ends (Uncaught (class_text p class)))
        → led_by s r (unwind p (record (passed_state p s s.top.kind r) { top = f; callers = below }) (passed_object p s s.top.kind r) below) o ≡ Ends (Uncaught (class_text p class))
    cases (Some handler) h next = cc
    cases None h next = next h

-- ---- a frame handles

pub handles : (p : Program) (s : State) (r handler : ℕ) (callers : List Frame) → Some handler ≡ handler_of p s s.top.kind r → unwind p s r callers ≡ Goes (in_handler s r handler)
handles p s r handler [] e = ap (led_by s r (uncaught p (passed_state p s s.top.kind r) (passed_object p s s.top.kind r))) (sym e)
handles p s r handler (f ∷ below) e = ap (led_by s r (unwind p (record (passed_state p s s.top.kind r) { top = f; callers = below }) (passed_object p s s.top.kind r) below)) (sym e)

pub handled : {T E : Type 0} (r : Result T E) (p : Program) (said : Next) (s new : State) (object handler : ℕ) → said ≡ unwind p s object s.callers → Some handler ≡ handler_of p s s.top.kind object
    → OnOk r (new ≡ in_handler s object handler) → OnOk r (said ≡ Goes new)
handled r p said s new object handler reached some made = on_ok_weaker r goes made
  where
    goes : new ≡ in_handler s object handler → said ≡ Goes new
    goes is = reached ∙ handles p s object handler s.callers some ∙ ap Goes (sym is)

-- the frame on top is passed
pub passes_on : (p : Program) (s : State) (r : ℕ) (next : State) (frame : Frame) → None ≡ handler_of p s s.top.kind r → passed_state p s s.top.kind r ≡ with_frame next frame
    → unwind p s r s.callers ≡ unwind p next (passed_object p s s.top.kind r) next.callers
passes_on p s r next frame none left =
    let below = sym (passed_callers p s s.top.kind r) ∙ ap (λ (x : State). x.callers) left in
    ap (unwind p s r) below
    ∙ ap (led_by s r (unwind p (record (passed_state p s s.top.kind r) { top = next.top; callers = next.callers }) (passed_object p s s.top.kind r) next.callers)) (sym none)
    ∙ ap (λ (x : State). unwind p (record x { top = next.top; callers = next.callers }) (passed_object p s s.top.kind r) next.callers) left

-- the frames below one that does not handle
past_top : (p : Program) (s : State) (r : ℕ) (callers : List Frame) → None ≡ handler_of p s s.top.kind r → uncaught_over p (s.top ∷ callers) (object_at s r).class ≡ uncaught_over p callers (class_behind p s.top.kind (object_at s r).class)
past_top p s r callers none = ap (λ o. over p callers (behind_by p s.top.kind (object_at s r).class o)) (same_handler p s s.top.kind r ∙ sym none)

below_top : (p : Program) (s : State) (r : ℕ) (next : State) (frame : Frame) → passed_state p s s.top.kind r ≡ with_frame next frame → s.callers ≡ next.top ∷ next.callers
below_top p s r next frame left = sym (passed_callers p s s.top.kind r) ∙ ap (λ (x : State). x.callers) left

pub one_fewer : (p : Program) (s : State) (r : ℕ) (next : State) (frame : Frame) → passed_state p s s.top.kind r ≡ with_frame next frame → length s.callers ≡ length next.callers + 1
one_fewer p s r next frame left =
    let all : length s.callers ≡ suc (length next.callers) = ap length (below_top p s r next frame left) in
    omega (arith, all)

pub still_handled : (p : Program) (s : State) (r : ℕ) (next : State) (frame : Frame) → None ≡ handler_of p s s.top.kind r → passed_state p s s.top.kind r ≡ with_frame next frame → IsHandled p s r → IsHandled p next (passed_object p s s.top.kind r)
still_handled p s r next frame none left handled =
    let thrown = class_behind p s.top.kind (object_at s r).class in
    let class : (object_at next (passed_object p s s.top.kind r)).class ≡ thrown = sym (ap (λ (x : State). (object_at x (passed_object p s s.top.kind r)).class) left) ∙ passed_class p s s.top.kind r in
    handled
    ∙ past_top p s r s.callers none
    ∙ ap (λ frames. uncaught_over p frames thrown) (below_top p s r next frame left)
    ∙ ap (uncaught_over p (next.top ∷ next.callers)) (sym class)

-- so many of the frames of a state were passed, and one of those left handles what is thrown
pub record IsUnwinding (p : Program) (first : State) (object : ℕ) (s : State) (thrown passed frames : ℕ) : Type 0 where
  pub same : unwind p first object first.callers ≡ unwind p s thrown s.callers
  pub handled : IsHandled p s thrown
  pub left : length s.callers + 1 + passed ≡ frames

-- an object that no frame handles is not handled
pub none_handles : {A : Type 0} (p : Program) (s passed : State) (r : ℕ) → None ≡ handler_of p s s.top.kind r → passed ≡ passed_state p s s.top.kind r → passed.callers ≡ [] → IsHandled p s r → A
none_handles p s passed r none is empty handled =
    let thrown = class_behind p s.top.kind (object_at s r).class in
    let alone : s.callers ≡ [] = sym (passed_callers p s s.top.kind r) ∙ sym (ap (λ (x : State). x.callers) is) ∙ empty in
    let told : None ≡ Some thrown = handled ∙ past_top p s r s.callers none ∙ ap (λ frames. uncaught_over p frames thrown) alone in
    absurd (cc told)

-- ---- frames, the nearest caller last

frame_above : (frames : List plain.Frame) (above : ℕ) (d : plain.Frame) → above < length frames
    → drop above (reverse (map frame_of frames)) ≡ frame_of (get_or frames (length frames - 1 - above) d) ∷ drop (above + 1) (reverse (map frame_of frames))
frame_above frames above d lt =
    let many = length-map frames frame_of in
    rw add-one
    (drop-cons (reverse (map frame_of frames)) above (frame_of d) (omega (arith, lt, many, length-reverse (map frame_of frames)))
    ∙ ap (λ f. f ∷ drop (suc above) (reverse (map frame_of frames)))
    (get_or-reverse (map frame_of frames) above (frame_of d) (omega (arith, lt, many))
    ∙ ap (λ n. get_or (map frame_of frames) (n - 1 - above) (frame_of d)) many
    ∙ get_or-map frame_of frames (length frames - 1 - above) d))

frame_at : (frames : List plain.Frame) (above place : ℕ) (f : plain.Frame) → f ≡ get_or frames place f → above < length frames → place ≡ length frames - 1 - above
    → drop above (reverse (map frame_of frames)) ≡ frame_of f ∷ drop (above + 1) (reverse (map frame_of frames))
frame_at frames above place f is lt at =
    frame_above frames above f lt ∙ ap (λ g. frame_of g ∷ drop (above + 1) (reverse (map frame_of frames))) (ap (λ i. get_or frames i f) (sym at) ∙ sym is)

pub one_passed : (p : Program) (frames : List plain.Frame) (above place thrown class : ℕ) (f : plain.Frame) → f ≡ get_or frames place f → Some class ≡ behind p (frame_of f) thrown → above < length frames → place ≡ length frames - 1 - above
    → uncaught_over p (drop above (reverse (map frame_of frames))) thrown ≡ uncaught_over p (drop (above + 1) (reverse (map frame_of frames))) class
one_passed p frames above place thrown class f is some lt at =
    ap (λ fs. uncaught_over p fs thrown) (frame_at frames above place f is lt at) ∙ ap (over p (drop (above + 1) (reverse (map frame_of frames)))) (sym some)

pub one_handles : (p : Program) (frames : List plain.Frame) (above place thrown : ℕ) (f : plain.Frame) → f ≡ get_or frames place f → None ≡ behind p (frame_of f) thrown → above < length frames → place ≡ length frames - 1 - above
    → uncaught_over p (drop above (reverse (map frame_of frames))) thrown ≡ None
one_handles p frames above place thrown f is none lt at =
    ap (λ fs. uncaught_over p fs thrown) (frame_at frames above place f is lt at) ∙ ap (over p (drop (above + 1) (reverse (map frame_of frames)))) (sym none)

pub none_left : (p : Program) (frames : List plain.Frame) (above thrown : ℕ) → length frames ≡ above → uncaught_over p (drop above (reverse (map frame_of frames))) thrown ≡ Some thrown
none_left p frames above thrown e = ap (λ fs. uncaught_over p fs thrown) (all_dropped (reverse (map frame_of frames)) above (omega (arith, e, length-map frames frame_of, length-reverse (map frame_of frames))))
  where
    all_dropped : (fs : List Frame) (n : ℕ) → length fs ≡ n → drop n fs ≡ []
    all_dropped [] n h = rw (sym h) refl
    all_dropped (f ∷ fs) n h = rw (sym h) (all_dropped fs (length fs) refl)

-- ---- the end of a run

pub ended : (made : next.Next) (said : Next) (s : State) (text : List ℕ) → made ≡ led.Ends (Uncaught text) → said ≡ Ends (Uncaught text) → Led said s s made
ended made said s text e is = subst (Led said s s) (sym e) (is, refl)

-- from a state whose frames stand where those of the first one do
led_from : (told said : Next) (old moved new : State) (n : next.Next) → told ≡ said → places_of moved ≡ places_of old → Led told moved new n → Led said old new n
led_from told said old moved new led.Goes e stand h = sym e ∙ h
led_from told said old moved new (led.Ends end) e stand h = (sym e ∙ h.0, h.1 ∙ stand)

pub leads : {E : Type 0} (r : Result next.Next E) (told said : Next) (old moved new : State) → told ≡ said → places_of moved ≡ places_of old → IfOk r (Led told moved new) → IfOk r (Led said old new)
leads r told said old moved new e stand h = IfOk-weaker r (Led told moved new) (Led said old new) (λ n. led_from told said old moved new n e stand) h

-- ---- an exception and its message

pub two_added : (s moved new : State) (a b : Object) → moved ≡ with_objects s (a ∷ []) → new ≡ with_objects moved (b ∷ []) → new ≡ with_objects s (a ∷ b ∷ [])
two_added s moved new a b e f = f ∙ ap (λ x. with_objects x (b ∷ [])) e ∙ (λ i. record s { heap = append_assoc s.heap (a ∷ []) (b ∷ []) i })

pub next_behind : (s moved : State) (a : Object) → moved ≡ with_objects s (a ∷ []) → next_object moved ≡ next_object s + 1
next_behind s moved a e = ap next_object e ∙ length-append s.heap (a ∷ [])

pub last_of_two : (n : ℕ) → n + 1 ≡ n + 2 - 1
last_of_two n = omega arith

pub last_of_one : (n : ℕ) → n ≡ n + 1 - 1
last_of_one n = omega arith
