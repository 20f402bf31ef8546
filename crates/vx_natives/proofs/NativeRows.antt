-- What a native method comes to at one configuration: what its method makes of the values of the call.
use Rattle.std.proofs.Common.{◌≡◌, ℕ, ◌+◌, ◌-◌, ◌<◌, ◌≤◌, zero, suc, Bool, true, false, List, [], ◌∷◌, ◌++◌, refl, sym, ◌∙◌, ap, arith, drop, length, map, reverse, subst, take, if◌then◌else◌}
use Rattle.std.proofs.lemmas.Bool.{ltb-true}
use Rattle.std.proofs.lemmas.List.{append-nil, drop-drop, length-drop, length-reverse, length-take, map-append, reverse-append, take-map}
use Rattle.std.proofs.lemmas.List.Folds.{list_all-append}
use Rattle.std.proofs.lemmas.Option.{slice_get-map}
use Rattle.std.proofs.lemmas.Slice.Eq.{bytes_eq-Decides}
use Rattle.std.specs.List.{AllZip, list_all}
use Rattle.std.specs.Prelude.{◌&&◌, None, Option, Some, bytes_eq, is_some, nat_lt, option_map, slice_get, unwrap_or}
use Rattle.vx_class.specs.Members.{STATIC}
use Rattle.vx_class.specs.declared.class_file.Code.{Code}
use Rattle.vx_desc.specs.declared.java_type.Descriptor.{Descriptor}
use Rattle.vx_group_states.proofs.AnswerLaws.{all_drop, map_drop}
use Rattle.vx_group_states.specs.Sites.{here}
use Rattle.vx_group_states.specs.declared.site.Site.{Site}
use Rattle.vx_heap.specs.Heap.{HeapView, are_held, is_held, objects_at, value_of}
use Rattle.vx_java.specs.Calls.{arguments_off, if_arguments, top_values, values_matching}
use Rattle.vx_java.specs.Checks.{same_bool}
use Rattle.vx_java.specs.FirstObjects.{narrow_of_type}
use Rattle.vx_java.specs.Machine.{Here, Outcome, State, Value, current_class, illegal, when}
use Rattle.vx_java.specs.NativeForms.{Form, form_of, forms, has_form, is_form}
use Rattle.vx_java.specs.Natives.{apply, apply_to, as_read, carried_out, native, native_of, no_code}
use Rattle.vx_java.specs.Returns.{instruction_size}
use Rattle.vx_java.specs.Texts.{NativeMethod}
use Rattle.vx_link.specs.Parts.{class_at, has, method_at}
use Rattle.vx_link.specs.Signature.{signature}
use Rattle.vx_link.specs.declared.program.LinkedMethod.{LinkedMethod}
use Rattle.vx_opcode.specs.Decode.{instruction_at}
use Rattle.vx_space.specs.Sets.{Sets}
use Rattle.vx_value.specs.declared.operation.Narrow.{Narrow}
use Rattle.vx_value.specs.declared.slot.Slot.{Slot}
use Rattle.vx_natives.specs.Arguments.{AreRead, IsRead, arguments_of, arguments_with, is_instance, receivers, room_for, taken_by, where_room, with_receiver}
use Rattle.vx_natives.specs.Forms.{is_numbered, reads_at, reads_of}
use Rattle.vx_natives.specs.Rows.{by_arguments}
use Rattle.vx_natives.proofs.ArgumentRows.{arguments_are, fits_all, instance_there, matching_are, none_stays, read_all, read_are, reads_are, room_there, short_none, top_values_are, wanted_all, wanted_are}
use Rattle.vx_natives.proofs.Numbers.{all_read}

-- ---- the state at the call

-- a native method at a state of a frame at this site
native_here : (site : Site) (m : ℕ) (s : State) → (method_at site.program.now s.top.method).code ≡ Some site.code.now → instruction_size (instruction_at site.code.now.bytes s.top.position) ≡ site.size → native site.program.now s m ≡ carried_out (here site s) (method_at site.program.now m)
native_here site m s code size =
    let p = site.program.now in
    let pool = (class_at p (current_class p s)).pool in
    let seen : Code → ℕ → Here = λ b n. record { program = p; state = s; code = b; pool = pool; size = n } in
    let bodies : unwrap_or (method_at p s.top.method).code no_code ≡ site.code.now = ap (λ o. unwrap_or o no_code) code in
    ap (λ h. carried_out h (method_at p m)) (ap (λ b. seen b (instruction_size (instruction_at b.bytes s.top.position))) bodies ∙ ap (seen site.code.now) size)

-- ---- lists

mirrored : {A B : Type 0} (f : A → B) (xs : List A) → map f (reverse xs) ≡ reverse (map f xs)
mirrored f [] = refl
mirrored f (x ∷ xs) = ap (map f) (reverse-append (x ∷ []) xs) ∙ map-append f (reverse xs) (x ∷ []) ∙ ap (λ ys. ys ++ f x ∷ []) (mirrored f xs) ∙ sym (reverse-append (f x ∷ []) (map f xs))

pub all_take : {A : Type 0} (f : A → Bool) (n : ℕ) (xs : List A) → list_all f xs ≡ true → list_all f (take n xs) ≡ true
all_take f zero xs t = refl
all_take f (suc n) [] t = refl
all_take f (suc n) (x ∷ xs) t = both (f x) (list_all f xs) (list_all f (take n xs)) t (all_take f n xs)
  where
    both : (a b d : Bool) → (a && b) ≡ true → (b ≡ true → d ≡ true) → (a && d) ≡ true
    both true b d t g = g t
    both false b d t g = cc

pub all_reversed : {A : Type 0} (f : A → Bool) (xs : List A) → list_all f xs ≡ true → list_all f (reverse xs) ≡ true
all_reversed f [] t = refl
all_reversed f (x ∷ xs) t =
    ap (list_all f) (reverse-append (x ∷ []) xs)
    ∙ list_all-append f (reverse xs) (x ∷ [])
    ∙ joined (f x) (list_all f xs) (list_all f (reverse xs)) t (all_reversed f xs)
  where
    joined : (a b d : Bool) → (a && b) ≡ true → (b ≡ true → d ≡ true) → (d && (a && true)) ≡ true
    joined true b d t g = ap (λ e. e && true) (g t)
    joined false b d t g = cc

-- ---- one configuration

module _ {S I : Type 0} (sets : Sets I) (heap : HeapView S I) (c : List Bool) (F : NativeMethod) (h : Here) where
  -- a static method
  of_class : (fits wanted room : Bool) (xs rest : List Slot) → (if fits then when (wanted && room) (F h (map (value_of sets heap c) xs) (map (value_of sets heap c) rest)) (illegal h) else illegal h) ≡ by_arguments sets heap c F h rest (where_room room (if fits && wanted then Some xs else None))
  of_class true true true xs rest = refl
  of_class true true false xs rest = refl
  of_class true false true xs rest = refl
  of_class true false false xs rest = refl
  of_class false wanted true xs rest = refl
  of_class false wanted false xs rest = refl

  -- a method without a receiver
  of_nobody : (room : Bool) (rest : List Slot) → illegal h ≡ by_arguments sets heap c F h rest (where_room room None)
  of_nobody true rest = refl
  of_nobody false rest = refl

  -- a method with one, which may not be of its class
  of_object : (fits wanted room instance : Bool) (xs rest : List Slot) → (if fits then when instance (when (wanted && room) (F h (map (value_of sets heap c) xs) (map (value_of sets heap c) rest)) (illegal h)) (illegal h) else illegal h) ≡ by_arguments sets heap c F h rest (where_room room (if instance then (if fits && wanted then Some xs else None) else None))
  of_object fits wanted room true xs rest = of_class fits wanted room xs rest
  of_object true wanted room false xs rest = of_nobody room rest
  of_object false wanted room false xs rest = of_nobody room rest

-- arguments that are found or not
if_found : (h : Here) (fits : Bool) (vs below : List Value) (next : List Value → List Value → Outcome) → if_arguments h (option_map (λ xs. (xs, below)) (if fits then Some vs else None)) next ≡ (if fits then next vs below else illegal h)
if_found h true vs below next = refl
if_found h false vs below next = refl

module _ {S I : Type 0} (sets : Sets I) (heap : HeapView S I) (c : List Bool) (site : Site) (s : State) (m : LinkedMethod) (over : s.heap ≡ objects_at sets heap c) where
  abbrev v : Slot → Value
  v = value_of sets heap c

  abbrev h : Here
  h = here site s

  abbrev form : Descriptor
  form = signature m.descriptor

  abbrev F : NativeMethod
  F = native_of m.native

  applied : (before args rest : List Slot) → are_held sets heap c args ≡ true → apply h m (map v before) (map v args) (map v rest) ≡ when (wanted_all site.program.now heap m.descriptor form.arguments args && room_for site.code.now.max_stack form.result rest) (F h (map v (before ++ read_all form.arguments args)) (map v rest)) (illegal h)
  applied before args rest t =
      let wanted = wanted_are sets heap c h over m.descriptor form.arguments args t in
      let room = room_there sets heap c h over form.result rest in
      let all : map v before ++ as_read form.arguments (map v args) ≡ map v (before ++ read_all form.arguments args) = ap (λ xs. map v before ++ xs) (reads_are sets heap c h over form.arguments args) ∙ sym (map-append v before (read_all form.arguments args)) in
      λ i. when (wanted i && room i) (F h (all i) (map v rest)) (illegal h)

  -- the values of a method with a receiver
  on_object : (class : ℕ) (o : Slot) (args : List Slot) (instance : Bool) → length args ≤ length form.arguments → arguments_with site.program.now heap m.descriptor form.arguments args (if instance then Some (o ∷ []) else None) ≡ (if instance then (if fits_all form.arguments args && wanted_all site.program.now heap m.descriptor form.arguments args then Some (o ∷ read_all form.arguments args) else None) else None)
  on_object class o args true l = arguments_are site.program.now heap m.descriptor form.arguments args (o ∷ []) l
  on_object class o args false l = none_stays site.program.now heap m.descriptor form.arguments args

  abbrev next : (static : Bool) → List Value → List Value → Outcome
  next static vs below = when static (apply h m [] vs below) (apply_to h m vs below)

  neither : (b : Bool) → (if b then illegal h else illegal h) ≡ illegal h
  neither true = refl
  neither false = refl

  by_static : (static : Bool) (args below : List Slot) → length args ≤ length form.arguments → are_held sets heap c args ≡ true → are_held sets heap c below ≡ true → (if fits_all form.arguments args then next static (map v args) (map v below) else illegal h) ≡ by_arguments sets heap c F h (drop (receivers static) below) (where_room (room_for site.code.now.max_stack form.result (drop (receivers static) below)) (arguments_with site.program.now heap m.descriptor form.arguments args (with_receiver site.program.now heap static m.class.0 below)))
  by_static true args below l t u =
      let fits = fits_all form.arguments args in
      let wanted = wanted_all site.program.now heap m.descriptor form.arguments args in
      let room = room_for site.code.now.max_stack form.result below in
      ap (λ o. if fits then o else illegal h) (applied [] args below t)
      ∙ of_class sets heap c F h fits wanted room (read_all form.arguments args) below
      ∙ ap (λ given. by_arguments sets heap c F h below (where_room room given)) (sym (arguments_are site.program.now heap m.descriptor form.arguments args [] l))
  by_static false args [] l t u =
      let fits = fits_all form.arguments args in
      let room = room_for site.code.now.max_stack form.result [] in
      neither fits
      ∙ of_nobody sets heap c F h room []
      ∙ ap (λ given. by_arguments sets heap c F h [] (where_room room given)) (sym (none_stays site.program.now heap m.descriptor form.arguments args))
  by_static false args (o ∷ rest) l t u =
      let fits = fits_all form.arguments args in
      let wanted = wanted_all site.program.now heap m.descriptor form.arguments args in
      let room = room_for site.code.now.max_stack form.result rest in
      let instance = is_instance site.program.now heap m.class.0 o in
      let held : is_held sets heap c o ≡ true = first_held (is_held sets heap c o) (are_held sets heap c rest) u in
      ap (λ b. if fits then when b (apply h m (v o ∷ []) (map v args) (map v rest)) (illegal h) else illegal h) (sym (instance_there sets heap c h over m.class.0 o held))
      ∙ ap (λ x. if fits then when instance x (illegal h) else illegal h) (applied (o ∷ []) args rest t)
      ∙ of_object sets heap c F h fits wanted room instance (o ∷ read_all form.arguments args) rest
      ∙ ap (λ given. by_arguments sets heap c F h rest (where_room room given)) (sym (on_object m.class.0 o args instance l))
    where
      first_held : (a b : Bool) → (a && b) ≡ true → a ≡ true
      first_held true b x = refl
      first_held false b x = cc

  module _ (operands : List Slot) (there : s.top.operands ≡ map v operands) (held : are_held sets heap c operands ≡ true) where
    abbrev count : ℕ
    count = length form.arguments

    abbrev args : List Slot
    args = reverse (take count operands)

    abbrev below : List Slot
    below = drop count operands

    args_few : length args ≤ count
    args_few = omega (arith, length-reverse (take count operands), length-take count operands)

    args_held : are_held sets heap c args ≡ true
    args_held = all_reversed (is_held sets heap c) (take count operands) (all_take (is_held sets heap c) count operands held)

    parts : top_values count [] (map v operands) ≡ (map v args, map v below)
    parts =
        let upper : reverse (take count (map v operands)) ++ [] ≡ map v args = append-nil (reverse (take count (map v operands))) ∙ ap reverse (take-map v count operands) ∙ sym (mirrored v (take count operands)) in
        top_values_are count [] (map v operands) ∙ (λ i. (upper i, sym (map_drop v count operands) i))

    found : arguments_off form.arguments s.top.operands ≡ option_map (λ xs. (xs, map v below)) (if fits_all form.arguments args then Some (map v args) else None)
    found =
        ap (arguments_off form.arguments) there
        ∙ ap (λ (both : List Value × List Value). option_map (λ xs. (xs, both.1)) (values_matching form.arguments both.0)) parts
        ∙ ap (option_map (λ xs. (xs, map v below))) (matching_are sets heap c h over form.arguments args args_few)

    left_over : (static : Bool) → drop (receivers static) below ≡ drop (count + receivers static) operands
    left_over static = drop-drop (receivers static) count operands

    carried_row : carried_out h m ≡ by_arguments sets heap c F h (drop (taken_by m) operands) (arguments_of site heap m operands)
    carried_row =
        let static = has STATIC m.flags in
        ap (λ o. if_arguments h o (next static)) found
        ∙ if_found h (fits_all form.arguments args) (map v args) (map v below) (next static)
        ∙ by_static static args below args_few args_held (all_drop (is_held sets heap c) count operands held)
        ∙ ap (λ rest. by_arguments sets heap c F h rest (arguments_of site heap m operands)) (left_over static)

-- by the number of a method
pub native_row : {S I : Type 0} (sets : Sets I) (heap : HeapView S I) (c : List Bool) (site : Site) (s : State) (m : ℕ) (operands : List Slot) → (method_at site.program.now s.top.method).code ≡ Some site.code.now → instruction_size (instruction_at site.code.now.bytes s.top.position) ≡ site.size → s.heap ≡ objects_at sets heap c → s.top.operands ≡ map (value_of sets heap c) operands → are_held sets heap c operands ≡ true → native site.program.now s m ≡ by_arguments sets heap c (native_of (method_at site.program.now m).native) (here site s) (drop (taken_by (method_at site.program.now m)) operands) (arguments_of site heap (method_at site.program.now m) operands)
native_row sets heap c site s m operands code size over there held = native_here site m s code size ∙ carried_row sets heap c site s (method_at site.program.now m) over operands there held

-- ---- too few operands

-- a call with too few is given nothing
pub few_none : {S I : Type 0} (site : Site) (heap : HeapView S I) (m : LinkedMethod) (operands : List Slot) → length operands < taken_by m → arguments_of site heap m operands ≡ None
few_none site heap m operands l = by_static (has STATIC m.flags) l
  where
    nothing : (room : Bool) → where_room room None ≡ None
    nothing true = refl
    nothing false = refl

    lacking : (given : Option (List Slot)) (room : Bool) → length operands < length (signature m.descriptor).arguments → where_room room (arguments_with site.program.now heap m.descriptor (signature m.descriptor).arguments (reverse (take (length (signature m.descriptor).arguments) operands)) given) ≡ None
    lacking given room short = ap (where_room room) (short_none site.program.now heap m.descriptor (signature m.descriptor).arguments _ given (omega (arith, short, length-reverse (take (length (signature m.descriptor).arguments) operands), length-take (length (signature m.descriptor).arguments) operands))) ∙ nothing room

    by_static : (static : Bool) → length operands < length (signature m.descriptor).arguments + receivers static → where_room (room_for site.code.now.max_stack (signature m.descriptor).result (drop (receivers static) (drop (length (signature m.descriptor).arguments) operands))) (arguments_with site.program.now heap m.descriptor (signature m.descriptor).arguments (reverse (take (length (signature m.descriptor).arguments) operands)) (with_receiver site.program.now heap static m.class.0 (drop (length (signature m.descriptor).arguments) operands))) ≡ None
    by_static true short = lacking _ _ (omega (arith, short))
    by_static false short = under (drop (length (signature m.descriptor).arguments) operands) (length-drop (length (signature m.descriptor).arguments) operands)
      where
        under : (below : List Slot) → length below ≡ length operands - length (signature m.descriptor).arguments → where_room (room_for site.code.now.max_stack (signature m.descriptor).result (drop 1 below)) (arguments_with site.program.now heap m.descriptor (signature m.descriptor).arguments (reverse (take (length (signature m.descriptor).arguments) operands)) (with_receiver site.program.now heap false m.class.0 below)) ≡ None
        under [] e = ap (where_room _) (none_stays site.program.now heap m.descriptor (signature m.descriptor).arguments _) ∙ nothing _
        under (o ∷ rest) e = lacking _ _ (omega (arith, e, short))

-- ---- how values are read

-- the values of a call are read as its method's descriptor says
pub given_read : {S I : Type 0} (site : Site) (heap : HeapView S I) (m : LinkedMethod) (operands values : List Slot) → arguments_of site heap m operands ≡ Some values → AreRead (reads_of (has STATIC m.flags) m.descriptor) values
given_read {S = S} {I = I} site heap m operands values e = by_static (has STATIC m.flags) (in_room _ _ e)
  where
    in_room : (room : Bool) (given : Option (List Slot)) → where_room room given ≡ Some values → given ≡ Some values
    in_room true given x = x
    in_room false given x = cc

    few : length (reverse (take (length (signature m.descriptor).arguments) operands)) ≤ length (signature m.descriptor).arguments
    few = omega (arith, length-reverse (take (length (signature m.descriptor).arguments) operands), length-take (length (signature m.descriptor).arguments) operands)

    both : (before : List Slot) (to : List (Option Narrow)) → AllZip IsRead to before → (fits wanted : Bool) → (fits ≡ true → AllZip IsRead (map narrow_of_type (signature m.descriptor).arguments) (read_all (signature m.descriptor).arguments (reverse (take (length (signature m.descriptor).arguments) operands)))) → (if fits && wanted then Some (before ++ read_all (signature m.descriptor).arguments (reverse (take (length (signature m.descriptor).arguments) operands))) else None) ≡ Some values → AllZip IsRead (to ++ map narrow_of_type (signature m.descriptor).arguments) values
    both before to are true true f x =
        let same : before ++ read_all (signature m.descriptor).arguments (reverse (take (length (signature m.descriptor).arguments) operands)) ≡ values = cc in
        let P : List Slot → Type 0 = AllZip IsRead (to ++ map narrow_of_type (signature m.descriptor).arguments) in
        subst P same (joined to before are)
      where
        joined : (to : List (Option Narrow)) (before : List Slot) → AllZip IsRead to before → AllZip IsRead (to ++ map narrow_of_type (signature m.descriptor).arguments) (before ++ read_all (signature m.descriptor).arguments (reverse (take (length (signature m.descriptor).arguments) operands)))
        joined [] [] a = f refl
        joined [] (x ∷ xs) a = absurd a
        joined (t ∷ ts) [] a = absurd a
        joined (t ∷ ts) (x ∷ xs) a = (a.0, joined ts xs a.1)
    both before to are true false f x = cc
    both before to are false wanted f x = cc

    by_static : (static : Bool) → arguments_with site.program.now heap m.descriptor (signature m.descriptor).arguments (reverse (take (length (signature m.descriptor).arguments) operands)) (with_receiver site.program.now heap static m.class.0 (drop (length (signature m.descriptor).arguments) operands)) ≡ Some values → AllZip IsRead (reads_of static m.descriptor) values
    by_static true x = both [] [] tt _ _ (λ fits. read_are (signature m.descriptor).arguments _ fits few) (sym (arguments_are site.program.now heap m.descriptor (signature m.descriptor).arguments _ [] few) ∙ x)
    by_static false x = under (drop (length (signature m.descriptor).arguments) operands) x
      where
        under : (below : List Slot) → arguments_with site.program.now heap m.descriptor (signature m.descriptor).arguments (reverse (take (length (signature m.descriptor).arguments) operands)) (with_receiver site.program.now heap false m.class.0 below) ≡ Some values → AllZip IsRead (reads_of false m.descriptor) values
        under [] y = absurd (none (sym (none_stays site.program.now heap m.descriptor (signature m.descriptor).arguments _) ∙ y))
          where
            none : None ≡ Some values → ⊥
            none z = cc
        under (o ∷ rest) y = by_instance (is_instance site.program.now heap m.class.0 o) y
          where
            by_instance : (b : Bool) → arguments_with site.program.now heap m.descriptor (signature m.descriptor).arguments (reverse (take (length (signature m.descriptor).arguments) operands)) (if b then Some (o ∷ []) else None) ≡ Some values → AllZip IsRead (reads_of false m.descriptor) values
            by_instance true z = both (o ∷ []) (None ∷ []) (record { slot = o; is = refl }, tt) _ _ (λ fits. read_are (signature m.descriptor).arguments _ fits few) (sym (arguments_are site.program.now heap m.descriptor (signature m.descriptor).arguments _ (o ∷ []) few) ∙ z)
            by_instance false z = absurd (none (sym (none_stays site.program.now heap m.descriptor (signature m.descriptor).arguments _) ∙ z))
              where
                none : None ≡ Some values → ⊥
                none w = cc

-- and so as its number says, if it has its form
pub form_reads : (m : LinkedMethod) → is_numbered m.native ≡ true → has_form m ≡ true → reads_of (has STATIC m.flags) m.descriptor ≡ reads_at m.native
form_reads m number e = by_number m.native number e
  where
    read : Form → List (Option Narrow)
    read f = reads_of f.static f.descriptor

    first : (a b : Bool) → (a && b) ≡ true → a ≡ true
    first true b y = refl
    first false b y = cc

    second : (a b : Bool) → (a && b) ≡ true → b ≡ true
    second true b y = y
    second false b y = cc

    same : (a b : Bool) → same_bool a b ≡ true → b ≡ a
    same true true y = refl
    same true false y = cc
    same false true y = cc
    same false false y = refl

    by_form : (o : Option Form) → is_some o ≡ true → is_form o m ≡ true → Some (reads_of (has STATIC m.flags) m.descriptor) ≡ option_map read o
    by_form None there x = cc there
    by_form (Some f) there x =
        let described : m.descriptor ≡ f.descriptor = (bytes_eq-Decides m.descriptor f.descriptor).0 (first (bytes_eq m.descriptor f.descriptor) (same_bool f.static (has STATIC m.flags)) x) in
        let static = same f.static (has STATIC m.flags) (second (bytes_eq m.descriptor f.descriptor) (same_bool f.static (has STATIC m.flags)) x) in
        λ i. Some (reads_of (static i) (described i))

    there_is : {A : Type 0} (xs : List A) (n : ℕ) → n < length xs → is_some (slice_get xs n) ≡ true
    there_is [] n l = absurd (omega (arith, l))
    there_is (x ∷ xs) zero l = refl
    there_is (x ∷ xs) (suc n) l = there_is xs n (omega (arith, l))

    by_number : (n : ℕ) → is_numbered n ≡ true → is_form (form_of n) m ≡ true → reads_of (has STATIC m.flags) m.descriptor ≡ reads_at n
    by_number zero k x = cc k
    by_number (suc n) k x =
        let number : suc n < 93 = ltb-true (suc n) 93 (second (nat_lt 0 (suc n)) (nat_lt (suc n) 93) k) in
        let within : n < length forms = omega (arith, number) in
        ap (λ o. unwrap_or o []) (by_form (slice_get forms n) (there_is forms n within) x ∙ sym (slice_get-map read forms n) ∙ ap (λ rows. slice_get rows n) all_read)
