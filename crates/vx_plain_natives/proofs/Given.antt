-- The arguments of a call, as they stand on the operands.
use Rattle.std.proofs.Common.{◌≡◌, ℕ, ◌+◌, ◌-◌, ◌<◌, ◌≤◌, Bool, true, false, List, [], ◌∷◌, ◌++◌, ◌&&◌, length, drop, take, get_or, reverse, refl, sym, ap, ◌∙◌, arith, suc, add-one, append_assoc, drop-cons, inl, inr}
use Rattle.std.specs.Prelude.{None, Option, Some, if◌then◌else◌, slice_get}
use Rattle.std.proofs.lemmas.Bool.{cases_lt}
use Rattle.std.proofs.lemmas.List.{append-nil, drop_all, length-map}
use Rattle.std.proofs.lemmas.Option.{get_or_from_slice_get, slice_get-get_or, slice_get_within}
use Rattle.vx_class.specs.Members.{STATIC}
use Rattle.vx_desc.specs.declared.java_type.JavaType.{JavaType}
use Rattle.vx_java.specs.Calls.{if_arguments}
use Rattle.vx_java.specs.Checks.{is_instance_of}
use Rattle.vx_java.specs.FirstObjects.{narrowed_value}
use Rattle.vx_java.specs.Machine as machine
use Rattle.vx_java.specs.Machine.{Here, illegal, when}
use Rattle.vx_java.specs.Natives.{apply, apply_to, are_wanted, as_read, carried_out, is_wanted, native_of, room_for}
use Rattle.vx_link.specs.ClassNames.{class_of_type}
use Rattle.vx_link.specs.Parts.{has}
use Rattle.vx_link.specs.Signature.{signature}
use Rattle.vx_link.specs.declared.program.LinkedMethod.{LinkedMethod}
use Rattle.vx_plain.specs.Views.{value_of, values_of}
use Rattle.vx_plain.specs.declared.value.Value.{Value}
use Rattle.vx_plain_here.proofs.Matching.{both_here, given, not_given}
use Rattle.vx_plain_here.specs.Arguments.{are_on_top}
use Rattle.vx_plain_natives.specs.Arguments.{if_read, read_by}

-- ---- types and values side by side

pub one_wanted : (h : Here) (descriptor : List ℕ) (types : List JavaType) (values : List Value) (i : ℕ) (t : JavaType) (v : Value) (b : Bool) → i < length types → length types ≡ length values
    → b ≡ is_wanted h (class_of_type h.program descriptor (get_or types i t)) (value_of (get_or values i v)) → b ≡ true
    → are_wanted h descriptor (drop i types) (drop i (values_of values)) ≡ are_wanted h descriptor types (values_of values)
    → are_wanted h descriptor (drop (i + 1) types) (drop (i + 1) (values_of values)) ≡ are_wanted h descriptor types (values_of values)
one_wanted h descriptor types values i t v b lt many test holds so_far =
    sym (both_here types values i t v lt many (are_wanted h descriptor) ∙ ap (λ x. x && are_wanted h descriptor (drop (i + 1) types) (drop (i + 1) (values_of values))) (sym test ∙ holds)) ∙ so_far

pub one_unwanted : (h : Here) (descriptor : List ℕ) (types : List JavaType) (values : List Value) (i : ℕ) (t : JavaType) (v : Value) (b : Bool) → i < length types → length types ≡ length values
    → b ≡ is_wanted h (class_of_type h.program descriptor (get_or types i t)) (value_of (get_or values i v)) → b ≡ false
    → are_wanted h descriptor (drop i types) (drop i (values_of values)) ≡ are_wanted h descriptor types (values_of values)
    → false ≡ are_wanted h descriptor types (values_of values)
one_unwanted h descriptor types values i t v b lt many test fails so_far =
    sym (both_here types values i t v lt many (are_wanted h descriptor) ∙ ap (λ x. x && are_wanted h descriptor (drop (i + 1) types) (drop (i + 1) (values_of values))) (sym test ∙ fails)) ∙ so_far

pub all_wanted : (h : Here) (descriptor : List ℕ) (types : List JavaType) (values : List Value) (i : ℕ) → length types ≤ i
    → are_wanted h descriptor (drop i types) (drop i (values_of values)) ≡ are_wanted h descriptor types (values_of values)
    → true ≡ are_wanted h descriptor types (values_of values)
all_wanted h descriptor types values i le so_far = sym (ap (λ ts. are_wanted h descriptor ts (drop i (values_of values))) (drop_all i types le)) ∙ so_far

pub one_read : (front read more : List machine.Value) (types : List JavaType) (values : List Value) (i : ℕ) (t : JavaType) (v : Value) (w : machine.Value) → i < length types → length types ≡ length values
    → w ≡ narrowed_value (get_or types i t) (value_of (get_or values i v)) → more ≡ read ++ w ∷ []
    → read ++ as_read (drop i types) (drop i (values_of values)) ≡ front ++ as_read types (values_of values)
    → more ++ as_read (drop (i + 1) types) (drop (i + 1) (values_of values)) ≡ front ++ as_read types (values_of values)
one_read front read more types values i t v w lt many is made so_far =
    let rest = as_read (drop (i + 1) types) (drop (i + 1) (values_of values)) in
    ap (λ xs. xs ++ rest) made ∙ append_assoc read (w ∷ []) rest ∙ ap (λ x. read ++ (x ∷ rest)) is
    ∙ ap (λ xs. read ++ xs) (sym (both_here types values i t v lt many as_read)) ∙ so_far

pub all_read : (front read : List machine.Value) (types : List JavaType) (values : List Value) (i : ℕ) → length types ≤ i → length types ≡ length values
    → read ++ as_read (drop i types) (drop i (values_of values)) ≡ front ++ as_read types (values_of values)
    → read ≡ front ++ as_read types (values_of values)
all_read front read types values i le many so_far =
    let past : length (values_of values) ≤ i = omega (arith, length-map values value_of) in
    sym (ap (λ xs. read ++ xs) (ap (λ ts. as_read ts (drop i (values_of values))) (drop_all i types le) ∙ drop_all i (values_of values) past) ∙ append-nil read) ∙ so_far

-- ---- what is made of them

abbrev on_top_of : Here → LinkedMethod → List machine.Value
on_top_of h m = reverse (take (length (signature m.descriptor).arguments) h.state.top.operands)

abbrev under : Here → LinkedMethod → List machine.Value
under h m = drop (length (signature m.descriptor).arguments) h.state.top.operands

value_there : (operands : List machine.Value) (n : ℕ) (o : machine.Value) → Some o ≡ slice_get operands n → drop n operands ≡ o ∷ drop (n + 1) operands
value_there operands n o is = rw add-one (drop-cons operands n o (slice_get_within operands n o (sym is)) ∙ ap (λ x. x ∷ drop (suc n) operands) (get_or_from_slice_get operands n o o (sym is)))

no_value : (operands : List machine.Value) (n : ℕ) → None ≡ slice_get operands n → drop n operands ≡ []
no_value operands n none =
    elim (cases_lt n (length operands)) [
      | inl lt ↦ let some = slice_get-get_or operands n machine.Top lt in cc
      | inr le ↦ drop_all n operands le
    ]

pub applied : (h : Here) (m : LinkedMethod) (receiver arguments rest : List machine.Value) → if_read h m rest (read_by h m receiver arguments rest) ≡ apply h m receiver arguments rest
applied h m receiver arguments rest = by (are_wanted h m.descriptor (signature m.descriptor).arguments arguments && room_for h (signature m.descriptor).result rest)
  where
    read : List machine.Value
    read = receiver ++ as_read (signature m.descriptor).arguments arguments

    by : (b : Bool) → if_read h m rest (if b then Some read else None) ≡ when b (native_of m.native h read rest) (illegal h)
    by true = refl
    by false = refl

pub receiver_there : (h : Here) (m : LinkedMethod) (arguments operands : List machine.Value) (n : ℕ) (o : machine.Value) → Some o ≡ slice_get operands n → is_instance_of h m.class.0 o ≡ true
    → apply h m (o ∷ []) arguments (drop (n + 1) operands) ≡ apply_to h m arguments (drop n operands)
receiver_there h m arguments operands n o there holds =
    ap (λ b. when b (apply h m (o ∷ []) arguments (drop (n + 1) operands)) (illegal h)) (sym holds) ∙ ap (apply_to h m arguments) (sym (value_there operands n o there))

pub receiver_wrong : (h : Here) (m : LinkedMethod) (arguments operands : List machine.Value) (n : ℕ) (o : machine.Value) → Some o ≡ slice_get operands n → is_instance_of h m.class.0 o ≡ false
    → illegal h ≡ apply_to h m arguments (drop n operands)
receiver_wrong h m arguments operands n o there fails =
    ap (λ b. when b (apply h m (o ∷ []) arguments (drop (n + 1) operands)) (illegal h)) (sym fails) ∙ ap (apply_to h m arguments) (sym (value_there operands n o there))

pub receiver_missing : (h : Here) (m : LinkedMethod) (arguments operands : List machine.Value) (n : ℕ) → None ≡ slice_get operands n → illegal h ≡ apply_to h m arguments (drop n operands)
receiver_missing h m arguments operands n none = ap (apply_to h m arguments) (sym (no_value operands n none))

-- the arguments stand on top, behind a receiver or alone
pub static_given : (h : Here) (m : LinkedMethod) → are_on_top (signature m.descriptor).arguments h.state.top.operands ≡ true → has STATIC m.flags ≡ true
    → apply h m [] (reverse (take (length (signature m.descriptor).arguments) h.state.top.operands)) (drop (length (signature m.descriptor).arguments) h.state.top.operands) ≡ carried_out h m
static_given h m there static =
    ap (λ b. when b (apply h m [] (on_top_of h m) (under h m)) (apply_to h m (on_top_of h m) (under h m))) (sym static)
    ∙ ap (λ found. if_arguments h found (λ arguments below. when (has STATIC m.flags) (apply h m [] arguments below) (apply_to h m arguments below))) (sym (given (signature m.descriptor).arguments h.state.top.operands there))

pub receiver_given : (h : Here) (m : LinkedMethod) → are_on_top (signature m.descriptor).arguments h.state.top.operands ≡ true → has STATIC m.flags ≡ false
    → apply_to h m (reverse (take (length (signature m.descriptor).arguments) h.state.top.operands)) (drop (length (signature m.descriptor).arguments) h.state.top.operands) ≡ carried_out h m
receiver_given h m there static =
    ap (λ b. when b (apply h m [] (on_top_of h m) (under h m)) (apply_to h m (on_top_of h m) (under h m))) (sym static)
    ∙ ap (λ found. if_arguments h found (λ arguments below. when (has STATIC m.flags) (apply h m [] arguments below) (apply_to h m arguments below))) (sym (given (signature m.descriptor).arguments h.state.top.operands there))

pub nothing_given : (h : Here) (m : LinkedMethod) → are_on_top (signature m.descriptor).arguments h.state.top.operands ≡ false → illegal h ≡ carried_out h m
nothing_given h m there =
    ap (λ found. if_arguments h found (λ arguments below. when (has STATIC m.flags) (apply h m [] arguments below) (apply_to h m arguments below))) (sym (not_given (signature m.descriptor).arguments h.state.top.operands there))

pub applied_to : (h : Here) (m : LinkedMethod) (receiver arguments rest : List machine.Value) {read : Option (List machine.Value)} → read ≡ read_by h m receiver arguments rest → if_read h m rest read ≡ apply h m receiver arguments rest
applied_to h m receiver arguments rest is = ap (if_read h m rest) is ∙ applied h m receiver arguments rest
