-- Returns to the frame below.
use Rattle.std.proofs.Common.{◌≡◌, ℕ, zero, suc, ◌-◌, ◌<◌, Bool, true, false, List, [], ◌∷◌, map, length, drop, get_or, reverse, refl, sym, ap, ◌∙◌, arith, drop-cons}
use Rattle.std.proofs.Math.ListN.{get_or-map}
use Rattle.std.proofs.lemmas.List.{get_or-reverse, length-map, length-reverse}
use Rattle.std.specs.Prelude.{None, Some, slice_get}
use Rattle.vx_java.specs.Machine.{Frame, Go, Here, Value, illegal, when}
use Rattle.vx_java.specs.Returns.{fits_caller, frame_resumed, return_to}
use Rattle.vx_link.specs.declared.program.Program.{Program}
use Rattle.vx_plain.specs.Views.{frame_of}
use Rattle.vx_plain.specs.declared.frame.Frame as plain
use Rattle.vx_plain_calls.specs.Returns.{fits_below, initialised}
use Rattle.vx_value.specs.declared.key.Kind.TheVariants.{Call, Init, Wait}

-- ---- the nearest caller

read : (xs : List plain.Frame) (k : ℕ) (f : plain.Frame) → Some f ≡ slice_get xs k → get_or xs k f ≡ f
read [] k f e = cc
read (x ∷ xs) zero f e = same e
  where
    same : Some f ≡ Some x → x ≡ f
    same h = cc
read (x ∷ xs) (suc k) f e = read xs k f e

last_frame : (xs : List plain.Frame) (f : plain.Frame) → 0 < length xs → Some f ≡ slice_get xs (length xs - 1) → reverse (map frame_of xs) ≡ frame_of f ∷ drop 1 (reverse (map frame_of xs))
last_frame xs f some e =
    let many = length-map xs frame_of in
    let place : length xs - 1 - 0 ≡ length xs - 1 = omega arith in
    drop-cons (reverse (map frame_of xs)) 0 (frame_of f) (omega (arith, some, many, length-reverse (map frame_of xs)))
    ∙ ap (λ g. g ∷ drop 1 (reverse (map frame_of xs)))
    (get_or-reverse (map frame_of xs) 0 (frame_of f) (omega (arith, some, many))
    ∙ ap (λ n. get_or (map frame_of xs) (n - 1 - 0) (frame_of f)) many
    ∙ get_or-map frame_of xs (length xs - 1 - 0) f
    ∙ ap (λ k. frame_of (get_or xs k f)) place
    ∙ ap frame_of (read xs (length xs - 1) f e))

pub fits_last : (p : Program) (callers : List plain.Frame) (f : plain.Frame) (value : List Value) → Some f ≡ slice_get callers (length callers - 1) → Some (fits_caller p (frame_of f) value) ≡ fits_below p (reverse (map frame_of callers)) value
fits_last p [] f value e = cc
fits_last p (x ∷ xs) f value e = sym (ap (λ fs. fits_below p fs value) (last_frame (x ∷ xs) f (omega arith) e))

there : (x : plain.Frame) (xs : List plain.Frame) → Some (get_or (x ∷ xs) (length xs) x) ≡ slice_get (x ∷ xs) (length xs)
there x [] = refl
there x (y ∷ ys) = other y ys
  where
    other : (y : plain.Frame) (ys : List plain.Frame) → Some (get_or (y ∷ ys) (length ys) x) ≡ slice_get (y ∷ ys) (length ys)
    other y [] = refl
    other y (z ∷ zs) = other z zs

pub fits_none : (p : Program) (callers : List plain.Frame) (value : List Value) → None ≡ slice_get callers (length callers - 1) → None ≡ fits_below p (reverse (map frame_of callers)) value
fits_none p [] value e = refl
fits_none p (x ∷ xs) value e = never (e ∙ ap (slice_get (x ∷ xs)) (let place : length (x ∷ xs) - 1 ≡ length xs = omega arith in place) ∙ sym (there x xs))
  where
    never : {A : Type 0} {y : plain.Frame} → None ≡ Some y → A
    never h = absurd (cc h)

-- a value fits on no caller where there is none
pub none_fits : {A : Type 0} (p : Program) (callers : List Frame) (value : List Value) → callers ≡ [] → fits_below p callers value ≡ Some true → A
none_fits p callers value none fits =
    let told : None ≡ Some true = sym (ap (λ frames. fits_below p frames value) none) ∙ fits in
    absurd (cc told)

-- ---- calls

pub over_full : (h : Here) (callers : List Frame) (value : List Value) → Some false ≡ fits_below h.program callers value → illegal h ≡ return_to h Call value callers
over_full h [] value e = cc
over_full h (f ∷ below) value e = sym (ap (λ b. when b (Go (record (h.state) { top = frame_resumed h.program f value; callers = below })) (illegal h)) (sym (same e)))
  where
    same : {a b : Bool} → Some a ≡ Some b → a ≡ b
    same k = cc

pub no_caller : (h : Here) (callers : List Frame) (value : List Value) → None ≡ fits_below h.program callers value → initialised h [] ≡ return_to h Call value callers
no_caller h [] value e = refl
no_caller h (f ∷ below) value e = cc

-- ---- initialisations

pub by_init : (h : Here) (callers : List Frame) (value : List Value) → initialised h callers ≡ return_to h Init value callers
by_init h [] value = refl
by_init h (f ∷ below) value = refl

pub by_wait : (h : Here) (callers : List Frame) (value : List Value) → initialised h callers ≡ return_to h Wait value callers
by_wait h [] value = refl
by_wait h (f ∷ below) value = refl
