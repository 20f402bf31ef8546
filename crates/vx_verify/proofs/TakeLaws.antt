-- Operands that are taken one after the other, and local variables that a long takes.
use Rattle.std.proofs.Common.{List, None, Some, [], add-one, ap, arith, drop, drop-cons, false, get_or, length, refl, subst, suc, sym, true, zero, ℕ, ◌+◌, ◌-◌, ◌<◌, ◌∙◌, ◌∷◌, ◌≡◌}
use Rattle.std.specs.Prelude.{if◌then◌else◌, slice_set}
use Rattle.vx_java.specs.declared.operation.Sort.TheVariants as sort
use Rattle.vx_link.specs.declared.program.Program.{Program}
use Rattle.vx_list.specs.Places.{item_or}
use Rattle.vx_numbered.proofs.ChainLaws.{no_chain}
use Rattle.vx_types.specs.Flow.{is_of, locals_with, meets, taken, unless_long, without_half}
use Rattle.vx_types.specs.declared.types.VerType.{VerType}
use Rattle.vx_types.specs.declared.types.VerType.TheVariants.{Int, Long, Null, Ref, Top}
use Rattle.vx_types.specs.declared.types.Want.{Want}
use Rattle.vx_verify.proofs.LocalLaws.{set_itself}
use Rattle.vx_verify.proofs.StoreLaws.{later_itself, later_through, some_types, top_is, type_kept}
use Rattle.vx_verify.specs.States.{HasLocals, IsRow, IsStack, IsStore, locals_at, operands_at, stack_at, type_at, types_at}
use Rattle.vx_verify.specs.declared.rows.Frame.{Frame}
use Rattle.vx_verify.specs.declared.store.Store.{Store}

-- ---- operands

pub operands_more : (s : Store) (stack top under : ℕ) → stack_at s stack ≡ top ∷ stack_at s under → operands_at s stack ≡ type_at s top ∷ operands_at s under
operands_more s stack top under e = ap (types_at s) e

pub no_operands : (s : Store) (stack : ℕ) → stack ≡ 0 → operands_at s stack ≡ []
no_operands s stack e = ap (λ n. operands_at s n) e ∙ ap (types_at s) (no_chain s.chains.links.items)

item_first : {A : Type 0} (xs : List A) (i : ℕ) (x : A) → i < length xs → x ≡ get_or xs i x → drop i xs ≡ x ∷ drop (i + 1) xs
item_first xs i x l e = drop-cons xs i x l ∙ ap (λ y. y ∷ drop (suc i) xs) (sym e) ∙ ap (λ n. x ∷ drop n xs) (sym (add-one i))

-- what is wanted so far was there
pub record IsTaking (p : Program) (s : Store) (wants : List Want) (operands i under : ℕ) : Type 0 where
  pub within : IsStack s under
  pub left : taken p wants (operands_at s operands) ≡ taken p (drop i wants) (operands_at s under)

pub taking_start : (p : Program) (s : Store) (wants : List Want) (operands : ℕ) → IsStack s operands → IsTaking p s wants operands 0 operands
taking_start p s wants operands h = record { within = h; left = refl }

pub taking_step : (p : Program) (s : Store) (wants : List Want) (operands i under top rest : ℕ) (w : Want) → IsTaking p s wants operands i under → i < length wants → w ≡ get_or wants i w
    → stack_at s under ≡ top ∷ stack_at s rest → rest < under → meets p w (type_at s top) ≡ true → IsTaking p s wants operands (i + 1) rest
taking_step p s wants operands i under top rest w taking l e is falls met = record {
  within = omega (arith, falls, taking.within);
  left = taking.left
      ∙ ap (λ (ws : List Want). taken p ws (operands_at s under)) (item_first wants i w l e)
      ∙ ap (λ (ts : List VerType). taken p (w ∷ drop (i + 1) wants) ts) (operands_more s under top rest is)
      ∙ ap (λ b. if b then taken p (drop (i + 1) wants) (operands_at s rest) else None) met;
}

pub taking_none : (p : Program) (s : Store) (wants : List Want) (operands i under : ℕ) (w : Want) → IsTaking p s wants operands i under → i < length wants → w ≡ get_or wants i w → under ≡ 0
    → None ≡ taken p wants (operands_at s operands)
taking_none p s wants operands i under w taking l e none =
    sym
    (taking.left
    ∙ ap (λ (ws : List Want). taken p ws (operands_at s under)) (item_first wants i w l e)
    ∙ ap (λ (ts : List VerType). taken p (w ∷ drop (i + 1) wants) ts) (no_operands s under none))

pub taking_other : (p : Program) (s : Store) (wants : List Want) (operands i under top rest : ℕ) (w : Want) → IsTaking p s wants operands i under → i < length wants → w ≡ get_or wants i w
    → stack_at s under ≡ top ∷ stack_at s rest → meets p w (type_at s top) ≡ false → None ≡ taken p wants (operands_at s operands)
taking_other p s wants operands i under top rest w taking l e is met =
    sym
    (taking.left
    ∙ ap (λ (ws : List Want). taken p ws (operands_at s under)) (item_first wants i w l e)
    ∙ ap (λ (ts : List VerType). taken p (w ∷ drop (i + 1) wants) ts) (operands_more s under top rest is)
    ∙ ap (λ b. if b then taken p (drop (i + 1) wants) (operands_at s rest) else None) met)

pub taking_end : (p : Program) (s : Store) (wants : List Want) (operands i under : ℕ) → IsTaking p s wants operands i under → drop i wants ≡ [] → Some (operands_at s under) ≡ taken p wants (operands_at s operands)
taking_end p s wants operands i under taking e = sym (taking.left ∙ ap (λ (ws : List Want). taken p ws (operands_at s under)) e)

-- ---- halves of a long

pub long_alone : (t : VerType) → is_of sort.Long t ≡ true → t ≡ Long
long_alone Long h = refl
long_alone Top h = absurd cc
long_alone Int h = absurd cc
long_alone Null h = absurd cc
long_alone (Ref d e) h = absurd cc

unless_other : (t : VerType) → is_of sort.Long t ≡ false → unless_long t ≡ t
unless_other Long h = absurd cc
unless_other Top h = refl
unless_other Int h = refl
unless_other Null h = refl
unless_other (Ref d e) h = refl

pub no_half : (locals : List VerType) (place : ℕ) → place ≡ 0 → without_half locals place ≡ locals
no_half locals zero e = refl
no_half locals (suc n) e = absurd (omega (arith, e))

half_at : (locals : List VerType) (place : ℕ) → 0 < place → without_half locals place ≡ slice_set locals (place - 1) (unless_long (item_or locals (place - 1) Top))
half_at locals zero l = absurd (omega (arith, l))
half_at locals (suc n) l = let e : n ≡ suc n - 1 = omega arith in ap (λ k. slice_set locals k (unless_long (item_or locals k Top))) e

pub whole_half : (locals : List VerType) (place : ℕ) (t : VerType) → 0 < place → t ≡ item_or locals (place - 1) Top → is_of sort.Long t ≡ false → locals ≡ without_half locals place
whole_half locals place t l e other =
    sym
    (half_at locals place l
    ∙ ap (λ u. slice_set locals (place - 1) (unless_long u)) (sym e)
    ∙ ap (λ u. slice_set locals (place - 1) u) (unless_other t other ∙ e)
    ∙ set_itself locals (place - 1) Top)

pub lost_half : (locals : List VerType) (place : ℕ) (t : VerType) → 0 < place → t ≡ item_or locals (place - 1) Top → is_of sort.Long t ≡ true
    → slice_set locals (place - 1) Top ≡ without_half locals place
lost_half locals place t l e long =
    sym (half_at locals place l ∙ ap (λ u. slice_set locals (place - 1) (unless_long u)) (sym e ∙ long_alone t long))

-- what a value of one or two local variables makes of them
pub stored_one : (locals : List VerType) (place : ℕ) (t : VerType) → is_of sort.Long t ≡ false → slice_set (without_half locals place) place t ≡ locals_with locals place t
stored_one locals place Long h = absurd cc
stored_one locals place Top h = refl
stored_one locals place Int h = refl
stored_one locals place Null h = refl
stored_one locals place (Ref d e) h = refl

pub stored_two : (locals : List VerType) (place : ℕ) (t : VerType) → is_of sort.Long t ≡ true → slice_set (slice_set (without_half locals place) place t) (place + 1) Top ≡ locals_with locals place t
stored_two locals place t h =
    let e = long_alone t h in
    ap (λ u. slice_set (slice_set (without_half locals place) place u) (place + 1) Top) e ∙ sym (ap (locals_with locals place) e)

-- one change of local variables after another
pub locals_then : (s t u : Store) (frame : Frame) (cleared put place item : ℕ) (locals : List VerType) → HasLocals s t frame cleared locals → item < length s.types.items
    → HasLocals t u frame put (slice_set (locals_at t frame cleared) place (type_at t item)) → HasLocals s u frame put (slice_set locals place (type_at s item))
locals_then s t u frame cleared put place item locals h within k = record {
  later = later_through s t u h.later k.later;
  row = k.row;
  is = k.is ∙ ap (λ (xs : List VerType). slice_set xs place (type_at t item)) h.is ∙ ap (λ (x : VerType). slice_set locals place x) (type_kept s t item h.later.types within);
}

pub locals_are : (s t : Store) (frame : Frame) (tree : ℕ) (locals others : List VerType) → HasLocals s t frame tree locals → locals ≡ others → HasLocals s t frame tree others
locals_are s t frame tree locals others h e = record { later = h.later; row = h.row; is = h.is ∙ e }

pub locals_kept : (s : Store) (frame : Frame) (tree : ℕ) (locals : List VerType) → IsStore s → IsRow s frame.levels tree → locals_at s frame tree ≡ locals → HasLocals s s frame tree locals
locals_kept s frame tree locals is row e = record { later = later_itself s is; row = row; is = e }

-- a value that takes one local variable, and one that takes two
pub stored_alone : (s t u : Store) (frame : Frame) (locals cleared put place at item : ℕ) (tested : VerType) → item < length s.types.items → at ≡ place
    → HasLocals s t frame cleared (without_half (locals_at s frame locals) at) → HasLocals t u frame put (slice_set (locals_at t frame cleared) at (type_at t item))
    → tested ≡ type_at u item → is_of sort.Long tested ≡ false → HasLocals s u frame put (locals_with (locals_at s frame locals) place (type_at s item))
stored_alone s t u frame locals cleared put place at item tested within e h k same short =
    let xs = locals_at s frame locals in
    let made = locals_then s t u frame cleared put at item (without_half xs at) h within k in
    let kept : tested ≡ type_at s item = same ∙ type_kept s u item made.later.types within in
    locals_are s u frame put (slice_set (without_half xs at) at (type_at s item)) (locals_with xs place (type_at s item)) made
    (stored_one xs at (type_at s item) (subst (λ (x : VerType). is_of sort.Long x ≡ false) kept short) ∙ ap (λ n. locals_with xs n (type_at s item)) e)

pub stored_both : (s t u v : Store) (frame : Frame) (locals cleared put tree place at item : ℕ) (tested : VerType) → IsStore s → item < length s.types.items → at ≡ place
    → HasLocals s t frame cleared (without_half (locals_at s frame locals) at) → HasLocals t u frame put (slice_set (locals_at t frame cleared) at (type_at t item))
    → tested ≡ type_at u item → is_of sort.Long tested ≡ true → HasLocals u v frame tree (slice_set (locals_at u frame put) (at + 1) (type_at u 0))
    → HasLocals s v frame tree (locals_with (locals_at s frame locals) place (type_at s item))
stored_both s t u v frame locals cleared put tree place at item tested is within e h k same long last =
    let xs = locals_at s frame locals in
    let some = some_types s is in
    let made = locals_then s t u frame cleared put at item (without_half xs at) h within k in
    let kept : tested ≡ type_at s item = same ∙ type_kept s u item made.later.types within in
    let both = locals_then s u v frame put tree (at + 1) 0 (slice_set (without_half xs at) at (type_at s item)) made (omega (arith, some)) last in
    locals_are s v frame tree (slice_set (slice_set (without_half xs at) at (type_at s item)) (at + 1) (type_at s 0)) (locals_with xs place (type_at s item)) both
    (ap (λ (x : VerType). slice_set (slice_set (without_half xs at) at (type_at s item)) (at + 1) x) (top_is s is)
    ∙ stored_two xs at (type_at s item) (subst (λ (x : VerType). is_of sort.Long x ≡ true) kept long)
    ∙ ap (λ n. locals_with xs n (type_at s item)) e)
