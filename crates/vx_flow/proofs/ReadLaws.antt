-- The types whose numbers a store has, read one by one.
use Rattle.std.proofs.Common.{List, [], ap, append_assoc, arith, length, length-take, refl, suc, sym, take, zero, ℕ, ◌++◌, ◌+◌, ◌<◌, ◌^◌, ◌∙◌, ◌∷◌, ◌≡◌, ◌≤◌}
use Rattle.std.proofs.lemmas.List.{append-nil, length-map, take_all}
use Rattle.vx_list.specs.Places.{item_or}
use Rattle.vx_numbered.proofs.TreeLaws.{leaves_count}
use Rattle.vx_types.specs.declared.types.VerType.{VerType}
use Rattle.vx_types.specs.declared.types.VerType.TheVariants.{Top}
use Rattle.vx_verify.proofs.TakeLaws.{no_operands, operands_more}
use Rattle.vx_verify.specs.States.{IsStack, locals_at, operands_at, row_at, stack_at, type_at}
use Rattle.vx_verify.specs.declared.rows.Frame.{Frame}
use Rattle.vx_verify.specs.declared.store.Store.{Store}

-- ---- local variables

taken_more : {A : Type 0} (xs : List A) (i : ℕ) (d : A) → i < length xs → take (suc i) xs ≡ take i xs ++ item_or xs i d ∷ []
taken_more [] i d l = absurd (omega (arith, l))
taken_more (x ∷ xs) zero d l = refl
taken_more (x ∷ xs) (suc i) d l = ap (λ ys. x ∷ ys) (taken_more xs i d (omega (arith, l)))

count_of_locals : (s : Store) (frame : Frame) (tree : ℕ) → frame.locals ≤ 2 ^ frame.levels → length (locals_at s frame tree) ≡ frame.locals
count_of_locals s frame tree room =
    let row = row_at s frame.levels tree in
    let whole = leaves_count s.trees.pairs.items frame.levels tree in
    let part = length-take frame.locals row in
    length-map (take frame.locals row) (type_at s) ∙ omega (arith, whole, part, room)

pub locals_step : (s : Store) (frame : Frame) (tree place : ℕ) (read : List VerType) (number : ℕ) (found copy : VerType) → frame.locals ≤ 2 ^ frame.levels → place < frame.locals
    → read ≡ take place (locals_at s frame tree) → type_at s number ≡ item_or (locals_at s frame tree) place Top → found ≡ type_at s number → copy ≡ found
    → read ++ copy ∷ [] ≡ take (place + 1) (locals_at s frame tree)
locals_step s frame tree place read number found copy room l h is at same =
    let count = count_of_locals s frame tree room in
    let next : suc place ≡ place + 1 = omega arith in
    ap (λ (xs : List VerType). xs ++ copy ∷ []) h
    ∙ ap (λ (x : VerType). take place (locals_at s frame tree) ++ x ∷ []) (same ∙ at ∙ is)
    ∙ sym (taken_more (locals_at s frame tree) place Top (omega (arith, count, l)))
    ∙ ap (λ n. take n (locals_at s frame tree)) next

pub locals_end : (s : Store) (frame : Frame) (tree place : ℕ) (read : List VerType) → frame.locals ≤ 2 ^ frame.levels → frame.locals ≤ place → read ≡ take place (locals_at s frame tree)
    → read ≡ locals_at s frame tree
locals_end s frame tree place read room l h =
    let count = count_of_locals s frame tree room in h ∙ take_all place (locals_at s frame tree) (omega (arith, count, l))

-- ---- operands

-- the operands of a stack are those that were read, and those of the stack that is left
pub record AreRead (s : Store) (operands : ℕ) (read : List VerType) (under : ℕ) : Type 0 where
  pub within : IsStack s under
  pub is : operands_at s operands ≡ read ++ operands_at s under

pub read_start : (s : Store) (operands : ℕ) → IsStack s operands → AreRead s operands [] operands
read_start s operands h = record { within = h; is = refl }

pub read_step : (s : Store) (operands under top rest : ℕ) (read : List VerType) (found copy : VerType) → AreRead s operands read under → stack_at s under ≡ top ∷ stack_at s rest → rest < under
    → found ≡ type_at s top → copy ≡ found → AreRead s operands (read ++ copy ∷ []) rest
read_step s operands under top rest read found copy h some falls at same =
    let within = h.within in
    record {
      within = omega (arith, within, falls);
      is = h.is
          ∙ ap (λ (xs : List VerType). read ++ xs) (operands_more s under top rest some)
          ∙ ap (λ (x : VerType). read ++ x ∷ operands_at s rest) (sym (same ∙ at))
          ∙ sym (append_assoc read (copy ∷ []) (operands_at s rest));
    }

pub read_end : (s : Store) (operands under : ℕ) (read : List VerType) → AreRead s operands read under → under ≡ 0 → read ≡ operands_at s operands
read_end s operands under read h none = sym (h.is ∙ ap (λ (xs : List VerType). read ++ xs) (no_operands s under none) ∙ append-nil read)
