-- States by the numbers of their types.
use Rattle.std.proofs.Common.{List, [], ap, append-nil, arith, get_or, length, refl, subst, sym, take, ℕ, ◌++◌, ◌+◌, ◌<◌, ◌∙◌, ◌∷◌, ◌≡◌, ◌≤◌}
use Rattle.std.proofs.lemmas.List.{take_all, take_at, take_more}
use Rattle.std.proofs.lemmas.List.Elements.{All-nil}
use Rattle.std.specs.Prelude.{replicate}
use Rattle.vx_types.specs.Types.{VerState}
use Rattle.vx_types.specs.declared.types.VerType.{VerType}
use Rattle.vx_types.specs.declared.types.VerType.TheVariants.{Top}
use Rattle.vx_verify.proofs.StartLaws.{value_put}
use Rattle.vx_verify.proofs.StoreLaws.{later_itself, later_through, row_kept, state_kept}
use Rattle.vx_verify.proofs.TakeLaws.{no_operands}
use Rattle.vx_verify.specs.States.{HasLocals, HasMade, HasNumbers, HasStack, HasType, IsLater, IsStore, operands_at, state_at, types_at}
use Rattle.vx_verify.specs.declared.rows.Frame.{Frame}
use Rattle.vx_verify.specs.declared.rows.State.{State}
use Rattle.vx_verify.specs.declared.store.Store.{Store}

-- ---- one type after the other

pub numbers_start : (s : Store) (items : List VerType) → IsStore s → HasNumbers s s [] (take 0 items)
numbers_start s items is = record { later = later_itself s is; are_types = All-nil (λ n. n < length s.types.items); is = refl }

pub numbers_step : (s t u : Store) (items : List VerType) (i : ℕ) (item : VerType) (numbers : List ℕ) (number : ℕ) → HasNumbers s t numbers (take i items) → i < length items
    → item ≡ get_or items i item → HasType t u number item → HasNumbers s u (numbers ++ number ∷ []) (take (i + 1) items)
numbers_step s t u items i item numbers number h l e put =
    let made = value_put t u numbers number item h.are_types put in
    record {
      later = later_through s t u h.later made.later;
      are_types = made.are_types;
      is = made.is
          ∙ ap (λ (xs : List VerType). xs ++ item ∷ []) h.is
          ∙ ap (λ (x : VerType). take i items ++ x ∷ []) e
          ∙ sym (take_more items i item l);
    }

pub numbers_end : (s t : Store) (items : List VerType) (i : ℕ) (numbers : List ℕ) → HasNumbers s t numbers (take i items) → length items ≤ i → HasNumbers s t numbers items
numbers_end s t items i numbers h l = subst (λ (xs : List VerType). HasNumbers s t numbers xs) (take_all i items l) h

-- ---- a state

pub numbered_made : (s t u v w : Store) (frame : Frame) (row stack : ℕ) (types tops : List ℕ) (locals operands : List VerType) → HasNumbers s t types locals → length locals ≡ frame.locals
    → HasLocals t u frame row (take frame.locals (types_at t types ++ replicate frame.locals Top)) → HasNumbers u v tops operands
    → HasStack v w stack (types_at v tops ++ operands_at v 0) → HasMade s w frame (record { locals = row; operands = stack }) (record { locals = locals; operands = operands })
numbered_made s t u v w frame row stack types tops locals operands h count put k pushed =
    let later : IsLater u w = later_through u v w k.later pushed.later in
    let alone : State = record { locals = row; operands = 0 } in
    let kept : state_at w frame alone ≡ state_at u frame alone = state_kept u w frame alone put.later.store later (record { locals = put.row; operands = omega arith }) in
    let first : (state_at w frame alone).locals ≡ locals =
    ap (λ (x : VerState). x.locals) kept
    ∙ put.is
    ∙ ap (λ (xs : List VerType). take frame.locals (xs ++ replicate frame.locals Top)) h.is
    ∙ take_at locals (replicate frame.locals Top) frame.locals count in
    let second : operands_at w stack ≡ operands =
    pushed.is ∙ ap (λ (xs : List VerType). xs ++ operands_at v 0) k.is ∙ ap (λ (xs : List VerType). operands ++ xs) (no_operands v 0 refl) ∙ append-nil operands in
    record {
      later = later_through s t w h.later (later_through t u w put.later later);
      stands = record { locals = row_kept u w frame.levels row later put.row; operands = pushed.within };
      is = λ j. record { locals = first j; operands = second j };
    }
