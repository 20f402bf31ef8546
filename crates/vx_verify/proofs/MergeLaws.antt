-- What two states have in common, by their local variables and their operands.
use Rattle.std.proofs.Common.{List, Some, subst, sym, take, ℕ}
use Rattle.std.proofs.lemmas.List.{take-map}
use Rattle.vx_link.specs.declared.program.Program.{Program}
use Rattle.vx_types.specs.declared.types.VerType.{VerType}
use Rattle.vx_verify.proofs.CommonLists.{common_above_one, common_above_other, common_least, common_take}
use Rattle.vx_verify.proofs.StoreLaws.{later_through, operands_kept, row_types_kept, stack_kept}
use Rattle.vx_verify.specs.Inference.{HasMerged}
use Rattle.vx_verify.specs.States.{AreCommon, IsCommonRow, IsCommonStack, IsLater, IsRow, IsStore, Stands, locals_at, operands_at, row_at, type_at, types_at}
use Rattle.vx_verify.specs.declared.rows.Frame.{Frame}
use Rattle.vx_verify.specs.declared.rows.State.{State}
use Rattle.vx_verify.specs.declared.store.Store.{Store}

-- the local variables of a method are the first of the row
locals_common : (p : Program) (s t : Store) (frame : Frame) (one other tree : ℕ) → IsCommonRow p s t frame.levels one other tree
    → AreCommon p (locals_at s frame one) (locals_at s frame other) (locals_at t frame tree)
locals_common p s t frame one other tree common =
    subst (λ (xs : List VerType). AreCommon p xs (locals_at s frame other) (locals_at t frame tree)) (take-map (type_at s) frame.locals (row_at s frame.levels one))
    (subst (λ (xs : List VerType). AreCommon p (take frame.locals (types_at s (row_at s frame.levels one))) xs (locals_at t frame tree))
    (take-map (type_at s) frame.locals (row_at s frame.levels other))
    (subst (λ (xs : List VerType). AreCommon p (take frame.locals (types_at s (row_at s frame.levels one))) (take frame.locals (types_at s (row_at s frame.levels other))) xs)
    (take-map (type_at t) frame.locals (row_at t frame.levels tree))
    (common_take p frame.locals (types_at s (row_at s frame.levels one)) (types_at s (row_at s frame.levels other)) (types_at t (row_at t frame.levels tree)) common.common)))

-- a row of a later store, of what stood in an earlier one
row_back : (p : Program) (s t u : Store) (levels one other tree : ℕ) → IsLater s t → IsRow s levels one → IsRow s levels other → IsCommonRow p t u levels one other tree
    → IsCommonRow p s u levels one other tree
row_back p s t u levels one other tree later row another common = record {
  later = later_through s t u later common.later;
  row = common.row;
  common =
      subst (λ (xs : List VerType). AreCommon p xs (types_at s (row_at s levels other)) (types_at u (row_at u levels tree))) (row_types_kept s t levels one later row)
      (subst (λ (xs : List VerType). AreCommon p (types_at t (row_at t levels one)) xs (types_at u (row_at u levels tree))) (row_types_kept s t levels other later another) common.common);
}

pub states_merged : (p : Program) (s t u : Store) (frame : Frame) (known state : State) (locals operands : ℕ) → IsStore s → Stands s frame known → Stands s frame state
    → IsCommonStack p s t known.operands state.operands operands → IsCommonRow p t u frame.levels known.locals state.locals locals
    → HasMerged p s u frame known state (Some (record { locals = locals; operands = operands }))
states_merged p s t u frame known state locals operands is first second stack row =
    let made : State = record { locals = locals; operands = operands } in
    let rows : IsCommonRow p s u frame.levels known.locals state.locals locals = row_back p s t u frame.levels known.locals state.locals locals stack.later first.locals second.locals row in
    let tops : AreCommon p (operands_at s known.operands) (operands_at s state.operands) (operands_at u operands) =
    subst (λ (xs : List VerType). AreCommon p (operands_at s known.operands) (operands_at s state.operands) xs)
    (sym (operands_kept t u operands stack.later.store row.later stack.within)) stack.common in
    let both : AreCommon p (locals_at s frame known.locals) (locals_at s frame state.locals) (locals_at u frame locals) = locals_common p s u frame known.locals state.locals locals rows in (
      later_through s t u stack.later row.later,
      record { locals = row.row; operands = stack_kept t u operands row.later stack.within },
      record {
        above_one = record {
          locals = common_above_one p (locals_at s frame known.locals) (locals_at s frame state.locals) (locals_at u frame locals) both;
          operands = common_above_one p (operands_at s known.operands) (operands_at s state.operands) (operands_at u operands) tops;
        };
        above_other = record {
          locals = common_above_other p (locals_at s frame known.locals) (locals_at s frame state.locals) (locals_at u frame locals) both;
          operands = common_above_other p (operands_at s known.operands) (operands_at s state.operands) (operands_at u operands) tops;
        };
        least = λ v h k. record {
          locals = common_least p (locals_at s frame known.locals) (locals_at s frame state.locals) (locals_at u frame locals) v.locals both h.locals k.locals;
          operands = common_least p (operands_at s known.operands) (operands_at s state.operands) (operands_at u operands) v.operands tops h.operands k.operands;
        };
      },
    )
