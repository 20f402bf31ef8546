use Rattle.std.proofs.Common.{[], ap, append_assoc, arith, sym, ◌*◌, ◌++◌, ◌+◌, ◌∙◌, ◌∷◌, ◌≡◌}
use Rattle.std.proofs.lemmas.Int.{to_z-of_z}
use Rattle.std.specs.Int.{w32}
use Rattle.std.proofs.lemmas.List.FromFn.{map-range_with_len_more}
use Rattle.vx_opcode.specs.Numbers.{s4}
use Rattle.vx_types.specs.Flow.{target, targets_from}
use Rattle.vx_type_rows.proofs.targets.put_targets.Goals as goal

pub loop-key-preserved : goal.loop-key-preserved
loop-key-preserved c =
    let code = c.args.code.now in
    let front = targets_from code c.args.at c.args.first c.args.step c.loop-key.key in
    let here : c.target.result ≡ target c.args.at (s4 code (c.args.first + c.args.step * c.loop-key.key)) =
    c.target.ensures ∙ ap (target c.args.at) (to_z-of_z w32 c.s4.result (record { sfits = c.s4.type_inv }) ∙ c.s4.ensures) in
    c.in_ok-push.ensures.items
    ∙ ap (λ ts. ts ++ c.target.result ∷ []) c.loop-key.invariant
    ∙ append_assoc c.args.targets.now.items front (c.target.result ∷ [])
    ∙ ap (λ ts. c.args.targets.now.items ++ ts)
    (ap (λ t. front ++ t ∷ []) here
    ∙ sym (map-range_with_len_more (λ k. target c.args.at (s4 code (c.args.first + c.args.step * k))) 0 c.loop-key.key c.loop-key.key (omega arith)))
