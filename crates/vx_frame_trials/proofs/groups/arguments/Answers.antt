use Rattle.std.proofs.Common.{◌∷◌, ◌++◌, [], ap, refl, ◌∙◌}
use Rattle.vx_frame_trials.proofs.CalledLaws.{are_arguments}
use Rattle.vx_frame_trials.proofs.groups.arguments.Goals as goal

pub one-requires : goal.one-requires
one-requires g c = rw c.always.ensures (g.met.S.Space.lawful c.differing.new.space).always_known

pub returns-clause-arguments : goal.returns-clause-arguments
returns-clause-arguments g c = are_arguments _ c.always.result _ c.in_ok-long.long c.in_ok-int.int _ refl c.always.ensures c.in_ok-long.ensures.scope c.in_ok-long.ensures.ok c.in_ok-int.ensures.short (c.in_ok-push-2.ensures.items ∙ ap (λ xs. xs ++ c.in_ok-int.int ∷ []) (c.in_ok-push.ensures.items ∙ ap (λ xs. xs ++ c.in_ok-long.long ∷ []) c.new-arguments.ensures.items))
