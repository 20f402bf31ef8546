use Rattle.std.proofs.Common.{◌∙◌, ap, get_or, sym}
use Rattle.vx_placing.proofs.Ending.{IsUsedUp-none, IsUsedUp-some}
use Rattle.vx_placing.proofs.placing.used_up.Goals as goal

pub returns-in-Some : goal.returns-in-Some
returns-in-Some g c =
    let leaves = c.leaves-leaves.result.now in
    let place = c.in-Some.place in
    λ sets v. IsUsedUp-some sets c.args.attempts.now c.args.limit place (get_or leaves place c.index-leaves-place.result) leaves c.leaves-leaves.ensures (sym c.in-Some.is ∙ c.place_of.ensures) (ap (λ d. get_or leaves place d) c.index-leaves-place.is) v

pub returns-in-None : goal.returns-in-None
returns-in-None g c = λ sets v. IsUsedUp-none sets c.args.attempts.now c.args.limit c.leaves-leaves.result.now c.leaves-leaves.ensures (sym c.in-None.is ∙ c.place_of.ensures)
