-- Outcomes that divide a path.
use Rattle.std.proofs.Common.{◌≡◌, Bool, true, false, List, [], ◌∷◌, refl, sym, subst}
use Rattle.std.specs.Prelude.{◌&&◌, not}
use Rattle.vx_space.specs.Sets.{Sets}
use Rattle.vx_group.specs.Group.{GroupView, path_of}
use Rattle.vx_outcome.specs.declared.outcome.Outcome.{Outcome}
use Rattle.vx_outcome.specs.declared.outcome.Outcome.TheVariants.{Go}
use Rattle.vx_outcome.specs.Outcome.{Divide}

none_left : (b : Bool) → (b && not b) ≡ false
none_left true = refl
none_left false = refl

pub Divide-go : {S I : Type 0} (sets : Sets I) (group : GroupView S I) (items : List (Outcome S I)) → items ≡ Go group ∷ [] → Divide sets (sets.test (path_of group)) items
Divide-go {S = S} {I = I} sets group items e =
    let P : List (Outcome S I) → Type 0 = λ xs. Divide sets (sets.test (path_of group)) xs in
    subst P (sym e) ((λ c t. t), λ c. none_left (sets.test (path_of group) c))
