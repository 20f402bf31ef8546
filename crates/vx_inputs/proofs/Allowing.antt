-- Whether a model allows a configuration, by its set in a space.
use Rattle.std.proofs.Common.{◌≡◌, Bool, true, false, refl, sym, ap, ◌∙◌}
use Rattle.std.specs.Prelude.{◌≢◌, ◌↔◌, not}
use Rattle.vx_model.specs.declared.model.Model.{Model}
use Rattle.vx_model.specs.Models.{is_allowed}
use Rattle.vx_space.proofs.Differences.{some_difference}
use Rattle.vx_space.specs.Sets.{IsLawful, IsSet, Sets}
use Rattle.vx_plans.specs.Plan.{AllowsNone, AllowsSome}

pub allows_none : {I : Type 0} (model : Model) (sets : Sets I) (allowed : I) → IsLawful sets → IsSet sets allowed (is_allowed model) → allowed ≡ sets.never → AllowsNone model
allows_none model sets allowed lawful is never c = sym (is.test c) ∙ ap (λ a. sets.test a c) never ∙ lawful.never_test c

differs : (a b : Bool) → b ≡ false → a ≢ b → a ≡ true
differs true b e d = refl
differs false true e d = cc
differs false false e d = absurd (d refl)

pub allows_some : {I : Type 0} (model : Model) (sets : Sets I) (allowed : I) → IsLawful sets → IsSet sets allowed (is_allowed model) → allowed ≢ sets.never → AllowsSome model
allows_some model sets allowed lawful is some =
    let d = some_difference lawful allowed sets.never is.known lawful.never_known some in
    (d.0, sym (is.test d.0) ∙ differs (sets.test allowed d.0) (sets.test sets.never d.0) (lawful.never_test d.0) d.1)

-- an answer that is turned round
pub turned_some : (b : Bool) (P : Type 0) → (b ≡ true ↔ P) → not b ≡ true → P → ⊥
turned_some true P iff e p = cc
turned_some false P iff e p = let t = iff.1 p in cc

pub turned_none : (b : Bool) (P : Type 0) → (b ≡ true ↔ P) → not b ≡ false → P
turned_none true P iff e = iff.0 refl
turned_none false P iff e = cc
