-- The part of a plan that reads a model.
use Rattle.std.specs.Prelude.{ℕ, List}
use Rattle.vx_model.specs.declared.model.Model.{Model}
use Rattle.vx_plans.specs.Job.{model_of}
use Rattle.vx_plans.specs.Plan.{Plan, If_allowed, attempt}
use Rattle.vx_plans.specs.Sized.{most_bytes, read_sized}

-- reads a model that allows a configuration, and goes on with it
abbrev pub read_model : List ℕ → (Model → Plan) → Plan
read_model path next = read_sized most_bytes path path (λ text. attempt (model_of path text) (λ model. If_allowed model (next model)))

-- reads a model, whether or not it allows a configuration, and goes on with it
abbrev pub read_any_model : List ℕ → (Model → Plan) → Plan
read_any_model path next = read_sized most_bytes path path (λ text. attempt (model_of path text) next)
