-- A model that is being read.
use Rattle.vx_model.specs.declared.model.Model.{Model}
use Rattle.vx_model.specs.declared.text.Draft.{Draft}

-- the options and rules so far
abbrev pub drafted : Draft → Model
drafted draft = record { options = draft.options.items; rules = draft.rules.items }
