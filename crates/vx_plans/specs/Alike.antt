-- Plans that ask the same, and end with the same statuses: what they say, and whether they say anything, may differ.
use Rattle.std.specs.Prelude.{List, Ok, Err, ℕ, ◌≡◌}
use Rattle.vx_plans.specs.Plan.{By_allowed, List_below, Outcome, Plan, Read, Refuse, Say}
use Rattle.vx_plans.specs.declared.status.Status.{Status}

-- the status of what a plan gave: that behind a text, or that of a refusal
abbrev pub status_of : Outcome → Status
status_of (Ok said) = said.1
status_of (Err refusal) = refusal

-- each question is the other plan's, and whatever the answer, they go on alike
abbrev pub AreAlike : Plan → Plan → Type 0
AreAlike (Refuse status) (Refuse other) = status ≡ other
AreAlike (Refuse status) (Say product other) = status ≡ other
AreAlike (Say product status) (Refuse other) = status ≡ other
AreAlike (Say product status) (Say another other) = status ≡ other
AreAlike (Read path room fault next) (Read path' room' fault' next') =
    (path ≡ path') × (room ≡ room') × (fault ≡ fault') × ((bytes : List ℕ) → AreAlike (next bytes) (next' bytes))
AreAlike (List_below folder fault next) (List_below folder' fault' next') =
    (folder ≡ folder') × (fault ≡ fault') × ((paths : List (List ℕ)) → AreAlike (next paths) (next' paths))
AreAlike (By_allowed model none some) (By_allowed model' none' some') = (model ≡ model') × AreAlike none none' × AreAlike some some'
AreAlike plan other = ⊥
