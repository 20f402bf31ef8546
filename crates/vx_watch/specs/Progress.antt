-- How far runs have come.
use Rattle.std.specs.Prelude.{ℕ, List, [], ◌∷◌, length, map, max, sum}
use Rattle.vx_count.specs.Settings.{number}
use Rattle.vx_findings.specs.declared.shared.Shared.{Shared}
use Rattle.vx_group.specs.Group.{GroupView}
use Rattle.vx_space.specs.Sets.{Sets}
use Rattle.vx_standing.specs.State.{StateView}
use Rattle.vx_watch.specs.declared.progress.Progress.{Progress}

-- the greatest of a number and those of a list
abbrev pub max_from : ℕ → List ℕ → ℕ
max_from n [] = n
max_from n (m ∷ list) = max_from (max n m) list

-- the greatest number of attempts in groups, from a number on
abbrev pub most_from : {S I : Type 0} → ℕ → List (GroupView S I) → ℕ
most_from n [] = n
most_from n (group ∷ groups) = most_from (max_from n (map (λ leaf. leaf.value) group.attempts.leaves)) groups

-- at how many settings each value of a list stands, together
abbrev pub settled : {V S I : Type 0} → Sets I → List (Shared V S I) → ℕ
settled sets list = sum (map (λ shared. number sets.options (sets.test shared.condition)) list)

-- how far the runs of a state have come, of so many configurations; each configuration that has ended has one end
abbrev pub progress_of : {S I : Type 0} → Sets I → (of : ℕ) → StateView S I → Progress
progress_of sets of st = record {
  rounds = st.rounds;
  groups = length st.groups;
  ended = settled sets st.ends;
  of = of;
  attempts = max_from (most_from 0 st.groups) (map (λ shared. shared.value) st.spent);
  sets = sets.count;
}
