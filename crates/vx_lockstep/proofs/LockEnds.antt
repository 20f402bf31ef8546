-- Where no group is left: what was come to is each run, and the findings are the report of lockstep.
use Rattle.std.proofs.Common.{◌≡◌, ℕ, Bool, true, false, List, [], ◌∷◌, refl, sym, ap, ◌∙◌, length, map}
use Rattle.std.specs.Cmp.{IsTotalOrder, nat_cmp_total}
use Rattle.std.specs.Ordering.{nat_cmp}
use Rattle.std.specs.Prelude.{Contains, None, Option, Some, ◌==◌, if◌then◌else◌, is_some, option_map}
use Rattle.std.specs.declared.cmp.Ordering.{Ordering}
use Rattle.vx_cond.specs.Leaves.{AreLeaves, value_at}
use Rattle.vx_lockstep.proofs.Abreast.{IsAbreast, last_abreast, members_of, values_of_members}
use Rattle.vx_lockstep.proofs.FirstKeys.{first_key_none}
use Rattle.vx_lockstep.proofs.Grouped.{are_met, grouped, pairs_of-same, shared_in}
use Rattle.vx_lockstep.proofs.LockRounds.{AreStanding}
use Rattle.vx_lockstep.proofs.Standings.{not_came}
use Rattle.vx_lockstep.specs.Findings.{AreAllowed, piece_by, report_by, shared_by}
use Rattle.vx_end_order.proofs.EndOrder.{end_total}
use Rattle.vx_findings.specs.Shared.{leaves_of}
use Rattle.vx_findings.specs.declared.shared.Shared.{Shared}
use Rattle.vx_java.specs.Lockstep.{groups_of, live_progress}
use Rattle.vx_java.specs.Report.{attempts_in, lock_report, report_of}
use Rattle.vx_java.specs.Step.{Config, Progress, Run, RunResult, result}
use Rattle.vx_link.specs.declared.program.Program.{Program}
use Rattle.vx_standing.specs.State.{Came, IsState, StateView, came_to, come_to, group_of, output_at, result_at, standing_at, standing_if, standing_in, standing_of}
use Rattle.vx_space.specs.Sets.{IsLawful, Sets}
use Rattle.vx_value.specs.Ends.{compare_ends}
use Rattle.vx_value.specs.declared.end.End.{End}
use Rattle.vx_value.specs.declared.end.Stream.{Stream}

-- ---- one configuration

-- a run that goes on no more, and what was found of it
pub record IsOver {S I : Type 0} (sets : Sets I) (st : StateView S I) (limit : ℕ) (c : Config) (r : Run) : Type 0 where
  pub none : live_progress limit r ≡ None
  pub found : result_at sets st.found st.ends st.spent c ≡ Some (result r)

came_is : (o : Option RunResult) (r : RunResult) → came_to o ≡ Some (Came r) → o ≡ Some r
came_is None r h = cc
came_is (Some s) r h = cc

pub is_over : {S I : Type 0} (sets : Sets I) (st : StateView S I) (limit : ℕ) (c : Config) (r : Run) → st.groups ≡ [] → standing_at sets st c ≡ Some (standing_of limit r) → IsOver sets st limit c r
is_over sets st limit c r none stands = by (live_progress limit r) refl (ap (λ groups. standing_in sets st c (group_of sets groups c)) (sym none) ∙ stands)
  where
    by : (o : Option Progress) → live_progress limit r ≡ o → came_to (result_at sets st.found st.ends st.spent c) ≡ Some (standing_if r o) → IsOver sets st limit c r
    by None e h = record { none = e; found = came_is (result_at sets st.found st.ends st.spent c) (result r) h }
    by (Some g) e h = absurd (not_came (result_at sets st.found st.ends st.spent c) g h)

record IsParts (ends : Option End) (spent : Option ℕ) (r : RunResult) : Type 0 where
  end : ends ≡ Some r.end
  attempts : spent ≡ Some r.attempts

-- the parts of what was come to
parts_of : (output : List (Stream × ℕ)) (ends : Option End) (spent : Option ℕ) (r : RunResult) → come_to output ends spent ≡ Some r → IsParts ends spent r
parts_of output None None r h = cc
parts_of output None (Some n) r h = cc
parts_of output (Some e) None r h = cc
parts_of output (Some e) (Some n) r h =
    let is : ◌≡◌ {A = RunResult} (record { output = output; end = e; attempts = n }) r = cc in
    record { end = ap (λ x. Some x.end) is; attempts = ap (λ x. Some x.attempts) is }

-- ---- all configurations

shared_all : {A S I : Type 0} (sets : Sets I) (list : List Config) (shared : List (Shared A S I)) → map (shared_in (λ a. a) sets list) (leaves_of shared) ≡ map (shared_by sets list) shared
shared_all sets list [] = refl
shared_all sets list (one ∷ rest) = ap (λ tail. shared_by sets list one ∷ tail) (shared_all sets list rest)

-- values that leaves give, and that runs have, grouped
values_grouped : {A S I : Type 0} (order : A → A → Ordering) → IsTotalOrder order → (sets : Sets I) → IsLawful sets → (shared : List (Shared A S I)) → AreLeaves order sets (leaves_of shared) → (f : Run → A) (runs : Config → Run) (list : List Config) → ((c : Config) → Contains list c → value_at sets (leaves_of shared) c ≡ Some (f (runs c))) → ((c : Config) → length c ≡ sets.options → is_some (value_at sets (leaves_of shared) c) ≡ true → Contains list c) → groups_of order (map (λ m. (f m.run, m.config)) (members_of runs list)) [] ≡ map (shared_by sets list) shared
values_grouped {A = A} order total sets lawful shared are f runs list values listed =
    ap (λ pairs. groups_of order pairs []) (values_of_members f runs list ∙ pairs_of-same (λ c. Some (f (runs c))) (λ c. option_map (λ a. a) (value_at sets (leaves_of shared) c)) list (λ c in_list. sym (ap (option_map (λ a. a)) (values c in_list))))
    ∙ grouped order total (λ a. a) sets (leaves_of shared) list are (are_met order sets lawful list (leaves_of shared) are listed)
    ∙ shared_all sets list shared

module _ {S I : Type 0} (p : Program) (sets : Sets I) (allowed : I) (is_allowed : Config → Bool) (limit : ℕ) (st : StateView S I) (runs : Config → Run) (state : IsState p sets allowed st) (standing : AreStanding sets is_allowed limit st runs) (none : st.groups ≡ []) (lawful : IsLawful sets) (same : (c : Config) → sets.test allowed c ≡ is_allowed c) (list : List Config) (are : AreAllowed sets.options is_allowed list) where
  over : (c : Config) → Contains list c → IsOver sets st limit c (runs c)
  over c in_list = is_over sets st limit c (runs c) none (standing.stands c (are.sound c in_list))

  parts : (c : Config) → Contains list c → IsParts (value_at sets (leaves_of st.ends) c) (value_at sets (leaves_of st.spent) c) (result (runs c))
  parts c in_list = parts_of (output_at sets st.found c) (value_at sets (leaves_of st.ends) c) (value_at sets (leaves_of st.spent) c) (result (runs c)) (over c in_list).found

  -- where something was come to, the configuration is allowed
  is_listed : {A : Type 0} (value : Config → Option A) → ((c : Config) → is_allowed c ≡ false → value c ≡ None) → (c : Config) → length c ≡ sets.options → is_some (value c) ≡ true → Contains list c
  is_listed value out c whole some = are.complete c whole (by (is_allowed c) refl)
    where
      by : (b : Bool) → is_allowed c ≡ b → b ≡ true
      by true e = refl
      by false e = let bad : is_some (value c) ≡ false = ap is_some (out c e) in cc

  all_ends : groups_of compare_ends (map (λ m. ((result m.run).end, m.config)) (members_of runs list)) [] ≡ map (shared_by sets list) st.ends
  all_ends =
      values_grouped compare_ends end_total sets lawful st.ends state.ends (λ r. (result r).end) runs list (λ c in_list. (parts c in_list).end)
      (is_listed (value_at sets (leaves_of st.ends)) (λ c e. (state.nowhere c (same c ∙ e)).end))

  all_spent : groups_of nat_cmp (map (λ m. ((result m.run).attempts, m.config)) (members_of runs list)) [] ≡ map (shared_by sets list) st.spent
  all_spent =
      values_grouped nat_cmp nat_cmp_total sets lawful st.spent state.spent (λ r. (result r).attempts) runs list (λ c in_list. (parts c in_list).attempts)
      (is_listed (value_at sets (leaves_of st.spent)) (λ c e. (state.nowhere c (same c ∙ e)).spent))

  spent_shown : (b : Bool) → attempts_in b (members_of runs list) ≡ (if b then map (shared_by sets list) st.spent else [])
  spent_shown true = all_spent
  spent_shown false = refl

  pub report_is : (version : ℕ) → IsAbreast p limit list st.rounds (map (piece_by sets list) st.found) runs → lock_report p list limit version ≡ report_by sets list limit version (record { rounds = st.rounds; found = st.found; ends = st.ends; spent = st.spent })
  report_is version h =
      let last = last_abreast p limit list st.rounds (map (piece_by sets list) st.found) runs h (first_key_none limit runs list (λ c in_list. (over c in_list).none)) in
      let ends = all_ends in
      let spent = spent_shown (version == 2) in
      ap (report_of limit version) last
      ∙ (λ i. record { version = version; limit = limit; rounds = st.rounds; pieces = map (piece_by sets list) st.found; ends = ends i; attempts = spent i })
