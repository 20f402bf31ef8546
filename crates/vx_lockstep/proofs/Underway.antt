-- All runs underway: each allowed configuration has the run that stands there, and rounds of the first key keep up with lockstep.
use Rattle.std.proofs.Common.{arith, ◌≡◌, ◌<◌, ℕ, Bool, true, false, List, [], refl, sym, subst, ap, ◌∙◌, length, map}
use Rattle.std.specs.Prelude.{◌==◌, None, Option, Some, slice_get}
use Rattle.std.proofs.lemmas.Bool.{eqb-true}
use Rattle.std.proofs.lemmas.List.{length-map, nil_from_length}
use Rattle.vx_lockstep.proofs.Apart.{HoldNot, round_apart}
use Rattle.vx_lockstep.proofs.Abreast.{IsAbreast, start_abreast}
use Rattle.vx_lockstep.proofs.LockEnds.{is_over, report_is}
use Rattle.vx_lockstep.proofs.LockRounds.{AreStanding, lock_round}
use Rattle.vx_lockstep.proofs.Runs.{IsReached, moved, moved_if, moved_reached, moved_runs, start_reached, whole_run}
use Rattle.vx_lockstep.specs.Findings.{AreAllowed, AreFindings, FindingsView, piece_by, report_by}
use Rattle.vx_group.specs.Group.{GroupView, key_of, path_of}
use Rattle.vx_java.specs.Lockstep.{live_progress}
use Rattle.vx_java.specs.Report.{lock_report}
use Rattle.vx_java.specs.Step.{Config, Progress, Run, start}
use Rattle.vx_link.specs.declared.program.Program.{Program}
use Rattle.vx_standing.specs.Rounds.{IsRound, IsStart, after_round}
use Rattle.vx_standing.specs.State.{IsState, StateView, standing_at, standing_if, standing_of}
use Rattle.vx_sched.specs.Picks.{IsFirstKey}
use Rattle.vx_space.specs.Sets.{Extends, IsLawful, Sets}
use Rattle.vx_value.specs.declared.key.KeyPart.{KeyPart}

-- before a round; what is said of lockstep holds where `FirstPicked` does
pub record IsUnderway {S I : Type 0} (p : Program) (sets : Sets I) (options : ℕ) (is_allowed : Config → Bool) (limit : ℕ) (FirstPicked : Type 0) (st : StateView S I) : Type 0 where
  pub is_state : IsState p sets st.heap.allowed st
  pub limited : st.limit ≡ limit
  pub all_options : sets.options ≡ options
  pub same : (c : Config) → sets.test st.heap.allowed c ≡ is_allowed c
  pub runs : Config → Run
  pub reached : (c : Config) → IsReached p limit c (runs c)
  pub standing : AreStanding sets is_allowed limit st runs
  pub apart : (c : Config) → is_allowed c ≡ false → HoldNot sets st.found c
  pub abreast : FirstPicked → (list : List Config) → AreAllowed options is_allowed list → IsAbreast p limit list st.rounds (map (piece_by sets list) st.found) runs

pub own_allowed : {S I : Type 0} (p : Program) (sets : Sets I) (allowed : I) (st : StateView S I) → IsState p sets allowed st → IsState p sets st.heap.allowed st
own_allowed {I = I} p sets allowed st h = let P : I → Type 0 = λ a. IsState p sets a st in subst P (sym h.runs) h

-- ---- the start

pub started : {S I : Type 0} (p : Program) (old new : Sets I) (allowed : I) (limit : ℕ) (FirstPicked : Type 0) (st : StateView S I) → old.is_known allowed ≡ true → Extends old new → IsStart p new allowed limit st → IsUnderway p new old.options (old.test allowed) limit FirstPicked st
started p old new allowed limit FirstPicked st known e h =
    record {
      is_state = own_allowed p new allowed st h.is_state;
      limited = h.limited;
      all_options = e.options;
      same = λ c. ap (λ a. new.test a c) h.is_state.runs ∙ e.test allowed c known;
      runs = start p;
      reached = start_reached p limit;
      standing = record { stands = λ c is_in. h.standing c (e.test allowed c known ∙ is_in) };
      apart = λ c out. rw h.found refl;
      abreast = λ first list are. none_found list (start_abreast p limit list);
    }
  where
    none_found : (list : List Config) → IsAbreast p limit list 0 [] (start p) → IsAbreast p limit list st.rounds (map (piece_by new list) st.found) (start p)
    none_found list a = rw (h.rounds, h.found) a

-- ---- a round

after_is : (p : Program) (n : ℕ) (b : Bool) (r : Run) → after_round p n b (Some (standing_of n r)) ≡ Some (standing_of n (moved p n b r))
after_is p n false r = refl
after_is p n true r = by (live_progress n r) refl
  where
    by : (o : Option Progress) → live_progress n r ≡ o → after_round p n true (Some (standing_if r o)) ≡ Some (standing_of n (moved_if p r o))
    by None e = ap (λ o. Some (standing_if r o)) (sym e)
    by (Some g) e = refl

pub goes_on : {S I : Type 0} (p : Program) (old new : Sets I) (options : ℕ) (is_allowed : Config → Bool) (limit : ℕ) (FirstPicked : Type 0) (before after : StateView S I) (place : ℕ) (group : GroupView S I) → IsLawful old → IsLawful new → IsUnderway p old options is_allowed limit FirstPicked before → slice_get before.groups place ≡ Some group → (FirstPicked → IsFirstKey (map key_of before.groups) place) → IsRound p old new before.heap.allowed before after group → IsUnderway p new options is_allowed limit FirstPicked after
goes_on p old new options is_allowed limit FirstPicked before after place group lawful lawful_new u e first r =
    record {
      is_state = own_allowed p new before.heap.allowed after r.is_state;
      limited = r.limit ∙ u.limited;
      all_options = r.options ∙ u.all_options;
      same = λ c. ap (λ a. new.test a c) r.is_state.runs ∙ r.kept c ∙ u.same c;
      runs = moved_runs p limit old (path_of group) u.runs;
      reached = λ c. moved_reached p limit c (old.test (path_of group) c) (u.runs c) (u.reached c);
      standing = record { stands = stands };
      apart = λ c out. round_apart p old new before.heap.allowed before after group c r (u.is_state.nowhere c (u.same c ∙ out)) (u.apart c out);
      abreast = λ is_first list are.
          lock_round p old before.heap.allowed is_allowed limit before u.runs u.is_state u.standing options u.all_options lawful u.same list are place group (record { is_there = e; first = first is_first }) new after lawful_new r (u.abreast is_first list are);
    }
  where
    stands : (c : Config) → is_allowed c ≡ true → standing_at new after c ≡ Some (standing_of limit (moved p limit (old.test (path_of group) c) (u.runs c)))
    stands c is_in =
        r.standing c
        ∙ ap (λ n. after_round p n (old.test (path_of group) c) (standing_at old before c)) u.limited
        ∙ ap (after_round p limit (old.test (path_of group) c)) (u.standing.stands c is_in)
        ∙ after_is p limit (old.test (path_of group) c) (u.runs c)

-- a place picked by the groups' keys
pub picked_below : {S I : Type 0} (groups seen : List (GroupView S I)) (keys items : List (List KeyPart)) (place : ℕ) → keys ≡ items → items ≡ map key_of seen → seen ≡ groups → place < length keys → place < length groups
picked_below groups seen keys items place a b d below =
    let same : length keys ≡ length groups = ap length (a ∙ b) ∙ length-map seen key_of ∙ ap length d in
    omega arith

pub picked_first : {S I : Type 0} (groups seen : List (GroupView S I)) (keys items : List (List KeyPart)) (place : ℕ) → keys ≡ items → items ≡ map key_of seen → seen ≡ groups → IsFirstKey keys place → IsFirstKey (map key_of groups) place
picked_first groups seen keys items place a b d first = subst (λ list. IsFirstKey list place) (a ∙ b ∙ ap (map key_of) d) first

-- ---- the end

abbrev pub findings_of : {S I : Type 0} → StateView S I → FindingsView S I
findings_of st = record { rounds = st.rounds; found = st.found; ends = st.ends; spent = st.spent }

no_group : {A : Type 0} (xs ys : List A) (b : Bool) → b ≡ true → b ≡ (length xs == 0) → xs ≡ ys → ys ≡ []
no_group xs ys b e t s = sym s ∙ nil_from_length xs (eqb-true (length xs) 0 (sym t ∙ e))

-- no group is left, and these are the findings
pub record IsLast {S I : Type 0} (st : StateView S I) (findings : FindingsView S I) : Type 0 where
  pub none : st.groups ≡ []
  pub same : findings ≡ findings_of st

pub is_last : {S I : Type 0} (st : StateView S I) (findings : FindingsView S I) (groups : List (GroupView S I)) (test : Bool) → test ≡ true → test ≡ (length groups == 0) → groups ≡ st.groups → findings ≡ findings_of st → IsLast st findings
is_last st findings groups test e t s same = record { none = no_group groups st.groups test e t s; same = same }

pub ended : {S I : Type 0} (p : Program) (sets : Sets I) (options : ℕ) (is_allowed : Config → Bool) (limit : ℕ) (FirstPicked : Type 0) (st : StateView S I) (findings : FindingsView S I) → IsUnderway p sets options is_allowed limit FirstPicked st → IsLast st findings → AreFindings p sets is_allowed limit findings
ended {S = S} {I = I} p sets options is_allowed limit FirstPicked st findings u last =
    let P : FindingsView S I → Type 0 = λ f. AreFindings p sets is_allowed limit f in
    subst P (sym last.same)
    (record {
      known = u.is_state.found;
      ends = u.is_state.ends;
      spent = u.is_state.spent;
      runs = λ c is_in.
          let over = is_over sets st limit c (u.runs c) last.none (u.standing.stands c is_in) in
          over.found ∙ ap Some (whole_run p limit c (u.runs c) (u.reached c) over.none);
      others = λ c out. let nowhere = u.is_state.nowhere c (u.same c ∙ out) in record { texts = u.apart c out; end = nowhere.end; spent = nowhere.spent };
    })

pub reported : {S I : Type 0} (p : Program) (sets : Sets I) (options : ℕ) (is_allowed : Config → Bool) (limit : ℕ) (FirstPicked : Type 0) (st : StateView S I) (findings : FindingsView S I) → IsLawful sets → IsUnderway p sets options is_allowed limit FirstPicked st → IsLast st findings → FirstPicked → (list : List Config) (version : ℕ) → AreAllowed options is_allowed list → lock_report p list limit version ≡ report_by sets list limit version findings
reported p sets options is_allowed limit FirstPicked st findings lawful u last first list version are =
    let all : AreAllowed sets.options is_allowed list = record { sound = are.sound; complete = λ c whole is_in. are.complete c (whole ∙ u.all_options) is_in } in
    report_is p sets st.heap.allowed is_allowed limit st u.runs u.is_state u.standing last.none lawful u.same list all version (u.abreast first list are)
    ∙ ap (report_by sets list limit version) (sym last.same)
