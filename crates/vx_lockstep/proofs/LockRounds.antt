-- A round of the group whose key is first is a round of lockstep.
use Rattle.std.proofs.Common.{◌≡◌, ◌≢◌, ℕ, suc, Bool, true, false, List, [], ◌∷◌, ◌++◌, refl, sym, ap, ◌∙◌, length, map}
use Rattle.std.proofs.lemmas.List.{map-append}
use Rattle.std.proofs.lemmas.Option.{get_or_from_slice_get, slice_get-map, slice_get_within}
use Rattle.std.specs.Cmp.{IsTotalOrder, nat_cmp_total, on_total, then_total}
use Rattle.std.specs.Cmp.Lexicographic.{lists_total}
use Rattle.std.specs.Prelude.{Contains, None, Option, Some, drop, filter, is_some, option_map, slice_get, slice_index_or}
use Rattle.std.specs.declared.cmp.Ordering.{Ordering}
use Rattle.std.specs.declared.cmp.Ordering.TheVariants.{Equal, Greater, Less}
use Rattle.vx_cond.specs.Leaves.{value_at}
use Rattle.vx_lockstep.proofs.Abreast.{IsAbreast, appended, lockstep_at, members_of, next_abreast, piece_seen}
use Rattle.vx_lockstep.proofs.FirstKeys.{IsLeast, first_key_is}
use Rattle.vx_lockstep.proofs.Grouped.{are_met, grouped, own, shared_in}
use Rattle.vx_lockstep.proofs.Runs.{moved, moved_if, moved_runs}
use Rattle.vx_lockstep.proofs.Standings.{group_there, held_by, key_kept, one_key, place_of, same_group, standing_nowhere, standing_of_group}
use Rattle.vx_lockstep.specs.Findings.{AreAllowed, piece_by}
use Rattle.vx_findings.specs.Orders.{piece_cmp}
use Rattle.vx_findings.specs.Shared.{leaves_of}
use Rattle.vx_findings.specs.declared.piece.Piece.{Piece}
use Rattle.vx_findings.specs.declared.shared.Shared.{Shared}
use Rattle.vx_group.specs.Group.{GroupView, key_of, path_of}
use Rattle.vx_java.proofs.Members.{added}
use Rattle.vx_java.specs.Lockstep as lockstep
use Rattle.vx_java.specs.Lockstep.{all_pieces_appended, compare_pieces, first_key, groups_of, if_key, if_live, key_at, live_progress, output_of, piece_of, rounds_from, run_after_round, stream_rank}
use Rattle.vx_java.specs.Step.{Config, Progress, Run, step}
use Rattle.vx_link.specs.declared.program.Program.{Program}
use Rattle.vx_standing.proofs.Configurations.{member_of}
use Rattle.vx_standing.specs.Rounds.{IsRound, pieces_in, written}
use Rattle.vx_standing.specs.State.{IsState, Runs, StateView, progress_at, shared_ids, standing_at, standing_if, standing_of}
use Rattle.vx_sched.specs.Picks.{IsFirstKey}
use Rattle.vx_space.specs.Sets.{AreKept, IsLawful, Sets}
use Rattle.vx_value.specs.Key.{key_cmp}
use Rattle.vx_value.specs.KeyLaws.{key_cmp_total, key_exact}
use Rattle.vx_value.specs.declared.key.KeyPart.{KeyPart}
use Rattle.vx_java.proofs.Rounds.{live_is}

-- ---- what stands, and the runs

-- a run stands at each allowed configuration
pub record AreStanding {S I : Type 0} (sets : Sets I) (is_allowed : Config → Bool) (limit : ℕ) (st : StateView S I) (runs : Config → Run) : Type 0 where
  pub stands : (c : Config) → is_allowed c ≡ true → standing_at sets st c ≡ Some (standing_of limit (runs c))

-- where a run goes on it is live
pub live_of : (limit : ℕ) (r : Run) (g : Progress) → standing_of limit r ≡ Runs g → live_progress limit r ≡ Some g
live_of limit r g h = by (live_progress limit r) refl h
  where
    by : (o : Option Progress) → live_progress limit r ≡ o → standing_if r o ≡ Runs g → live_progress limit r ≡ Some g
    by None e f = cc
    by (Some f) e k = let same : f ≡ g = cc in e ∙ ap Some same

-- and where it is live it goes on
runs_of : (limit : ℕ) (r : Run) (g : Progress) → live_progress limit r ≡ Some g → standing_of limit r ≡ Runs g
runs_of limit r g h = ap (standing_if r) h

-- a picked group: its place, and that no key is before its key
pub record IsPicked {S I : Type 0} (groups : List (GroupView S I)) (place : ℕ) (group : GroupView S I) : Type 0 where
  pub is_there : slice_get groups place ≡ Some group
  pub first : IsFirstKey (map key_of groups) place

-- the run of an allowed configuration that goes on: it stands in a group, whose key it has
record IsInGroup {S I : Type 0} (sets : Sets I) (st : StateView S I) (c : Config) (g : Progress) : Type 0 where
  group : GroupView S I
  place : ℕ
  is_there : slice_get st.groups place ≡ Some group
  holds : sets.test (path_of group) c ≡ true
  key : key_at g ≡ key_of group

-- ---- a run in a round of a key

stays_over : (p : Program) (n : ℕ) (key : List KeyPart) (r : Run) → live_progress n r ≡ None → run_after_round p n key r ≡ r
stays_over p n key r h = ap (if_live p key r) h

stays_other : (p : Program) (n : ℕ) (key : List KeyPart) (r : Run) (g : Progress) → live_progress n r ≡ Some g → key_at g ≢ key → run_after_round p n key r ≡ r
stays_other p n key r g h other = ap (if_live p key r) h ∙ by (key_cmp (key_at g) key) refl
  where
    by : (o : Ordering) → key_cmp (key_at g) key ≡ o → if_key p r g o ≡ r
    by Less e = refl
    by Greater e = refl
    by Equal e = absurd (other (key_exact (key_at g) key e))

steps_there : (p : Program) (n : ℕ) (key : List KeyPart) (r : Run) (g : Progress) → live_progress n r ≡ Some g → key_at g ≡ key → run_after_round p n key r ≡ step p g
steps_there p n key r g h is = ap (if_live p key r) h ∙ ap (if_key p r g) (ap (key_cmp (key_at g)) (sym is) ∙ own key_cmp_total (key_at g))

-- ---- what a run writes

drop_all : {A : Type 0} (xs : List A) → drop (length xs) xs ≡ []
drop_all [] = refl
drop_all (x ∷ xs) = drop_all xs

writes_nothing : (r : Run) → added r r ≡ []
writes_nothing r = ap piece_of (drop_all (output_of r))

written_is : (p : Program) (n : ℕ) (b : Bool) (r : Run) → piece_of (written p b (Some (standing_of n r))) ≡ added r (moved p n b r)
written_is p n false r = sym (writes_nothing r)
written_is p n true r = by (live_progress n r) refl
  where
    by : (o : Option Progress) → live_progress n r ≡ o → piece_of (written p true (Some (standing_if r o))) ≡ added r (moved_if p r o)
    by None e = sym (writes_nothing r)
    by (Some g) e = ap (λ s. piece_of (drop (length (output_of s)) (output_of (step p g)))) (sym (live_is n r g e).run)

nothing_written : (p : Program) (b : Bool) → written p b None ≡ []
nothing_written p true = refl
nothing_written p false = refl

pieces_total : IsTotalOrder compare_pieces
pieces_total =
    let rank : lockstep.Piece → ℕ = λ piece. stream_rank piece.0 in
    let text : lockstep.Piece → List ℕ = λ piece. piece.1 in
    then_total (on_total rank nat_cmp_total) (on_total text (lists_total nat_cmp_total))

-- ---- texts and their configurations

shared_texts : {S I : Type 0} (sets : Sets I) (list : List Config) (texts : List (Shared Piece S I)) → map (shared_in piece_seen sets list) (leaves_of texts) ≡ map (piece_by sets list) texts
shared_texts sets list [] = refl
shared_texts sets list (text ∷ texts) = ap (λ rest. piece_by sets list text ∷ rest) (shared_texts sets list texts)

-- texts whose ids are kept have the same configurations
kept_texts : {S I : Type 0} (old new : Sets I) (list : List Config) (texts : List (Shared Piece S I)) → AreKept old new (shared_ids texts) → map (piece_by new list) texts ≡ map (piece_by old list) texts
kept_texts old new list [] kept = refl
kept_texts old new list (text ∷ texts) kept =
    let same = kept.0.test in
    ap (λ test. record { value = (text.value.stream, text.value.text); configs = filter test list } ∷ map (piece_by new list) texts) (λ i c. same c i)
    ∙ ap (λ rest. piece_by old list text ∷ rest) (kept_texts old new list texts kept.1)

-- ---- a round

module _ {S I : Type 0} (p : Program) (sets : Sets I) (allowed : I) (is_allowed : Config → Bool) (limit : ℕ) (st : StateView S I) (runs : Config → Run) (state : IsState p sets allowed st) (standing : AreStanding sets is_allowed limit st runs) where
  in_group : (c : Config) (g : Progress) → is_allowed c ≡ true → live_progress limit (runs c) ≡ Some g → IsInGroup sets st c g
  in_group c g is_in live =
      let held = held_by sets st c g (standing.stands c is_in ∙ ap Some (runs_of limit (runs c) g live)) in
      let place = place_of sets st.groups c held.group held.held in
      let there = group_there sets st.tree st.groups place.place held.group state.groups place.is_there in
      record {
        group = held.group;
        place = place.place;
        is_there = place.is_there;
        holds = place.holds;
        key = ap key_at (sym held.progress) ∙ key_kept sets st.heap st.tree held.group c there.is_group;
      }

  -- a configuration of a group's path: its run is live, and has the group's key
  at_group : (c : Config) (place : ℕ) (group : GroupView S I) → is_allowed c ≡ true → slice_get st.groups place ≡ Some group → sets.test (path_of group) c ≡ true → (g : Progress) × (live_progress limit (runs c) ≡ Some g) × (key_at g ≡ key_of group)
  at_group c place group is_in e holds =
      let there = group_there sets st.tree st.groups place group state.groups e in
      let held = same_group sets st.tree st.groups place group c state.groups e holds in
      let g = progress_at sets st group c in
      let runs_on : Some (standing_of limit (runs c)) ≡ Some (Runs g) = sym (standing.stands c is_in) ∙ standing_of_group sets st c group held in
      let same : standing_of limit (runs c) ≡ Runs g = cc in
      (g, live_of limit (runs c) g same, key_kept sets st.heap st.tree group c there.is_group)

  -- a configuration of a group's path is an allowed one
  is_allowed_there : ((c : Config) → sets.test allowed c ≡ is_allowed c) → (c : Config) (place : ℕ) (group : GroupView S I) → slice_get st.groups place ≡ Some group → sets.test (path_of group) c ≡ true → is_allowed c ≡ true
  is_allowed_there same c place group e holds = by (is_allowed c) refl
    where
      by : (b : Bool) → is_allowed c ≡ b → b ≡ true
      by true f = refl
      by false f =
          let none = (state.nowhere c (same c ∙ f)).group in
          let some = same_group sets st.tree st.groups place group c state.groups e holds in
          cc

  -- ---- the picked group's key is the first one

  module _ (options : ℕ) (all_options : sets.options ≡ options) (lawful : IsLawful sets) (same : (c : Config) → sets.test allowed c ≡ is_allowed c) (list : List Config) (are : AreAllowed options is_allowed list) (place : ℕ) (group : GroupView S I) (picked : IsPicked st.groups place group) where
    key_there : (i : ℕ) (other : GroupView S I) → slice_get st.groups i ≡ Some other → slice_get (map key_of st.groups) i ≡ Some (key_of other)
    key_there i other e = slice_get-map key_of st.groups i ∙ ap (option_map key_of) e

    no_group_before : (i : ℕ) (other : GroupView S I) → slice_get st.groups i ≡ Some other → key_cmp (key_of other) (key_of group) ≢ Less
    no_group_before i other e less =
        picked.first.first i (slice_get_within (map key_of st.groups) i (key_of other) (key_there i other e))
        (ap (λ k. key_cmp k (slice_index_or (map key_of st.groups) place [])) (get_or_from_slice_get (map key_of st.groups) i (key_of other) [] (key_there i other e))
        ∙ ap (key_cmp (key_of other)) (get_or_from_slice_get (map key_of st.groups) place (key_of group) [] (key_there place group picked.is_there))
        ∙ less)

    is_least : IsLeast limit runs list (key_of group)
    is_least =
        record {
          none_before = λ c in_list g live less.
              let there = in_group c g (are.sound c in_list) live in
              no_group_before there.place there.group there.is_there (ap (λ k. key_cmp k (key_of group)) (sym there.key) ∙ less);
        }

    is_first : first_key limit (members_of runs list) ≡ Some (key_of group)
    is_first =
        let there = group_there sets st.tree st.groups place group state.groups picked.is_there in
        let member = member_of lawful (path_of group) there.known there.nonempty in
        let is_in = is_allowed_there same member.config place group picked.is_there member.holds in
        let run = at_group member.config place group is_in picked.is_there member.holds in
        first_key_is limit runs (key_of group) list is_least member.config run.0 (are.complete member.config (member.whole ∙ all_options) is_in) run.1 run.2

    -- each run moves as its group does
    is_moved : (c : Config) → Contains list c → run_after_round p limit (key_of group) (runs c) ≡ moved p limit (sets.test (path_of group) c) (runs c)
    is_moved c in_list = by (sets.test (path_of group) c) refl
      where
        is_in : is_allowed c ≡ true
        is_in = are.sound c in_list

        other : sets.test (path_of group) c ≡ false → (o : Option Progress) → live_progress limit (runs c) ≡ o → run_after_round p limit (key_of group) (runs c) ≡ runs c
        other out None live = stays_over p limit (key_of group) (runs c) live
        other out (Some g) live =
            let there = in_group c g is_in live in
            stays_other p limit (key_of group) (runs c) g live (λ k.
            let one = one_key sets st.tree st.groups there.place place there.group group state.groups there.is_there picked.is_there (sym there.key ∙ k) in
            let within : sets.test (path_of group) c ≡ true = ap (λ x. sets.test (path_of x) c) (sym one) ∙ there.holds in
            cc)

        by : (b : Bool) → sets.test (path_of group) c ≡ b → run_after_round p limit (key_of group) (runs c) ≡ moved p limit b (runs c)
        by true holds =
            let run = at_group c place group is_in picked.is_there holds in
            steps_there p limit (key_of group) (runs c) run.0 run.1 run.2 ∙ ap (moved_if p (runs c)) (sym run.1)
        by false out = other out (live_progress limit (runs c)) refl

    module _ (new : Sets I) (next : StateView S I) (lawful_new : IsLawful new) (round : IsRound p sets new allowed st next group) where
      texts_wrote : (c : Config) → Contains list c → added (runs c) (moved_runs p limit sets (path_of group) runs c) ≡ pieces_in (value_at new (leaves_of round.texts) c)
      texts_wrote c in_list =
          sym (round.wrote c ∙ ap (λ s. piece_of (written p (sets.test (path_of group) c) s)) (standing.stands c (are.sound c in_list)) ∙ written_is p limit (sets.test (path_of group) c) (runs c))

      -- where a text is, the configuration is allowed
      text_listed : (c : Config) → length c ≡ new.options → is_some (value_at new (leaves_of round.texts) c) ≡ true → Contains list c
      text_listed c whole some = are.complete c (whole ∙ round.options ∙ all_options) (by (is_allowed c) refl)
        where
          none : (o : Option Piece) → pieces_in o ≡ [] → is_some o ≡ false
          none None e = refl
          none (Some piece) e = cc

          by : (b : Bool) → is_allowed c ≡ b → b ≡ true
          by true e = refl
          by false e =
              let stood = standing_nowhere sets st c (state.nowhere c (same c ∙ e)) in
              let empty = round.wrote c ∙ ap (λ s. piece_of (written p (sets.test (path_of group) c) s)) stood ∙ ap piece_of (nothing_written p (sets.test (path_of group) c)) in
              let bad = none (value_at new (leaves_of round.texts) c) empty in
              cc

      texts_grouped : groups_of compare_pieces (all_pieces_appended (members_of runs list) (members_of (moved_runs p limit sets (path_of group) runs) list)) [] ≡ map (piece_by new list) round.texts
      texts_grouped =
          let leaves = leaves_of round.texts in
          ap (λ pairs. groups_of compare_pieces pairs []) (appended runs (moved_runs p limit sets (path_of group) runs) (value_at new leaves) list texts_wrote)
          ∙ grouped compare_pieces pieces_total piece_seen new leaves list round.are_texts (are_met piece_cmp new lawful_new list leaves round.are_texts text_listed)
          ∙ shared_texts new list round.texts

      all_texts : map (piece_by sets list) st.found ++ groups_of compare_pieces (all_pieces_appended (members_of runs list) (members_of (moved_runs p limit sets (path_of group) runs) list)) [] ≡ map (piece_by new list) next.found
      all_texts =
          ap (λ pieces. map (piece_by sets list) st.found ++ pieces) texts_grouped
          ∙ ap (λ pieces. pieces ++ map (piece_by new list) round.texts) (sym (kept_texts sets new list st.found round.earlier))
          ∙ sym (map-append (piece_by new list) st.found round.texts)
          ∙ ap (map (piece_by new list)) (sym round.found)

      -- a round of the group is a round of lockstep
      pub lock_round : IsAbreast p limit list st.rounds (map (piece_by sets list) st.found) runs → IsAbreast p limit list next.rounds (map (piece_by new list) next.found) (moved_runs p limit sets (path_of group) runs)
      lock_round h =
          let rounds = round.rounds in
          let after = next_abreast p limit list st.rounds (map (piece_by sets list) st.found) runs (moved_runs p limit sets (path_of group) runs) (key_of group) h is_first is_moved in
          record { bound = after.bound; enough = after.enough; same = after.same ∙ ap (λ pieces. rounds_from p limit after.bound (lockstep_at (suc st.rounds) pieces (moved_runs p limit sets (path_of group) runs) list)) all_texts ∙ ap (λ k. rounds_from p limit after.bound (lockstep_at k (map (piece_by new list) next.found) (moved_runs p limit sets (path_of group) runs) list)) (sym rounds) }
