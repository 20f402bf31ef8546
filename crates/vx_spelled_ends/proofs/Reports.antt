-- What the report of lockstep of a sound program says can be spelled.
use Rattle.std.proofs.Common.{Bool, List, None, Option, Some, [], arith, drop, false, length, map, refl, suc, true, zero, ℕ, ◌*◌, ◌++◌, ◌≤◌, ◌∷◌, ◌≡◌}
use Rattle.std.proofs.lemmas.Bool.{le-leb}
use Rattle.std.specs.Cmp.Derive.{both_true}
use Rattle.std.specs.List.{AllByRecursion, list_all}
use Rattle.std.specs.Ordering.{nat_cmp}
use Rattle.std.specs.Prelude.{nat_le, ◌==◌}
use Rattle.std.specs.declared.cmp.Ordering.{Ordering}
use Rattle.std.specs.declared.cmp.Ordering.TheVariants.{Equal, Greater, Less}
use Rattle.vx_pool.specs.Holding.{and_true}
use Rattle.vx_java.proofs.Members.{Moves, stays, stepped_moves, steps_on}
use Rattle.vx_java.specs.Lockstep.{ConfigRun, Lockstep, Piece, Shared, all_pieces_appended, begun, compare_pieces, first_key, groups_of, groups_with, if_first, lockstep, member_after_round, member_at_start, output_of, piece_of, pieces_appended, round, rounds_from}
use Rattle.vx_java.specs.Report.{attempts_in, lock_report}
use Rattle.vx_java.specs.Step.{Config, Run, result}
use Rattle.vx_link.specs.declared.program.Program.{Program}
use Rattle.vx_named_classes.specs.Named.{is_given}
use Rattle.vx_value.specs.Ends.{compare_ends}
use Rattle.vx_value.specs.declared.end.End.{End}
use Rattle.vx_value.specs.declared.end.Stream.{Stream}
use Rattle.vx_value.specs.declared.key.KeyPart.{KeyPart}
use Rattle.vx_spelled_ends.specs.Law.{IsSound}
use Rattle.vx_spelled_ends.specs.Spelled.{IsSpelledReport, is_shared, is_some_list, is_spelled}
use Rattle.vx_spelled_ends.proofs.Runs.{is_good_run, result_spelled, start_good, step_good, used, used_none, used_step}
use Rattle.vx_spelled_ends.proofs.Tests.{all_append}

-- ---- groups of values that pass a test

module _ {A : Type 0} (order : A → A → Ordering) (test : A → Bool) where
  abbrev AreShared : List (Shared A) → Type 0
  AreShared gs = list_all (is_shared test) gs ≡ true

  one_more : (configs : List Config) (c : Config) → is_some_list (configs ++ c ∷ []) ≡ true
  one_more [] c = refl
  one_more (d ∷ configs) c = refl

  shared_with : (a : A) (c : Config) (gs : List (Shared A)) → test a ≡ true → AreShared gs → AreShared (groups_with order a c gs)
  shared_with a c [] passes all = both_true (both_true passes refl) refl
  shared_with a c (g ∷ gs) passes all = by_order (order a g.value) (shared_with a c gs passes (and_true (is_shared test g) (list_all (is_shared test) gs) all).1)
    where
      by_order : (o : Ordering) → AreShared (groups_with order a c gs)
          → AreShared (elim o [
            | Less ↦ record { value = a; configs = c ∷ [] } ∷ g ∷ gs
            | Equal ↦ record { value = g.value; configs = g.configs ++ c ∷ [] } ∷ gs
            | Greater ↦ g ∷ groups_with order a c gs
          ])
      by_order Less later = both_true (both_true passes refl) all
      by_order Equal later =
          let parts = and_true (is_shared test g) (list_all (is_shared test) gs) all in
          both_true (both_true (and_true (test g.value) (is_some_list g.configs) parts.0).0 (one_more g.configs c)) parts.1
      by_order Greater later = both_true (and_true (is_shared test g) (list_all (is_shared test) gs) all).0 later

  pub shared_of : (items : List (A × Config)) (gs : List (Shared A)) → list_all (λ item. test item.0) items ≡ true → AreShared gs → AreShared (groups_of order items gs)
  shared_of [] gs passes all = all
  shared_of ((a, c) ∷ items) gs passes all =
      let parts = and_true (test a) (list_all (λ item. test item.0) items) passes in
      shared_of items (groups_with order a c gs) parts.1 (shared_with a c gs parts.0 all)

-- ---- the pieces that a round appends

abbrev has_text : Piece → Bool
has_text piece = is_given piece.1

abbrev is_text_item : Piece × Config → Bool
is_text_item item = has_text item.0

piece_given : (text : List (Stream × ℕ)) (c : Config) → list_all is_text_item (map (λ piece. (piece, c)) (piece_of text)) ≡ true
piece_given [] c = refl
piece_given ((stream, b) ∷ rest) c = refl

appended_given : (ms ns : List ConfigRun) → list_all is_text_item (all_pieces_appended ms ns) ≡ true
appended_given [] ns = refl
appended_given (m ∷ ms) [] = refl
appended_given (m ∷ ms) (n ∷ ns) =
    all_append is_text_item (pieces_appended m n) (all_pieces_appended ms ns) (piece_given (drop (length (output_of m.run)) (output_of n.run)) n.config) (appended_given ms ns)

-- ---- rounds

module _ (p : Program) (sound : IsSound p) (n : ℕ) where
  -- a run's frames stand well, or its end can be spelled, and it used at most so many attempts
  pub record IsKept (r : Run) : Type 0 where
    pub good : is_good_run p sound r ≡ true
    pub within : used r ≤ n

  moves_kept : {r s : Run} → Moves p n r s → IsKept r → IsKept s
  moves_kept stays k = k
  moves_kept (steps_on {g = g} less) k =
      let one = used_step p g in
      record { good = step_good p sound g k.good; within = omega (arith, one, less) }

  abbrev AreKept : List ConfigRun → Type 0
  AreKept ms = AllByRecursion (λ m. IsKept m.run) ms

  members_kept : (key : List KeyPart) (ms : List ConfigRun) → AreKept ms → AreKept (map (member_after_round p n key) ms)
  members_kept key [] all = tt
  members_kept key (m ∷ ms) all = (moves_kept (stepped_moves p n key m.run) all.0, members_kept key ms all.1)

  begun_kept : (configs : List Config) → AreKept (map (member_at_start p) configs)
  begun_kept [] = tt
  begun_kept (c ∷ configs) = let none = used_none p c in (record { good = start_good p sound c; within = omega (arith, none) }, begun_kept configs)

  -- the pieces so far have texts, and the runs are kept
  pub record IsKeptLockstep (l : Lockstep) : Type 0 where
    pub pieces : list_all (is_shared has_text) l.pieces ≡ true
    pub members : AreKept l.members

  round_kept : (key : List KeyPart) (l : Lockstep) → IsKeptLockstep l → IsKeptLockstep (round p n key l)
  round_kept key l k =
      let after = map (member_after_round p n key) l.members in
      let items = all_pieces_appended l.members after in
      record {
        pieces = all_append (is_shared has_text) l.pieces (groups_of compare_pieces items []) k.pieces (shared_of compare_pieces has_text items [] (appended_given l.members after) refl);
        members = members_kept key l.members k.members;
      }

  rounds_kept : (k : ℕ) (l : Lockstep) → IsKeptLockstep l → IsKeptLockstep (rounds_from p n k l)
  rounds_kept zero l kept = kept
  rounds_kept (suc k) l kept = by_key (first_key n l.members) (λ key. rounds_kept k (round p n key l) (round_kept key l kept))
    where
      by_key : (o : Option (List KeyPart)) → ((key : List KeyPart) → IsKeptLockstep (rounds_from p n k (round p n key l))) → IsKeptLockstep (if_first o l (λ key. rounds_from p n k (round p n key l)))
      by_key None later = kept
      by_key (Some key) later = later key

  -- ---- the ends and the numbers of attempts

  ends_spelled : (ms : List ConfigRun) → AreKept ms → list_all (λ (item : End × Config). is_spelled item.0) (map (λ m. ((result m.run).end, m.config)) ms) ≡ true
  ends_spelled [] all = refl
  ends_spelled (m ∷ ms) all = both_true (result_spelled p sound m.run all.0.good) (ends_spelled ms all.1)

  attempts_within : (ms : List ConfigRun) → AreKept ms → list_all (λ (item : ℕ × Config). nat_le item.0 n) (map (λ m. ((result m.run).attempts, m.config)) ms) ≡ true
  attempts_within [] all = refl
  attempts_within (m ∷ ms) all = both_true (le-leb (used m.run) n all.0.within) (attempts_within ms all.1)

  attempts_shared : (b : Bool) (ms : List ConfigRun) → AreKept ms → list_all (is_shared (λ k. nat_le k n)) (attempts_in b ms) ≡ true
  attempts_shared true ms all = shared_of nat_cmp (λ k. nat_le k n) (map (λ m. ((result m.run).attempts, m.config)) ms) [] (attempts_within ms all) refl
  attempts_shared false ms all = refl

  pub report_spelled : (configs : List Config) (version : ℕ) → IsSpelledReport n (lock_report p configs n version)
  report_spelled configs version =
      let first : IsKeptLockstep (begun p configs) = record { pieces = refl; members = begun_kept configs } in
      let k : IsKeptLockstep (lockstep p configs n) = rounds_kept (length configs * n) (begun p configs) first in
      let ms = (lockstep p configs n).members in
      record {
        pieces = k.pieces;
        ends = shared_of compare_ends is_spelled (map (λ m. ((result m.run).end, m.config)) ms) [] (ends_spelled ms k.members) refl;
        attempts = attempts_shared (version == 2) ms k.members;
      }
