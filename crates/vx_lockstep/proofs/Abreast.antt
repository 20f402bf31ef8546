-- Runs that are abreast with lockstep: after so many rounds the definition stands at these pieces and these runs.
use Rattle.std.proofs.Common.{◌≡◌, ℕ, zero, suc, ◌*◌, ◌<◌, ◌≤◌, List, [], ◌∷◌, ◌++◌, refl, ap, ◌∙◌, arith, length, map}
use Rattle.std.specs.Prelude.{Contains, None, Option, Some, option_map}
use Rattle.vx_findings.specs.declared.piece.Piece.{Piece as FoundPiece}
use Rattle.vx_java.proofs.Members.{added, total}
use Rattle.vx_java.proofs.Rounds.{total_falls}
use Rattle.vx_java.specs.Lockstep.{ConfigRun, Lockstep, Piece, Shared, all_pieces_appended, compare_pieces, first_key, groups_of, if_first, lockstep, member_after_round, round, rounds_from, run_after_round}
use Rattle.vx_java.specs.Step.{Config, Run, start}
use Rattle.vx_link.specs.declared.program.Program.{Program}
use Rattle.vx_standing.proofs.Configurations.{Contains-here, Contains-next}
use Rattle.vx_standing.specs.Rounds.{pieces_in}
use Rattle.vx_value.specs.declared.key.KeyPart.{KeyPart}
use Rattle.vx_lockstep.proofs.FirstKeys.{member}
use Rattle.vx_lockstep.proofs.Grouped.{pair_with, pairs_of}
use Rattle.vx_java.proofs.Projecting.{left_le}

-- ---- members

abbrev pub members_of : (Config → Run) → List Config → List ConfigRun
members_of runs list = map (member runs) list

members_stepped : (p : Program) (n : ℕ) (key : List KeyPart) (runs later : Config → Run) (list : List Config) → ((c : Config) → Contains list c → run_after_round p n key (runs c) ≡ later c) → map (member_after_round p n key) (members_of runs list) ≡ members_of later list
members_stepped p n key runs later [] h = refl
members_stepped p n key runs later (c ∷ cs) h =
    ap (λ r. record { config = c; run = r } ∷ map (member_after_round p n key) (members_of runs cs)) (h c (Contains-here c cs))
    ∙ ap (λ ms. member later c ∷ ms) (members_stepped p n key runs later cs (λ d in_list. h d (Contains-next c cs d in_list)))

-- values of runs
pub values_of_members : {A : Type 0} (f : Run → A) (runs : Config → Run) (list : List Config) → map (λ m. (f m.run, m.config)) (members_of runs list) ≡ pairs_of (λ c. Some (f (runs c))) list
values_of_members f runs [] = refl
values_of_members f runs (c ∷ cs) = ap (λ rest. (f (runs c), c) ∷ rest) (values_of_members f runs cs)

-- a text as a piece of a report
abbrev pub piece_seen : FoundPiece → Piece
piece_seen piece = (piece.stream, piece.text)

-- what the runs of a list wrote in a round
pub appended : (runs later : Config → Run) (value : Config → Option FoundPiece) (list : List Config) → ((c : Config) → Contains list c → added (runs c) (later c) ≡ pieces_in (value c)) → all_pieces_appended (members_of runs list) (members_of later list) ≡ pairs_of (λ c. option_map piece_seen (value c)) list
appended runs later value [] h = refl
appended runs later value (c ∷ cs) h =
    ap (λ pieces. map (λ piece. (piece, c)) pieces ++ all_pieces_appended (members_of runs cs) (members_of later cs)) (h c (Contains-here c cs))
    ∙ ap (λ rest. map (λ piece. (piece, c)) (pieces_in (value c)) ++ rest) (appended runs later value cs (λ d in_list. h d (Contains-next c cs d in_list)))
    ∙ by (value c)
  where
    by : (o : Option FoundPiece) → map (λ piece. (piece, c)) (pieces_in o) ++ pairs_of (λ d. option_map piece_seen (value d)) cs ≡ pair_with c (option_map piece_seen o) (pairs_of (λ d. option_map piece_seen (value d)) cs)
    by None = refl
    by (Some piece) = refl

-- ---- rounds

abbrev pub lockstep_at : ℕ → List (Shared Piece) → (Config → Run) → List Config → Lockstep
lockstep_at rounds pieces runs list = record { rounds = rounds; pieces = pieces; members = members_of runs list }

pub record IsAbreast (p : Program) (n : ℕ) (list : List Config) (rounds : ℕ) (pieces : List (Shared Piece)) (runs : Config → Run) : Type 0 where
  pub bound : ℕ
  pub enough : total n (members_of runs list) ≤ bound
  pub same : lockstep p list n ≡ rounds_from p n bound (lockstep_at rounds pieces runs list)

start_total : (p : Program) (n : ℕ) (list : List Config) → total n (members_of (start p) list) ≤ length list * n
start_total p n [] = omega arith
start_total p n (c ∷ cs) = omega (arith, left_le n (start p c), start_total p n cs)

pub start_abreast : (p : Program) (n : ℕ) (list : List Config) → IsAbreast p n list 0 [] (start p)
start_abreast p n list = record { bound = length list * n; enough = start_total p n list; same = refl }

-- one round more
pub next_abreast : (p : Program) (n : ℕ) (list : List Config) (rounds : ℕ) (pieces : List (Shared Piece)) (runs later : Config → Run) (key : List KeyPart) → IsAbreast p n list rounds pieces runs → first_key n (members_of runs list) ≡ Some key → ((c : Config) → Contains list c → run_after_round p n key (runs c) ≡ later c) → IsAbreast p n list (suc rounds) (pieces ++ groups_of compare_pieces (all_pieces_appended (members_of runs list) (members_of later list)) []) later
next_abreast p n list rounds pieces runs later key h first moves = by h.bound h.enough h.same
  where
    after : map (member_after_round p n key) (members_of runs list) ≡ members_of later list
    after = members_stepped p n key runs later list moves

    falls : total n (members_of later list) < total n (members_of runs list)
    falls = rw (← after) (total_falls p n key (members_of runs list) first)

    next : Lockstep
    next = lockstep_at (suc rounds) (pieces ++ groups_of compare_pieces (all_pieces_appended (members_of runs list) (members_of later list)) []) later list

    by : (k : ℕ) → total n (members_of runs list) ≤ k → lockstep p list n ≡ rounds_from p n k (lockstep_at rounds pieces runs list) → IsAbreast p n list (suc rounds) (pieces ++ groups_of compare_pieces (all_pieces_appended (members_of runs list) (members_of later list)) []) later
    by zero enough same = absurd (omega (arith, falls))
    by (suc k) enough same =
        record {
          bound = k;
          enough = omega (arith, falls);
          same = same
              ∙ ap (λ o. if_first o (lockstep_at rounds pieces runs list) (λ key. rounds_from p n k (round p n key (lockstep_at rounds pieces runs list)))) first
              ∙ ap (λ ms. rounds_from p n k (record { rounds = suc rounds; pieces = pieces ++ groups_of compare_pieces (all_pieces_appended (members_of runs list) ms) []; members = ms })) after;
        }

-- where no run goes on the definition has come to its end
pub last_abreast : (p : Program) (n : ℕ) (list : List Config) (rounds : ℕ) (pieces : List (Shared Piece)) (runs : Config → Run) → IsAbreast p n list rounds pieces runs → first_key n (members_of runs list) ≡ None → lockstep p list n ≡ lockstep_at rounds pieces runs list
last_abreast p n list rounds pieces runs h none = h.same ∙ by h.bound
  where
    by : (k : ℕ) → rounds_from p n k (lockstep_at rounds pieces runs list) ≡ lockstep_at rounds pieces runs list
    by zero = refl
    by (suc k) = ap (λ o. if_first o (lockstep_at rounds pieces runs list) (λ key. rounds_from p n k (round p n key (lockstep_at rounds pieces runs list)))) none
