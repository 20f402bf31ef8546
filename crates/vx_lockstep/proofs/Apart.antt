-- Texts are found at allowed configurations alone.
use Rattle.std.proofs.Common.{◌≡◌, Bool, true, false, cond, List, [], ◌∷◌, ◌++◌, Option, Some, None, refl, ap, ◌∙◌}
use Rattle.std.specs.Prelude.{not, ◌&&◌}
use Rattle.std.specs.List.{list_all}
use Rattle.vx_cond.specs.Leaves.{value_at}
use Rattle.vx_lockstep.proofs.Standings.{standing_nowhere}
use Rattle.vx_findings.specs.declared.piece.Piece.{Piece}
use Rattle.vx_findings.specs.declared.shared.Shared.{Shared}
use Rattle.vx_findings.specs.Shared.{leaves_of}
use Rattle.vx_group.specs.Group.{GroupView, path_of}
use Rattle.vx_java.specs.Lockstep.{piece_of}
use Rattle.vx_java.specs.Step.{Config}
use Rattle.vx_link.specs.declared.program.Program.{Program}
use Rattle.vx_standing.specs.Rounds.{IsRound, pieces_in, written}
use Rattle.vx_standing.specs.State.{IsNowhere, StateView, shared_ids}
use Rattle.vx_space.specs.Sets.{AreKept, Sets}

-- no set of the values holds a configuration
abbrev pub HoldNot : {V S I : Type 0} → Sets I → List (Shared V S I) → Config → Type 0
HoldNot sets list c = list_all (λ id. not (sets.test id c)) (shared_ids list) ≡ true

-- where a configuration has no value, no set holds it
pub none_holds : {V S I : Type 0} (sets : Sets I) (list : List (Shared V S I)) (c : Config) → value_at sets (leaves_of list) c ≡ None → HoldNot sets list c
none_holds sets [] c h = refl
none_holds sets (x ∷ list) c h = by (sets.test x.condition c) h (none_holds sets list c)
  where
    by : (b : Bool) → cond b (Some x.value) (value_at sets (leaves_of list) c) ≡ None → (value_at sets (leaves_of list) c ≡ None → HoldNot sets list c) → (not b && list_all (λ id. not (sets.test id c)) (shared_ids list)) ≡ true
    by true k rest = cc
    by false k rest = rest k

-- behind others that don't either
hold_not_behind : {V S I : Type 0} (sets : Sets I) (xs ys : List (Shared V S I)) (c : Config) → HoldNot sets xs c → HoldNot sets ys c → HoldNot sets (xs ++ ys) c
hold_not_behind sets [] ys c h k = k
hold_not_behind sets (x ∷ xs) ys c h k = by (sets.test x.condition c) h (λ rest. hold_not_behind sets xs ys c rest k)
  where
    by : (b : Bool) → (not b && list_all (λ id. not (sets.test id c)) (shared_ids xs)) ≡ true → (HoldNot sets xs c → HoldNot sets (xs ++ ys) c) → (not b && list_all (λ id. not (sets.test id c)) (shared_ids (xs ++ ys))) ≡ true
    by true e rest = cc
    by false e rest = rest e

-- over a space in which they keep their sets
hold_not_kept : {V S I : Type 0} (old new : Sets I) (list : List (Shared V S I)) (c : Config) → AreKept old new (shared_ids list) → HoldNot old list c → HoldNot new list c
hold_not_kept old new [] c k h = refl
hold_not_kept old new (x ∷ list) c k h = by (old.test x.condition c) (new.test x.condition c) (k.0.test c) h (hold_not_kept old new list c k.1)
  where
    by : (a b : Bool) → b ≡ a → (not a && list_all (λ id. not (old.test id c)) (shared_ids list)) ≡ true → (HoldNot old list c → HoldNot new list c) → (not b && list_all (λ id. not (new.test id c)) (shared_ids list)) ≡ true
    by true b e g rest = cc
    by false true e g rest = cc
    by false false e g rest = rest g

nothing_written : (o : Option Piece) → pieces_in o ≡ [] → o ≡ None
nothing_written None h = refl
nothing_written (Some piece) h = cc

-- a round finds no text at a configuration where nothing stands
pub round_apart : {S I : Type 0} (p : Program) (old new : Sets I) (allowed : I) (before after : StateView S I) (group : GroupView S I) (c : Config) → IsRound p old new allowed before after group → IsNowhere old before c → HoldNot old before.found c → HoldNot new after.found c
round_apart p old new allowed before after group c r nowhere h =
    let none = standing_nowhere old before c nowhere in
    let wrote = r.wrote c ∙ ap (λ s. piece_of (written p (old.test (path_of group) c) s)) none ∙ silent (old.test (path_of group) c) in
    let texts = none_holds new r.texts c (nothing_written (value_at new (leaves_of r.texts) c) wrote) in
    rw r.found (hold_not_behind new before.found r.texts c (hold_not_kept old new before.found c r.earlier h) texts)
  where
    silent : (b : Bool) → piece_of (written p b None) ≡ []
    silent true = refl
    silent false = refl
