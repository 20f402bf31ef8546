-- A round: the runs of one group make an attempt, and all others stay (own).
use Rattle.std.specs.Prelude.{◌≡◌, ℕ, ◌++◌, suc, Bool, true, List, [], ◌∷◌, drop, length, Option, Some, None, slice_get}
use Rattle.vx_space.specs.Sets.{Sets, AreKept}
use Rattle.vx_cond.specs.Leaves.{AreLeaves, value_at}
use Rattle.vx_group.specs.Group.{GroupView, path_of}
use Rattle.vx_findings.specs.declared.piece.Piece.{Piece}
use Rattle.vx_findings.specs.declared.shared.Shared.{Shared}
use Rattle.vx_findings.specs.Orders.{piece_cmp}
use Rattle.vx_findings.specs.Shared.{leaves_of}
use Rattle.vx_java.specs.Lockstep.{output_of, piece_of}
use Rattle.vx_java.specs.Lockstep as lockstep
use Rattle.vx_java.specs.Step.{start, step}
use Rattle.vx_link.specs.declared.program.Program.{Program}
use Rattle.vx_value.specs.declared.end.Stream.{Stream}
use Rattle.vx_standing.specs.State.{IsState, IsTreeKnown, Standing, StateView, Runs, shared_ids, standing_at, standing_of}

-- what stands after a round, where the group that made the attempt holds the configuration, and where not
abbrev pub after_round : Program → (limit : ℕ) → (holds : Bool) → Option Standing → Option Standing
after_round p limit true (Some (Runs g)) = Some (standing_of limit (step p g))
after_round p limit _ standing = standing

-- what the attempt wrote
abbrev pub written : Program → (holds : Bool) → Option Standing → List (Stream × ℕ)
written p true (Some (Runs g)) = drop (length g.output) (output_of (step p g))
written p _ standing = []

-- a text of a round as a piece of a report
abbrev pub pieces_in : Option Piece → List lockstep.Piece
pieces_in None = []
pieces_in (Some piece) = (piece.stream, piece.text) ∷ []

-- the group of a place made a round: at each configuration of its path stands what its next step comes to, elsewhere what stood; each text of the round stands once, with the configurations that wrote it, behind those found before
pub record IsRound {S I : Type 0} (p : Program) (old new : Sets I) (allowed : I) (before after : StateView S I) (group : GroupView S I) : Type 0 where
  pub is_state : IsState p new allowed after
  pub kept : (c : List Bool) → new.test allowed c ≡ old.test allowed c
  pub options : new.options ≡ old.options
  pub limit : after.limit ≡ before.limit
  pub rounds : after.rounds ≡ suc before.rounds
  pub standing : (c : List Bool) → standing_at new after c ≡ after_round p before.limit (old.test (path_of group) c) (standing_at old before c)
  pub texts : List (Shared Piece S I)
  pub found : after.found ≡ before.found ++ texts
  pub earlier : AreKept old new (shared_ids before.found)
  pub are_texts : AreLeaves piece_cmp new (leaves_of texts)
  pub wrote : (c : List Bool) → pieces_in (value_at new (leaves_of texts) c) ≡ piece_of (written p (old.test (path_of group) c) (standing_at old before c))

-- a round with the group of a place
abbrev pub IsRoundAt : {S I : Type 0} → Program → (old new : Sets I) → (before after : StateView S I) → (place : ℕ) → Type 0
IsRoundAt {S = S} {I = I} p old new before after place = (group : GroupView S I) × (slice_get before.groups place ≡ Some group) × IsRound p old new before.heap.allowed before after group

-- the state with which the runs of these configurations begin
pub record IsStart {S I : Type 0} (p : Program) (sets : Sets I) (allowed : I) (limit : ℕ) (st : StateView S I) : Type 0 where
  pub is_state : IsState p sets allowed st
  pub tree : IsTreeKnown sets st
  pub limited : st.limit ≡ limit
  pub rounds : st.rounds ≡ 0
  pub found : st.found ≡ []
  pub standing : (c : List Bool) → sets.test allowed c ≡ true → standing_at sets st c ≡ Some (standing_of limit (start p c))
