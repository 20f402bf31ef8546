-- Lockstep: the runs of all configurations side by side. A round gives one attempt to each run that stands at the first key (own).
use Rattle.std.specs.Cmp.Lexicographic.{slice_cmp}
use Rattle.std.specs.Ordering.{nat_cmp, ordering_then}
use Rattle.std.specs.Prelude.{List, None, Option, Some, [], cond, drop, length, map, nat_lt, option_map, reverse, suc, zero, ℕ, ◌*◌, ◌++◌, ◌∷◌}
use Rattle.std.specs.declared.cmp.Ordering.{Ordering}
use Rattle.std.specs.declared.cmp.Ordering.TheVariants.{Equal, Greater, Less}
use Rattle.vx_java.specs.Machine.{Frame, State}
use Rattle.vx_java.specs.Step.{Config, Live, Over, Progress, Run, start, step}
use Rattle.vx_link.specs.declared.program.Program.{Program}
use Rattle.vx_value.specs.Key.{key_cmp}
use Rattle.vx_value.specs.declared.end.Stream.{Stream}
use Rattle.vx_value.specs.declared.end.Stream.TheVariants.{Err, Out}
use Rattle.vx_value.specs.declared.key.KeyPart.{KeyPart}

-- ---- keys

abbrev pub part_of : Frame → KeyPart
part_of f = record { method = record { 0 = f.method }; position = f.position; depth = length f.operands; kind = f.kind }

-- the key of a state: where its frames stand, from bottom to top
abbrev pub key_of : State → List KeyPart
key_of s = reverse (map part_of (s.top ∷ s.callers))

-- ---- groups of configurations

-- configurations that share something, in the order of the allowed ones
pub record Shared (A : Type 0) : Type 0 where
  pub value : A
  pub configs : List Config

-- one more configuration, in an ascending list of distinct values
abbrev pub groups_with : {A : Type 0} → (A → A → Ordering) → A → Config → List (Shared A) → List (Shared A)
groups_with order a c [] = record { value = a; configs = c ∷ [] } ∷ []
groups_with order a c (g ∷ gs) =
    elim (order a g.value) [
      | Less ↦ record { value = a; configs = c ∷ [] } ∷ g ∷ gs
      | Equal ↦ record { value = g.value; configs = g.configs ++ c ∷ [] } ∷ gs
      | Greater ↦ g ∷ groups_with order a c gs
    ]

-- the distinct values of some configurations, ascending
abbrev pub groups_of : {A : Type 0} → (A → A → Ordering) → List (A × Config) → List (Shared A) → List (Shared A)
groups_of order [] gs = gs
groups_of order ((a, c) ∷ rest) gs = groups_of order rest (groups_with order a c gs)

-- ---- rounds

-- one configuration with its run
pub record ConfigRun : Type 0 where
  pub config : Config
  pub run : Run

-- a run that may make one more attempt
abbrev pub live_progress : ℕ → Run → Option Progress
live_progress n (Over e g) = None
live_progress n (Live g) = cond (nat_lt g.attempts n) (Some g) None

-- the first of a key and another, if there is one
abbrev pub of_keys : (a b : List KeyPart) → Ordering → List KeyPart
of_keys a b Less = b
of_keys a b Equal = a
of_keys a b Greater = a

abbrev pub lesser_key : Option (List KeyPart) → Option (List KeyPart) → Option (List KeyPart)
lesser_key None b = b
lesser_key (Some a) None = Some a
lesser_key (Some a) (Some b) = Some (of_keys a b (key_cmp b a))

abbrev pub key_at : Progress → List KeyPart
key_at g = key_of g.state

abbrev pub first_key : ℕ → List ConfigRun → Option (List KeyPart)
first_key n [] = None
first_key n (m ∷ ms) = lesser_key (option_map key_at (live_progress n m.run)) (first_key n ms)

-- a live run whose state has this key makes a step
abbrev pub if_key : Program → Run → Progress → Ordering → Run
if_key p r g Equal = step p g
if_key p r g Less = r
if_key p r g Greater = r

abbrev pub if_live : Program → List KeyPart → Run → Option Progress → Run
if_live p key r None = r
if_live p key r (Some g) = if_key p r g (key_cmp (key_at g) key)

abbrev pub run_after_round : Program → ℕ → List KeyPart → Run → Run
run_after_round p n key r = if_live p key r (live_progress n r)

abbrev pub member_after_round : Program → ℕ → List KeyPart → ConfigRun → ConfigRun
member_after_round p n key m = record { config = m.config; run = run_after_round p n key m.run }

abbrev pub output_of : Run → List (Stream × ℕ)
output_of (Live g) = g.output
output_of (Over e g) = g.output

-- a text with its stream
abbrev pub Piece : Type 0
Piece = Stream × List ℕ

-- what a step appended, if anything, with its stream
abbrev pub piece_of : List (Stream × ℕ) → List Piece
piece_of [] = []
piece_of ((stream, b) ∷ rest) = (stream, b ∷ map (λ t. t.1) rest) ∷ []

abbrev pub pieces_appended : ConfigRun → ConfigRun → List (Piece × Config)
pieces_appended before after = map (λ piece. (piece, after.config)) (piece_of (drop (length (output_of before.run)) (output_of after.run)))

abbrev pub stream_rank : Stream → ℕ
stream_rank Out = 0
stream_rank Err = 1

-- out before err, then ascending texts
abbrev pub compare_pieces : Piece → Piece → Ordering
compare_pieces a b = ordering_then (nat_cmp (stream_rank a.0) (stream_rank b.0)) (slice_cmp nat_cmp a.1 b.1)

abbrev pub all_pieces_appended : List ConfigRun → List ConfigRun → List (Piece × Config)
all_pieces_appended (m ∷ ms) (n ∷ ns) = pieces_appended m n ++ all_pieces_appended ms ns
all_pieces_appended _ _ = []

-- the rounds so far, the pieces in their order, and the runs
pub record Lockstep : Type 0 where
  pub rounds : ℕ
  pub pieces : List (Shared Piece)
  pub members : List ConfigRun

-- one round with a key: a piece per distinct text
abbrev pub round : Program → ℕ → List KeyPart → Lockstep → Lockstep
round p n key l =
    let after = map (member_after_round p n key) l.members in
    record { rounds = suc l.rounds; pieces = l.pieces ++ groups_of compare_pieces (all_pieces_appended l.members after) []; members = after }

-- a round with the first key, if there is one
abbrev pub if_first : Option (List KeyPart) → Lockstep → (List KeyPart → Lockstep) → Lockstep
if_first None l rest = l
if_first (Some key) l rest = rest key

-- at most so many rounds, until no run is live
abbrev pub rounds_from : Program → ℕ → ℕ → Lockstep → Lockstep
rounds_from p n zero l = l
rounds_from p n (suc k) l = if_first (first_key n l.members) l (λ key. rounds_from p n k (round p n key l))

-- before the first round
abbrev pub member_at_start : Program → Config → ConfigRun
member_at_start p c = record { config = c; run = start p c }

abbrev pub begun : Program → List Config → Lockstep
begun p allowed = record { rounds = 0; pieces = []; members = map (member_at_start p) allowed }

-- from the start of each allowed configuration, with a limit of n attempts each
abbrev pub lockstep : Program → List Config → ℕ → Lockstep
lockstep p allowed n =
    rounds_from p n (length allowed * n) (begun p allowed)
