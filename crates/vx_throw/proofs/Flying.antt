-- What the loop of a throw keeps of the frames and of the outcomes, beside what comes of the objects.
use Rattle.std.proofs.Common.{◌≡◌, ℕ, ◌+◌, ◌<◌, suc, Bool, true, List, [], ◌++◌, refl, ◌∙◌, ap, arith, length}
use Rattle.std.proofs.lemmas.List.Folds.{list_all-append}
use Rattle.std.specs.Prelude.{Option, ◌&&◌, is_none}
use Rattle.std.specs.List.{list_all}
use Rattle.vx_space.specs.Sets.{Sets, Extends, IsLawful}
use Rattle.vx_frame.specs.Frame.{Shape}
use Rattle.vx_frames.specs.Giving.{AttemptsAt}
use Rattle.vx_group.specs.declared.callers.Caller.{Caller}
use Rattle.vx_group.specs.Group.{GroupView, IsPartOf, depth_of, path_of}
use Rattle.vx_heap.specs.Heap.{HeapView}
use Rattle.vx_java.specs.Machine.{State}
use Rattle.vx_java.specs.Machine.{Outcome as PlainOutcome}
use Rattle.vx_link.specs.declared.program.Program.{Program}
use Rattle.vx_outcome.specs.declared.outcome.Outcome.{Outcome}
use Rattle.vx_standing.specs.Attempted.{is_placed}
use Rattle.vx_value.specs.declared.key.KeyPart.{KeyPart}
use Rattle.vx_throw.proofs.Falling.{IsFalling, IsFalling-done, IsFalling-ended, IsFalling-handled, IsFalling-passed, IsFalling-start, none_takes, said_at}
use Rattle.vx_throw.specs.Flights.{IsFlight, IsHandled, IsPassed, NoneTakes, handler_in, thrown_from, thrown_here}
use Rattle.vx_throw.specs.declared.handling.Flight.{Flight}

-- over a heap that grows and one tree, where this is to come of throwing, in the frame of this number from the top
pub record IsFlying {S I : Type 0} (p : Program) (start sets : Sets I) (first heap : HeapView S I) (tree : List (Option (Caller S I))) (group : GroupView S I) (what : List Bool → PlainOutcome) (frame : ℕ) (flight : Flight S I) (outcomes : List (Outcome S I)) : Type 0 where
  pub falling : IsFalling p start sets first heap tree group what flight outcomes
  pub placed : list_all is_placed outcomes ≡ true
  pub depth : depth_of flight.group + frame ≡ depth_of group + 1

pub IsFlying-start : {S I : Type 0} (p : Program) (sets : Sets I) (heap : HeapView S I) (tree : List (Option (Caller S I))) (flight : Flight S I) → IsFlight p sets heap tree flight → IsFlying p sets sets heap heap tree flight.group (thrown_here p sets heap tree flight) 1 flight []
IsFlying-start p sets heap tree flight f = record { falling = IsFalling-start p sets heap tree flight f; placed = refl; depth = refl }

-- the frame on top took what it takes
pub record IsLeft {S I : Type 0} (p : Program) (start sets : Sets I) (first heap : HeapView S I) (tree : List (Option (Caller S I))) (group : GroupView S I) (what : List Bool → PlainOutcome) (frame : ℕ) (left : Flight S I) (outcomes : List (Outcome S I)) : Type 0 where
  pub flying : IsFlying p start sets first heap tree group what frame left outcomes
  pub none : NoneTakes p sets heap tree left

pub both_placed : {S I : Type 0} (xs ys : List (Outcome S I)) → list_all is_placed xs ≡ true → list_all is_placed ys ≡ true → list_all is_placed (xs ++ ys) ≡ true
both_placed xs ys h k = list_all-append is_placed xs ys ∙ (λ i. h i && k i)

part_depth : {S I : Type 0} (s0 s1 : Sets I) (set : List Bool → Bool) (group part : GroupView S I) → IsPartOf s0 s1 set group part → depth_of part ≡ depth_of group
unfolding IsPartOf
part_depth s0 s1 set group part q = ap (λ (below : List KeyPart). suc (length below)) q.below

part_kind : {S I : Type 0} (s0 s1 : Sets I) (set : List Bool → Bool) (group part : GroupView S I) → IsPartOf s0 s1 set group part → part.top.kind ≡ group.top.kind
unfolding IsPartOf
part_kind s0 s1 set group part q = ap (λ (s : Shape). s.part.kind) q.shape

pub IsLeft-handled : {S I : Type 0} (p : Program) {s0 s1 s2 : Sets I} (first heap : HeapView S I) (tree : List (Option (Caller S I))) (group : GroupView S I) (what : List Bool → PlainOutcome) (frame : ℕ) (flight left : Flight S I) (outcomes landed : List (Outcome S I)) → IsFlying p s0 s1 first heap tree group what frame flight outcomes → Extends s1 s2 → IsHandled p s1 s2 heap flight left landed → IsLeft p s0 s2 first heap tree group what frame left (outcomes ++ landed)
IsLeft-handled p {s1 = s1} {s2 = s2} first heap tree group what frame flight left outcomes landed f e d =
    let set : List Bool → Bool = λ c. s1.test (path_of flight.group) c && is_none (handler_in p s1 heap flight c) in
    record {
      flying = record {
        falling = IsFalling-handled p first heap tree group what flight left outcomes landed f.falling e d;
        placed = both_placed outcomes landed f.placed d.placed;
        depth = ap (λ n. n + frame) (part_depth s1 s2 set flight.group left.group d.left) ∙ f.depth;
      };
      none = none_takes p heap tree flight left landed f.falling.is_flight e d (part_kind s1 s2 set flight.group left.group d.left);
    }

-- what is left passes the frame
pub IsFlying-passed : {S I : Type 0} (p : Program) {s0 s1 s2 : Sets I} (first heap after : HeapView S I) (tree : List (Option (Caller S I))) (group : GroupView S I) (what : List Bool → PlainOutcome) (frame : ℕ) (left next : Flight S I) (outcomes : List (Outcome S I)) → IsLeft p s0 s1 first heap tree group what frame left outcomes → Extends s1 s2 → IsPassed p s1 s2 heap after tree left next → IsFlying p s0 s2 first after tree group what (frame + 1) next outcomes
IsFlying-passed p first heap after tree group what frame left next outcomes f e q = record {
  falling = IsFalling-passed p first heap after tree group what left next outcomes f.flying.falling f.none e q;
  placed = f.flying.placed;
  depth = omega (arith, f.flying.depth, q.depth);
}

-- under a frame that isn't the last there is another
pub IsLeft-called : {S I : Type 0} (p : Program) (s0 s1 : Sets I) (first heap : HeapView S I) (tree : List (Option (Caller S I))) (group : GroupView S I) (what : List Bool → PlainOutcome) (frame : ℕ) (left : Flight S I) (outcomes : List (Outcome S I)) → IsLeft p s0 s1 first heap tree group what frame left outcomes → frame < depth_of group → 1 < depth_of left.group
IsLeft-called p s0 s1 first heap tree group what frame left outcomes f l = omega (arith, f.flying.depth, l)

module _ {S I : Type 0} (p : Program) (says : List Bool → State → PlainOutcome) {s0 s1 : Sets I} (first heap : HeapView S I) (tree : List (Option (Caller S I))) (group : GroupView S I) (frame : ℕ) (left : Flight S I) (outcomes : List (Outcome S I)) (f : IsLeft p s0 s1 first heap tree group (said_at says s0 first tree group) frame left outcomes) where
  -- nothing is left
  pub IsLeft-done : IsLawful s1 → path_of left.group ≡ s1.never → AttemptsAt p says s0 s1 first heap tree tree group outcomes
  IsLeft-done lawful e = IsFalling-done p says first heap tree group left outcomes f.flying.falling (λ c. ap (λ i. s1.test i c) e ∙ lawful.never_test c)

  -- it ends in the last frame
  pub IsLeft-ended : {s2 : Sets I} (after : HeapView S I) (ended : List (Outcome S I)) → frame ≡ depth_of group → Extends s1 s2 → ((t : List (Option (Caller S I))) → IsFlight p s1 heap t left → NoneTakes p s1 heap t left → depth_of left.group ≡ 1 → AttemptsAt p (thrown_from p s1 left.objects heap) s1 s2 heap after t t left.group ended) → AttemptsAt p says s0 s2 first after tree tree group (outcomes ++ ended)
  IsLeft-ended after ended last e a = IsFalling-ended p says first heap tree group left outcomes after ended f.flying.falling e (a tree f.flying.falling.is_flight f.none (omega (arith, f.flying.depth, last)))
