-- The run of one configuration through the rounds: in a round of its group it makes an attempt, if it may, and in others it stays.
use Rattle.std.proofs.Common.{◌≡◌, ℕ, zero, suc, ◌+◌, ◌-◌, Bool, true, false, List, refl, sym, ap, ◌∙◌, arith, length}
use Rattle.std.specs.Prelude.{None, Option, Some, nat_lt}
use Rattle.vx_java.proofs.Members.{Moves, attempts_of, rest_stays, steps_on}
use Rattle.vx_java.specs.Initialisation.{chain_blocked, init_chain, quiet_chain}
use Rattle.vx_java.specs.Lockstep.{live_progress}
use Rattle.vx_java.specs.Machine.{State, current_class, depth, frame_bound}
use Rattle.vx_java.specs.Step.{Config, Live, Over, Progress, Run, before_main, begun, if_quiet, result, run, start, step, steps, with_room}
use Rattle.vx_link.specs.declared.program.Program.{Program}
use Rattle.vx_space.specs.Sets.{Sets}
use Rattle.vx_java.proofs.Projecting.{over_is_run}
use Rattle.vx_java.proofs.Rounds.{IsLive, live_is}

-- ---- a run that may make an attempt

-- ---- a round

abbrev pub moved_if : Program → Run → Option Progress → Run
moved_if p r None = r
moved_if p r (Some g) = step p g

-- the run after a round of its group, or of another
abbrev pub moved : Program → ℕ → Bool → Run → Run
moved p n true r = moved_if p r (live_progress n r)
moved p n false r = r

-- the runs after a round of a group with this path
abbrev pub moved_runs : {I : Type 0} → Program → ℕ → Sets I → I → (Config → Run) → Config → Run
moved_runs p n sets path runs c = moved p n (sets.test path c) (runs c)

-- the run of a configuration after some attempts
pub record IsReached (p : Program) (n : ℕ) (c : Config) (r : Run) : Type 0 where
  pub made : ℕ
  pub comes : steps p made (start p c) ≡ r
  pub rest : steps p (n - attempts_of r) r ≡ steps p n (start p c)

-- one attempt more
steps_more : (p : Program) (k : ℕ) (r : Run) (g : Progress) → steps p k r ≡ Live g → steps p (suc k) r ≡ step p g
steps_more p zero r g e = rw e refl
steps_more p (suc k) (Over e f) g h = cc
steps_more p (suc k) (Live f) g h = steps_more p k (step p f) g h

pub moved_reached : (p : Program) (n : ℕ) (c : Config) (b : Bool) (r : Run) → IsReached p n c r → IsReached p n c (moved p n b r)
moved_reached p n c false r h = h
moved_reached p n c true r h = by (live_progress n r) refl
  where
    on : (g : Progress) → IsLive n r g → IsReached p n c (step p g)
    on g live =
        let below = live.below in
        let moves : Moves p n (Live g) (step p g) = steps_on below in
        record {
          made = suc h.made;
          comes = steps_more p h.made (start p c) g (h.comes ∙ live.run);
          rest = sym (rest_stays p n moves) ∙ ap (λ s. steps p (n - attempts_of s) s) (sym live.run) ∙ h.rest;
        }

    by : (o : Option Progress) → live_progress n r ≡ o → IsReached p n c (moved_if p r o)
    by None e = h
    by (Some g) e = on g (live_is n r g e)

-- a run that may make no more attempts is the whole run
pub whole_run : (p : Program) (n : ℕ) (c : Config) (r : Run) → IsReached p n c r → live_progress n r ≡ None → result r ≡ run p c n
whole_run p n c r h over = ap result (sym (over_is_run p n r over) ∙ h.rest)

-- ---- the start

unused_room : (p : Program) (s : State) (chain : List ℕ) (b : Bool) → attempts_of (with_room p s chain b) ≡ 0
unused_room p s chain true = refl
unused_room p s chain false = refl

unused_quiet : (p : Program) (s : State) (chain : List ℕ) (b : Bool) → attempts_of (if_quiet p s chain b) ≡ 0
unused_quiet p s chain true = refl
unused_quiet p s chain false = unused_room p s chain (nat_lt frame_bound (depth s + length chain))

unused_begun : (p : Program) (s : State) (c : ℕ) (chain : List ℕ) (o : Option ℕ) → attempts_of (begun p s c chain o) ≡ 0
unused_begun p s c chain (Some i) = refl
unused_begun p s c chain None = unused_quiet p s chain (quiet_chain p s.inits c)

start_unused : (p : Program) (c : Config) → attempts_of (start p c) ≡ 0
start_unused p c =
    let s = before_main p c in
    let main_class = current_class p s in
    let chain = init_chain p s.inits main_class in
    unused_begun p s main_class chain (chain_blocked p chain)

pub start_reached : (p : Program) (n : ℕ) (c : Config) → IsReached p n c (start p c)
start_reached p n c =
    let all : n - 0 ≡ n = omega arith in
    record { made = 0; comes = refl; rest = ap (λ k. steps p (n - k) (start p c)) (start_unused p c) ∙ ap (λ k. steps p k (start p c)) all }
