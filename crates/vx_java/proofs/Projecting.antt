-- What the lockstep report says of a configuration is the run of that configuration.
use Rattle.std.proofs.Common.{◌≡◌, ℕ, zero, suc, ◌+◌, ◌-◌, ◌*◌, ◌<◌, ◌≤◌, Bool, true, false, cond, List, [], ◌∷◌, ◌++◌, Option, Some, None, refl, sym, ap, ◌∙◌, arith, length, append-nil, subst}
use Rattle.std.specs.Prelude.{map, flat_map, option_map, nat_lt, filter, ◌==◌}
use Rattle.std.specs.List.{list_any}
use Rattle.std.proofs.lemmas.Grind.{flat_map-append}
use Rattle.std.proofs.lemmas.Bool.{ltb-true, ltb-false}
use Rattle.vx_value.specs.declared.end.Stream.{Stream}
use Rattle.vx_value.specs.declared.end.Stream.TheVariants.{Out}
use Rattle.vx_value.specs.declared.key.KeyPart.{KeyPart}
use Rattle.vx_link.specs.declared.program.Program.{Program}
use Rattle.std.specs.Ordering.{nat_cmp}
use Rattle.vx_java.specs.Step.{Config, same_config, Progress, Run, Live, Over, result, start, step, steps, run, with_room, if_quiet, begun as begun_run, before_main}
use Rattle.vx_java.specs.Machine.{State, depth, frame_bound, current_class}
use Rattle.vx_java.specs.Initialisation.{quiet_chain, init_chain, chain_blocked}
use Rattle.vx_value.specs.Ends.{compare_ends}
use Rattle.vx_java.specs.Lockstep.{Shared, ConfigRun, Piece, Lockstep, groups_of, live_progress, key_at, member_after_round, run_after_round, first_key, lesser_key, output_of, piece_of, all_pieces_appended, compare_pieces, round, rounds_from, if_first, member_at_start, begun, lockstep}
use Rattle.vx_java.specs.Report.{values_held, bytes_of, first_of, attempts_in, attempts_shown, projection_of, report_of, lock_report, projection_at}
use Rattle.vx_java.proofs.Grouping.{values_at, grouped_other, grouped_own}
use Rattle.vx_end_order.proofs.EndOrder.{end_equal}
use Rattle.vx_java.proofs.Orders.{nat_equal, piece_equal}
use Rattle.vx_java.proofs.Members.{attempts_of, step_advances, runs_at, runs_at-stepped, added, appended_at, added_bytes, Moves, stays, steps_on, stepped_moves, rest_stays, left, total}
use Rattle.vx_java.proofs.Rounds.{total_falls}

-- ---- one round

held-append : {A : Type 0} (c : Config) (gs hs : List (Shared A)) → values_held c (gs ++ hs) ≡ values_held c gs ++ values_held c hs
held-append c [] hs = refl
held-append c (g ∷ gs) hs = by (list_any (same_config c) g.configs) (held-append c gs hs)
  where
    by : (b : Bool) → values_held c (gs ++ hs) ≡ values_held c gs ++ values_held c hs → cond b (g.value ∷ values_held c (gs ++ hs)) (values_held c (gs ++ hs)) ≡ cond b (g.value ∷ values_held c gs) (values_held c gs) ++ values_held c hs
    by true e = ap (λ v. g.value ∷ v) e
    by false e = e

piece_held : (c : Config) (xs : List (Piece × Config)) (text : List (Stream × ℕ)) → values_at c xs ≡ piece_of text → values_held c (groups_of compare_pieces xs []) ≡ piece_of text
piece_held c xs [] e = grouped_other compare_pieces piece_equal c xs [] e
piece_held c xs ((stream, b) ∷ text) e = grouped_own compare_pieces piece_equal c xs [] _ e refl

moved_output : (p : Program) (n : ℕ) {r s : Run} → Moves p n r s → output_of r ++ flat_map bytes_of (added r s) ≡ output_of s
moved_output p n (stays {r = r}) = added_bytes r r Out [] (sym (append-nil (output_of r)))
moved_output p n (steps_on {g = g} h) = let a = step_advances p g in added_bytes (Live g) (step p g) a.stream a.bytes a.output

-- a configuration with its run among the members
record At (p : Program) (n : ℕ) (c : Config) (l : Lockstep) (r : Run) : Type 0 where
  member : runs_at c l.members ≡ r ∷ []
  output : flat_map bytes_of (values_held c l.pieces) ≡ output_of r
  rest : steps p (n - attempts_of r) r ≡ steps p n (start p c)

round_keeps : (p : Program) (n : ℕ) (c : Config) (key : List KeyPart) (l : Lockstep) (r : Run) → At p n c l r → At p n c (round p n key l) (run_after_round p n key r)
round_keeps p n c key l r at =
    let moves = stepped_moves p n key r in
    let pieces = all_pieces_appended l.members (map (member_after_round p n key) l.members) in
    let mine : values_at c pieces ≡ added r (run_after_round p n key r) =
    appended_at p n key c l.members ∙ ap (flat_map (λ s. added s (run_after_round p n key s))) at.member ∙ append-nil _ in
    let new : values_held c (groups_of compare_pieces pieces []) ≡ added r (run_after_round p n key r) = piece_held c pieces _ mine in
    record {
      member = runs_at-stepped p n key c l.members ∙ ap (map (run_after_round p n key)) at.member;
      output =
          ap (flat_map bytes_of) (held-append c l.pieces (groups_of compare_pieces pieces []))
          ∙ flat_map-append bytes_of (values_held c l.pieces) (values_held c (groups_of compare_pieces pieces []))
          ∙ ap (λ x. x ++ flat_map bytes_of (values_held c (groups_of compare_pieces pieces []))) at.output
          ∙ ap (λ x. output_of r ++ flat_map bytes_of x) new
          ∙ moved_output p n moves;
      rest = sym (rest_stays p n moves) ∙ at.rest;
    }

-- ---- all rounds

-- the parts of a first key that is none
both_none : (a b : Option (List KeyPart)) → lesser_key a b ≡ None → (a ≡ None) × (b ≡ None)
both_none None b h = (refl, h)
both_none (Some a) None h = cc
both_none (Some a) (Some b) h = cc

key_none : (o : Option Progress) → option_map key_at o ≡ None → o ≡ None
key_none None h = refl
key_none (Some g) h = cc

-- where a fact holds of each member's run, it holds of a configuration's
of_member : (P : Run → Type 0) (c : Config) (m : ConfigRun) (ms : List ConfigRun) (r : Run) → runs_at c (m ∷ ms) ≡ r ∷ [] → P m.run → (runs_at c ms ≡ r ∷ [] → P r) → P r
of_member P c m ms r e here ih = by (same_config c m.config) refl
  where
    by : (b : Bool) → same_config c m.config ≡ b → P r
    by true s =
        let both : m.run ∷ runs_at c ms ≡ r ∷ [] = rw s at e in
        let same : m.run ≡ r = cc in
        subst P same here
    by false s = ih (rw s at e)

none_first : (n : ℕ) (c : Config) (ms : List ConfigRun) (r : Run) → first_key n ms ≡ None → runs_at c ms ≡ r ∷ [] → live_progress n r ≡ None
none_first n c [] r h e = cc
none_first n c (m ∷ ms) r h e =
    let none = both_none (option_map key_at (live_progress n m.run)) (first_key n ms) h in
    of_member (λ s. live_progress n s ≡ None) c m ms r e (key_none _ none.0) (none_first n c ms r none.1)

-- nothing left is not live
nothing_left : (n : ℕ) (r : Run) → left n r ≤ 0 → live_progress n r ≡ None
nothing_left n (Over e g) h = refl
nothing_left n (Live g) h = by (nat_lt g.attempts n) refl
  where
    by : (b : Bool) → nat_lt g.attempts n ≡ b → cond b (Some g) None ≡ None
    by true e = let below : g.attempts < n = ltb-true _ _ e in absurd (omega arith)
    by false e = refl

none_left : (n : ℕ) (c : Config) (ms : List ConfigRun) (r : Run) → total n ms ≤ 0 → runs_at c ms ≡ r ∷ [] → live_progress n r ≡ None
none_left n c [] r h e = cc
none_left n c (m ∷ ms) r h e =
    of_member (λ s. live_progress n s ≡ None) c m ms r e (nothing_left n m.run (omega arith)) (none_left n c ms r (omega arith))

record Finished (p : Program) (n : ℕ) (c : Config) (l : Lockstep) : Type 0 where
  run : Run
  at : At p n c l run
  over : live_progress n run ≡ None

finished : (p : Program) (n : ℕ) (c : Config) (k : ℕ) (l : Lockstep) (r : Run) → At p n c l r → total n l.members ≤ k → Finished p n c (rounds_from p n k l)
finished p n c zero l r at h = record { run = r; at = at; over = none_left n c l.members r h at.member }
finished p n c (suc k) l r at h = by (first_key n l.members) refl (λ key. finished p n c k (round p n key l) (run_after_round p n key r) (round_keeps p n c key l r at))
  where
    by : (o : Option (List KeyPart)) → first_key n l.members ≡ o → ((key : List KeyPart) → total n (round p n key l).members ≤ k → Finished p n c (rounds_from p n k (round p n key l))) → Finished p n c (if_first o l (λ key. rounds_from p n k (round p n key l)))
    by None e ih = record { run = r; at = at; over = none_first n c l.members r e at.member }
    by (Some key) e ih = let falls = total_falls p n key l.members e in ih key (omega arith)

-- a run that is not live has come to what the whole run comes to
pub over_is_run : (p : Program) (n : ℕ) (r : Run) → live_progress n r ≡ None → steps p (n - attempts_of r) r ≡ r
over_is_run p n (Over e g) h = by (n - g.attempts)
  where
    by : (k : ℕ) → steps p k (Over e g) ≡ Over e g
    by zero = refl
    by (suc k) = refl
over_is_run p n (Live g) h = by (nat_lt g.attempts n) refl
  where
    by : (b : Bool) → nat_lt g.attempts n ≡ b → steps p (n - g.attempts) (Live g) ≡ Live g
    by true e = let bad = rw e at h in cc
    by false e =
        let past : n ≤ g.attempts = ltb-false _ _ e in
        let none : n - g.attempts ≡ 0 = omega arith in
        rw none refl

-- ---- the start

record IsUnused (r : Run) : Type 0 where
  attempts : attempts_of r ≡ 0
  output : output_of r ≡ []

unused_room : (p : Program) (s : State) (chain : List ℕ) (b : Bool) → IsUnused (with_room p s chain b)
unused_room p s chain true = record { attempts = refl; output = refl }
unused_room p s chain false = record { attempts = refl; output = refl }

unused_quiet : (p : Program) (s : State) (chain : List ℕ) (b : Bool) → IsUnused (if_quiet p s chain b)
unused_quiet p s chain true = record { attempts = refl; output = refl }
unused_quiet p s chain false = unused_room p s chain (nat_lt frame_bound (depth s + length chain))

unused_begun : (p : Program) (s : State) (c : ℕ) (chain : List ℕ) (o : Option ℕ) → IsUnused (begun_run p s c chain o)
unused_begun p s c chain (Some i) = record { attempts = refl; output = refl }
unused_begun p s c chain None = unused_quiet p s chain (quiet_chain p s.inits c)

start_unused : (p : Program) (c : Config) → IsUnused (start p c)
start_unused p c =
    let s = before_main p c in
    let main_class = current_class p s in
    let chain = init_chain p s.inits main_class in
    unused_begun p s main_class chain (chain_blocked p chain)

pub left_le : (n : ℕ) (r : Run) → left n r ≤ n
left_le n (Live g) = omega arith
left_le n (Over e g) = omega arith

start_total : (p : Program) (n : ℕ) (allowed : List Config) → total n (map (member_at_start p) allowed) ≤ length allowed * n
start_total p n [] = omega arith
start_total p n (c ∷ cs) = omega (arith, left_le n (start p c), start_total p n cs)

runs_of : (p : Program) (c : Config) (cs : List Config) → runs_at c (map (member_at_start p) cs) ≡ map (start p) (filter (same_config c) cs)
runs_of p c [] = refl
runs_of p c (d ∷ ds) = by (same_config c d) (runs_of p c ds)
  where
    by : (b : Bool) → runs_at c (map (member_at_start p) ds) ≡ map (start p) (filter (same_config c) ds) → cond b (start p d ∷ runs_at c (map (member_at_start p) ds)) (runs_at c (map (member_at_start p) ds)) ≡ map (start p) (cond b (d ∷ filter (same_config c) ds) (filter (same_config c) ds))
    by true e = ap (λ rs. start p d ∷ rs) e
    by false e = e

-- c is one of the configurations, once
start_at : (p : Program) (n : ℕ) (c : Config) (allowed : List Config) → filter (same_config c) allowed ≡ c ∷ [] → At p n c (begun p allowed) (start p c)
start_at p n c allowed h =
    let fresh = start_unused p c in
    record {
      member = runs_of p c allowed ∙ ap (map (start p)) h;
      output = sym fresh.output;
      rest = ap (λ k. steps p (n - k) (start p c)) fresh.attempts ∙ ap (λ k. steps p k (start p c)) whole;
    }
  where
    whole : n - 0 ≡ n
    whole = omega arith

-- ---- the report

values_of_members : {A : Type 0} (c : Config) (f : Run → A) (ms : List ConfigRun) → values_at c (map (λ m. (f m.run, m.config)) ms) ≡ map f (runs_at c ms)
values_of_members c f [] = refl
values_of_members c f (m ∷ ms) = by (same_config c m.config) (values_of_members c f ms)
  where
    by : (b : Bool) → values_at c (map (λ m. (f m.run, m.config)) ms) ≡ map f (runs_at c ms) → cond b (f m.run ∷ values_at c (map (λ m. (f m.run, m.config)) ms)) (values_at c (map (λ m. (f m.run, m.config)) ms)) ≡ map f (cond b (m.run ∷ runs_at c ms) (runs_at c ms))
    by true e = ap (λ xs. f m.run ∷ xs) e
    by false e = e

result_output : (r : Run) → output_of r ≡ (result r).output
result_output (Live g) = refl
result_output (Over e g) = refl

-- the numbers of attempts that a report says of a configuration whose run is known
counts_at : (c : Config) (ms : List ConfigRun) (r : Run) (b : Bool) → runs_at c ms ≡ r ∷ [] → first_of (values_held c (attempts_in b ms)) ≡ attempts_shown b (result r).attempts
counts_at c ms r false e = refl
counts_at c ms r true e =
    ap first_of (grouped_own nat_cmp nat_equal c _ [] _ (values_of_members c (λ s. (result s).attempts) ms ∙ ap (map (λ s. (result s).attempts)) e) refl)

-- the projection of the report of runs that are over is the run
report_at : (p : Program) (n v : ℕ) (c : Config) (l : Lockstep) → Finished p n c l → projection_at (report_of n v l) c ≡ Some (projection_of v (run p c n))
report_at p n v c l f =
    let r = f.run in
    let ends : values_held c (report_of n v l).ends ≡ (result r).end ∷ [] =
    grouped_own compare_ends end_equal c _ [] _ (values_of_members c (λ s. (result s).end) l.members ∙ ap (map (λ s. (result s).end)) f.at.member) refl in
    let counts = counts_at c l.members r (v == 2) f.at.member in
    let same : r ≡ steps p n (start p c) = sym (over_is_run p n r f.over) ∙ f.at.rest in
    rw (f.at.output, ends, counts) (rw (result_output r) (ap (λ x. Some (projection_of v (result x))) same))

-- the report of lockstep, projected at an allowed configuration, is the run of that configuration
pub lock_report_projects : (p : Program) (n v : ℕ) (c : Config) (allowed : List Config) → filter (same_config c) allowed ≡ c ∷ [] → projection_at (lock_report p allowed n v) c ≡ Some (projection_of v (run p c n))
lock_report_projects p n v c allowed h =
    report_at p n v c (lockstep p allowed n)
    (finished p n c (length allowed * n) (begun p allowed) (start p c) (start_at p n c allowed h) (start_total p n allowed))
