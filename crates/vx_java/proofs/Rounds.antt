-- Each round uses up attempts, so that the bound on rounds is never met before the runs are.
use Rattle.std.proofs.Common.{◌≡◌, ℕ, ◌<◌, ◌≤◌, Bool, true, false, List, [], ◌∷◌, Option, Some, None, refl, sym, ap, ◌∙◌, arith}
use Rattle.std.specs.Prelude.{map, option_map, nat_lt}
use Rattle.std.proofs.lemmas.Bool.{ltb-true}
use Rattle.std.specs.declared.cmp.Ordering.{Ordering}
use Rattle.std.specs.declared.cmp.Ordering.TheVariants.{Less, Equal, Greater}
use Rattle.std.specs.Ordering.{ordering_reverse}
use Rattle.vx_value.specs.declared.key.KeyPart.{KeyPart}
use Rattle.vx_link.specs.declared.program.Program.{Program}
use Rattle.vx_java.specs.Step.{Progress, Run, Live, Over, step}
use Rattle.vx_java.specs.Lockstep.{ConfigRun, live_progress, key_at, member_after_round, run_after_round, if_live, if_key, first_key, lesser_key, of_keys}
use Rattle.vx_value.specs.Key.{key_cmp}
use Rattle.vx_value.specs.KeyLaws.{key_cmp_total}
use Rattle.vx_java.proofs.Members.{step_advances, stepped_moves, left, left_falls, left_after, total}

-- a key is equal to itself
own_reverse : (o : Ordering) → o ≡ ordering_reverse o → o ≡ Equal
own_reverse Less h = cc
own_reverse Equal h = refl
own_reverse Greater h = cc

key_self : (k : List KeyPart) → key_cmp k k ≡ Equal
key_self k = own_reverse (key_cmp k k) (key_cmp_total.antisymm k k)

pub record IsLive (n : ℕ) (r : Run) (g : Progress) : Type 0 where
  pub run : r ≡ Live g
  pub below : g.attempts < n

pub live_is : (n : ℕ) (r : Run) (g : Progress) → live_progress n r ≡ Some g → IsLive n r g
live_is n (Over e f) g h = cc
live_is n (Live f) g h = by (nat_lt f.attempts n) refl
  where
    by : (b : Bool) → nat_lt f.attempts n ≡ b → IsLive n (Live f) g
    by true e =
        let same : Some f ≡ Some g = rw e at h in
        let f_is_g : f ≡ g = cc in
        record { run = ap Live f_is_g; below = rw (← f_is_g) (ltb-true _ _ e) }
    by false e = let bad = rw e at h in cc

-- a run at the key makes a step
head_falls : (p : Program) (n : ℕ) (key : List KeyPart) (r : Run) (g : Progress) → live_progress n r ≡ Some g → key_at g ≡ key → left n (run_after_round p n key r) < left n r
head_falls p n key r g e k =
    let is : IsLive n r g = live_is n r g e in
    let fewer : left n (step p g) < left n (Live g) = left_after n g (step p g) (step_advances p g).attempts is.below in
    let moved : run_after_round p n key r ≡ step p g = ap (if_live p key r) e ∙ ap (λ o. if_key p r g o) (ap (key_cmp (key_at g)) (sym k) ∙ key_self (key_at g)) in
    rw moved (rw is.run fewer)

pub total_stays : (p : Program) (n : ℕ) (key : List KeyPart) (ms : List ConfigRun) → total n (map (member_after_round p n key) ms) ≤ total n ms
total_stays p n key [] = omega arith
total_stays p n key (m ∷ ms) = omega (arith, total_stays p n key ms, left_falls p n (stepped_moves p n key m.run))

pub total_falls : (p : Program) (n : ℕ) (key : List KeyPart) (ms : List ConfigRun) → first_key n ms ≡ Some key → total n (map (member_after_round p n key) ms) < total n ms
total_falls p n key [] h = cc
total_falls p n key (m ∷ ms) h = by_head (live_progress n m.run) refl (total_falls p n key ms)
  where
    head_left : left n (run_after_round p n key m.run) ≤ left n m.run
    head_left = left_falls p n (stepped_moves p n key m.run)

    tail_left : total n (map (member_after_round p n key) ms) ≤ total n ms
    tail_left = total_stays p n key ms

    by_order : (g : Progress) (b : List KeyPart) (o : Ordering) → live_progress n m.run ≡ Some g → first_key n ms ≡ Some b → of_keys (key_at g) b o ≡ key → (first_key n ms ≡ Some key → total n (map (member_after_round p n key) ms) < total n ms) → total n (map (member_after_round p n key) (m ∷ ms)) < total n (m ∷ ms)
    by_order g b Less e t k ih = let fewer = ih (t ∙ ap Some k) in omega (arith, head_left, fewer)
    by_order g b Equal e t k ih = omega (arith, tail_left, head_falls p n key m.run g e k)
    by_order g b Greater e t k ih = omega (arith, tail_left, head_falls p n key m.run g e k)

    by_tail : (g : Progress) → live_progress n m.run ≡ Some g → (o : Option (List KeyPart)) → first_key n ms ≡ o → lesser_key (Some (key_at g)) o ≡ Some key → (first_key n ms ≡ Some key → total n (map (member_after_round p n key) ms) < total n ms) → total n (map (member_after_round p n key) (m ∷ ms)) < total n (m ∷ ms)
    by_tail g e None t k ih = let same : key_at g ≡ key = cc in omega (arith, tail_left, head_falls p n key m.run g e same)
    by_tail g e (Some b) t k ih = let same : of_keys (key_at g) b (key_cmp b (key_at g)) ≡ key = cc in by_order g b (key_cmp b (key_at g)) e t same ih

    by_head : (o : Option Progress) → live_progress n m.run ≡ o → (first_key n ms ≡ Some key → total n (map (member_after_round p n key) ms) < total n ms) → total n (map (member_after_round p n key) (m ∷ ms)) < total n (m ∷ ms)
    by_head None e ih = let fewer = ih (ap (λ l. lesser_key (option_map key_at l) (first_key n ms)) (sym e) ∙ h) in omega (arith, head_left, fewer)
    by_head (Some g) e ih = by_tail g e (first_key n ms) refl (ap (λ l. lesser_key (option_map key_at l) (first_key n ms)) (sym e) ∙ h) ih
