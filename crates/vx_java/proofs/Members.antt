-- One configuration among those that run in lockstep.
use Rattle.std.proofs.Common.{◌≡◌, ℕ, suc, ◌+◌, ◌-◌, ◌<◌, ◌≤◌, Bool, true, false, cond, List, [], ◌∷◌, ◌++◌, Some, None, refl, sym, ap, ◌∙◌, arith, length, append-nil}
use Rattle.std.specs.Prelude.{map, flat_map, drop, nat_lt}
use Rattle.std.proofs.lemmas.Bool.{ltb-true}
use Rattle.std.proofs.Math.Seq.{drop-append_seam}
use Rattle.std.specs.declared.cmp.Ordering.{Ordering}
use Rattle.std.specs.declared.cmp.Ordering.TheVariants.{Less, Equal, Greater}
use Rattle.vx_value.specs.declared.end.Stream.{Stream}
use Rattle.vx_value.specs.declared.end.Stream.TheVariants.{Out}
use Rattle.vx_value.specs.declared.key.KeyPart.{KeyPart}
use Rattle.vx_link.specs.declared.program.Program.{Program}
use Rattle.vx_java.specs.Machine.{Outcome, Go, Raise, Throw, Begin, Native, Write, Ended, Next, Goes, Ends}
use Rattle.vx_java.specs.Row.{row}
use Rattle.vx_java.specs.Step.{Config, same_config, Progress, Run, Live, Over, outcome_carried_out, next, text_of, run_after, utf8_of, step, steps}
use Rattle.vx_java.specs.Lockstep.{ConfigRun, Piece, output_of, piece_of, pieces_appended, all_pieces_appended, key_at, member_after_round, run_after_round, if_live, if_key}
use Rattle.vx_java.specs.Report.{bytes_of}
use Rattle.vx_value.specs.Key.{key_cmp}
use Rattle.vx_java.proofs.Grouping.{values_at}

-- ---- a step adds a text on one stream, and one attempt

abbrev pub attempts_of : Run → ℕ
attempts_of (Live g) = g.attempts
attempts_of (Over e g) = g.attempts

abbrev pub on : Stream → List ℕ → List (Stream × ℕ)
on stream bytes = map (λ b. (stream, b)) bytes

pub record Advances (before after : Run) : Type 0 where
  pub stream : Stream
  pub bytes : List ℕ
  pub output : output_of after ≡ output_of before ++ on stream bytes
  pub attempts : attempts_of after ≡ suc (attempts_of before)

record IsOn (text : List (Stream × ℕ)) : Type 0 where
  stream : Stream
  bytes : List ℕ
  is : text ≡ on stream bytes

text_is_on : (o : Outcome) → IsOn (text_of o)
text_is_on (Write stream units s) = record { stream = stream; bytes = utf8_of units; is = refl }
text_is_on (Go s) = record { stream = Out; bytes = []; is = refl }
text_is_on (Raise class message s) = record { stream = Out; bytes = []; is = refl }
text_is_on (Throw r s) = record { stream = Out; bytes = []; is = refl }
text_is_on (Begin class s) = record { stream = Out; bytes = []; is = refl }
text_is_on (Native m s) = record { stream = Out; bytes = []; is = refl }
text_is_on (Ended e) = record { stream = Out; bytes = []; is = refl }

advanced_by : (g : Progress) (text : List (Stream × ℕ)) (n : Next) → IsOn text → Advances (Live g) (run_after g text n)
advanced_by g text (Goes s) t = record { stream = t.stream; bytes = t.bytes; output = ap (λ x. g.output ++ x) t.is; attempts = refl }
advanced_by g text (Ends e) t = record { stream = t.stream; bytes = t.bytes; output = ap (λ x. g.output ++ x) t.is; attempts = refl }

pub step_advances : (p : Program) (g : Progress) → Advances (Live g) (step p g)
step_advances p g = let o = outcome_carried_out p (row p g.state) in advanced_by g (text_of o) (next p o) (text_is_on o)

-- ---- the runs of a configuration

abbrev pub runs_at : Config → List ConfigRun → List Run
runs_at c [] = []
runs_at c (m ∷ ms) = cond (same_config c m.config) (m.run ∷ runs_at c ms) (runs_at c ms)

pub runs_at-stepped : (p : Program) (n : ℕ) (key : List KeyPart) (c : Config) (ms : List ConfigRun) → runs_at c (map (member_after_round p n key) ms) ≡ map (run_after_round p n key) (runs_at c ms)
runs_at-stepped p n key c [] = refl
runs_at-stepped p n key c (m ∷ ms) = by (same_config c m.config) (runs_at-stepped p n key c ms)
  where
    by : (b : Bool) → runs_at c (map (member_after_round p n key) ms) ≡ map (run_after_round p n key) (runs_at c ms) → cond b (run_after_round p n key m.run ∷ runs_at c (map (member_after_round p n key) ms)) (runs_at c (map (member_after_round p n key) ms)) ≡ map (run_after_round p n key) (cond b (m.run ∷ runs_at c ms) (runs_at c ms))
    by true e = ap (λ rs. run_after_round p n key m.run ∷ rs) e
    by false e = e

-- ---- what a configuration appends in a round

abbrev pub added : Run → Run → List Piece
added before after = piece_of (drop (length (output_of before)) (output_of after))

values_of : {A : Type 0} (c d : Config) (xs : List A) → values_at c (map (λ x. (x, d)) xs) ≡ cond (same_config c d) xs []
values_of {A} c d [] = by (same_config c d)
  where
    by : (b : Bool) → ◌≡◌ {A = List A} [] (cond b [] [])
    by true = refl
    by false = refl
values_of c d (x ∷ xs) = by (same_config c d) (values_of c d xs)
  where
    by : (b : Bool) → values_at c (map (λ y. (y, d)) xs) ≡ cond b xs [] → cond b (x ∷ values_at c (map (λ y. (y, d)) xs)) (values_at c (map (λ y. (y, d)) xs)) ≡ cond b (x ∷ xs) []
    by true e = ap (λ ys. x ∷ ys) e
    by false e = e

values_at-append : {A : Type 0} (c : Config) (xs ys : List (A × Config)) → values_at c (xs ++ ys) ≡ values_at c xs ++ values_at c ys
values_at-append c [] ys = refl
values_at-append c ((a, d) ∷ xs) ys = by (same_config c d) (values_at-append c xs ys)
  where
    by : (b : Bool) → values_at c (xs ++ ys) ≡ values_at c xs ++ values_at c ys → cond b (a ∷ values_at c (xs ++ ys)) (values_at c (xs ++ ys)) ≡ cond b (a ∷ values_at c xs) (values_at c xs) ++ values_at c ys
    by true e = ap (λ zs. a ∷ zs) e
    by false e = e

pub appended_at : (p : Program) (n : ℕ) (key : List KeyPart) (c : Config) (ms : List ConfigRun) → values_at c (all_pieces_appended ms (map (member_after_round p n key) ms)) ≡ flat_map (λ r. added r (run_after_round p n key r)) (runs_at c ms)
appended_at p n key c [] = refl
appended_at p n key c (m ∷ ms) =
    values_at-append c (pieces_appended m (member_after_round p n key m)) (all_pieces_appended ms (map (member_after_round p n key) ms))
    ∙ ap (λ xs. xs ++ values_at c (all_pieces_appended ms (map (member_after_round p n key) ms))) (values_of c m.config (added m.run (run_after_round p n key m.run)))
    ∙ by (same_config c m.config) (appended_at p n key c ms)
  where
    by : (b : Bool) → values_at c (all_pieces_appended ms (map (member_after_round p n key) ms)) ≡ flat_map (λ r. added r (run_after_round p n key r)) (runs_at c ms) → cond b (added m.run (run_after_round p n key m.run)) [] ++ values_at c (all_pieces_appended ms (map (member_after_round p n key) ms)) ≡ flat_map (λ r. added r (run_after_round p n key r)) (cond b (m.run ∷ runs_at c ms) (runs_at c ms))
    by true e = ap (λ ys. added m.run (run_after_round p n key m.run) ++ ys) e
    by false e = e

-- ---- the text of one stream is one piece

second : (stream : Stream) (bytes : List ℕ) → map (λ t. t.1) (on stream bytes) ≡ bytes
second stream [] = refl
second stream (b ∷ bytes) = ap (λ bs. b ∷ bs) (second stream bytes)

pub bytes_of_piece : (stream : Stream) (bytes : List ℕ) → flat_map bytes_of (piece_of (on stream bytes)) ≡ on stream bytes
bytes_of_piece stream [] = refl
bytes_of_piece stream (b ∷ bytes) =
    ap (λ x. (stream, b) ∷ x) (append-nil _ ∙ ap (λ bs. on stream bs) (second stream bytes))

-- what is added to a run by a step
pub added_bytes : (before after : Run) (stream : Stream) (bytes : List ℕ) → output_of after ≡ output_of before ++ on stream bytes → output_of before ++ flat_map bytes_of (added before after) ≡ output_of after
added_bytes before after stream bytes e =
    rw e (rw drop-append_seam (ap (λ x. output_of before ++ x) (bytes_of_piece stream bytes)))

-- a run stays, or makes a step
pub data Moves (p : Program) (n : ℕ) : Run → Run → Type 0 where
  stays : {r : Run} → Moves p n r r
  steps_on : {g : Progress} → g.attempts < n → Moves p n (Live g) (step p g)

pub stepped_moves : (p : Program) (n : ℕ) (key : List KeyPart) (r : Run) → Moves p n r (run_after_round p n key r)
stepped_moves p n key (Over e g) = stays
stepped_moves p n key (Live g) = by_limit (nat_lt g.attempts n) refl
  where
    by_key : g.attempts < n → (o : Ordering) → Moves p n (Live g) (if_key p (Live g) g o)
    by_key h Equal = steps_on h
    by_key h Less = stays
    by_key h Greater = stays

    by_limit : (b : Bool) → nat_lt g.attempts n ≡ b → Moves p n (Live g) (if_live p key (Live g) (cond b (Some g) None))
    by_limit true h = by_key (ltb-true _ _ h) (key_cmp (key_at g) key)
    by_limit false h = stays

-- ---- what a run comes to is kept

pub rest_stays : (p : Program) (n : ℕ) {r s : Run} → Moves p n r s → steps p (n - attempts_of r) r ≡ steps p (n - attempts_of s) s
rest_stays p n stays = refl
rest_stays p n (steps_on {g = g} h) =
    let one : n - g.attempts ≡ suc (n - suc g.attempts) = omega arith in
    let same : n - suc g.attempts ≡ n - attempts_of (step p g) = ap (λ k. n - k) (sym (step_advances p g).attempts) in
    ap (λ k. steps p k (Live g)) one ∙ ap (λ k. steps p k (step p g)) same

-- how many attempts a run that goes on has left
abbrev pub left : ℕ → Run → ℕ
left n (Live g) = n - g.attempts
left n (Over e g) = 0

pub left_after : (n : ℕ) (g : Progress) (s : Run) → attempts_of s ≡ suc g.attempts → g.attempts < n → left n s < left n (Live g)
left_after n g (Live f) e h = omega arith
left_after n g (Over x f) e h = omega arith

pub left_falls : (p : Program) (n : ℕ) {r s : Run} → Moves p n r s → left n s ≤ left n r
left_falls p n stays = omega arith
left_falls p n (steps_on {g = g} h) = let fewer = left_after n g (step p g) (step_advances p g).attempts h in omega arith

abbrev pub total : ℕ → List ConfigRun → ℕ
total n [] = 0
total n (m ∷ ms) = left n m.run + total n ms
