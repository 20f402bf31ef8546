-- What stands after a round, and what was written.
use Rattle.std.proofs.Common.{◌≡◌, ℕ, Bool, true, false, List, [], ◌∷◌, ◌++◌, refl, sym, ◌∙◌, ap, length, map, suc, append-nil, append_assoc}
use Rattle.std.specs.Prelude.{cond, drop, Option, Some, None, if◌then◌else◌, is_some, nat_lt}
use Rattle.vx_space.specs.Sets.{Sets}
use Rattle.vx_cond.specs.Leaves.{AreLeaves, value_at}
use Rattle.vx_findings.specs.Orders.{piece_cmp}
use Rattle.vx_findings.specs.Shared.{leaves_of}
use Rattle.vx_findings.specs.declared.piece.Piece.{Piece}
use Rattle.vx_findings.specs.declared.shared.Shared.{Shared}
use Rattle.vx_java.specs.Lockstep.{output_of, piece_of}
use Rattle.vx_java.specs.Machine.{Begin, Ended, Ends, Go, Goes, Native, Next, Outcome, Raise, Throw, Write}
use Rattle.vx_java.specs.Report.{bytes_of}
use Rattle.vx_java.specs.Step.{Progress, next, outcome_carried_out, run_after, text_of, utf8_of}
use Rattle.vx_java.specs.Row.{row}
use Rattle.vx_link.specs.declared.program.Program.{Program}
use Rattle.vx_value.specs.declared.end.End.TheVariants.{Unfinished}
use Rattle.vx_value.specs.declared.end.Stream.{Stream}
use Rattle.vx_value.specs.declared.end.End.{End}
use Rattle.vx_standing.specs.Waiting.{Waiting, end_after, piece_after, piece_if, spent_after, waits_after}
use Rattle.vx_standing.specs.Rounds.{after_round, pieces_in, written}
use Rattle.vx_standing.specs.State.{Came, Runs, Standing, output_at, standing_of}
use Rattle.vx_standing.proofs.Running.{standing_by}

-- ---- a run that made its attempt

pub stands_after : (limit : ℕ) (g : Progress) (text : List (Stream × ℕ)) (n : Next) → standing_by (waits_after limit (suc g.attempts) n) (g.output ++ text) (end_after limit (suc g.attempts) n) (spent_after limit (suc g.attempts) n) ≡ Some (standing_of limit (run_after g text n))
stands_after limit g text (Ends end) = refl
stands_after limit g text (Goes s) = cases (nat_lt (suc g.attempts) limit) refl
  where
    cases : (b : Bool) → nat_lt (suc g.attempts) limit ≡ b → standing_by (waits_after limit (suc g.attempts) (Goes s)) (g.output ++ text) (end_after limit (suc g.attempts) (Goes s)) (spent_after limit (suc g.attempts) (Goes s)) ≡ Some (standing_of limit (run_after g text (Goes s)))
    cases true e = rw e refl
    cases false e = rw e refl

-- ---- the text of a round at a configuration

abbrev pub bytes_in : Option Piece → List (Stream × ℕ)
bytes_in None = []
bytes_in (Some piece) = bytes_of (piece.stream, piece.text)

no_output : {S I : Type 0} (sets : Sets I) (xs : List (Shared Piece S I)) (c : List Bool) → value_at sets (leaves_of xs) c ≡ None → output_at sets xs c ≡ []
no_output sets [] c h = refl
no_output {S = S} {I = I} sets (x ∷ xs) c h = cases (sets.test x.condition c) h (no_output sets xs c)
  where
    cases : (b : Bool) → (if b then Some x.value else value_at sets (leaves_of xs) c) ≡ None → (value_at sets (leaves_of xs) c ≡ None → output_at sets xs c ≡ []) → (if b then bytes_of (x.value.stream, x.value.text) ++ output_at sets xs c else output_at sets xs c) ≡ []
    cases true q r = cc q
    cases false q r = r q

pub output_of_round : {S I : Type 0} (sets : Sets I) (xs : List (Shared Piece S I)) (c : List Bool) → AreLeaves piece_cmp sets (leaves_of xs) → output_at sets xs c ≡ bytes_in (value_at sets (leaves_of xs) c)
output_of_round sets [] c h = refl
output_of_round {S = S} {I = I} sets (x ∷ xs) c h = cases (sets.test x.condition c) (h.0.apart.none c) (output_of_round sets xs c h.1)
  where
    cases : (b : Bool) → (b ≡ true → value_at sets (leaves_of xs) c ≡ None) → output_at sets xs c ≡ bytes_in (value_at sets (leaves_of xs) c) → (if b then bytes_of (x.value.stream, x.value.text) ++ output_at sets xs c else output_at sets xs c) ≡ bytes_in (if b then Some x.value else value_at sets (leaves_of xs) c)
    cases true n r = ap (λ o. bytes_of (x.value.stream, x.value.text) ++ o) (no_output sets xs c (n refl)) ∙ append-nil (bytes_of (x.value.stream, x.value.text))
    cases false n r = r

pub output_append : {S I : Type 0} (sets : Sets I) (xs ys : List (Shared Piece S I)) (c : List Bool) → output_at sets (xs ++ ys) c ≡ output_at sets xs c ++ output_at sets ys c
output_append sets [] ys c = refl
output_append {S = S} {I = I} sets (x ∷ xs) ys c = cases (sets.test x.condition c) (output_append sets xs ys c)
  where
    cases : (b : Bool) → output_at sets (xs ++ ys) c ≡ output_at sets xs c ++ output_at sets ys c → (if b then bytes_of (x.value.stream, x.value.text) ++ output_at sets (xs ++ ys) c else output_at sets (xs ++ ys) c) ≡ (if b then bytes_of (x.value.stream, x.value.text) ++ output_at sets xs c else output_at sets xs c) ++ output_at sets ys c
    cases true r = ap (λ o. bytes_of (x.value.stream, x.value.text) ++ o) r ∙ sym (append_assoc (bytes_of (x.value.stream, x.value.text)) (output_at sets xs c) (output_at sets ys c))
    cases false r = r

text_there : (stream : Stream) (text : List ℕ) → bytes_in (piece_if stream text) ≡ map (λ b. (stream, b)) text
text_there stream [] = refl
text_there stream (b ∷ text) = refl

pub bytes_after : (o : Outcome) → bytes_in (piece_after o) ≡ text_of o
bytes_after (Go s) = refl
bytes_after (Raise class message s) = refl
bytes_after (Throw r s) = refl
bytes_after (Begin class s) = refl
bytes_after (Native m s) = refl
bytes_after (Write stream units s) = text_there stream (utf8_of units)
bytes_after (Ended end) = refl

seconds : (stream : Stream) (text : List ℕ) → map (λ (t : Stream × ℕ). t.1) (map (λ b. (stream, b)) text) ≡ text
seconds stream [] = refl
seconds stream (b ∷ text) = ap (λ bs. b ∷ bs) (seconds stream text)

one_piece : (stream : Stream) (text : List ℕ) → pieces_in (piece_if stream text) ≡ piece_of (map (λ b. (stream, b)) text)
one_piece stream [] = refl
one_piece stream (b ∷ text) = ap (λ bs. (stream, b ∷ bs) ∷ []) (sym (seconds stream text))

pieces_after : (o : Outcome) → pieces_in (piece_after o) ≡ piece_of (text_of o)
pieces_after (Go s) = refl
pieces_after (Raise class message s) = refl
pieces_after (Throw r s) = refl
pieces_after (Begin class s) = refl
pieces_after (Native m s) = refl
pieces_after (Write stream units s) = one_piece stream (utf8_of units)
pieces_after (Ended end) = refl

drop_front : {A : Type 0} (xs ys : List A) → drop (length xs) (xs ++ ys) ≡ ys
drop_front [] ys = refl
drop_front (x ∷ xs) ys = drop_front xs ys

output_after : (g : Progress) (text : List (Stream × ℕ)) (n : Next) → output_of (run_after g text n) ≡ g.output ++ text
output_after g text (Goes s) = refl
output_after g text (Ends end) = refl

-- what a run wrote in its attempt
pub wrote_there : (p : Program) (g : Progress) → pieces_in (piece_after (outcome_carried_out p (row p g.state))) ≡ piece_of (written p true (Some (Runs g)))
wrote_there p g =
    let o = outcome_carried_out p (row p g.state) in
    pieces_after o ∙ ap piece_of (sym (ap (drop (length g.output)) (output_after g (text_of o) (next p o)) ∙ drop_front g.output (text_of o)))

pub some_after : (p : Program) (limit : ℕ) (b : Bool) (s : Option Standing) → is_some (after_round p limit b s) ≡ is_some s
some_after p limit true None = refl
some_after p limit true (Some (Runs g)) = refl
some_after p limit true (Some (Came r)) = refl
some_after p limit false s = refl

pub waits_goes : (limit m : ℕ) (n : Next) → is_some (waits_after limit m n) ≡ true → (end_after limit m n ≡ None) × (spent_after limit m n ≡ None)
waits_goes limit m (Ends end) h = cc h
waits_goes limit m (Goes s) h = cases (nat_lt m limit) h
  where
    cases : (b : Bool) → is_some {T = Waiting} (cond b (Some (record { state = s; attempts = m })) None) ≡ true → (◌≡◌ {A = Option End} (cond b None (Some Unfinished)) None) × (◌≡◌ {A = Option ℕ} (cond b None (Some m)) None)
    cases true k = (refl, refl)
    cases false k = cc k
