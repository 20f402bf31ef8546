-- Where an exception is thrown in the same attempt: it leads where the outcome leads, and it writes what that writes.
use Rattle.std.proofs.Common.{◌≡◌, refl}
use Rattle.std.specs.Prelude.{Option, None}
use Rattle.vx_findings.specs.declared.piece.Piece.{Piece}
use Rattle.vx_java.specs.Machine.{Begin, Ended, Ends, Go, Goes, Native, Next, Outcome, Raise, Throw, Write}
use Rattle.vx_java.specs.Step.{next}
use Rattle.vx_java.specs.Throwing.{next_after_raise, next_after_throw}
use Rattle.vx_link.specs.declared.program.Program.{Program}
use Rattle.vx_standing.specs.Attempted.{outcome_of, thrown_out}
use Rattle.vx_standing.specs.Waiting.{piece_after}

next_of : (p : Program) (n : Next) → next p (outcome_of n) ≡ n
next_of p (Goes s) = refl
next_of p (Ends end) = refl

pub next-thrown : (p : Program) (o : Outcome) → next p (thrown_out p o) ≡ next p o
next-thrown p (Go s) = refl
next-thrown p (Raise class message s) = next_of p (next_after_raise p s class message)
next-thrown p (Throw r s) = next_of p (next_after_throw p s r)
next-thrown p (Begin class s) = refl
next-thrown p (Native m s) = refl
next-thrown p (Write stream units s) = refl
next-thrown p (Ended end) = refl

writes_nothing : (n : Next) → ◌≡◌ {A = Option Piece} (piece_after (outcome_of n)) None
writes_nothing (Goes s) = refl
writes_nothing (Ends end) = refl

pub piece_after-thrown : (p : Program) (o : Outcome) → piece_after (thrown_out p o) ≡ piece_after o
piece_after-thrown p (Go s) = refl
piece_after-thrown p (Raise class message s) = writes_nothing (next_after_raise p s class message)
piece_after-thrown p (Throw r s) = writes_nothing (next_after_throw p s r)
piece_after-thrown p (Begin class s) = refl
piece_after-thrown p (Native m s) = refl
piece_after-thrown p (Write stream units s) = refl
piece_after-thrown p (Ended end) = refl
