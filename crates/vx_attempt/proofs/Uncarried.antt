-- What a native method or a beginning comes to is neither a native method nor a beginning.
use Rattle.std.proofs.Common.{◌≡◌, ℕ, false, refl}
use Rattle.vx_java.specs.Initialisation.{begin}
use Rattle.vx_java.specs.Machine.{Begin, Ended, Go, Native, Outcome, Raise, State, Throw, Write}
use Rattle.vx_java.specs.Natives.{native}
use Rattle.vx_java.specs.Step.{outcome_carried_out}
use Rattle.vx_kept_facts.proofs.Claims.{Claim, begin_comes}
use Rattle.vx_kept_facts.proofs.NativeRows.{carried_out_comes, seen}
use Rattle.vx_link.specs.Parts.{method_at}
use Rattle.vx_link.specs.declared.program.Program.{Program}
use Rattle.vx_attempt.specs.Carrying.{is_uncarried}

abbrev neither : Claim
neither = record {
  At = λ h. Unit {0};
  May = λ p o. is_uncarried o ≡ false;
  passes = λ h at. refl;
  writes = λ h at. refl;
  raises = λ h at name among. refl;
  breaks = λ h. refl;
  exits = λ h code. refl;
}

native_neither : (p : Program) (s : State) (m : ℕ) → is_uncarried (native p s m) ≡ false
native_neither p s m = carried_out_comes neither (seen p s (method_at p s.top.method).code) tt (method_at p m)

begin_neither : (p : Program) (s : State) (c : ℕ) → is_uncarried (begin p s c) ≡ false
begin_neither p s c = begin_comes (λ o. is_uncarried o ≡ false) p s c (λ i is. refl) refl refl refl

pub carried_neither : (p : Program) (o : Outcome) → is_uncarried (outcome_carried_out p o) ≡ false
carried_neither p (Go s) = refl
carried_neither p (Raise class message s) = refl
carried_neither p (Throw r s) = refl
carried_neither p (Begin class s) = begin_neither p s class
carried_neither p (Native m s) = native_neither p s m
carried_neither p (Write stream units s) = refl
carried_neither p (Ended end) = refl
