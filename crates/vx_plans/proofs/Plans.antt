-- What plans may give.
use Rattle.std.proofs.Common.{◌≡◌, ◌≤◌, ◌<◌, ◌+◌, ℕ, true, false, List, take, length, IfSome, Option, None, Some, Result, Ok, Err, inl, inr, refl, ◌∙◌, arith, ltb, le-ltb, lt-ltb, ◌⊎◌, IfOk, IfErr, MatchResult, Vec, Global}
use Rattle.vx_io.specs.Call.{Call, Listing, Reading}
use Rattle.vx_io.specs.Held.{Held, FilesState, contents}
use Rattle.vx_plans.specs.declared.status.Status.{Status}
use Rattle.vx_plans.specs.declared.status.Status.TheVariants.{ReadFault, TooLarge, NoMemory}
use Rattle.vx_plans.specs.Plan.{Plan, Refuse, Say, Write, Read, List_below, By_allowed, As_report, Choose, Leads, MayGive, MayStop, unless, attempt, Outcome, done_with}
use Rattle.vx_pool.specs.Place.{IsBytes}
use Rattle.vx_plans.specs.Job.{Exactly, IsTextOf, Product}
use Rattle.vx_plans.specs.KeepsFiles.{KeepsFiles}
use Rattle.vx_plans.specs.Sized.{read_sized, too_large}

-- what fits is not too large
pub fits : (shown : List ℕ) (room size : ℕ) → size ≤ room → too_large shown room size ≡ None
fits shown room size h = let e : ltb room size ≡ false = le-ltb room size h in rw e

-- and what doesn't is
pub exceeds : (shown : List ℕ) (room size : ℕ) → room < size → too_large shown room size ≡ Some (TooLarge shown room)
exceeds shown room size h = let e : ltb room size ≡ true = lt-ltb room size h in rw e

-- where there is no reason to refuse, a plan goes on
pub goes_on : (held : Option Held) (reason : Option Status) (plan : Plan) → reason ≡ None → Leads held (unless reason plan) plan
goes_on held reason plan e = rw e (record { to = λ _ _ _ h. h })

pub refuses : (held : Option Held) (before after : Call → ℕ) (reason : Option Status) (plan : Plan) (status : Status) → reason ≡ Some status → MayGive held before after (unless reason plan) (Err status)
refuses held before after reason plan status e = rw e

pub then_leads : {held : Option Held} {a b c : Plan} → Leads held a b → Leads held b c → Leads held a c
then_leads h k = record { to = λ before after outcome g. h.to before after outcome (k.to before after outcome g) }

-- a file of a limited size was given
pub sized_gives : (held : Option Held) (room : ℕ) (place shown bytes : List ℕ) (next : List ℕ → Plan) → length bytes ≤ room → IsBytes bytes → IfSome held (λ files. bytes ≡ take (room + 1) (contents files place))
    → Leads held (read_sized room place shown next) (next bytes)
sized_gives held room place shown bytes next small are_bytes told = record {
  to = λ before after outcome h. inr (bytes, omega (arith, small), are_bytes, told, (goes_on held _ (next bytes) (fits shown room (length bytes) small)).to before after outcome h);
}

-- it has more bytes than there is room
pub sized_exceeds : (old new : FilesState) (room : ℕ) (place shown bytes : List ℕ) (next : List ℕ → Plan) → room < length bytes → length bytes ≤ room + 1 → IsBytes bytes → IfSome old.held (λ files. bytes ≡ take (room + 1) (contents files place))
    → MayStop old new (read_sized room place shown next) (TooLarge shown room)
sized_exceeds old new room place shown bytes next large small are_bytes told = record {
  why = inr (inr (bytes, small, are_bytes, told, refuses old.held old.faults new.faults _ (next bytes) (TooLarge shown room) (exceeds shown room (length bytes) large)));
}

-- it could not be read
pub sized_fails : (old new : FilesState) (room : ℕ) (place shown : List ℕ) (next : List ℕ → Plan) → old.faults (Reading place) < new.faults (Reading place)
    → MayStop old new (read_sized room place shown next) (ReadFault shown)
sized_fails old new room place shown next rose = record { why = inr (inl (rose, refl)) }

-- where no count falls and what is held stays, what may be given from later on may be given from before
pub from_before : (held : Option Held) (before later after : Call → ℕ) → ((call : Call) → before call ≤ later call) → (plan : Plan) (outcome : Outcome) → MayGive held later after plan outcome → MayGive held before after plan outcome
from_before held before later after h (Refuse status) outcome g = g
from_before held before later after h (Say product last) outcome g = g
from_before held before later after h (Read path room fault next) outcome (inl g) = inl (omega (arith, g.0, h (Reading path)), g.1)
from_before held before later after h (Read path room fault next) outcome (inr g) = inr (g.0, g.1, g.2, g.3, from_before held before later after h (next g.0) outcome g.4)
from_before held before later after h (List_below folder fault next) outcome (inl g) = inl (omega (arith, g.0, h (Listing folder)), g.1)
from_before held before later after h (List_below folder fault next) outcome (inr g) = inr (g.0, g.1, from_before held before later after h (next g.0) outcome g.2)
from_before held before later after h (By_allowed model none some) outcome (inl g) = inl (g.0, from_before held before later after h none outcome g.1)
from_before held before later after h (By_allowed model none some) outcome (inr g) = inr (g.0, from_before held before later after h some outcome g.1)
from_before held before later after h (As_report bytes next) outcome (inl g) = inl g
from_before held before later after h (As_report bytes next) outcome (inr g) = inr (g.0, g.1, from_before held before later after h (next g.0) outcome g.2)
from_before held before later after h (Choose passes next) outcome g = (g.0, g.1, from_before held before later after h (next g.0) outcome g.2)

-- a plan is left as the rest is that its answers led to
pub stops_behind : (old mid new : FilesState) (plan rest : Plan) (status : Status) → KeepsFiles old mid → Leads old.held plan rest → MayStop mid new rest status → MayStop old new plan status
stops_behind old mid new plan rest status keeps leads stop = record { why = cases stop.why }
  where
    cases : (status ≡ NoMemory) ⊎ MayGive mid.held mid.faults new.faults rest (Err status) → (status ≡ NoMemory) ⊎ MayGive old.held old.faults new.faults plan (Err status)
    cases (inl e) = inl e
    cases (inr g) = inr (leads.to old.faults new.faults (Err status) (from_before old.held old.faults mid.faults new.faults keeps.later rest (Err status) (rw keeps.held at g)))

-- want of memory leaves any plan
pub no_memory : (old new : FilesState) (plan : Plan) (status : Status) → status ≡ NoMemory → MayStop old new plan status
no_memory old new plan status e = record { why = inl e }

-- a reason to refuse
pub stops_for : (old new : FilesState) (reason : Option Status) (plan : Plan) (status : Status) → reason ≡ Some status → MayStop old new (unless reason plan) status
stops_for old new reason plan status e = record { why = inr (refuses old.held old.faults new.faults reason plan status e) }

pub keeps_then : {a b c : FilesState} → KeepsFiles a b → KeepsFiles b c → KeepsFiles a c
keeps_then h k = record { held = k.held ∙ h.held; later = λ call. omega (arith, h.later call, k.later call) }

pub keeps_same : (a : FilesState) → KeepsFiles a a
keeps_same a = record { held = refl; later = λ call. omega arith }

-- what leads on over what is held later leads on over what was held before
pub leads_before : {a b : FilesState} {plan rest : Plan} → KeepsFiles a b → Leads b.held plan rest → Leads a.held plan rest
leads_before keeps leads = rw keeps.held at leads

-- a value that there is
pub attempt_goes : {A : Type 0} (held : Option Held) (value : Result A Status) (next : A → Plan) (x : A) → value ≡ Ok x → Leads held (attempt value next) (next x)
attempt_goes held value next x e = rw e (record { to = λ _ _ _ h. h })

-- a value that there isn't
pub attempt_stops : {A : Type 0} (old new : FilesState) (value : Result A Status) (next : A → Plan) (status : Status) → value ≡ Err status → MayStop old new (attempt value next) status
attempt_stops old new value next status e = rw e (record { why = inr refl })

-- a value, or the refusal in its place
pub value_stops : {A : Type 0} (old new : FilesState) (plan : Plan) (value : Result A Status) (next : A → Plan) (status : Status) → KeepsFiles old new → Leads old.held plan (attempt value next)
    → (status ≡ NoMemory) ⊎ (value ≡ Err status) → MayStop old new plan status
value_stops old new plan value next status keeps leads (inl n) = no_memory old new plan status n
value_stops old new plan value next status keeps leads (inr bad) = stops_behind old new new plan (attempt value next) status keeps leads (attempt_stops new new value next status bad)

-- a plan that writes exactly a value, or refuses in its place
pub value_ok : (old new : FilesState) (plan : Plan) (value : Result (List ℕ) Status) (r : Result (Vec ℕ Global) Status) → Leads old.held plan (attempt value (λ text. Write (Exactly text)))
    → MatchResult r (λ text. value ≡ Ok text.items) (λ status. (status ≡ NoMemory) ⊎ (value ≡ Err status))
    → IfOk r (λ text. MayGive old.held old.faults new.faults plan (done_with text.items))
value_ok old new plan value (Err e) leads made = tt
value_ok old new plan value (Ok text) leads made = (then_leads leads (attempt_goes old.held value (λ t. Write (Exactly t)) text.items made)).to old.faults new.faults (done_with text.items) (text.items, refl, refl)

pub value_err : (old new : FilesState) (plan : Plan) (value : Result (List ℕ) Status) (r : Result (Vec ℕ Global) Status) → KeepsFiles old new → Leads old.held plan (attempt value (λ text. Write (Exactly text)))
    → MatchResult r (λ text. value ≡ Ok text.items) (λ status. (status ≡ NoMemory) ⊎ (value ≡ Err status))
    → IfErr r (λ status. MayStop old new plan status)
value_err old new plan value (Ok text) keeps leads made = tt
value_err old new plan value (Err status) keeps leads made = value_stops old new plan value (λ t. Write (Exactly t)) status keeps leads made
