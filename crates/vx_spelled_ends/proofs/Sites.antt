-- What an attempt comes to: a state whose frames stand well, or an end that can be spelled.
use Rattle.std.proofs.Common.{Bool, List, [], codes, decimal, nat_le, refl, true, ℕ, ◌&&◌, ◌++◌, ◌+◌, ◌∷◌, ◌≡◌}
use Rattle.std.specs.Cmp.Derive.{both_true}
use Rattle.std.specs.List.{list_all}
use Rattle.vx_java.specs.Jumps.{target}
use Rattle.vx_java.specs.Machine.{Begin, Ended, Frame, Go, Here, Native, Outcome, Raise, Throw, Value, Write, illegal, method_text, place, place_at}
use Rattle.vx_java.specs.Returns.{fits_caller, frame_resumed, return_to}
use Rattle.vx_jump_targets.specs.Placed.{starts_in}
use Rattle.vx_kept_facts.proofs.Claims.{Claim, chosen}
use Rattle.vx_kept_facts.proofs.RowClaims.{RowClaim}
use Rattle.vx_kept_facts.proofs.Sites.{Lands}
use Rattle.vx_link.specs.Parts.{method_at}
use Rattle.vx_link.specs.declared.program.Program.{Program}
use Rattle.vx_named_classes.specs.Named.{is_given}
use Rattle.vx_pool.specs.Holding.{and_true}
use Rattle.vx_pool.specs.Instructions.{is_start}
use Rattle.vx_report_line.specs.Forms.{is_named}
use Rattle.vx_value.specs.declared.end.End.TheVariants.{Unsupported}
use Rattle.vx_value.specs.declared.key.Kind.{Kind}
use Rattle.vx_value.specs.declared.key.Kind.TheVariants.{Call}
use Rattle.vx_spelled_ends.specs.Positions.{all_stand, is_position_of, stands}
use Rattle.vx_spelled_ends.specs.Spelled.{is_spelled}
use Rattle.vx_spelled_ends.proofs.Positions.{first_position, resumed_position}
use Rattle.vx_spelled_ends.proofs.Tests.{given_behind}

abbrev pub is_good : Program → Outcome → Bool
is_good p (Go s) = all_stand p s
is_good p (Raise class message s) = all_stand p s
is_good p (Throw r s) = all_stand p s
is_good p (Begin class s) = all_stand p s
is_good p (Native m s) = all_stand p s
is_good p (Write stream units s) = all_stand p s
is_good p (Ended e) = is_spelled e

-- ---- ends

pub place_given : (p : Program) (method position : ℕ) → is_given (place_at p method position) ≡ true
place_given p method position = given_behind (method_text p (method_at p method)) (codes "@" ++ decimal position) refl

-- what is left out is of one of the eight kinds and has a name; the first four kinds name nothing
abbrev pub is_left_out : ℕ → List ℕ → Bool
is_left_out word what = ((nat_le 1 word && nat_le word 8) && is_named word what) && is_given what

pub left_out_spelled : (word : ℕ) (what place : List ℕ) → is_left_out word what ≡ true → is_given place ≡ true → is_spelled (Unsupported word what place) ≡ true
left_out_spelled word what place is given =
    let named = and_true ((nat_le 1 word && nat_le word 8) && is_named word what) (is_given what) is in
    let kind = and_true (nat_le 1 word && nat_le word 8) (is_named word what) named.0 in
    both_true kind.0 (both_true named.1 (both_true kind.1 given))

-- ---- where an instruction stands

-- the frames of the state stand well, and the top one behind its instruction and at each place to which its code may jump
pub record AtPosition (h : Here) : Type 0 where
  pub here : stands h.program h.state.top ≡ true
  pub behind : is_position_of (method_at h.program h.state.top.method).code (h.state.top.position + h.size) ≡ true
  pub starts : (at : ℕ) → is_start (starts_in h.code) at ≡ true → is_position_of (method_at h.program h.state.top.method).code at ≡ true
  pub below : list_all (stands h.program) h.state.callers ≡ true

pub stay : (h : Here) → AtPosition h → all_stand h.program h.state ≡ true
stay h at = both_true at.here at.below

abbrev pub good : Claim
good = record {
  At = AtPosition;
  May = λ p o. is_good p o ≡ true;
  passes = λ h at. both_true at.behind at.below;
  writes = λ h at. both_true at.behind at.below;
  raises = λ h at name among. both_true at.here at.below;
  breaks = λ h. place_given h.program h.state.top.method h.state.top.position;
  exits = λ h code. refl;
}

pub returned : (h : Here) (kind : Kind) (value : List Value) (callers : List Frame) → list_all (stands h.program) callers ≡ true → is_good h.program (return_to h kind value callers) ≡ true
returned h kind value [] all = refl
returned h Call value (f ∷ below) all =
    let parts = and_true (stands h.program f) (list_all (stands h.program) below) all in
    chosen good h.program (fits_caller h.program f value) (Go (record (h.state) { top = frame_resumed h.program f value; callers = below })) (illegal h)
    (both_true (resumed_position (method_at h.program f.method).code f.position parts.0) parts.1)
    (good.breaks h)
returned h _ value (f ∷ below) all = all

abbrev pub good_rows : RowClaim
good_rows = record {
  claim = good;
  Lands = Lands;
  Begins = λ c. Unit {0};
  Lacks = λ word what. is_left_out word what ≡ true;
  jumps = λ h at offset operands lands. both_true (at.starts (target h offset) lands) at.below;
  throws = λ h at r is. stay h at;
  begins = λ h at c may. stay h at;
  lacks = λ h at word what is. left_out_spelled word what (place h.program h.state) is (place_given h.program h.state.top.method h.state.top.position);
  natives = λ h at m. stay h at;
  enters = λ h at m code is values rest. both_true (first_position (method_at h.program m).code) (stay h at);
  returns = λ h at kind value. returned h kind value h.state.callers at.below;
  ready = λ h at chain. record { here = at.here; behind = at.behind; starts = at.starts; below = at.below };
}
