-- Types that are put at a position: what is known rises, and each typing has it.
use Rattle.std.proofs.Common.{Bool, List, [], arith, false, refl, sym, true, ℕ, ◌-◌, ◌<◌, ◌^◌, ◌∙◌, ◌∷◌, ◌≡◌, ◌≤◌}
use Rattle.std.proofs.lemmas.Bool.{le-leb, leb-false, leb-true}
use Rattle.std.specs.List.{list_all}
use Rattle.std.specs.Prelude.{if◌then◌else◌, min, nat_le, ◌&&◌}
use Rattle.vx_class.specs.declared.class_file.Code.{Code}
use Rattle.vx_link.specs.declared.program.Program.{Program}
use Rattle.vx_types.proofs.Lists.{head_fits, size_below, tail_fits}
use Rattle.vx_types.proofs.Tests.{both, both_first, both_second, not_both}
use Rattle.vx_types.specs.Fits.{all_fit, fits}
use Rattle.vx_types.specs.Flow.{stack_size}
use Rattle.vx_types.specs.Types.{VerState}
use Rattle.vx_types.specs.declared.types.VerType.{VerType}
use Rattle.vx_types.specs.declared.types.VerType.TheVariants.{Int, Long, Null, Ref, Top}
use Rattle.vx_verify.specs.Forced.{IsForced, IsUntyped}
use Rattle.vx_verify.specs.States.{words_of}
use Rattle.vx_verify.specs.Typing.{AreOperands, is_known}

-- ---- operands that can be read

known_one : (p : Program) (t u : VerType) → fits p t u ≡ true → is_known u ≡ true → is_known t ≡ true
known_one p Int u h k = refl
known_one p Long u h k = refl
known_one p Null u h k = refl
known_one p (Ref d e) u h k = refl
known_one p Top Top h k = absurd cc
known_one p Top Int h k = absurd cc
known_one p Top Long h k = absurd cc
known_one p Top Null h k = absurd cc
known_one p Top (Ref d e) h k = absurd cc

pub known_below : (p : Program) (ts us : List VerType) → all_fit p ts us ≡ true → list_all is_known us ≡ true → list_all is_known ts ≡ true
known_below p [] us h k = refl
known_below p (t ∷ ts) (u ∷ us) h k =
    both (is_known t) (list_all is_known ts) (known_one p t u (head_fits p t u ts us h) (both_first (is_known u) (list_all is_known us) k))
    (known_below p ts us (tail_fits p t u ts us h) (both_second (is_known u) (list_all is_known us) k))
known_below p (t ∷ ts) [] h k = absurd cc

abbrev pub are_readable : Code → VerState → Bool
are_readable code s = list_all is_known s.operands && nat_le (stack_size s.operands) code.max_stack

-- operands that no typing can have
pub unreadable_untyped : (p : Program) (m : ℕ) (code : Code) (position : ℕ) (s : VerState) → IsForced p m code position s → are_readable code s ≡ false → IsUntyped p m code
unreadable_untyped p m code position s forced unreadable typing is =
    let reached = forced typing is in
    let above = is.operands position reached.state reached.covered in
    let known = known_below p s.operands reached.state.operands reached.fitting.operands above.known in
    let size = size_below p s.operands reached.state.operands reached.fitting.operands in
    let room : stack_size s.operands ≤ code.max_stack = omega (arith, size, above.room) in
    not_both (are_readable code s) (both (list_all is_known s.operands) (nat_le (stack_size s.operands) code.max_stack) known (le-leb (stack_size s.operands) code.max_stack room)) unreadable

pub readable_operands : (code : Code) (s : VerState) → are_readable code s ≡ true → AreOperands code s
readable_operands code s h = record {
  known = both_first (list_all is_known s.operands) (nat_le (stack_size s.operands) code.max_stack) h;
  room = leb-true (stack_size s.operands) code.max_stack (both_second (list_all is_known s.operands) (nat_le (stack_size s.operands) code.max_stack) h);
}

-- ---- the words that are kept with operands

not_le : (a b : ℕ) → b < a → nat_le a b ≡ false
not_le a b l = by (nat_le a b) refl
  where
    by : (t : Bool) → nat_le a b ≡ t → nat_le a b ≡ false
    by true h = let less = leb-true a b h in absurd (omega (arith, l, less))
    by false h = h

size_fits : (size max : ℕ) → max < 2 ^ 16 → nat_le (min size (2 ^ 32 - 1)) max ≡ nat_le size max
size_fits size max few = by (nat_le size max) refl
  where
    by : (b : Bool) → nat_le size max ≡ b → nat_le (min size (2 ^ 32 - 1)) max ≡ nat_le size max
    by true h = let l = leb-true size max h in le-leb (min size (2 ^ 32 - 1)) max (omega (arith, l)) ∙ sym h
    by false h = let l = leb-false size max h in not_le (min size (2 ^ 32 - 1)) max (omega (arith, l, few)) ∙ sym h

pub readable_is : (ops : List VerType) (max : ℕ) → max < 2 ^ 16 → nat_le (words_of ops) max ≡ (list_all is_known ops && nat_le (stack_size ops) max)
readable_is ops max few = by (list_all is_known ops)
  where
    by : (b : Bool) → nat_le (if b then min (stack_size ops) (2 ^ 32 - 1) else 2 ^ 32 - 1) max ≡ (b && nat_le (stack_size ops) max)
    by true = size_fits (stack_size ops) max few
    by false = not_le (2 ^ 32 - 1) max (omega (arith, few))
