-- The pairs of a switch, one after the other.
use Rattle.std.proofs.Common.{◌≡◌, ℕ, ◌+◌, ◌*◌, ◌≤◌, suc, ℤ, Bool, true, false, List, refl, sym, ◌∙◌, ap, arith}
use Rattle.vx_value.specs.Arithmetic.{same_int}
use Rattle.vx_opcode.specs.Numbers.{s4}
use Rattle.vx_switches.specs.Switches.{pair_jump}

-- what is left of the pairs gives what all of them give
pub record IsSearching (code : List ℕ) (key fallback : ℤ) (pairs first pair : ℕ) : Type 0 where
  pub left : (left : ℕ) → pair + left ≡ pairs → pair_jump code key fallback left (first + 8 * pair) ≡ pair_jump code key fallback pairs first

pub IsSearching-start : (code : List ℕ) (key fallback : ℤ) (pairs first : ℕ) → IsSearching code key fallback pairs first 0
IsSearching-start code key fallback pairs first =
    record {
      left = λ left e.
          let all : left ≡ pairs = omega arith in
          let start : first + 8 * 0 ≡ first = omega arith in
          rw (all, start) refl;
    }

chosen : (here : ℤ) (other : ℤ) (b c : Bool) → b ≡ c → elim b as (λ _. ℤ) [ true ↦ here | false ↦ other ] ≡ elim c as (λ _. ℤ) [ true ↦ here | false ↦ other ]
chosen here other b c e = ap (λ (t : Bool). elim t as (λ _. ℤ) [ true ↦ here | false ↦ other ]) e

passed : (code : List ℕ) (key fallback : ℤ) (left at next : ℕ) → next ≡ at + 8 → same_int (s4 code at) key ≡ false → pair_jump code key fallback (suc left) at ≡ pair_jump code key fallback left next
passed code key fallback left at next e other =
    chosen (s4 code (at + 4)) (pair_jump code key fallback left (at + 8)) (same_int (s4 code at) key) false other ∙ ap (pair_jump code key fallback left) (sym e)

found : (code : List ℕ) (key fallback : ℤ) (left at : ℕ) → same_int (s4 code at) key ≡ true → pair_jump code key fallback (suc left) at ≡ s4 code (at + 4)
found code key fallback left at same = chosen (s4 code (at + 4)) (pair_jump code key fallback left (at + 8)) (same_int (s4 code at) key) true same

pub IsSearching-step : (code : List ℕ) (key fallback : ℤ) (pairs first pair : ℕ) → IsSearching code key fallback pairs first pair → pair + 1 ≤ pairs → same_int (s4 code (first + 8 * pair)) key ≡ false → IsSearching code key fallback pairs first (pair + 1)
IsSearching-step code key fallback pairs first pair v more other =
    record {
      left = λ left e.
          let next : first + 8 * (pair + 1) ≡ first + 8 * pair + 8 = omega arith in
          let one_more : pair + suc left ≡ pairs = omega arith in
          sym (passed code key fallback left (first + 8 * pair) (first + 8 * (pair + 1)) next other) ∙ v.left (suc left) one_more;
    }

pub IsSearching-found : (code : List ℕ) (key fallback : ℤ) (pairs first pair left : ℕ) → IsSearching code key fallback pairs first pair → pair + suc left ≡ pairs → same_int (s4 code (first + 8 * pair)) key ≡ true → s4 code (first + 8 * pair + 4) ≡ pair_jump code key fallback pairs first
IsSearching-found code key fallback pairs first pair left v e same =
    sym (found code key fallback left (first + 8 * pair) same) ∙ v.left (suc left) e

pub IsSearching-end : (code : List ℕ) (key fallback : ℤ) (pairs first pair : ℕ) → IsSearching code key fallback pairs first pair → pair ≡ pairs → fallback ≡ pair_jump code key fallback pairs first
IsSearching-end code key fallback pairs first pair v e = v.left 0 (omega arith)
