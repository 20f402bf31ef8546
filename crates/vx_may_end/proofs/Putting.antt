-- Steps of the loops that put lacks and spots one behind the other.
use Rattle.std.proofs.Common.{Bool, List, None, Option, Some, [], ap, append_assoc, arith, cond, filter, flat_map, if◌then◌else◌, length, map, refl, subst, suc, sym, true, zero, ℕ, ◌++◌, ◌+◌, ◌-◌, ◌<◌, ◌≤◌, ◌∙◌, ◌∷◌, ◌≡◌}
use Rattle.std.proofs.lemmas.Bool.{lt-ltb}
use Rattle.std.proofs.lemmas.Grind.{flat_map-append}
use Rattle.std.proofs.lemmas.List.{append-nil}
use Rattle.std.proofs.lemmas.List.Elements.{filter-append}
use Rattle.std.proofs.lemmas.Option.{same_Some}
use Rattle.std.specs.List.{cons_option, filter_map, list_all, range_with_len}
use Rattle.std.specs.Prelude.{option_map}
use Rattle.vx_class.specs.declared.class_file.Code.{Code}
use Rattle.vx_java.specs.Initialisation.{blocked}
use Rattle.vx_jump_targets.specs.Placed.{behind, starts_from}
use Rattle.vx_link.specs.Assignability.{assignable}
use Rattle.vx_link.specs.ClassNames.{object_class}
use Rattle.vx_link.specs.Parts.{class_count, method_at}
use Rattle.vx_link.specs.declared.program.Program.{Program}
use Rattle.vx_opcode.specs.Decode.{instruction_at}
use Rattle.vx_opcode.specs.declared.instruction.Instruction.{Instruction}
use Rattle.vx_verify.proofs.ShortCodes.{is_short}
use Rattle.vx_verify.specs.Verdict.{has_short_code}
use Rattle.vx_may_end.specs.Lacks.{of_blocking, of_receiver, of_receivers, takes_arrays}
use Rattle.vx_may_end.specs.declared.lack.Lack.{Lack}

-- ---- classes one above the other

abbrev pub blocking_all : Program → List ℕ → List Lack
blocking_all p classes = map (of_blocking p) (filter_map (blocked p) classes)

first_blocking : (p : Program) (c : ℕ) (classes : List ℕ) → blocking_all p (c ∷ classes) ≡ map (of_blocking p) (cons_option (blocked p c) []) ++ blocking_all p classes
first_blocking p c classes = by (blocked p c)
  where
    by : (o : Option ℕ) → map (of_blocking p) (cons_option o (filter_map (blocked p) classes)) ≡ map (of_blocking p) (cons_option o []) ++ blocking_all p classes
    by (Some i) = refl
    by None = refl

pub blocking_step : (p : Program) (out total : List Lack) (c : ℕ) (all classes : List ℕ) → all ≡ c ∷ classes → out ++ blocking_all p all ≡ total
    → (out ++ map (of_blocking p) (cons_option (blocked p c) [])) ++ blocking_all p classes ≡ total
blocking_step p out total c all classes is e =
    append_assoc out (map (of_blocking p) (cons_option (blocked p c) [])) (blocking_all p classes)
    ∙ ap (λ ls. out ++ ls) (sym (first_blocking p c classes))
    ∙ ap (λ cs. out ++ blocking_all p cs) (sym is)
    ∙ e

-- ---- numbers one behind the other

pub range_more : (a n : ℕ) → range_with_len a (suc n) ≡ range_with_len a n ++ ((a + n) ∷ [])
range_more a zero = ap (λ (k : ℕ). k ∷ []) (omega arith)
range_more a (suc n) =
    let same : a + 1 + n ≡ a + suc n = omega arith in
    ap (λ xs. a ∷ xs) (range_more (a + 1) n) ∙ ap (λ (k : ℕ). a ∷ (range_with_len (a + 1) n ++ (k ∷ []))) same

next_range : (n : ℕ) → range_with_len 0 (n + 1) ≡ range_with_len 0 n ++ (n ∷ [])
next_range n =
    let one : n + 1 ≡ suc n = omega arith in
    let none : 0 + n ≡ n = omega arith in
    ap (range_with_len 0) one ∙ range_more 0 n ∙ ap (λ (k : ℕ). range_with_len 0 n ++ (k ∷ [])) none

-- one more number that passes a test, or does not
pub filtered_step : {A : Type 0} (f : ℕ → List A) (test : ℕ → Bool) (before out : List A) (n : ℕ) → out ≡ before ++ flat_map f (filter test (range_with_len 0 n))
    → out ++ flat_map f (cond (test n) (n ∷ []) []) ≡ before ++ flat_map f (filter test (range_with_len 0 (n + 1)))
filtered_step f test before out n e =
    ap (λ xs. xs ++ flat_map f (cond (test n) (n ∷ []) [])) e
    ∙ append_assoc before (flat_map f (filter test (range_with_len 0 n))) (flat_map f (cond (test n) (n ∷ []) []))
    ∙ ap (λ xs. before ++ xs) (sym (flat_map-append f (filter test (range_with_len 0 n)) (cond (test n) (n ∷ []) [])))
    ∙ ap (λ xs. before ++ flat_map f xs) (sym (filter-append test (range_with_len 0 n) (n ∷ [])))
    ∙ ap (λ xs. before ++ flat_map f (filter test xs)) (sym (next_range n))

pub ranged_step : {A : Type 0} (f : ℕ → List A) (before out : List A) (n : ℕ) → out ≡ before ++ flat_map f (range_with_len 0 n)
    → out ++ f n ≡ before ++ flat_map f (range_with_len 0 (n + 1))
ranged_step f before out n e =
    ap (λ xs. xs ++ f n) e
    ∙ append_assoc before (flat_map f (range_with_len 0 n)) (f n)
    ∙ ap (λ xs. before ++ (flat_map f (range_with_len 0 n) ++ xs)) (sym (append-nil (f n)))
    ∙ ap (λ xs. before ++ xs) (sym (flat_map-append f (range_with_len 0 n) (n ∷ [])))
    ∙ ap (λ xs. before ++ flat_map f xs) (sym (next_range n))

pub nothing_more : {A : Type 0} (xs ys : List A) → xs ≡ ys → xs ≡ ys ++ []
nothing_more xs ys e = e ∙ sym (append-nil ys)

-- all receivers are passed
pub receivers_done : (p : Program) (named resolved : ℕ) (before middle out : List Lack) (n : ℕ) → n ≡ class_count p
    → middle ≡ before ++ flat_map (of_receiver p resolved) (if takes_arrays p named then object_class p ∷ [] else [])
    → out ≡ middle ++ flat_map (of_receiver p resolved) (filter (λ c. assignable p c named) (range_with_len 0 n))
    → out ≡ before ++ of_receivers p named resolved
receivers_done p named resolved before middle out n all first e =
    let f : ℕ → List Lack = of_receiver p resolved in
    let arrays : List ℕ = if takes_arrays p named then object_class p ∷ [] else [] in
    let others : ℕ → List ℕ = λ k. filter (λ c. assignable p c named) (range_with_len 0 k) in
    e
    ∙ ap (λ xs. xs ++ flat_map f (others n)) first
    ∙ append_assoc before (flat_map f arrays) (flat_map f (others n))
    ∙ ap (λ xs. before ++ xs) (sym (flat_map-append f arrays (others n)))
    ∙ ap (λ k. before ++ flat_map f (arrays ++ others k)) all

-- ---- positions one behind the other

-- the positions that are left begin with one within the code
first_start : (code : List ℕ) (left at : ℕ) → at < length code → 0 < left → starts_from code left at ≡ at ∷ behind (instruction_at code at) (λ len. starts_from code (left - 1) (at + len))
first_start code zero at inside some = absurd (omega (arith, some))
first_start code (suc left) at inside some =
    let one : suc left - 1 ≡ left = omega arith in
    rw (lt-ltb at (length code) inside, one) refl

module _ {A : Type 0} (f : ℕ → List A) (code : List ℕ) (out total : List A) (left at : ℕ) where
  abbrev IsLeft : List ℕ → Type 0
  IsLeft positions = out ++ flat_map f positions ≡ total

  passed : (rest : List ℕ) → IsLeft (at ∷ rest) → (out ++ f at) ++ flat_map f rest ≡ total
  passed rest e = append_assoc out (f at) (flat_map f rest) ∙ e

  pub start_step : (size : ℕ) → at < length code → 0 < left → option_map (λ i. i.length) (instruction_at code at) ≡ Some size → IsLeft (starts_from code left at)
      → (out ++ f at) ++ flat_map f (starts_from code (left - 1) (at + size)) ≡ total
  start_step size inside some is e = by (instruction_at code at) is (ap (λ cs. out ++ flat_map f cs) (sym (first_start code left at inside some)) ∙ e)
    where
      by : (o : Option Instruction) → option_map (λ i. i.length) o ≡ Some size → IsLeft (at ∷ behind o (λ len. starts_from code (left - 1) (at + len)))
          → (out ++ f at) ++ flat_map f (starts_from code (left - 1) (at + size)) ≡ total
      by None wrong g = absurd cc
      by (Some i) same g =
          passed (starts_from code (left - 1) (at + size)) (subst (λ (n : ℕ). IsLeft (at ∷ starts_from code (left - 1) (at + n))) (same_Some i.length size same) g)

-- ---- codes

pub short_code : (p : Program) (m : ℕ) (code : Code) → list_all (λ k. has_short_code k.code) p.methods ≡ true → (method_at p m).code ≡ Some code → length code.bytes ≤ 65535
short_code p m code all is =
    let less = is_short p m code all is in
    omega (arith, less)
