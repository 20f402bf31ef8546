-- What begins by the rise of a configuration is what the ordinary machine says.
use Rattle.std.proofs.Common.{◌≡◌, ℕ, ◌+◌, ◌<◌, zero, suc, Bool, true, false, List, [], ◌∷◌, refl, sym, ◌∙◌, ap, arith, cond, length}
use Rattle.std.proofs.lemmas.Bool.{lt-ltb}
use Rattle.std.specs.List.{range_with_len}
use Rattle.std.specs.Prelude.{Option, Some, None, ◌&&◌, find, if◌then◌else◌, reverse}
use Rattle.vx_families.specs.Changing.{with_globals}
use Rattle.vx_java.proofs.Chains.{begins_with}
use Rattle.vx_java.specs.Initialisation.{begin, begin_chain, blocked, blocks, chain_blocked, has_failed, pushed_chain, with_frames}
use Rattle.vx_java.specs.Machine.{Go, Outcome, Raise, State, depth, unsupported_in, when, with_inits}
use Rattle.vx_java.specs.Operation.{class_word}
use Rattle.vx_link.specs.ClassNames.{class_text, core_class}
use Rattle.vx_link.specs.Hierarchy.{is_among, superclasses, superinterfaces}
use Rattle.vx_link.specs.Parts.{class_at, class_count, is_interface}
use Rattle.vx_link.specs.declared.program.Program.{Program}
use Rattle.vx_ready.proofs.Rows.{globals_of}
use Rattle.vx_ready.specs.Initialising.{with_state}
use Rattle.vx_value.specs.declared.slot.InitState.TheVariants.{Running, Failed}
use Rattle.vx_init.proofs.RiseLaws.{IsRise, chain_is_first, first_begun, rise_is}
use Rattle.vx_init.specs.Rising.{begun_by, first_above, marked_by, pushed, rise_of, running, too_many}
use Rattle.vx_init.specs.declared.rise.Rise.{Rise}
use Rattle.vx_init.specs.declared.rise.Rise.TheVariants.{Open, Begins, Fails, Blocked}

-- ---- blocking interfaces are classes of the program

some_injective : {a b : ℕ} → Some a ≡ Some b → a ≡ b
some_injective h = cc h

found_within : (f : ℕ → Bool) (from n i : ℕ) → find f (range_with_len from n) ≡ Some i → i < from + n
found_within f from zero i h = cc h
found_within f from (suc n) i h = cases (found_within f (from + 1) n i) (f from) h
  where
    cases : (find f (range_with_len (from + 1) n) ≡ Some i → i < from + 1 + n) → (b : Bool) → cond b (Some from) (find f (range_with_len (from + 1) n)) ≡ Some i → i < from + suc n
    cases rest true h =
        let e : from ≡ i = some_injective h in
        omega (arith, e)
    cases rest false h = let l = rest h in omega (arith, l)

blocked_within : (p : Program) (c i : ℕ) → blocked p c ≡ Some i → i < class_count p
blocked_within p c i h = cases (is_interface p c) h
  where
    cases : (b : Bool) → elim b [ true ↦ None | false ↦ find (λ i. blocks p i && is_among i (superinterfaces p c)) (range_with_len 0 (class_count p)) ] ≡ Some i → i < class_count p
    cases true h = cc h
    cases false h = let l = found_within (λ i. blocks p i && is_among i (superinterfaces p c)) 0 (class_count p) i h in omega (arith, l)

pub blocking_within : (p : Program) (cs : List ℕ) (i : ℕ) → chain_blocked p cs ≡ Some i → i < class_count p
blocking_within p [] i h = cc h
blocking_within p (c ∷ cs) i h = cases (blocking_within p cs i) (blocked p c) refl h
  where
    cases : (chain_blocked p cs ≡ Some i → i < class_count p) → (o : Option ℕ) → blocked p c ≡ o → elim o [ Some i ↦ Some i | None ↦ chain_blocked p cs ] ≡ Some i → i < class_count p
    cases rest (Some j) e h = blocked_within p c i (e ∙ h)
    cases rest None e h = rest h

pub class_text-within : (p : Program) (i : ℕ) → i < class_count p → class_text p i ≡ (class_at p i).name
class_text-within p i l = rw (lt-ltb i (class_count p) l) refl

-- ---- the state with the marks

abbrev runs_on : Program → List ℕ → State → Bool → Outcome
runs_on p chain s b = when b (Raise (core_class p "java/lang/StackOverflowError") None s) (Go (pushed_chain p s chain))

-- the frames above the marks, or none of both
pushed_marked : (p : Program) (chain : List ℕ) (s : State) → pushed p chain (with_globals s (running (depth s) chain (globals_of s))) ≡ runs_on p chain s (too_many (depth s) chain)
pushed_marked p chain s = cases (too_many (depth s) chain)
  where
    cases : (b : Bool) → when b (Raise (core_class p "java/lang/StackOverflowError") None (with_globals s (if b then globals_of s else with_state Running chain (globals_of s)))) (Go (with_frames p (with_globals s (if b then globals_of s else with_state Running chain (globals_of s))) (reverse chain))) ≡ runs_on p chain s b
    cases true = refl
    cases false = refl

module _ (p : Program) (s : State) (class : ℕ) where
  abbrev chain : List ℕ
  chain = begins_with s.inits (superclasses p class)

  abbrev after_marks : Rise → Outcome
  after_marks rise = begun_by p class rise (with_globals s (marked_by p class (depth s) rise (globals_of s)))

  -- no interface is in the way, and the class above has not failed
  begins : (many : List ℕ) → many ≡ chain → chain_blocked p chain ≡ None → has_failed s.inits (first_begun s.inits (superclasses p class)) ≡ false → begin p s class ≡ pushed p many (with_globals s (running (depth s) many (globals_of s)))
  begins many e free kept =
      ap (begin_chain p s class chain) free
      ∙ ap (λ b. when b (Raise (core_class p "java/lang/NoClassDefFoundError") None (with_inits s Failed chain)) (runs_on p chain s (too_many (depth s) chain))) kept
      ∙ sym (pushed_marked p chain s)
      ∙ ap (λ cs. pushed p cs (with_globals s (running (depth s) cs (globals_of s)))) (sym e)

  -- it has failed
  fails : (many : List ℕ) → many ≡ chain → chain_blocked p chain ≡ None → has_failed s.inits (first_begun s.inits (superclasses p class)) ≡ true → begin p s class ≡ Raise (core_class p "java/lang/NoClassDefFoundError") None (with_globals s (with_state Failed many (globals_of s)))
  fails many e free failed =
      ap (begin_chain p s class chain) free
      ∙ ap (λ b. when b (Raise (core_class p "java/lang/NoClassDefFoundError") None (with_inits s Failed chain)) (runs_on p chain s (too_many (depth s) chain))) failed
      ∙ ap (λ cs. Raise (core_class p "java/lang/NoClassDefFoundError") None (with_globals s (with_state Failed cs (globals_of s)))) (sym e)

  first_many : (n : ℕ) → n ≡ 0 + length chain → first_above p class n ≡ chain
  first_many n h =
      let same : n ≡ length chain = omega (arith, h) in
      ap (first_above p class) same ∙ chain_is_first p s.inits (class_count p) (Some class)

  by_rise : (rise : Rise) → IsRise p s.inits 0 (superclasses p class) rise → begin p s class ≡ after_marks rise
  by_rise Open h = begins (first_above p class (class_count p)) (sym h.0) h.1 h.2
  by_rise (Begins n) h = begins (first_above p class n) (first_many n h.0) h.1 h.2
  by_rise (Fails n) h = fails (first_above p class n) (first_many n h.0) h.1 h.2
  by_rise (Blocked i) h = ap (begin_chain p s class chain) h ∙ ap (unsupported_in p s class_word) (class_text-within p i.0 (blocking_within p chain i.0 h))

  pub begun_as : begin p s class ≡ after_marks (rise_of p s.inits class)
  begun_as = by_rise (rise_of p s.inits class) (rise_is p s.inits class)
