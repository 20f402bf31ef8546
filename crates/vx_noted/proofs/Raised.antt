-- What is raised, by the number of its object.
use Rattle.std.proofs.Common.{◌≡◌, ℕ, ◌+◌, ◌-◌, Bool, true, false, List, arith, ap, eq-eqb, sym, subst, ◌∙◌}
use Rattle.std.proofs.lemmas.Bool.Decides.{nat_tests}
use Rattle.std.specs.Global.{Vec}
use Rattle.std.specs.Prelude.{IfOk, None, Option, Result, Some, if◌then◌else◌, option_map, ◌==◌}
use Rattle.vx_java.specs.Machine.{State, next_object}
use Rattle.vx_link.specs.declared.program.Program.{Program}
use Rattle.vx_noted.specs.Noted.{in_raised, in_wrapper, standings_of}
use Rattle.vx_noted.specs.declared.frames.Standing.{Standing}

differs : (a r : ℕ) → (a ≡ r → ⊥) → (a == r) ≡ false
differs a r other = grind (arith, nat_tests)

abbrev by_test : Program → State → ℕ → ℕ → ℕ → Bool → Option (List Standing)
by_test p s class objects r same = if same then Some (standings_of s) else in_wrapper p (next_object s + objects) class (standings_of s) r

pub raised_here : (p : Program) (s : State) (class texts r made : ℕ) (frames : List Standing) → made ≡ next_object s + texts → made ≡ r → frames ≡ standings_of s → Some frames ≡ in_raised p s class (texts + 1) r
raised_here p s class texts r made frames is here noted =
    let there : next_object s + (texts + 1) - 1 ≡ r = omega (arith, is, here) in
    ap (λ fs. Some fs) noted ∙ ap (by_test p s class (texts + 1) r) (sym (eq-eqb (next_object s + (texts + 1) - 1) r there))

pub raised_elsewhere : {E : Type 0} (result : Result (Option (Vec Standing)) E) (p : Program) (s : State) (class texts r made : ℕ) → made ≡ next_object s + texts → (made ≡ r → ⊥)
    → IfOk result (λ found. option_map (λ frames. frames.items) found ≡ in_wrapper p (made + 1) class (standings_of s) r)
    → IfOk result (λ found. option_map (λ frames. frames.items) found ≡ in_raised p s class (texts + 1) r)
raised_elsewhere result p s class texts r made is other found =
    let there : next_object s + (texts + 1) - 1 ≡ made = omega (arith, is) in
    let next : made + 1 ≡ next_object s + (texts + 1) = omega (arith, is) in
    let not_here : (next_object s + (texts + 1) - 1 == r) ≡ false = differs (next_object s + (texts + 1) - 1) r (λ e. other (sym there ∙ e)) in
    subst (λ x. IfOk result (λ found. option_map (λ frames. frames.items) found ≡ x)) (ap (λ n. in_wrapper p n class (standings_of s) r) next ∙ ap (by_test p s class (texts + 1) r) (sym not_here)) found
