use Rattle.std.proofs.Common.{◌≡◌, ◌∷◌, [], List, length, map, refl, sym, ap, ◌∙◌, append_assoc, append-nil, arith}
use Rattle.std.proofs.lemmas.List.{map-append}
use Rattle.std.specs.Vec.Iter.{into_iter_items}
use Rattle.vx_inputs.specs.declared.taken.Traced.{Traced}
use Rattle.vx_inputs.proofs.taken.parted.Goals as goal

nothing_left : {X : Type 0} (l : List X) → length l ≡ 0 → l ≡ []
nothing_left [] h = refl
nothing_left (x ∷ xs) h = absurd (omega arith)

pub loop-traced-preserved : goal.loop-traced-preserved
loop-traced-preserved c =
    let at = c.loop-traced in
    let x = c.in-Some.traced in
    let steps : into_iter_items at.traced-iterator ≡ x ∷ into_iter_items c.next.new.self = c.in-Some.ensures.steps.0 in
    let was = at.invariant.whole in
    let gone = c.in-Some.ensures.steps.1 in
    let short = ap length steps in
    record {
      left = append_assoc at.yielded (x ∷ []) _ ∙ rw (← steps) at.invariant.left;
      whole = omega arith;
      classes = c.in_ok-push.ensures.items ∙ rw at.invariant.classes (sym (map-append (λ (t : Traced). t.class) at.yielded (x ∷ [])));
      tables = c.in_ok-push-2.ensures.items ∙ rw at.invariant.tables (sym (map-append (λ (t : Traced). t.lines) at.yielded (x ∷ [])));
      files = c.in_ok-push-3.ensures.items ∙ rw at.invariant.files (sym (map-append (λ (t : Traced). t.file) at.yielded (x ∷ [])));
    }

pub returns : goal.returns
returns c =
    let at = c.loop-traced in
    let none = c.in-None.ensures.steps in
    let empty : into_iter_items at.traced-iterator ≡ [] = nothing_left _ (sym at.invariant.whole ∙ none.0) in
    let all = sym (append-nil at.yielded) ∙ rw empty at at.invariant.left ∙ c.into_iter-traced-iterator.ensures.into_iter_gives.0 in
    record {
      classes = at.invariant.classes ∙ ap (map (λ (t : Traced). t.class)) all;
      tables = at.invariant.tables ∙ ap (map (λ (t : Traced). t.lines)) all;
      files = at.invariant.files ∙ ap (map (λ (t : Traced). t.file)) all;
    }
