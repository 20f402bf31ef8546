-- Frames, from the last one of a list.
use Rattle.std.proofs.Common.{◌≡◌, List, [], ◌∷◌, ◌++◌, map, reverse, refl, sym, ap, ◌∙◌}
use Rattle.std.proofs.lemmas.List.{map-append, reverse-append}
use Rattle.vx_java.specs.Machine as machine
use Rattle.vx_noted.specs.Noted.{standing_at}
use Rattle.vx_noted.specs.declared.frames.Standing.{Standing}
use Rattle.vx_plain.specs.Views.{frame_of}
use Rattle.vx_plain.specs.declared.frame.Frame.{Frame}

map_back : {A B : Type 0} (f : A → B) (xs : List A) → map f (reverse xs) ≡ reverse (map f xs)
map_back f [] = refl
map_back f (x ∷ xs) =
    ap (map f) (reverse-append (x ∷ []) xs) ∙ map-append f (reverse xs) (x ∷ []) ∙ ap (λ ys. ys ++ f x ∷ []) (map_back f xs) ∙ sym (reverse-append (f x ∷ []) (map f xs))

pub turned : (below : List Standing) (callers : List Frame) (top : Standing) (f : machine.Frame) → below ≡ map standing_at (map frame_of callers) → top ≡ standing_at f
    → reverse (below ++ top ∷ []) ≡ standing_at f ∷ map standing_at (reverse (map frame_of callers))
turned below callers top f is at =
    reverse-append below (top ∷ []) ∙ (λ i. at i ∷ (ap reverse is ∙ sym (map_back standing_at (map frame_of callers))) i)
