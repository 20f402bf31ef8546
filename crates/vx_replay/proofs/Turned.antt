-- Where frames stand, from the last one of a list.
use Rattle.std.proofs.Common.{◌≡◌, ℕ, List, [], ◌∷◌, ◌++◌, map, reverse, refl, sym, ap, ◌∙◌}
use Rattle.std.proofs.lemmas.List.{map-append, reverse-append}
use Rattle.vx_java.specs.Machine as machine
use Rattle.vx_plain.specs.Views.{frame_of}
use Rattle.vx_plain.specs.declared.frame.Frame.{Frame}
use Rattle.vx_replay.specs.Replays.{places_in}
use Rattle.vx_replay.specs.declared.running.Place.{Place}

map_back : {A B : Type 0} (f : A → B) (xs : List A) → map f (reverse xs) ≡ reverse (map f xs)
map_back f [] = refl
map_back f (x ∷ xs) =
    ap (map f) (reverse-append (x ∷ []) xs) ∙ map-append f (reverse xs) (x ∷ []) ∙ ap (λ ys. ys ++ f x ∷ []) (map_back f xs) ∙ sym (reverse-append (f x ∷ []) (map f xs))

-- where a frame stands
abbrev stands_at : machine.Frame → ℕ × ℕ
stands_at f = (f.method, f.position)

abbrev shown : Place → ℕ × ℕ
shown at = (at.method.0, at.position)

pub turned : (below : List Place) (callers : List Frame) (top : Place) (f : machine.Frame) → places_in below ≡ map (λ f. (f.method, f.position)) (map frame_of callers) → top.method.0 ≡ f.method → top.position ≡ f.position
    → places_in (reverse (below ++ top ∷ [])) ≡ (f.method, f.position) ∷ map (λ f. (f.method, f.position)) (reverse (map frame_of callers))
turned below callers top f is method position =
    ap places_in (reverse-append below (top ∷ []))
    ∙ (λ i. (method i, position i) ∷ (map_back shown below ∙ ap reverse is ∙ sym (map_back stands_at (map frame_of callers))) i)
