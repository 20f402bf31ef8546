-- Putting parts one after the other.
use Rattle.std.proofs.Common.{◌≡◌, ◌⊎◌, inl, inr, ℕ, ◌+◌, ◌<◌, ◌≤◌, Bool, true, false, List, [], ◌∷◌, ◌++◌, length, drop, get_or, refl, sym, ap, ◌∙◌, append_assoc, append-nil, drop-cons, add-one, ◌-◌, arith, length-append}
use Rattle.std.specs.Prelude.{◌||◌, codes, nat_lt}
use Rattle.std.specs.List.{flat_map}
use Rattle.std.proofs.lemmas.List.{drop_all}
use Rattle.vx_words.specs.Lines.{is_line_feed, parts}
use Rattle.vx_model.specs.declared.model.Model.{Model}
use Rattle.vx_explain.specs.declared.literal.Literal.{Literal}
use Rattle.vx_cut.specs.Cuts.{ArePut, is_large, is_oversized, joined, most_part_bytes}
use Rattle.vx_cut.specs.Texts.{line_with, lines_with, part_text, parts_from}
use Rattle.vx_cut.specs.declared.cutting.CutFault.{CutFault}
use Rattle.vx_cut.specs.declared.cutting.CutFault.TheVariants.{NoMemory, TooLarge}

-- ---- lines

-- a line more
pub lines_step : (dimacs : Bool) (model : Model) (more : ℕ) (front whole rest line after : List ℕ) → parts is_line_feed rest ≡ line ∷ parts is_line_feed after → front ++ lines_with dimacs model more rest ≡ whole
    → ((front ++ line_with dimacs model more line) ++ codes "\n") ++ lines_with dimacs model more after ≡ whole
unfolding lines_with
lines_step dimacs model more front whole rest line after cut so_far =
    let f = λ (l : List ℕ). line_with dimacs model more l ++ codes "\n" in
    append_assoc (front ++ line_with dimacs model more line) (codes "\n") (lines_with dimacs model more after)
    ∙ append_assoc front (line_with dimacs model more line) (codes "\n" ++ lines_with dimacs model more after)
    ∙ ap (λ t. front ++ t) (sym (append_assoc (line_with dimacs model more line) (codes "\n") (lines_with dimacs model more after)) ∙ ap (flat_map f) (sym cut))
    ∙ so_far

pub lines_done : (dimacs : Bool) (model : Model) (more : ℕ) (front whole rest : List ℕ) → rest ≡ [] → front ++ lines_with dimacs model more rest ≡ whole → front ≡ whole
unfolding lines_with
lines_done dimacs model more front whole rest e so_far = sym (append-nil front) ∙ ap (λ r. front ++ lines_with dimacs model more r) (sym e) ∙ so_far

-- how large what was put behind a text is
pub large_is : (before part after : List ℕ) (m n : ℕ) → after ≡ before ++ part → m ≡ length before → n ≡ length after → nat_lt most_part_bytes (n - m) ≡ is_large part
large_is before part after m n e f g = ap (nat_lt most_part_bytes) (omega (arith, f, g, ap length e, length-append before part))

-- ---- parts

-- what is put before the parts of the terms from one on
pub record IsPutting (dimacs : Bool) (text : List ℕ) (model : Model) (terms : List (List Literal)) (i : ℕ) (out : List ℕ) : Type 0 where
  pub whole : out ++ joined (parts_from dimacs text model (i + 1) (drop i terms)) ≡ joined (parts_from dimacs text model 1 terms)
  pub sized : is_oversized (parts_from dimacs text model (i + 1) (drop i terms)) ≡ is_oversized (parts_from dimacs text model 1 terms)

pub IsPutting-start : (dimacs : Bool) (text : List ℕ) (model : Model) (terms : List (List Literal)) → IsPutting dimacs text model terms 0 []
IsPutting-start dimacs text model terms = record { whole = refl; sized = refl }

here : (terms : List (List Literal)) (i : ℕ) (term : List Literal) → i < length terms → term ≡ get_or terms i term → drop i terms ≡ term ∷ drop (i + 1) terms
here terms i term l is = drop-cons terms i term l ∙ (λ k. sym is k ∷ drop (sym (add-one i) k) terms)

from_here : (dimacs : Bool) (text : List ℕ) (model : Model) (n : ℕ) (term : List Literal) (rest : List (List Literal)) → parts_from dimacs text model n (term ∷ rest) ≡ part_text dimacs text model n term ∷ parts_from dimacs text model (n + 1) rest
unfolding parts_from
from_here dimacs text model n term rest = refl

parts_at : (dimacs : Bool) (text : List ℕ) (model : Model) (terms : List (List Literal)) (i : ℕ) (term : List Literal) → i < length terms → term ≡ get_or terms i term
    → parts_from dimacs text model (i + 1) (drop i terms) ≡ part_text dimacs text model (i + 1) term ∷ parts_from dimacs text model (i + 1 + 1) (drop (i + 1) terms)
parts_at dimacs text model terms i term l is = ap (parts_from dimacs text model (i + 1)) (here terms i term l is) ∙ from_here dimacs text model (i + 1) term (drop (i + 1) terms)

pub IsPutting-step : (dimacs : Bool) (text : List ℕ) (model : Model) (terms : List (List Literal)) (i : ℕ) (term : List Literal) (out : List ℕ) → i < length terms → term ≡ get_or terms i term → is_large (part_text dimacs text model (i + 1) term) ≡ false
    → IsPutting dimacs text model terms i out → IsPutting dimacs text model terms (i + 1) (out ++ part_text dimacs text model (i + 1) term)
IsPutting-step dimacs text model terms i term out l is small h = record {
  whole = append_assoc out (part_text dimacs text model (i + 1) term) (joined (parts_from dimacs text model (i + 1 + 1) (drop (i + 1) terms)))
      ∙ ap (λ ps. out ++ joined ps) (sym (parts_at dimacs text model terms i term l is)) ∙ h.whole;
  sized = ap (λ b. b || is_oversized (parts_from dimacs text model (i + 1 + 1) (drop (i + 1) terms))) (sym small)
      ∙ ap is_oversized (sym (parts_at dimacs text model terms i term l is)) ∙ h.sized;
}

none_left : (dimacs : Bool) (text : List ℕ) (model : Model) (n : ℕ) → parts_from dimacs text model n [] ≡ []
unfolding parts_from
none_left dimacs text model n = refl

none_behind : (dimacs : Bool) (text : List ℕ) (model : Model) (terms : List (List Literal)) (i : ℕ) → length terms ≤ i → parts_from dimacs text model (i + 1) (drop i terms) ≡ []
none_behind dimacs text model terms i l = ap (parts_from dimacs text model (i + 1)) (drop_all i terms l) ∙ none_left dimacs text model (i + 1)

pub IsPutting-all : (dimacs : Bool) (text : List ℕ) (model : Model) (terms : List (List Literal)) (i : ℕ) (out : List ℕ) → length terms ≤ i → IsPutting dimacs text model terms i out
    → (out ≡ joined (parts_from dimacs text model 1 terms)) × (is_oversized (parts_from dimacs text model 1 terms) ≡ false)
IsPutting-all dimacs text model terms i out l h = (
  sym (append-nil out) ∙ ap (λ ps. out ++ joined ps) (sym (none_behind dimacs text model terms i l)) ∙ h.whole,
  sym h.sized ∙ ap is_oversized (none_behind dimacs text model terms i l),
)

-- a part that is too large
pub IsPutting-fails : (dimacs : Bool) (text : List ℕ) (model : Model) (terms : List (List Literal)) (i : ℕ) (term : List Literal) (out : List ℕ) (e : CutFault) → i < length terms → term ≡ get_or terms i term → IsPutting dimacs text model terms i out
    → (e ≡ NoMemory) ⊎ ((e ≡ TooLarge) × (is_large (part_text dimacs text model (i + 1) term) ≡ true)) → (e ≡ NoMemory) ⊎ ((e ≡ TooLarge) × (is_oversized (parts_from dimacs text model 1 terms) ≡ true))
IsPutting-fails dimacs text model terms i term out e l is h (inl m) = inl m
IsPutting-fails dimacs text model terms i term out e l is h (inr large) =
    inr (large.0, sym h.sized ∙ ap is_oversized (parts_at dimacs text model terms i term l is) ∙ ap (λ b. b || is_oversized (parts_from dimacs text model (i + 1 + 1) (drop (i + 1) terms))) large.1)
