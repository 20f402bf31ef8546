-- Looking for the quote that ends a text.
use Rattle.std.proofs.Common.{◌≡◌, ℕ, suc, ◌+◌, ◌<◌, Bool, true, false, not, ◌&&◌, ◌==◌, List, [], ◌∷◌, length, drop, get_or, refl, sym, ap, ◌∙◌, arith, add-one, drop-cons}
use Rattle.std.specs.Prelude.{if◌then◌else◌}
use Rattle.vx_source_words.specs.Texts.{quote_place}

quote_step : (escaped : Bool) (i : ℕ) (text : List ℕ) → i < length text
    → quote_place escaped (drop i text) ≡ (if not escaped && (get_or text i 0 == 34) then 0 else suc (quote_place (not escaped && (get_or text i 0 == 92)) (drop (suc i) text)))
unfolding quote_place
quote_step escaped i text lt = ap (quote_place escaped) (drop-cons text i 0 lt)

pub quote_goes_on : (escaped next closing : Bool) (i : ℕ) (text : List ℕ) (total : ℕ) → i < length text → next ≡ (not escaped && (get_or text i 0 == 92))
    → closing ≡ (not escaped && (get_or text i 0 == 34)) → closing ≡ false → quote_place escaped (drop i text) + i ≡ total → quote_place next (drop (i + 1) text) + (i + 1) ≡ total
quote_goes_on escaped next closing i text total lt next_is closing_is unclosed so_far =
    let e : quote_place escaped (drop i text) ≡ suc (quote_place next (drop (suc i) text)) = quote_step escaped i text lt ∙ rw (sym closing_is ∙ unclosed, sym next_is) refl in
    rw add-one (omega (arith, e, so_far))

pub quote_ends : (escaped closing : Bool) (i : ℕ) (text : List ℕ) (total : ℕ) → i < length text
    → closing ≡ (not escaped && (get_or text i 0 == 34)) → closing ≡ true → quote_place escaped (drop i text) + i ≡ total → i ≡ total
quote_ends escaped closing i text total lt closing_is closed so_far =
    let e : quote_place escaped (drop i text) ≡ 0 = quote_step escaped i text lt ∙ rw (sym closing_is ∙ closed) refl in
    omega (arith, e, so_far)

nothing : (escaped : Bool) (rest : List ℕ) → length rest ≡ 0 → quote_place escaped rest ≡ 0
unfolding quote_place
nothing escaped [] e = refl
nothing escaped (b ∷ bs) e = absurd (omega arith)

pub quote_done : (escaped : Bool) (i : ℕ) (text : List ℕ) (total : ℕ) → i ≡ length text → length (drop i text) ≡ 0 → quote_place escaped (drop i text) + i ≡ total → length text ≡ total
quote_done escaped i text total e d so_far = let none = nothing escaped (drop i text) d in omega (arith, none, so_far, e)
