-- What comes of answers that go by places, at one configuration.
use Rattle.std.proofs.Common.{◌≡◌, ℕ, Bool, List, ◌∷◌, ◌∙◌, ap}
use Rattle.std.specs.Prelude.{Some}
use Rattle.vx_space.specs.Sets.{Sets}
use Rattle.vx_group_states.specs.Answering.{answered}
use Rattle.vx_group_states.specs.declared.answer.Answer.{Answer}
use Rattle.vx_group_states.specs.declared.answer.Answer.TheVariants as answer
use Rattle.vx_heap.specs.Heap.{HeapView, globals_at, name_at}
use Rattle.vx_java.specs.Machine.{Here, Outcome, Value, Raise, go, no_object}
use Rattle.vx_java.specs.Machine.{Top as TopValue}
use Rattle.vx_link.specs.ClassNames.{core_class}
use Rattle.vx_list.specs.Places.{item_or}
use Rattle.vx_cells.specs.Through.{IsAnswered, IsGivenFrom, IsPass, by_place}
use Rattle.vx_cells.specs.declared.place.Place.{Place}
use Rattle.vx_cells.specs.declared.place.Place.TheVariants.{At, Illegal, Null, Outside, Refused}

-- the answers of places that are no cells are what the row says of them
pub answered_place : {S I : Type 0} (sets : Sets I) (heap : HeapView S I) (c : List Bool) (h : Here) (rest : List Value) (cell : ℕ → ℕ → Answer → Type 0) (next : ℕ → ℕ → Outcome) (place : Place) (a : Answer) → ((r i : ℕ) → cell r i a → answered sets heap c h rest a ≡ next (name_at sets heap.objects c r) i) → IsAnswered h.program heap cell place a → answered sets heap c h rest a ≡ by_place sets heap c h next place
answered_place sets heap c h rest cell next Illegal a law is = ap (answered sets heap c h rest) is
answered_place sets heap c h rest cell next Null a law is = ap (answered sets heap c h rest) is
answered_place sets heap c h rest cell next (Outside i) a law is =
    ap (answered sets heap c h rest) is.is
    ∙ ap (λ units. Raise (core_class h.program "java/lang/ArrayIndexOutOfBoundsException") (Some units) h.state) is.number.text
answered_place sets heap c h rest cell next Refused a law is = ap (answered sets heap c h rest) is
answered_place sets heap c h rest cell next (At r i) a law is = law r i is

-- the value of a cell is given
pub answered_given : {S I : Type 0} (sets : Sets I) (heap : HeapView S I) (c : List Bool) (h : Here) (rest : List Value) (r i : ℕ) (a : Answer) → IsGivenFrom sets heap c r i a → answered sets heap c h rest a ≡ go h (item_or (item_or (globals_at sets heap c).objects (name_at sets heap.objects c r) no_object).cells i TopValue ∷ rest)
answered_given sets heap c h rest r i a is = ap (answered sets heap c h rest) is.is ∙ ap (λ v. go h (v ∷ rest)) is.value

-- a cell is passed
pub answered_passed : {S I : Type 0} (sets : Sets I) (heap : HeapView S I) (c : List Bool) (h : Here) (rest : List Value) (r i : ℕ) (a : Answer) → IsPass r i a → answered sets heap c h rest a ≡ go h rest
answered_passed sets heap c h rest r i a is = ap (answered sets heap c h rest) is
