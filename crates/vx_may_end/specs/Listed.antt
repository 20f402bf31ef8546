-- The spots at which a run may end as unsupported, and the law that there is no other one (own).
use Rattle.std.specs.List.{list_any, range_with_len}
use Rattle.std.specs.Prelude.{All, Bool, List, None, Ok, Option, Some, [], bytes_eq, flat_map, length, true, ℕ, ◌&&◌, ◌++◌, ◌==◌, ◌∷◌, ◌≡◌}
use Rattle.vx_class.specs.File.{Holds}
use Rattle.vx_class.specs.declared.class_file.ClassFile.{ClassFile}
use Rattle.vx_class.specs.declared.class_file.Code.{Code}
use Rattle.vx_java.specs.Machine.{place_at}
use Rattle.vx_java.specs.Step.{Config, run}
use Rattle.vx_jump_targets.specs.Placed.{starts_in}
use Rattle.vx_link.specs.Linked.{linked_program}
use Rattle.vx_link.specs.Parts.{method_at}
use Rattle.vx_link.specs.declared.program.Program.{Program}
use Rattle.vx_model.specs.declared.model.OptionField.{OptionField}
use Rattle.vx_value.specs.declared.end.End.{End}
use Rattle.vx_value.specs.declared.end.End.TheVariants.{Unsupported}
use Rattle.vx_may_end.specs.Lacks.{lacks_at, of_initialisation}
use Rattle.vx_may_end.specs.declared.lack.Lack.{Lack}
use Rattle.vx_may_end.specs.declared.lack.Spot.{Spot}

-- an instruction that lacks something
abbrev pub spot_of : (method position : ℕ) → List Lack → List Spot
spot_of m position [] = []
spot_of m position (l ∷ ls) = record { method = record { 0 = m }; position = position; lacks = l ∷ ls } ∷ []

abbrev pub spots_at : Program → (method position : ℕ) → List Spot
spots_at p m position = spot_of m position (lacks_at p m position)

abbrev pub positions_of : Option Code → List ℕ
positions_of None = []
positions_of (Some code) = starts_in code

abbrev pub spots_of : Program → (method : ℕ) → List Spot
spots_of p m = flat_map (spots_at p m) (positions_of (method_at p m).code)

-- the start initialises the class of main, and stands at the first position of main
abbrev pub first_spots : Program → List Spot
first_spots p = spot_of p.main.0 0 (of_initialisation p (method_at p p.main.0).class.0)

-- the start first, then method by method each instruction
abbrev pub spots : Program → List Spot
spots p = first_spots p ++ flat_map (spots_of p) (range_with_len 0 (length p.methods))

-- a lack of this word and this name
abbrev pub is_one : (word : ℕ) → (what : List ℕ) → Lack → Bool
is_one word what l = (l.word == word) && bytes_eq l.what what

abbrev pub is_lack : List Lack → (word : ℕ) → (what : List ℕ) → Bool
is_lack ls word what = list_any (is_one word what) ls

-- a spot tells an end as unsupported
abbrev pub tells : Program → (word : ℕ) → (what place : List ℕ) → Spot → Bool
tells p word what place s = is_lack s.lacks word what && bytes_eq (place_at p s.method.0 s.position) place

-- an end as unsupported is told by a spot
abbrev pub is_told : Program → End → Bool
is_told p (Unsupported word what place) = list_any (tells p word what place) (spots p)
is_told p _ = true

abbrev pub AllListed : Type 0
AllListed =
    (classes : List ClassFile) (options : List OptionField) (main : List ℕ) (p : Program) (config : Config) (limit : ℕ)
    → All Holds classes → linked_program classes options main ≡ Ok p → is_told p (run p config limit).end ≡ true
