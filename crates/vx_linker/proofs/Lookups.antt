-- Class files by the places of their names.
use Rattle.std.proofs.Common.{◌≡◌, ℕ, List, ◌++◌, ap, sym, ◌∙◌, Some, None, option_map, option_and_then, slice_get, length, bytes_eq, ◌+◌}
use Rattle.std.specs.Option.{option_or}
use Rattle.std.proofs.lemmas.List.{map-append}
use Rattle.vx_class.specs.declared.class_file.ClassFile.{ClassFile}
use Rattle.vx_names.specs.Names.{place_of}
use Rattle.vx_names.proofs.Keys.{place_of-map, position-append, find-position}
use Rattle.vx_link.specs.Faults.{name_of, file_named}
use Rattle.vx_link.specs.Tables.{names_of}

-- a name among those of the folder, and one that is not
pub place_first : (names rest : List (List ℕ)) (name : List ℕ) (place : ℕ) → Some place ≡ place_of names name → Some place ≡ place_of (names ++ rest) name
place_first names rest name place h = ap (λ o. option_or o (option_map (λ n. length names + n) (place_of rest name))) h ∙ sym (position-append (λ n. bytes_eq n name) names rest)

pub place_later : (names rest : List (List ℕ)) (name : List ℕ) → None ≡ place_of names name → option_map (λ n. length names + n) (place_of rest name) ≡ place_of (names ++ rest) name
place_later names rest name h = ap (λ o. option_or o (option_map (λ n. length names + n) (place_of rest name))) h ∙ sym (position-append (λ n. bytes_eq n name) names rest)

-- the class file at the place of a name
pub file_at_place : (all : List ClassFile) (name : List ℕ) → option_and_then (slice_get all) (place_of (names_of all) name) ≡ file_named all name
file_at_place all name = ap (option_and_then (slice_get all)) (place_of-map name_of all name) ∙ find-position (λ c. bytes_eq (name_of c) name) all

-- the tables of both give the place among all
pub place_numbered : (folder core : List ClassFile) (names rest : List (List ℕ)) (name : List ℕ) → names ≡ names_of folder → rest ≡ names_of core → place_of (names ++ rest) name ≡ place_of (names_of (folder ++ core)) name
place_numbered folder core names rest name e f = ap (λ ns. place_of (ns ++ rest) name) e ∙ ap (λ ns. place_of (names_of folder ++ ns) name) f ∙ ap (λ ns. place_of ns name) (sym (map-append name_of folder core))

-- the same, from what the tables say
pub file_there : (all : List ClassFile) (names : List (List ℕ)) (name : List ℕ) (place : ℕ) → names ≡ names_of all → Some place ≡ place_of names name → slice_get all place ≡ file_named all name
file_there all names name place e h = ap (option_and_then (slice_get all)) (h ∙ ap (λ ns. place_of ns name) e) ∙ file_at_place all name

pub file_absent : (all : List ClassFile) (names : List (List ℕ)) (name : List ℕ) → names ≡ names_of all → None ≡ place_of names name → None ≡ file_named all name
file_absent all names name e h = ap (option_and_then (slice_get all)) (h ∙ ap (λ ns. place_of ns name) e) ∙ file_at_place all name
