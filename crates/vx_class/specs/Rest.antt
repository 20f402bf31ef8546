-- Members, from behind their names and descriptors on.
use Rattle.std.specs.Prelude.{ℕ, List, Bool, Ok, is_some, unwrap_or, not, ◌||◌}
use Rattle.vx_pool.specs.declared.pool.Pool.{Pool}
use Rattle.vx_pool.specs.Place.{Place}
use Rattle.vx_pool.specs.Reading.{Read, ◌>>=◌, check}
use Rattle.vx_class.specs.declared.class_file.Field.{Field}
use Rattle.vx_class.specs.declared.class_file.Method.{Method}
use Rattle.vx_class.specs.Members.{has, STATIC, constant_among, code_among, takes_code, slots_of, is_lawful_initialiser}

-- a field behind its flags, the index of its name, and the index and the text of its descriptor
abbrev pub field_behind : Pool → Bool → ℕ → ℕ → ℕ → List ℕ → Place → Read Field
field_behind pool interface flags name descriptor text s = do
  constant ← constant_among pool (interface || has flags STATIC) text s
  Ok (record { flags = flags; name = name; descriptor = descriptor; constant = unwrap_or constant.0 0 }, constant.1)

-- a method behind the same; it stands at a place, and its descriptor at another
abbrev pub method_behind : Pool → ℕ → ℕ → ℕ → ℕ → ℕ → List ℕ → ℕ → List ℕ → Place → Read Method
method_behind pool major at place flags name name_text descriptor text s =
    check (is_lawful_initialiser name_text text) place 8 (do
      code ← code_among pool major (slots_of flags name_text text) (takes_code flags name_text) s
      check (not (takes_code flags name_text) || is_some code.0) at 12
          (Ok (record { flags = flags; name = name; descriptor = descriptor; code = code.0 }, code.1)))
