-- What is left of a group that is divided.
use Rattle.std.specs.Prelude.{◌≡◌, Option, Some, None, ◌&&◌, not}
use Rattle.vx_space.specs.Sets.{Sets}
use Rattle.vx_group.specs.Group.{GroupView, IsPartOf, path_of}

-- what is left of a group whose part in a condition was taken: the part outside of it, or nothing where the condition is the path
abbrev pub IsLeft : {S I : Type 0} → Sets I → Sets I → GroupView S I → I → Option (GroupView S I) → Type 0
IsLeft old new group condition None = path_of group ≡ condition
IsLeft old new group condition (Some rest) = IsPartOf old new (λ c. old.test (path_of group) c && not (old.test condition c)) group rest
