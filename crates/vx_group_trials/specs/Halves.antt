-- The groups that trials begin with.
use Rattle.std.specs.Prelude.{◌≡◌, [], None, length}
use Rattle.vx_value.specs.declared.ids.MethodId.{MethodId}
use Rattle.vx_value.specs.declared.key.Kind.TheVariants.{Call}
use Rattle.vx_space.specs.Sets.{Sets}
use Rattle.vx_cond.specs.Cond.{AreDisjoint}
use Rattle.vx_frame.specs.Frame.{Shape, shape_of}
use Rattle.vx_group.specs.Group.{GroupView, path_of, IsGroup}

-- the frame of a method that begins, with one local
abbrev pub first_shape : MethodId → Shape
first_shape method = record { part = record { method = method; position = 0; depth = 0; kind = Call }; locals = 1 }

-- a group of one frame, which has one local
pub record IsSingle {S I : Type 0} (sets : Sets I) (group : GroupView S I) : Type 0 where
  pub is_group : IsGroup sets group
  pub below : group.below ≡ []
  pub caller : group.caller ≡ None
  pub locals : length group.top.locals.conds ≡ 1

-- two groups of one frame and one shape, and of different configurations
pub record AreHalves {S I : Type 0} (sets : Sets I) (first second : GroupView S I) : Type 0 where
  pub is_first : IsSingle sets first
  pub is_second : IsSingle sets second
  pub shapes : shape_of first.top ≡ shape_of second.top
  pub apart : AreDisjoint sets (path_of first) (path_of second)
