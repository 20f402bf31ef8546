-- The pool that an instruction of a group names entries of.
use Rattle.std.specs.Prelude.{ℕ}
use Rattle.vx_group.specs.Group.{GroupView}
use Rattle.vx_group_states.specs.declared.site.Site.{Site}
use Rattle.vx_link.specs.Parts.{class_at, method_at}
use Rattle.vx_pool.specs.declared.pool.Pool.{Pool}

-- the class whose method a group runs
abbrev pub pool_class : {S I : Type 0} → Site → GroupView S I → ℕ
pool_class site group = (method_at site.program.now group.top.method.0).class.0

-- and its pool
abbrev pub pool_of : {S I : Type 0} → Site → GroupView S I → Pool
pool_of site group = (class_at site.program.now (pool_class site group)).pool
