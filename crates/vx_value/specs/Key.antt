-- The order of keys.
use Rattle.std.specs.Prelude.{List, length}
use Rattle.std.specs.declared.cmp.Ordering.{Ordering}
use Rattle.std.specs.Ordering.{nat_cmp, on, flip_args, then_cmp}
use Rattle.std.specs.Cmp.Lexicographic.{slice_cmp}
use Rattle.vx_value.specs.declared.key.KeyPart.{KeyPart}
use Rattle.vx_value.specs.contracts.key.KeyPartOrd.TheImpl as part_ord

-- parts go by method number, then position, then depth, then kind, with Call before Wait before Init
abbrev pub part_cmp : KeyPart → KeyPart → Ordering
part_cmp = part_ord.ghosts.cmp

-- the key with more frames is first; of two with equally many, the one whose parts from bottom to top are the lesser list
abbrev pub key_cmp : List KeyPart → List KeyPart → Ordering
key_cmp = then_cmp (flip_args (on length nat_cmp)) (slice_cmp part_cmp)
