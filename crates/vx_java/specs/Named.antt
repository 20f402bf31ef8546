-- A member as an entry of a pool names it.
use Rattle.vx_java.specs.declared.references.MemberReference.{MemberReference}
use Rattle.vx_link.specs.Names as names

-- a member by its bytes
abbrev pub in_bytes : MemberReference → names.Member
in_bytes m = record { class = m.class.now; name = m.name.now; descriptor = m.descriptor.now; by_interface = m.by_interface }
