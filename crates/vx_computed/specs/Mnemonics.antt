-- The instructions of the computed examples (JVMS 7): a jump by its distance, a pool entry by its place among the references of the class.
use Rattle.std.specs.Prelude.{List, [], flat_map, length, replicate, ℕ, ◌%◌, ◌++◌, ◌+◌, ◌-◌, ◌/◌, ◌∷◌}
use Rattle.vx_link.specs.Written.{Item, jump, naming, plain, two_bytes}

abbrev pub four_bytes : ℕ → List ℕ
four_bytes n = two_bytes (n / 65536) ++ two_bytes (n % 65536)

-- a jump backward
abbrev pub back : ℕ → ℕ
back n = 65536 - n

abbrev pub nop : Item
nop = plain 0x00 []

abbrev pub iconst_m1 : Item
iconst_m1 = plain 0x02 []

abbrev pub iconst_0 : Item
iconst_0 = plain 0x03 []

abbrev pub iconst_1 : Item
iconst_1 = plain 0x04 []

abbrev pub iconst_2 : Item
iconst_2 = plain 0x05 []

abbrev pub iconst_3 : Item
iconst_3 = plain 0x06 []

abbrev pub iconst_4 : Item
iconst_4 = plain 0x07 []

abbrev pub iconst_5 : Item
iconst_5 = plain 0x08 []

abbrev pub lconst_1 : Item
lconst_1 = plain 0x0a []

abbrev pub fconst_0 : Item
fconst_0 = plain 0x0b []

abbrev pub bipush : ℕ → Item
bipush n = plain 0x10 (n ∷ [])

abbrev pub sipush : ℕ → Item
sipush n = plain 0x11 (two_bytes n)

abbrev pub iload : ℕ → Item
iload local = plain 0x15 (local ∷ [])

abbrev pub aload : ℕ → Item
aload local = plain 0x19 (local ∷ [])

abbrev pub iload_0 : Item
iload_0 = plain 0x1a []

abbrev pub iload_1 : Item
iload_1 = plain 0x1b []

abbrev pub iload_2 : Item
iload_2 = plain 0x1c []

abbrev pub lload_1 : Item
lload_1 = plain 0x1f []

abbrev pub aload_3 : Item
aload_3 = plain 0x2d []

abbrev pub iaload : Item
iaload = plain 0x2e []

abbrev pub aaload : Item
aaload = plain 0x32 []

abbrev pub istore : ℕ → Item
istore local = plain 0x36 (local ∷ [])

abbrev pub astore : ℕ → Item
astore local = plain 0x3a (local ∷ [])

abbrev pub istore_1 : Item
istore_1 = plain 0x3c []

abbrev pub istore_2 : Item
istore_2 = plain 0x3d []

abbrev pub lstore_1 : Item
lstore_1 = plain 0x40 []

abbrev pub astore_3 : Item
astore_3 = plain 0x4e []

abbrev pub iastore : Item
iastore = plain 0x4f []

abbrev pub aastore : Item
aastore = plain 0x53 []

abbrev pub pop : Item
pop = plain 0x57 []

abbrev pub pop2 : Item
pop2 = plain 0x58 []

abbrev pub dup_x1 : Item
dup_x1 = plain 0x5a []

abbrev pub swap : Item
swap = plain 0x5f []

abbrev pub iadd : Item
iadd = plain 0x60 []

abbrev pub isub : Item
isub = plain 0x64 []

abbrev pub imul : Item
imul = plain 0x68 []

abbrev pub lmul : Item
lmul = plain 0x69 []

abbrev pub idiv : Item
idiv = plain 0x6c []

abbrev pub iand : Item
iand = plain 0x7e []

abbrev pub iinc : (local by : ℕ) → Item
iinc local by = plain 0x84 (local ∷ by ∷ [])

abbrev pub i2l : Item
i2l = plain 0x85 []

abbrev pub lcmp : Item
lcmp = plain 0x94 []

abbrev pub ifne : ℕ → Item
ifne = jump 0x9a

abbrev pub if_icmpne : ℕ → Item
if_icmpne = jump 0xa0

abbrev pub if_icmplt : ℕ → Item
if_icmplt = jump 0xa1

abbrev pub if_icmpge : ℕ → Item
if_icmpge = jump 0xa2

abbrev pub if_icmple : ℕ → Item
if_icmple = jump 0xa4

abbrev pub if_acmpeq : ℕ → Item
if_acmpeq = jump 0xa5

abbrev pub if_acmpne : ℕ → Item
if_acmpne = jump 0xa6

abbrev pub jsr : ℕ → Item
jsr = jump 0xa8

abbrev pub tableswitch : (padding fallback low : ℕ) → (jumps : List ℕ) → Item
tableswitch padding fallback low jumps =
    plain 0xaa
    (replicate padding 0
    ++ (four_bytes fallback ++ (four_bytes low ++ (four_bytes (low + length jumps - 1) ++ flat_map four_bytes jumps))))

abbrev pub lookupswitch : (padding fallback : ℕ) → (pairs : List (ℕ × ℕ)) → Item
lookupswitch padding fallback pairs =
    plain 0xab
    (replicate padding 0
    ++ (four_bytes fallback
    ++ (four_bytes (length pairs) ++ flat_map (λ pair. four_bytes pair.0 ++ four_bytes pair.1) pairs)))

abbrev pub getstatic : ℕ → Item
getstatic reference = naming 0xb2 reference []

abbrev pub putstatic : ℕ → Item
putstatic reference = naming 0xb3 reference []

abbrev pub getfield : ℕ → Item
getfield reference = naming 0xb4 reference []

abbrev pub putfield : ℕ → Item
putfield reference = naming 0xb5 reference []

abbrev pub invokeinterface : (reference slots : ℕ) → Item
invokeinterface reference slots = naming 0xb9 reference (slots ∷ 0 ∷ [])

abbrev pub newarray : ℕ → Item
newarray kind = plain 0xbc (kind ∷ [])

abbrev pub anewarray : ℕ → Item
anewarray reference = naming 0xbd reference []

abbrev pub arraylength : Item
arraylength = plain 0xbe []

abbrev pub athrow : Item
athrow = plain 0xbf []

abbrev pub multianewarray : (reference dimensions : ℕ) → Item
multianewarray reference dimensions = naming 0xc5 reference (dimensions ∷ [])
