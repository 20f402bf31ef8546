-- Texts of the pool: modified UTF-8 (JVMS 4.4.7).
use Rattle.std.specs.Prelude.{ℕ, List, [], ◌∷◌, Bool, true, nat_le, ◌==◌, ◌&&◌, ◌||◌, if◌then◌else◌}

-- U+0001 to U+007F
abbrev pub is_one : ℕ → Bool
is_one a = nat_le 1 a && nat_le a 127

abbrev pub is_tail : ℕ → Bool
is_tail b = nat_le 128 b && nat_le b 191

-- U+0000 and U+0080 to U+07FF
abbrev pub is_two : ℕ → ℕ → Bool
is_two a b = (a == 192 && b == 128) || (nat_le 194 a && nat_le a 223 && is_tail b)

-- the other units of UTF-16
abbrev pub is_three : ℕ → ℕ → ℕ → Bool
is_three a b c = ((a == 224 && nat_le 160 b) || (nat_le 225 a && nat_le a 239)) && is_tail b && is_tail c

-- units one after the other
abbrev pub is_text : List ℕ → Bool
is_text [] = true
is_text (a ∷ []) = is_one a
is_text (a ∷ b ∷ []) = if is_one a then is_one b else is_two a b
is_text (a ∷ b ∷ c ∷ rest) = if is_one a then is_text (b ∷ c ∷ rest) else if is_two a b then is_text (c ∷ rest) else is_three a b c && is_text rest
