-- Lists to which parts of a whole are appended, and that are cut back to what they held.
use Rattle.std.proofs.Common.{List, ap, arith, length, length-append, sym, take, ℕ, ◌++◌, ◌∙◌, ◌≡◌, ◌≤◌}
use Rattle.std.proofs.lemmas.List.{take-append-le, take_at}

-- a list that is cut back, where it is known what all is once the rest is appended too
pub cut_back_before : {A : Type 0} (old now mid new rest all : List A) (held : ℕ) → new ≡ take held mid → mid ≡ now → now ++ rest ≡ old ++ all → length old ≡ held → held ≤ length now → new ≡ old
cut_back_before old now mid new rest all held cut same is count within = cut ∙ ap (take held) same ∙ sym (take-append-le held now rest within) ∙ ap (take held) is ∙ take_at old all held count

-- a list stays as long when something is appended
pub held_behind : {A : Type 0} (now new rest : List A) (held : ℕ) → new ≡ now ++ rest → held ≤ length now → held ≤ length new
held_behind now new rest held is within = omega (arith, within, ap length is, length-append now rest)
