-- Texts by their numbers, and the texts of booleans.
use Rattle.std.proofs.Common.{◌≡◌, ℕ, ◌<◌, List, ap, length}
use Rattle.std.proofs.lemmas.Bool.Decides.{Decides-eqb, same_from_decides}
use Rattle.std.proofs.lemmas.Slice.Eq.{bytes_eq-Decides}
use Rattle.std.specs.Bool.{Decides}
use Rattle.std.specs.Prelude.{bytes_eq, ◌==◌}
use Rattle.vx_value.specs.Texts.{AreDistinct, text_at}

-- numbers are equal exactly where their texts are
pub numbers_tell : (texts : List (List ℕ)) → AreDistinct texts → (a b : ℕ) → a < length texts → b < length texts → (a == b) ≡ bytes_eq (text_at texts a) (text_at texts b)
numbers_tell texts distinct a b l k =
    let numbers : Decides (a == b) (text_at texts a ≡ text_at texts b) = (λ e. ap (text_at texts) ((Decides-eqb a b).0 e), λ e. (Decides-eqb a b).1 (distinct a b l k e)) in
    same_from_decides (a == b) (bytes_eq (text_at texts a) (text_at texts b)) numbers (bytes_eq-Decides (text_at texts a) (text_at texts b))
