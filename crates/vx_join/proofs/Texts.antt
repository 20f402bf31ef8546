-- The texts that some configuration has, one piece more at a time.
use Rattle.std.proofs.Common.{◌≡◌, ◌≢◌, ℕ, Bool, true, false, List, [], ◌∷◌, ◌++◌, map, refl, sym, ◌∙◌, ap, subst, append_assoc, append-nil}
use Rattle.std.proofs.lemmas.List.{map-append}
use Rattle.std.specs.Prelude.{◌&&◌}
use Rattle.vx_space.specs.Sets.{Sets, IsLawful, IsSet, Extends}
use Rattle.vx_space.proofs.Spaces.{Extends-refl, Extends-trans, IsSet-extends}
use Rattle.vx_bdd_tools.specs.declared.node.Node.{Node}
use Rattle.vx_bdd_tools.specs.Nodes.{holds}
use Rattle.vx_findings.specs.declared.piece.Piece.{Piece}
use Rattle.vx_findings.specs.declared.shared.Shared.{Shared}
use Rattle.vx_report.specs.declared.report.Piece as lines
use Rattle.vx_join.specs.Joined.{Told, told_of}
use Rattle.vx_join.specs.Steps.{AreTold, IsToldBy}

pub AreTold-extends : {S I : Type 0} {old new : Sets I} → Extends old new → (found : List (Shared Piece S I)) (told : List Told) → AreTold old found told → AreTold new found told
AreTold-extends e found told AreTold.none = AreTold.none
AreTold-extends e found told (AreTold.kept shared rest t more h k) =
    AreTold.kept shared rest t more (record { stream = h.stream; text = h.text; set = IsSet-extends e shared.condition t.set h.set; some = λ q. h.some (q ∙ e.never) }) (AreTold-extends e rest more k)
AreTold-extends e found told (AreTold.dropped _ t more h k) = AreTold.dropped found t more h (AreTold-extends e found more k)

-- one text more
AreTold-keep : {S I : Type 0} {sets : Sets I} (found : List (Shared Piece S I)) (told : List Told) (shared : Shared Piece S I) (t : Told) → AreTold sets found told → IsToldBy sets shared t → AreTold sets (found ++ shared ∷ []) (told ++ t ∷ [])
AreTold-keep found told shared t AreTold.none h = AreTold.kept shared [] t [] h AreTold.none
AreTold-keep found told shared t (AreTold.kept x rest u more g k) h = AreTold.kept x (rest ++ shared ∷ []) u (more ++ t ∷ []) g (AreTold-keep rest more shared t k h)
AreTold-keep found told shared t (AreTold.dropped _ u more g k) h = AreTold.dropped (found ++ shared ∷ []) u (more ++ t ∷ []) g (AreTold-keep found more shared t k h)

AreTold-drop : {S I : Type 0} {sets : Sets I} (found : List (Shared Piece S I)) (told : List Told) (t : Told) → AreTold sets found told → ((c : List Bool) → t.set c ≡ false) → AreTold sets found (told ++ t ∷ [])
AreTold-drop found told t AreTold.none h = AreTold.dropped [] t [] h AreTold.none
AreTold-drop found told t (AreTold.kept x rest u more g k) h = AreTold.kept x rest u (more ++ t ∷ []) g (AreTold-drop rest more t k h)
AreTold-drop found told t (AreTold.dropped _ u more g k) h = AreTold.dropped found u (more ++ t ∷ []) g (AreTold-drop found more t k h)

-- a text that no configuration has is dropped
pub told_never : {S I : Type 0} {sets : Sets I} → IsLawful sets → (found : List (Shared Piece S I)) (told : List Told) (t : Told) (condition : I) → condition ≡ sets.never → IsSet sets condition t.set → AreTold sets found told → AreTold sets found (told ++ t ∷ [])
told_never {S} {I} {sets} lawful found told t condition never is h = AreTold-drop found told t h (λ c. sym (is.test c) ∙ ap (λ (id : I). sets.test id c) never ∙ lawful.never_test c)

-- any other is kept
pub told_some : {S I : Type 0} {sets : Sets I} (found after : List (Shared Piece S I)) (told : List Told) (shared : Shared Piece S I) (t : Told) → after ≡ found ++ shared ∷ [] → shared.value.stream ≡ t.stream → shared.value.text ≡ t.text → shared.condition ≢ sets.never → IsSet sets shared.condition t.set → AreTold sets found told → AreTold sets after (told ++ t ∷ [])
told_some {S} {I} {sets} found after told shared t grown stream text some is h =
    subst (λ (xs : List (Shared Piece S I)). AreTold sets xs (told ++ t ∷ [])) (sym grown) (AreTold-keep found told shared t h (record { stream = stream; text = text; set = is; some = some }))

-- ---- the loop

-- what stands after some pieces
pub record IsTelling {S I : Type 0} (start now : Sets I) (scope : I) (nodes : List Node) (before found : List (Shared Piece S I)) (done : List lines.Piece) : Type 0 where
  pub extends : Extends start now
  pub are : (told : List Told) → AreTold start before told → AreTold now found (told ++ map (told_of (start.test scope) nodes) done)

pub IsTelling-start : {S I : Type 0} (s : Sets I) (scope : I) (nodes : List Node) (before : List (Shared Piece S I)) → IsTelling s s scope nodes before before []
IsTelling-start {S} {I} s scope nodes before = record {
  extends = Extends-refl s;
  are = λ told h. subst (λ (ts : List Told). AreTold s before ts) (sym (append-nil told)) h;
}

pub IsTelling-step : {S I : Type 0} {start now s1 : Sets I} (scope set condition : I) (nodes : List Node) (before found after : List (Shared Piece S I)) (done more : List lines.Piece) (x : lines.Piece)
    → more ≡ done ++ x ∷ [] → start.is_known scope ≡ true → IsTelling start now scope nodes before found done → Extends now s1 → IsSet now set (holds nodes x.node) → IsSet s1 condition (λ c. now.test scope c && now.test set c)
    → ((test : List Bool → Bool) (told : List Told) → IsSet s1 condition test → AreTold s1 found told → AreTold s1 after (told ++ record { stream = x.stream; text = x.text; set = test } ∷ []))
    → IsTelling start s1 scope nodes before after more
IsTelling-step {S} {I} {start} {now} {s1} scope set condition nodes before found after done more x grown known p e set_is condition_is put =
    let line : lines.Piece → Told = told_of (start.test scope) nodes in
    let is : IsSet s1 condition (λ c. start.test scope c && holds nodes x.node c) = record {
      known = condition_is.known;
      test = λ c. condition_is.test c ∙ ap (λ b. b && now.test set c) (p.extends.test scope c known) ∙ ap (λ b. start.test scope c && b) (set_is.test c);
    } in
    record {
      extends = Extends-trans p.extends e;
      are = λ told h.
          let made = put (λ c. start.test scope c && holds nodes x.node c) (told ++ map line done) is (AreTold-extends e found (told ++ map line done) (p.are told h)) in
          let same : (told ++ map line done) ++ line x ∷ [] ≡ told ++ map line more = append_assoc told (map line done) (line x ∷ []) ∙ ap (λ ts. told ++ ts) (sym (map-append line done (x ∷ []))) ∙ ap (λ xs. told ++ map line xs) (sym grown) in
          subst (λ (ts : List Told). AreTold s1 after ts) same made;
    }
