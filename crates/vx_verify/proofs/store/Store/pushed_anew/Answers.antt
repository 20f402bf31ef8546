use Rattle.std.proofs.Common.{ap, refl, ◌∙◌, ◌∷◌, ◌≡◌}
use Rattle.std.proofs.lemmas.Result.{IfOk-weaker}
use Rattle.vx_numbered.specs.declared.chains.Link.{Link}
use Rattle.vx_types.specs.declared.types.VerType.{VerType}
use Rattle.vx_verify.proofs.PutLaws.{has_pushed, pushed_words}
use Rattle.vx_verify.specs.Joining.{words_with}
use Rattle.vx_verify.specs.States.{operands_at, type_at, words_of}
use Rattle.vx_verify.proofs.store.Store.pushed_anew.Goals as goal

pub returns-clause-ok : goal.returns-clause-ok
returns-clause-ok c =
    let s = c.args.self.now in
    let link : Link = record { top = c.args.top; under = c.args.under; words = c.words_with-words.result } in
    let words : c.words_with-words.result ≡ words_of (type_at s c.args.top ∷ operands_at s c.args.under) =
    c.words_with-words.ensures
    ∙ ap (λ (t : VerType). words_with t c.words-below.result) c.type_at-item.ensures
    ∙ ap (words_with (type_at s c.args.top)) c.words-below.ensures
    ∙ pushed_words s c.args.top c.args.under c.requires.store c.requires.under in
    IfOk-weaker c.pushed.result _ _ (λ stack h. has_pushed s _ link stack c.requires.store refl refl h c.requires.top c.requires.under words) c.pushed.ensures.ok
