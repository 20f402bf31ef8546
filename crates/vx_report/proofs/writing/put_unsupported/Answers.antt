use Rattle.std.proofs.Common.{◌∙◌, codes}
use Rattle.vx_report.proofs.Numbered.{two_words}
use Rattle.vx_report.proofs.writing.put_unsupported.Goals as goal
use Rattle.vx_value.specs.Words.{word_of}

pub returns-clause-ok : goal.returns-clause-ok
returns-clause-ok c =
    let what = rw (← c.in_ok-or_cut_back.ensures.same) at c.put_with_word.ensures.ok in
    let place = rw (← c.in_ok-or_cut_back-2.ensures.same) at c.put_with_word-2.ensures.ok in
    two_words c.args.out.now.items (codes "unsupported ") c.args.kind.now (word_of c.args.what.now) (word_of c.args.place.now) _ _ _
    c.in_ok-put_both.ensures.ok (c.in_ok-or_cut_back.ensures.ok ∙ what) (c.in_ok-or_cut_back-2.ensures.ok ∙ place)
