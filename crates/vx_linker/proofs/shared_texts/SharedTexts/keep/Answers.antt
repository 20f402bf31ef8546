use Rattle.vx_linker.proofs.Texts.{kept}
use Rattle.vx_linker.proofs.shared_texts.SharedTexts.keep.Goals as goal

pub returns-then-place-len : goal.returns-then-place-len
returns-then-place-len c = kept c.args.pool.now c.args.self.now.known.items c.args.index c.args.text c.requires.texts c.requires.text
