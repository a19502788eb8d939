use Rattle.std.proofs.lemmas.List.{get_or_default}
use Rattle.ccan_object.proofs.packing.content_word.Goals as goal

pub returns-clause-bytes : goal.returns-clause-bytes
returns-clause-bytes c = λ k d within. rw (get_or_default c.args.bytes.now k d 0 within) (c.fits-bytes k)
