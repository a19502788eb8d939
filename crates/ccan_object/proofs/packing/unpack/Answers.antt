use Rattle.std.proofs.Common.{◌≡◌, length, ap, sym, ◌∙◌, Some, rules}
use Rattle.ccan_object.specs.Packing.{packed}
use Rattle.ccan_object.proofs.Words.{packed-unpacked, unpacked-packed, three}
use Rattle.ccan_object.proofs.packing.unpack.Goals as goal

pub returns-clause-packs : goal.returns-clause-packs
returns-clause-packs c =
    let words : length c.args.words ≡ 3 = search rules in
    ap packed c.unpacked.ensures
    ∙ (packed-unpacked _ _ _ c.element_fits.fits c.if-control.false c.element_fits3.fits
    (sym c.bit.ensures ∙ c.if-bit.false) (sym c.part.ensures.value ∙ c.if-part-ne0.false)
    ∙ three c.args.words words)

pub returns-clause-every : goal.returns-clause-every
returns-clause-every c = λ object is packs.
    let words : length c.args.words ≡ 3 = search rules in
    ap Some (c.unpacked.ensures ∙ unpacked-packed object _ _ _ is (packs ∙ sym (three c.args.words words)))
