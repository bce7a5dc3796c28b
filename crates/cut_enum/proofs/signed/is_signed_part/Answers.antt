use Rattle.cut_enum.proofs.Common.{◌<◌, ◌^◌, arith, subst, outside-subset}
use Rattle.cut_enum.proofs.signed.is_signed_part.Goals as goal

pub returns-then-outside-signature-ne0 : goal.returns-then-outside-signature-ne0
returns-then-outside-signature-ne0 c =
    outside-subset c.args.cut.now c.args.whole.now c.args.outside c.requires.outside (subst (λ m. m < 2 ^ 64) c.requires.signature (omega arith)) (rw (c.requires.signature) at c.if-outside-signature-ne0.true)
