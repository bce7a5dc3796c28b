use Rattle.cut_enum.proofs.Lemmas.{◌<◌, ◌^◌, ℕ, List, length, get_or, arith, subst, AllHave, NoneClear, none_clear, none_have}
use Rattle.cut_enum.proofs.signed.has_grouped_part.Goals as goal

pub returns-then-outside-shared-ne0 : goal.returns-then-outside-shared-ne0
returns-then-outside-shared-ne0 c =
    none_have c.args.cut.now c.args.outside c.args.shared c.requires.outside (omega arith) c.if-outside-shared-ne0.true c.args.cuts.now (subst (λ words. AllHave c.args.shared words) c.requires.signed c.requires.shared)

pub returns-then-not-is_one_clear : goal.returns-then-not-is_one_clear
returns-then-not-is_one_clear c =
    none_clear c.args.cut.now c.args.outside c.requires.outside c.args.cuts.now
    (subst (λ (words : List ℕ). (i : ℕ) → i < length words → get_or words i 0 < 2 ^ 64) c.requires.signed (λ i l. (c.type_inv.signatures i).fits))
    (subst (λ words. NoneClear c.args.outside words) c.requires.signed (c.is_one_clear.ensures.none c.if-not-is_one_clear.true))
